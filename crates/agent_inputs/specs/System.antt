-- What the program's sources read and its sinks write to.
use Rattle.std.specs.Prelude.{ℕ, Bool, true, false, List, Option, None}
use Rattle.byte_streams.specs.Streams.{SinkState, SourceState}
use Rattle.agent_inputs.specs.declared.system.OpenInput.{OpenInput}
use Rattle.agent_inputs.specs.declared.system.OpenInput.TheVariants.{File, StandardInput}
use Rattle.agent_inputs.specs.declared.system.ReadSource.{ReadSource}
use Rattle.agent_inputs.specs.declared.system.SystemFiles.{SystemFiles}
use Rattle.agent_inputs.specs.declared.system.WriteSink.{WriteSink}

-- The reader that a source reads.
abbrev pub reader_of : {R : Type 0} → ReadSource R → R
reader_of source = source.reader

-- A source's bytes are not known; it counts its failures.
abbrev pub read_source_state : {R : Type 0} → ReadSource R → SourceState
read_source_state source = record { remaining = None; failures = source.failures }

-- The writer that a sink writes to.
abbrev pub writer_of : {W : Type 0} → WriteSink W → W
writer_of sink = sink.writer

-- A sink's bytes are not known; it counts its failures.
abbrev pub write_sink_state : {W : Type 0} → WriteSink W → SinkState
write_sink_state sink = record { taken = None; failures = sink.failures }

-- The runtime whose files and standard input these are.
abbrev pub runtime_of : {R : Type 0} → SystemFiles R → R
runtime_of files = files.runtime.now

-- Whether the bytes come from a file rather than standard input.
abbrev pub is_file : {F I : Type 0} → OpenInput F I → Bool
is_file (File file) = true
is_file (StandardInput input) = false

-- The remaining bytes, if those of the file or of the standard input are known.
abbrev pub remaining_bytes : {F I : Type 0} → (F → Option (List ℕ)) → (I → Option (List ℕ)) → OpenInput F I → Option (List ℕ)
remaining_bytes of_file of_input (File file) = of_file file
remaining_bytes of_file of_input (StandardInput input) = of_input input
