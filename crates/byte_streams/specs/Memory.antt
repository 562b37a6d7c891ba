-- What contracts see of a sink over a vector and a source over a slice.
use Rattle.std.specs.Prelude.{ℕ, ◌-◌, List, Some, vec_len, vec_capacity}
use Rattle.byte_streams.specs.declared.memory.VecSink.{VecSink}
use Rattle.byte_streams.specs.declared.memory.SliceSource.{SliceSource}
use Rattle.byte_streams.specs.Streams.{SinkState, SourceState}

-- The bytes in the sink's vector: those that it began with, and those that the sink took.
abbrev pub vec_sink_bytes : VecSink → List ℕ
vec_sink_bytes sink = sink.bytes.items

abbrev pub vec_sink_failures : VecSink → ℕ
vec_sink_failures sink = sink.failures

-- How many more bytes the sink can take before its vector must grow.
abbrev pub vec_sink_room : VecSink → ℕ
vec_sink_room sink = vec_capacity sink.bytes - vec_len sink.bytes

abbrev pub vec_sink_state : VecSink → SinkState
vec_sink_state sink = record { taken = Some (vec_sink_bytes sink); failures = vec_sink_failures sink }

-- The remaining bytes of the source.
abbrev pub slice_source_rest : SliceSource → List ℕ
slice_source_rest source = source.rest.now

-- This source tells its bytes, and never fails.
abbrev pub slice_source_state : SliceSource → SourceState
slice_source_state source = record { remaining = Some (slice_source_rest source); failures = 0 }
