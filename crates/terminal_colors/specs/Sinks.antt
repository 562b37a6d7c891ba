-- What contracts see of a sink that colours.
use Rattle.std.specs.Prelude.{Bool, if◌then◌else◌, None}
use Rattle.byte_streams.specs.Streams.{SinkState}
use Rattle.terminal_colors.specs.declared.color_sink.ColorSink.{ColorSink}

-- The other sink, and whether what it is sent has colours.
abbrev pub inner_of : {S : Type 0} → ColorSink S → S
inner_of sink = sink.inner

abbrev pub colors_of : {S : Type 0} → ColorSink S → Bool
colors_of sink = sink.colors

-- The bytes are those of the other sink, but not known if these have colours; the failures are those of the other sink.
abbrev pub color_sink_state : {S : Type 0} → (S → SinkState) → ColorSink S → SinkState
color_sink_state state sink = record {
  taken = if sink.colors then None else (state sink.inner).taken;
  failures = (state sink.inner).failures;
}
