use Rattle.std.proofs.Common.{◌≡◌, take, true, string_bytes}
use Rattle.std.specs.Prelude.{flat_map}
use Rattle.std.specs.List.{list_all}
use Rattle.hints.specs.Escaping.{escaped_byte, is_printable}
use Rattle.hints.proofs.escapes.escape.Given as goal

-- The bytes so far are shown.
abbrev pub invariant-loop-byte : goal.invariant-loop-byte
invariant-loop-byte l = record {
  text : string_bytes l.shown ≡ flat_map escaped_byte (take l.byte-index l.bytes);
  printable : list_all is_printable (string_bytes l.shown) ≡ true;
}
