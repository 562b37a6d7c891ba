use Rattle.std.proofs.Common.{◌≡◌, map}
use Rattle.judging.specs.Requests.{location_of}
use Rattle.judging.proofs.KnownLaws.{HasListed}
use Rattle.judging.proofs.inputs.known_in.Given as goal

abbrev pub invariant-loop-index : goal.invariant-loop-index
invariant-loop-index g l = record {
  inputs : g.F.Files.inputs l.files ≡ g.F.Files.inputs l.fn.files;
  replaced : g.F.Files.replaced l.files ≡ g.F.Files.replaced l.fn.files;
  listed : HasListed (g.F.Files.inputs l.fn.files) (map location_of l.inputs) l.index l.listed;
}
