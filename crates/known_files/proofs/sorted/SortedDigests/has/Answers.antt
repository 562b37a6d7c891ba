use Rattle.std.proofs.Common.{ap, ◌∙◌}
use Rattle.std.specs.Prelude.{bytes_eq}
use Rattle.std.specs.List.{list_any}
use Rattle.known_files.proofs.SortedLaws.{found_sorted}
use Rattle.known_files.proofs.sorted.SortedDigests.has.Goals as goal

pub returns : goal.returns
returns g c =
    c.is_ok.ensures.value
    ∙ found_sorted c.deref.result.now c.args.digest.now c.binary_search.result (rw c.deref.ensures.value c.self.invariant)
    c.binary_search.ensures.position c.binary_search.ensures.bound
    ∙ ap (list_any (bytes_eq c.args.digest.now)) (c.deref.ensures.value ∙ c.self.view_is)
