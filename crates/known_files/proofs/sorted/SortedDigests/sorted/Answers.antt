use Rattle.std.proofs.Common.{sym, ap, ◌∙◌}
use Rattle.std.specs.List.{list_any}
use Rattle.std.proofs.lemmas.List.Sorted.{list_any-IsPermutation}
use Rattle.known_files.proofs.sorted.SortedDigests.sorted.Goals as goal

pub returns : goal.returns
returns g c = λ test.
    ap (list_any test) c.shrink_to_fit.ensures.items ∙ sym (list_any-IsPermutation test _ _ c.sort_unstable.ensures.permutation)
