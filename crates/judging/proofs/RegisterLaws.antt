-- The registers of a list from the source of an input.
use Rattle.std.proofs.Common.{◌≡◌, ℕ, List, refl, sym, ◌∙◌}
use Rattle.pcr_banks.specs.declared.alg.Alg.{Alg}
use Rattle.pcr_banks.specs.declared.banks.Banks.{Banks}
use Rattle.ima_list.specs.Names.{IsReplayed, ListEntry, replayed_value}
use Rattle.boot_verdict.specs.Names.{IsListStart}

same_values : (first second : Banks) (entries : List ListEntry) → IsListStart first → IsListStart second → (a : Alg) (r : ℕ)
    → replayed_value first entries a r ≡ replayed_value second entries a r
same_values first second entries one other a r = rw (one.values a r, other.values a r) refl

-- All registers before a list have the same values.
pub starts_alike : (first second now : Banks) (entries : List ListEntry) → IsListStart first → IsListStart second
    → IsReplayed first entries now → IsReplayed second entries now
starts_alike first second now entries one other replayed = record {
  active = λ a. replayed.active a ∙ one.active a ∙ sym (other.active a);
  values = λ a r. replayed.values a r ∙ same_values first second entries one other a r;
}
