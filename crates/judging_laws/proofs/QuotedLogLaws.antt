-- A list that extends its own register alone leaves the others as they were.
use Rattle.std.proofs.Common.{◌≡◌, ℕ, eqb, false, List, [], ◌∷◌, Option, None, Some, refl, sym, ◌∙◌}
use Rattle.std.specs.List.{AllByRecursion}
use Rattle.std.specs.Prelude.{option_map}
use Rattle.std.proofs.lemmas.Bool.{ne_eqb}
use Rattle.pcr_banks.specs.declared.alg.Alg.{Alg}
use Rattle.pcr_banks.specs.declared.sets.AlgSet.{AlgSet}
use Rattle.pcr_banks.specs.Names.{extended_by_all}
use Rattle.boot_log.specs.Names.{LogEvent}
use Rattle.ima_list.specs.Names.{ListEntry, digests_of}
use Rattle.boot_verdict.specs.Names.{list_register, pcr_after_log, pcr_after_log_and_list}

none_of_list : (entries : List ListEntry) (alg : Alg) (register : ℕ) → (register ≡ list_register → ⊥)
    → AllByRecursion (λ entry. entry.register ≡ list_register) entries → digests_of entries alg register ≡ []
none_of_list [] alg register other apart = refl
none_of_list (entry ∷ entries) alg register other apart =
    let differs : eqb entry.register register ≡ false = ne_eqb entry.register register (λ same. other (sym same ∙ apart.0)) in
    rw differs (none_of_list entries alg register other apart.1)

as_it_was : (alg : Alg) (value : Option (List ℕ)) → option_map (λ value. extended_by_all alg value []) value ≡ value
as_it_was alg None = refl
as_it_was alg (Some value) = refl

pub after_log : (algs : AlgSet) (events : List LogEvent) (entries : List ListEntry) (alg : Alg) (register : ℕ)
    → AllByRecursion (λ entry. entry.register ≡ list_register) entries → (register ≡ list_register → ⊥)
    → pcr_after_log_and_list algs events entries alg register ≡ pcr_after_log algs events alg register
after_log algs events entries alg register apart other =
    rw (none_of_list entries alg register other apart) (as_it_was alg (pcr_after_log algs events alg register))
