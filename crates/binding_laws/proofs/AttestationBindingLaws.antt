-- What an attestation tells of a log and a list.
use Rattle.std.proofs.Common.{rules, ◌≡◌, ℕ, ◌<◌, Bool, true, false, cond, eqb, nat_lt, ◌&&◌, ◌-◌, List, [], ◌∷◌, length, Option, Some, None, refl, sym, ap, subst, ◌∙◌, arith, inl, inr}
use Rattle.std.specs.Prelude.{◌⊎◌, IfSome, IsSome, filter, option_map}
use Rattle.std.specs.List.{AllByRecursion}
use Rattle.std.proofs.lemmas.Bool.{ne_eqb}
use Rattle.std.proofs.lemmas.Bool.Decides.{eqb_tells}
use Rattle.pcr_banks.specs.declared.alg.Alg.{Alg}
use Rattle.pcr_banks.specs.declared.sets.AlgSet.{AlgSet}
use Rattle.pcr_banks.specs.Names.{extended_by_all, has_alg, register_count, reset_value, size_of}
use Rattle.binding_laws.proofs.BankBindingLaws.{reset_size, value_size}
use Rattle.boot_log.specs.Names.{LogEvent, algs_in, digests_for, firmware_value, is_extended_into, startup_locality}
use Rattle.binding_laws.proofs.LogBindingLaws.{alike_or_broken}
use Rattle.ima_list.specs.Names.{ListEntry, digests_of}
use Rattle.binding_laws.specs.ListBinding.{entries_of}
use Rattle.binding_laws.proofs.ListBindingLaws.{same_or_broken_replays}
use Rattle.boot_verdict.specs.Names.{list_register, pcr_after_log_and_list}
use Rattle.tpm_quotes.specs.Spelling.{TpmQuote, selects}
use Rattle.tpm_quotes.specs.Quoting.{confirms}
use Rattle.binding_laws.specs.QuoteBinding.{HaveSizes}
use Rattle.tpm_quotes.proofs.QuoteLaws.{one_reading}
use Rattle.binding_laws.proofs.QuoteBindingLaws.{tells}
use Rattle.binding_laws.specs.AttestationBinding.{BreakHash, ExtendRegisterAlike, TwoAttestations, values_of}

-- ---- sizes

chosen_value_size : (alg : Alg) (b : Bool) (value : List ℕ) (digests : List (List ℕ)) → length value ≡ size_of alg
    → IfSome (option_map (λ v. extended_by_all alg v digests) (cond b (Some value) None)) (λ v. length v ≡ size_of alg)
chosen_value_size alg true value digests size = value_size alg value digests size
chosen_value_size alg false value digests size = tt

sizes : (algs : AlgSet) (events : List LogEvent) (entries : List ListEntry) → HaveSizes (pcr_after_log_and_list algs events entries)
sizes algs events entries alg register =
    chosen_value_size alg (has_alg algs alg && nat_lt register register_count) (firmware_value events alg register) (digests_of entries alg register)
    (value_size alg (reset_value alg register (startup_locality events)) (digests_for alg register events)
    (reset_size alg register (startup_locality events)))

-- ---- a value by the log alone, or by the list alone

abbrev the_value : List ℕ → Option (List ℕ)
the_value value = Some value

value_is : (v w : List ℕ) → the_value v ≡ the_value w → v ≡ w
value_is v w e = cc

same_extends : (alg : Alg) (b c : Bool) (value other : List ℕ) (digests others : List (List ℕ))
    → option_map (λ v. extended_by_all alg v digests) (cond b (Some value) None) ≡ option_map (λ v. extended_by_all alg v others) (cond c (Some other) None)
    → IsSome (option_map (λ v. extended_by_all alg v digests) (cond b (Some value) None))
    → extended_by_all alg value digests ≡ extended_by_all alg other others
same_extends alg true true value other digests others e some = value_is _ _ e
same_extends alg true false value other digests others e some = absurd cc
same_extends alg false c value other digests others e some = absurd cc

none_of_log : (events : List LogEvent) → AllByRecursion (λ event. is_extended_into list_register event ≡ false) events
    → filter (is_extended_into list_register) events ≡ []
none_of_log [] apart = refl
none_of_log (event ∷ events) apart = rw apart.0 (none_of_log events apart.1)

none_of_list : (entries : List ListEntry) (register : ℕ) → (register ≡ list_register → ⊥)
    → AllByRecursion (λ entry. entry.register ≡ list_register) entries → entries_of entries register ≡ []
none_of_list [] register other apart = refl
none_of_list (entry ∷ entries) register other apart =
    let differs : eqb entry.register register ≡ false = ne_eqb entry.register register (λ same. other (sym same ∙ apart.0)) in
    rw differs (none_of_list entries register other apart.1)

module _ (alg : Alg) (message : List ℕ) (both : TwoAttestations message) where
  abbrev same_value : ℕ → Type 0
  same_value register =
      extended_by_all alg (firmware_value both.one.events alg register) (digests_of both.one.entries alg register)
      ≡ extended_by_all alg (firmware_value both.two.events alg register) (digests_of both.two.entries alg register)

  by_list : same_value list_register → ExtendRegisterAlike alg list_register message both ⊎ BreakHash alg list_register message both
  by_list same =
      let none = none_of_log both.one.events both.one.log_apart in
      let other_none = none_of_log both.two.events both.two.log_apart in
      let first : firmware_value both.one.events alg list_register ≡ reset_value alg list_register 0 = rw none refl in
      let second : firmware_value both.two.events alg list_register ≡ reset_value alg list_register 0 = rw other_none refl in
      let replays : extended_by_all alg (reset_value alg list_register 0) (digests_of both.one.entries alg list_register)
      ≡ extended_by_all alg (reset_value alg list_register 0) (digests_of both.two.entries alg list_register) =
      ap (λ (v : List ℕ). extended_by_all alg v (digests_of both.one.entries alg list_register)) (sym first) ∙ same
      ∙ ap (λ (v : List ℕ). extended_by_all alg v (digests_of both.two.entries alg list_register)) second in
      elim (same_or_broken_replays alg list_register (reset_value alg list_register 0) both.one.entries both.two.entries
      (reset_size alg list_register 0) replays) [
        | inl alike ↦ inl (record {
          logs = record { locality = λ zero. absurd (omega (arith, zero)); digests = rw (none, other_none) refl };
          lists = alike;
        })
        | inr broken ↦ inr (inr (inl (refl, broken)))
      ]

  by_log : (register : ℕ) → (register ≡ list_register → ⊥) → same_value register
      → ExtendRegisterAlike alg register message both ⊎ BreakHash alg register message both
  by_log register other same =
      let none = none_of_list both.one.entries register other both.one.list_apart in
      let other_none = none_of_list both.two.entries register other both.two.list_apart in
      let values : firmware_value both.one.events alg register ≡ firmware_value both.two.events alg register =
      rw (none, other_none) at same in
      elim (alike_or_broken alg register both.one.events both.two.events values) [
        | inl alike ↦ inl (record { logs = alike; lists = rw (none, other_none) refl })
        | inr broken ↦ inr (inr (inr (other, broken)))
      ]

  pub attested_alike : (register : ℕ) → register < register_count → selects both.one.quote.selections alg register ≡ true
      → ExtendRegisterAlike alg register message both ⊎ BreakHash alg register message both
  attested_alike register lt chosen =
      let one = both.one in
      let two = both.two in
      let same : two.quote ≡ one.quote = one_reading message two.quote one.quote two.message_is one.message_is in
      let confirmed = subst (λ (q : TpmQuote). confirms q (values_of two) ≡ true) same two.confirmed in
      elim (tells one.quote (values_of one) (values_of two) (sizes (algs_in one.table) one.events one.entries)
      (sizes (algs_in two.table) two.events two.entries) one.confirmed confirmed) [
        | inl agree ↦
            let here = agree alg register lt chosen in
            let values = same_extends alg (has_alg (algs_in one.table) alg && nat_lt register register_count)
            (has_alg (algs_in two.table) alg && nat_lt register register_count) (firmware_value one.events alg register)
            (firmware_value two.events alg register) (digests_of one.entries alg register) (digests_of two.entries alg register) here.0 here.1 in
            elim (eqb_tells register list_register) [
              | inl is_list ↦
                  let Q : ℕ → Type 0 = λ r. ExtendRegisterAlike alg r message both ⊎ BreakHash alg r message both in
                  let V : ℕ → Type 0 = same_value in
                  subst Q (sym is_list.1) (by_list (subst V is_list.1 values))
              | inr other ↦ by_log register other.1 values
            ]
        | inr collide ↦ inr (inl collide)
      ]
