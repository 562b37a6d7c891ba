-- Checkpoints: where the lines of their texts are cut, what they state, and that the same data have the same text.
use Rattle.std.proofs.Common.{rules, ◌≡◌, ℕ, ◌+◌, ◌*◌, ◌^◌, ◌<◌, eqb, ltb, cond, Bool, true, false, List, [], ◌∷◌, ◌++◌, length, drop, slice_index, get_or, decimal, codes, Result, Ok, Err, Option, None, Some, refl, sym, ap, subst, ◌∙◌, inl, inr, arith, append_assoc, append-nil}
use Rattle.std.specs.Prelude.{◌&&◌, IfOk, IfSome, IsSome, IsTrue, flat_map, if◌then◌else◌, is_some, option_map}
use Rattle.std.specs.List.{AllPass}
use Rattle.std.specs.Option.{IsSomeAnd}
use Rattle.std.specs.Str.Iter.{LacksByte}
use Rattle.std.proofs.lemmas.Bool.{cases_Bool, both_ways, eqb-true}
use Rattle.std.proofs.lemmas.Bool.Decides.{nat_tests}
use Rattle.std.proofs.lemmas.Fmt.{decimal_digit}
use Rattle.std.proofs.Math.ListN.{drop_of_length-le}
use Rattle.std.proofs.lemmas.List.{append_cancel_left, at_drop_more}
use Rattle.std.proofs.lemmas.List.Concat.{flat_map-cons}
use Rattle.hex.specs.Hex.{decode_of, encode_lower, is_hex_digit}
use Rattle.hex.proofs.HexLemmas.{decode_of-encode_lower, decode_of-ok, decode_of-same}
use Rattle.pcr_banks.specs.declared.alg.Alg.{Alg}
use Rattle.pcr_banks.specs.declared.alg.Alg.TheVariants.{Sha1, Sha256, Sha384, Sha512}
use Rattle.pcr_banks.specs.declared.banks.Banks.{Banks}
use Rattle.pcr_banks.specs.declared.digest.Digest.{Digest}
use Rattle.pcr_banks.specs.Names.{IsReset, alg_of, all_algs, bank_of, bytes_of, digest_of, has_alg, is_active, name_of, register_count, reset_value, same_alg, size_of, value_at}
use Rattle.pcr_banks.proofs.AlgLaws.{every_alg, same_alg_is}
use Rattle.pcr_banks.proofs.BankLaws.{active_bank}
use Rattle.pcr_banks.proofs.SetLaws.{bytes_again, has_where}
use Rattle.pcr_values.specs.declared.expected.Expected.{Expected}
use Rattle.pcr_values.specs.Names.{IsRegisterLine, IsSplitOnce, all_registers, change_line, register_line}
use Rattle.pcr_values.proofs.ExpectedLaws.{Lacks, lacks_from, not_lacked, one_cut, one_line}
use Rattle.pcr_values.proofs.RegisterLaws as registers
use Rattle.pcr_values.proofs.WrittenLaws.{IsProper, body, body_shown, body_spells, decimal_above, encoded_above, lacks_feed, line_is, shown, shown_join}
use Rattle.pcr_values.proofs.ExpectedLaws as names
use Rattle.pcr_values.proofs.SelectionLaws as colons
use Rattle.pcr_values.proofs.StatedLaws.{same_digest}
use Rattle.boot_verdict.specs.declared.checkpoint.Checkpoint.{Checkpoint}
use Rattle.boot_verdict.specs.declared.isolation.Stray.{Stray}
use Rattle.growing_lists.specs.CheckpointData.{HaveValues, IsBoot, IsHash, IsSameState, IsStrayOf, SameData, SameValues}
use Rattle.growing_lists.specs.declared.saved_state.Boot.{Boot}
use Rattle.growing_lists.specs.declared.saved_state.SavedState.{SavedState}
use Rattle.growing_lists.specs.CheckpointTexts.{IsOfOtherVersion, bank_lines, banks_lines, boot_lines, checkpoint_text, checkpoint_body, data_lines, state_lines, number_line, seal_line, recorded_line, recorded_words, stray_entry, stray_lines, stray_register, told_line, value_line}
use Rattle.boot_verdict.specs.Replays as replays
use Rattle.growing_lists.specs.parts.CheckpointParts.{HasBank, Sets, TakesBank, TakesSome}
use Rattle.pcr_banks.proofs.AlgLaws as algs

-- ---- lines

word_first : (word line rest : List ℕ) → (word ++ (line ++ 10 ∷ [])) ++ rest ≡ word ++ (line ++ 10 ∷ rest)
word_first word line rest =
    append_assoc word (line ++ 10 ∷ []) rest ∙ ap (λ (l : List ℕ). word ++ l) (append_assoc line (10 ∷ []) rest)

-- What follows a word is a line and the rest.
after_word : (word line rest text left : List ℕ) → text ≡ (word ++ (line ++ 10 ∷ [])) ++ rest → text ≡ word ++ left → left ≡ line ++ 10 ∷ rest
after_word word line rest text left is found =
    append_cancel_left word left (line ++ 10 ∷ rest) (sym found ∙ is ∙ word_first word line rest)

-- The line after a word is cut where it ends.
pub cut_line : (word line rest text left prefix after : List ℕ) → Lacks 10 line → text ≡ (word ++ (line ++ 10 ∷ [])) ++ rest
    → text ≡ word ++ left → IsSplitOnce 10 left prefix after → (prefix ≡ line) × (after ≡ rest)
cut_line word line rest text left prefix after lacks is found cut =
    one_cut 10 prefix line after rest (lacks_from 10 prefix cut.lacks) lacks (sym cut.parts ∙ after_word word line rest text left is found)

pub has_line : (word line rest text left : List ℕ) → text ≡ (word ++ (line ++ 10 ∷ [])) ++ rest → text ≡ word ++ left → LacksByte 10 left → ⊥
has_line word line rest text left is found lacks =
    let whole : Lacks 10 (line ++ 10 ∷ rest) = subst (λ (l : List ℕ). Lacks 10 l) (after_word word line rest text left is found) (lacks_from 10 left lacks) in
    not_lacked 10 line rest whole

pub has_word : (word line rest text : List ℕ) → text ≡ (word ++ line) ++ rest → ((more : List ℕ) → text ≡ word ++ more → ⊥) → ⊥
has_word word line rest text is none = none (line ++ rest) (is ∙ append_assoc word line rest)

pub number_lacks : (n : ℕ) → n < 2 ^ 64 → Lacks 10 (decimal n)
number_lacks n small = lacks_feed (decimal n) (shown (decimal n) (decimal_above n small))

pub recorded_lack : (recorded : Option Digest) → IfSome recorded (λ digest. IsHash (alg_of digest) (bytes_of digest)) → Lacks 10 (recorded_words recorded)
recorded_lack None is = search rules
recorded_lack (Some digest) is =
    lacks_feed (recorded_words (Some digest)) (shown_join (name_of (alg_of digest)) _ (names.name_above (alg_of digest))
    (omega arith, shown (encode_lower (bytes_of digest)) (encoded_above (bytes_of digest) is.1)))

-- ---- the boot aggregate

not_s : {rest : List ℕ} → codes "none" ≡ 115 ∷ rest → ⊥
not_s is = let byte : ◌≡◌ {A = ℕ} 110 115 = ap (λ (l : List ℕ). slice_index l 0) is in absurd (omega (arith, byte))

-- What stands before the colon and after it, in the words of a boot aggregate that is one.
aggregate_cut : (words name digits : List ℕ) (digest : Digest) → words ≡ recorded_words (Some digest) → IsSplitOnce 58 words name digits
    → (name ≡ name_of (alg_of digest)) × (digits ≡ encode_lower (bytes_of digest))
aggregate_cut words name digits digest is cut =
    one_cut 58 name (name_of (alg_of digest)) digits (encode_lower (bytes_of digest)) (lacks_from 58 name cut.lacks)
    (colons.name_lacks (alg_of digest)) (sym cut.parts ∙ is)

pub has_colon : (words : List ℕ) (recorded : Option Digest) → (words ≡ codes "none" → ⊥) → words ≡ recorded_words recorded → LacksByte 58 words → ⊥
has_colon words None other is lacks = other is
has_colon words (Some digest) other is lacks =
    let whole : Lacks 58 (name_of (alg_of digest) ++ 58 ∷ encode_lower (bytes_of digest)) = rw is at (lacks_from 58 words lacks) in
    not_lacked 58 (name_of (alg_of digest)) (encode_lower (bytes_of digest)) whole

pub has_alg_name : (words name digits : List ℕ) (recorded : Option Digest) → (words ≡ codes "none" → ⊥) → words ≡ recorded_words recorded
    → IsSplitOnce 58 words name digits → ((alg : Alg) → name_of alg ≡ name → ⊥) → ⊥
has_alg_name words name digits None other is cut unknown = other is
has_alg_name words name digits (Some digest) other is cut unknown =
    unknown (alg_of digest) (sym (aggregate_cut words name digits digest is cut).0)

-- The algorithm that is found, and what the digits spell.
alg_found : (words name digits : List ℕ) (digest : Digest) (alg : Alg) → words ≡ recorded_words (Some digest) → IsSplitOnce 58 words name digits
    → name_of alg ≡ name → alg ≡ alg_of digest
alg_found words name digits digest alg is cut named =
    algs.same_name_is alg (alg_of digest) (named ∙ (aggregate_cut words name digits digest is cut).0)

pub has_digits : (words name digits : List ℕ) (alg : Alg) (recorded : Option Digest) → (words ≡ codes "none" → ⊥)
    → IfSome recorded (λ digest. IsHash (alg_of digest) (bytes_of digest)) → words ≡ recorded_words recorded → IsSplitOnce 58 words name digits
    → name_of alg ≡ name → ((length digits ≡ 2 * size_of alg) × AllPass is_hex_digit digits → ⊥) → ⊥
has_digits words name digits alg None other hash is cut named none = other is
has_digits words name digits alg (Some digest) other hash is cut named none =
    let spelled = decode_of-ok (encode_lower (bytes_of digest)) (bytes_of digest) (decode_of-encode_lower (bytes_of digest) hash.1) in
    let size : length (encode_lower (bytes_of digest)) ≡ 2 * size_of (alg_of digest) = spelled.2 ∙ ap (λ (n : ℕ). 2 * n) hash.0 in
    none (rw (alg_found words name digits digest alg is cut named, (aggregate_cut words name digits digest is cut).1) (size, spelled.1))

pub same_recorded : (words name digits : List ℕ) (alg : Alg) (found : Digest) (recorded : Option Digest) → (words ≡ codes "none" → ⊥)
    → IfSome recorded (λ digest. IsHash (alg_of digest) (bytes_of digest)) → words ≡ recorded_words recorded → IsSplitOnce 58 words name digits
    → name_of alg ≡ name → (alg_of found ≡ alg) × (decode_of digits ≡ Ok (bytes_of found)) → Some found ≡ recorded
same_recorded words name digits alg found None other hash is cut named spells = absurd (other is)
same_recorded words name digits alg found (Some digest) other hash is cut named spells =
    let bytes = decode_of-same digits (bytes_of found) (bytes_of digest) spells.1
    (ap decode_of (aggregate_cut words name digits digest is cut).1 ∙ decode_of-encode_lower (bytes_of digest) hash.1) in
    ap (λ (d : Digest). Some d) (same_digest found digest (spells.0 ∙ alg_found words name digits digest alg is cut named) bytes)

not_named : (alg : Alg) (rest : List ℕ) → codes "none" ≡ name_of alg ++ rest → ⊥
not_named = every_alg (λ alg. (rest : List ℕ) → codes "none" ≡ name_of alg ++ rest → ⊥) (
  λ rest is. not_s is,
  (λ rest is. not_s is, (λ rest is. not_s is, (λ rest is. not_s is, tt))),
)

pub none_recorded : (words : List ℕ) (recorded : Option Digest) → words ≡ codes "none" → words ≡ recorded_words recorded → None ≡ recorded
none_recorded words None none is = refl
none_recorded words (Some digest) none is =
    absurd (not_named (alg_of digest) (codes ":" ++ encode_lower (bytes_of digest)) (sym none ∙ is))

-- ---- the boot aggregate of another template

-- Other lines do not begin as its line does: their second letter is another.
not_told : (rest left : List ℕ) → codes "before\n" ++ rest ≡ codes "boot_aggregate_told " ++ left → ⊥
not_told rest left is = let byte : ◌≡◌ {A = ℕ} 101 111 = ap (λ (l : List ℕ). slice_index l 1) is in absurd (omega (arith, byte))

-- Without a line that begins so, there is none.
pub none_told : (told : Option Digest) (rest text : List ℕ) → text ≡ told_line told ++ rest
    → ((more : List ℕ) → text ≡ codes "boot_aggregate_told " ++ more → ⊥) → (None ≡ told) × (text ≡ rest)
none_told None rest text is none = (refl, is)
none_told (Some digest) rest text is none =
    absurd (has_word (codes "boot_aggregate_told ") (recorded_words (Some digest) ++ codes "\n") rest text is none)

-- With one, it is that line.
pub line_told : (told : Option Digest) (rest text left : List ℕ) → text ≡ told_line told ++ (codes "before\n" ++ rest)
    → text ≡ codes "boot_aggregate_told " ++ left
    → text ≡ (codes "boot_aggregate_told " ++ (recorded_words told ++ codes "\n")) ++ (codes "before\n" ++ rest)
line_told None rest text left is found = absurd (not_told rest left (sym is ∙ found))
line_told (Some digest) rest text left is found = is

-- ---- the stray entry

pub stray_apart : (stray : Option Stray) (rest : List ℕ)
    → stray_lines stray ++ rest
    ≡ number_line (codes "register ") (stray_register stray) ++ (number_line (codes "entry ") (stray_entry stray) ++ rest)
stray_apart stray rest =
    append_assoc (number_line (codes "register ") (stray_register stray)) (number_line (codes "entry ") (stray_entry stray)) rest

pub register_fits : (stray : Option Stray) → IfSome stray (IsStrayOf (2 ^ 64)) → stray_register stray < 2 ^ 64
register_fits None is = omega arith
register_fits (Some stray) is = let exists = is.exists in omega (arith, exists)

pub entry_fits : (stray : Option Stray) → IfSome stray (IsStrayOf (2 ^ 64)) → stray_entry stray < 2 ^ 64
entry_fits None is = omega arith
entry_fits (Some stray) is = is.within

pub stray_fits : (entries : ℕ) (stray : Option Stray) → entries < 2 ^ 64 → IfSome stray (IsStrayOf entries) → IfSome stray (IsStrayOf (2 ^ 64))
stray_fits entries None few is = tt
stray_fits entries (Some stray) few is =
    let within = is.within in record { within = omega (arith, within, few); exists = is.exists; other = is.other }

pub no_stray : (stray : Option Stray) (register : ℕ) → IfSome stray (IsStrayOf (2 ^ 64)) → register ≡ stray_register stray → register ≡ 10 → None ≡ stray
no_stray None register is same ten = refl
no_stray (Some stray) register is same ten = absurd (is.other (sym same ∙ ten))

pub some_stray : (stray : Option Stray) (register entry : ℕ) → IfSome stray (IsStrayOf (2 ^ 64)) → register ≡ stray_register stray
    → entry ≡ stray_entry stray → (register ≡ 10 → ⊥)
    → (register < 24) × (Some (record { entry = entry; register = register }) ≡ stray)
some_stray None register entry is same number other = absurd (other same)
some_stray (Some stray) register entry is same number other =
    let exists = is.exists in (omega (arith, exists, same), λ i. Some (record { entry = number i; register = same i }))

-- ---- the boot

pub boot_apart : (boot : Boot) (rest : List ℕ)
    → boot_lines (Some boot) ++ rest
    ≡ number_line (codes "resets ") boot.resets ++ (number_line (codes "restarts ") boot.restarts ++ rest)
boot_apart boot rest =
    append_assoc (number_line (codes "resets ") boot.resets) (number_line (codes "restarts ") boot.restarts) rest

not_counts : (boot : Boot) (rest more : List ℕ) → boot_lines (Some boot) ++ rest ≡ codes "boot none\n" ++ more → ⊥
not_counts boot rest more is =
    let byte : ◌≡◌ {A = ℕ} 114 98 = ap (λ (l : List ℕ). slice_index l 0) is in absurd (omega (arith, byte))

-- The line is there that no quote tells the boot.
pub no_boot : (boot : Option Boot) (rest more text : List ℕ) → text ≡ boot_lines boot ++ rest → text ≡ codes "boot none\n" ++ more
    → (None ≡ boot) × (more ≡ rest)
no_boot None rest more text is found = (refl, append_cancel_left (codes "boot none\n") more rest (sym found ∙ is))
no_boot (Some boot) rest more text is found = absurd (not_counts boot rest more (sym is ∙ found))

-- The lines of a boot are there.
pub some_boot : (boot : Option Boot) (rest text : List ℕ) → IfSome boot IsBoot → text ≡ boot_lines boot ++ rest
    → ((more : List ℕ) → text ≡ codes "boot none\n" ++ more → ⊥)
    → (found : Boot) × (boot ≡ Some found) × IsBoot found × (text ≡ boot_lines (Some found) ++ rest)
some_boot None rest text fits is none = absurd (none rest is)
some_boot (Some boot) rest text fits is none = (boot, refl, fits, is)

-- ---- the line of a register

abbrev pub row : Alg → ℕ → List ℕ → Expected
row alg register value = record { alg = alg; register = register; value = digest_of alg value }

alg_again : (alg : Alg) (bytes : List ℕ) → alg_of (digest_of alg bytes) ≡ alg
alg_again = every_alg _ (search rules)

row_proper : (alg : Alg) (register : ℕ) (value : List ℕ) → register < register_count → IsHash alg value → IsProper (row alg register value)
row_proper alg register value exists is = record {
  exists = exists;
  alg_is = alg_again alg value;
  size = rw (bytes_again alg value) is.0;
  fits = rw (bytes_again alg value) is.1;
}

row_first : (alg : Alg) (register : ℕ) (value rest text : List ℕ) → text ≡ register_line alg register value ++ rest
    → text ≡ body (row alg register value) ++ 10 ∷ rest
row_first alg register value rest text is =
    is ∙ ap (λ (b : List ℕ). register_line alg register b ++ rest) (sym (bytes_again alg value)) ∙ line_is (row alg register value) rest

pub has_row : (alg : Alg) (register : ℕ) (value rest text : List ℕ) → text ≡ register_line alg register value ++ rest → LacksByte 10 text → ⊥
has_row alg register value rest text is lacks =
    let whole : Lacks 10 (body (row alg register value) ++ 10 ∷ rest) =
    subst (λ (l : List ℕ). Lacks 10 l) (row_first alg register value rest text is) (lacks_from 10 text lacks) in
    not_lacked 10 (body (row alg register value)) rest whole

cut_row : (alg : Alg) (register : ℕ) (value rest text line after : List ℕ) → register < register_count → IsHash alg value
    → text ≡ register_line alg register value ++ rest → IsSplitOnce 10 text line after
    → (line ≡ body (row alg register value)) × (after ≡ rest)
cut_row alg register value rest text line after exists is first cut =
    let proper = row_proper alg register value exists is in
    one_cut 10 line (body (row alg register value)) after rest (lacks_from 10 line cut.lacks)
    (lacks_feed (body (row alg register value)) (body_shown (row alg register value) proper))
    (sym cut.parts ∙ row_first alg register value rest text first)

pub spells_row : (alg : Alg) (register : ℕ) (value rest text line after : List ℕ) → register < register_count → IsHash alg value
    → text ≡ register_line alg register value ++ rest → IsSplitOnce 10 text line after → IsRegisterLine line (row alg register value)
spells_row alg register value rest text line after exists is first cut =
    subst (λ (l : List ℕ). IsRegisterLine l (row alg register value)) (sym (cut_row alg register value rest text line after exists is first cut).0)
    (body_spells (row alg register value) (row_proper alg register value exists is))

sets_row : (old new : Banks) (e : Expected) (alg : Alg) (register : ℕ) (value : List ℕ) → e ≡ row alg register value
    → Sets old new (alg_of e.value) e.register (bytes_of e.value) → Sets old new alg register value
sets_row old new e alg register value is sets =
    let with_row = subst (λ (x : Expected). Sets old new (alg_of x.value) x.register (bytes_of x.value)) is sets in
    let with_alg = subst (λ (a : Alg). Sets old new a register (bytes_of (digest_of alg value))) (alg_again alg value) with_row in
    subst (λ (b : List ℕ). Sets old new alg register b) (bytes_again alg value) with_alg

pub row_set : (old new : Banks) (e : Expected) (alg : Alg) (register : ℕ) (value rest text line after : List ℕ) → register < register_count
    → IsHash alg value → text ≡ register_line alg register value ++ rest → IsSplitOnce 10 text line after → IsRegisterLine line e
    → Sets old new (alg_of e.value) e.register (bytes_of e.value) → Sets old new alg register value × (after ≡ rest)
row_set old new e alg register value rest text line after exists is first cut spells sets =
    let same = one_line line e (row alg register value) spells (spells_row alg register value rest text line after exists is first cut) in
    (sets_row old new e alg register value same sets, (cut_row alg register value rest text line after exists is first cut).1)

-- ---- the lines of a bank

some_of : (alg : Alg) (value : Option (List ℕ)) → IsSome value → IfSome value (IsHash alg) → (v : List ℕ) × (value ≡ Some v) × IsHash alg v
some_of alg None some is = absurd cc
some_of alg (Some v) some is = (v, refl, is)

known_value : (known : Banks) (alg : Alg) (r : ℕ) → HaveValues known → IsTrue (is_active known alg) → r < register_count
    → (v : List ℕ) × (value_at known alg r ≡ Some v) × IsHash alg v
known_value known alg r have active lt = some_of alg (value_at known alg r) (have.whole alg r active lt) (have.sized alg r)

-- The registers before `count` are taken, and the lines from there on are left.
abbrev pub AreTaken : Banks → List ℕ → Banks → ℕ → List ℕ → Type 0
AreTaken start text now count left =
    (known : Banks) (alg : Alg) (more : List ℕ) → HaveValues known → HasBank start alg → IsTrue (is_active known alg)
    → text ≡ flat_map (value_line known alg) all_registers ++ more
    → TakesSome known start now alg count × (left ≡ flat_map (value_line known alg) (drop count all_registers) ++ more)

pub none_taken : (start : Banks) (text : List ℕ) → AreTaken start text start 0 text
none_taken start text known alg more have stands active is = (
  λ a r.
      let none : ltb r 0 ≡ false = grind (arith, nat_tests) in
      elim (cases_Bool (same_alg a alg)) [ inl same ↦ rw (same, none) refl | inr other ↦ rw other refl ],
  is,
)

-- The next line that is left.
next_line : (known : Banks) (alg : Alg) (i : ℕ) (v more left : List ℕ) → i < register_count → value_at known alg i ≡ Some v
    → left ≡ flat_map (value_line known alg) (drop i all_registers) ++ more
    → left ≡ register_line alg i v ++ (flat_map (value_line known alg) (drop (i + 1) all_registers) ++ more)
next_line known alg i v more left lt is at =
    let f = value_line known alg in
    let others = flat_map f (drop (i + 1) all_registers) in
    let within : i < length all_registers = omega (arith, lt, registers.register_count) in
    let number : get_or all_registers i 0 ≡ i = registers.register_at i lt in
    let line : f i ≡ register_line alg i v = ap (change_line alg i None) is in
    at
    ∙ ap (λ (l : List ℕ). l ++ more) (at_drop_more (flat_map f) all_registers i 0 within
    ∙ flat_map-cons f (get_or all_registers i 0) (drop (i + 1) all_registers)
    ∙ ap (λ (n : ℕ). f n ++ others) number ∙ ap (λ (l : List ℕ). l ++ others) line)
    ∙ append_assoc (register_line alg i v) others more

-- The line of the next register is there.
pub not_ended : (start : Banks) (text : List ℕ) (now : Banks) (i : ℕ) (left : List ℕ) → AreTaken start text now i left → i < register_count
    → ((alg : Alg) (register : ℕ) (value rest : List ℕ) → register < register_count → IsHash alg value
    → left ≡ register_line alg register value ++ rest → ⊥)
    → (known : Banks) (alg : Alg) (more : List ℕ) → HaveValues known → HasBank start alg → IsTrue (is_active known alg)
    → text ≡ flat_map (value_line known alg) all_registers ++ more → ⊥
not_ended start text now i left taken lt none known alg more have stands active is =
    let value = known_value known alg i have active lt in
    none alg i value.0 (flat_map (value_line known alg) (drop (i + 1) all_registers) ++ more) lt value.2
    (next_line known alg i value.0 more left lt value.1 (taken known alg more have stands active is).1)

chosen : (same here below next : Bool) (old mid new known : Option (List ℕ)) (v : List ℕ)
    → (same ≡ true → here ≡ true → (known ≡ Some v) × IsSome old)
    → (here ≡ true → (below ≡ false) × (next ≡ true)) → (here ≡ false → next ≡ below)
    → mid ≡ cond (same && below) known old → new ≡ cond (same && here) (option_map (λ _. v) mid) mid → new ≡ cond (same && next) known old
chosen false here below next old mid new known v is at other mid_is new_is = new_is ∙ mid_is
chosen true false below next old mid new known v is at other mid_is new_is =
    new_is ∙ mid_is ∙ ap (λ (b : Bool). cond b known old) (sym (other refl))
chosen true true below next None mid new known v is at other mid_is new_is = let none = (is refl refl).1 in absurd cc
chosen true true below next (Some o) mid new known v is at other mid_is new_is =
    let mid_old : mid ≡ Some o = mid_is ∙ ap (λ (b : Bool). cond b known (Some o)) (at refl).0 in
    new_is ∙ ap (option_map (λ _. v)) mid_old ∙ sym (is refl refl).0 ∙ ap (λ (b : Bool). cond b known (Some o)) (sym (at refl).1)

at_next : (r i : ℕ) → eqb r i ≡ true → (ltb r i ≡ false) × (ltb r (i + 1) ≡ true)
at_next r i here = let e : r ≡ i = eqb-true r i here in (grind (arith, nat_tests), grind (arith, nat_tests))

past_next : (r i : ℕ) → eqb r i ≡ false → ltb r (i + 1) ≡ ltb r i
past_next r i there = grind (arith, nat_tests)

pub takes_more : (start : Banks) (text : List ℕ) (now next : Banks) (i : ℕ) (left after : List ℕ) → AreTaken start text now i left
    → i < register_count
    → ((alg : Alg) (register : ℕ) (value rest : List ℕ) → register < register_count → IsHash alg value
    → left ≡ register_line alg register value ++ rest → Sets now next alg register value × (after ≡ rest))
    → AreTaken start text next (i + 1) after
takes_more start text now next i left after taken lt line known alg more have stands active is =
    let so_far = taken known alg more have stands active is in
    let value = known_value known alg i have active lt in
    let sets = line alg i value.0 (flat_map (value_line known alg) (drop (i + 1) all_registers) ++ more) lt value.2
    (next_line known alg i value.0 more left lt value.1 so_far.1) in
    let here : (a : Alg) (r : ℕ) → same_alg a alg ≡ true → eqb r i ≡ true → (value_at known a r ≡ Some value.0) × IsSome (value_at start a r) =
    λ a r same at.
    let alg_is = same_alg_is a alg same in
    let number = eqb-true r i at in
    rw (alg_is, number) (value.1, stands i lt) in (
      λ a r. chosen (same_alg a alg) (eqb r i) (ltb r i) (ltb r (i + 1)) (value_at start a r) (value_at now a r) (value_at next a r)
          (value_at known a r) value.0 (here a r) (at_next r i) (past_next r i) (so_far.0 a r) (sets.0 a r),
      sets.1,
    )

pub all_taken : (start : Banks) (text : List ℕ) (now : Banks) (left : List ℕ) → AreTaken start text now 24 left → (known : Banks) (alg : Alg)
    (more : List ℕ) → HaveValues known → HasBank start alg → IsTrue (is_active known alg)
    → text ≡ flat_map (value_line known alg) all_registers ++ more → TakesBank known start now alg × (left ≡ more)
all_taken start text now left taken known alg more have stands active is =
    let done = taken known alg more have stands active is in (
      λ a r.
          done.0 a r
          ∙ elim (cases_Bool (same_alg a alg)) [
            | inl same ↦ elim (cases_Bool (ltb r register_count)) [
              | inl within ↦ rw (same, within) refl
              | inr out ↦ rw (same, out) refl
            ]
            | inr other ↦ rw other refl
          ],
      done.1 ∙ ap (λ (l : List ℕ). flat_map (value_line known alg) l ++ more) (drop_of_length-le all_registers {i = 24} (omega (arith, registers.register_count))),
    )

-- ---- a bank

active_at : (known : Banks) (alg : Alg) (r : ℕ) (value : Option (List ℕ)) → value_at known alg r ≡ value → is_some value ≡ true
    → is_active known alg ≡ true
active_at known alg r None is some = absurd cc
active_at known alg r (Some v) is some = active_bank (bank_of known alg) r v is

-- A bank that has a first register is active.
first_active : (known : Banks) (alg : Alg) → is_some (value_at known alg 0) ≡ true → is_active known alg ≡ true
first_active known alg some = active_at known alg 0 (value_at known alg 0) refl some

is_none : (value : Option (List ℕ)) → (is_some value ≡ true → ⊥) → value ≡ None
is_none None some = refl
is_none (Some v) some = absurd (some refl)

-- A bank that is not active has no registers.
no_values : (known : Banks) (alg : Alg) → HaveValues known → is_some (value_at known alg 0) ≡ false → (r : ℕ) → value_at known alg r ≡ None
no_values known alg have none r =
    is_none (value_at known alg r) (λ some.
    both_ways (is_some (value_at known alg 0)) none
    (have.whole alg 0 (active_at known alg r (value_at known alg r) refl some) (omega arith)))

-- The lines of an active bank do not begin as the line of one that is not.
not_none : (known : Banks) (alg : Alg) (more rest : List ℕ) → HaveValues known → is_active known alg ≡ true
    → flat_map (value_line known alg) all_registers ++ more ≡ name_of alg ++ (codes " none\n" ++ rest) → ⊥
not_none known alg more rest have active is =
    let value = known_value known alg 0 have active (omega arith) in
    let others = flat_map (value_line known alg) (drop 1 all_registers) ++ more in
    let tail = codes " " ++ (encode_lower value.0 ++ codes "\n") in
    let line = next_line known alg 0 value.0 more (flat_map (value_line known alg) all_registers ++ more) (omega arith) value.1 refl in
    let zero : decimal 0 ≡ 48 ∷ [] = decimal_digit 0 (omega arith) in
    let first : register_line alg 0 value.0 ++ others ≡ name_of alg ++ (32 ∷ 48 ∷ (tail ++ others)) =
    ap (λ (d : List ℕ). (name_of alg ++ (codes " " ++ (d ++ tail))) ++ others) zero ∙ append_assoc (name_of alg) (32 ∷ 48 ∷ tail) others in
    let same = append_cancel_left (name_of alg) (32 ∷ 48 ∷ (tail ++ others)) (codes " none\n" ++ rest) (sym first ∙ sym line ∙ is) in
    let byte : ◌≡◌ {A = ℕ} 48 110 = ap (λ (l : List ℕ). slice_index l 1) same in
    absurd (omega (arith, byte))

-- The line of a bank that is not active is there.
pub bank_none : (known old new : Banks) (alg : Alg) (more rest text : List ℕ) → HaveValues known → text ≡ bank_lines known alg ++ more
    → text ≡ name_of alg ++ (codes " none\n" ++ rest)
    → ((a : Alg) (r : ℕ) → value_at new a r ≡ (if same_alg a alg then None else value_at old a r))
    → TakesBank known old new alg × (rest ≡ more)
bank_none known old new alg more rest text have is found without =
    elim (cases_Bool (is_some (value_at known alg 0))) [
      | inl some ↦
          let lines : bank_lines known alg ≡ flat_map (value_line known alg) all_registers = rw some refl in
          absurd (not_none known alg more rest have (first_active known alg some)
          (ap (λ (l : List ℕ). l ++ more) (sym lines) ∙ sym is ∙ found))
      | inr none ↦
          let lines : bank_lines known alg ≡ name_of alg ++ codes " none\n" = rw none refl in
          let whole : text ≡ name_of alg ++ (codes " none\n" ++ more) =
          is ∙ ap (λ (l : List ℕ). l ++ more) lines ∙ append_assoc (name_of alg) (codes " none\n") more in
          let same = append_cancel_left (name_of alg) (codes " none\n" ++ rest) (codes " none\n" ++ more) (sym found ∙ whole) in (
            λ a r.
                without a r
                ∙ elim (cases_Bool (same_alg a alg)) [
                  | inl here ↦ rw (here, same_alg_is a alg here) (sym (no_values known alg have none r))
                  | inr other ↦ rw other refl
                ],
            append_cancel_left (codes " none\n") rest more same,
          )
    ]

-- The lines of an active bank are there.
pub bank_some : (known : Banks) (alg : Alg) (more text : List ℕ) → HaveValues known → text ≡ bank_lines known alg ++ more
    → ((rest : List ℕ) → text ≡ name_of alg ++ (codes " none\n" ++ rest) → ⊥)
    → IsTrue (is_active known alg) × (text ≡ flat_map (value_line known alg) all_registers ++ more)
bank_some known alg more text have is not_there =
    elim (cases_Bool (is_some (value_at known alg 0))) [
      | inl some ↦
          let lines : bank_lines known alg ≡ flat_map (value_line known alg) all_registers = rw some refl in
          (first_active known alg some, is ∙ ap (λ (l : List ℕ). l ++ more) lines)
      | inr none ↦
          let lines : bank_lines known alg ≡ name_of alg ++ codes " none\n" = rw none refl in
          absurd (not_there more (is ∙ ap (λ (l : List ℕ). l ++ more) lines ∙ append_assoc (name_of alg) (codes " none\n") more))
    ]

-- ---- all banks

pub lines_apart : (known : Banks) (rest : List ℕ)
    → banks_lines known ++ rest
    ≡ bank_lines known Sha1 ++ (bank_lines known Sha256 ++ (bank_lines known Sha384 ++ (bank_lines known Sha512 ++ rest)))
lines_apart known rest =
    let a = bank_lines known Sha1 in
    let b = bank_lines known Sha256 in
    let c = bank_lines known Sha384 in
    let d = bank_lines known Sha512 in
    let all : banks_lines known ≡ a ++ (b ++ (c ++ (d ++ []))) = refl in
    rw all (simp (append_assoc, append-nil) refl)

pub start_has : (banks : Banks) → IsReset replays.every_alg 0 banks → (a : Alg) → HasBank banks a
start_has banks is a r lt =
    let below : ltb r register_count ≡ true = search (rules, lt) in
    let has : has_alg replays.every_alg a ≡ true = has_where (λ alg. true) a in
    let value : value_at banks a r ≡ Some (reset_value a r 0) = is.values a r ∙ (rw (has, below) refl) in
    ap is_some value

-- A bank is kept while another is taken.
pub still_has : (known old new : Banks) (alg a : Alg) → TakesBank known old new alg → same_alg a alg ≡ false → HasBank old a → HasBank new a
still_has known old new alg a takes other has r lt =
    let same : value_at new a r ≡ value_at old a r = takes a r ∙ (rw other refl) in
    ap is_some same ∙ has r lt

pub all_banks : (known zero one two three four : Banks) → TakesBank known zero one Sha1 → TakesBank known one two Sha256
    → TakesBank known two three Sha384 → TakesBank known three four Sha512 → SameValues four known
all_banks known zero one two three four first second third fourth =
    every_alg (λ a. (r : ℕ) → value_at four a r ≡ value_at known a r) (
      λ r. fourth Sha1 r ∙ third Sha1 r ∙ second Sha1 r ∙ first Sha1 r,
      (
        λ r. fourth Sha256 r ∙ third Sha256 r ∙ second Sha256 r,
        (λ r. fourth Sha384 r ∙ third Sha384 r, (λ r. fourth Sha512 r, tt)),
      ),
    )

-- ---- the same data have the same text

flat_same : {X : Type 0} (f g : X → List ℕ) → ((x : X) → f x ≡ g x) → (xs : List X) → flat_map f xs ≡ flat_map g xs
flat_same f g same [] = refl
flat_same f g same (x ∷ xs) =
    flat_map-cons f x xs ∙ ap (λ (l : List ℕ). l ++ flat_map f xs) (same x) ∙ ap (λ (l : List ℕ). g x ++ l) (flat_same f g same xs)
    ∙ sym (flat_map-cons g x xs)

bank_same : (first second : Banks) (alg : Alg) → SameValues first second → bank_lines first alg ≡ bank_lines second alg
bank_same first second alg same =
    let values = flat_same (value_line first alg) (value_line second alg) (λ r. ap (change_line alg r None) (same alg r)) all_registers in
    ap (λ (b : Bool). if b then flat_map (value_line first alg) all_registers else name_of alg ++ codes " none\n") (ap is_some (same alg 0))
    ∙ ap (λ (l : List ℕ). if is_some (value_at second alg 0) then l else name_of alg ++ codes " none\n") values

banks_same : (first second : Banks) → SameValues first second → banks_lines first ≡ banks_lines second
banks_same first second same = flat_same (bank_lines first) (bank_lines second) (λ alg. bank_same first second alg same) all_algs

data_same : (first second : Checkpoint) → SameData first second → data_lines first ≡ data_lines second
data_same first second same =
    rw (
      same.entries,
      same.bytes,
      same.recorded,
      same.told,
      same.stray,
      banks_same first.before second.before same.before,
      banks_same first.after second.after same.after,
    ) refl

pub text_same : (first second : SavedState) → IsSameState first second → checkpoint_text first ≡ checkpoint_text second
text_same first second same =
    let lines : state_lines first ≡ state_lines second =
    ap (λ (l : List ℕ). l ++ boot_lines first.boot) (data_same first.checkpoint second.checkpoint same.checkpoint)
    ∙ ap (λ (boot : Option Boot). data_lines second.checkpoint ++ boot_lines boot) same.boot in
    ap (λ (l : List ℕ). let body = codes "ima-agent checkpoint " ++ (codes "3\n" ++ l) in body ++ seal_line body) lines

-- What holds of the value in an option is passed on.
pub some_then : {A : Type 0} {P Q : A → Type 0} (o : Option A) → IsSomeAnd o P → ((x : A) → P x → Q x) → IsSomeAnd o Q
some_then None is next = is
some_then (Some x) is next = next x is

-- ---- the lines of the data

-- What follows the registers after the list, those before it, and the lines before these.
abbrev pub after_after : Checkpoint → List ℕ → List ℕ
after_after known rest = stray_lines known.stray ++ rest

abbrev pub after_before : Checkpoint → List ℕ → List ℕ
after_before known rest = codes "after\n" ++ (banks_lines known.after ++ after_after known rest)

abbrev pub from_before : Checkpoint → List ℕ → List ℕ
from_before known rest = banks_lines known.before ++ after_before known rest

abbrev pub after_recorded : Checkpoint → List ℕ → List ℕ
after_recorded known rest = told_line known.told ++ (codes "before\n" ++ from_before known rest)

abbrev pub after_bytes : Checkpoint → List ℕ → List ℕ
after_bytes known rest = recorded_line known.recorded ++ after_recorded known rest

abbrev pub after_entries : Checkpoint → List ℕ → List ℕ
after_entries known rest = number_line (codes "bytes ") known.bytes ++ after_bytes known rest

nine : (a b c t d e f g h rest : List ℕ)
    → (a ++ (b ++ (c ++ (t ++ (d ++ (e ++ (f ++ (g ++ h)))))))) ++ rest
    ≡ a ++ (b ++ (c ++ (t ++ (d ++ (e ++ (f ++ (g ++ (h ++ rest))))))))
nine a b c t d e f g h rest = simp append_assoc refl

pub data_apart : (known : Checkpoint) (rest : List ℕ)
    → data_lines known ++ rest ≡ number_line (codes "entries ") known.entries ++ after_entries known rest
data_apart known rest =
    nine (number_line (codes "entries ") known.entries) (number_line (codes "bytes ") known.bytes) (recorded_line known.recorded)
    (told_line known.told) (codes "before\n") (banks_lines known.before) (codes "after\n") (banks_lines known.after) (stray_lines known.stray) rest

parts_joined : (entries bytes recorded told before after register entry : List ℕ)
    → (codes "entries " ++ (entries ++ (codes "\nbytes " ++ (bytes ++ codes "\n"))))
    ++ (recorded ++ (told ++ ((codes "before\n" ++ before) ++ ((codes "after\n" ++ after)
    ++ (codes "register " ++ (register ++ (codes "\nentry " ++ (entry ++ codes "\n"))))))))
    ≡ (codes "entries " ++ (entries ++ codes "\n"))
    ++ ((codes "bytes " ++ (bytes ++ codes "\n")) ++ (recorded ++ (told ++ (codes "before\n" ++ (before ++ (codes "after\n" ++ (after
    ++ ((codes "register " ++ (register ++ codes "\n")) ++ (codes "entry " ++ (entry ++ codes "\n"))))))))))
parts_joined entries bytes recorded told before after register entry = simp append_assoc refl

-- The parts of the data, as they are written.
pub data_parts : (known : Checkpoint)
    → (codes "entries " ++ (decimal known.entries ++ (codes "\nbytes " ++ (decimal known.bytes ++ codes "\n"))))
    ++ (recorded_line known.recorded
    ++ (told_line known.told
    ++ ((codes "before\n" ++ banks_lines known.before) ++ ((codes "after\n" ++ banks_lines known.after)
    ++ (codes "register "
    ++ (decimal (stray_register known.stray) ++ (codes "\nentry " ++ (decimal (stray_entry known.stray) ++ codes "\n"))))))))
    ≡ data_lines known
data_parts known =
    let recorded = recorded_line known.recorded in
    let before = banks_lines known.before in
    let after = banks_lines known.after in
    let register = decimal (stray_register known.stray) in
    let entry = decimal (stray_entry known.stray) in
    parts_joined (decimal known.entries) (decimal known.bytes) recorded (told_line known.told) before after register entry

-- The parts of the body, as they are written.
pub body_parts : (state : SavedState)
    → codes "ima-agent checkpoint 3\n" ++ (data_lines state.checkpoint ++ boot_lines state.boot) ≡ checkpoint_body state
body_parts state = refl

-- ---- the whole text

three : (a b c rest : List ℕ) → (a ++ (b ++ c)) ++ rest ≡ a ++ (b ++ (c ++ rest))
three a b c rest = simp append_assoc refl

pub text_begins : (state : SavedState)
    → checkpoint_text state
    ≡ codes "ima-agent checkpoint " ++ (codes "3\n" ++ (state_lines state ++ seal_line (checkpoint_body state)))
text_begins state = three (codes "ima-agent checkpoint ") (codes "3\n") (state_lines state) (seal_line (checkpoint_body state))

pub version_is : (state : SavedState) (text version : List ℕ) → text ≡ codes "ima-agent checkpoint " ++ version → text ≡ checkpoint_text state
    → version ≡ codes "3\n" ++ (state_lines state ++ seal_line (checkpoint_body state))
version_is state text version found is =
    append_cancel_left (codes "ima-agent checkpoint ") version (codes "3\n" ++ (state_lines state ++ seal_line (checkpoint_body state)))
    (sym found ∙ is ∙ text_begins state)

pub lines_are : (state : SavedState) (text version lines : List ℕ) → text ≡ codes "ima-agent checkpoint " ++ version
    → version ≡ codes "3\n" ++ lines → text ≡ checkpoint_text state → lines ≡ state_lines state ++ seal_line (checkpoint_body state)
lines_are state text version lines found then_found is =
    append_cancel_left (codes "3\n") lines (state_lines state ++ seal_line (checkpoint_body state))
    (sym then_found ∙ version_is state text version found is)

pub ok_then : {A E : Type 0} {P Q : A → Type 0} (r : Result A E) → IfOk r P → ((x : A) → P x → Q x) → IfOk r Q
ok_then (Ok x) is next = next x is
ok_then (Err fault) is next = tt

pub this_version : (text version lines : List ℕ) → text ≡ codes "ima-agent checkpoint " ++ version → version ≡ codes "3\n" ++ lines
    → IsOfOtherVersion text → ⊥
this_version text version lines found then_found other =
    let same = append_cancel_left (codes "ima-agent checkpoint ") other.version version (sym other.begins ∙ found) in
    other.other lines (same ∙ then_found)

-- Two states with the data of a third have the same data.
pub same_both : (found first second : SavedState) → IsSameState found first → IsSameState found second → IsSameState first second
same_both found first second one other = record {
  checkpoint = record {
    entries = sym one.checkpoint.entries ∙ other.checkpoint.entries;
    bytes = sym one.checkpoint.bytes ∙ other.checkpoint.bytes;
    recorded = sym one.checkpoint.recorded ∙ other.checkpoint.recorded;
    told = sym one.checkpoint.told ∙ other.checkpoint.told;
    stray = sym one.checkpoint.stray ∙ other.checkpoint.stray;
    before = λ a r. sym (one.checkpoint.before a r) ∙ other.checkpoint.before a r;
    after = λ a r. sym (one.checkpoint.after a r) ∙ other.checkpoint.after a r;
  };
  boot = sym one.boot ∙ other.boot;
}
