-- Values of selected registers, joined one after another.
use Rattle.std.proofs.Common.{◌≡◌, ℕ, zero, suc, ◌+◌, ◌-◌, ◌<◌, Bool, true, false, cond, List, [], ◌∷◌, ◌++◌, length, get_or, take, drop, map, Option, Some, None, refl, sym, ap, ◌∙◌, append_assoc, arith}
use Rattle.std.specs.Prelude.{filter, option_map, option_and_then, bytes_eq}
use Rattle.std.specs.List.{range_with_len}
use Rattle.std.specs.Option.{option_map_or}
use Rattle.std.proofs.lemmas.List.{append-nil, map-append, take_more, take-append-drop}
use Rattle.std.proofs.lemmas.List.FromFn.{filter_of_map_range_with_len_more}
use Rattle.std.proofs.lemmas.Grind.{flat_map-append}
use Rattle.pcr_banks.specs.declared.alg.Alg.{Alg}
use Rattle.pcr_banks.specs.declared.digest.Digest.{Digest}
use Rattle.pcr_banks.specs.declared.hasher.Hasher.{Hasher}
use Rattle.pcr_banks.specs.Names.{HasTaken, bytes_of, digest_of, hash_of}
use Rattle.pcr_banks.proofs.BankLaws.{some_digest, no_digest}
use Rattle.pcr_banks.proofs.SetLaws.{bytes_again}
use Rattle.tpm_quotes.specs.declared.selection.QuotedSelection.{QuotedSelection}
use Rattle.tpm_quotes.specs.Spelling.{BankSelection, is_selected, selected, selected_in, selection_of, all_registers}
use Rattle.tpm_quotes.specs.Quoting.{Values, all_joined, joined}
use Rattle.tpm_quotes.specs.parts.Hashing.{TakesMore}

-- ---- joined lists

abbrev pub both : Option (List ℕ) → Option (List ℕ) → Option (List ℕ)
both first second = option_and_then (λ head. option_map (λ back. head ++ back) second) first

both_of : (value : List ℕ) (a b : Option (List ℕ)) → option_map (λ back. value ++ back) (both a b) ≡ both (option_map (λ back. value ++ back) a) b
both_of value None b = refl
both_of value (Some head) None = refl
both_of value (Some head) (Some back) = ap (λ (t : List ℕ). Some t) (sym (append_assoc value head back))

same_back : (o : Option (List ℕ)) → o ≡ option_map (λ back. [] ++ back) o
same_back None = refl
same_back (Some back) = refl

pub all_joined_append : (xs ys : List (Option (List ℕ))) → all_joined (xs ++ ys) ≡ both (all_joined xs) (all_joined ys)
all_joined_append [] ys = same_back (all_joined ys)
all_joined_append (None ∷ xs) ys = refl
all_joined_append (Some value ∷ xs) ys =
    ap (option_map (λ back. value ++ back)) (all_joined_append xs ys) ∙ both_of value (all_joined xs) (all_joined ys)

pub joined_append : (values : Values) (xs ys : List (Alg × ℕ)) → joined values (xs ++ ys) ≡ both (joined values xs) (joined values ys)
joined_append values xs ys =
    ap all_joined (map-append (λ (x : Alg × ℕ). values x.0 x.1) xs ys)
    ∙ all_joined_append (map (λ x. values x.0 x.1) xs) (map (λ x. values x.0 x.1) ys)

-- Where a value is missing, more registers do not help.
none_with_more : (values : Values) (xs ys : List (Alg × ℕ)) → joined values xs ≡ None → joined values (xs ++ ys) ≡ None
none_with_more values xs ys e = joined_append values xs ys ∙ rw e refl

joined_one : (values : Values) (alg : Alg) (register : ℕ) (value : List ℕ) → values alg register ≡ Some value
    → joined values ((alg, register) ∷ []) ≡ Some value
joined_one values alg register value e = rw e (ap (λ (t : List ℕ). Some t) (append-nil value))

lacks_one : (values : Values) (alg : Alg) (register : ℕ) → values alg register ≡ None → joined values ((alg, register) ∷ []) ≡ None
lacks_one values alg register e = rw e refl

joined_two : (values : Values) (xs ys : List (Alg × ℕ)) (head back : List ℕ) → joined values xs ≡ Some head → joined values ys ≡ Some back
    → joined values (xs ++ ys) ≡ Some (head ++ back)
joined_two values xs ys head back e f = joined_append values xs ys ∙ rw (e, f) refl

joined_lacks : (values : Values) (xs ys : List (Alg × ℕ)) (head : List ℕ) → joined values xs ≡ Some head → joined values ys ≡ None
    → joined values (xs ++ ys) ≡ None
joined_lacks values xs ys head e f = joined_append values xs ys ∙ rw (e, f) refl

-- ---- the registers of one bank

-- Those below a number.
abbrev pub selected_below : Alg → List ℕ → ℕ → List (Alg × ℕ)
selected_below alg bits count = filter (λ register. is_selected bits register.1) (map (λ register. (alg, register)) (range_with_len 0 count))

below_more : (alg : Alg) (bits : List ℕ) (count : ℕ)
    → selected_below alg bits (count + 1) ≡ selected_below alg bits count ++ cond (is_selected bits count) ((alg, count) ∷ []) []
below_more alg bits count =
    filter_of_map_range_with_len_more (λ (x : Alg × ℕ). is_selected bits x.1) (λ (r : ℕ). (alg, r)) 0 count count (omega arith)

below_taken : (alg : Alg) (bits : List ℕ) (count : ℕ) → is_selected bits count ≡ true
    → selected_below alg bits (count + 1) ≡ selected_below alg bits count ++ (alg, count) ∷ []
below_taken alg bits count e = below_more alg bits count ∙ rw e refl

below_same : (alg : Alg) (bits : List ℕ) (count : ℕ) → is_selected bits count ≡ false
    → selected_below alg bits (count + 1) ≡ selected_below alg bits count
below_same alg bits count e =
    below_more alg bits count ∙ ap (λ (b : Bool). selected_below alg bits count ++ cond b ((alg, count) ∷ []) []) e
    ∙ append-nil (selected_below alg bits count)

none_later : (values : Values) (alg : Alg) (bits : List ℕ) (count more : ℕ) → joined values (selected_below alg bits count) ≡ None
    → joined values (selected_below alg bits (count + more)) ≡ None
none_later values alg bits count zero e = let same : count + zero ≡ count = omega arith in rw same e
none_later values alg bits count (suc more) e =
    let same : count + suc more ≡ (count + more) + 1 = omega arith in
    rw (same, below_more alg bits (count + more))
    (none_with_more values (selected_below alg bits (count + more)) (cond (is_selected bits (count + more)) ((alg, count + more) ∷ []) [])
    (none_later values alg bits count more e))

-- ---- the loop over registers

-- Whatever the hasher had taken, it has also taken the values of these registers.
pub record HasAlso (old new : Hasher) (values : Values) (registers : List (Alg × ℕ)) : Type 0 where
  pub more : List ℕ
  pub are : joined values registers ≡ Some more
  pub taken : (alg : Alg) (taken : List ℕ) → HasTaken old alg taken → HasTaken new alg (taken ++ more)

pub also_none : (hasher : Hasher) (values : Values) → HasAlso hasher hasher values []
also_none hasher values = record { more = []; are = refl; taken = λ alg taken has. rw append-nil has }

pub also_more : (old before after : Hasher) (values : Values) (registers : List (Alg × ℕ)) (more : List (Alg × ℕ)) (bytes : List ℕ)
    → HasAlso old before values registers → joined values more ≡ Some bytes
    → ((alg : Alg) (taken : List ℕ) → HasTaken before alg taken → HasTaken after alg (taken ++ bytes))
    → HasAlso old after values (registers ++ more)
also_more old before after values registers more bytes has e update = record {
  more = has.more ++ bytes;
  are = joined_two values registers more has.more bytes has.are e;
  taken = λ alg taken h. rw (← append_assoc taken has.more bytes) (update alg (taken ++ has.more) (has.taken alg taken h));
}

pub takes_register : (old before after : Hasher) (values : Values) (alg : Alg) (bits : List ℕ) (register : ℕ) (digest : Digest)
    → HasAlso old before values (selected_below alg bits register) → is_selected bits register ≡ true
    → Some (bytes_of digest) ≡ values alg register
    → ((a : Alg) (taken : List ℕ) → HasTaken before a taken → HasTaken after a (taken ++ bytes_of digest))
    → HasAlso old after values (selected_below alg bits (register + 1))
takes_register old before after values alg bits register digest has chosen read update =
    rw (below_taken alg bits register chosen)
    (also_more old before after values (selected_below alg bits register) ((alg, register) ∷ []) (bytes_of digest) has
    (joined_one values alg register (bytes_of digest) (sym read)) update)

pub passes_register : (old now : Hasher) (values : Values) (alg : Alg) (bits : List ℕ) (register : ℕ)
    → HasAlso old now values (selected_below alg bits register) → is_selected bits register ≡ false
    → HasAlso old now values (selected_below alg bits (register + 1))
passes_register old now values alg bits register has left = rw (below_same alg bits register left) has

pub lacks_register : (old now : Hasher) (values : Values) (alg : Alg) (bits : List ℕ) (register : ℕ)
    → HasAlso old now values (selected_below alg bits register) → is_selected bits register ≡ true → register < 24
    → None ≡ values alg register → joined values (selected_below alg bits 24) ≡ None
lacks_register old now values alg bits register has chosen lt read =
    let here : joined values (selected_below alg bits (register + 1)) ≡ None =
    rw (below_taken alg bits register chosen) (joined_lacks values (selected_below alg bits register) ((alg, register) ∷ []) has.more has.are
    (lacks_one values alg register (sym read))) in
    let all : (register + 1) + (23 - register) ≡ 24 = omega arith in
    rw all at (none_later values alg bits (register + 1) (23 - register) here)

pub all_below : (selection : BankSelection) → selected_in selection ≡ selected_below selection.alg selection.bits 24
unfolding all_registers
all_below selection = refl

-- ---- the loop over banks

selected_more : (before : List BankSelection) (selection : BankSelection)
    → selected (before ++ selection ∷ []) ≡ selected before ++ selected_in selection
selected_more before selection =
    flat_map-append selected_in before (selection ∷ []) ∙ ap (λ (t : List (Alg × ℕ)). selected before ++ t) (append-nil (selected_in selection))

-- The hasher has taken the values of the registers of these selections, joined.
pub record HasJoined (hasher : Hasher) (alg : Alg) (values : Values) (selections : List BankSelection) : Type 0 where
  pub text : List ℕ
  pub are : joined values (selected selections) ≡ Some text
  pub taken : HasTaken hasher alg text

pub joins_next : (old new : Hasher) (alg : Alg) (values : Values) (before : List BankSelection) (selection : BankSelection)
    → (has : HasJoined old alg values before) → TakesMore new alg has.text (joined values (selected_in selection))
    → HasJoined new alg values (before ++ selection ∷ [])
joins_next old new alg values before selection has more = record {
  text = has.text ++ more.more;
  are = rw (selected_more before selection) (joined_two values (selected before) (selected_in selection) has.text more.more has.are more.are);
  taken = more.taken_more;
}

pub joins_none : (alg : Alg) (hasher : Hasher) (values : Values) (before : List BankSelection) (selection : BankSelection) (after : List BankSelection)
    → HasJoined hasher alg values before → joined values (selected_in selection) ≡ None
    → joined values (selected ((before ++ selection ∷ []) ++ after)) ≡ None
joins_none alg hasher values before selection after has none =
    rw (flat_map-append selected_in (before ++ selection ∷ []) after)
    (none_with_more values (selected (before ++ selection ∷ [])) (selected after)
    (rw (selected_more before selection) (joined_lacks values (selected before) (selected_in selection) has.text has.are none)))

-- ---- the comparison

pub confirms_by : (alg : Alg) (o : Option (List ℕ)) (digest : List ℕ) (hash : Digest)
    → some_digest hash ≡ option_map (λ bytes. digest_of alg (hash_of alg bytes)) o
    → option_map_or (λ bytes. bytes_eq (hash_of alg bytes) digest) o false ≡ bytes_eq (bytes_of hash) digest
confirms_by alg None digest hash e = absurd cc
confirms_by alg (Some bytes) digest hash e =
    let same : hash ≡ digest_of alg (hash_of alg bytes) = cc in
    ap (λ (t : List ℕ). bytes_eq t digest) (sym (ap bytes_of same ∙ bytes_again alg (hash_of alg bytes)))

pub confirms_not : (alg : Alg) (o : Option (List ℕ)) (digest : List ℕ)
    → no_digest ≡ option_map (λ bytes. digest_of alg (hash_of alg bytes)) o
    → option_map_or (λ bytes. bytes_eq (hash_of alg bytes) digest) o false ≡ false
confirms_not alg None digest e = refl
confirms_not alg (Some bytes) digest e = absurd cc

-- What the loop over registers leaves, at its end.
pub also_takes : (old new : Hasher) (values : Values) (selection : BankSelection) (alg : Alg) (taken : List ℕ)
    → HasAlso old new values (selected_below selection.alg selection.bits 24) → HasTaken old alg taken
    → TakesMore new alg taken (joined values (selected_in selection))
also_takes old new values selection alg taken also has =
    rw (all_below selection) (record { more = also.more; are = also.are; taken_more = also.taken alg taken has })

-- ---- the selections that the code has

pub one_further : (items : List QuotedSelection) (i : ℕ) (d : QuotedSelection) → i < length items
    → map selection_of (take (i + 1) items) ≡ map selection_of (take i items) ++ selection_of (get_or items i d) ∷ []
one_further items i d lt =
    ap (map selection_of) (take_more items i d lt) ∙ map-append selection_of (take i items) (get_or items i d ∷ [])

pub joins_at : (old new : Hasher) (alg : Alg) (values : Values) (items : List QuotedSelection) (i : ℕ) (d : QuotedSelection) → i < length items
    → (has : HasJoined old alg values (map selection_of (take i items)))
    → TakesMore new alg has.text (joined values (selected_in (selection_of (get_or items i d))))
    → HasJoined new alg values (map selection_of (take (i + 1) items))
joins_at old new alg values items i d lt has more =
    rw (one_further items i d lt) (joins_next old new alg values (map selection_of (take i items)) (selection_of (get_or items i d)) has more)

pub lacks_at : (hasher : Hasher) (alg : Alg) (values : Values) (items : List QuotedSelection) (i : ℕ) (d : QuotedSelection) → i < length items
    → HasJoined hasher alg values (map selection_of (take i items))
    → joined values (selected_in (selection_of (get_or items i d))) ≡ None
    → joined values (selected (map selection_of items)) ≡ None
lacks_at hasher alg values items i d lt has none =
    let all : map selection_of items
    ≡ (map selection_of (take i items) ++ selection_of (get_or items i d) ∷ []) ++ map selection_of (drop (i + 1) items) =
    ap (map selection_of) (sym (take-append-drop (i + 1) items)) ∙ map-append selection_of (take (i + 1) items) (drop (i + 1) items)
    ∙ ap (λ (t : List BankSelection). t ++ map selection_of (drop (i + 1) items)) (one_further items i d lt) in
    rw all (joins_none alg hasher values (map selection_of (take i items)) (selection_of (get_or items i d))
    (map selection_of (drop (i + 1) items)) has none)
