-- The fields of the kernel's other templates: what is read of a payload is what the payload is made of.
use Rattle.std.proofs.Common.{◌≡◌, ◌↔◌, ℕ, ◌^◌, ◌<◌, ◌&&◌, Bool, true, false, cond, List, [], ◌∷◌, ◌++◌, length, Option, Some, None, Result, Ok, Err, refl, sym, ap, subst, ◌∙◌, arith}
use Rattle.std.specs.Prelude.{map, flat_map}
use Rattle.std.proofs.lemmas.Bool.{eqb-true}
use Rattle.std.specs.List.{AllByRecursion}
use Rattle.std.specs.Result.{result_ok}
use Rattle.byte_fields.specs.Spelling.{sized32}
use Rattle.byte_fields.proofs.Steps.{IsBytes}
use Rattle.byte_fields.proofs.FormatLaws.{IsBytes-behind, again, sized_exact, takes}
use Rattle.ima_list.specs.declared.kernel_field.KernelField.{KernelField}
use Rattle.ima_list.specs.KernelFields.{content_at, field_at}
use Rattle.ima_list.specs.Names.{AreFields, FieldData, FieldsRead, IsField, and_more, fields_at, if_content, is_content, is_end}

-- ---- one field

some_if : (b : Bool) (x y : List ℕ × List ℕ) → cond b (Some x) None ≡ Some y → (b ≡ true) × (x ≡ y)
some_if true x y e = (refl, cc)
some_if false x y e = absurd cc

record TakesField (kind : KernelField) (bytes : List ℕ) (found : List ℕ × List ℕ) : Type 0 where
  pub parts : bytes ≡ sized32 found.0 ++ found.1
  pub is : IsField (record { kind = kind; content = found.0 })
  pub rest_fits : IsBytes found.1

taken_of : (kind : KernelField) (bytes : List ℕ) (r : Result (List ℕ × List ℕ) (Unit {0})) (found : List ℕ × List ℕ) → content_at bytes ≡ r
    → IsBytes bytes → if_content kind (result_ok r) ≡ Some found → TakesField kind bytes found
taken_of kind bytes (Err fault) found e fits is = absurd cc
taken_of kind bytes (Ok x) found e fits is =
    let taken = takes (sized_exact {P = λ fault. Unit {0}} (tt {0}) tt) bytes x fits e in
    let same = some_if (is_content kind x.0) x found is in
    subst (λ (f : List ℕ × List ℕ). TakesField kind bytes f) same.1 (record {
      parts = taken.parts;
      is = record { content = same.0; size = taken.is.0.0 };
      rest_fits = IsBytes-behind bytes (sized32 x.0) x.1 taken.parts fits;
    })

field_taken : (kind : KernelField) (bytes : List ℕ) (found : List ℕ × List ℕ) → IsBytes bytes → field_at kind bytes ≡ Some found
    → TakesField kind bytes found
field_taken kind bytes found fits e = taken_of kind bytes (content_at bytes) found refl fits e

field_again : (field : FieldData) (rest : List ℕ) → IsField field
    → field_at field.kind (sized32 field.content ++ rest) ≡ Some (field.content, rest)
field_again field rest is =
    let read : content_at (sized32 field.content ++ rest) ≡ Ok (field.content, rest) =
    again (sized_exact {P = λ fault. Unit {0}} (tt {0}) tt) field.content rest ((is.size, refl), refl) in
    rw (read, is.content) refl

-- ---- a row of them

abbrev Reads : List KernelField → List ℕ → FieldsRead → Type 0
Reads row bytes read = is_end read.1 ≡ true → AreFields row bytes read.0

first_of : (a b : Bool) → a && b ≡ true → a ≡ true
first_of true b e = refl
first_of false b e = absurd cc

no_row : (kind : KernelField) (row : List KernelField) (bytes : List ℕ) → is_end (kind ∷ row, bytes) ≡ true → ⊥
no_row kind row bytes e = absurd (omega (arith, eqb-true (length (kind ∷ row)) 0 (first_of _ _ e)))

reads_none : (bytes : List ℕ) → Reads [] bytes ([], ([], bytes))
reads_none [] end = record { kinds_are = refl; each = tt; spelled = refl }
reads_none (b ∷ bytes) end = absurd (omega (arith, eqb-true (length (b ∷ bytes)) 0 end))

reads_more : (kind : KernelField) (row : List KernelField) (bytes : List ℕ) (found : Option (List ℕ × List ℕ)) → field_at kind bytes ≡ found
    → IsBytes bytes → (others : (rest : List ℕ) → IsBytes rest → Reads row rest (fields_at row rest))
    → Reads (kind ∷ row) bytes (and_more kind row bytes found (λ rest. fields_at row rest))
reads_more kind row bytes None e fits others end = absurd (no_row kind row bytes end)
reads_more kind row bytes (Some found) e fits others end =
    let here = field_taken kind bytes found fits e in
    let after = others found.1 here.rest_fits end in
    record {
      kinds_are = ap (λ (k : List KernelField). kind ∷ k) after.kinds_are;
      each = (here.is, after.each);
      spelled = here.parts ∙ ap (λ (t : List ℕ). sized32 found.0 ++ t) after.spelled;
    }

fields_read : (row : List KernelField) (bytes : List ℕ) → IsBytes bytes → Reads row bytes (fields_at row bytes)
unfolding fields_at
fields_read [] bytes fits = reads_none bytes
fields_read (kind ∷ row) bytes fits =
    reads_more kind row bytes (field_at kind bytes) refl fits (λ rest rest_fits. fields_read row rest rest_fits)

fields_again : (fields : List FieldData) → AllByRecursion IsField fields
    → fields_at (map (λ field. field.kind) fields) (flat_map (λ field. sized32 field.content) fields) ≡ (fields, ([], []))
unfolding fields_at
fields_again [] each = refl
fields_again (field ∷ fields) each =
    rw (field_again field (flat_map (λ f. sized32 f.content) fields) each.0, fields_again fields each.1) refl

abbrev whole : List FieldData → FieldsRead
whole fields = (fields, ([], []))

are_read : (row : List KernelField) (payload : List ℕ) (fields : List FieldData) → AreFields row payload fields
    → fields_at row payload ≡ whole fields
are_read row payload fields are = rw (are.spelled, sym are.kinds_are) (fields_again fields are.each)

some_is : (x y : List FieldData) → Some x ≡ Some y → x ≡ y
some_is x y e = cc

none_is : (x : List FieldData) → None ≡ Some x → ⊥
none_is x e = absurd cc

not_end : (read : FieldsRead) (fields : List FieldData) → is_end read.1 ≡ false → read ≡ whole fields → ⊥
not_end read fields end e = absurd cc

pub are_if_read : (row : List KernelField) (bytes : List ℕ) → IsBytes bytes → is_end (fields_at row bytes).1 ≡ true → (fields : List FieldData)
    → (Some (fields_at row bytes).0 ≡ Some fields) ↔ AreFields row bytes fields
are_if_read row bytes fits end fields = (
  λ e. subst (λ (f : List FieldData). AreFields row bytes f) (some_is (fields_at row bytes).0 fields e) (fields_read row bytes fits end),
  λ are. ap (λ (read : FieldsRead). Some read.0) (are_read row bytes fields are),
)

pub none_if_unread : (row : List KernelField) (bytes : List ℕ) → is_end (fields_at row bytes).1 ≡ false → (fields : List FieldData)
    → (None ≡ Some fields) ↔ AreFields row bytes fields
none_if_unread row bytes end fields =
    (λ e. absurd (none_is fields e), λ are. absurd (not_end (fields_at row bytes) fields end (are_read row bytes fields are)))
