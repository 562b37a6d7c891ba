-- Two entries with one line are one entry.
use Rattle.std.proofs.Common.{◌≡◌, ℕ, ◌^◌, ◌<◌, Bool, true, false, cond, List, Option, Some, None, refl, sym, ap, subst, ◌∙◌, arith, codes}
use Rattle.std.specs.Str.{is_utf8}
use Rattle.std.proofs.lemmas.Fmt.{decimal_injective}
use Rattle.hex.specs.Hex.{IsBytes, decode_of, encode_lower}
use Rattle.hex.proofs.HexLemmas.{decode_of-encode_lower}
use Rattle.pcr_banks.proofs.AlgLaws.{same_name_is}
use Rattle.ima_list.specs.declared.template.Template.{Template}
use Rattle.ima_list.specs.declared.template.Template.TheVariants.{Ima, ImaNg, ImaSig}
use Rattle.ima_list.specs.Names.{FieldData, FileFields, HasFields, IsMadeOf, ListEntry, fields_of, kernel_fields_of, no_fields, row_spelling, row_told, template_name, template_named, template_row}
use Rattle.cells.specs.Values.{line_of, members_of, shown_name, shown_text}
use Rattle.entry_lines.specs.EntryJson.{HasBytes, IsKnown, content_members, entry_json, signature_members}
use Rattle.cells.proofs.LineLaws.{same_line}
use Rattle.entry_lines.proofs.EntryLaws.{entry_line}

-- ---- bytes

hex_same : (xs ys : List ℕ) → IsBytes xs → IsBytes ys → encode_lower xs ≡ encode_lower ys → xs ≡ ys
hex_same xs ys first second same =
    let decoded = sym (decode_of-encode_lower xs first) ∙ ap decode_of same ∙ decode_of-encode_lower ys second in
    cc decoded

shown_by : (b c : Bool) (name hex_name xs ys : List ℕ) → (name ≡ hex_name → ⊥) → IsBytes xs → IsBytes ys
    → cond b name hex_name ≡ cond c name hex_name → cond b xs (encode_lower xs) ≡ cond c ys (encode_lower ys) → xs ≡ ys
shown_by true true name hex_name xs ys apart first second names texts = texts
shown_by true false name hex_name xs ys apart first second names texts = absurd (apart names)
shown_by false true name hex_name xs ys apart first second names texts = absurd (apart (sym names))
shown_by false false name hex_name xs ys apart first second names texts = hex_same xs ys first second texts

shown_same : (name hex_name xs ys : List ℕ) → (name ≡ hex_name → ⊥) → IsBytes xs → IsBytes ys
    → shown_name name hex_name xs ≡ shown_name name hex_name ys → shown_text xs ≡ shown_text ys → xs ≡ ys
shown_same name hex_name xs ys = shown_by (is_utf8 xs) (is_utf8 ys) name hex_name xs ys

-- ---- fields

sig_same : (template : Template) (f g : FileFields) → f ≡ row_told (template_row template) f no_fields
    → g ≡ row_told (template_row template) g no_fields → IsBytes f.sig → IsBytes g.sig
    → members_of (signature_members (Some template) f.sig) ≡ members_of (signature_members (Some template) g.sig) → f.sig ≡ g.sig
sig_same Ima f g first second fits others same = ap (λ (x : FileFields). x.sig) first ∙ sym (ap (λ (x : FileFields). x.sig) second)
sig_same ImaNg f g first second fits others same = ap (λ (x : FileFields). x.sig) first ∙ sym (ap (λ (x : FileFields). x.sig) second)
sig_same ImaSig f g first second fits others same = hex_same f.sig g.sig fits others (cc same)

made_same : (template : Template) (p q : List ℕ) (f g : FileFields) (o r : Option (List FieldData)) → IsMadeOf template p f → IsMadeOf template q g → HasBytes f → HasBytes g
    → members_of (content_members (Some template) (Some f) o p) ≡ members_of (content_members (Some template) (Some g) r q) → p ≡ q
made_same template p q f g o r first second fits others same =
    let alg = same_name_is f.alg g.alg (cc same) in
    let digest = hex_same f.digest g.digest fits.digest others.digest (cc same) in
    let path = shown_same (codes "path") (codes "path_hex") f.path g.path (λ e. absurd cc) fits.path others.path (cc same) (cc same) in
    let sig = sig_same template f g first.no_more second.no_more fits.sig others.sig (cc same) in
    let fields : f ≡ g = λ i. record { alg = alg i; digest = digest i; path = path i; sig = sig i } in
    first.payload_is ∙ ap (row_spelling (template_row template)) fields ∙ sym second.payload_is

-- ---- entries

named_again : (template : Template) → template_named (template_name template) ≡ Some template
named_again Ima = refl
named_again ImaNg = refl
named_again ImaSig = refl

-- The template by name of an entry that has fields, and what its payload is made of.
has_made : (entry : ListEntry) (fields : FileFields) → HasFields entry fields
    → (template : Template) × (template_named entry.name ≡ Some template) × IsMadeOf template entry.payload fields
has_made entry fields has = (has.template, ap template_named has.name_is ∙ named_again has.template, has.made)

content_same : (first second : ListEntry) (f g : Option FileFields) (o r : Option (List FieldData)) → IsKnown first → IsKnown second
    → fields_of first ≡ f → fields_of second ≡ g → first.name ≡ second.name
    → members_of (content_members (template_named first.name) f o first.payload)
    ≡ members_of (content_members (template_named second.name) g r second.payload) → first.payload ≡ second.payload
content_same first second (Some f) (Some g) o r known others is other name same =
    let made = has_made first f (known.fields f is).0 in
    let again = has_made second g (others.fields g other).0 in
    let both : Some made.0 ≡ Some again.0 = sym made.1 ∙ ap template_named name ∙ again.1 in
    let template : made.0 ≡ again.0 = cc both in
    let made_again = subst (λ (t : Template). IsMadeOf t second.payload g) (sym template) again.2 in
    made_same made.0 first.payload second.payload f g o r made.2 made_again (known.fields f is).1 (others.fields g other).1
    (rw (made.1, again.1, ← template) at same)
content_same first second (Some f) None o r known others is other name same = absurd cc
content_same first second None (Some g) o r known others is other name same = absurd cc
content_same first second None None o r known others is other name same =
    hex_same first.payload second.payload known.payload_bytes others.payload_bytes (cc same)

pub same_entry : (place other : ℕ) (first second : ListEntry) → place < 2 ^ 64 → other < 2 ^ 64 → IsKnown first → IsKnown second
    → line_of (entry_json place first) ≡ line_of (entry_json other second) → (place ≡ other) × (first ≡ second)
same_entry place other first second fits others known known_other line =
    let value = same_line (entry_json place first) (entry_json other second)
    (entry_line place first fits known.is) (entry_line other second others known_other.is) line in
    let register = decimal_injective first.register second.register (omega (arith, known.is.register_exists))
    (omega (arith, known_other.is.register_exists)) (cc value) in
    let name = shown_same (codes "template") (codes "template_hex") first.name second.name (λ e. absurd cc) known.name_bytes
    known_other.name_bytes (cc value) (cc value) in
    let digest = hex_same first.digest second.digest known.digest_bytes known_other.digest_bytes (cc value) in
    let payload = content_same first second (fields_of first) (fields_of second) (kernel_fields_of first) (kernel_fields_of second) known known_other refl refl name (cc value) in
    (decimal_injective place other fits others (cc value), λ i. record { register = register i; digest = digest i; name = name i; payload = payload i })
