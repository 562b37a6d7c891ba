-- Digests that are collected, line by line and text by text.
use Rattle.std.proofs.Common.{◌≡◌, ℕ, ◌+◌, ◌<◌, ◌≤◌, List, [], ◌∷◌, ◌++◌, length, take, Result, Err, refl, sym, ap, subst, ◌∙◌, arith, append_assoc, append-nil}
use Rattle.std.specs.Prelude.{◌||◌, bytes_eq}
use Rattle.std.specs.List.{AllByRecursion, list_any}
use Rattle.std.proofs.lemmas.List.{length-append, take_at}
use Rattle.std.proofs.lemmas.List.Elements.{filter_map-append}
use Rattle.std.proofs.lemmas.List.Folds.{list_any-append}
use Rattle.std.proofs.Math.Bool.{or-false}
use Rattle.pcr_banks.specs.declared.alg.Alg.TheVariants.{Sha1, Sha256, Sha384, Sha512}
use Rattle.pcr_banks.specs.Names.{alg_of, bytes_of}
use Rattle.known_files.specs.declared.fault.KnownFault.{KnownFault}
use Rattle.known_files.specs.declared.listed.ListedFiles.{ListedFiles}
use Rattle.known_files.specs.DigestLines.{digest_on}
use Rattle.known_files.specs.Listing.{BeginsWithGood, HasFaultOfFirst, IsFaultOfLine, IsGoodLine, bytes_by, is_listed, lines_of, lists, said_by}
use Rattle.known_files.specs.Known.{AddsLines, HoldsAll, HoldsMore, HoldsSame, counts_of, digests_in}

-- One result has one fault.
pub fault_is : {A E : Type 0} (r : Result A E) (y f g : E) → r ≡ Err y → y ≡ f → r ≡ Err g → f ≡ g
fault_is r y f g a b c = cc

-- ---- dropping what was added

pub truncated : (old now new : ListedFiles) (counts : ℕ × ℕ × ℕ) → counts ≡ counts_of old → HoldsMore old now
    → new.sha256.items ≡ take counts.0 now.sha256.items → new.sha384.items ≡ take counts.1 now.sha384.items
    → new.sha512.items ≡ take counts.2 now.sha512.items → HoldsSame old new
truncated old now new counts are more first second third Sha1 = refl
truncated old now new counts are more first second third Sha256 =
    first ∙ ap (λ c. take c.0 now.sha256.items) are ∙ ap (take (length old.sha256.items)) (more Sha256).1
    ∙ take_at old.sha256.items (more Sha256).0 (length old.sha256.items) refl
truncated old now new counts are more first second third Sha384 =
    second ∙ ap (λ c. take c.1 now.sha384.items) are ∙ ap (take (length old.sha384.items)) (more Sha384).1
    ∙ take_at old.sha384.items (more Sha384).0 (length old.sha384.items) refl
truncated old now new counts are more first second third Sha512 =
    third ∙ ap (λ c. take c.2 now.sha512.items) are ∙ ap (take (length old.sha512.items)) (more Sha512).1
    ∙ take_at old.sha512.items (more Sha512).0 (length old.sha512.items) refl

-- ---- line by line

-- The lines before `rest` are read.
pub record ReadsSome (text : List ℕ) (old now : ListedFiles) (number : ℕ) (rest : List ℕ) : Type 0 where
  pub before : List (List ℕ)
  pub parts : lines_of text ≡ before ++ lines_of rest
  pub good : AllByRecursion IsGoodLine before
  pub count : length before ≡ number
  pub adds : AddsLines old before now
  pub within : number + length rest ≤ length text

pub reads_none : (text : List ℕ) (old : ListedFiles) → ReadsSome text old old 0 text
reads_none text old = record {
  before = [];
  parts = refl;
  good = tt;
  count = refl;
  adds = λ alg. sym (append-nil (digests_in old alg));
  within = omega arith;
}

good_more : (before : List (List ℕ)) (line : List ℕ) → AllByRecursion IsGoodLine before → IsGoodLine line
    → AllByRecursion IsGoodLine (before ++ line ∷ [])
good_more [] line all one = (one, tt)
good_more (first ∷ before) line all one = (all.0, good_more before line all.1 one)

adds_more : (old now next : ListedFiles) (before lines : List (List ℕ)) → AddsLines old before now → AddsLines now lines next
    → AddsLines old (before ++ lines) next
adds_more old now next before lines some more alg =
    more alg ∙ ap (λ l. l ++ said_by alg lines) (some alg) ∙ append_assoc (digests_in old alg) (said_by alg before) (said_by alg lines)
    ∙ ap (λ l. digests_in old alg ++ l) (sym (filter_map-append (λ line. bytes_by alg (digest_on line)) before lines))

module _ {text rest line : List ℕ} (after : List ℕ) {old now : ListedFiles} {number : ℕ} (on : ReadsSome text old now number rest)
    (first : lines_of rest ≡ line ∷ lines_of after) where
  parts_at : lines_of text ≡ on.before ++ line ∷ lines_of after
  parts_at = on.parts ∙ ap (λ l. on.before ++ l) first

  pub reads_more : {next : ListedFiles} → length after < length rest → IsGoodLine line → AddsLines now (line ∷ []) next
      → ReadsSome text old next (number + 1) after
  reads_more {next} shorter good adds = record {
    before = on.before ++ line ∷ [];
    parts = parts_at ∙ sym (append_assoc on.before (line ∷ []) (lines_of after));
    good = good_more on.before line on.good good;
    count = length-append on.before (line ∷ []) ∙ ap (λ n. n + 1) on.count;
    adds = adds_more old now next on.before (line ∷ []) on.adds adds;
    within = omega (arith, on.within, shorter);
  }

  pub fault_here : (fault : KnownFault) → IsFaultOfLine line (number + 1) fault → HasFaultOfFirst text fault
  fault_here fault wrong = record {
    before = on.before;
    line = line;
    after = lines_of after;
    parts = parts_at;
    good = on.good;
    fault_is = subst (λ n. IsFaultOfLine line n fault) (ap (λ n. n + 1) (sym on.count)) wrong;
  }

-- Where a line is good, and those before it are, the first is.
begins_good : (text line : List ℕ) (before after : List (List ℕ)) → lines_of text ≡ before ++ line ∷ after → AllByRecursion IsGoodLine before
    → IsGoodLine line → BeginsWithGood text
begins_good text line [] after parts good here = record { line = line; after = after; parts = parts; good = here }
begins_good text line (first ∷ before) after parts good here =
    record { line = first; after = before ++ line ∷ after; parts = parts; good = good.0 }

pub begins_here : {text rest line : List ℕ} (after : List ℕ) {old now : ListedFiles} {number : ℕ} (on : ReadsSome text old now number rest)
    → lines_of rest ≡ line ∷ lines_of after → IsGoodLine line → BeginsWithGood text
begins_here {text} {rest} {line} after on first here =
    begins_good text line on.before (lines_of after) (on.parts ∙ ap (λ l. on.before ++ l) first) on.good here

-- What was added before a fault.
pub holds_more : {text rest : List ℕ} {old now : ListedFiles} {number : ℕ} (next : ListedFiles) → ReadsSome text old now number rest
    → HoldsSame now next → HoldsMore old next
holds_more next on same alg = (said_by alg on.before, same alg ∙ on.adds alg)

all_read : {text rest : List ℕ} {old now : ListedFiles} {number : ℕ} → (on : ReadsSome text old now number rest) → rest ≡ []
    → on.before ≡ lines_of text
all_read on end = sym (on.parts ∙ ap (λ r. on.before ++ lines_of r) end ∙ append-nil on.before)

pub adds_all : {text rest : List ℕ} {old now : ListedFiles} {number : ℕ} → (on : ReadsSome text old now number rest) → rest ≡ []
    → AddsLines old (lines_of text) now
adds_all {text} {rest} {old} {now} on end = subst (λ lines. AddsLines old lines now) (all_read on end) on.adds

pub good_all : {text rest : List ℕ} {old now : ListedFiles} {number : ℕ} → (on : ReadsSome text old now number rest) → rest ≡ []
    → AllByRecursion IsGoodLine (lines_of text)
good_all on end = subst (λ lines. AllByRecursion IsGoodLine lines) (all_read on end) on.good

-- ---- text by text

pub holds_text : (old new : ListedFiles) (text : List ℕ) → AddsLines old (lines_of text) new → (texts : List (List ℕ)) → HoldsAll texts old
    → HoldsAll (texts ++ text ∷ []) new
holds_text old new text adds texts holds digest =
    let test = bytes_eq (bytes_of digest) in
    let alg = alg_of digest in
    ap (list_any test) (adds alg) ∙ list_any-append test (digests_in old alg) (said_by alg (lines_of text))
    ∙ ap (λ b. b || lists text digest) (holds digest)
    ∙ ap (λ b. is_listed texts digest || b) (sym (or-false (lists text digest)))
    ∙ sym (list_any-append (λ t. lists t digest) texts (text ∷ []))
