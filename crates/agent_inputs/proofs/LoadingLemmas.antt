-- The bytes that a source lost, and why it was not loaded.
use Rattle.std.proofs.Common.{◌≡◌, ℕ, ◌+◌, ◌-◌, ◌<◌, ◌≤◌, List, [], ◌++◌, length, Option, None, Some, Ok, Err, refl, sym, ap, subst, ◌∙◌, inl, inr, Result, string_bytes, append-nil, length-append, arith}
use Rattle.std.specs.Prelude.{◌⊎◌, IfOk, IfSome, MatchResult, String, is_some}
use Rattle.std.specs.Global.{Global}
use Rattle.std.specs.Io.KnownBytes.{Consumes, IsAtEnd, Keeps}
use Rattle.byte_streams.specs.declared.piece_reader.ReadFault.{ReadFault}
use Rattle.byte_streams.specs.declared.piece_reader.ReadFault.TheVariants as reads
use Rattle.byte_streams.specs.Streams.{GivesPiece, SourceState, failures_after_reading}
use Rattle.byte_streams.proofs.SourceLaws.{Consumes-kept, Consumes-none, Consumes-then}
use Rattle.boot_verdict.specs.Names.{failures_after_list}
use Rattle.boot_verdict.specs.declared.verifier.VerifyFault.{VerifyFault}
use Rattle.boot_verdict.specs.declared.verifier.VerifyFault.TheVariants as verdicts
use Rattle.agent_inputs.specs.declared.files.LoadFault.TheVariants.{TooLong}
use Rattle.agent_inputs.specs.Loading.{Drains, HasFailed, LosesMoreThan, failures_after_load, fault_of_reading}

-- A source lost these bytes so far, and has not failed.
pub record HasLost (old new : SourceState) (content : List ℕ) : Type 0 where
  pub lost : Consumes old.remaining new.remaining content
  pub telling : is_some new.remaining ≡ is_some old.remaining
  pub failures : new.failures ≡ old.failures

pub lost_nothing : (old : SourceState) (content : List ℕ) → content ≡ [] → HasLost old old content
lost_nothing old content none = record { lost = rw none (Consumes-none old.remaining); telling = refl; failures = refl }

-- One more piece was lost.
pub lost_more : (old mid new : SourceState) {first : List ℕ} (second : List ℕ) → HasLost old mid first
    → Consumes mid.remaining new.remaining second → is_some new.remaining ≡ is_some mid.remaining → new.failures ≡ mid.failures
    → HasLost old new (first ++ second)
lost_more old mid new {first} second has lost telling failures = record {
  lost = Consumes-then old.remaining mid.remaining new.remaining first second has.lost lost;
  telling = telling ∙ has.telling;
  failures = failures ∙ has.failures;
}

-- It was kept behind those before.
pub lost_piece : (old mid new : SourceState) {before : List ℕ} (after : List ℕ) {count : ℕ} → HasLost old mid before
    → GivesPiece mid.remaining new.remaining before after count → is_some new.remaining ≡ is_some mid.remaining
    → new.failures ≡ mid.failures → HasLost old new after
lost_piece old mid new after has gives telling failures = rw gives.added (lost_more old mid new gives.came has gives.lost telling failures)

-- It lost some bytes, and `room` more are allowed.
pub record HasPassed (limit room : ℕ) (old new : SourceState) : Type 0 where
  pub content : List ℕ
  pub has : HasLost old new content
  pub size : length content + room ≡ limit

pub passed_none : (limit : ℕ) (old : SourceState) → HasPassed limit limit old old
passed_none limit old = record { content = []; has = lost_nothing old [] refl; size = omega arith }

-- One more piece was lost.
pub passed_more : {limit room more : ℕ} (old mid new : SourceState) {before after : List ℕ} {count : ℕ} → HasPassed limit room old mid
    → GivesPiece mid.remaining new.remaining before after count → is_some new.remaining ≡ is_some mid.remaining
    → new.failures ≡ mid.failures → count ≤ room → more ≡ room - count → HasPassed limit more old new
passed_more old mid new passed gives telling failures within is = record {
  content = passed.content ++ gives.came;
  has = lost_more old mid new gives.came passed.has gives.lost telling failures;
  size = omega (arith, passed.size, gives.count_is, within, is, length-append passed.content gives.came);
}

-- One more is over what is allowed.
pub passed_over : {limit room : ℕ} (old mid new : SourceState) {before after : List ℕ} {count : ℕ} → HasPassed limit room old mid
    → GivesPiece mid.remaining new.remaining before after count → is_some new.remaining ≡ is_some mid.remaining
    → new.failures ≡ mid.failures → room < count → (content : List ℕ) × HasLost old new content × (limit < length content)
passed_over old mid new passed gives telling failures more = (
  passed.content ++ gives.came,
  lost_more old mid new gives.came passed.has gives.lost telling failures,
  omega (arith, passed.size, gives.count_is, more, length-append passed.content gives.came),
)

-- A source that has nothing left lost all of its bytes.
pub whole : (old new : Option (List ℕ)) (content : List ℕ) → Consumes old new content → IsAtEnd new → IfSome old (λ all. content ≡ all)
whole None new content lost end = tt
whole (Some all) None content lost end = absurd lost
whole (Some all) (Some rest) content lost end = sym (lost ∙ ap (λ (r : List ℕ). content ++ r) end ∙ append-nil content)

-- A source that lost more bytes than are allowed.
pub over : (old new : Option (List ℕ)) (limit : ℕ) (lost : List ℕ) → Consumes old new lost → limit < length lost → LosesMoreThan limit old new
over None new limit lost came more = tt
over (Some all) None limit lost came more = absurd came
over (Some all) (Some rest) limit lost came more = omega (arith, ap length came, length-append lost rest)

pub had : (old new : Option (List ℕ)) (limit : ℕ) (lost : List ℕ) → Consumes old new lost → limit < length lost
    → IfSome old (λ left. limit < length left)
had None new limit lost came more = tt
had (Some all) None limit lost came more = absurd came
had (Some all) (Some rest) limit lost came more = omega (arith, ap length came, length-append lost rest)

-- A fault that names an input, whose name was copied.
pub named : {E : Type 0} (copied : Result (String Global) E) (name : List ℕ) (Says : String Global → Type 0) (P Q : Type 0)
    → ((copy : String Global) → string_bytes copy ≡ name → Says copy → P)
    → IfOk copied (λ copy. string_bytes copy ≡ name) → MatchResult copied Says (λ _. Q) → P ⊎ Q
named (Ok copy) name Says P Q made names says = inl (made copy names says)
named (Err fault) name Says P Q made names says = inr says

-- A list that was not read since its source failed.
pub source_failed : {A : Type 0} (result : Result A VerifyFault) (fault : VerifyFault) (old new : SourceState) → result ≡ Err fault
    → new.failures ≡ failures_after_list result old.failures → is_some new.remaining ≡ is_some old.remaining → fault ≡ verdicts.Source
    → HasFailed old new
source_failed {A} result fault old new is counts telling source =
    record { counts = subst (λ (r : Result A VerifyFault). new.failures ≡ failures_after_list r old.failures) (is ∙ ap Err source) counts; telling = telling }

-- The fault of a failed read is not that too many bytes came.
pub read_fault_is_not_too_long : (fault : ReadFault) → fault_of_reading fault ≡ TooLong → ⊥
read_fault_is_not_too_long reads.Source is = cc
read_fault_is_not_too_long reads.Memory is = cc

-- It counts as the failure that the source counted.
counts_as_read : (A : Type 0) (fault : ReadFault) (failures : ℕ)
    → failures_after_reading {A = ℕ} (Err fault) failures ≡ failures_after_load {A = A} (Err (fault_of_reading fault)) failures
counts_as_read A reads.Source failures = refl
counts_as_read A reads.Memory failures = refl

-- ---- what a call takes

pub drained_all : {A : Type 0} (limit : ℕ) (old new : SourceState) {content : List ℕ} (value : A) → HasLost old new content
    → IsAtEnd new.remaining → Drains limit old new (Ok value)
drained_all limit old new {content} value has end = record {
  end = end;
  too_long = λ is. absurd (cc);
  prefix = record { prefix = content; lost = has.lost };
  telling = has.telling;
  counts = has.failures;
}

pub drained_more : {A : Type 0} (limit : ℕ) (old new : SourceState) {content : List ℕ} → HasLost old new content → limit < length content
    → Drains {A = A} limit old new (Err TooLong)
drained_more limit old new {content} has more = record {
  end = tt;
  too_long = λ _. over old.remaining new.remaining limit content has.lost more;
  prefix = record { prefix = content; lost = has.lost };
  telling = has.telling;
  counts = has.failures;
}

pub drained_failed : {A : Type 0} (limit : ℕ) (old mid new : SourceState) {content : List ℕ} (fault : ReadFault) → HasLost old mid content
    → Keeps mid.remaining new.remaining → is_some new.remaining ≡ is_some mid.remaining
    → new.failures ≡ failures_after_reading {A = ℕ} (Err fault) mid.failures → Drains {A = A} limit old new (Err (fault_of_reading fault))
drained_failed {A} limit old mid new {content} fault has kept telling counts = record {
  end = tt;
  too_long = λ is. absurd (read_fault_is_not_too_long fault (cc));
  prefix = record {
    prefix = content;
    lost = Consumes-kept old.remaining mid.remaining new.remaining content has.lost kept;
  };
  telling = telling ∙ has.telling;
  counts = rw has.failures at (counts ∙ counts_as_read A fault mid.failures);
}

-- Nothing was taken since.
pub kept_same : (known : Option (List ℕ)) → Keeps known known
kept_same None = tt
kept_same (Some bytes) = refl
