-- What was made, once it is given, is an answer.
use Rattle.std.proofs.Common.{◌≡◌, ℕ, arith, Bool, true, false, List, [], refl, sym, ◌∙◌, subst, inl, inr, Option, Some}
use Rattle.std.specs.Prelude.{ℤ, ◌⊎◌}
use Rattle.agent_inputs.specs.declared.fault.RunFault.{RunFault}
use Rattle.agent_inputs.specs.declared.fault.RunFault.TheVariants.{Memory}
use Rattle.cells.specs.declared.writer.Form.{Form}
use Rattle.judging.specs.Requests.{Requested, Signing}
use Rattle.rendering.specs.Summaries.{no_summary}
use Rattle.ima_verify_c.specs.declared.text_info.TextInfo.{TextInfo}
use Rattle.ima_verify_c.specs.Answers.{Answers, AnswersAsked, AnswersCounted, AnswersMore, HasNoAnswerOn, HasNoNonce, IsAnswerAndNext, IsAnswerTo, IsAnswerWith, IsNoNonce, IsNoReport, IsRefusal}
use Rattle.ima_verify_c.specs.Numbers.{numbers_if}
use Rattle.ima_verify_c.specs.Requests.{Asked, AsksFor, Misused, NotHexadecimal, asked_with}

-- The reason of a refusal is one of a fault and `Memory`, which both have this property.
caused : (Reason : RunFault → Type 0) (form : Form) (fault : RunFault) (text : List ℕ) (status : ℕ) (given : Option RunFault)
    → Reason fault → Reason Memory → IsRefusal (λ reason. (reason ≡ fault) ⊎ (reason ≡ Memory)) form text status given
    → IsRefusal Reason form text status given
caused Reason form fault text status given here memory (reason, is, inl same, line) = (reason, is, subst Reason (sym same) here, line)
caused Reason form fault text status given here memory (reason, is, inr same, line) = (reason, is, subst Reason (sym same) memory, line)

-- The line of a fault or of `Memory` is that of a fault with a reason that both have.
pub refused : (Reason : RunFault → Type 0) (form : Form) (fault : RunFault) (answer : ℤ) (info : TextInfo) (old new : List ℕ)
    → Reason fault → Reason Memory → Answers (IsRefusal (λ reason. (reason ≡ fault) ⊎ (reason ≡ Memory)) form) answer info old new
    → Answers (IsRefusal Reason form) answer info old new
refused Reason form fault answer info old new here memory given = record {
  text = given.text;
  status = given.status;
  fault = given.fault;
  is_answer = caused Reason form fault _ _ _ here memory given.is_answer;
  given = given.given;
}

-- The numbers of no verdict, whether a text fits or not.
no_numbers : (fits : Bool) (old : List ℕ) → numbers_if false no_summary old ≡ numbers_if fits no_summary old
no_numbers false old = refl
no_numbers true old = refl

module _ (request : Requested) (form : Form) (fault : RunFault) (answer : ℤ) (info : TextInfo) (old new : List ℕ) (reason : HasNoAnswerOn request fault)
    (given : Answers (IsRefusal (λ reason. (reason ≡ fault) ⊎ (reason ≡ Memory)) form) answer info old new) where
  refusal : Answers (IsRefusal (HasNoAnswerOn request) form) answer info old new
  refusal = refused (HasNoAnswerOn request) form fault answer info old new reason (inr refl) given

  -- The line of a fault was given.
  pub gives_refusal : Answers (IsAnswerTo request form) answer info old new
  gives_refusal = record {
    text = refusal.text;
    status = refusal.status;
    fault = refusal.fault;
    is_answer = (no_summary, ([], inr (refusal.is_answer, refl, refl)));
    given = refusal.given;
  }

  -- So it was, with the numbers of no verdict.
  pub counts_refusal : (numbers_old numbers_new : List ℕ) → numbers_new ≡ numbers_if false no_summary numbers_old
      → AnswersCounted (IsAnswerWith request form) answer info old new numbers_old numbers_new
  counts_refusal numbers_old numbers_new none = record {
    text = refusal.text;
    status = refusal.status;
    fault = refusal.fault;
    summary = no_summary;
    is_answer = ([], inr (refusal.is_answer, refl, refl));
    given = refusal.given;
    numbers_are = none ∙ no_numbers _ numbers_old;
  }

-- Beside the line of a fault there is no checkpoint.
pub reports_nothing : (Reason : RunFault → Type 0) (form : Form) (answer : ℤ) (info : TextInfo) (old new numbers_old numbers_new next : List ℕ)
    → numbers_new ≡ numbers_if false no_summary numbers_old → Answers (IsRefusal Reason form) answer info old new
    → AnswersMore (IsNoReport Reason form) answer info old new numbers_old numbers_new 0 next next
reports_nothing Reason form answer info old new numbers_old numbers_new next none given = record {
  text = given.text;
  status = given.status;
  fault = given.fault;
  state = [];
  summary = no_summary;
  is_answer = (given.is_answer, refl, refl);
  given = record {
    next_size_is = refl;
    fits = λ fits next-fits. (given.given.fits fits, refl);
    short = λ short. (given.given.short (elim short [ inl text ↦ text | inr none ↦ omega (arith, none) ]), refl);
  };
  numbers_are = none ∙ no_numbers _ numbers_old;
}

module _ (form : Form) (fault : RunFault) (answer : ℤ) (info : TextInfo) (old new numbers_old numbers_new : List ℕ) (next_size : ℕ)
    (next_old next_new : List ℕ) (given : AnswersMore (IsNoReport (λ reason. (reason ≡ fault) ⊎ (reason ≡ Memory)) form) answer info old new
    numbers_old numbers_new next_size next_old next_new) where
  no_report : (Reason : RunFault → Type 0) → Reason fault → Reason Memory
      → IsNoReport Reason form given.text given.status given.fault given.state given.summary
  no_report Reason here memory = (caused Reason form fault _ _ _ here memory given.is_answer.0, given.is_answer.1, given.is_answer.2)

  -- The fault is why there is no answer.
  pub gives_no_answer : (request : Requested) → HasNoAnswerOn request fault
      → AnswersMore (IsAnswerAndNext request form) answer info old new numbers_old numbers_new next_size next_old next_new
  gives_no_answer request reason = record {
    text = given.text;
    status = given.status;
    fault = given.fault;
    state = given.state;
    summary = given.summary;
    is_answer = inr (no_report (HasNoAnswerOn request) reason (inr refl));
    given = given.given;
    numbers_are = given.numbers_are;
  }

  -- It is why there is no nonce.
  pub gives_no_nonce : (signing : Signing) (nonce : Asked (List ℕ)) (asks : Signing → List ℕ → Requested) → IsNoNonce nonce fault
      → AnswersAsked (asked_with (Some signing) nonce asks) form answer info old new numbers_old numbers_new next_size next_old next_new
  gives_no_nonce signing Misused asks none = absurd none
  gives_no_nonce signing NotHexadecimal asks none = record {
    text = given.text;
    status = given.status;
    fault = given.fault;
    state = given.state;
    summary = given.summary;
    is_answer = no_report HasNoNonce none (inr refl);
    given = given.given;
    numbers_are = given.numbers_are;
  }
  gives_no_nonce signing (AsksFor nonce) asks memory = gives_no_answer (asks signing nonce) (inr memory)
