-- What was made of the PCRs that match, or of a boot, once it is given.
use Rattle.std.proofs.Common.{◌≡◌, ℕ, List, refl, inl, inr, Option, None, Some, Result, Ok, Err}
use Rattle.std.specs.Prelude.{ℤ, ◌⊎◌, IfErr, IfOk}
use Rattle.agent_inputs.specs.declared.fault.RunFault.{RunFault}
use Rattle.agent_inputs.specs.declared.fault.RunFault.TheVariants.{Memory}
use Rattle.cells.specs.declared.writer.Form.{Form}
use Rattle.confirming.specs.Matching.{Confirmation}
use Rattle.rendering.specs.declared.outputs.Output.{Output}
use Rattle.ima_verify_c.specs.declared.text_info.TextInfo.{TextInfo}
use Rattle.ima_verify_c.specs.Answers.{Answers, HasNoNonce, IsNoNonce, IsRefusal, answer_of_status}
use Rattle.ima_verify_c.specs.Boot.{AnswersTo, GivesOutput, IsNotAsked, IsOutputOr, asked_with_nonce, with_nonce}
use Rattle.ima_verify_c.specs.Requests.{Asked, AsksFor, Misused, NotHexadecimal}
use Rattle.ima_verify_c.proofs.GivingLaws.{refused}

module _ (form : Form) (answer : ℤ) (info : TextInfo) (old new : List ℕ) where
  -- The line of a fault with this reason.
  module _ (IsWanted : List ℕ → ℕ → Type 0) (HasReason : RunFault → Type 0) where
    pub gives_refusal : (fault : RunFault) → HasReason fault ⊎ (fault ≡ Memory)
        → Answers (IsRefusal (λ reason. (reason ≡ fault) ⊎ (reason ≡ Memory)) form) answer info old new
        → Answers (IsOutputOr IsWanted HasReason form) answer info old new
    gives_refusal fault reason given =
        let all = refused (λ (r : RunFault). HasReason r ⊎ (r ≡ Memory)) form fault answer info old new reason (inr refl) given in
        record { text = all.text; status = all.status; fault = all.fault; is_answer = inr all.is_answer; given = all.given }

    -- What was made.
    pub gives_output : (made : Result Output RunFault) → IfOk made (λ output. IsWanted output.text.items output.status)
        → IfErr made (λ fault. HasReason fault ⊎ (fault ≡ Memory)) → GivesOutput form made answer info old new
        → Answers (IsOutputOr IsWanted HasReason form) answer info old new
    gives_output (Ok output) wanted reason given = record {
      text = output.text.items;
      status = answer_of_status output.status;
      fault = None;
      is_answer = inl (refl, (output.status, wanted, refl));
      given = given;
    }
    gives_output (Err fault) wanted reason given = gives_refusal fault reason given

  -- What is asked for, and given.
  module _ (IsWanted : Confirmation → List ℕ → ℕ → Type 0) (HasReason : Confirmation → RunFault → Type 0) (found : Option Confirmation)
      (nonce : Asked (List ℕ)) where
    abbrev pub Gives : Type 0
    Gives = AnswersTo (asked_with_nonce found nonce) form (λ c. IsOutputOr (IsWanted c) (HasReason c) form) answer info old new

    pub not_asked : found ≡ None → IsNotAsked answer info old new → Gives
    not_asked none is = rw none is

    pub two_nonces : (confirmation : Confirmation) → found ≡ Some confirmation → nonce ≡ Misused → IsNotAsked answer info old new → Gives
    two_nonces confirmation some misused is = rw (some, misused) is

    pub no_nonce : (confirmation : Confirmation) (fault : RunFault) → found ≡ Some confirmation → IsNoNonce nonce fault
        → Answers (IsRefusal (λ reason. (reason ≡ fault) ⊎ (reason ≡ Memory)) form) answer info old new → Gives
    no_nonce confirmation fault some none given = rw some (of_nonce nonce none) where
      of_nonce : (n : Asked (List ℕ)) → IsNoNonce n fault
          → AnswersTo (asked_with_nonce (Some confirmation) n) form (λ c. IsOutputOr (IsWanted c) (HasReason c) form) answer info old new
      of_nonce Misused none = absurd none
      of_nonce NotHexadecimal none = refused HasNoNonce form fault answer info old new none (inr refl) given
      of_nonce (AsksFor n) memory =
          let c = with_nonce confirmation n in gives_refusal (IsWanted c) (HasReason c) fault (inr memory) given

    pub gives_asked : (confirmation : Confirmation) (n : List ℕ) → found ≡ Some confirmation → nonce ≡ AsksFor n
        → Answers (IsOutputOr (IsWanted (with_nonce confirmation n)) (HasReason (with_nonce confirmation n)) form) answer info old new → Gives
    gives_asked confirmation n some asks given = rw (some, asks) given

-- A reason is one, or memory ran out.
pub or_memory : {A : Type 0} (HasReason : RunFault → Type 0) (made : Result A RunFault) → IfErr made HasReason
    → IfErr made (λ fault. HasReason fault ⊎ (fault ≡ Memory))
or_memory HasReason (Ok output) reason = tt
or_memory HasReason (Err fault) reason = inl reason
