-- Each error that a call reports has a text.
use Rattle.std.proofs.Common.{◌≡◌, ℕ, true, Option, None, Some, refl}
use Rattle.std.specs.Prelude.{is_some, option_map, unwrap_or}
use Rattle.agent_inputs.specs.declared.fault.FaultKind.{FaultKind}
use Rattle.agent_inputs.specs.declared.fault.FaultKind.TheVariants as kinds
use Rattle.agent_inputs.specs.declared.fault.RunFault.{RunFault}
use Rattle.agent_inputs.specs.Faults.{fault_head, head_with}
use Rattle.error_texts.specs.Sentences.{HasSentence, sentence_of}
use Rattle.error_texts.proofs.SentenceLaws.{each_error}
use Rattle.ima_verify_c.specs.Answers.{head_info, info_of}
use Rattle.ima_verify_c.specs.ErrorTexts.{HasText}

mapped : {A B : Type 0} (f : A → B) (found : Option A) → is_some found ≡ true → is_some (option_map f found) ≡ true
mapped f (Some it) e = refl
mapped f None e = e

head_text : (size : ℕ) (kind : FaultKind) (number place : Option ℕ) → HasSentence (head_with kind number place)
    → HasText (head_info size kind number place)
head_text size kinds.Usage number place has e = mapped _ (sentence_of kinds.Usage (unwrap_or number 0)) (has refl)
head_text size kinds.Log number place has e = mapped _ (sentence_of kinds.Log (unwrap_or number 0)) (has refl)
head_text size kinds.List number place has e = mapped _ (sentence_of kinds.List (unwrap_or number 0)) (has refl)
head_text size kinds.Replay number place has e = mapped _ (sentence_of kinds.Replay (unwrap_or number 0)) (has refl)
head_text size kinds.Expect number place has e = mapped _ (sentence_of kinds.Expect (unwrap_or number 0)) (has refl)
head_text size kinds.Checkpoint number place has e = mapped _ (sentence_of kinds.Checkpoint (unwrap_or number 0)) (has refl)
head_text size kinds.Memory number place has e = mapped _ (sentence_of kinds.Memory (unwrap_or number 0)) (has refl)
head_text size kinds.Quote number place has e = mapped _ (sentence_of kinds.Quote (unwrap_or number 0)) (has refl)
head_text size kinds.Key number place has e = mapped _ (sentence_of kinds.Key (unwrap_or number 0)) (has refl)
head_text size kinds.Known number place has e = mapped _ (sentence_of kinds.Known (unwrap_or number 0)) (has refl)
head_text size kinds.Signature number place has e = mapped _ (sentence_of kinds.Signature (unwrap_or number 0)) (has refl)
head_text size kinds.ListText number place has e = mapped _ (sentence_of kinds.ListText (unwrap_or number 0)) (has refl)
head_text size kinds.LogForm number place has e = mapped _ (sentence_of kinds.LogForm (unwrap_or number 0)) (has refl)
head_text size kinds.NotHex number place has e = e
head_text size kinds.Book number place has e = e
head_text size kinds.Outcome number place has e = e
head_text size kinds.TooLong number place has e = e
head_text size kinds.Read number place has e = e
head_text size kinds.Write number place has e = e
head_text size kinds.NotUtf8 number place has e = e
head_text size kinds.Gather number place has e = e

pub each_text : (size : ℕ) (fault : RunFault) → HasText (info_of size (Some fault))
each_text size fault =
    let head = fault_head fault in head_text size head.kind head.number head.place (each_error fault)
