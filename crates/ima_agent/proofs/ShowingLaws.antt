-- A log in hexadecimal that is shown.
use Rattle.std.proofs.Common.{◌≡◌, ℕ, List, Ok, inl, inr}
use Rattle.std.specs.Prelude.{◌⊎◌, IsErr}
use Rattle.hex.specs.Hex.{decode_of}
use Rattle.agent_inputs.specs.declared.fault.RunFault.{RunFault}
use Rattle.agent_inputs.specs.declared.fault.RunFault.TheVariants.{Memory, NotHex}
use Rattle.agent_inputs.specs.Loading.{unknown}
use Rattle.judging.specs.Requests.{LogRegistersOf}
use Rattle.judging.specs.Inputs.{BytesOf}
use Rattle.rendering.specs.Rendering.{IsRefusalOn}
use Rattle.ima_agent.specs.Showing.{IsRefusedFor, without_white_space}

-- If there is no answer to what is asked of bytes, there is none of the text that spells them.
pub refused_text : (text bytes : List ℕ) (fault : RunFault) → decode_of (without_white_space text) ≡ Ok bytes
    → IsRefusalOn unknown (LogRegistersOf (BytesOf bytes)) fault → IsRefusedFor text fault
refused_text text bytes fault decoded refusal = inr (inl (bytes, decoded, refusal))

pub not_decoded : (text : List ℕ) (fault : RunFault) → ((fault ≡ NotHex) × IsErr (decode_of (without_white_space text))) ⊎ (fault ≡ Memory)
    → IsRefusedFor text fault
not_decoded text fault (inl not_hex) = inl not_hex
not_decoded text fault (inr memory) = inr (inr memory)
