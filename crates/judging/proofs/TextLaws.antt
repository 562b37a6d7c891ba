-- Why a text is refused: its first wrong line, or want of memory.
use Rattle.std.proofs.Common.{◌≡◌, ◌⊎◌, ℕ, List, ◌∙◌, ap, inl, inr}
use Rattle.pcr_values.specs.declared.expected.ExpectFault.{ExpectFault}
use Rattle.pcr_values.specs.declared.expected.ExpectFault.TheVariants as expects
use Rattle.pcr_values.specs.Names.{BeginsWithRegister, HasFirstFault}
use Rattle.known_files.specs.declared.fault.KnownFault.{KnownFault}
use Rattle.known_files.specs.declared.fault.KnownFault.TheVariants as known
use Rattle.known_files.specs.Listing.{BeginsWithGood, HasFaultOfFirst}
use Rattle.agent_inputs.specs.declared.fault.RunFault.{RunFault}
use Rattle.agent_inputs.specs.Faults.{fault_of_expected, fault_of_known}
use Rattle.judging.specs.Answering.{IsNoKnownText, IsNotExpected}

-- Why no expected registers were read.
pub not_expected : (text : List ℕ) (first : ExpectFault) (fault : RunFault) → (first ≡ expects.Memory) ⊎ HasFirstFault text first
    → (first ≡ expects.Memory → BeginsWithRegister text) → fault ≡ fault_of_expected first → IsNotExpected text fault
not_expected text first fault (inl out) begins says = inr (says ∙ ap fault_of_expected out, begins out)
not_expected text first fault (inr wrong) begins says = inl (first, wrong, says)

-- Why the digests of a text were not added.
pub no_known_text : (text : List ℕ) (file : ℕ) (first : KnownFault) (fault : RunFault) → (first ≡ known.Memory) ⊎ HasFaultOfFirst text first
    → (first ≡ known.Memory → BeginsWithGood text) → fault ≡ fault_of_known file first → IsNoKnownText text file fault
no_known_text text file first fault (inl out) begins says = inr (says ∙ ap (fault_of_known file) out, begins out)
no_known_text text file first fault (inr wrong) begins says = inl (first, wrong, says)
