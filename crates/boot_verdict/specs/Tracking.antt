-- What tracks a boot step by step.
use Rattle.std.specs.Prelude.{◌≡◌, ℕ, List}
use Rattle.pcr_banks.specs.declared.alg.Alg.{Alg}
use Rattle.pcr_banks.specs.declared.banks.Banks.{Banks}
use Rattle.pcr_banks.specs.Names.{is_active, value_at}
use Rattle.boot_log.specs.Names.{log_event_of}
use Rattle.ima_list.specs.Names.{IsGenuine}
use Rattle.boot_verdict.specs.declared.steps.Nobody.{Nobody}
use Rattle.boot_verdict.specs.declared.steps.Step.{Step as TakenStep}
use Rattle.boot_verdict.specs.declared.steps.Step.TheVariants as taken
use Rattle.boot_verdict.specs.Steps.{Step, OfEvent, OfEntry, value_after}

-- ---- one step, as the code takes it

abbrev pub step_of : TakenStep → Step
step_of (taken.Event event) = OfEvent (log_event_of event.now)
step_of (taken.Entry entry) = OfEntry entry.now

-- The step can be taken: an event always is, and an entry if it is genuine.
abbrev pub CanBeTaken : TakenStep → Type 0
CanBeTaken (taken.Event event) = Unit {0}
CanBeTaken (taken.Entry entry) = IsGenuine entry.now

-- The register that the step may extend.
abbrev pub register_of : Step → ℕ
register_of (OfEvent event) = event.register
register_of (OfEntry entry) = entry.register

-- ---- after some steps

-- The banks are `start` after these steps.
pub record AreAfter (start : Banks) (steps : List Step) (now : Banks) : Type 0 where
  pub active : (a : Alg) → is_active now a ≡ is_active start a
  pub values : (a : Alg) (r : ℕ) → value_at now a r ≡ value_after a r (value_at start a r) steps

-- What tracks a boot, before and after some steps of it, where the log has so many events.
abbrev pub After : Type 0 → Type 1
After Tracking = Tracking → ℕ → List Step → Tracking → Type 0

-- The banks as a tracker.
abbrev pub BanksAfter : After Banks
BanksAfter start events steps now = AreAfter start steps now

-- Of what tracks nothing, nothing is said.
abbrev pub NobodyAfter : After Nobody
NobodyAfter start events steps now = Unit {0}
