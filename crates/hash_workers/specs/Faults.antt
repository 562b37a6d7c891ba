-- Why there is no batch.
use Rattle.std.specs.Prelude.{◌≡◌, ◌≢◌, ℕ, ◌≤◌, None, Some}
use Rattle.measure_book.specs.declared.fault.BookFault.{BookFault}
use Rattle.measure_book.specs.declared.fault.BookFault.TheVariants as books
use Rattle.measure_book.specs.declared.gathers.GatherFault.{GatherFault}
use Rattle.measure_book.specs.declared.gathers.GatherFault.TheVariants as gathers
use Rattle.measure_book.specs.declared.origin.Origin.{Origin}
use Rattle.measure_book.specs.Names.{open_refusal_of}
use Rattle.hash_workers.specs.declared.fault.AgentFault.{AgentFault}
use Rattle.hash_workers.specs.declared.fault.AgentFault.TheVariants as agents
use Rattle.hash_workers.specs.declared.fault.JobsFault.{JobsFault}
use Rattle.hash_workers.specs.declared.fault.JobsFault.TheVariants.{Agent, Job}

-- Out of memory is one fault, wherever it happens.
abbrev pub fault_of_book : BookFault → AgentFault
fault_of_book books.Memory = agents.Memory
fault_of_book fault = agents.Book fault

abbrev pub fault_of_gather : GatherFault → AgentFault
fault_of_gather gathers.Memory = agents.Memory
fault_of_gather fault = agents.Gather fault

-- There may be 1 to 8 workers.
abbrev pub IsNumberOfWorkers : ℕ → Type 0
IsNumberOfWorkers workers = (1 ≤ workers) × (workers ≤ 8)

-- The workers may begin: their number is right, and nothing is against opening a book.
abbrev pub MayBegin : ℕ → Origin → Type 0
MayBegin workers origin = IsNumberOfWorkers workers × (open_refusal_of origin ≡ None)

-- When each fault is possible, for this number of workers and this origin.
abbrev pub IsAgentFaultOf : ℕ → Origin → AgentFault → Type 0
IsAgentFaultOf workers origin agents.Workers = IsNumberOfWorkers workers → ⊥
IsAgentFaultOf workers origin (agents.Book fault) = IsNumberOfWorkers workers × (open_refusal_of origin ≡ Some fault)
IsAgentFaultOf workers origin (agents.Gather fault) = MayBegin workers origin × (fault ≢ gathers.Memory)
IsAgentFaultOf workers origin agents.Memory = MayBegin workers origin

-- ---- of any jobs

abbrev pub jobs_fault_of_book : BookFault → JobsFault
jobs_fault_of_book fault = Agent (fault_of_book fault)

abbrev pub jobs_fault_of_gather : GatherFault → JobsFault
jobs_fault_of_gather reason = Agent (fault_of_gather reason)

-- When each fault is possible, for this number of workers and this origin.
abbrev pub IsJobsFaultOf : ℕ → Origin → JobsFault → Type 0
IsJobsFaultOf workers origin (Agent fault) = IsAgentFaultOf workers origin fault
IsJobsFaultOf workers origin (Job job fault) = MayBegin workers origin
