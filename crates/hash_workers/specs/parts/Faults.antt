-- The fault of a job whose operation could not be had.
use Rattle.std.specs.Prelude.{ℕ}
use Rattle.hash_workers.specs.declared.fault.AgentFault.TheVariants as agents
use Rattle.hash_workers.specs.declared.fault.JobFault.{JobFault}
use Rattle.hash_workers.specs.declared.fault.JobFault.TheVariants.{Memory}
use Rattle.hash_workers.specs.declared.fault.JobsFault.{JobsFault}
use Rattle.hash_workers.specs.declared.fault.JobsFault.TheVariants.{Agent, Job}
use Rattle.hash_workers.specs.declared.work.Unmade.{Unmade}

-- The fault if this is the first job without an operation.
abbrev pub fault_for : ℕ → JobFault → JobsFault
fault_for job Memory = Agent agents.Memory
fault_for job fault = Job job fault

abbrev pub fault_of_unmade : Unmade → JobsFault
fault_of_unmade unmade = fault_for unmade.job unmade.fault
