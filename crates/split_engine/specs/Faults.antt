-- Why a run gives no outcome, and why scripts are refused.
use Rattle.std.specs.Prelude.{◌≡◌, ℕ, ◌+◌, ◌<◌, List, length, Some, ⊤}
use Rattle.job_threads.specs.declared.fault.JobFault.{JobFault}
use Rattle.job_threads.specs.declared.fault.JobFault.TheVariants as job
use Rattle.split_engine.specs.{Rules.{Rules}, Serial.{IsWithin}, Serving.{total, request_at}}
use Rattle.split_engine.specs.declared.fault.RunFault.{TheVariants.{Spawn, Memory}, RunFault}
use Rattle.split_engine.specs.declared.scripts.ScriptFault.{ScriptFault}
use Rattle.split_engine.specs.declared.scripts.ScriptFault.TheVariants.{TooLong, NoSuchKey}
use Rattle.split_engine.specs.declared.state.TheConstants.{MOST_COMMITS}

-- a run's fault, if its jobs have this one
abbrev pub fault_of_jobs : JobFault → RunFault
fault_of_jobs job.Spawn = Spawn
fault_of_jobs job.Memory = Memory

-- why a run of so many workers gives no outcome: a thread, of those of all but the first, could not
-- be started, or no memory was left
abbrev pub IsRunFault : ℕ → RunFault → Type 0
IsRunFault workers Spawn = 1 < workers
IsRunFault workers Memory = ⊤

module _ {Record Slice Look Request Reply Act : Type 0}
    (rules : Rules Record Slice Look Request Reply Act) where
  -- why scripts cannot be run over so many records
  abbrev pub IsScriptFault : ℕ → List (List Request) → ScriptFault → Type 0
  IsScriptFault size scripts TooLong = MOST_COMMITS < length scripts + total scripts
  IsScriptFault size scripts (NoSuchKey worker index) =
      (q : Request) × (request_at scripts worker index ≡ Some q) × (IsWithin rules size q → ⊥)
