-- The hot sets of a run, and the faults that a phase of it meets.
use Rattle.std.specs.{HashSet.{HashSet}, Prelude.{◌<◌, List, map, length, ⊤}}
use Rattle.auction_rows.specs.declared.{requests.Object.Object, requests.Request.Request}
use Rattle.job_threads.specs.declared.fault.JobFault.{JobFault}
use Rattle.job_threads.specs.declared.fault.JobFault.TheVariants as job
use Rattle.run_phases.specs.declared.faults.RunFault.{RunFault}
use Rattle.run_phases.specs.declared.faults.RunFault.TheVariants.{Workers, Shards, Quota, TooLong, Spawn, Memory, NumberFull}

-- the objects of each hot set, in its order
abbrev pub hot_sets : {S : Type 0} → List (HashSet Object S) → List (List Object)
hot_sets sets = map (λ set. set.keys) sets

-- what a run answers where its workers leave no receipts
abbrev pub told : JobFault → RunFault
told job.Spawn = Spawn
told job.Memory = Memory

-- Why a phase of such scripts fails: a thread, of those of all workers but the first, could not be
-- started; or no memory was left, of which no clause says when. None of the faults that are found
-- before a run begins is met, and no worker meets the end of commit numbers.
abbrev pub IsMet : List (List Request) → RunFault → Type 0
IsMet scripts Workers = ⊥
IsMet scripts Shards = ⊥
IsMet scripts Quota = ⊥
IsMet scripts TooLong = ⊥
IsMet scripts Spawn = 1 < length scripts
IsMet scripts Memory = ⊤
IsMet scripts NumberFull = ⊥
