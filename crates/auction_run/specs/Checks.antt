-- Why a run is refused before it begins.
use Rattle.std.specs.Prelude.{◌↔◌, List, Result, Ok, Err, OnOk, IsErrOf}
use Rattle.auction_rows.specs.Book.{Book}
use Rattle.auction_rows.specs.declared.{limits.Policy.Policy, requests.Request.Request}
use Rattle.run_phases.specs.Beginning.{HaveWorkers, HasShards, HasQuotas, AreShort}
use Rattle.run_phases.specs.declared.faults.RunFault.{RunFault}
use Rattle.run_phases.specs.declared.faults.RunFault.TheVariants.{Workers, Shards, Quota, TooLong, Spawn, Memory, NumberFull}

-- what each answer of the check says: all four hold, or the fault is that of the first that doesn't
abbrev pub IsFirstToFail : {T : Type 0} → Result T RunFault →
    Type 0 → Type 0 → Type 0 → Type 0 → Type 0
IsFirstToFail (Ok done) workers shards quotas short = workers × (shards × (quotas × short))
IsFirstToFail (Err Workers) workers shards quotas short = ¬ workers
IsFirstToFail (Err Shards) workers shards quotas short = workers × ¬ shards
IsFirstToFail (Err Quota) workers shards quotas short = workers × (shards × ¬ quotas)
IsFirstToFail (Err TooLong) workers shards quotas short = workers × (shards × (quotas × ¬ short))
IsFirstToFail (Err Spawn) workers shards quotas short = ⊥
IsFirstToFail (Err Memory) workers shards quotas short = ⊥
IsFirstToFail (Err NumberFull) workers shards quotas short = ⊥

-- the fault is one of those that are found before a run begins
abbrev pub IsFoundFirst : RunFault → Type 0
IsFoundFirst Workers = Unit {0}
IsFoundFirst Shards = Unit {0}
IsFoundFirst Quota = Unit {0}
IsFoundFirst TooLong = Unit {0}
IsFoundFirst Spawn = ⊥
IsFoundFirst Memory = ⊥
IsFoundFirst NumberFull = ⊥

-- A run of such scripts is refused for the first of the four that doesn't hold, exactly then.
pub record IsRefusedInOrder {T : Type 0} (result : Result T RunFault) (policy : Policy)
    (rows : Book) (scripts : List (List Request)) : Type 0 where
  -- where it is not refused, all four hold
  pub ready : OnOk result (HaveWorkers rows scripts
      × (HasShards policy × (HasQuotas policy × AreShort rows scripts)))
  -- there are not 1 to 16 scripts, or a row is of a worker without one
  pub workers : IsErrOf result Workers ↔ ¬ HaveWorkers rows scripts
  -- or else there are not 1 to 64 shards
  pub shards : IsErrOf result Shards ↔ (HaveWorkers rows scripts × ¬ HasShards policy)
  -- or else a quota or the threshold is 0, or more than 64 objects may be hot
  pub quota : IsErrOf result Quota
      ↔ (HaveWorkers rows scripts × (HasShards policy × ¬ HasQuotas policy))
  -- or else some worker's rows and script have more than 1,000,000 together
  pub too_long : IsErrOf result TooLong
      ↔ (HaveWorkers rows scripts × (HasShards policy
      × (HasQuotas policy × ¬ AreShort rows scripts)))
