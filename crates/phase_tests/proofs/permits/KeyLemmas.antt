-- The keys of boxes of one worker and of two, as they are dealt and as they are given back.
use Rattle.std.proofs.Common.{◌≡◌, ℕ, zero, suc, ◌<◌, List, [], ◌∷◌, sym, subst, arith}
use Rattle.shard_boxes.specs.Closed.{AreSpent, IsSpent}
use Rattle.shard_boxes.specs.Keys.{BoxId, KeyState, key_at, IsNewKey, AreNewKeys}
use Rattle.phase_transactions.specs.Workers.{IsIdle}
use Rattle.phase_tests.specs.Permits.{IsOnlyKey}

pub only_key : (boxes : List BoxId) (workers : ℕ) (keys : List KeyState) (key : KeyState) → keys ≡ key ∷ [] → 1 ≡ workers → AreNewKeys boxes workers keys → IsNewKey boxes 0 key
only_key boxes workers keys key is one new = (subst (AreNewKeys boxes workers) is new).1 0 (omega (arith, one))

-- the keys of two workers
pub two_keys : (boxes : List BoxId) (workers : ℕ) (keys : List KeyState) (one other : KeyState) → keys ≡ one ∷ other ∷ [] → 2 ≡ workers → AreNewKeys boxes workers keys
    → IsNewKey boxes 0 one × IsNewKey boxes 1 other
two_keys boxes workers keys one other is two new = let all = subst (AreNewKeys boxes workers) is new in (all.1 0 (omega (arith, two)), all.1 1 (omega (arith, two)))

module _ (boxes : List BoxId) (workers : ℕ) (keys : List KeyState) where
  pub one_spent : (key : KeyState) → keys ≡ key ∷ [] → IsOnlyKey workers boxes key → AreSpent boxes workers keys
  one_spent key is only = subst (AreSpent boxes workers) (sym is) (only.one, λ w below. at w (subst (λ n. w < n) (sym only.one) below)) where
    at : (w : ℕ) → w < 1 → IsSpent boxes w (key_at (key ∷ []) w)
    at zero less = record { boxes_are = only.of; worker_is = only.worker; idle = only.idle }
    at (suc w) less = absurd (omega (arith, less))

  pub two_spent : (first second : KeyState) → keys ≡ first ∷ second ∷ [] → 2 ≡ workers → (first.boxes ≡ boxes) × (second.boxes ≡ boxes) → (first.worker ≡ 0) × (second.worker ≡ 1)
      → IsIdle first × IsIdle second → AreSpent boxes workers keys
  two_spent first second is two of number idle = subst (AreSpent boxes workers) (sym is) (two, λ w below. at w (subst (λ n. w < n) (sym two) below)) where
    at : (w : ℕ) → w < 2 → IsSpent boxes w (key_at (first ∷ second ∷ []) w)
    at zero less = record { boxes_are = of.0; worker_is = number.0; idle = idle.0 }
    at (suc zero) less = record { boxes_are = of.1; worker_is = number.1; idle = idle.1 }
    at (suc (suc w)) less = absurd (omega (arith, less))
