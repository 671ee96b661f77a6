-- The scripts and stashes of workers.
use Rattle.std.proofs.Common.{◌≡◌, ℕ, zero, suc, ◌<◌, ◌≤◌, ◌⊎◌, List, [], ◌∷◌, ◌++◌, length, get_or, refl, subst, sym, ap, ◌∙◌, inl, inr, arith}
use Rattle.std.proofs.lemmas.{Bool.{cases_lt}, List.{get_or_default, get_or_past}}
use Rattle.auction_rows.specs.declared.requests.Request.{Request}
use Rattle.worker_slices.specs.Stashes.{StashState}
use Rattle.phase_floor.specs.Floors.{no_stash}
use Rattle.run_laws.{proofs.ScriptLemmas.{past_end}, specs.Serving.{script_of}}
use Rattle.run_phases.specs.inner.Plans.{waiting_in}

pub past_stashes : (stashes : List StashState) (i : ℕ) → length stashes ≤ i → waiting_in stashes i ≡ []
past_stashes stashes i over = ap (λ (s : StashState). s.requests) (get_or_past stashes i no_stash over)

-- one stash more in which nothing waits
pub one_stash_more : (stashes : List StashState) (x : StashState) → x.requests ≡ [] → ((worker : ℕ) → waiting_in stashes worker ≡ []) →
    (worker : ℕ) → waiting_in (stashes ++ x ∷ []) worker ≡ []
one_stash_more [] x empty none zero = empty
one_stash_more [] x empty none (suc worker) = refl
one_stash_more (s ∷ stashes) x empty none zero = none 0
one_stash_more (s ∷ stashes) x empty none (suc worker) = one_stash_more stashes x empty (λ w. none (suc w)) worker

-- where neither a request nor a stash is left, nothing is
pub neither : (first len waits : ℕ) → ((first < len) ⊎ (0 < waits) → ⊥) → (len ≤ first) × (waits ≡ 0)
neither first len waits none = (go (cases_lt first len), at waits (λ some. none (inr some))) where
  go : (first < len) ⊎ (len ≤ first) → len ≤ first
  go (inl more) = absurd (none (inl more))
  go (inr within) = within

  at : (n : ℕ) → (0 < n → ⊥) → n ≡ 0
  at zero never = refl
  at (suc n) never = absurd (never (omega arith))

script_at : (scripts : List (List Request)) (i : ℕ) (d : List Request) → i < length scripts → script_of scripts i ≡ get_or scripts i d
script_at [] i d less = absurd (omega arith)
script_at (x ∷ xs) zero d less = refl
script_at (x ∷ xs) (suc i) d less = script_at xs i d (omega arith)

-- what is left of a worker's script and stash, by what is read of them
module _ (scripts : List (List Request)) (stashes : List StashState) (first i : ℕ) (script : List Request) (stash : StashState)
    (within : i < length scripts) (same : length stashes ≡ length scripts) (script_is : script ≡ get_or scripts i script) (stash_is : stash ≡ get_or stashes i stash) where
  own_script : script_of scripts i ≡ script
  own_script = script_at scripts i script within ∙ sym script_is

  own_stash : waiting_in stashes i ≡ stash.requests
  own_stash = ap (λ (s : StashState). s.requests) (get_or_default stashes i no_stash stash (omega (arith, within, same)) ∙ sym stash_is)

  pub something_left : (first < length script) ⊎ (0 < length stash.requests) → (first < length (script_of scripts i)) ⊎ (0 < length (waiting_in stashes i))
  something_left (inl more) = inl (subst (λ rs. first < length rs) (sym own_script) more)
  something_left (inr some) = inr (subst (λ rs. 0 < length rs) (sym own_stash) some)

  pub nothing_left : ((first < length script) ⊎ (0 < length stash.requests) → ⊥) → (length (script_of scripts i) ≤ first) × (length (waiting_in stashes i) ≡ 0)
  nothing_left none = let both = neither first (length script) (length stash.requests) none in
      (subst (λ rs. length rs ≤ first) (sym own_script) both.0, ap length own_stash ∙ both.1)

-- nobody has anything left where none of the workers that there are has
pub nobody : (scripts : List (List Request)) (stashes : List StashState) (first i : ℕ) → length scripts ≤ i → length stashes ≡ length scripts →
    ((w : ℕ) → w < i → (length (script_of scripts w) ≤ first) × (length (waiting_in stashes w) ≡ 0)) →
    (w : ℕ) → (length (script_of scripts w) ≤ first) × (length (waiting_in stashes w) ≡ 0)
nobody scripts stashes first i all same none w = go (cases_lt w i) where
  go : (w < i) ⊎ (i ≤ w) → (length (script_of scripts w) ≤ first) × (length (waiting_in stashes w) ≡ 0)
  go (inl before) = none w before
  go (inr past) =
      let e : length (script_of scripts w) ≡ 0 = ap length (past_end scripts w (omega arith)) in
      (omega arith, ap length (past_stashes stashes w (omega (arith, same, all, past))))
