-- The calls of a script, and which of them a phase takes. A call is a request with its index.
use Rattle.std.specs.List.{filter}
use Rattle.std.specs.Prelude.{ℕ, zero, suc, ◌+◌, ◌==◌, ◌&&◌, nat_lt, Bool, if◌then◌else◌, List, [], ◌∷◌, ◌++◌, length, take, drop}
use Rattle.run_laws.specs.Phases.{is_split, first_of, quota}

-- the index of a call
abbrev pub call_index : {R : Type 0} → ℕ × R → ℕ
call_index call = call.0

-- the request of a call
abbrev pub call_request : {R : Type 0} → ℕ × R → R
call_request call = call.1

-- requests with their indexes, from one on
abbrev pub numbered : {R : Type 0} → ℕ → List R → List (ℕ × R)
numbered from [] = []
numbered from (r ∷ rs) = (from, r) ∷ numbered (suc from) rs

-- what the quota gives of a script to a phase
abbrev pub given : {R : Type 0} → ℕ → ℕ → ℕ → List R → List (ℕ × R)
given joined split phase script =
    take (quota joined split phase (length script))
    (drop (first_of joined split phase) (numbered 0 script))

-- the calls of a script that reach a phase
abbrev pub reaching : {R : Type 0} → (ℕ → ℕ) → ℕ → List R → List (ℕ × R)
reaching reach phase script =
    filter (λ call. reach (call_index call) == phase) (numbered 0 script)

-- the phase in which a call commits: the one that it reaches, or the next if that one is split and puts the request off
abbrev pub commits_in : {R : Type 0} → (ℕ → ℕ) → (ℕ → R → Bool) → ℕ × R → ℕ
commits_in reach puts_off call =
    let phase = reach (call_index call) in
    phase + (if is_split phase && puts_off phase (call_request call) then 1 else 0)

-- a worker's turn in a phase: the calls of its script that commit there
abbrev pub turn : {R : Type 0} → (ℕ × R → ℕ) → ℕ → List R → List (ℕ × R)
turn commit phase script = filter (λ call. commit call == phase) (numbered 0 script)

-- a worker's turns in the first phases, one after the other
abbrev pub turns : {R : Type 0} → (ℕ × R → ℕ) → ℕ → List R → List (ℕ × R)
turns commit zero script = []
turns commit (suc phase) script = turns commit phase script ++ turn commit phase script

-- a phase's stash: the calls that reached an earlier phase and commit in this one
abbrev pub waiting : {R : Type 0} → (ℕ → ℕ) → (ℕ × R → ℕ) → ℕ → List R → List (ℕ × R)
waiting reach commit phase script =
    filter (λ call. nat_lt (reach (call_index call)) phase && (commit call == phase))
    (numbered 0 script)
