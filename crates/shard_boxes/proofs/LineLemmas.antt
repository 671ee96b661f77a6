-- A list that is longer by a line, and what a lawful list says.
use Rattle.std.proofs.Common.{◌≡◌, ◌≢◌, ℕ, ◌<◌, ◌≤◌, ◌==◌, cond, List, [], ◌∷◌, ◌++◌, length, map, Option, Some, None, refl, sym, ap, ◌∙◌, subst, arith, eq-eqb, ne_eqb}
use Rattle.std.proofs.lemmas.List.{Elements.{filter-append}, append-nil, map-append}
use Rattle.std.specs.List.{AllByRecursion}
use Rattle.phase_laws.specs.{Numbers.{IsLinkedFrom}, Order.{IsAscendingByNumber, part}}
use Rattle.phase_laws.specs.Replay.{SawInTurn}
use Rattle.shard_boxes.proofs.LimitLemmas.{line_within}
use Rattle.shard_boxes.specs.inner.Passing.{MayPut}
use Rattle.shard_boxes.specs.Keys.{added, entries}
use Rattle.shard_boxes.specs.Lines.{Line, acts_in, after_line, after_lines, lines_of, AreTrueOf, MayFollow, IsShardHistory}
use Rattle.shard_boxes.specs.States.{ShardState, state_at, IsWithin, IsInitial}
use Rattle.shard_boxes.specs.inner.Rule.{AreLawful, IsLawfulList}

after-push : (o : ShardState) (lines : List (ℕ × Line)) (e : ℕ × Line) → after_lines o (lines ++ e ∷ []) ≡ after_line (after_lines o lines) e.1
after-push o [] e = refl
after-push o (d ∷ lines) e = after-push (after_line o d.1) lines e

IsLawful-push : (workers : ℕ) (o : ShardState) (lines : List (ℕ × Line)) (e : ℕ × Line) → AreLawful workers o lines → e.0 < workers → MayFollow (after_lines o lines) e.1 → AreLawful workers o (lines ++ e ∷ [])
IsLawful-push workers o [] e h below may = (below, may, tt)
IsLawful-push workers o (d ∷ lines) e h below may = (h.0, h.1, IsLawful-push workers (after_line o d.1) lines e h.2 below may)

-- the list after a put
pub kept_put : (start : ShardState) (workers worker : ℕ) (lines : List (ℕ × Line)) (line : Option Line) (now : ShardState) → IsLawfulList start workers lines → worker < workers
    → MayPut (after_lines start lines) now line → IsLawfulList start workers (lines ++ entries worker line) × (now ≡ after_lines start (lines ++ entries worker line))
kept_put start workers worker lines None now h below may =
    let none = sym (append-nil lines) in
    (subst (IsLawfulList start workers) none h, may ∙ ap (after_lines start) none)
kept_put start workers worker lines (Some line) now h below may =
    let grown = after-push start lines (worker, line) in (
      record {
        lawful = IsLawful-push workers start lines (worker, line) h.lawful below may.0;
        within = subst IsWithin (sym grown) (line_within (after_lines start lines) line h.within may.0.later);
      },
      may.1 ∙ sym grown,
    )

-- each worker's lines
pub lines_of-append : (w : ℕ) (a b : List (ℕ × Line)) → lines_of w (a ++ b) ≡ lines_of w a ++ lines_of w b
lines_of-append w a b = ap (map (λ (e : ℕ × Line). e.1)) (filter-append (λ (e : ℕ × Line). e.0 == w) a b) ∙ map-append (λ (e : ℕ × Line). e.1) (part (λ e. e.0) w a) (part (λ e. e.0) w b)

pub entries-own : (worker : ℕ) (line : Option Line) → lines_of worker (entries worker line) ≡ added line
entries-own worker None = refl
entries-own worker (Some line) = ap (λ t. map (λ (e : ℕ × Line). e.1) (cond t ((worker, line) ∷ []) [])) (eq-eqb worker worker refl)

pub entries-other : (worker : ℕ) (line : Option Line) (w : ℕ) → w ≢ worker → lines_of w (entries worker line) ≡ []
entries-other worker None w ne = refl
entries-other worker (Some line) w ne = ap (λ t. map (λ (e : ℕ × Line). e.1) (cond t ((worker, line) ∷ []) [])) (ne_eqb worker w (λ e. ne (sym e)))

-- what a lawful list says
workers_of : (workers : ℕ) (o : ShardState) (lines : List (ℕ × Line)) → AreLawful workers o lines → AllByRecursion (λ (e : ℕ × Line). e.0 < workers) lines
workers_of workers o [] h = tt
workers_of workers o (e ∷ lines) h = (h.0, workers_of workers (after_line o e.1) lines h.2)

-- the clock grows from line to line
clock_from : (workers : ℕ) (o : ShardState) (lines : List (ℕ × Line)) → AreLawful workers o lines → o.clock ≤ (after_lines o lines).clock
clock_from workers o [] h = omega arith
clock_from workers o (e ∷ lines) h = omega (arith, h.1.later, clock_from workers (after_line o e.1) lines h.2)

pub clock_grows : (workers : ℕ) (o : ShardState) (lines more : List (ℕ × Line)) → AreLawful workers o (lines ++ more) → (after_lines o lines).clock ≤ (after_lines o (lines ++ more)).clock
clock_grows workers o [] more h = clock_from workers o more h
clock_grows workers o (e ∷ lines) more h = clock_grows workers (after_line o e.1) lines more h.2

later_all : (workers n : ℕ) (o : ShardState) (lines : List (ℕ × Line)) → n ≤ o.clock → AreLawful workers o lines → AllByRecursion (λ (e : ℕ × Line). n < e.1.number) lines
later_all workers n o [] low h = tt
later_all workers n o (e ∷ lines) low h = (omega (arith, low, h.1.later), later_all workers n (after_line o e.1) lines (omega (arith, low, h.1.later)) h.2)

ascending_of : (workers : ℕ) (o : ShardState) (lines : List (ℕ × Line)) → AreLawful workers o lines → IsAscendingByNumber (λ (e : ℕ × Line). e.1.number) lines
ascending_of workers o [] h = tt
ascending_of workers o (e ∷ lines) h = (later_all workers e.1.number (after_line o e.1) lines (omega arith) h.2, ascending_of workers (after_line o e.1) lines h.2)

linked_of : (workers : ℕ) (o : ShardState) (lines : List (ℕ × Line)) → AreLawful workers o lines → IsLinkedFrom (λ (e : ℕ × Line). e.1.number) (λ e. e.1.before) o.clock lines
linked_of workers o [] h = tt
linked_of workers o (e ∷ lines) h = (h.1.found, linked_of workers (after_line o e.1) lines h.2)

looks_of : (workers : ℕ) (o : ShardState) (lines : List (ℕ × Line)) → AreLawful workers o lines
    → SawInTurn (λ (found : ShardState) (e : ℕ × Line). AreTrueOf found.contents (acts_in e.1.acts)) (λ found e. after_line found e.1) o lines
looks_of workers o [] h = tt
looks_of workers o (e ∷ lines) h = (h.1.looks, looks_of workers (after_line o e.1) lines h.2)

after-number : (o : ShardState) (lines : List (ℕ × Line)) → (after_lines o lines).number ≡ o.number
after-number o [] = refl
after-number o (e ∷ lines) = after-number (after_line o e.1) lines

after-shards : (o : ShardState) (lines : List (ℕ × Line)) → (after_lines o lines).shards ≡ o.shards
after-shards o [] = refl
after-shards o (e ∷ lines) = after-shards (after_line o e.1) lines

after-opening : (o : ShardState) (lines : List (ℕ × Line)) → (after_lines o lines).opening ≡ o.opening
after-opening o [] = refl
after-opening o (e ∷ lines) = after-opening (after_line o e.1) lines

pub history_of : (initial : List ShardState) (workers number : ℕ) (lines : List (ℕ × Line)) (now : ShardState) → number < length initial → IsInitial (length initial) number (state_at initial number)
    → IsLawfulList (state_at initial number) workers lines → now ≡ after_lines (state_at initial number) lines → IsShardHistory initial workers number lines now
history_of initial workers number lines now known opened h is =
    let o = state_at initial number in record {
      known = known;
      state_is = is;
      workers_are = workers_of workers o lines h.lawful;
      ascending = ascending_of workers o lines h.lawful;
      linked = subst (λ n. IsLinkedFrom (λ (e : ℕ × Line). e.1.number) (λ e. e.1.before) n lines) opened.clock_is (linked_of workers o lines h.lawful);
      looks = looks_of workers o lines h.lawful;
      number_is = ap (λ (s : ShardState). s.number) is ∙ after-number o lines ∙ opened.number_is;
      shards_is = ap (λ (s : ShardState). s.shards) is ∙ after-shards o lines ∙ opened.shards_is;
      opening_is = ap (λ (s : ShardState). s.opening) is ∙ after-opening o lines;
      within = subst IsWithin (sym is) h.within;
    }
