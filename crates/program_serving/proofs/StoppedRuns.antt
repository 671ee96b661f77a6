-- A run of a part that goes on from an auction: what it leaves, and why it stops.
use Rattle.std.proofs.Common.{arith, ◌≡◌, ◌<◌, ◌∙◌, ℕ, List, All, length, map, ap, sym, subst}
use Rattle.auction_rows.specs.{Book.{Book, worker_of}, History.{book_after}}
use Rattle.auction_rows.specs.declared.{limits.Policy.Policy, values.Opening.Opening, requests.Request.Request}
use Rattle.auction_run.{proofs.GoingOnLemmas.{stored}, specs.Beginning.{AreShortFor}}
use Rattle.auction_run.specs.{GoingOn.{AreShortOn, IsStopped}, Outcome.{Outcome}}
use Rattle.auction_run.specs.{Outcomes.{IsOutcome}, declared.checks.Stopped.{Stopped}}
use Rattle.auction_run.specs.declared.checks.Stopped.TheVariants.{Refused, Failed}
use Rattle.auction_run.specs.RunFault.TheVariants as run
use Rattle.closing_laws.specs.Standing.{counters_at}
use Rattle.phase_floor.proofs.NextRunLemmas.{at_next, many}
use Rattle.phase_floor.specs.Adding.{IsSameAuction, IsStartOf}
use Rattle.phase_floor.specs.{NextRun.{for_next_run, stores_as_commits}, Resuming.{counters_in}}
use Rattle.phase_floor.specs.States.{IsBookOf, JoinedState, StandsFor}
use Rattle.program_opening.specs.Options.{FitsOptions, opening_asked, policy_of}
use Rattle.program_opening.specs.declared.options.Options.{Options}
use Rattle.program_serving.specs.ServeFaults.{AreNotRunOn}
use Rattle.program_serving.specs.inner.Parts.{AnswersScripts, BeginsAt, told_fault}

-- what is short behind the rows of a book is short for a state of it
short_on : (state : JoinedState) (book : Book) (scripts : List (List Request)) (limit : ℕ) → state.limit ≡ limit → length scripts ≡ length state.counters → StandsFor state book
    → AreShortFor limit book scripts → AreShortOn state scripts
short_on state book scripts limit is counted stands short = λ w below.
    let few = short w below in
    (few.0, omega (arith, is, few.1, stored state book stands w (omega (arith, below, counted))))

-- and the other way
pub short_behind : (state : JoinedState) (book : Book) (scripts : List (List Request)) (limit : ℕ) → state.limit ≡ limit → length scripts ≡ length state.counters → StandsFor state book
    → AreShortOn state scripts → AreShortFor limit book scripts
short_behind state book scripts limit is counted stands short = λ w below.
    let few = short w below in
    (few.0, omega (arith, is, few.1, stored state book stands w (omega (arith, below, counted))))

module _ (options : Options) (state : JoinedState) (policy : Policy) (scripts : List (List Request)) (same : policy ≡ policy_of options) (book : Book) (begins : BeginsAt options state scripts book) where
  fits : FitsOptions options state
  fits = begins.start.fits

  counted : length scripts ≡ length state.counters
  counted = begins.workers ∙ sym fits.workers

  not_run_on : (stopped : Stopped) → IsStopped state (policy_of options) scripts stopped → AreNotRunOn options (told_fault stopped) book scripts
  not_run_on (Refused back run.Workers) is = absurd (is.1 counted)
  not_run_on (Refused back run.Shards) is = absurd (is.1.1 (sym fits.shards))
  not_run_on (Refused back run.Quota) is = is.1.1.1
  not_run_on (Refused back run.TooLong) is =
      (ap (λ (s : JoinedState). s.limit) is.0 ∙ fits.limit, (is.1.1.1.0, λ short. is.1.1.1.1 (short_on state book scripts _ fits.limit counted begins.start.of.stands short)))
  not_run_on (Refused back run.Memory) is = tt
  not_run_on (Failed run.Spawn) is = is.1
  not_run_on (Failed run.Memory) is = tt
  not_run_on (Failed run.NumberFull) is = is.1
  not_run_on stopped is = absurd is.1

  -- a run stops for a cause that the book shows
  pub run_refused : (stopped : Stopped) → IsStopped state policy scripts stopped → AreNotRunOn options (told_fault stopped) book scripts
  run_refused stopped why = not_run_on stopped (subst (λ (p : Policy). IsStopped state p scripts stopped) same why)

  -- what it answers
  pub run_answers : (outcome : Outcome) → ((rows : Book) → IsBookOf state rows → IsOutcome state.opening rows policy scripts outcome) → AnswersScripts options book scripts outcome
  run_answers outcome is_outcome =
      let from : IsOutcome (opening_asked options) book (policy_of options) scripts outcome
      = subst (λ (o : Opening). IsOutcome o book (policy_of options) scripts outcome) fits.opening (subst (λ (p : Policy). IsOutcome state.opening book p scripts outcome) same (is_outcome book begins.start.of)) in
      record { serves = from.serves; chosen = from.chosen; replays = from.replays }

  -- and the auction that it leaves
  pub run_leaves : (outcome : Outcome) → ((rows : Book) → IsBookOf state rows → IsBookOf outcome.state (book_after state.opening rows outcome.history.entries))
      → IsBookOf outcome.state (book_after (opening_asked options) book outcome.history.entries)
  run_leaves outcome left = subst (λ (o : Opening). IsBookOf outcome.state (book_after o book outcome.history.entries)) fits.opening (left book begins.start.of)

  -- what it leaves fits the options yet
  pub run_fits : (outcome : Outcome) → outcome.state.limit ≡ state.limit → ((rows : Book) → IsBookOf state rows → IsOutcome state.opening rows policy scripts outcome) → FitsOptions options outcome.state
  run_fits outcome limit is_outcome =
      let from = is_outcome book begins.start.of in record {
        opening = from.opening_is ∙ fits.opening;
        limit = limit ∙ fits.limit;
        workers = from.counters ∙ begins.workers;
        shards = from.shards ∙ ap (λ (p : Policy). p.shards) same;
      }

-- ---- where rows are added

-- before another run a state's workers have committed just the rows of its book
pub next_start : (state next : JoinedState) (book : Book) → next ≡ for_next_run state → ((b : Book) → StandsFor state b → StandsFor next b) → IsBookOf state book → IsStartOf next book
next_start state next book is stands of =
    let kept : StandsFor (for_next_run state) book = subst (λ s. StandsFor s book) is (stands book of.stands) in
    subst (λ s. IsStartOf s book) (sym is) (record {
      is_of = record { is_book = of.is_book; own = subst (λ n. All (λ row. worker_of row < n) book) (sym (many state.counters)) of.own; stands = kept };
      counters = λ w below. at_start state book of w (omega (arith, below, many state.counters));
    }) where
      at_start : (state : JoinedState) (book : Book) → IsBookOf state book → (w : ℕ) → w < length state.counters → counters_at (map stores_as_commits state.counters) w ≡ counters_in book w
      at_start state book of w below =
          let counts = of.stands.counts w below in let all = stored state book of.stands w below in
          at_next state.counters w ∙ (λ i. record {
            items = sym counts.items i;
            bids = sym counts.bids i;
            comments = sym counts.comments i;
            buys = sym counts.buys i;
            commits = all i;
          })

-- the auction before another run is the same, but for its phase
pub next_fits : (options : Options) (state next : JoinedState) → next ≡ for_next_run state → FitsOptions options state → FitsOptions options next
next_fits options state next is fits = subst (FitsOptions options) (sym is) (record {
  opening = fits.opening;
  limit = fits.limit;
  workers = many state.counters ∙ fits.workers;
  shards = fits.shards;
})

-- and with more rows too
pub added_fits : (options : Options) (old new : JoinedState) → IsSameAuction old new → FitsOptions options old → FitsOptions options new
added_fits options old new same fits = record {
  opening = same.opening ∙ fits.opening;
  limit = same.limit ∙ fits.limit;
  workers = same.workers ∙ fits.workers;
  shards = same.shards ∙ fits.shards;
}
