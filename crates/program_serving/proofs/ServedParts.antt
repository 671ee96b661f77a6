-- A part that begins, or does not.
use Rattle.std.proofs.Common.{◌≡◌, ◌≤◌, ◌++◌, ◌∙◌, ℕ, Bool, true, false, List, [], Option, None, Some, IfNone, IfSome, ap, arith, inl, inr, length, map, refl, sym, subst}
use Rattle.std.proofs.lemmas.List.{length-map}
use Rattle.auction_rows.specs.{Book.{Book}, declared.limits.TheConstants.{MOST_WORKERS}}
use Rattle.auction_rows.specs.declared.{values.Opening.Opening, requests.Request.Request, requests.Opened.Opened}
use Rattle.auction_run.{proofs.GoingOnLemmas.{stored}, specs.Beginning.{AreShortFor}}
use Rattle.auction_run.specs.GoingOn.{AreShortOn, HasScripts}
use Rattle.auction_text.specs.{Moved.{BeforeView, CannotCount, Gone, gone_by}, Scripts.{Asked}}
use Rattle.item_shards.specs.OpeningRows.{rows_by}
use Rattle.log_opening.specs.Parts.{HasAdded, rows_from}
use Rattle.phase_floor.specs.{Adding.{HasBook, IsSameAuction, IsStartOf}, NextRun.{for_next_run}}
use Rattle.phase_floor.specs.States.{JoinedState, StandsFor}
use Rattle.shard_boxes.specs.declared.limits.TheConstants.{MOST_COMMITS}
use Rattle.program_opening.specs.Options.{FitsOptions, opening_asked}
use Rattle.program_opening.specs.declared.faults.Fault.{TheVariants.{Row, Run, Limit}, Fault}
use Rattle.program_opening.specs.declared.options.Options.{Options}
use Rattle.program_serving.proofs.StoppedRuns.{added_fits, next_fits, next_start, short_behind}
use Rattle.program_serving.specs.ServeFaults.{AreNotRunOn, IsFirstBadRow, IsPartRefused, IsPastCounts}
use Rattle.program_serving.specs.Serving.{AddsRows, ends_at_fault}
use Rattle.program_serving.specs.inner.Parts.{AreDoneOf, BeginsAt, IsBegun, IsFirstNotAdded, IsPastOn, done_of}

-- before another run an auction has its book yet
pub next_has : (state next : JoinedState) → next ≡ for_next_run state → ((b : Book) → StandsFor state b → StandsFor next b) → HasBook state → (book : Book) × IsStartOf next book
next_has state next is stands has = (has.book, next_start state next has.book is stands has.is_of)

-- as many scripts are run
same_count : (past : Option ℕ) (asked : Asked) → length (done_of past asked).scripts ≡ length asked.scripts
same_count None asked = refl
same_count (Some worker) asked = length-map asked.scripts (λ script. [])

module _ (options : Options) (state next : JoinedState) (book : Book) (scripts : List (List Request)) (begins : BeginsAt options state scripts book) (is : next ≡ for_next_run state)
    (stands : (b : Book) → StandsFor state b → StandsFor next b) where
  pub start : IsStartOf next book
  start = next_start state next book is stands begins.start.of

  fits : FitsOptions options next
  fits = next_fits options state next is begins.start.fits

  module _ (mid : JoinedState) (given asked : List Opened) (are : given ≡ asked) (added : Book) (same : IsSameAuction next mid) (has : (b : Book) → IsStartOf next b → HasAdded next mid b given added) where
    -- the rows of the part are added
    pub part_adds : AddsRows (opening_asked options) book asked added
    part_adds =
        let had = has book start in
        subst (λ (rows : List Opened). AddsRows (opening_asked options) book rows added) are (subst (λ (o : Opening). AddsRows o book given added) fits.opening (record { are_rows = had.are_rows; adds = had.rows_are }))

    -- and its scripts begin behind them
    pub begins_behind : BeginsAt options mid scripts (book ++ added)
    begins_behind = record { start = record { fits = added_fits options next mid same fits; of = (has book start).start.is_of }; workers = begins.workers }

    module _ (all : List (List Request)) (past : Option ℕ) (run : List (List Request)) (counted : length all ≡ length scripts)
        (none : IfNone past (run ≡ all)) (some : IfSome past (λ worker. (ends_at_fault options ≡ false) × (IsPastOn mid all worker × (run ≡ map (λ script. []) all)))) where
      -- what is done of what is asked for
      pub done_is : record { rows = asked; scripts = run } ≡ done_of past (record { rows = asked; scripts = all })
      done_is = each past none some where
        each : (past : Option ℕ) → IfNone past (run ≡ all) → IfSome past (λ worker. (ends_at_fault options ≡ false) × (IsPastOn mid all worker × (run ≡ map (λ script. []) all)))
            → record { rows = asked; scripts = run } ≡ done_of past (record { rows = asked; scripts = all })
        each None none some = λ i. record { rows = asked; scripts = none i }
        each (Some worker) none some = λ i. record { rows = asked; scripts = some.1.1 i }

      -- and why it is not all
      pub are_done : AreDoneOf options book (record { rows = asked; scripts = all }) past
      are_done = each past some where
        each : (past : Option ℕ) → IfSome past (λ worker. (ends_at_fault options ≡ false) × (IsPastOn mid all worker × (run ≡ map (λ script. []) all))) → AreDoneOf options book (record { rows = asked; scripts = all }) past
        each None some = tt
        each (Some worker) some = (
          some.0,
          record {
            some = some.1.0.some;
            past = λ short. some.1.0.past (
              short.0,
              omega (
                arith,
                short.1,
                begins_behind.start.fits.limit,
                stored mid (book ++ added) begins_behind.start.of.stands worker some.1.0.own,
                ap (λ (b : Book). rows_by b worker) part_adds.adds,
              ),
            );
          },
        )

      -- its scripts begin behind the rows
      pub run_begins : BeginsAt options mid run (book ++ added)
      run_begins = record {
        start = begins_behind.start;
        workers = ap length (ap (λ (a : Asked). a.scripts) done_is) ∙ same_count past (record { rows = asked; scripts = all }) ∙ counted ∙ begins.workers;
      }

      pub begun : (ends_at_fault options ≡ false → mid.limit ≡ MOST_COMMITS → HasScripts mid all → AreShortOn mid run) → IsBegun options book (record { rows = asked; scripts = all }) mid added run past
      begun short = record {
        adds = part_adds;
        begins = run_begins;
        done = done_is;
        are = are_done;
        short = λ is. short is begins_behind.start.fits.limit (counted ∙ begins.workers ∙ sym begins_behind.start.fits.workers);
      }

  taken : (gone : Gone) (before : ℕ) (asked : Asked) (fault : Fault) → IsFirstNotAdded next book asked.rows before fault → IsPartRefused options book gone before asked fault
  taken gone before asked (Row number fault) why =
      subst (λ (w : ℕ). IsFirstBadRow w MOST_COMMITS (opening_asked options) book asked.rows before number fault) fits.workers
      (subst (λ (l : ℕ). IsFirstBadRow (length next.counters) l (opening_asked options) book asked.rows before number fault) fits.limit
      (subst (λ (o : Opening). IsFirstBadRow (length next.counters) next.limit o book asked.rows before number fault) fits.opening why))
  taken gone before asked fault why = absurd why

  -- a row of it is not added
  pub not_taken : (gone : Gone) (before : ℕ) (asked : Asked) (given : List Opened) → given ≡ asked.rows → (fault : Fault) → IsFirstNotAdded next book given before fault → IsPartRefused options book gone before asked fault
  not_taken gone before asked given are fault why = taken gone before asked fault (subst (λ (rows : List Opened). IsFirstNotAdded next book rows before fault) are why)

module _ (options : Options) (book : Book) (asked : Asked) (auction : JoinedState) (added : Book) (run : List (List Request)) (past : Option ℕ) (begun : IsBegun options book asked auction added run past) where
  -- a count that is past 64 bits with what is done is so with what is done of what is asked for
  pub past_with_done : (gone : Gone) (before : ℕ) → IsPastCounts options book gone before (record { rows = asked.rows; scripts = run }) → IsPastCounts options book gone before (done_of past asked)
  past_with_done gone before counts = subst (λ (a : Asked). IsPastCounts options book gone before a) begun.done counts

  -- the requests of what is done cannot be counted behind those that went before
  pub requests_past : (before : BeforeView) (read : ℕ) → length auction.counters ≤ MOST_WORKERS → (counts : List (List Request)) → counts ≡ run → CannotCount before counts
      → IsPastCounts options book (gone_by before) read (record { rows = asked.rows; scripts = run })
  requests_past before read few counts are cannot = at (subst (CannotCount before) are cannot) where
    at : CannotCount before run → IsPastCounts options book (gone_by before) read (record { rows = asked.rows; scripts = run })
    at (inl many) = absurd (omega (arith, many, few, begun.begins.workers, begun.begins.start.fits.workers))
    at (inr past) = inr (inl past)

  -- why they are not run
  pub run_refused : (gone : Gone) (before : ℕ) (fault : Fault) → AreNotRunOn options fault (book ++ added) run → IsPartRefused options book gone before (done_of past asked) fault
  run_refused gone before fault why = subst (λ (a : Asked). IsPartRefused options book gone before a fault) begun.done (refused fault why) where
    behind_rows : (fault : Fault) → AreNotRunOn options fault (book ++ added) run → AreNotRunOn options fault (rows_from (opening_asked options) book asked.rows) run
    behind_rows fault why = subst (λ (b : Book). AreNotRunOn options fault b run) (sym begun.adds.adds) why

    is_end : (ends : Bool) → ends_at_fault options ≡ ends → ¬ AreShortFor MOST_COMMITS (book ++ added) run → ends_at_fault options ≡ true
    is_end true is not_short = is
    is_end false is not_short =
        let at = begun.begins in
        absurd (not_short (short_behind auction (book ++ added) run MOST_COMMITS at.start.fits.limit (at.workers ∙ sym at.start.fits.workers) at.start.of.stands (begun.short is)))

    refused : (fault : Fault) → AreNotRunOn options fault (book ++ added) run → IsPartRefused options book gone before (record { rows = asked.rows; scripts = run }) fault
    refused (Run fault) why = inl (behind_rows (Run fault) why)
    refused (Limit most) why = (is_end (ends_at_fault options) refl why.1.1, behind_rows (Limit most) why)
    refused fault why = absurd why
