-- A part of what an input has yet to say is served, or is not.
use Rattle.std.proofs.Common.{◌≡◌, ◌<◌, ◌≤◌, ◌+◌, ◌∙◌, false, ℕ, List, Option, None, Some, IfSome, ap, length, refl, sym}
use Rattle.std.proofs.lemmas.List.FromFn.{length-map-range_with_len}
use Rattle.auction_rows.specs.{Book.{Book}, declared.limits.TheConstants.{MOST_OF_A_WORKER}}
use Rattle.auction_text.specs.{Moved.{gone_by}, Said.{Said}, Scripts.{Asked, script}}
use Rattle.part_log.specs.declared.log.Teller.{Teller}
use Rattle.program_opening.specs.declared.{faults.Fault.{Fault}, options.Options.{Options}}
use Rattle.program_serving.proofs.FaultLemmas.{part_stops_all}
use Rattle.program_serving.proofs.PastLimits.{AtPast, LeftBehind, ReadsPart, done_reads, grown, left_behind}
use Rattle.program_serving.proofs.RowsBefore.{HasNoLateRow}
use Rattle.program_serving.proofs.Sessions.{done_goes_on, part_begins, part_stops, session_part, session_stops}
use Rattle.program_serving.specs.ServeFaults.{IsServeFault}
use Rattle.program_serving.specs.Serving.{book_left, ends_at_fault, told_by}
use Rattle.program_serving.specs.declared.parts.Served.{Served}
use Rattle.program_serving.specs.inner.Parts.{AreDoneOf, BeginsAt, FailsPart, HasRoomForPart, ServesDone, done_of}
use Rattle.program_serving.specs.inner.Sessions.{IsSession}

-- all rows are added
rows_done : (past : Option ℕ) (asked : Asked) → (done_of past asked).rows ≡ asked.rows
rows_done None asked = refl
rows_done (Some worker) asked = refl

module _ {L W : Type 0} (accepted : L → Option (List ℕ)) (contents : W → Option (List ℕ)) (options : Options) (book : Book) (all : List Said) (start old new : Teller L W)
    (served : Served) (Left : List Said → Type 0) (session : IsSession options book all served Left (told_by accepted contents start old).whole)
    (most : ℕ) (asked : Asked) (Next : List Said → Type 0) (reads : ReadsPart options most session.rest asked Next) (free : HasNoLateRow session.rest)
    (few : most ≤ MOST_OF_A_WORKER) (room : 1 < most → HasRoomForPart served.auction) where
  abbrev now : Book
  now = book_left options book session.steps

  begins : BeginsAt options served.auction asked.scripts now
  begins = part_begins accepted contents options book all start old new served Left session asked.scripts
      (ap (λ (a : Asked). length a.scripts) reads.asked_is ∙ length-map-range_with_len (λ w. script w reads.said) 0 options.workers)

  reads_done : (past : Option ℕ) → AreDoneOf options now asked past → ReadsPart options most session.rest (done_of past asked) (AtPast (grown options served.auction now session.start asked most session.rest free Next reads few room) options.workers Next past)
  reads_done past are = done_reads options served.auction now session.start asked most session.rest free Next reads few room past are

  pub part_served : (past : Option ℕ) (next : Served)
      → ((b : Book) → BeginsAt options served.auction asked.scripts b → ServesDone options b (gone_by served.before) asked past next (told_by accepted contents old new).whole) → next.rows ≡ served.rows + length asked.rows
      → IsSession options book all next (LeftBehind next.auction Next past) (told_by accepted contents start new).whole
  part_served past next each counted =
      let served_now = each now begins in let done = reads_done past served_now.are in
      session_part accepted contents options book all start old new served Left session most (done_of past asked) (LeftBehind next.auction Next past) (record {
        said = done.said;
        behind = done.behind;
        rest_is = done.rest_is;
        asked_is = done.asked_is;
        few = done.few;
        most_few = done.most_few;
        few_rows = done.few_rows;
        goes_on = left_behind options served.auction now session.start asked most session.rest free Next reads few room past (gone_by served.before) next (told_by accepted contents old new).whole served_now.serves done.behind done.goes_on;
      }) next (counted ∙ ap (λ rows. served.rows + length rows) (sym (rows_done past asked))) served_now.serves

  pub part_goes_on : (past : Option ℕ) (next : Served)
      → ((b : Book) → BeginsAt options served.auction asked.scripts b → ServesDone options b (gone_by served.before) asked past next (told_by accepted contents old new).whole) → IfSome past (λ worker. ends_at_fault options ≡ false)
  part_goes_on past next each =
      let served_now = each now begins in
      done_goes_on options now asked past served_now.are

  pub part_fails : (fault : Fault) → ((b : Book) → BeginsAt options served.auction asked.scripts b → FailsPart (told_by accepted contents old new) options b (gone_by served.before) served.rows asked fault)
      → IsServeFault (told_by accepted contents) start new options book all fault
  part_fails fault why =
      let fails = why now begins in
      session_stops accepted contents options book all start old new served Left session fault
      (part_stops_all (told_by accepted contents old new) options now (gone_by served.before) served.rows session.rest fault
      (part_stops accepted contents options book all start old new served Left session most (done_of fails.past asked) _ (reads_done fails.past fails.are) fault fails.fails))
