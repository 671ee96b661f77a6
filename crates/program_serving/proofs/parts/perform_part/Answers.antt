use Rattle.std.proofs.Common.{◌≡◌, ◌∙◌, ◌+◌, ◌++◌, ℕ, List, ap, arith, inl, inr, length, refl, subst, sym}
use Rattle.std.proofs.lemmas.List.{length-map}
use Rattle.auction_rows.specs.Book.{Book}
use Rattle.auction_run.specs.Phases.{hot_sets}
use Rattle.auction_text.specs.{Moved.{Gone, gone_by}, Scripts.{Asked}}
use Rattle.program_opening.{proofs.ErrorLemmas.{error_is}, specs.declared.faults.Fault.{Fault}}
use Rattle.program_serving.proofs.ServedParts.{past_with_done, run_refused}
use Rattle.program_serving.proofs.ToldLemmas.{nothing_told, same_gone}
use Rattle.program_serving.specs.{ServeFaults.{HasPastPhases, IsPartFault}, Serving.{told_by}}
use Rattle.program_serving.specs.declared.parts.Served.{Served}
use Rattle.program_serving.specs.inner.Parts.{FailsPart, IsBegun, ServesPart, gone_with}
use Rattle.program_serving.proofs.parts.perform_part.Goals as goal

pub returns-clause-serves : goal.returns-clause-serves
returns-clause-serves g c = λ book asked begun.
    let options = c.args.options.now in let part = c.args.begun in let run = part.scripts.items in
    let gone = gone_by part.before in let outcome = c.in_ok-outcome.outcome in
    let hot = hot_sets outcome.hot.items in
    let count : c.len.result ≡ length hot = c.len.ensures ∙ outcome.hot.ok.0 ∙ sym (length-map outcome.hot.items (λ set. set.keys)) in
    let same : part.next.phases ≡ part.before.phases + 0 = ap (λ (g : Gone). g.phases) c.requires.next in
    let Holds : List ℕ → List ℕ → Type 0 = (told_by g.L.Log.accepted g.W.Write.contents c.args.teller.now.teller c.tell_committed.new.teller.teller).whole in
    let ran = c.in_ok-outcome.ensures.runs (book ++ part.added.items) begun.begins in
    let served : Served = record { auction = outcome.state; rows = part.rows; before = c.in-Some.next } in
    let whole : ServesPart options book gone (record { rows = asked.rows; scripts = run }) served Holds = record {
      runs = record { added = part.added.items; hot = hot; history = outcome.history.entries; adds = begun.adds; answer = ran.answers; holds = c.in_ok-tell_committed.ensures.told };
      start = ran.start;
      before = same_gone (gone_by c.in-Some.next) (gone_with gone (length hot) run) (omega (arith, c.in-Some.ensures.phases, same, count))
          (λ worker. c.in-Some.ensures.requests worker ∙ ap (λ (g : Gone). g.requests worker) c.requires.next);
    } in
    record { are = begun.are; serves = subst (λ (a : Asked). ServesPart options book gone a served Holds) begun.done whole }

pub returns-clause-has : goal.returns-clause-has
returns-clause-has g c = c.in_ok-outcome.ensures.has

pub returns-in_err-outcome-clause-cause : goal.returns-in_err-outcome-clause-cause
returns-in_err-outcome-clause-cause g c =
    let accepted = g.L.Log.accepted in let contents = g.W.Write.contents in
    let options = c.args.options.now in let part = c.args.begun in
    let teller = c.args.teller.now.teller in let fault = c.in_err-outcome.field-0.0 in
    error_is c.from_residual.result fault (λ (f : Fault). (book : Book) (asked : Asked) (before : ℕ) → IsBegun options book asked part.auction part.added.items part.scripts.items part.past
    → FailsPart (told_by accepted contents teller teller) options book (gone_by part.before) before asked f) c.from_residual.ensures
    (λ book asked before begun. record {
      past = part.past;
      are = begun.are;
      fails = inl (
        nothing_told accepted contents teller,
        run_refused options book asked part.auction part.added.items part.scripts.items part.past begun (gone_by part.before) before fault (c.in_err-outcome.ensures.refused _ begun.begins),
      );
    })

pub returns-in_default-clause-cause : goal.returns-in_default-clause-cause
returns-in_default-clause-cause g c = λ book asked before begun.
    let options = c.args.options.now in let part = c.args.begun in let gone = gone_by part.before in
    let outcome = c.in_ok-outcome.outcome in let hot = hot_sets outcome.hot.items in
    let count : c.len.result ≡ length hot = c.len.ensures ∙ outcome.hot.ok.0 ∙ sym (length-map outcome.hot.items (λ set. set.keys)) in
    let same : part.next.phases ≡ part.before.phases + 0 = ap (λ (g : Gone). g.phases) c.requires.next in
    let past : HasPastPhases options book gone (record { rows = asked.rows; scripts = part.scripts.items }) = record {
      runs = record { added = part.added.items; hot = hot; history = outcome.history.entries; adds = begun.adds; answer = (c.in_ok-outcome.ensures.runs (book ++ part.added.items) begun.begins).answers; holds = tt };
      past = omega (arith, c.in_default.ensures.none, same, count);
    } in record {
      past = part.past;
      are = begun.are;
      fails = inl (
        nothing_told g.L.Log.accepted g.W.Write.contents c.args.teller.now.teller,
        inr (refl, past_with_done options book asked part.auction part.added.items part.scripts.items part.past begun gone before (inr (inr past))),
      );
    }

pub returns-in_err-tell_committed-clause-cause : goal.returns-in_err-tell_committed-clause-cause
returns-in_err-tell_committed-clause-cause g c =
    let accepted = g.L.Log.accepted in let contents = g.W.Write.contents in
    let options = c.args.options.now in let part = c.args.begun in
    let outcome = c.in_ok-outcome.outcome in let old = c.args.teller.now.teller in
    let new = c.tell_committed.new.teller.teller in let fault = c.in_err-tell_committed.field-0.0 in
    error_is c.from_residual-in_err-tell_committed.result fault (λ (f : Fault). (book : Book) (asked : Asked) (before : ℕ) → IsBegun options book asked part.auction part.added.items part.scripts.items part.past
    → FailsPart (told_by accepted contents old new) options book (gone_by part.before) before asked f) c.from_residual-in_err-tell_committed.ensures
    (λ book asked before begun. record {
      past = part.past;
      are = begun.are;
      fails = subst (λ (a : Asked). IsPartFault (told_by accepted contents old new) options book (gone_by part.before) before a fault) begun.done (inr (record {
        added = part.added.items;
        hot = hot_sets outcome.hot.items;
        history = outcome.history.entries;
        adds = begun.adds;
        answer = (c.in_ok-outcome.ensures.runs (book ++ part.added.items) begun.begins).answers;
        holds = c.in_err-tell_committed.ensures.so_far;
      }));
    })
