use Rattle.std.proofs.Common.{◌≡◌, ◌∙◌, Bool, true, not, List, [], Option, Some, None, refl, sym, ap, subst}
use Rattle.std.specs.Prelude.{is_some}
use Rattle.auction_rows.specs.declared.rows.Entry.{Entry}
use Rattle.worker_journals.proofs.HistoryLemmas.{own_past}
use Rattle.worker_journals.proofs.RisingLemmas.{none_passed, passed_more}
use Rattle.worker_journals.specs.{Merged.{entries_of}, Rising.{HasPassed}}
use Rattle.worker_journals.specs.inner.{Phases.{journals_of}, Places.{first_entries, own_left}}
use Rattle.worker_journals.proofs.history.WorkerEntries.pass_rising.Goals as goal

none_of : {X : Type 0} (o : Option X) (b : Bool) → is_some o ≡ not b → b ≡ true → o ≡ None
none_of None b is none = refl
none_of (Some x) b is none = absurd (cc (is ∙ ap not none))

pub loop-self-init : goal.loop-self-init
loop-self-init c =
    let e = c.self.inside in
    let left = own_left e.worker e.here.now e.place (journals_of e.phases.now) in
    record { passed = subst (λ (es : List Entry). HasPassed c.args.from es left c.args.from) c.self.view_is (none_passed c.args.from left) }

pub loop-self-preserved : goal.loop-self-preserved
loop-self-preserved c =
    let e = c.loop-self.self-inside in let own = c.from_own-own.result.now in
    let rest = journals_of c.in-Some.rest.now in
    let none = sym c.entry_of.ensures.entry ∙ none_of _ c.is_none.result c.is_none.ensures c.loop-self-test.true in
    let parts =
    ap (λ ps. own_left e.worker e.here.now e.place (journals_of ps)) c.in-Some.ensures.cases.0
    ∙ own_past e.worker e.place e.here.now own _ rest none (c.from_own-own.ensures ∙ ap (entries_of e.worker) c.as_slice.ensures.value) in
    record {
      passed = passed_more c.args.from c.loop-self.next c.in-Some-rising_from.after c.args.self.now _ (first_entries own) (own_left e.worker [] 0 rest) c.loop-self.invariant.passed parts c.in-Some-rising_from.ensures;
    }
