use Rattle.std.proofs.Common.{◌≡◌, ◌∙◌, sym, ap, subst, map, length, arith}
use Rattle.std.{proofs.lemmas.List.{length-map, with_items_is}, specs.List.{AllByRecursion}}
use Rattle.std.specs.Vec.{with_items}
use Rattle.worker_journals.proofs.HistoryLemmas.{history_after, kept_after}
use Rattle.worker_journals.specs.Histories.{ArePhase}
use Rattle.worker_journals.specs.Journals.{IsJournalOf, IsLawfulJournal, closed_journal}
use Rattle.worker_journals.specs.{Merged.{entry_count}, inner.Phases.{IsHistory, journals_of}}
use Rattle.worker_journals.proofs.history.History.add_phase_on.Goals as goal

pub close_all-requires : goal.close_all-requires
close_all-requires c = record { asked = λ scripts is. subst (AllByRecursion (IsJournalOf scripts.now)) (sym c.deref_mut.ensures.value) (c.requires.asked scripts is) }

pub invariant_of-self : goal.invariant_of-self
invariant_of-self c =
    subst (λ phases. IsHistory phases c.self.inside.len) (sym (ap journals_of c.in_err-push.ensures.items)) c.self.invariant

pub invariant_of-self-2 : goal.invariant_of-self-2
invariant_of-self-2 c =
    let h = c.self.inside in
    let lawful = subst (AllByRecursion IsLawfulJournal) c.deref.ensures.value (rw c.in_ok-count.ensures.ok_part at c.count_of.ensures.lawful) in
    let are : ArePhase c.args.journals.items = record { few = omega (arith, c.requires.few, c.args.journals.ok.0); by_worker = c.requires.by_worker; lawful = lawful } in
    let same : length c.close_all.new.journals ≡ c.args.journals.len =
    omega (arith, ap length c.in_ok-close_all.ensures, length-map c.deref_mut.result.now closed_journal, c.deref_mut.ensures.len) in
    let has = with_items_is c.args.journals c.close_all.new.journals same in
    let closed = c.in_ok-close_all.ensures ∙ ap (map closed_journal) c.deref_mut.ensures.value in
    let counted : c.in_ok-count.count ≡ entry_count c.args.journals.items =
    rw c.in_ok-count.ensures.ok_part at c.count_of.ensures.count ∙ ap entry_count c.deref.ensures.value in
    let sum = rw c.in_ok-len.ensures.ok_part at c.checked_add.ensures in
    subst (IsHistory (journals_of c.push.new.self.items)) (sym sum.1)
    (kept_after h.phases.items c.push.new.self.items h.len c.in_ok-count.count c.args.journals.items c.close_all.new.journals (with_items c.args.journals c.close_all.new.journals) c.self.invariant are closed has
    c.in_ok-push.ensures.items counted)

pub returns-clause-added : goal.returns-clause-added
returns-clause-added c =
    let h = c.self.inside in
    let lawful = subst (AllByRecursion IsLawfulJournal) c.deref.ensures.value (rw c.in_ok-count.ensures.ok_part at c.count_of.ensures.lawful) in
    let are : ArePhase c.args.journals.items = record { few = omega (arith, c.requires.few, c.args.journals.ok.0); by_worker = c.requires.by_worker; lawful = lawful } in
    let same : length c.close_all.new.journals ≡ c.args.journals.len =
    omega (arith, ap length c.in_ok-close_all.ensures, length-map c.deref_mut.result.now closed_journal, c.deref_mut.ensures.len) in
    let has = with_items_is c.args.journals c.close_all.new.journals same in
    let closed = c.in_ok-close_all.ensures ∙ ap (map closed_journal) c.deref_mut.ensures.value in
    history_after h.phases.items c.push.new.self.items h.len c.in_ok-count.count c.args.journals.items c.close_all.new.journals (with_items c.args.journals c.close_all.new.journals) c.self.invariant are closed has
    c.in_ok-push.ensures.items c.args.self.now c.self.view_is
