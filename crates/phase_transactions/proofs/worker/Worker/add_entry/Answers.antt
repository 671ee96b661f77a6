use Rattle.std.proofs.Common.{◌<◌, ◌+◌, ◌-◌, refl, sym, ap, subst, ◌∙◌, arith}
use Rattle.worker_journals.specs.Journals.{JournalView}
use Rattle.worker_slices.{proofs.FewLemmas.{few_more}, specs.Slicing.{HaveAtMost}}
use Rattle.phase_transactions.{proofs.LawfulLemmas.{lawful_as}, specs.WorkerFields.{state_in}}
use Rattle.phase_transactions.specs.Workers.{WorkerState, with_entry}
use Rattle.phase_transactions.proofs.worker.Worker.add_entry.Goals as goal

pub invariant_of-self : goal.invariant_of-self
invariant_of-self g c =
    let inside = c.self.inside in let call = c.args.call in
    let some : 0 < inside.left = subst (λ (s : WorkerState). 0 < s.left) (sym c.self.view_is) c.requires.left in
    let after : inside.clock < c.args.number = subst (λ (s : WorkerState). s.clock < c.args.number) (sym c.self.view_is) c.requires.after in
    record {
      lawful = lawful_as _ _ c.args.number call.index call.request.now c.args.reply.now c.self.invariant.lawful some after c.count.ensures c.push_answer.ensures.pushed refl refl refl refl
          (few_more inside.counters.commits (inside.counters.commits + 1) inside.slices (omega arith) c.self.invariant.lawful.few);
      worker_is = c.self.invariant.worker_is ∙ sym (ap (λ (j : JournalView). j.worker) c.push_answer.ensures.pushed);
      shards_is = c.self.invariant.shards_is;
      some = c.self.invariant.some;
    }

pub returns-clause-entry : goal.returns-clause-entry
returns-clause-entry g c =
    let inside = c.self.inside in let call = c.args.call in
    (λ i. record (state_in inside) { counters = c.count.ensures i; journal = c.push_answer.ensures.pushed i; left = inside.left - 1; clock = c.args.number })
    ∙ ap (λ (w : WorkerState). with_entry w c.args.number call.index call.request.now c.args.reply.now) c.self.view_is

pub returns-clause-few : goal.returns-clause-few
returns-clause-few g c = subst (λ (s : WorkerState). HaveAtMost s.counters.commits c.self.inside.slices) c.self.view_is c.self.invariant.lawful.few
