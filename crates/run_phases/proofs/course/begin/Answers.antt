use Rattle.std.{proofs.Common.{◌∙◌, ap, length, refl, subst, sym}, specs.List.{AllByRecursion}}
use Rattle.run_laws.specs.Serving.{script_of}
use Rattle.worker_journals.{proofs.HistoryLemmas.{merged_nothing}, specs.Histories.{HistoryView}}
use Rattle.worker_journals.specs.Merged.{merged}
use Rattle.run_phases.{proofs.RunLemmas.{begun}, specs.inner.Plans.{IsCallOf}}
use Rattle.run_phases.proofs.course.begin.Goals as goal

pub returns : goal.returns
returns c =
    record {
      limit = refl;
      asked = λ worker. subst (AllByRecursion (IsCallOf (script_of c.args.scripts.now worker))) (sym (c.in_ok-no_stashes.ensures.empty worker)) tt;
      running = λ rows policy begins. begun c.args.state.opening rows policy c.args.scripts.now _
          begins.phase_is refl begins.stands begins.shards_are begins.workers_are begins.commits
          (ap (λ (h : HistoryView). h.entries) c.new.ensures) c.new-2.ensures.items (c.in_ok-no_stashes.ensures.len ∙ ap length c.as_slice.ensures) c.in_ok-no_stashes.ensures.empty (ap (λ (h : HistoryView). merged h.last) c.new.ensures ∙ merged_nothing);
    }
