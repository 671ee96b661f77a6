use Rattle.std.proofs.Common.{◌++◌, ◌∷◌, append_assoc, ap, sym, ◌∙◌}
use Rattle.std.specs.Vec.Iter.{into_iter_items}
use Rattle.job_threads.proofs.ThreadLemmas.{none_left, all_done}
use Rattle.run_laws.specs.Serving.{lists}
use Rattle.auction_run.proofs.scripts.VecVecRequestScripts.into_compact.Goals as goal

pub loop-script-preserved : goal.loop-script-preserved
loop-script-preserved c =
    let before = c.loop-script.compact.items in
    let next = lists (into_iter_items c.next.new.self) in
    ap (λ scripts. scripts ++ next) c.in_ok-push.ensures.items
    ∙ append_assoc before _ next
    ∙ ap (λ script. before ++ script ∷ next) (c.in_ok-of.ensures ∙ c.deref.ensures.value)
    ∙ ap (λ scripts. before ++ lists scripts) (sym c.in-Some.ensures.steps.0)
    ∙ c.loop-script.invariant

pub returns : goal.returns
returns c =
    let left = c.loop-script.script-iterator.rest in
    all_done c.loop-script.compact.items (lists left.items) (lists c.args.self.items) (ap lists (none_left left.items _ left.ok.0 c.in-None.ensures.steps.0)) c.loop-script.invariant
