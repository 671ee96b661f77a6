use Rattle.std.proofs.{Common.{ap, sym, List, ◌++◌, ◌∷◌, [], ◌∙◌}, lemmas.List.{map-append}}
use Rattle.auction_rows.specs.declared.rows.Entry.{Entry}
use Rattle.run_phases.proofs.{AskedLemmas.{left_asked}, RunLemmas.{stepped, may_perform}}
use Rattle.run_phases.{proofs.StableLemmas.{may_still}, specs.Phases.{hot_sets}}
use Rattle.run_phases.proofs.course.next_phase.Goals as goal

pub returns-clause-performed : goal.returns-clause-performed
returns-clause-performed g c =
    let phase = c.in_ok-next.ensures.performed in let hot_now = c.in_ok-hot_now.hot_now in
    let can = c.requires.can in record {
      runs = λ opening rows is_book run.
          stepped can.quotas is_book _ run can.left.0 can.left.1 phase.history phase.last phase.closed
          (ap hot_sets (c.in_ok-push.ensures.items ∙ ap (λ sets. sets ++ hot_now ∷ []) phase.sets_are) ∙ map-append (λ set. set.keys) c.args.running.hot.items (hot_now ∷ []))
          c.in_ok-hot_now.ensures.joined
          c.in_ok-hot_now.ensures.split;
      grown = phase.history ∙ ap (λ (es : List Entry). c.args.running.history.entries ++ es) (sym phase.last);
      asked = left_asked _ _ c.args.running.state.phase _ _ _ _ phase.closed.performed;
      limit = phase.closed.limit_is;
    }

pub perform_phase-requires-clause-may : goal.perform_phase-requires-clause-may
perform_phase-requires-clause-may g c κs within =
    let policy = c.args.plan.policy in let scripts = c.args.plan.round.scripts.now in
    let hot = c.in_ok-hot_now.hot_now.keys in let can = c.requires.can in
    may_still policy scripts c.args.running.state c.args.running.stashes.items hot can.counted can.asked c.in_ok-hot_now.ensures.joined
    (λ never. can.goes_on (λ on.
    never (may_perform policy scripts c.args.running can.shards.some on can.counted hot c.in_ok-hot_now.ensures.joined c.in_ok-hot_now.ensures.split can.asked)))
