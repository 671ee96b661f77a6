use Rattle.std.proofs.Common.{◌++◌, ◌∷◌, map, append-nil, append_assoc, ap, sym, ◌∙◌}
use Rattle.std.{proofs.lemmas.List.{map_push, nil_from_length}, specs.Vec.Iter.{into_iter_items}}
use Rattle.auction_reading.proofs.scripts.lists_of.Goals as goal

pub loop-script-preserved : goal.loop-script-preserved
loop-script-preserved c =
    let before = map (λ requests. requests.items) c.loop-script.lists.items in
    let next = into_iter_items c.next.new.self in
    ap (λ lists. map (λ requests. requests.items) lists ++ next) c.in_ok-push.ensures.items
    ∙ ap (λ lists. lists ++ next) (map_push (λ requests. requests.items) c.loop-script.lists.items _)
    ∙ append_assoc before _ next
    ∙ ap (λ list. before ++ list ∷ next) c.in_ok-to_requests.ensures
    ∙ ap (λ scripts. before ++ scripts) (sym c.in-Some.ensures.steps.0)
    ∙ c.loop-script.invariant

pub returns-clause-same : goal.returns-clause-same
returns-clause-same c =
    let left = c.loop-script.script-iterator.rest in
    let lists = map (λ requests. requests.items) c.loop-script.lists.items in
    sym (append-nil lists) ∙ ap (λ scripts. lists ++ scripts) (sym (nil_from_length left.items (sym left.ok.0 ∙ c.in-None.ensures.steps.0))) ∙ c.loop-script.invariant
