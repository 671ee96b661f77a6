use Rattle.std.proofs.Common.{arith, ◌<◌, ◌≤◌, ◌++◌, ◌∷◌, ◌∙◌, [], ℕ, List, ap, length, replicate, sym, take_all}
use Rattle.std.proofs.lemmas.List.{length-set, replicate_more, take_more_set}
use Rattle.auction_rows.specs.declared.requests.Request.{Request}
use Rattle.auction_reading.proofs.joins.clear_scripts.Goals as goal

pub loop-script-preserved : goal.loop-script-preserved
loop-script-preserved c =
    let inv = c.loop-script.invariant in let now = c.loop-script.scripts in
    let i = c.loop-script.script-index in let new = c.clear.new.self in
    let within : i < length now = omega (arith, c.loop-script-test.true, c.loop-script.auto.scripts) in
    record {
      within = omega (arith, within, length-set now i new);
      done = take_more_set now i new within ∙ ap (λ (front : List (List Request)). front ++ new ∷ []) inv.done
          ∙ ap (λ (script : List Request). replicate i [] ++ script ∷ []) c.clear.ensures ∙ replicate_more i [];
    }

pub returns : goal.returns
returns c =
    let inv = c.loop-script.invariant in let now = c.loop-script.scripts in
    let i = c.loop-script.script-index in
    let past : length now ≤ i = omega (arith, c.loop-script-test.false, c.loop-script.auto.scripts) in
    sym (take_all i now past) ∙ inv.done ∙ ap (λ (n : ℕ). replicate n []) (omega (arith, past, inv.within, c.loop-script.auto.scripts))
