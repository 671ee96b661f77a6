use Rattle.std.proofs.Common.{arith, codes, rules, refl, false, ◌++◌, ◌∷◌, ◌<◌, ◌≤◌, ◌+◌, [], length, take}
use Rattle.record_reading.proofs.PlainLineLemmas.{line_in_place}
use Rattle.record_reading.proofs.WholeLineLemmas.{number_before, whole_line, word_before}
use Rattle.record_reading.specs.inner.PlainLines.{HasWordAt, IsRequestAt}
use Rattle.record_reading.specs.declared.fields.RequestKind.TheVariants as kind
use Rattle.record_reading.proofs.plain_lines.bid_at.Goals as goal

pub returns-clause-says : goal.returns-clause-says
returns-clause-says c =
    let text = c.args.text.now in let at_word = c.in_ok-worker.at_word in
    let request : IsRequestAt false text at_word c.in_ok-request.request c.in_ok-request.next =
    record { word = codes "bid"; kind = kind.Bid; plain = refl; named = refl; there = search rules; rest = c.in_ok-request.ensures.asks } in
    line_in_place text c.args.at c.in_ok-worker.worker at_word false c.in_ok-request.request c.in_ok-request.next c.in_ok-worker.ensures request

pub returns-clause-alone : goal.returns-clause-alone
returns-clause-alone c =
    let text = c.args.text.now in let at = c.args.at in let at_word = c.in_ok-worker.at_word in
    let next = c.in_ok-request.next in
    let has : HasWordAt text at_word (codes "bid" ++ (44 ∷ [])) = search rules in
    let rest = c.in_ok-request.ensures in let within : next ≤ length text = rest.asks.within in
    let after : at_word + 4 < next = rest.asks.after in
    let request : IsRequestAt false (take next text) at_word c.in_ok-request.request next =
    record { word = codes "bid"; kind = kind.Bid; plain = refl; named = refl; there = word_before text next within at_word (codes "bid" ++ (44 ∷ [])) has (omega arith) after; rest = rest.alone } in
    line_in_place (take next text) at c.in_ok-worker.worker at_word false c.in_ok-request.request next
    (number_before text next within at 44 32 c.in_ok-worker.worker at_word c.in_ok-worker.ensures (omega (arith, after))) request

pub returns-clause-whole : goal.returns-clause-whole
returns-clause-whole c =
    let text = c.args.text.now in let at_word = c.in_ok-worker.at_word in
    let rest = c.in_ok-request.ensures in
    let has : HasWordAt text at_word (codes "bid" ++ (44 ∷ [])) = search rules in
    whole_line text c.args.at c.in_ok-worker.worker at_word c.in_ok-request.next (codes "bid" ++ (44 ∷ [])) c.in_ok-worker.ensures has refl rest.line rest.asks.after rest.asks.within
