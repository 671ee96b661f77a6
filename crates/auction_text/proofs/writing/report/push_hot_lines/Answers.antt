use Rattle.std.proofs.Common.{◌∙◌, ◌++◌, List, ℕ, ap, map}
use Rattle.auction_rows.specs.declared.requests.Object.{Object}
use Rattle.auction_text.proofs.NumberedLemmas.{numbered_all, numbered_more-map}
use Rattle.auction_text.specs.Report.{hot_line}
use Rattle.auction_text.proofs.writing.report.push_hot_lines.Goals as goal

pub loop-phase-preserved : goal.loop-phase-preserved
loop-phase-preserved c =
    let phase = c.loop-phase.phase in let set = c.index-hot-phase.result in
    c.in_ok-push_hot_line.ensures ∙ ap (λ (keys : List Object). c.loop-phase.text.items ++ hot_line phase keys) c.as_slice.ensures.keys
    ∙ ap (λ (text : List ℕ). text ++ hot_line phase set.keys) c.loop-phase.invariant
    ∙ numbered_more-map hot_line (λ s. s.keys) c.args.text.now.items c.args.hot.now phase set c.loop-phase-test.true c.index-hot-phase.is

pub returns : goal.returns
returns c = numbered_all hot_line (map (λ s. s.keys)) c.args.text.now.items c.loop-phase.text.items c.args.hot.now c.loop-phase.phase c.loop-phase-test.false c.loop-phase.invariant
