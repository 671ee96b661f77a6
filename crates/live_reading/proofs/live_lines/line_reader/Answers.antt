use Rattle.std.proofs.Common.{rules}
use Rattle.record_reading.specs.Reading.{IsPlain}
use Rattle.live_reading.proofs.LiveLineLemmas.{line_has_left}
use Rattle.live_reading.proofs.live_lines.line_reader.Goals as goal

pub returns : goal.returns
returns c =
    let reader = c.from_reader.result in let plain : IsPlain reader = search rules in
    line_has_left _ reader c.args.line.now c.front_of.result.now plain c.front_of.ensures _ c.chain.ensures.bytes c.from_reader.ensures.source c.from_reader.ensures.state
