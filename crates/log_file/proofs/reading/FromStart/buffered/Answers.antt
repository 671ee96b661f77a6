use Rattle.std.proofs.Common.{◌∙◌}
use Rattle.byte_texts.specs.UntilEnd.{left_until_end}
use Rattle.log_file.{proofs.FileLemmas.{unfilled_if_ok}, specs.Reading.{bytes_from}}
use Rattle.log_file.proofs.reading.FromStart.buffered.Goals as goal

pub returns : goal.returns
returns g c =
    let held = g.F.AppendFile.held in let made = c.new.ensures in
    unfilled_if_ok (left_until_end (bytes_from held)) c.new.result c.of-2.result (held c.args.file.now) (c.of-2.ensures ∙ c.of.ensures) made.inner made.empty made.capacity
