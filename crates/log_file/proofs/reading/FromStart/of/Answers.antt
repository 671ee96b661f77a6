use Rattle.log_file.proofs.FileLemmas.{from_start}
use Rattle.log_file.proofs.reading.FromStart.of.Goals as goal

pub returns : goal.returns
returns g c = from_start (g.F.AppendFile.held c.args.file.now)
