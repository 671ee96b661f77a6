use Rattle.split_engine.proofs.{Counts.{all_committed}, Ends.{state_at_last}}
use Rattle.split_engine.specs.Serving.{lists}
use Rattle.split_engine.proofs.runs.finish.Goals as goal

pub returns : goal.returns
returns g c n opened f =
    let s = g.A.Application in let state = c.args.state in let scripts = lists c.args.scripts.now in record {
      outcome = state_at_last s.rules s.fits n opened scripts state.so_far.table.items state.so_far.history state.cursors.items f c.requires;
      fits = f.fits;
      as_many = all_committed s.rules s.fits n opened scripts state.so_far.table.items state.so_far.history state.cursors.items f c.requires;
      size_is = f.size_is;
    }
