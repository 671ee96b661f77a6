use Rattle.std.proofs.Common.{length, refl, ap, subst, ◌∙◌}
use Rattle.auction_rows.specs.declared.requests.Object.TheVariants.{Item}
use Rattle.worker_slices.specs.Homes.{IsHomeOf, shard_at}
use Rattle.worker_slices.specs.declared.homes.Home.TheVariants as home
use Rattle.phase_transactions.proofs.HomeLemmas.{asked, asks_one, asks_two, each_known, no_other, none_known, shard_known}
use Rattle.phase_transactions.specs.inner.Asking.{store_request}
use Rattle.phase_transactions.proofs.worker.Worker.homes.Goals as goal

pub returns-in-Item : goal.returns-in-Item
returns-in-Item g c =
    let w = c.args.self.now in let n = length g.N.PhaseName.initial in
    let at = subst (λ id. IsHomeOf w.slices n (Item id) (home.Shard c.shard.result)) c.next_item.ensures.next (c.shard.ensures.home w.slices c.next_item.ensures.cold) in
    record {
      may = record {
        allowed = c.requires.allowed;
        goes = c.requires.goes;
        homes_are = rw c.in-Item.is (at, c.home.ensures.at);
        asked = λ t. asked w n (store_request c.args.stored.now) _ c.requires.allowed (ap store_request c.in-Item.is) t ∙ asks_two n w.slices _ _ (home.Shard c.shard.result) c.home.result at c.home.ensures.at t;
      };
      known = each_known n _ (shard_at c.home.result) (shard_known n c.shard.result c.shard.ensures.known) c.home.ensures.known;
    }

pub returns-in-Comment : goal.returns-in-Comment
returns-in-Comment g c =
    let w = c.args.self.now in let n = length g.N.PhaseName.initial in
    let item = c.home-in-Comment in let about = c.home-in-Comment-2 in
    record {
      may = record {
        allowed = c.requires.allowed;
        goes = c.requires.goes;
        homes_are = rw c.in-Comment.is (item.ensures.at, about.ensures.at);
        asked = λ t. asked w n (store_request c.args.stored.now) _ c.requires.allowed (ap store_request c.in-Comment.is) t ∙ asks_two n w.slices _ _ item.result about.result item.ensures.at about.ensures.at t;
      };
      known = each_known n (shard_at item.result) (shard_at about.result) item.ensures.known about.ensures.known;
    }

pub returns-in-Buy : goal.returns-in-Buy
returns-in-Buy g c =
    let w = c.args.self.now in let n = length g.N.PhaseName.initial in
    let at = c.shard-in-Buy.ensures.home w.slices (no_other _ (rw c.in-Buy.is at c.requires.goes)) in
    record {
      may = record {
        allowed = c.requires.allowed;
        goes = c.requires.goes;
        homes_are = rw c.in-Buy.is (at, refl);
        asked = λ t. asked w n (store_request c.args.stored.now) _ c.requires.allowed (ap store_request c.in-Buy.is) t ∙ asks_one n w.slices _ (home.Shard c.shard-in-Buy.result) at t;
      };
      known = each_known n _ _ (shard_known n c.shard-in-Buy.result c.shard-in-Buy.ensures.known) (none_known n);
    }
