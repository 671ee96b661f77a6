use Rattle.std.proofs.Common.{sym, ap}
use Rattle.item_shards.specs.Writing.{writes_of, first_act, second_act}
use Rattle.item_shards.proofs.shard.acts.writes_of.Goals as goal

pub returns-in-Item : goal.returns-in-Item
returns-in-Item c = record {
  first = λ contents. ap (λ one. first_act (writes_of one)) (sym c.in-Item.is);
  second = λ contents. ap (λ one. second_act (writes_of one)) (sym c.in-Item.is);
}

pub returns-in-Bid : goal.returns-in-Bid
returns-in-Bid c = record {
  first = λ contents. ap (λ one. first_act (writes_of one)) (sym c.in-Bid.is);
  second = λ contents. ap (λ one. second_act (writes_of one)) (sym c.in-Bid.is);
}

pub returns-in-Comment : goal.returns-in-Comment
returns-in-Comment c = record {
  first = λ contents. ap (λ one. first_act (writes_of one)) (sym c.in-Comment.is);
  second = λ contents. ap (λ one. second_act (writes_of one)) (sym c.in-Comment.is);
}

pub returns-in-Buy : goal.returns-in-Buy
returns-in-Buy c = record {
  first = λ contents. ap (λ one. first_act (writes_of one)) (sym c.in-Buy.is);
  second = λ contents. ap (λ one. second_act (writes_of one)) (sym c.in-Buy.is);
}
