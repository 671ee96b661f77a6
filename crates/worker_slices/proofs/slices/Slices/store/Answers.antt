use Rattle.std.proofs.{Common.{◌+◌, sym, subst, arith}, lemmas.Bool.{eq-eqb}}
use Rattle.auction_rows.specs.declared.requests.Object.TheVariants.{Item, User, Category}
use Rattle.worker_slices.proofs.FewLemmas.{few_more, few_changed, few_bid, few_comment, few_listed}
use Rattle.worker_slices.proofs.SlicedLemmas.{no_item, no_bid, no_comment, unwritten}
use Rattle.worker_slices.specs.Slicing.{HaveAtMost}
use Rattle.worker_slices.proofs.slices.Slices.store.Goals as goal

pub returns-in-ItemStored : goal.returns-in-ItemStored
returns-in-ItemStored c =
    let is = c.apply_at.ensures (Category c.in-StoreItem.facts.category) c.requires.home.0 (rw c.in-StoreItem.is at c.requires.home.1) in
    record {
      written = λ worker own. rw (c.in-StoreItem.is, c.in-ItemStored.is, eq-eqb _ _ (rw c.in-ItemStored.is at own)) is;
      few = λ n few. subst (HaveAtMost (n + 1)) (sym is) (few_changed n (Category c.in-StoreItem.facts.category) _ c.args.self.now (few_listed n (record { time = c.in-StoreItem.time; id = c.in-ItemStored.id })) few);
    }

pub returns-in_default-reply : goal.returns-in_default-reply
returns-in_default-reply c = record {
  written = λ worker own. rw c.in-StoreItem.is (no_item c.args.self.now worker _ _ c.args.reply c.in_default-reply.not-ItemStored);
  few = λ n few. few_more n (n + 1) c.args.self.now (omega arith) few;
}

pub returns-in-BidStored : goal.returns-in-BidStored
returns-in-BidStored c =
    let is = c.apply_at-in-BidStored.ensures (Item c.in-StoreBid.item) c.requires.home.0 (rw c.in-StoreBid.is at c.requires.home.1) in
    record {
      written = λ worker own. rw (c.in-StoreBid.is, c.in-BidStored.is, eq-eqb _ _ (rw c.in-BidStored.is at own)) is;
      few = λ n few. subst (HaveAtMost (n + 1)) (sym is) (few_changed n (Item c.in-StoreBid.item) _ c.args.self.now (few_bid n (record { amount = c.in-StoreBid.amount; time = c.in-StoreBid.time; id = c.in-BidStored.id; bidder = c.in-StoreBid.bidder })) few);
    }

pub returns-in_default-reply-2 : goal.returns-in_default-reply-2
returns-in_default-reply-2 c = record {
  written = λ worker own. rw c.in-StoreBid.is (no_bid c.args.self.now worker _ _ _ _ c.args.reply c.in_default-reply-2.not-BidStored);
  few = λ n few. few_more n (n + 1) c.args.self.now (omega arith) few;
}

pub returns-in-CommentStored : goal.returns-in-CommentStored
returns-in-CommentStored c =
    let is = c.apply_at-in-CommentStored.ensures (User c.in-StoreComment.about) c.requires.home.0 (rw c.in-StoreComment.is at c.requires.home.1) in
    record {
      written = λ worker own. rw (c.in-StoreComment.is, c.in-CommentStored.is, eq-eqb _ _ (rw c.in-CommentStored.is at own)) is;
      few = λ n few. subst (HaveAtMost (n + 1)) (sym is) (few_changed n (User c.in-StoreComment.about) _ c.args.self.now (few_comment n c.in-StoreComment.stars) few);
    }

pub returns-in_default-reply-3 : goal.returns-in_default-reply-3
returns-in_default-reply-3 c = record {
  written = λ worker own. rw c.in-StoreComment.is (no_comment c.args.self.now worker _ _ _ _ c.args.reply c.in_default-reply-3.not-CommentStored);
  few = λ n few. few_more n (n + 1) c.args.self.now (omega arith) few;
}

pub returns-in_default : goal.returns-in_default
returns-in_default c = record {
  written = λ worker own. unwritten c.args.self.now worker c.args.request.now c.args.reply c.in_default.not-StoreItem c.in_default.not-StoreBid c.in_default.not-StoreComment;
  few = λ n few. few_more n (n + 1) c.args.self.now (omega arith) few;
}
