use Rattle.item_shards.proofs.AnswerLemmas.{item_reply, bids_reply, category_reply_is, user_reply_is, stock_is}
use Rattle.item_shards.proofs.laws.views_are_replies.Goals as goal

pub returns-clause-items : goal.returns-clause-items
returns-clause-items c = item_reply

pub returns-clause-bids : goal.returns-clause-bids
returns-clause-bids c = bids_reply

pub returns-clause-categories : goal.returns-clause-categories
returns-clause-categories c = category_reply_is

pub returns-clause-users : goal.returns-clause-users
returns-clause-users c = user_reply_is

pub returns-clause-stock : goal.returns-clause-stock
returns-clause-stock c = stock_is
