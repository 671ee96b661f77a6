use Rattle.std.{proofs.Common.{◌≡◌, subst}, specs.Prelude.{◌↔◌, List, IsTrue, ℕ}}
use Rattle.auction_text.proofs.writing.replies.ReplyText.is_of_store.Goals as goal

pub returns : goal.returns
returns c = subst (λ (told : List ℕ). IsTrue c.is_text_of.result ↔ (c.args.text.now ≡ told)) c.set_store_reply.ensures c.is_text_of.ensures
