use Rattle.std.proofs.Common.{◌≡◌, ◌∙◌, sym, ap, subst}
use Rattle.auction_rows.specs.Replies.{next, reply}
use Rattle.auction_rows.specs.declared.{values.Opening.Opening, replies.Reply.Reply}
use Rattle.item_shards.specs.Serial.{HoldsBook, serial_opening}
use Rattle.item_shards.specs.declared.serial.SerialAuction.{SerialAuction}
use Rattle.history_check.specs.{declared.replay.Replay.{Replay}, inner.Replaying.{HasCompared}}
use Rattle.history_check.proofs.replay.Replay.is_due.Goals as goal

-- what changes with the reply that was due is not the auction
rest : (old new : Replay) (auction : SerialAuction) → new ≡ record old { auction = auction; due = new.due; wrong = new.wrong }
    → new ≡ record old { auction = new.auction; due = new.due; wrong = new.wrong }
rest old new auction is = is ∙ ap (λ (a : SerialAuction). record old { auction = a; due = new.due; wrong = new.wrong }) (sym (ap (λ (r : Replay). r.auction) is))

pub returns-in-Some : goal.returns-in-Some
returns-in-Some c = record {
  compared = λ book holds.
      let due = rw c.in-Some.is at c.in_ok-reply.ensures.reply in
      subst (λ (due : Reply). HasCompared c.is_stored.result due c.args.text.now c.is_stored.new.self) (due book holds) c.is_stored.ensures.compared;
  book = λ book holds not_full.
      subst (λ (r : Replay). HoldsBook r.auction (next (serial_opening c.args.self.now.auction) book c.args.worker c.args.request.now)) (sym c.is_stored.ensures.others)
      (c.in_ok-reply.ensures.book book holds not_full);
  opening = ap (λ (r : Replay). serial_opening r.auction) c.is_stored.ensures.others ∙ c.in_ok-reply.ensures.opening;
  others = rest c.args.self.now c.is_stored.new.self _ c.is_stored.ensures.others;
}

pub returns-in-None : goal.returns-in-None
returns-in-None c = record {
  compared = λ book holds.
      let same = rw c.in-None.is at c.in_ok-reply.ensures.view in
      subst (λ (opening : Opening). HasCompared c.is_seen.result (reply opening book c.args.worker c.args.request.now) c.args.text.now c.is_seen.new.self) c.in_ok-reply.ensures.opening
      (c.is_seen.ensures.compared book (subst (λ (auction : SerialAuction). HoldsBook auction book) (sym same) holds));
  book = λ book holds not_full.
      subst (λ (r : Replay). HoldsBook r.auction (next (serial_opening c.args.self.now.auction) book c.args.worker c.args.request.now)) (sym c.is_seen.ensures.others)
      (c.in_ok-reply.ensures.book book holds not_full);
  opening = ap (λ (r : Replay). serial_opening r.auction) c.is_seen.ensures.others ∙ c.in_ok-reply.ensures.opening;
  others = rest c.args.self.now c.is_seen.new.self _ c.is_seen.ensures.others;
}
