use Rattle.std.proofs.Common.{◌≡◌, ◌<◌, ℕ, suc, max, Some, None, length, Option, refl, sym, ap, subst, ◌∙◌, arith}
use Rattle.auction_rows.specs.{Refusals.{number_refusal}}
use Rattle.auction_rows.specs.StoreReplies.{reply_of}
use Rattle.auction_rows.specs.declared.replies.StoreReply.TheVariants.{BidStored}
use Rattle.auction_rows.specs.declared.replies.Reply.TheVariants.{BidStored as Stored}
use Rattle.auction_rows.specs.declared.requests.{BidId.{BidId}, BidEntry.{BidEntry}, Request.{Request}}
use Rattle.request_scripts.specs.{Scripts.{request_of}, declared.script.BidRequest.{BidRequest}}
use Rattle.shard_boxes.specs.{Helds.{IsHeldFor, IsPutWith}, Keys.{KeyState}}
use Rattle.shard_boxes.specs.Lines.{bid_acts, line_of}
use Rattle.phase_transactions.proofs.{AnswerLemmas.{unless_due}, BegunLemmas.{fault_performed}}
use Rattle.phase_transactions.proofs.BidLemmas.{bid_can, bid_commits, bid_entered, bid_held}
use Rattle.phase_transactions.proofs.EmptyLemmas.{stored_performed, refused_untaken, hot_untaken}
use Rattle.phase_transactions.specs.Performing.{HasCommitted, HaveOpening}
use Rattle.phase_transactions.specs.{Workers.{WorkerState, next_bid, with_entry}}
use Rattle.phase_transactions.specs.inner.Asking.{item_alone}
use Rattle.phase_transactions.specs.inner.Begun.{begun_of, step_of}
use Rattle.phase_transactions.specs.inner.Storing.{HasStoredOrIsFull}
use Rattle.phase_transactions.specs.inner.Takens.{each_once, greatest_held, held_in}
use Rattle.phase_transactions.proofs.worker.Worker.transact_bid.Goals as goal
use Rattle.worker_slices.specs.{Homes.{shard_at}}

-- what a bid writes under this id
abbrev entry_of : BidRequest → BidId → BidEntry
entry_of bid id = record { amount = bid.amount; time = bid.time; id = id; bidder = bid.bidder }

none_of : (o : Option ℕ) → ((n : ℕ) → o ≡ Some n → ⊥) → o ≡ None
none_of None some = refl
none_of (Some n) some = absurd (some n refl)

pub refuse-requires-clause-refused : goal.refuse-requires-clause-refused
refuse-requires-clause-refused g c =
    let bid = c.args.bid.now in
    subst (λ (r : Request). number_refusal c.args.self.now.opening r ≡ Some c.in-Some.reason) (sym c.bid_request.ensures)
    (sym (ap (λ (w : WorkerState). number_refusal w.opening (request_of bid)) c.self.view_is) ∙ sym (c.bidder_refusal.ensures bid.item bid.amount bid.time) ∙ c.in-Some.is)

pub returns-in-Some : goal.returns-in-Some
returns-in-Some g c =
    let initial = g.N.PhaseName.initial in let old = c.args.self.now in let bid = c.args.bid.now in
    let request = request_of bid in
    let refused : number_refusal old.opening request ≡ Some c.in-Some.reason =
    sym (ap (λ (w : WorkerState). number_refusal w.opening request) c.self.view_is) ∙ sym (c.bidder_refusal.ensures bid.item bid.amount bid.time) ∙ c.in-Some.is in
    let stored = subst (λ (r : Request). HasStoredOrIsFull old c.refuse.new.self r c.args.index c.refuse.result) c.bid_request.ensures c.refuse.ensures in
    stored_performed initial old c.refuse.new.self request c.args.index c.requires.idle c.refuse.result stored
    (λ answer stored. refused_untaken old (length initial) c.args.index request c.in-Some.reason answer refused) c.requires.goes

pub bid_home-home-requires : goal.bid_home-home-requires
bid_home-home-requires g c =
    let bid = c.args.bid.now in
    sym (ap (λ (w : WorkerState). number_refusal w.opening (request_of bid)) c.self.view_is) ∙ sym (c.bidder_refusal.ensures bid.item bid.amount bid.time) ∙ c.in_default.is

pub returns-in_default-shard : goal.returns-in_default-shard
returns-in_default-shard g c =
    let initial = g.N.PhaseName.initial in let old = c.args.self.now in let bid = c.args.bid.now in
    let request = request_of bid in let homes = item_alone c.bid_home-home.result in
    let may = c.bid_home-home.ensures.may in
    let stored = subst (λ (r : Request). HasStoredOrIsFull old c.store_hot.new.self r c.args.index c.store_hot.result) c.bid_request-in_default-shard.ensures c.store_hot.ensures in
    stored_performed initial old c.store_hot.new.self request c.args.index c.requires.idle c.store_hot.result stored
    (λ answer stored. hot_untaken old c.store_hot.new.self (length initial) c.args.index request homes answer may.allowed stored may.asked
    (sym c.shard.ensures ∙ c.in_default-shard.is) refl) c.requires.goes

pub returns-in_err-one : goal.returns-in_err-one
returns-in_err-one g c =
    let initial = g.N.PhaseName.initial in let old = c.args.self.now in let bid = c.args.bid.now in
    let request = request_of bid in let home = c.bid_home-home.result in
    let homes = item_alone home in let shard = c.in-Some-shard.shard in
    let at : shard_at home ≡ Some shard = sym c.shard.ensures ∙ c.in-Some-shard.is in
    fault_performed initial old c.begin_one.new.self request c.args.index c.from_residual.result c.in_err-one.field-0.0 c.from_residual.ensures.1
    (c.in_err-one.ensures.full request homes (record { may = c.bid_home-home.ensures.may; only = ap (λ a. each_once a None) at }))

pub put_bid-refused-requires : goal.put_bid-refused-requires
put_bid-refused-requires g c =
    let initial = g.N.PhaseName.initial in let old = c.args.self.now in let bid = c.args.bid.now in
    let request = request_of bid in let home = c.bid_home-home.result in
    let homes = item_alone home in let shard = c.in-Some-shard.shard in
    let at : shard_at home ≡ Some shard = sym c.shard.ensures ∙ c.in-Some-shard.is in
    let entry = entry_of bid c.next_bid-id.result in let one = c.in_ok-one.one in
    let step = step_of initial g.N.PhaseName.workers c.args.boxes.now old.key homes in
    let its = c.in_ok-one.ensures.begun request homes (record { may = c.bid_home-home.ensures.may; only = ap (λ a. each_once a None) at }) in
    let w = c.begin_one.new.self in
    record {
      of = subst (λ (s : WorkerState). s.key.boxes ≡ c.args.boxes.now) (sym c.self-2.view_is) its.held.boxes_are;
      held = subst (λ (s : WorkerState). IsHeldFor initial s.key one.held one.number) (sym c.self-2.view_is) (bid_held step w bid.item entry (begun_of one) its one.held refl);
      can = bid_can step w bid.item entry (begun_of one) its one.held refl;
    }

pub add_entry-requires-clause-after : goal.add_entry-requires-clause-after
add_entry-requires-clause-after g c =
    let initial = g.N.PhaseName.initial in let old = c.args.self.now in let bid = c.args.bid.now in
    let request = request_of bid in let home = c.bid_home-home.result in
    let homes = item_alone home in let shard = c.in-Some-shard.shard in
    let at : shard_at home ≡ Some shard = sym c.shard.ensures ∙ c.in-Some-shard.is in
    let entry = entry_of bid c.next_bid-id.result in let one = c.in_ok-one.one in
    let step = step_of initial g.N.PhaseName.workers c.args.boxes.now old.key homes in
    let its = c.in_ok-one.ensures.begun request homes (record { may = c.bid_home-home.ensures.may; only = ap (λ a. each_once a None) at }) in
    let w = c.begin_one.new.self in
    let begun = begun_of one in
    let numbered : begun.number ≡ suc (max w.clock (greatest_held (held_in begun.taken))) = its.numbered in
    let after : w.clock < begun.number = omega (arith, numbered) in
    subst (λ (s : WorkerState). s.clock < begun.number) (sym c.self-2.view_is) after

pub returns : goal.returns
returns g c =
    let initial = g.N.PhaseName.initial in let old = c.args.self.now in let bid = c.args.bid.now in
    let request = request_of bid in let home = c.bid_home-home.result in
    let homes = item_alone home in let shard = c.in-Some-shard.shard in
    let at : shard_at home ≡ Some shard = sym c.shard.ensures ∙ c.in-Some-shard.is in
    let entry = entry_of bid c.next_bid-id.result in let one = c.in_ok-one.one in
    let step = step_of initial g.N.PhaseName.workers c.args.boxes.now old.key homes in
    let its = c.in_ok-one.ensures.begun request homes (record { may = c.bid_home-home.ensures.may; only = ap (λ a. each_once a None) at }) in
    let w = c.begin_one.new.self in
    let begun = begun_of one in let held = one.held in let index = c.args.index in
    let made = c.put_bid-refused.ensures in let refused = c.put_bid-refused.result in
    let reply = reply_of c.reply_unless.result in let new = c.add_entry.new.self in
    let key_is : new.key ≡ c.put_bid-refused.new.key = ap (λ (s : WorkerState). s.key) c.add_entry.ensures.entry in
    let line = line_of begun.number index (bid_acts bid.item entry refused) held.shard in
    let done = subst (λ why. IsPutWith initial c.self-2.inside.key c.put_bid-refused.new.key held (line_of begun.number index (bid_acts bid.item entry why) held.shard)) (sym made.by) made.put in
    let put = subst (λ (keys : KeyState × KeyState). IsPutWith initial keys.0 keys.1 held line) (λ i. ((c.self-2.view_is i).key, sym key_is i)) done in
    let opened = subst (HaveOpening initial) (sym (ap (λ (s : WorkerState). s.opening) c.begin_one.ensures.worker)) c.requires.opened in
    let next = c.next_bid-id.ensures ∙ sym (ap next_bid c.begin_one.ensures.worker) in
    let told = unless_due w request refused c.reply_unless.result (BidStored c.next_bid-id.result) c.reply_unless.ensures (ap Stored next) in
    let entered = c.add_entry.ensures.entry ∙ (λ i. record (with_entry (c.self-2.view_is i) begun.number index (c.bid_request-2.ensures i) reply) { key = sym key_is i }) in (
      reply,
      subst (λ (s : WorkerState). HasCommitted initial s new request index reply) (λ i. record (c.begin_one.ensures.worker i) { key = old.key })
          (bid_commits step w bid.item entry begun its held refl refused reply made.by told next new index opened put
          (entered ∙ (λ i. record (bid_entered step w bid.item entry begun its held refl index reply i) { key = new.key }))),
    )
