use Rattle.std.proofs.Common.{◌≡◌, false, length, sym, ap, subst, ◌∙◌}
use Rattle.auction_rows.specs.{Requests.{is_view}, StoreReplies.{reply_of}}
use Rattle.auction_rows.specs.declared.requests.Request.{Request}
use Rattle.item_shards.specs.declared.shard.acts.Act.{Act}
use Rattle.shard_boxes.specs.Keys.{KeyState}
use Rattle.phase_transactions.proofs.AnswerLemmas.{own_reply, stores, written_at}
use Rattle.phase_transactions.proofs.BegunLemmas.{begun_can, begun_commits, begun_good, next_reply, seen_answered}
use Rattle.phase_transactions.specs.{Putting.{HasPutAll}, Workers.{WorkerState, after_commit}}
use Rattle.phase_transactions.specs.inner.Begun.{step_of, AreGoodFor, AreOwedBy, HaveFootprint}
use Rattle.phase_transactions.specs.inner.{Deeds.{acts_dealt}, HeldShards.{two_acts}}
use Rattle.phase_transactions.specs.inner.Takens.{held_in, numbers_of, is_one_of, dealt, line_among, CanBeDoneOnAll}
use Rattle.phase_transactions.proofs.worker.Worker.put_store.Goals as goal
use Rattle.worker_slices.specs.{Counting.{IsOwn}, Homes.{IsWrittenAt}}

pub put_all-requires-clause-can : goal.put_all-requires-clause-can
put_all-requires-clause-can g c =
    let initial = g.N.PhaseName.initial in let w = c.args.self.now in
    let store = c.args.store.now in let took = c.args.begun.taken in
    let begun = c.requires.begun.1 in let reply = reply_of store.reply in
    let key = c.requires.begun.0 in let request = store.call.request.now in
    let homes = store.homes.now in let seen = c.requires.answered.seen in
    let deeds = c.of-deeds.result in let asks = sym c.requires.asks in
    let step = step_of initial g.N.PhaseName.workers c.args.boxes.now key homes in
    let is_store = subst (λ (r : Request). is_view r ≡ false) asks (stores c.args.stored.now) in
    let good = subst (λ (r : Request). AreGoodFor r reply seen homes deeds) asks (c.of-deeds.ensures.good seen) in
    let foot = subst (λ (r : Request). HaveFootprint r homes deeds) asks c.of-deeds.ensures.footprint in
    subst (λ (acts : Act × Act). CanBeDoneOnAll c.args.begun.number (held_in took) (dealt took (two_acts acts))) (sym c.dealt-acts.ensures)
    (begun_can step w request c.args.begun begun seen is_store c.requires.answered.saw reply deeds c.requires.room c.requires.answered.answered c.requires.opened
    (λ held on. good initial g.N.PhaseName.workers c.args.boxes.now key w held on) (foot w (length initial) begun.may.homes_are))

pub add_store-requires-clause-home : goal.add_store-requires-clause-home
add_store-requires-clause-home g c =
    let store = c.args.store.now in
    subst (λ (w : WorkerState). IsWrittenAt w.slices store.call.request.now store.homes.now) (sym c.self.view_is) (written_at c.args.self.now store.call.request.now store.homes.now (length g.N.PhaseName.initial, c.requires.begun.1.may.homes_are))

pub add_store-requires-clause-own : goal.add_store-requires-clause-own
add_store-requires-clause-own g c =
    let store = c.args.store.now in let reply = reply_of store.reply in
    let is_store = subst (λ (r : Request). is_view r ≡ false) (sym c.requires.asks) (stores c.args.stored.now) in
    subst (λ (w : WorkerState). IsOwn w.journal.worker reply) (sym c.self.view_is) (own_reply c.args.self.now c.requires.answered.seen store.call.request.now reply c.requires.answered.answered is_store)

pub returns : goal.returns
returns g c = λ key begun.
    let initial = g.N.PhaseName.initial in let w = c.args.self.now in
    let store = c.args.store.now in let request = store.call.request.now in
    let homes = store.homes.now in let seen = c.requires.answered.seen in
    let step = step_of initial g.N.PhaseName.workers c.args.boxes.now key homes in
    let took = c.args.begun.taken in let number = c.args.begun.number in
    let reply = reply_of store.reply in let new = c.add_store.new.self in
    let deeds = c.of-deeds.result in let asks = sym c.requires.asks in
    let is_store = subst (λ (r : Request). is_view r ≡ false) asks (stores c.args.stored.now) in
    let owed = subst (λ (r : Request). AreOwedBy r reply seen homes deeds) asks (c.of-deeds.ensures.owed seen) in
    let good = subst (λ (r : Request). AreGoodFor r reply seen homes deeds) asks (c.of-deeds.ensures.good seen) in
    let foot = subst (λ (r : Request). HaveFootprint r homes deeds) asks c.of-deeds.ensures.footprint in
    let key_is : new.key ≡ c.put_all.new.key = ap (λ (s : WorkerState). s.key) c.add_store.ensures in
    let lines = line_among number store.call.index (held_in took) (dealt took (two_acts (acts_dealt deeds))) in
    let put = subst (λ (acts : Act × Act). HasPutAll initial c.self.inside.key c.put_all.new.key (is_one_of (numbers_of (held_in took))) (line_among number store.call.index (held_in took) (dealt took (two_acts acts)))) c.dealt-acts.ensures c.put_all.ensures in
    let answered = c.requires.answered.answered in
    begun_commits step w request c.args.begun begun new store.call.index reply seen deeds (foot w (length initial) begun.may.homes_are)
    (owed w (length initial) begun.may.homes_are (own_reply w seen request reply answered is_store) (next_reply w seen request reply answered is_store))
    (begun_good step w request c.args.begun begun seen is_store c.requires.answered.saw reply deeds c.requires.room answered c.requires.opened
    (λ held on. good initial g.N.PhaseName.workers c.args.boxes.now key w held on))
    (seen_answered step w request c.args.begun begun seen is_store c.requires.answered.saw store.call.index reply answered)
    (subst (λ (k : KeyState). HasPutAll initial w.key k (is_one_of (numbers_of (held_in took))) lines) (sym key_is)
    (subst (λ (s : WorkerState). HasPutAll initial s.key c.put_all.new.key (is_one_of (numbers_of (held_in took))) lines) c.self.view_is put))
    (c.add_store.ensures ∙ (λ i. record (after_commit (c.self.view_is i) number store.call.index request reply) { key = sym key_is i }))
