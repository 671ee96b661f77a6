-- A commit keeps a worker lawful.
use Rattle.std.proofs.Common.{◌≡◌, ℕ, ◌+◌, ◌-◌, ◌<◌, ◌≤◌, List, [], ◌∷◌, length, refl, sym, ap, subst, ◌∙◌, arith, length-append}
use Rattle.phase_laws.{proofs.NumberLemmas.{last-push}, specs.Numbers.{last_by}}
use Rattle.auction_rows.specs.Footprint.{is_hot}
use Rattle.auction_rows.specs.declared.replies.Reply.TheVariants.{ItemStored, BidStored, CommentStored, Bought}
use Rattle.auction_rows.specs.declared.requests.Object.TheVariants.{Item}
use Rattle.auction_rows.specs.declared.{requests.Object.Object, requests.Request.Request, replies.Reply.Reply}
use Rattle.item_shards.specs.Events.{Event}
use Rattle.worker_journals.specs.Journals.{JournalView, entry_number, commit_in, with_commit}
use Rattle.worker_slices.proofs.StockLemmas.{stocks-acts}
use Rattle.worker_slices.specs.Counting.{counters_after, AreCounted}
use Rattle.worker_slices.specs.Slicing.{hot_objects, slices_after_acts, HaveAtMost}
use Rattle.worker_slices.specs.{Stashes.{StashState}, declared.counters.Counters.{Counters}}
use Rattle.worker_slices.specs.declared.slices.Hot.{Hot}
use Rattle.phase_transactions.proofs.HomeLemmas.{same_objects_of}
use Rattle.phase_transactions.specs.Workers.{WorkerState, HasStashRoom, IsLawfulWorker}

-- What a commit counts: itself, and at most one store.
pub record CountsOne (old new : Counters) : Type 0 where
  pub commits : new.commits ≡ old.commits + 1
  pub items : old.items ≤ new.items
  pub bids : old.bids ≤ new.bids
  pub comments : old.comments ≤ new.comments
  pub buys : old.buys ≤ new.buys
  pub stores : new.items + new.bids + new.comments + new.buys ≤ old.items + old.bids + old.comments + old.buys + 1

no_store : (c : Counters) → CountsOne c (record c { commits = c.commits + 1 })
no_store c = record { commits = refl; items = omega arith; bids = omega arith; comments = omega arith; buys = omega arith; stores = omega arith }

pub counts_one : (c : Counters) (reply : Reply) → CountsOne c (counters_after c reply)
counts_one c (ItemStored id) = record { commits = refl; items = omega arith; bids = omega arith; comments = omega arith; buys = omega arith; stores = omega arith }
counts_one c (BidStored id) = record { commits = refl; items = omega arith; bids = omega arith; comments = omega arith; buys = omega arith; stores = omega arith }
counts_one c (CommentStored id) = record { commits = refl; items = omega arith; bids = omega arith; comments = omega arith; buys = omega arith; stores = omega arith }
counts_one c (Bought id) = record { commits = refl; items = omega arith; bids = omega arith; comments = omega arith; buys = omega arith; stores = omega arith }
counts_one c reply = no_store c

pub still_counted : (counters : Counters) (reply : Reply) → AreCounted counters → AreCounted (counters_after counters reply)
still_counted c reply is =
    let one = counts_one c reply in
    record { items = omega (arith, one, is.items); bids = omega (arith, one, is.bids); comments = omega (arith, one, is.comments); buys = omega (arith, one, is.buys) }

-- acts leave the objects
pub objects-acts : (hots : List (Object × Hot)) (acts : List Event) → hot_objects (slices_after_acts hots acts) ≡ hot_objects hots
objects-acts hots acts = sym (same_objects_of (slices_after_acts hots acts)) ∙ ap hot_objects (stocks-acts hots acts) ∙ same_objects_of hots

-- the stash has room for no more
room_as : (hots slices : List (Object × Hot)) (left less room : ℕ) → less ≤ left → hot_objects slices ≡ hot_objects hots → HasStashRoom hots left room → HasStashRoom slices less room
room_as hots [] left less room fewer same is = tt
room_as [] (hot ∷ slices) left less room fewer same is = absurd (cc)
room_as (first ∷ hots) (hot ∷ slices) left less room fewer same is = omega (arith, fewer, is)

-- a worker with the counters, the journal, the stash, the quota and the clock after a commit of a lawful one is lawful, where its slices are of few operations
pub lawful_as : (w new : WorkerState) (number index : ℕ) (request : Request) (reply : Reply) → IsLawfulWorker w → 0 < w.left → w.clock < number
    → new.counters ≡ counters_after w.counters reply → new.journal ≡ with_commit w.journal number index request reply → new.stash ≡ w.stash → new.left ≡ w.left - 1 → new.clock ≡ number
    → hot_objects new.slices ≡ hot_objects w.slices → HaveAtMost (w.counters.commits + 1) new.slices → IsLawfulWorker new
lawful_as w new number index request reply is some after counts keeps stays less clocked same few =
    let entry = commit_in w.journal number index request reply in
    let one = counts_one w.counters reply in
    let commits = ap (λ (c : Counters). c.commits) counts ∙ one.commits in
    let entries = ap (λ (j : JournalView). length j.entries) keeps ∙ length-append w.journal.entries (entry ∷ []) in
    let rooms = ap (λ (j : JournalView). j.room) keeps in
    let waits = ap (λ (s : StashState). length s.requests) stays in
    let last = ap (λ (j : JournalView). last_by entry_number 0 j.entries) keeps ∙ last-push entry_number 0 w.journal.entries entry in
    let limit = is.room.limit in
    let room = is.room.room in record {
      room = record {
        counted = subst AreCounted (sym counts) (still_counted w.counters reply is.room.counted);
        limit = omega (arith, commits, waits, less, limit);
        room = omega (arith, entries, rooms, waits, less, room);
        latest = omega (arith, last, clocked);
      };
      few = subst (λ n. HaveAtMost n new.slices) (sym commits) few;
      stash_room = subst (λ (s : StashState). HasStashRoom new.slices new.left s.room) (sym stays) (room_as w.slices new.slices w.left new.left w.stash.room (omega (arith, less)) same is.stash_room);
      stored = λ item hot own.
          let fewer = is.stored item (ap (λ objects. is_hot objects (Item item)) (sym same) ∙ hot) (own ∙ ap (λ (j : JournalView). j.worker) keeps) in
          let items = ap (λ (c : Counters). c.items) counts in
          omega (arith, fewer, items, one.items);
    }

-- so is a lawful worker with other slices of the same objects, of few operations
pub lawful_sliced : (w : WorkerState) (slices : List (Object × Hot)) → IsLawfulWorker w → hot_objects slices ≡ hot_objects w.slices → HaveAtMost w.counters.commits slices → IsLawfulWorker (record w { slices = slices })
lawful_sliced w slices is same few = record {
  room = record { counted = is.room.counted; limit = is.room.limit; room = is.room.room; latest = is.room.latest };
  few = few;
  stash_room = room_as w.slices slices w.left w.left w.stash.room (omega arith) same is.stash_room;
  stored = λ item hot own. is.stored item (ap (λ objects. is_hot objects (Item item)) (sym same) ∙ hot) own;
}
