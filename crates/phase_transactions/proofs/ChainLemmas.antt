-- A store over the shards of its footprint, however many these are: taken, and put back with its deeds, it is a commit; taken, and put back as they were, it failed.
use Rattle.std.proofs.Common.{◌≡◌, ℕ, suc, max, ◌<◌, ◌≤◌, ◌==◌, not, true, false, cond, if◌then◌else◌, List, [], ◌∷◌, length, map, filter, Option, None, is_some, refl, sym, ap, subst, ◌∙◌}
use Rattle.std.specs.List.{AllByRecursion, list_any}
use Rattle.phase_laws.specs.Numbers.{greatest_by}
use Rattle.auction_rows.specs.{Refusals.{number_refusal}, Requests.{shard_of}}
use Rattle.auction_rows.specs.declared.replies.Reply.TheVariants.{ItemStored}
use Rattle.auction_rows.specs.declared.{requests.Facts.Facts, requests.Request.Request, replies.Reply.Reply}
use Rattle.auction_rows.specs.Footprint.{is_hot, objects_of as objects_named}
use Rattle.item_shards.specs.{CommitNumbers.{last_number}, Writing.{padded, done_on, acts_owed}}
use Rattle.item_shards.specs.declared.shard.acts.Act.{Act}
use Rattle.shard_boxes.specs.{Helds.{HeldState}, Keys.{KeyState}}
use Rattle.shard_boxes.specs.{Lines.{Line, first_two, after_lines}, States.{ShardState, state_at}}
use Rattle.phase_transactions.proofs.{HomeLemmas.{same_objects_of}, KeyLemmas.{lines_on}}
use Rattle.phase_transactions.proofs.PutAllLemmas.{taken_and_put, put_owed}
use Rattle.phase_transactions.proofs.WrittenLemmas.{events_among, dealt_on, line_is, greatest_same, greatest_taken}
use Rattle.phase_transactions.specs.Performing.{HasCommitted, HasFailed, IsCause, StoresItem, asks, shards_asked, greatest_seen}
use Rattle.phase_transactions.specs.Putting.{clock_seen, HasPutAll}
use Rattle.phase_transactions.specs.Txns.{Setting, Txn, hot_of, takes, line_on, greatest_clock, clock_found, clock_in, is_put_off, IsAnswered, ReadSet}
use Rattle.phase_transactions.specs.Workers.{WorkerState, setting_of, next_item, txn_of, after_commit}
use Rattle.phase_transactions.specs.declared.{deeds.Deeds.{Deeds}, fault.PermitFault.{PermitFault}}
use Rattle.phase_transactions.specs.declared.fault.PermitFault.TheVariants.{Memory, NumberFull}
use Rattle.phase_transactions.specs.declared.taken.Taken.{Taken}
use Rattle.phase_transactions.specs.inner.Deeds.{first_dealt, second_dealt, clocks_of, found_on, acts_for, event_with, AreDeedsOf, AreGoodOn, footprint_on}
use Rattle.phase_transactions.specs.inner.HeldShards.{IsAsTaken}
use Rattle.phase_transactions.specs.inner.Takens.{footprint_of, greatest_held, held_in, numbers_of, is_one_of, dealt, line_among, HasTakenAll, AreBack}
use Rattle.worker_slices.specs.{Homes.{shard_at}, Slicing.{hot_objects}}
use Rattle.worker_slices.specs.declared.homes.Homes.{Homes}

module _ {N : Type 0} {workers : ℕ} (initial : List ShardState) (old new : WorkerState) (key : KeyState) (request : Request) (homes : Homes) (took : Taken N)
    (its : HasTakenAll initial workers old.key key (footprint_of homes) (held_in took))
    (asked : (t : ℕ) → asks (length initial) old request t ≡ is_one_of (footprint_of homes) t) where
  is_held : (t : ℕ) → is_one_of (footprint_of homes) t ≡ is_one_of (numbers_of (held_in took)) t
  is_held t = ap (λ ns. is_one_of ns t) (sym its.numbers)

  -- with its deeds
  module _ (index number : ℕ) (reply : Reply) (seen : Option (Facts × ℕ)) (deeds : Deeds)
      (foot : footprint_on deeds ≡ footprint_of homes)
      (owed : AreDeedsOf old.slices (length initial) (acts_for old.journal.worker seen request reply) (event_with seen reply deeds.first) (event_with seen reply deeds.second) deeds.home deeds.other)
      (good : AllByRecursion (AreGoodOn (shard_at deeds.home) (shard_at deeds.other) (event_with seen reply deeds.first) (event_with seen reply deeds.second)) (held_in took))
      (allowed : number_refusal old.opening request ≡ None)
      (needs : objects_named request reply ≡ objects_named request (ItemStored (next_item old))) where
    abbrev z : Setting
    z = setting_of old (length initial)

    abbrev found : ReadSet
    found = found_on seen took

    abbrev txn : Txn
    txn = txn_of old number request index reply found

    abbrev first : Act
    first = first_dealt deeds.first deeds.second (shard_at deeds.home) (shard_at deeds.other)

    abbrev second : Act
    second = second_dealt deeds.first deeds.second (shard_at deeds.home) (shard_at deeds.other)

    abbrev lines : ℕ → Line
    lines = line_among number index (held_in took) (dealt took (first ∷ second ∷ []))

    takes_is : (t : ℕ) → takes z t txn ≡ is_one_of (footprint_of homes) t
    takes_is t =
        ap (λ objects. list_any (λ taken. taken == t) (map (λ object. shard_of object (length initial))
        (if is_some (number_refusal old.opening request) then [] else filter (λ object. not (is_hot (hot_of z) object)) objects))) needs
        ∙ asked t

    acts_are : (t : ℕ) → is_one_of (footprint_of homes) t ≡ true → events_among (held_in took) (dealt took (first ∷ second ∷ [])) t ≡ acts_owed old.opening t (length initial) (hot_of z) seen txn.0
    acts_are t here =
        dealt_on seen reply deeds.first deeds.second took deeds.home deeds.other (its.numbers ∙ sym foot) good t (sym (is_held t) ∙ here)
        ∙ sym (owed t)
        ∙ (λ i. padded (done_on t (length initial) (sym (same_objects_of old.slices) i) (acts_for old.journal.worker seen request reply)))
        ∙ ap (λ refused. padded (done_on t (length initial) (hot_of z) (cond (is_some refused) [] (acts_for old.journal.worker seen request reply)))) (sym allowed)

    owes : (t : ℕ) → is_one_of (footprint_of homes) t ≡ true → lines t ≡ line_on z t txn
    owes t here =
        line_is took number index first second t (sym (is_held t) ∙ here)
        ∙ (λ i. record { number = number; before = clock_in (clocks_of took) t; index = index; acts = first_two (acts_are t here i) })

    greatest_is : greatest_clock z txn ≡ greatest_held (held_in took)
    greatest_is =
        greatest_same (λ s. clock_found s txn) _ (numbers_of (held_in took)) (λ t. takes_is t ∙ is_held t)
        ∙ greatest_taken took (shard_at homes.item) (shard_at homes.other) its.numbers

    pub store_commits : HasPutAll initial key new.key (is_one_of (numbers_of (held_in took))) lines
        → new ≡ record (after_commit old number index request reply) { key = new.key }
        → IsAnswered z old.counters txn → number ≡ suc (max old.clock (greatest_held (held_in took))) → number ≤ last_number → HasCommitted initial old new request index reply
    store_commits put committed answered numbered within = record {
      number = number;
      found = found;
      transacted = record { numbered = numbered ∙ ap (λ g. suc (max old.clock g)) (sym greatest_is); within = within; put = put_owed takes_is owes (taken_and_put its put); answered = answered };
      worker = committed;
    }

  -- the cause of a fault, by the greatest of the clocks
  abbrev pub IsCauseAtMost : ℕ → PermitFault → Type 0
  IsCauseAtMost n Memory = (n < last_number) × StoresItem request × (number_refusal old.opening request ≡ None)
  IsCauseAtMost n NumberFull = last_number ≤ n

  -- as they were
  module _ (put : AreBack key new.key) where
    seen_is : (held : List HeldState) → AllByRecursion (IsAsTaken initial workers key) held → greatest_by (clock_seen initial new.key) (numbers_of held) ≡ greatest_held held
    seen_is [] all = refl
    seen_is (h ∷ held) all = λ i. max ((ap (λ lines. (after_lines (state_at initial h.number) lines).clock) (put.seen h.number) ∙ sym (ap (λ (s : ShardState). s.clock) all.0.state_is)) i) (seen_is held all.1 i)

    greatest_is_seen : greatest_seen initial old new.key request ≡ max old.clock (greatest_held (held_in took))
    greatest_is_seen =
        ap (max old.clock) (greatest_same (clock_seen initial new.key) (shards_asked (length initial) old request) (numbers_of (held_in took)) (λ t. asked t ∙ is_held t) ∙ seen_is (held_in took) its.taken)

    by_fault : (fault : PermitFault) → IsCauseAtMost (max old.clock (greatest_held (held_in took))) fault → IsCause initial old new.key request fault
    by_fault Memory cause = (subst (λ n. n < last_number) (sym greatest_is_seen) cause.0, cause.1, cause.2)
    by_fault NumberFull cause = subst (λ n. last_number ≤ n) (sym greatest_is_seen) cause

    pub store_fails : (fault : PermitFault) → new ≡ record old { key = new.key } → is_put_off (hot_objects old.slices) request ≡ false
        → IsCauseAtMost (max old.clock (greatest_held (held_in took))) fault → HasFailed initial old new request fault
    store_fails fault worker goes cause = record {
      worker = worker;
      lines = lines_on its.lines put.lines;
      others = λ t left. let apart = sym (asked t) ∙ left in put.others t (its.holds t ∙ apart) ∙ its.others t apart;
      idle = put.idle;
      not_put_off = goes;
      cause = by_fault fault cause;
    }
