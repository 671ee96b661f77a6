-- The reply of the last commit.
use Rattle.std.proofs.Common.{◌≡◌, ◌∙◌, ◌+◌, ◌-◌, ◌<◌, ◌++◌, ℕ, List, [], ◌∷◌, Some, length, refl, ap, sym, subst, arith}
use Rattle.std.proofs.{Math.Seq.{get_or-append_seam}, lemmas.List.{length-append}}
use Rattle.std.proofs.lemmas.Option.{same_Some, slice_get_read}
use Rattle.std.specs.Prelude.{option_map, slice_get}
use Rattle.auction_rows.specs.declared.{requests.Request.Request, replies.Reply.Reply, rows.Entry.Entry}
use Rattle.worker_journals.specs.Journals.{commit_in}
use Rattle.shard_boxes.specs.States.{ShardState}
use Rattle.phase_transactions.specs.{Performing.{HasCommitted}, Workers.{WorkerState, last_reply}}

-- the last of a list that has one more at its end
at_end : {A : Type 0} (xs : List A) (x : A) → slice_get (xs ++ x ∷ []) (length (xs ++ x ∷ []) - 1) ≡ Some x
at_end xs x =
    let count : length (xs ++ x ∷ []) ≡ length xs + 1 = length-append xs (x ∷ []) in
    let place : length (xs ++ x ∷ []) - 1 ≡ length xs = omega (arith, count) in
    ap (slice_get (xs ++ x ∷ [])) place
    ∙ slice_get_read (xs ++ x ∷ []) (length (xs ++ x ∷ [])) (length xs) x refl (omega (arith, count)) (sym (get_or-append_seam xs x [] x))

module _ (initial : List ShardState) (old new : WorkerState) (request : Request) (index : ℕ) (reply : Reply) (done : HasCommitted initial old new request index reply) where
  -- a permit that has committed has an entry, and its reply is the one that was given
  entries_after : new.journal.entries
      ≡ old.journal.entries ++ commit_in old.journal done.number index request reply ∷ []
  entries_after = ap (λ (w : WorkerState). w.journal.entries) done.worker

  pub some_entry : 0 < length new.journal.entries
  some_entry =
      subst (λ (entries : List Entry). 0 < length entries) (sym entries_after)
      (let count = length-append old.journal.entries (commit_in old.journal done.number index request reply ∷ []) in omega (arith, count))

  pub last_committed : last_reply new.journal.entries ≡ Some reply
  last_committed =
      ap last_reply entries_after
      ∙ ap (option_map (λ (entry : Entry). entry.reply)) (at_end old.journal.entries (commit_in old.journal done.number index request reply))

  -- so whoever reads the last reply has that of the commit
  pub as_read : (read : Reply) → last_reply new.journal.entries ≡ Some read → HasCommitted initial old new request index read
  as_read read is = subst (HasCommitted initial old new request index) (same_Some reply read (sym last_committed ∙ is)) done
