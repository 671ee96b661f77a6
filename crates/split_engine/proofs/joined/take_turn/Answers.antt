use Rattle.std.proofs.Common.{◌≡◌, ◌+◌, ◌*◌, ℕ, length, ap, sym, ◌∙◌, subst, arith}
use Rattle.std.{proofs.lemmas.List.{length-append, length-map}, specs.List.{AllByRecursion}}
use Rattle.split_engine.proofs.{Counts.{stashed_long}, States.{stashed_within, served_stashed}}
use Rattle.split_engine.specs.{Serial.{IsWithin}, Serving.{call_of}}
use Rattle.split_engine.specs.{declared.few.TheConstants.{MOST_KEYS}, inner.Phases.{HasServed}}
use Rattle.split_engine.proofs.joined.take_turn.Goals as goal

pub perform_all-requires-clause-within : goal.perform_all-requires-clause-within
perform_all-requires-clause-within g c =
    let s = g.A.Application in let size = length c.args.so_far.now.table.items in
    subst (AllByRecursion (λ (call : ℕ × g.row.A-Request.Denot). IsWithin s.rules size call.1)) (sym c.deref.ensures.value)
    (stashed_within s.rules size c.args.worker c.args.script.now c.args.cursor.now c.stash_quota.new.cursor c.args.so_far.now.history c.requires.script.0 c.requires.served c.in_ok-stash_quota.ensures.stashed)

pub perform_all-requires-clause-fits : goal.perform_all-requires-clause-fits
perform_all-requires-clause-fits g c =
    let fits = c.requires.fits in (
      fits.0 + MOST_KEYS * length c.args.so_far.now.history,
      omega (arith, fits.1, c.requires.room, stashed_long c.args.script.now c.args.cursor.now c.stash_quota.new.cursor c.requires.served.next_in c.in_ok-stash_quota.ensures.stashed, c.in_ok-stash_quota.ensures.stashed.next_in, ap length c.deref.ensures.value),
      fits.2,
    )

pub returns-clause-turned : goal.returns-clause-turned
returns-clause-turned g c =
    let s = g.A.Application in let size = length c.args.so_far.now.table.items in
    let p = c.in_ok-perform_all.ensures.performed in
    let all = p.2.performed ∙ c.deref.ensures.value in record {
      more = p.0;
      history_is = p.1;
      replays = p.2.replays;
      table_is = p.2.table_is;
      size_is = c.in_ok-perform_all.ensures.same;
      own = p.2.own;
      fits = λ n h.
          let long : length c.perform_all.new.so_far.history ≡ length c.args.so_far.now.history + length c.deref.result.now =
          ap length p.1 ∙ length-append c.args.so_far.now.history p.0 ∙ ap (λ m. length c.args.so_far.now.history + m) (sym (length-map p.0 call_of) ∙ ap length p.2.performed) in
          let same : n + MOST_KEYS * length c.args.so_far.now.history + MOST_KEYS * length c.deref.result.now ≡ n + MOST_KEYS * length c.perform_all.new.so_far.history = omega (arith, long) in
          subst (λ m. AllByRecursion (s.fits m) c.perform_all.new.so_far.table.items) same (c.in_ok-perform_all.ensures.fits (n + MOST_KEYS * length c.args.so_far.now.history) h);
      served = subst (λ h. HasServed s.rules size c.args.worker c.args.script.now (record { next = c.stash_quota.new.cursor.next; stash = c.clear.new.self }) h) (sym p.1)
          (served_stashed s.rules size c.args.worker c.args.script.now c.args.cursor.now c.stash_quota.new.cursor (record { next = c.stash_quota.new.cursor.next; stash = c.clear.new.self }) c.args.so_far.now.history p.0
          c.requires.served c.in_ok-stash_quota.ensures.stashed p.2.own all (λ i. c.stash_quota.new.cursor.next) c.clear.ensures.items);
    }

pub returns-clause-ends : goal.returns-clause-ends
returns-clause-ends g c = λ large. (c.in_ok-stash_quota.ensures.ends large, c.clear.ensures.items)
