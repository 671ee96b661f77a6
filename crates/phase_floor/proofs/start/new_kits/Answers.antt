use Rattle.std.proofs.Common.{◌+◌, ◌∙◌, ℕ, [], get_or, length, ap, arith}
use Rattle.std.proofs.lemmas.List.{get_or_read}
use Rattle.shard_boxes.proofs.Each.{each_push}
use Rattle.worker_journals.specs.Journals.{empty_journal}
use Rattle.worker_slices.specs.{Slicing.{slices_of}, Stashes.{StashState}}
use Rattle.phase_floor.specs.{Floors.{no_stash, stash_at}, declared.start.Kit.{Kit}}
use Rattle.phase_floor.specs.inner.Kits.{IsKit}
use Rattle.phase_floor.proofs.start.new_kits.Goals as goal

pub loop-w-preserved : goal.loop-w-preserved
loop-w-preserved c =
    let was = c.loop-w.invariant in let p = c.push_reserved.ensures in let w = c.loop-w.w in let stocks = c.args.stocks.now.items in
    let room : ℕ → ℕ = λ k. length (stash_at c.args.stashes.now k).requests + get_or c.args.quotas.now k 0 in
    let kit : Kit = record { journal = c.in_ok-journal.journal; slices = c.in_ok-slices.slices } in
    let stash_is = get_or_read c.args.stashes.now w _ (omega (arith, c.requires.stashes)) c.index-stashes-w.is no_stash in
    let new : IsKit c.args.phase stocks w (room w) kit = record {
      journal = c.in_ok-journal.ensures ∙ ap (empty_journal c.args.phase w) (omega (arith, c.len.ensures, ap (λ (s : StashState). length s.requests) stash_is));
      slices = c.in_ok-slices.ensures ∙ ap (λ fixed. slices_of fixed []) c.deref.ensures.value;
    } in record {
      len = omega (arith, p.len, was.len);
      room = omega (arith, p.capacity, was.room);
      each = λ v d low. each_push (λ k one. IsKit c.args.phase stocks k (room k) one) c.loop-w.kits.items c.push_reserved.new.self.items kit d w
          (omega (arith, was.len, c.loop-w.kits.ok.0)) p.items (λ k lower. was.each k d lower) new v low;
    }
