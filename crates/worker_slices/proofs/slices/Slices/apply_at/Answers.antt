use Rattle.std.proofs.Common.{refl, sym, subst}
use Rattle.indexmap.specs.Layout.{set_value_at}
use Rattle.shard_boxes.specs.declared.limits.TheConstants.{MOST_COMMITS}
use Rattle.worker_slices.proofs.GuessLemmas.{same_names}
use Rattle.worker_slices.proofs.Places.{write_seen, none_there, few_there, still_stocked}
use Rattle.worker_slices.{proofs.SlicedLemmas.{unsliced}, specs.Guessing.{AreGuessed}}
use Rattle.worker_slices.specs.Slicing.{IsAt, HaveAtMost}
use Rattle.worker_slices.proofs.slices.Slices.apply_at.Goals as goal

pub returns-in_default : goal.returns-in_default
returns-in_default g c object shards is = unsliced c.args.self.now shards object (g.O.Operation.applied c.args.operation) c.args.home c.in_default.not-Slice is

pub returns-in_default-get_index_mut : goal.returns-in_default-get_index_mut
returns-in_default-get_index_mut g c object shards is =
    none_there object c.self.inside.hot.entries c.in-Slice.place (subst (λ hs. IsAt hs c.in-Slice.place object) (sym c.self.view_is) (rw c.in-Slice.is at is).0) c.in_default-get_index_mut.ensures.value

pub apply_to-requires : goal.apply_to-requires
apply_to-requires g c = few_there MOST_COMMITS c.self.inside.hot.entries c.in-Slice.place c.in-Some.hot.now (subst (HaveAtMost MOST_COMMITS) (sym c.self.view_is) c.requires) c.in-Some.ensures.value

pub invariant_of-self-2 : goal.invariant_of-self-2
invariant_of-self-2 g c =
    let hots = c.self.inside.hot.entries in let old = c.in-Some.hot.now in
    let new = record old { slice = c.apply_to.new.slice } in (
      still_stocked hots (set_value_at hots c.in-Slice.place new) c.in-Slice.place old new refl c.in-Some.ensures.value refl c.self.invariant.0,
      subst (AreGuessed c.self.inside.guesses.places) (sym (same_names hots c.in-Slice.place new)) c.self.invariant.1,
    )

pub returns : goal.returns
returns g c object shards is =
    let hots = c.self.inside.hot.entries in let old = c.in-Some.hot.now in
    let new = record old { slice = c.apply_to.new.slice } in
    write_seen object (g.O.Operation.applied c.args.operation) hots c.args.self.now (set_value_at hots c.in-Slice.place new) c.in-Slice.place old new
    c.self.view_is c.get_index_mut.ensures.unique (rw c.in-Slice.is at is).0 c.in-Some.ensures.value (λ i. record old { slice = c.apply_to.ensures i }) refl
