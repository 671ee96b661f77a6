use Rattle.std.proofs.Common.{◌≡◌, ◌+◌, ◌<◌, ◌≤◌, ◌^◌, List, get_or, map, length, refl, sym, ap, ◌∙◌, subst}
use Rattle.shard_boxes.specs.States.{ShardState, AreInitial, state_of}
use Rattle.shard_boxes.specs.declared.limits.TheConstants.{MOST_COMMITS}
use Rattle.auction_shards.specs.Shards.{AreOfOne}
use Rattle.worker_slices.specs.Stashes.{StashState}
use Rattle.phase_floor.proofs.{BeginLemmas.{waiting_within, within}, Shards.{one_of_kept}}
use Rattle.phase_floor.specs.{Begins.{asked_in_all}, Floors.{AreStocksOf, stash_at}}
use Rattle.phase_floor.specs.States.{JoinedState, IsKept, joined_of, states_of}
use Rattle.phase_floor.specs.inner.Kits.{AreKits}
use Rattle.phase_floor.proofs.joined.Joined.begin.Goals as goal

pub new_kits-requires-clause-fit : goal.new_kits-requires-clause-fit
new_kits-requires-clause-fit g c = λ w low.
    subst (λ (stashes : List StashState). length (stash_at stashes w).requests + get_or c.args.quotas.now w 0 ≤ MOST_COMMITS) (sym c.deref.ensures.value)
    (waiting_within c.args.self.limit c.args.self.counters c.args.stashes.items c.args.quotas.now (subst (λ (s : JoinedState). s.limit ≤ MOST_COMMITS) c.self.view_is c.self.invariant.last) c.requires.given.fits w (subst (λ n. w < n) (c.requires.can.quotas ∙ sym c.requires.can.workers) low))

pub new_kits-requires-clause-distinct : goal.new_kits-requires-clause-distinct
new_kits-requires-clause-distinct g c = c.requires.given.stocks.distinct

pub new_kits-requires-clause-stocked : goal.new_kits-requires-clause-stocked
new_kits-requires-clause-stocked g c = c.requires.given.stocks.stocked

pub invariant_of-floor : goal.invariant_of-floor
invariant_of-floor g c =
    let is = c.self.view_is in
    let states : map state_of c.self.inside.shards ≡ g.N.PhaseName.initial = ap states_of is ∙ c.requires.can.shards in (
      c.requires.cold,
      record {
        kept = subst (λ s. IsKept c.self.inside.opening c.self.inside.limit s c.self.inside.counters.items) states c.self.invariant;
        boxes_are = c.in-Ok-open.ensures.boxes;
        workers_are = ap (λ (s : JoinedState). length s.counters) is ∙ c.requires.can.workers;
        stocks_are = subst (λ o. AreStocksOf o g.N.PhaseName.initial c.args.stocks.items) (sym (ap (λ (s : JoinedState). s.opening) is))
            (subst (λ states. AreStocksOf c.args.self.opening states c.args.stocks.items) c.requires.can.shards c.requires.given.stocks);
        not_last = subst (λ n. n + 1 < 2 ^ 64) (sym (ap (λ (s : JoinedState). s.phase) is)) c.requires.can.phase;
      },
    )

pub give-permits-requires-clause-fits : goal.give-permits-requires-clause-fits
give-permits-requires-clause-fits g c = λ w below.
    subst (λ (s : JoinedState). asked_in_all s.counters c.args.stashes.items c.args.quotas.now w ≤ s.limit) (sym c.self.view_is)
    (within c.args.self.limit c.args.self.counters c.args.stashes.items c.args.quotas.now c.requires.given.fits w (subst (λ n. w < n) (sym c.requires.can.workers) below))

pub new_kits-requires-clause-stashes : goal.new_kits-requires-clause-stashes
new_kits-requires-clause-stashes g c = ap length c.deref.ensures.value ∙ sym c.args.stashes.ok.0 ∙ c.requires.stashes ∙ sym c.requires.can.quotas

pub new_kits-requires-clause-few : goal.new_kits-requires-clause-few
new_kits-requires-clause-few g c =
    subst (λ n. n ≤ 16) (ap (λ (s : JoinedState). length s.counters) c.self.view_is ∙ c.requires.can.workers ∙ sym c.requires.can.quotas) c.self.invariant.few_workers

pub open-requires-clause-opening : goal.open-requires-clause-opening
open-requires-clause-opening g c = ap (map state_of) c.into_vec-shards.ensures ∙ ap states_of c.self.view_is ∙ c.requires.can.shards

pub open-requires-clause-few : goal.open-requires-clause-few
open-requires-clause-few g c =
    subst (λ (states : List ShardState). (0 < length states) × (length states ≤ 64)) (ap states_of c.self.view_is ∙ c.requires.can.shards) (c.self.invariant.some_shards, c.self.invariant.few_shards)

pub open-requires-clause-opened : goal.open-requires-clause-opened
open-requires-clause-opened g c = subst AreInitial (ap states_of c.self.view_is ∙ c.requires.can.shards) c.self.invariant.opened

pub open-requires-clause-some : goal.open-requires-clause-some
open-requires-clause-some g c =
    subst (λ n. (0 < n) × (n ≤ 16)) (ap (λ (s : JoinedState). length s.counters) c.self.view_is ∙ c.requires.can.workers) (c.self.invariant.some_workers, c.self.invariant.few_workers)

pub give-permits-requires-clause-keys : goal.give-permits-requires-clause-keys
give-permits-requires-clause-keys g c = c.in-Ok-open.ensures.keys

pub give-permits-requires-clause-lens : goal.give-permits-requires-clause-lens
give-permits-requires-clause-lens g c = (c.in-Ok-new_kits.ensures.len ∙ c.requires.can.quotas, c.requires.stashes, c.requires.can.quotas)

pub give-permits-requires-clause-kits : goal.give-permits-requires-clause-kits
give-permits-requires-clause-kits g c =
    subst (λ n. AreKits c.self.inside.phase c.args.stocks.items c.args.stashes.items c.args.quotas.now n c.in-Ok-new_kits.kits.items) c.requires.can.quotas
    (subst (λ (stashes : List StashState). AreKits c.self.inside.phase c.args.stocks.items stashes c.args.quotas.now (length c.args.quotas.now) c.in-Ok-new_kits.kits.items) c.deref.ensures.value c.in-Ok-new_kits.ensures.each)

pub from_vec-requires : goal.from_vec-requires
from_vec-requires g c = subst AreOfOne (ap (map state_of) (sym (ap (λ shards. shards.items) c.in-Err.ensures.err ∙ c.into_vec-shards.ensures))) (one_of_kept c.self.inside.opening c.self.inside.limit _ _ c.self.invariant)

pub invariant_of-state : goal.invariant_of-state
invariant_of-state g c = c.self.invariant

pub invariant_of-state-in-Err : goal.invariant_of-state-in-Err
invariant_of-state-in-Err g c =
    subst (λ (states : List ShardState). IsKept c.self.inside.opening c.self.inside.limit states c.self.inside.counters.items)
    (ap (map state_of) (sym (c.from_vec.ensures ∙ ap (λ shards. shards.items) c.in-Err.ensures.err ∙ c.into_vec-shards.ensures))) c.self.invariant

pub returns-in-Err-clause-refused : goal.returns-in-Err-clause-refused
returns-in-Err-clause-refused g c = (
  ap (λ shards. joined_of c.self.inside.opening c.self.inside.limit c.self.inside.phase shards c.self.inside.counters.items) (c.from_vec.ensures ∙ ap (λ shards. shards.items) c.in-Err.ensures.err ∙ c.into_vec-shards.ensures)
      ∙ c.self.view_is,
  refl,
)

pub returns-in-Ok-open-clause-begun : goal.returns-in-Ok-open-clause-begun
returns-in-Ok-open-clause-begun g c = record {
  opening = ap (λ (s : JoinedState). s.opening) c.self.view_is;
  limit = ap (λ (s : JoinedState). s.limit) c.self.view_is;
  phase = ap (λ (s : JoinedState). s.phase) c.self.view_is;
  counters = ap (λ (s : JoinedState). s.counters) c.self.view_is;
  permits = c.give-permits.ensures;
}

pub give-permits-requires-clause-rooms : goal.give-permits-requires-clause-rooms
give-permits-requires-clause-rooms g c = c.requires.given.rooms

pub returns-in_default-new_kits-clause-refused : goal.returns-in_default-new_kits-clause-refused
returns-in_default-new_kits-clause-refused g c = (c.self.view_is, refl)
