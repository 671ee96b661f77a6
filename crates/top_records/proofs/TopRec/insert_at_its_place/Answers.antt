use Rattle.std.proofs.Common.{arith, ◌≡◌, ◌≤◌, length, refl, sym, ap, subst, ◌∙◌, ◌∷◌, take}
use Rattle.std.specs.Prelude.{IfSome}
use Rattle.phase_laws.proofs.TopLemmas.{IsDescending-top, top-placed, top-top, top_present, take_of_top}
use Rattle.phase_laws.specs.Ranking.{top, IsDescending}
use Rattle.top_records.{proofs.Places.{stays_full}, specs.TopLaws.{IsOwnTop}}
use Rattle.top_records.proofs.TopRec.insert_at_its_place.Goals as goal

pub returns-in-Some-clause-value : goal.returns-in-Some-clause-value
returns-in-Some-clause-value g c =
    let order = g.E.Ord.cmp in let total = g.met.E.Ord.total in let k = g.row.K in
    let put = rw c.as_slice.ensures.value at c.in-Some.ensures.1 in
    c.put_at.ensures ∙ ap (take k) (sym put) ∙ sym (top-placed total k c.args.entry c.self.inside.entries.items c.self.invariant.0)
    ∙ ap (λ l. top order k (c.args.entry ∷ l)) c.self.view_is

pub returns-in-Some-clause-present : goal.returns-in-Some-clause-present
returns-in-Some-clause-present g c there =
    returns-in-Some-clause-value g c
    ∙ top_present g.met.E.Ord.total g.row.K c.args.entry c.args.self.now (subst (IsOwnTop g.E.Ord.cmp g.row.K) c.self.view_is c.self.invariant.0) there

pub invariant_of-self : goal.invariant_of-self
invariant_of-self g c = (
  subst (IsOwnTop g.E.Ord.cmp g.row.K) (sym (returns-in-Some-clause-value g c)) (top-top g.met.E.Ord.total g.row.K (c.args.entry ∷ c.args.self.now)),
  c.note_least.ensures,
)

pub returns-in_default-clause-value : goal.returns-in_default-clause-value
returns-in_default-clause-value g c =
    let order = g.E.Ord.cmp in let total = g.met.E.Ord.total in let k = g.row.K in
    let tie = rw c.as_slice.ensures.value at c.in_default.ensures in let few = c.self.invariant.0 in
    sym (ap (λ l. top order k (c.args.entry ∷ l)) (sym c.self.view_is)
    ∙ top-placed total k c.args.entry c.self.inside.entries.items few ∙ ap (take k) tie ∙ take_of_top total k c.self.inside.entries.items few ∙ c.self.view_is)

pub returns-in_default-clause-present : goal.returns-in_default-clause-present
returns-in_default-clause-present g c there = refl

pub place-requires : goal.place-requires
place-requires g c =
    subst (IsDescending g.E.Ord.cmp) (sym c.as_slice.ensures.value) (IsDescending-top g.met.E.Ord.total g.row.K c.self.inside.entries.items c.self.invariant.0)

pub note_least-requires : goal.note_least-requires
note_least-requires g c =
    let k = g.row.K in let held = c.self.inside.entries.items in
    let within = subst (λ l. c.in-Some.index ≤ length l) c.as_slice.ensures.value c.in-Some.ensures.0 in
    let fits = c.well_formed in (
      omega arith,
      subst (λ l. IfSome c.self.inside.least (λ _. length l ≡ k)) (sym c.put_at.ensures) (stays_full k c.in-Some.index held c.args.entry c.self.inside.least within c.self.invariant.1),
    )
