use Rattle.std.proofs.Common.{◌<◌, ◌≤◌, length, lt_of_lt_of_le, subst, sym}
use Rattle.std.proofs.lemmas.Option.{slice_get_past}
use Rattle.auction_rows.proofs.TenPlaces.{get-packed}
use Rattle.auction_rows.proofs.values.Ten.get.Goals as goal

pub returns-then-place-len : goal.returns-then-place-len
returns-then-place-len g c =
    let within : c.args.place < length c.args.self.now = subst (λ n. c.args.place < n) c.len.ensures.length c.if-place-len.true in
    get-packed c.self.inside.places c.args.self.now c.args.place c.index-self-place.result c.self.invariant.0 c.self.view_is within

pub returns-else-place-len : goal.returns-else-place-len
returns-else-place-len g c =
    let past : length c.args.self.now ≤ c.args.place = subst (λ n. n ≤ c.args.place) c.len.ensures.length c.if-place-len.false in
    sym (slice_get_past c.args.self.now c.args.place past)

pub bounds-self-inside-place : goal.bounds-self-inside-place
bounds-self-inside-place g c = lt_of_lt_of_le c.if-place-len.true c.len.ensures.at_most_ten
