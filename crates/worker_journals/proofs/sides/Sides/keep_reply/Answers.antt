use Rattle.std.proofs.Common.{◌<◌, ap, arith, refl, sym}
use Rattle.worker_journals.proofs.KeptLemmas.{bids_kept, kept_of, latest_kept, said_of}
use Rattle.worker_journals.proofs.SaidLemmas.{not_none, only_item, says_bids, says_latest}
use Rattle.worker_journals.specs.{Shown.{shown_in}, inner.Sides.{SideLists}}
use Rattle.worker_journals.proofs.sides.Sides.keep_reply.Goals as goal

pub returns-in-Some-clause-kept : goal.returns-in-Some-clause-kept
returns-in-Some-clause-kept c =
    kept_of _ _ _ _ (only_item c.args.reply.now c.in-Some.seen c.in-Some.ensures) c.keep_item.ensures.kept

pub returns-in-Some-clause-reply : goal.returns-in-Some-clause-reply
returns-in-Some-clause-reply c =
    said_of _ _ _ _ (only_item c.args.reply.now c.in-Some.seen c.in-Some.ensures) c.keep_item.ensures.reply

pub keep_all_shown-place-requires : goal.keep_all_shown-place-requires
keep_all_shown-place-requires c =
    let some : 0 < c.self.inside.left = omega (arith, c.requires, ap (λ (s : SideLists). s.left) c.self.view_is) in
    omega (arith, some, c.self.invariant.2)

pub keep_all_shown-place-requires-in-CategorySeen : goal.keep_all_shown-place-requires-in-CategorySeen
keep_all_shown-place-requires-in-CategorySeen c =
    let some : 0 < c.self.inside.left = omega (arith, c.requires, ap (λ (s : SideLists). s.left) c.self.view_is) in
    omega (arith, some, c.self.invariant.3)

pub keep_one-requires : goal.keep_one-requires
keep_one-requires c =
    let some : 0 < c.self.inside.left = omega (arith, c.requires, ap (λ (s : SideLists). s.left) c.self.view_is) in
    omega (arith, some, c.self.invariant.1)

pub returns-in-BidsSeen-clause-kept : goal.returns-in-BidsSeen-clause-kept
returns-in-BidsSeen-clause-kept c =
    bids_kept _ _ _ _ _ _ _ c.self.view_is refl c.in-BidsSeen.shown _ _ c.in-BidsSeen.is c.keep_all_shown-place.ensures.kept

pub returns-in-CategorySeen-clause-kept : goal.returns-in-CategorySeen-clause-kept
returns-in-CategorySeen-clause-kept c =
    latest_kept _ _ _ _ _ _ _ c.self.view_is refl c.in-CategorySeen.shown _ _ c.in-CategorySeen.is c.keep_all_shown-place-in-CategorySeen.ensures.kept

pub returns-in-BidsSeen-clause-reply : goal.returns-in-BidsSeen-clause-reply
returns-in-BidsSeen-clause-reply c =
    let put = c.keep_all_shown-place.ensures in
    says_bids _ _ _ _ _ _ c.in-BidsSeen.shown _ put.within put.there c.len.ensures.length c.len.ensures.at_most_ten (sym c.in-BidsSeen.is)

pub returns-in-CategorySeen-clause-reply : goal.returns-in-CategorySeen-clause-reply
returns-in-CategorySeen-clause-reply c =
    let put = c.keep_all_shown-place-in-CategorySeen.ensures in
    says_latest _ _ _ _ _ _ c.in-CategorySeen.shown _ put.within put.there c.len-in-CategorySeen.ensures.length c.len-in-CategorySeen.ensures.at_most_ten (sym c.in-CategorySeen.is)

pub unreachable-requires : goal.unreachable-requires
unreachable-requires c = not_none _ _ c.in_default.ensures (ap (λ reply. (shown_in reply).items) c.in-ItemSeen.is)
