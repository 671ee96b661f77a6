use Rattle.std.proofs.Common.{◌≡◌, ◌<◌, ◌++◌, ◌∷◌, [], length, get_or, set, false, sym, ap, ◌∙◌, arith}
use Rattle.std.proofs.lemmas.{Bool.{ltb-true, ltb-false}, List.{get_or_default}}
use Rattle.split_engine.proofs.KeptSlices.{not_at, spread_more}
use Rattle.split_engine.proofs.slices.place_of.Goals.{in-Some+else-there-key, in_default}
use Rattle.split_engine.specs.inner.Kept.{is_at, spread}
use Rattle.split_engine.proofs.slices.place_of.Goals as goal

-- the guess was right
pub returns-then-there-key-clause-at : goal.returns-then-there-key-clause-at
returns-then-there-key-clause-at g c =
    let keys = c.args.keys.now.items in let guess = c.index-guess.result.now in let there = c.in-Some.there.now in let known = c.deref.ensures.value in
    let within : guess < length keys = omega (arith, ltb-true guess (length c.deref.result.now) (sym c.in-Some.ensures.lookup.0), ap length known) in (
      within,
      sym (c.in-Some.ensures.lookup.1 ∙ ap (λ ks. get_or ks guess there) known ∙ get_or_default keys guess there 0 within) ∙ c.if-there-key.true,
    )

pub returns-clause-same : goal.returns-clause-same
returns-clause-same g c =
    let rules = g.A.Application.rules in let guesses = c.args.guesses.now.items in let keys = c.args.keys.now.items in let slices = c.args.slices.now.items in
    let key = c.args.key in let guess = c.index-guess.result.now in let known = c.deref.ensures.value in
    let is_new : is_at keys key guess ≡ false =
    elim c.match-get.branch [
      | in-Some+else-there-key w ↦ not_at keys key guess
          (λ lt at. w.if-there-key.false (w.in-Some.ensures.lookup.1 ∙ ap (λ ks. get_or ks guess w.in-Some.there.now) known ∙ get_or_default keys guess w.in-Some.there.now 0 lt ∙ at))
      | in_default w ↦ not_at keys key guess (λ lt at. omega (arith, lt, ltb-false guess (length c.deref.result.now) (sym w.in_default.ensures.lookup.0), ap length known))
    ] in
    let guessed : get_or guesses key 0 ≡ guess = sym (c.index-guess.ensures ∙ get_or_default guesses key guess 0 c.requires.within) in
    let long : c.len-place.result ≡ length keys = omega (arith, c.len-place.ensures, c.reserve.new.self.ok.0, ap length c.in_ok-reserve.ensures.items) in
    let all : c.push_reserved.new.self.items ≡ keys ++ key ∷ [] = c.push_reserved.ensures.items ∙ ap (λ ks. ks ++ key ∷ []) c.in_ok-reserve.ensures.items in
    let longer : c.push_reserved-2.new.self.items ≡ slices ++ rules.empty ∷ [] =
    c.push_reserved-2.ensures.items ∙ (λ i. c.in_ok-reserve-2.ensures.items i ++ c.empty_slice.ensures i ∷ []) in
    (λ i. spread rules (set guesses key (long i)) (all i) (longer i))
    ∙ spread_more rules guesses keys slices key c.requires.kept.long c.requires.within (ap (is_at keys key) guessed ∙ is_new)
