use Rattle.std.proofs.Common.{rules, ◌≡◌, ◌<◌, ◌==◌, ◌∙◌, ℕ, suc, max, List, Bool, true, false, length, get_or, set, cond, refl, sym, ap}
use Rattle.std.proofs.lemmas.Bool.{eqb-true, eq-eqb, false≢true}
use Rattle.std.proofs.lemmas.List.{get_or-set_other, get_or-set_same}
use Rattle.history_check.proofs.replay.Turns.pass.Goals as goal

-- the turns with that of one worker moved on
moved_on : (turns : List ℕ) (worker other turn moved : ℕ) → worker < length turns → moved ≡ max (get_or turns worker 0) turn
    → get_or (set turns worker moved) other 0 ≡ cond (worker == other) (max (get_or turns other 0) turn) (get_or turns other 0)
moved_on turns worker other turn moved within is = at (worker == other) refl where
  at : (b : Bool) → (worker == other) ≡ b → get_or (set turns worker moved) other 0 ≡ cond (worker == other) (max (get_or turns other 0) turn) (get_or turns other 0)
  at true e =
      let same : worker ≡ other = eqb-true worker other e in
      ap (λ w. get_or (set turns worker moved) w 0) (sym same) ∙ get_or-set_same turns worker moved 0 within ∙ is
      ∙ ap (λ w. max (get_or turns w 0) turn) same ∙ sym (ap (λ b. cond b (max (get_or turns other 0) turn) (get_or turns other 0)) e)
  at false e =
      get_or-set_other turns worker other moved 0 (λ same. false≢true (sym e ∙ eq-eqb worker other (sym same)))
      ∙ sym (ap (λ b. cond b (max (get_or turns other 0) turn) (get_or turns other 0)) e)

pub returns : goal.returns
returns c = λ other below. moved_on c.args.self.now.next c.args.worker other (suc c.args.index) _ (search rules) (search rules)
