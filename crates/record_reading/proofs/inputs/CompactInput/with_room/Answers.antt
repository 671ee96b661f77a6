use Rattle.std.proofs.Common.{arith, ◌≡◌, ◌+◌, ◌∙◌, ◌++◌, ◌∷◌, [], ℕ, List, true, not, replicate, ap, ap₂}
use Rattle.std.{proofs.lemmas.List.{replicate_more}, specs.Result.{is_ok}}
use Rattle.auction_rows.specs.declared.requests.{Request.Request, Opened.Opened}
use Rattle.record_reading.specs.Asking.{Asked}
use Rattle.record_reading.proofs.inputs.CompactInput.with_room.Goals as goal

-- one more empty list
empty_more : {X : Type 0} (made pushed : List (List X)) (new : List X) (n : ℕ) → pushed ≡ made ++ new ∷ [] → made ≡ replicate n [] → new ≡ [] → pushed ≡ replicate (n + 1) []
empty_more made pushed new n is so_far none = is ∙ ap₂ (λ lists list. lists ++ list ∷ []) so_far none ∙ replicate_more n []

abbrev asked : List Opened → List (List Request) → Asked
asked rows scripts = record { rows = rows; scripts = scripts }

pub loop-preserved : goal.loop-preserved
loop-preserved c =
    let good : is_ok c.push.result ≡ true = c.is_err.ensures.negation ∙ ap not c.if-is_err.false in
    record {
      empty = empty_more c.loop.scripts.items c.push.new.self.items c.in-Ok-with_room.script c.loop.counter (rw good at c.push.ensures.items) c.loop.invariant.empty c.in-Ok-with_room.ensures;
      count = (rw good at c.push.ensures.len) ∙ ap (λ n. n + 1) c.loop.invariant.count;
    }

pub returns : goal.returns
returns c =
    let all : c.loop.counter ≡ c.args.workers = omega (arith, c.loop-test.false, c.loop.auto.counter-end) in
    record {
      empty = ap₂ asked c.new-rows.ensures.items (c.loop.invariant.empty ∙ ap (λ n. replicate n []) all);
      count = c.loop.invariant.count ∙ all;
      fails = tt;
    }
