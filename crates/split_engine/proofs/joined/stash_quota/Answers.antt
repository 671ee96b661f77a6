use Rattle.std.proofs.Common.{ℕ, ◌++◌, [], ◌∷◌, ap, sym, ◌∙◌, arith, append_assoc}
use Rattle.std.proofs.lemmas.List.{append-nil}
use Rattle.split_engine.{proofs.Works.{calls_more}, specs.Serving.{calls_before}}
use Rattle.split_engine.proofs.joined.stash_quota.Goals as goal

pub loop-index-init : goal.loop-index-init
loop-index-init g c = record {
  from = omega arith;
  all = [];
  follows = sym (append-nil (calls_before c.args.script.now c.args.cursor.now.next));
  stash_is = sym (append-nil c.args.cursor.now.stash.items);
}

pub loop-index-preserved : goal.loop-index-preserved
loop-index-preserved g c =
    let was = c.loop-index.invariant in
    let call : ℕ × g.row.A-Request.Denot = (c.loop-index.index, c.index-script-index.result) in record {
      from = omega (arith, was.from);
      all = was.all ++ call ∷ [];
      follows = calls_more c.args.script.now c.loop-index.index c.index-script-index.result (omega (arith, c.loop-index-test.true, c.min-end.ensures)) c.index-script-index.is
          ∙ ap (λ cs. cs ++ call ∷ []) was.follows
          ∙ append_assoc (calls_before c.args.script.now c.args.cursor.now.next) was.all (call ∷ []);
      stash_is = c.in_ok-push.ensures.items ∙ ap (λ cs. cs ++ call ∷ []) was.stash_is ∙ append_assoc c.args.cursor.now.stash.items was.all (call ∷ []);
    }
