use Rattle.std.proofs.Common.{◌≡◌, ap, ◌∙◌, arith}
use base.Growing.{prefix_refl, prefix_trans}
use Rattle.auction_rows.specs.Replies.{reply}
use Rattle.auction_program.{proofs.ViewLemmas.{still_end, view_more}, specs.Report.{views}}
use Rattle.auction_program.specs.inner.Views.{view_of}
use Rattle.auction_program.proofs.texts.views_of.Goals as goal

pub loop-number-init : goal.loop-number-init
loop-number-init g c = record {
  onward = prefix_refl c.args.window.now;
  replies = λ all book end. c.in_ok-replies.ensures.items;
}

pub loop-number-preserved : goal.loop-number-preserved
loop-number-preserved g c =
    let W = g.J.WindowName in
    let view = view_of c.args.viewed in record {
      onward = prefix_trans c.args.window.now c.loop-number.window c.last_view.new.window c.loop-number.invariant.onward c.last_view.ensures.onward;
      replies = λ all book end.
          view_more W.opening book view c.loop-number.number c.loop-number.replies.items c.push.new.self.items c.last_view.result
          (c.last_view.ensures.reply all book (still_end W.opening W.rows c.args.window.now all c.args.state.now book end c.loop-number.window c.loop-number.invariant.onward)
          ∙ ap (reply W.opening book 0) c.request.ensures.request)
          (c.loop-number.invariant.replies all book end) c.in_ok-push.ensures.items;
    }

pub returns-clause-replies : goal.returns-clause-replies
returns-clause-replies g c = λ all book end.
    let same : c.loop-number.number ≡ c.args.count = omega arith in
    c.loop-number.invariant.replies all book end ∙ ap (views g.J.WindowName.opening book (view_of c.args.viewed)) same
