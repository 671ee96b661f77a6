use Rattle.std.proofs.Common.{refl, sym, subst}
use Rattle.auction_rows.specs.declared.{requests.Request.Request, replies.Reply.Reply}
use Rattle.item_shards.specs.declared.shard.{Shard.{Shard}, acts.Look.{Look}}
use Rattle.phase_transactions.proofs.ViewLemmas.{asks_view}
use Rattle.phase_transactions.specs.inner.{Asking.{view_request}, Begun.{CanView, look_for}, Viewing.{IsShownBy}}
use Rattle.phase_transactions.proofs.worker.Worker.show_whole.Goals as goal

pub view_on-reply-requires : goal.view_on-reply-requires
view_on-reply-requires g c = subst (λ (on : Shard × Request). CanView on.0 on.1) (λ i. (sym c.shard.ensures i, c.requires.view i)) c.requires.can

pub put_view-requires-clause-view : goal.put_view-requires-clause-view
put_view-requires-clause-view g c = asks_view c.args.viewed c.requires.view

pub put_view-requires-clause-begun : goal.put_view-requires-clause-begun
put_view-requires-clause-begun g c = c.requires.begun

pub put_view-requires-clause-shown : goal.put_view-requires-clause-shown
put_view-requires-clause-shown g c =
    let shard = c.args.one.held.shard in let request = view_request c.args.viewed in
    subst (λ (r : Request). IsShownBy shard r c.look.result c.of.result) (sym c.requires.view)
    (subst (λ (look : Look). IsShownBy shard request look c.of.result) (sym c.look.ensures)
    (subst (λ (reply : Reply). IsShownBy shard request (look_for request) reply) (sym c.of.ensures)
    (subst (λ (on : Shard). IsShownBy on request (look_for request) c.view_on-reply.result) c.shard.ensures
    (record { asked = refl; answers = c.view_on-reply.ensures.answers; holds = c.view_on-reply.ensures.shown }))))

pub returns : goal.returns
returns g c = λ key begun. c.put_view.ensures key begun
