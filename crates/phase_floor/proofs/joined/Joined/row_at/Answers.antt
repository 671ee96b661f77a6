use Rattle.std.proofs.Common.{◌≡◌, ◌<◌, None, length, sym, ap, subst, ◌∙◌, arith, rules}
use Rattle.std.proofs.lemmas.List.{get_or_read}
use Rattle.auction_rows.specs.Replies.{answer, answer_unless, reply, row_of}
use Rattle.phase_permits.specs.Replying.{CountsOf}
use Rattle.phase_transactions.specs.Workers.{no_counters}
use Rattle.closing_laws.specs.Standing.{counters_at}
use Rattle.phase_floor.specs.States.{JoinedState}
use Rattle.phase_floor.proofs.joined.Joined.row_at.Goals as goal
use Rattle.item_shards.proofs.SerialLemmas.{view_adds_none}

pub returns-in_err-stored : goal.returns-in_err-stored
returns-in_err-stored c = λ book stands accepted.
    let w = c.args.opened.now.worker in let request = c.args.opened.now.request in
    let below : w < length c.self.inside.counters.items = omega (arith, c.requires, ap (λ (s : JoinedState). length s.counters) c.self.view_is) in
    let read = get_or_read c.self.inside.counters.items w c.index.result.now below c.index.ensures no_counters ∙ ap (λ (s : JoinedState). counters_at s.counters w) c.self.view_is in
    let none : c.from_residual.result ≡ None = search rules in
    none ∙ sym (view_adds_none w request (reply c.args.self.now.opening book w request) (c.in_err-stored.ensures book (subst (CountsOf book w) (sym read) (stands.counts w c.requires))))

pub returns : goal.returns
returns c = λ book stands accepted.
    let w = c.args.opened.now.worker in let request = c.args.opened.now.request in
    let below : w < length c.self.inside.counters.items = omega (arith, c.requires, ap (λ (s : JoinedState). length s.counters) c.self.view_is) in
    let read = get_or_read c.self.inside.counters.items w c.index.result.now below c.index.ensures no_counters ∙ ap (λ (s : JoinedState). counters_at s.counters w) c.self.view_is in
    let told = (c.in_ok-stored.ensures book (subst (CountsOf book w) (sym read) (stands.counts w c.requires))).1 in
    c.row_of_store.ensures ∙ ap (row_of w request) (told ∙ ap (λ o. answer_unless o (answer book w request)) (sym accepted))
