-- The order of replies is an order.
use Rattle.std.{proofs.lemmas.Cmp.{nat_cmp_total, on_total, then_total}, specs.Cmp.{IsTotalOrder}}
use Rattle.auction_rows.specs.declared.rows.Entry.{Entry}
use Rattle.auction_text.specs.Order.{precedence}

pub precedence_total : IsTotalOrder precedence
precedence_total = then_total (on_total (λ (e : Entry). e.worker) nat_cmp_total) (on_total (λ (e : Entry). e.index) nat_cmp_total)
