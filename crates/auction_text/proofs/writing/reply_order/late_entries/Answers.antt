use Rattle.std.proofs.{Common.{rules, ◌∙◌, List, ap}, lemmas.List.Sorted.{answers_always}}
use Rattle.auction_rows.specs.declared.rows.Entry.{Entry}
use Rattle.auction_text.proofs.{PartLemmas.{entry_order}, SortLemmas.{sorted_once}}
use Rattle.auction_text.specs.Order.{comes_before, in_order}
use Rattle.auction_text.proofs.writing.reply_order.late_entries.Goals as goal

pub returns : goal.returns
returns c =
    let up = c.in_ok-sort_by_cached_key.ensures.sorted (λ (e : Entry). (e.worker, e.index)) (answers_always _ _ _ (λ f a r g called. search rules)) in
    let stable = c.in_ok-sort_by_cached_key.ensures.stable (λ (e : Entry). (e.worker, e.index)) (answers_always _ _ _ (λ f a r g called. search rules)) in
    sorted_once comes_before entry_order c.in_ok-entries.entries.items c.sort_by_cached_key.new.self.items up stable
    ∙ ap (λ (es : List Entry). in_order es) c.in_ok-entries.ensures
