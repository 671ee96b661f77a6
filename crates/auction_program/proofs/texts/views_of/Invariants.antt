use Rattle.std.proofs.Common.{◌≡◌, List}
use mathlib.Core.List.{IsPrefix}
use Rattle.auction_rows.specs.{Book.{Book}, declared.rows.Row.{Row}}
use Rattle.auction_program.specs.{Report.{views}, inner.Views.{view_of, IsEnd}}
use Rattle.auction_program.proofs.texts.views_of.Given as goal

abbrev pub invariant-loop-number : goal.invariant-loop-number
invariant-loop-number g l = record {
  onward : IsPrefix l.fn.window l.window;
  replies : (all : List (List Row)) (book : Book) → IsEnd g.J.WindowName.opening g.J.WindowName.rows l.fn.window all l.state book
      → l.replies.items ≡ views g.J.WindowName.opening book (view_of l.viewed) l.number;
}
