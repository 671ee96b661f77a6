use Rattle.std.proofs.Common.{rules, ◌≡◌, ◌++◌, ◌∷◌, ◌∙◌, [], false, ap}
use Rattle.auction_window.specs.Published.{Published}
use Rattle.auction_window.proofs.board.WindowBoardPublisherBoard.publish.Goals as goal

pub publish-requires : goal.publish-requires
publish-requires g c = let can = c.requires tt in search rules

pub returns : goal.returns
returns g c = record {
  taken = λ opening rows phases has.
      let now : c.publish.new.self ≡ record { phases = phases ++ c.args.last.items ∷ []; failed = false } =
      c.in_ok-told.ensures.published ∙ ap (λ (old : Published). record { phases = old.phases ++ c.args.last.items ∷ []; failed = false }) has.published in record {
        opening_is = has.opening_is;
        rows_are = has.rows_are;
        published = now;
        told_last = c.in_ok-told.ensures.told ∙ ap (λ (publisher : Published). publisher.phases) now;
      };
  refused = tt;
}
