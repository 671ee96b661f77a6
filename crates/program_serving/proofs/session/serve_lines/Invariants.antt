use Rattle.std.proofs.Common.{List}
use Rattle.auction_rows.specs.Book.{Book}
use Rattle.auction_text.specs.Said.{Said}
use Rattle.part_log.specs.declared.log.Teller.{Teller}
use Rattle.phase_floor.specs.Adding.{HasBook}
use Rattle.program_serving.specs.{Serving.{told_by}, inner.Sessions.{GoesOnTo, HasTold, IsServedSoFar}}
use Rattle.program_serving.proofs.session.serve_lines.Given as goal

abbrev pub invariant-loop : goal.invariant-loop
invariant-loop g l = record {
  has : HasBook l.session.served.auction;
  session : (book : Book) (all : List Said) (start : Teller _ _)
      → IsServedSoFar g.I.Read.remaining (told_by g.L.Log.accepted g.W.Write.contents start l.fn.teller.teller) l.options book all l.fn.session
      → IsServedSoFar g.I.Read.remaining (told_by g.L.Log.accepted g.W.Write.contents start l.teller.teller) l.options book all l.session;
  errors : (rest : List Said) → GoesOnTo g.I.Read.remaining l.options.workers l.fn.session.end rest
      → HasTold (g.E.ErrorPlace.told l.fn.teller.errors) (g.E.ErrorPlace.told l.teller.errors) l.options rest (GoesOnTo g.I.Read.remaining l.options.workers l.session.end);
}
