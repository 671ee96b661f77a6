use Rattle.std.proofs.Common.{◌∙◌, [], ap, length, refl, subst, sym}
use Rattle.std.proofs.lemmas.List.{length-replicate}
use Rattle.phase_floor.proofs.Blank.{new_start}
use Rattle.program_opening.specs.Options.{FitsOptions}
use Rattle.program_opening.proofs.opening.new_auction.Goals as goal

pub returns-in-Ok-clause-start : goal.returns-in-Ok-clause-start
returns-in-Ok-clause-start c =
    new_start c.in-Ok.auction c.lasting.result _ c.in-Ok.ensures.counters c.in-Ok.ensures.stands c.lasting.ensures.lasts

pub returns-in-Ok-clause-has : goal.returns-in-Ok-clause-has
returns-in-Ok-clause-has c = record { book = []; is_of = (returns-in-Ok-clause-start c).is_of }

pub returns-in-Ok-clause-fits : goal.returns-in-Ok-clause-fits
returns-in-Ok-clause-fits c =
    let made = c.in-Ok.ensures in
    subst (FitsOptions c.args.options.now) (sym c.lasting.ensures.lasts) (record {
      opening = made.opening ∙ c.opening.ensures;
      limit = refl;
      workers = ap length made.counters ∙ length-replicate _ _;
      shards = made.shards;
    })
