use Rattle.std.proofs.Common.{◌<◌, ◌≤◌, ◌∷◌, [], All, length, take, sym, ap, subst, ◌∙◌, arith}
use Rattle.std.proofs.lemmas.List.{Elements.{All-get_or}, take_all}
use Rattle.auction_rows.specs.{Book.{Book, worker_of}, History.{GoOn, IsBook}}
use Rattle.item_shards.{proofs.SerialLemmas.{next_goes_on, one_more}, specs.OpeningRows.{rows_by}}
use Rattle.worker_slices.specs.declared.counters.Counters.{Counters}
use Rattle.closing_laws.specs.Standing.{counters_at}
use Rattle.phase_floor.{proofs.ResumeLemmas.{before_fewer, each_next}, specs.Resuming.{counters_in}}
use Rattle.phase_floor.specs.States.{IsBookOf, StandsFor}
use Rattle.phase_floor.proofs.joined.Joined.resume.Goals as goal

pub add_row-requires : goal.add_row-requires
add_row-requires c =
    let rows = c.rows-row-items.result.now in let given = c.rows-row-items.ensures in let i = c.loop-row.row-index in let r = c.row-item.result in let low = c.loop-row-test.true in
    let was = c.loop-row.invariant in let start = c.args.book.now.opening in
    let all = subst (All (λ row. worker_of row < c.args.workers)) (sym given.rows) c.requires.own in
    let own : worker_of r < c.args.workers = subst (λ row. worker_of row < c.args.workers) (sym c.row-item.is) (All-get_or (λ row. worker_of row < c.args.workers) rows i r low all) in
    let counted = ap (λ (counters : Counters). counters.commits) (was.counters (worker_of r) own) in
    let few = subst (λ (b : Book). rows_by b (worker_of r) ≤ 1000000) (sym given.rows) (given.few (worker_of r) (omega (arith, own, c.requires.workers))) in
    record {
      book = take i rows;
      is_of = was.book;
      goes_on = subst (λ o. GoOn o (take i rows) (r ∷ [])) (sym was.opening) (next_goes_on [] rows i r low c.row-item.is start (subst (IsBook start) (sym given.rows) given.book));
      own = omega (arith, own, was.workers);
      room = omega (arith, counted, before_fewer rows i r low c.row-item.is, few, was.limit);
    }

pub loop-row-preserved : goal.loop-row-preserved
loop-row-preserved c =
    let rows = c.rows-row-items.result.now in let given = c.rows-row-items.ensures in let i = c.loop-row.row-index in let r = c.row-item.result in let low = c.loop-row-test.true in
    let was = c.loop-row.invariant in let start = c.args.book.now.opening in let added = c.in_ok-add_row.ensures in
    let all = subst (All (λ row. worker_of row < c.args.workers)) (sym given.rows) c.requires.own in
    let own : worker_of r < c.args.workers = subst (λ row. worker_of row < c.args.workers) (sym c.row-item.is) (All-get_or (λ row. worker_of row < c.args.workers) rows i r low all) in
    let goes_on = next_goes_on [] rows i r low c.row-item.is start (subst (IsBook start) (sym given.rows) given.book) in
    let more = one_more [] rows i r low c.row-item.is in record {
      opening = added.same.opening ∙ was.opening;
      limit = added.same.limit ∙ was.limit;
      phase = added.same.phase ∙ was.phase;
      shards = added.same.shards ∙ was.shards;
      workers = added.same.workers ∙ was.workers;
      counters = λ w known.
          ap (λ counters. counters_at counters w) added.counters ∙ each_next (take i rows) r c.loop-row.joined.counters c.args.workers was.workers was.counters own w known
          ∙ ap (λ b. counters_in b w) (sym more);
      book = subst (IsBookOf c.add_row.new.self) (sym more) (added.book (take i rows) was.book (subst (λ o. GoOn o (take i rows) (r ∷ [])) (sym was.opening) goes_on));
    }

pub returns : goal.returns
returns c =
    let rows = c.rows-row-items.result.now in let i = c.loop-row.row-index in let was = c.loop-row.invariant in
    let done : length rows ≤ i = omega arith in
    let all = take_all i rows done ∙ c.rows-row-items.ensures.rows in record {
      opening = was.opening;
      limit = was.limit;
      phase = was.phase;
      shards = was.shards;
      workers = was.workers;
      counters = λ w low. was.counters w low ∙ ap (λ b. counters_in b w) all;
      stands = subst (StandsFor c.loop-row.joined) all was.book.stands;
      book = subst (IsBookOf c.loop-row.joined) all was.book;
    }
