use Rattle.std.proofs.Common.{◌≡◌, ◌<◌, None, Some, length, refl, sym, ap, subst, ◌∙◌, arith, rules}
use Rattle.std.proofs.{Math.Nat.{lt_of_not-le}, lemmas.Bool.{false≢true}}
use Rattle.std.specs.Prelude.{Result, Err, IsErrOf}
use Rattle.auction_rows.specs.{Book.{Book, worker_of}, Refusals.{refusal}, Replies.{reply, row_of}}
use Rattle.auction_rows.specs.Requests.{is_view}
use Rattle.auction_rows.specs.declared.replies.Refusal.TheVariants.{NoSuchUser}
use Rattle.auction_rows.specs.declared.{replies.Refusal.Refusal, rows.Row.Row}
use Rattle.item_shards.proofs.OpeningLemmas.{made, row_added, row_at}
use Rattle.item_shards.proofs.SerialLemmas.{goes_on, worker_of_added}
use Rattle.closing_laws.specs.Standing.{counters_at}
use Rattle.phase_floor.proofs.{ResumeLemmas.{each_next}, RowLemmas.{view_without_row}}
use Rattle.phase_floor.specs.{Resuming.{counters_in}, States.{IsBookOf}}
use Rattle.phase_floor.specs.declared.adding.AddFault.{TheVariants.{Refused, BadRow}, AddFault}
use Rattle.phase_floor.proofs.joined.Joined.add.Goals as goal

not_view : (reason : Refusal) → IsErrOf {T = Row} (Err (Refused reason)) BadRow → ⊥
not_view reason is = absurd (cc is)

abbrev reason_told : Result Row AddFault → Refusal
reason_told (Err (Refused reason)) = reason
reason_told _ = NoSuchUser

same_reason : (told reason : Refusal) → IsErrOf {T = Row} (Err (Refused told)) (Refused reason) → told ≡ reason
same_reason told reason is = ap reason_told is

pub add_row-requires : goal.add_row-requires
add_row-requires c =
    let state = c.args.self.now in let w = c.args.opened.now.worker in let request = c.args.opened.now.request in
    let b = c.requires.book in let row = c.in-Some-row_at.row in
    let none : c.refusal.result ≡ None = search rules in
    let below : w < length state.counters = omega (arith, c.workers.ensures.count) in
    let is : row_of w request (reply state.opening b w request) ≡ Some row = sym (c.row_at.ensures b c.requires.is_of.stands (sym (c.refusal.ensures b c.requires.is_of.stands) ∙ none)) ∙ c.in-Some-row_at.is in
    let same = worker_of_added state.opening b w request row is in
    let here : (counters_at state.counters w).commits < state.limit = lt_of_not-le (λ full. false≢true (sym c.if-is_full.false ∙ c.is_full.ensures.1 full)) in
    record {
      book = b;
      is_of = c.requires.is_of;
      goes_on = goes_on state.opening b w request row is;
      own = omega (arith, below, same);
      room = subst (λ v. (counters_at state.counters v).commits < state.limit) (sym same) here;
    }

pub returns-clause-row : goal.returns-clause-row
returns-clause-row c = λ book of.
    let below : c.args.opened.now.worker < length c.args.self.now.counters = omega (arith, c.workers.ensures.count) in
    let none : c.refusal.result ≡ None = search rules in
    row_added c.args.self.now.opening book c.args.opened.now c.in-Some-row_at.row (omega (arith, below, c.workers.ensures.count, c.workers.ensures.few))
    (sym (c.row_at.ensures book of.stands (sym (c.refusal.ensures book of.stands) ∙ none)) ∙ c.in-Some-row_at.is)

pub returns-clause-book : goal.returns-clause-book
returns-clause-book c = λ book of.
    let start = c.args.self.now.opening in let w = c.args.opened.now.worker in let request = c.args.opened.now.request in let row = c.in-Some-row_at.row in
    let none : c.refusal.result ≡ None = search rules in
    let is : row_of w request (reply start book w request) ≡ Some row = sym (c.row_at.ensures book of.stands (sym (c.refusal.ensures book of.stands) ∙ none)) ∙ c.in-Some-row_at.is in
    subst (λ (b : Book). IsBookOf c.add_row.new.self b) (sym (returns-clause-row c book of).1) (c.in_ok-add_row.ensures.book book of (goes_on start book w request row is))

pub returns-clause-start : goal.returns-clause-start
returns-clause-start c = λ book start.
    let opening = c.args.self.now.opening in let v = c.args.opened.now.worker in let request = c.args.opened.now.request in
    let row = c.in-Some-row_at.row in let old = c.args.self.now.counters in
    let below : v < length old = omega (arith, c.workers.ensures.count) in
    let none : c.refusal.result ≡ None = search rules in
    let is : row_of v request (reply opening book v request) ≡ Some row = sym (c.row_at.ensures book start.is_of.stands (sym (c.refusal.ensures book start.is_of.stands) ∙ none)) ∙ c.in-Some-row_at.is in
    let own : worker_of row < length old = omega (arith, below, worker_of_added opening book v request row is) in
    record {
      is_of = returns-clause-book c book start.is_of;
      counters = λ w low.
          ap (λ counters. counters_at counters w) c.in_ok-add_row.ensures.counters
          ∙ each_next book row old (length old) refl start.counters own w (omega (arith, low, c.in_ok-add_row.ensures.same.workers))
          ∙ ap (λ b. counters_in b w) (sym (returns-clause-row c book start.is_of).1);
    }

pub returns-clause-counters : goal.returns-clause-counters
returns-clause-counters c = c.in_ok-add_row.ensures.counters

-- what is not refused and has no row is a view
pub returns-in_default-row_at-clause-bad_row : goal.returns-in_default-row_at-clause-bad_row
returns-in_default-row_at-clause-bad_row c = λ is own.
    let opening = c.args.self.now.opening in let opened = c.args.opened.now in let b = c.requires.book in let stands = c.requires.is_of.stands in
    let none : c.refusal.result ≡ None = search rules in
    let nothing : c.row_at.result ≡ None = search rules in
    let accepted : refusal opening b opened.request ≡ None = sym (c.refusal.ensures b stands) ∙ none in
    view_without_row (is_view opened.request) (refusal opening b opened.request) (row_at opening b opened) (made opening b opened) accepted (sym (c.row_at.ensures b stands accepted) ∙ nothing)

pub returns-in-Some-clause-refused : goal.returns-in-Some-clause-refused
returns-in-Some-clause-refused c = λ reason is book of. (
  omega (arith, c.workers.ensures.count),
  sym (c.refusal.ensures book of.stands) ∙ c.in-Some.is ∙ ap Some (same_reason c.in-Some.reason reason is),
)

pub returns-in-Some-clause-bad_row : goal.returns-in-Some-clause-bad_row
returns-in-Some-clause-bad_row c = λ is. absurd (not_view _ is)
