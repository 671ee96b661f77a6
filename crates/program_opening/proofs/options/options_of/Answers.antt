use Rattle.std.proofs.Common.{◌≡◌, ◌≤◌, ◌∙◌, Bool, arith, codes, subst, sym}
use Rattle.clap.specs.Matches.{first_value, found_of, one_text}
use Rattle.program_options.{proofs.NumberOptions.{number_by}, specs.Options.{is_given, number_of}}
use Rattle.program_options.specs.{Words.{HaveNumbers}, declared.options.TheConstants.{MOST_ASKED}}
use Rattle.program_options.specs.declared.words.UsageFault.TheVariants.{Memory}
use Rattle.program_opening.proofs.{ErrorLemmas.{error_is}, ProgramWords.{fast_or_said}}
use Rattle.program_opening.specs.Words.{SaysEnd, is_fast, program}
use Rattle.program_opening.proofs.NumberWords as has
use Rattle.program_opening.proofs.options.options_of.Goals as goal

pub returns-clause-given : goal.returns-clause-given
returns-clause-given c = λ numbers. let text = one_text (found_of c.args.matches.now) in let given = is_given (found_of c.args.matches.now) in record {
  workers = number_by has.workers text _ numbers c.number_of-workers.ensures.said;
  shards = fast_or_said (is_fast text given (codes "shards")) _ _ _ (λ fast. c.number_or.ensures.fast fast ∙ c.for_throughput-fast.ensures.shards (omega (arith, c.number_of-workers.ensures.least)) c.number_of-workers.ensures.greatest)
      (λ other. number_by has.shards text _ numbers (c.number_or.ensures.said other));
  joined = fast_or_said (is_fast text given (codes "joined")) _ _ _ (λ fast. c.number_or-2.ensures.fast fast ∙ c.for_throughput-fast.ensures.quotas.0)
      (λ other. number_by has.joined text _ numbers (c.number_or-2.ensures.said other));
  split = fast_or_said (is_fast text given (codes "split")) _ _ _ (λ fast. c.number_or-3.ensures.fast fast ∙ c.for_throughput-fast.ensures.quotas.1)
      (λ other. number_by has.split text _ numbers (c.number_or-3.ensures.said other));
  threshold = number_by has.threshold text _ numbers c.number_of.ensures.said;
  hot = number_by has.hot text _ numbers c.number_of-2.ensures.said;
  users = number_by has.users text _ numbers c.number_of-3.ensures.said;
  categories = number_by has.categories text _ numbers c.number_of-4.ensures.said;
  live = number_by has.live text _ numbers c.number_of-live.ensures.said;
  ends_at_fault = c.in_ok-ends_at_fault.ensures.said;
  log = c.in_ok-log.ensures.said;
  history = c.flag_of.ensures;
  rows = c.flag_of-2.ensures;
  report = c.flag_of-3.ensures;
}

pub returns-clause-range : goal.returns-clause-range
returns-clause-range c = record {
  some_workers = c.number_of-workers.ensures.least;
  workers = c.number_of-workers.ensures.greatest;
  some_shards = c.number_or.ensures.least c.for_throughput-fast.ensures.some_shards;
  shards = c.number_or.ensures.greatest c.for_throughput-fast.ensures.few_shards;
  some_joined = c.number_or-2.ensures.least (subst (λ n. 1 ≤ n) (sym c.for_throughput-fast.ensures.quotas.0) (omega arith));
  joined = c.number_or-2.ensures.greatest (subst (λ n. n ≤ MOST_ASKED) (sym c.for_throughput-fast.ensures.quotas.0) (omega arith));
  some_split = c.number_or-3.ensures.least (subst (λ n. 1 ≤ n) (sym c.for_throughput-fast.ensures.quotas.1) (omega arith));
  split = c.number_or-3.ensures.greatest (subst (λ n. n ≤ MOST_ASKED) (sym c.for_throughput-fast.ensures.quotas.1) (omega arith));
  some_threshold = c.number_of.ensures.least;
  threshold = c.number_of.ensures.greatest;
  hot = c.number_of-2.ensures.greatest;
  users = c.number_of-3.ensures.greatest;
  categories = c.number_of-4.ensures.greatest;
  live = c.number_of-live.ensures.greatest;
}

pub returns-in_err-ends_at_fault-clause-memory : goal.returns-in_err-ends_at_fault-clause-memory
returns-in_err-ends_at_fault-clause-memory c =
    let found = found_of c.args.matches.now in
    error_is c.from_residual.result c.in_err-ends_at_fault.field-0.0
    (λ fault. HaveNumbers program (one_text found) → (ends : Bool) → SaysEnd (first_value found (codes "faults")) (number_of (one_text found (codes "live"))) ends → fault ≡ Memory)
    c.from_residual.ensures
    (λ numbers ends says. c.in_err-ends_at_fault.ensures.refused ends (subst (λ live. SaysEnd (first_value found (codes "faults")) live ends)
    (sym (number_by has.live (one_text found) _ numbers c.number_of-live.ensures.said)) says))

pub returns-in_err-log-clause-memory : goal.returns-in_err-log-clause-memory
returns-in_err-log-clause-memory c =
    let found = found_of c.args.matches.now in
    error_is c.from_residual-in_err-log.result c.in_err-log.field-0.0
    (λ fault. HaveNumbers program (one_text found) → (ends : Bool) → SaysEnd (first_value found (codes "faults")) (number_of (one_text found (codes "live"))) ends → fault ≡ Memory)
    c.from_residual-in_err-log.ensures (λ numbers ends says. c.in_err-log.ensures.memory)
