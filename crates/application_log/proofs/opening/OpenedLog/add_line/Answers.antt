use Rattle.std.proofs.{Common.{rules, ◌≡◌, length, Some, IfSome, refl, ap, sym, ◌∙◌, subst}, lemmas.Bool.{false≢true}}
use Rattle.split_engine.{proofs.Splits.{length-acts}, specs.Serial.{acts_at, IsWithin}}
use Rattle.application_log.proofs.LogLemmas.{line_behind, opened_more}
use Rattle.application_log.proofs.opening.OpenedLog.add_line.Goals as goal

pub returns-clause-opened : goal.returns-clause-opened
returns-clause-opened g c table before has =
    let s = g.A.Application in let line = g.A.Loggable.line in let q = c.in-Some.request in let d = c.in_ok-found.ensures in
    let line_is : line q ≡ Some c.args.line.now = subst (λ o. IfSome o (λ r. line r ≡ Some c.args.line.now)) c.in-Some.is d.line in (
      q,
      line_is,
      opened_more s.rules line g.A.Loggable.is_in_range table c.args.self.now.table.items _ before c.args.self.now.lines c.args.self.now.kept _ _ q c.args.line.now
          has (subst (λ o. IfSome o g.A.Loggable.is_in_range) c.in-Some.is d.in_range) line_is (λ p fits is. let one = d.only p fits is in let some = c.in-Some.is in cc (one, some))
          c.perform.ensures.table refl (search rules),
    )

pub returns-then-not-is_within-clause-fault : goal.returns-then-not-is_within-clause-fault
returns-then-not-is_within-clause-fault g c table before rest has =
    let s = g.A.Application in let line = g.A.Loggable.line in let q = c.in-Some.request in let d = c.in_ok-found.ensures in (
      q,
      record {
        text = c.args.line.now;
        line_is = subst (λ o. IfSome o (λ r. line r ≡ Some c.args.line.now)) c.in-Some.is d.line;
        only = λ p fits is. let one = d.only p fits is in let some = c.in-Some.is in cc (one, some);
      },
      line_behind s.rules line g.A.Loggable.is_in_range table c.args.self.now.table.items before c.args.self.now.lines c.args.self.now.kept _ c.args.line.now rest has c.requires.one refl,
      λ within. false≢true (sym c.if-not-is_within.true ∙ c.is_within.ensures.1 (subst (λ size. IsWithin s.rules size q) (search rules) within)),
    )

pub perform-requires-clause-within : goal.perform-requires-clause-within
perform-requires-clause-within g c =
    let rules = g.A.Application.rules in
    subst (λ size. IsWithin rules size c.in-Some.request) (c.len.ensures ∙ c.args.self.now.table.ok.0) (c.is_within.ensures.0 c.if-not-is_within.false)

pub returns-clause-len : goal.returns-clause-len
returns-clause-len g c =
    let rules = g.A.Application.rules in let table = c.args.self.now.table.items in
    ap length c.perform.ensures.table ∙ length-acts rules table (acts_at rules table c.in-Some.request)
