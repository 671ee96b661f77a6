use Rattle.std.proofs.{Common.{arith, rules, ◌≡◌, ◌++◌, ◌∷◌, [], IfSome, length, length-append, ap, sym, ◌∙◌, subst}, lemmas.Bool.{eqb-false}}
use Rattle.std.{proofs.lemmas.List.{append-nil, same_from_push}, specs.Io.BufRead.{take_through}}
use Rattle.application_log.{proofs.LineLemmas.{before_last, none_read}, specs.Lines.{HasNoEnd}}
use Rattle.application_log.proofs.reading.read_whole_line.Goals as goal

pub returns-then-last-eq10-clause-whole : goal.returns-then-last-eq10-clause-whole
returns-then-last-eq10-clause-whole g c is =
    before_last c.clear.new.self.items c.read_until.new.buf.items c.pop.new.self.items c.in-Some.last c.clear.ensures.items c.read_until.ensures.stops c.in-Some.ensures.items

pub returns-clause-cut : goal.returns-clause-cut
returns-clause-cut g c is =
    let known = g.R.Read.remaining c.args.reader.now in let read = c.read_until.new.buf.items in
    let bytes : IfSome known (λ all. read ≡ c.clear.new.self.items ++ take_through 10 all) = search rules in
    subst (λ left. IfSome known (λ all. HasNoEnd all × (left ≡ all))) (c.in-Some.ensures.items ∙ sym c.push_reserved.ensures.items)
    (none_read known c.clear.new.self.items read c.clear.ensures.items bytes
    (λ line ends. c.if-last-eq10.false (same_from_push c.pop.new.self.items line c.in-Some.last 10 (sym c.in-Some.ensures.items ∙ ends)).1))

pub returns-in_default-pop-clause-cut : goal.returns-in_default-pop-clause-cut
returns-in_default-pop-clause-cut g c is =
    let known = g.R.Read.remaining c.args.reader.now in let read = c.read_until.new.buf.items in
    let bytes : IfSome known (λ all. read ≡ c.clear.new.self.items ++ take_through 10 all) = search rules in
    let popped = c.in_default-pop.ensures in
    subst (λ left. IfSome known (λ all. HasNoEnd all × (left ≡ all))) (popped.items ∙ append-nil c.pop.new.self.items)
    (none_read known c.clear.new.self.items read c.clear.ensures.items bytes
    (λ line ends. omega (arith, popped.cases.0, c.read_until.new.buf.ok.0, ap length ends, length-append line (10 ∷ []))))
