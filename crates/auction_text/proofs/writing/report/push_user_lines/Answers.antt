use Rattle.std.proofs.Common.{◌∙◌, ◌++◌, List, ℕ, ap}
use Rattle.auction_text.proofs.NumberedLemmas.{numbered_all, numbered_more}
use Rattle.auction_text.specs.Report.{user_line}
use Rattle.auction_text.proofs.writing.report.push_user_lines.Goals as goal

pub loop-user-preserved : goal.loop-user-preserved
loop-user-preserved c =
    let user = c.loop-user.user in let seen = c.index-users-user.result in
    c.in_ok-push_user_line.ensures ∙ ap (λ (text : List ℕ). text ++ user_line user seen) c.loop-user.invariant
    ∙ numbered_more user_line c.args.text.now.items c.args.users.now user seen c.loop-user-test.true c.index-users-user.is

pub returns : goal.returns
returns c = numbered_all user_line (λ users. users) c.args.text.now.items c.loop-user.text.items c.args.users.now c.loop-user.user c.loop-user-test.false c.loop-user.invariant
