use Rattle.std.proofs.Common.{◌≡◌, ◌++◌, ◌∙◌, List, ℕ, Some, ap, append_assoc}
use Rattle.std.proofs.lemmas.Result.{on_ok_weaker}
use Rattle.rubis_check.specs.VerdictLines.{place_text, reason_text, SaysWrong}
use Rattle.rubis_check.proofs.execution.push_wrong.Goals as goal

pub returns-in_ok-push_place-in-Some : goal.returns-in_ok-push_place-in-Some
returns-in_ok-push_place-in-Some c =
    let place = place_text c.in-Some.commit_id in
    let why = reason_text c.in-Some.reply.now c.args.wrong.now in
    let before = c.args.text.now.items in
    on_ok_weaker {P = c.push_reason.new.text.items ≡ c.push_place.new.text.items ++ why} {Q = SaysWrong c.args.line.now c.args.wrong.now (λ said. c.push_reason.new.text.items ≡ before ++ said)}
    c.push_reason.result (λ put. record {
      commit_id = Some c.in-Some.commit_id;
      reply = c.in-Some.reply.now;
      reads = c.in-Some.ensures.read;
      holds = put ∙ ap (λ (text : List ℕ). text ++ why) c.in_ok-push_place-in-Some.ensures ∙ append_assoc before place why;
    }) c.push_reason.ensures
