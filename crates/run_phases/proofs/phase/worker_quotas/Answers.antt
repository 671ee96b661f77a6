use Rattle.std.{proofs.Common.{◌-◌, ◌∙◌, List, length, min, ap, arith}, specs.Prelude.{slice_index}}
use Rattle.auction_rows.specs.declared.requests.Request.{Request}
use Rattle.run_phases.proofs.QuotaLemmas.{quotas_more, quota_at}
use Rattle.run_phases.proofs.phase.worker_quotas.Goals as goal

pub loop-script-preserved : goal.loop-script-preserved
loop-script-preserved c =
    quotas_more (λ (script : List Request). min c.args.quota (length script - c.args.first)) c.args.scripts.now c.loop-script.script-index c.script-item.result
    c.loop-script.quotas.items c.push.new.self.items _ c.loop-script-test.true c.script-item.is c.in_ok-push.ensures.items
    (omega (arith, c.min.ensures, c.saturating_sub-left.ensures, c.len.ensures, c.from.ensures))
    c.loop-script.invariant

pub returns-clause-each : goal.returns-clause-each
returns-clause-each c = λ worker less.
    ap (λ qs. slice_index qs worker) c.loop-script.invariant
    ∙ quota_at (λ (script : List Request). min c.args.quota (length script - c.args.first)) c.args.scripts.now c.loop-script.script-index worker
    c.loop-script-test.false less
