use Rattle.std.proofs.Common.{◌≡◌, ◌∙◌, length}
use Rattle.program_opening.proofs.OpenedLogs.{opened_from, tells_cause, told_whole}
use Rattle.log_file.specs.declared.faults.LogCause.TheVariants.{Text}
use Rattle.program_opening.proofs.opened_log.open_file.Goals as goal

pub cut_log-requires : goal.cut_log-requires
cut_log-requires g c = let was = c.in-Ok.ensures.opens in (was.book, was.opens)

pub returns-in-Ok-cut_log-clause-opens : goal.returns-in-Ok-cut_log-clause-opens
returns-in-Ok-cut_log-clause-opens g c =
    let logged = c.in-Ok.logged in let cut = c.in-Ok-cut_log.ensures in
    let cut_is : c.len-cut.result ≡ length logged.tail.items = c.len-cut.ensures ∙ logged.tail.ok.0 in
    opened_from _ _ _ logged c.in-Ok-cut_log.log c.len-cut.result c.in-Ok.ensures.opens cut_is cut.accepted cut.found cut.goes_on

pub returns-in-Ok-cut_log-clause-same : goal.returns-in-Ok-cut_log-clause-same
returns-in-Ok-cut_log-clause-same g c = c.in-Ok.ensures.same

pub returns-in-Err-clause-refused : goal.returns-in-Err-clause-refused
returns-in-Err-clause-refused g c = tells_cause _ (Text c.in-Err.fault) c.at.result c.into.result _ c.at.ensures c.into.ensures c.in-Err.ensures.refused

pub returns-in-Err-keep_tail-clause-told : goal.returns-in-Err-keep_tail-clause-told
returns-in-Err-keep_tail-clause-told g c = told_whole _ _ _ c.in-Ok.logged c.in-Ok.ensures.opens

pub returns-in-Err-cut_log-clause-told : goal.returns-in-Err-cut_log-clause-told
returns-in-Err-cut_log-clause-told g c = told_whole _ _ _ c.in-Ok.logged c.in-Ok.ensures.opens
