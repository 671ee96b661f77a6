use Rattle.std.proofs.Common.{◌∙◌, ◌++◌, List, ap, append-nil, arith, map, subst, sym, take_all}
use Rattle.request_scripts.proofs.AppendLemmas.{has_next, shifted_more}
use Rattle.request_scripts.specs.ShortRequests.{HasRequest}
use Rattle.request_scripts.specs.declared.short_request.ShortRequest.{ShortRequest}
use Rattle.request_scripts.specs.inner.Shifting.{shifted}
use Rattle.request_scripts.proofs.script.push_after.Goals as goal

pub after-requires : goal.after-requires
after-requires c =
    let short = c.short-item.result in (
      c.requires.facts.0,
      subst (HasRequest c.requires.facts.0) (sym c.short-item.is) (has_next c.requires.facts.0 c.args.others.now c.loop-short.short-index short c.requires.facts.1 c.loop-short-test.true),
      c.requires.facts.2,
    )

pub loop-short-init : goal.loop-short-init
loop-short-init c = record { room = omega (arith, c.requires.room); pushed = sym (append-nil c.args.requests.now.items) }

pub loop-short-preserved : goal.loop-short-preserved
loop-short-preserved c =
    let inv = c.loop-short.invariant in record {
      room = omega (arith, inv.room, c.loop-short-test.true, c.push_reserved.ensures.len, c.push_reserved.ensures.capacity);
      pushed = shifted_more (shifted c.args.before) c.args.requests.now.items c.args.others.now c.loop-short.requests.items c.push_reserved.new.self.items c.loop-short.short-index c.short-item.result c.after.result
          c.loop-short-test.true c.short-item.is c.push_reserved.ensures.items c.after.ensures inv.pushed;
    }

pub returns : goal.returns
returns c =
    c.loop-short.invariant.pushed
    ∙ ap (λ (shorts : List ShortRequest). c.args.requests.now.items ++ map (shifted c.args.before) shorts) (take_all c.loop-short.short-index c.args.others.now c.loop-short-test.false)
