use Rattle.std.proofs.Common.{rules, ◌≡◌, ◌<◌, ◌++◌, ◌∷◌, [], ◌∙◌, length, ap, sym, subst, arith, append_assoc, append-nil, length-append}
use Rattle.std.{proofs.lemmas.List.{get_or_default}, specs.List.{AllByRecursion}}
use Rattle.split_engine.specs.Serial.{looks_at}
use Rattle.split_engine.proofs.looks.looks_at.Goals as goal

pub loop-key-init : goal.loop-key-init
loop-key-init g c =
    let all : c.into_iter-key-iterator.result ≡ c.args.keys.now = search rules in record {
      seen = λ i. c.none-looks.ensures i ++ looks_at g.A.Application.rules c.args.table.now (all i);
      few = omega (arith, ap length c.none-looks.ensures, ap length all, c.iter-key-items.ensures.few);
      within = subst (AllByRecursion (λ key. key < length c.args.table.now)) (sym all) c.requires.within;
    }

pub bounds-table-key : goal.bounds-table-key
bounds-table-key g c =
    (subst (AllByRecursion (λ key. key < length c.args.table.now)) c.in-Some.ensures.steps c.loop-key.invariant.within).0

pub and-looks-requires : goal.and-looks-requires
and-looks-requires g c = omega (arith, c.loop-key.invariant.few, ap length c.in-Some.ensures.steps)

pub loop-key-preserved : goal.loop-key-preserved
loop-key-preserved g c =
    let rules = g.A.Application.rules in let table = c.args.table.now in let key = c.in-Some.key in let next = c.next.new.self in
    let looks = c.loop-key.looks in let was = c.loop-key.invariant in let look = c.look.result in
    let within = subst (AllByRecursion (λ key. key < length table)) c.in-Some.ensures.steps was.within in
    let seen = c.look.ensures ∙ ap rules.look (c.index-table-key.is ∙ get_or_default table key c.index-table-key.result rules.blank within.0) in record {
      seen = ap (λ ls. ls ++ looks_at rules table next) c.and-looks.ensures ∙ append_assoc looks (look ∷ []) (looks_at rules table next)
          ∙ ap (λ x. looks ++ x ∷ looks_at rules table next) seen ∙ ap (λ ks. looks ++ looks_at rules table ks) (sym c.in-Some.ensures.steps) ∙ was.seen;
      few = omega (arith, was.few, ap length c.in-Some.ensures.steps, ap length c.and-looks.ensures, length-append looks (look ∷ []));
      within = within.1;
    }

pub returns : goal.returns
returns g c =
    let rules = g.A.Application.rules in let looks = c.loop-key.looks in
    sym (append-nil looks) ∙ ap (λ ks. looks ++ looks_at rules c.args.table.now ks) (sym c.in-None.ensures.steps.0) ∙ c.loop-key.invariant.seen
