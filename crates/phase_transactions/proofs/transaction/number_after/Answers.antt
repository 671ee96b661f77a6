use Rattle.std.proofs.Common.{◌≡◌, ◌≤◌, suc, max, ok_or, subst, arith}
use Rattle.std.specs.Prelude.{IfOk, IfErr}
use Rattle.item_shards.specs.CommitNumbers.{last_number}
use Rattle.phase_transactions.proofs.NumberLemmas.{number_is, number_within, fault_is, full_is}
use Rattle.phase_transactions.specs.declared.fault.PermitFault.TheVariants.{NumberFull}
use Rattle.phase_transactions.proofs.transaction.number_after.Goals as goal

pub returns : goal.returns
returns c =
    let own : max c.args.own 0 ≡ c.args.own = omega arith in
    let next = c.next_number.result in let e = c.next_number.ensures in record {
      number = rw c.ok_or.ensures.value (subst (λ m. IfOk (ok_or next NumberFull) (λ n. n ≡ suc m)) own (number_is c.args.own 0 next e.number));
      within = rw c.ok_or.ensures.value (number_within c.args.own 0 next e.number e.none);
      fault = rw c.ok_or.ensures.value (fault_is c.args.own 0 next);
      full = rw c.ok_or.ensures.value (subst (λ m. IfErr (ok_or next NumberFull) (λ _. last_number ≤ m)) own (full_is c.args.own 0 next e.none));
    }
