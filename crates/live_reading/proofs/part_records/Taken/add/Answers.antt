use Rattle.std.proofs.Common.{arith, ◌≡◌, ◌≤◌, ◌+◌, ◌∙◌, not, Bool, length, true, false, ap, if◌then◌else◌, refl}
use Rattle.std.specs.Int.{from_bool}
use Rattle.record_reading.specs.Asking.{Asked, asked_of}
use Rattle.live_reading.proofs.TakingLemmas.{knows_more, row_more}
use Rattle.live_reading.proofs.part_records.Taken.add.Goals as goal

-- a request is counted, and a row is not
counted : (is_row : Bool) → from_bool (not is_row) ≡ (if is_row then 0 else 1)
counted true = refl
counted false = refl

at_most_one : (is_row : Bool) → (if is_row then 0 else 1) ≤ 1
at_most_one true = omega arith
at_most_one false = omega arith

pub invariant_of-self-2 : goal.invariant_of-self-2
invariant_of-self-2 c =
    let old = c.args.self.now in let one = c.args.said.now in
    let more = c.from.ensures ∙ counted one.is_row in record {
      some = old.some;
      few = omega (arith, c.requires.room.0, more, at_most_one one.is_row);
      few_rows = omega (arith, c.requires.room.1, row_more one (asked_of old.input), ap (λ (a : Asked). length a.rows) c.in_default-add.ensures.adds, c.add.new.self.rows.ok.0, old.input.rows.ok.0);
      has_scripts = c.add.ensures.count ∙ old.has_scripts;
      knows_begun = knows_more old.requests _ old.begun one.is_row old.knows_begun (ap (λ n. old.requests + n) more);
    }

pub returns-clause-adds : goal.returns-clause-adds
returns-clause-adds c = record {
  same = record { workers = refl; most = refl };
  asked = c.in_default-add.ensures.adds;
  count = omega (arith, c.in-Some.ensures);
  begun = refl;
  requests = ap (λ n. c.args.self.now.requests + n) (c.from.ensures ∙ counted c.args.said.now.is_row);
}
