use Rattle.std.proofs.Common.{arith}
use Rattle.record_reading.proofs.DigitLemmas.{number_fits}
use Rattle.record_reading.proofs.plain_fields.last_u32.Goals as goal

pub returns : goal.returns
returns c =
    let read = c.in_ok-value.ensures in
    record { field = read.field; there = read.there; digits = read.digits; is = number_fits 32 read.field c.in_ok-value.value read.is (omega arith) }
