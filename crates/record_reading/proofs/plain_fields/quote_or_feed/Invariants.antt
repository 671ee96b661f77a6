use Rattle.std.proofs.Common.{◌≡◌, ◌≤◌, ◌<◌, ◌-◌, true, length}
use Rattle.record_reading.{proofs.DigitLemmas.{span}, specs.inner.QuotedFields.{has_no_quote}}
use Rattle.record_reading.proofs.plain_fields.quote_or_feed.Given as goal

abbrev pub invariant-loop-byte : goal.invariant-loop-byte
invariant-loop-byte l = record { reaches : l.from ≤ l.at; within : l.at < length l.text; so_far : has_no_quote (span l.text l.from l.at) ≡ true }

abbrev pub decreases-loop-byte : goal.decreases-loop-byte
decreases-loop-byte l = length l.text - l.at
