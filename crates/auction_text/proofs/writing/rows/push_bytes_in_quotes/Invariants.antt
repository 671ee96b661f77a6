use Rattle.std.{proofs.Common.{◌≡◌, ◌++◌, take}, specs.List.{flat_map}}
use Rattle.auction_text.specs.RowLines.{byte_in_quotes}
use Rattle.auction_text.proofs.writing.rows.push_bytes_in_quotes.Given as goal

abbrev pub invariant-loop-byte : goal.invariant-loop-byte
invariant-loop-byte l = l.text.items ≡ l.fn.text.items ++ flat_map byte_in_quotes (take l.byte-index l.bytes)
