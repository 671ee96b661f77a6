use Rattle.std.proofs.Common.{[]}
use Rattle.auction_text.proofs.ListedLemmas.{all_listed, read_listed}
use Rattle.auction_text.specs.RowLines.{byte_in_quotes}
use Rattle.auction_text.proofs.writing.rows.push_bytes_in_quotes.Goals as goal

pub loop-byte-preserved : goal.loop-byte-preserved
loop-byte-preserved c =
    read_listed byte_in_quotes c.args.text.now.items [] c.loop-byte.text.items c.push_byte_in_quotes.new.text.items c.args.bytes.now c.loop-byte.byte-index 0
    c.loop-byte-test.true c.loop-byte.invariant c.in_ok-push_byte_in_quotes.ensures

pub returns : goal.returns
returns c = all_listed byte_in_quotes c.args.text.now.items [] c.loop-byte.text.items c.args.bytes.now c.loop-byte.byte-index c.loop-byte-test.false c.loop-byte.invariant
