use Rattle.std.proofs.{Common.{◌≡◌, ◌∙◌, length, take, ap, sym}, lemmas.List.{with_items_is}}
use Rattle.std.specs.{Io.KnownBytes.{prepend_known}, Vec.{with_items}}
use Rattle.live_reading.{proofs.LineBufferLemmas.{at_front, reads_behind}, specs.LineBuffers.{held}}
use Rattle.live_reading.proofs.line_buffer.LineBuffer.read_on.Goals as goal

pub returns-clause-reads : goal.returns-clause-reads
returns-clause-reads g c = λ bytes known.
    let remaining = g.R.Read.remaining in let old = c.args.self.now in
    let moved = c.move_up.new.self in let now = c.in_ok-now.now in
    let buffer = c.read_more.new.buffer in let new = remaining c.read_more.new.reader in
    let vec = c.deref_mut.result.now in
    let front : take moved.filled vec ≡ held old = ap (take moved.filled) c.deref_mut.ensures.value ∙ sym (at_front moved.buffer.items moved.at moved.filled c.move_up.ensures.at) ∙ c.move_up.ensures.held in
    let whole = with_items moved.buffer buffer in
    let same : whole.items ≡ buffer = with_items_is moved.buffer buffer (c.read_more.ensures.len ∙ ap length c.deref_mut.ensures.value ∙ sym moved.buffer.ok.0) in
    ap (λ h. prepend_known h new) (at_front whole.items moved.at now c.move_up.ensures.at ∙ ap (take now) same)
    ∙ reads_behind (held old) (take moved.filled vec) (take now buffer) bytes (remaining old.reader) new known front
    (λ all is. c.in_ok-now.ensures.reads all (ap remaining c.move_up.ensures.underneath ∙ is))
