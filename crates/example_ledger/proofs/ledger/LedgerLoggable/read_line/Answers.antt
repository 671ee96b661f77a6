use Rattle.std.proofs.Common.{◌∙◌}
use Rattle.example_ledger.proofs.ReadLemmas.{kind_at, line_words, some_at, some_there}
use Rattle.example_ledger.proofs.ledger.LedgerLoggable.read_line.Goals as goal

pub returns-in_err-line : goal.returns-in_err-line
returns-in_err-line c q fits is =
    let h = line_words q c.args.text.now fits is in
    absurd (some_there c.text_of.result _ (c.text_of.ensures h.is_text) c.in_err-line.was)

pub returns-in_err-word : goal.returns-in_err-word
returns-in_err-word c q fits is =
    let h = line_words q c.args.text.now fits is in
    let at = some_at c.text_of.result _ (c.text_of.ensures h.is_text) _ c.in_ok-line.was in
    absurd (some_there c.words_of.result _ (c.words_of.ensures h.word h.account h.amount h.few h.small h.no_blank (at ∙ h.is)) c.in_err-word.was)

pub returns : goal.returns
returns c q fits is =
    let h = line_words q c.args.text.now fits is in
    let at = some_at c.text_of.result _ (c.text_of.ensures h.is_text) _ c.in_ok-line.was in
    let found = some_at c.words_of.result _ (c.words_of.ensures h.word h.account h.amount h.few h.small h.no_blank (at ∙ h.is)) _ c.in_ok-word.was in
    kind_at q c.args.text.now c.in_ok-word.word.now c.in_ok-word.account c.in_ok-word.amount c.request_of.result h found.0 found.1 found.2 c.request_of.ensures.add c.request_of.ensures.take
