use Rattle.std.proofs.{Common.{length, ap, ◌∙◌}, lemmas.List.{length-map}}
use Rattle.application_window.proofs.table_copy.reply_to.Goals as goal

pub decide-requires : goal.decide-requires
decide-requires g c = ap length c.looks_at-looks.ensures ∙ length-map c.keys-keys.result _ ∙ ap length c.keys-keys.ensures
