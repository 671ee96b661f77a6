use Rattle.std.{proofs.Common.{rules, ◌≡◌, refl, sym, subst, inl}, specs.Io.KnownBytes.{Appends}}
use Rattle.std.specs.Prelude.{IfErr}
use Rattle.byte_texts.specs.declared.writing.WriteFault.TheVariants.{Write}
use Rattle.part_log.proofs.TellingLemmas.{ended_by, found_by, none_added, prefix_written, some_rows}
use Rattle.part_log.proofs.log.tell_part.Goals.{then-not-is_empty+in_default, else-not-is_empty}
use Rattle.part_log.specs.Telling.{IsUnlogged}
use Rattle.part_log.proofs.log.tell_part.Goals as goal

pub returns-clause-first : goal.returns-clause-first
returns-clause-first g c =
    let log = g.L.Log.accepted in let contents = g.W.Write.contents in let old = c.args.log.now in
    let rows = c.args.rows.now in
    let logged : Appends (log old) (log c.if-not-is_empty.log) rows = elim c.if-not-is_empty.branch [
      | then-not-is_empty+in_default w ↦ subst (λ l. Appends (log old) (log l) rows) (sym w.log-is) w.in_default.ensures.accepted
      | else-not-is_empty w ↦ subst (λ l. Appends (log old) (log l) rows) (sym w.log-is) (none_added (log old) rows w.if-not-is_empty.ensures)
    ] in
    inl (logged, prefix_written c.write_last.result Write (contents c.args.writer.now) (contents c.write_last.new.writer) c.args.text.now c.write_last.ensures.whole c.write_last.ensures.part)

pub returns-clause-found : goal.returns-clause-found
returns-clause-found g c = λ going same.
    let found = g.L.Log.found in let accepted = g.L.Log.accepted in
    let never : IfErr c.map_err.result (λ fault. IsUnlogged fault → ⊥) = search rules in
    found_by c.map_err.result never (accepted c.if-not-is_empty.log) (found c.if-not-is_empty.log) c.args.rows.now (elim c.if-not-is_empty.branch [
      | then-not-is_empty+in_default w ↦ subst (λ l. found l ≡ accepted l) (sym w.log-is) w.in_default.ensures.found
      | else-not-is_empty w ↦ subst (λ l. found l ≡ accepted l) (sym w.log-is) same
    ])

pub returns-clause-ended : goal.returns-clause-ended
returns-clause-ended g c =
    let ended = g.L.Log.has_ended in
    let never : IfErr c.map_err.result (λ fault. IsUnlogged fault → ⊥) = search rules in
    ended_by c.map_err.result never (ended c.args.log.now) (ended c.if-not-is_empty.log) (elim c.if-not-is_empty.branch [
      | then-not-is_empty+in_default w ↦ subst (λ l. ended l ≡ ended c.args.log.now) (sym w.log-is) w.in_default.ensures.goes_on
      | else-not-is_empty w ↦ subst (λ l. ended l ≡ ended c.args.log.now) (sym w.log-is) refl
    ])

pub returns-in-Err-clause-some : goal.returns-in-Err-clause-some
returns-in-Err-clause-some g c = λ unlogged. some_rows c.args.rows.now c.if-not-is_empty.ensures

pub returns-in-Err-clause-found : goal.returns-in-Err-clause-found
returns-in-Err-clause-found g c = λ going same. c.in-Err.ensures.taken_back going

pub returns-in-Err-clause-ended : goal.returns-in-Err-clause-ended
returns-in-Err-clause-ended g c = c.in-Err.ensures.ended_after
