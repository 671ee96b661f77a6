use Rattle.std.proofs.Common.{rules, ◌≡◌, ◌<◌, [], ◌∷◌, ◌++◌, true, false, length, refl}
use Rattle.std.proofs.lemmas.{Bool.{false≢true}, List.{get_or_default}}
use Rattle.std.specs.{Prelude.{Ok, Err, OnOk, Result}, Result.{is_ok}}
use Rattle.auction_rows.specs.declared.requests.Opened.{Opened}
use Rattle.record_reading.proofs.inputs.CompactInput.add.Goals.{then-said, else-said}
use Rattle.record_reading.proofs.inputs.CompactInput.add.Goals as goal

-- what is known of a call that went well
on_ok : {T E P : Type 0} (result : Result T E) → is_ok result ≡ true → OnOk result P → P
on_ok (Ok value) good known = known
on_ok (Err error) good known = absurd (false≢true good)

pub returns-clause-adds : goal.returns-clause-adds
returns-clause-adds c = elim c.if-said.branch [
  | then-said w ↦
      let row : c.args.said.now.is_row ≡ true = search rules in
      let good : is_ok w.push.result ≡ true = search rules in
      let opened : Opened = record { worker = c.args.said.now.worker; request = c.args.said.now.request } in
      let items : w.push.new.self.items ≡ c.args.self.now.rows.items ++ opened ∷ [] = rw good at w.push.ensures.items in
      rw (w.self-is, row, items) refl
  | else-said w ↦
      let request : c.args.said.now.is_row ≡ false = search rules in
      let good : is_ok w.push-else-said.result ≡ true = search rules in
      let items : w.push-else-said.new.self ≡ w.index_mut-script.result.now ++ c.args.said.now.request ∷ [] = on_ok w.push-else-said.result good w.push-else-said.ensures.pushed in
      let fits : c.args.said.now.worker < length c.args.self.now.scripts.items = search rules in
      let here = get_or_default c.args.self.now.scripts.items c.args.said.now.worker w.index_mut-script.result.now [] fits in
      let value = w.index_mut-script.ensures.value in
      rw (w.self-is, request, items, ← here, ← value) refl
]
