use Rattle.std.proofs.Common.{◌≡◌, ◌+◌, ◌-◌, ◌∙◌, ℕ, List, Option, Some, ap, ap₂, drop, length, sym, take}
use Rattle.std.{proofs.lemmas.List.{take_rest}, specs.List.{position}}
use Rattle.record_reading.specs.Fields.{id_of_parts, is_point, item_id, item_id_at, number}
use Rattle.record_reading.proofs.fields.read_item_id.Goals as goal

-- the item of a field with a point, by what is read of its two parts
module _ (field : List ℕ) (point : ℕ) (found worker serial : Option ℕ) (place : found ≡ position is_point field) (is : found ≡ Some point)
    (before : worker ≡ number 32 (take point field)) (after : serial ≡ number 32 (take (length field - (point + 1)) (drop (point + 1) field))) where
  parted : id_of_parts worker serial ≡ item_id field
  parted = ap₂ id_of_parts before (after ∙ ap (number 32) (take_rest field (point + 1))) ∙ ap (item_id_at field) (sym is ∙ place)

pub returns : goal.returns
returns c =
    ap₂ id_of_parts (sym c.in_ok-worker.was) (sym c.in_ok-serial.was)
    ∙ parted c.args.field.now c.in_ok-point.point _ _ _ c.first_point.ensures.place c.in_ok-point.was c.read_u32.ensures c.read_u32-2.ensures

pub returns-in_err-point : goal.returns-in_err-point
returns-in_err-point c = c.from_residual.ensures ∙ ap (item_id_at c.args.field.now) (sym c.in_err-point.was ∙ c.first_point.ensures.place)

pub returns-in_err-serial : goal.returns-in_err-serial
returns-in_err-serial c =
    c.from_residual-in_err-serial.ensures ∙ ap₂ id_of_parts (sym c.in_ok-worker.was) (sym c.in_err-serial.was)
    ∙ parted c.args.field.now c.in_ok-point.point _ _ _ c.first_point.ensures.place c.in_ok-point.was c.read_u32.ensures c.read_u32-2.ensures
