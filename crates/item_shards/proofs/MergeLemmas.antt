-- A slice merged into a record: the record of the operations of both.
use Rattle.std.proofs.Common.{◌≡◌, List, sym, ap, ◌∙◌}
use Rattle.split_records.specs.Laws.{ValueLaws}
use Rattle.auction_rows.specs.declared.requests.Object.{Object}
use Rattle.item_shards.{proofs.Changes.{changed_itself}, specs.Contents.{Contents, changed}}
use Rattle.item_shards.specs.{Slices.{IsOfBoth}, Values.{Value}}

-- where a change of an object merges a slice into one part of its value
module _ {Op Rec : Type 0} {value_of : List Op → Rec} {none : Rec} {apply : Rec → Op → Rec} {merge : Rec → Rec → Rec} (laws : ValueLaws value_of none apply merge) where
  pub of_both : (part : Value → Rec) (change : Value → Value) (slice : Rec) → ((v : Value) → part (change v) ≡ merge (part v) slice)
      → (object : Object) (old new : Contents) → new ≡ changed object change old → IsOfBoth value_of (part (old object)) slice (part (new object))
  of_both part change slice merges object old new is = λ xs ys e f.
      (λ i. part (is i object)) ∙ ap part (changed_itself object change old) ∙ merges (old object) ∙ (λ i. merge (e i) (f i)) ∙ sym (laws.of_both xs ys)
