-- Hot objects with which a permit is made.
use Rattle.std.proofs.Common.{◌≡◌, ℕ, ◌||◌, Bool, true, false, [], ◌∷◌, refl, sym, ap, ◌∙◌}
use Rattle.std.proofs.lemmas.Bool.{false≢true}
use Rattle.auction_rows.{proofs.RequestLemmas.{same_object-true}, specs.Footprint.{is_hot}}
use Rattle.auction_rows.specs.{Requests.{same_object}, declared.requests.Object.TheVariants.{Item}}
use Rattle.auction_rows.specs.declared.requests.{ItemId.ItemId, Object.Object}

serial_of : Object → ℕ
serial_of (Item id) = id.serial
serial_of object = 0

-- where one item is hot, each hot item is that one
pub only_item : (first item : ItemId) → is_hot (Item first ∷ []) (Item item) ≡ true → item.serial ≡ first.serial
unfolding serial_of
only_item first item hot = at (same_object (Item first) (Item item)) refl hot where
  at : (b : Bool) → same_object (Item first) (Item item) ≡ b → (same_object (Item first) (Item item) || false) ≡ true → item.serial ≡ first.serial
  at true same hot = sym (ap serial_of (same_object-true (Item first) (Item item) same))
  at false apart hot = absurd (false≢true (sym (ap (λ b. b || false) apart) ∙ hot))
