-- The order of candidates in the code is that of the definitions.
use Rattle.std.proofs.Common.{◌≡◌, ◌+◌, List, get_or, refl, sym, ap, ◌∙◌}
use Rattle.std.specs.{Ordering.{is_lt, ordering_then, nat_cmp}, Prelude.{IsSorted}}
use Rattle.std.specs.declared.cmp.Ordering.{TheVariants.{Less, Equal, Greater}, Ordering}
use Rattle.auction_rows.specs.{Orders.{object_cmp}, declared.requests.Object.{Object}}
use Rattle.auction_rows.specs.declared.requests.Object.TheVariants.{Item, User, Category}
use Rattle.auction_rows.specs.contracts.requests.ObjectOrd.TheImpl.{cmp-value as object_order}
use Rattle.hot_choice.specs.{declared.choice.Candidate.{Candidate}, inner.Ranking.{candidate_cmp}}
use Rattle.hot_choice.specs.contracts.choice.CandidateOrd.TheImpl.{cmp-value as candidate_order}

and_then_equal : (r : Ordering) → r ≡ ordering_then r Equal
and_then_equal Less = refl
and_then_equal Equal = refl
and_then_equal Greater = refl

object_order_is : (a b : Object) → object_order.it a b ≡ object_cmp a b
object_order_is (Item i) (Item j) = refl
object_order_is (User user) (User other) = and_then_equal (nat_cmp user other)
object_order_is (Category category) (Category other) = and_then_equal (nat_cmp category other)
object_order_is a b = refl

order_is : (a b : Candidate) → candidate_order.it a b ≡ candidate_cmp a b
order_is a b = ap (ordering_then (nat_cmp b.heat.0 a.heat.0)) (object_order_is a.object b.object)

pub sorted_is : (cs : List Candidate) → IsSorted candidate_order.it cs → IsSorted candidate_cmp cs
sorted_is cs sorted = λ k d low high. ap is_lt (sym (order_is (get_or cs (k + 1) d) (get_or cs k d))) ∙ sorted k d low high
