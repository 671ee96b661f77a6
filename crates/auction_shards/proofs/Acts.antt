-- The acts of a row, each on the shard where its object lies.
use Rattle.std.proofs.Common.{◌≡◌, ℕ, ◌<◌, ◌==◌, Bool, true, false, cond, List, [], ◌∷◌, Some, None, length, map, get_or, set, refl, sym, ap, ◌∙◌, subst, arith, eq-eqb, length-set}
use Rattle.std.proofs.lemmas.Bool.{eqb-true, false≢true}
use Rattle.std.proofs.lemmas.List.{length-map, map-set, set-get_or, get_or-set_same, get_or-set_other}
use Rattle.std.{proofs.lemmas.Nat.{mod_below}, specs.List.{AllByRecursion}}
use Rattle.std.specs.Option.{option_map_or}
use Rattle.auction_rows.specs.{Book.{item_entry}, History.{commit_of}}
use Rattle.auction_rows.specs.Requests.{number_of, shard_of}
use Rattle.auction_rows.specs.declared.replies.Reply.TheVariants.{ItemStored}
use Rattle.auction_rows.specs.declared.requests.Object.TheVariants.{Item, Category}
use Rattle.auction_rows.specs.declared.{requests.ItemId.ItemId, requests.Object.Object, rows.ItemRow.ItemRow, rows.Row.Row}
use Rattle.auction_rows.specs.declared.rows.Row.TheVariants as row
use Rattle.item_shards.{proofs.StandingLemmas.{cold_here}, specs.Acting.{CanActOn}}
use Rattle.item_shards.specs.Contents.{Contents, target, after_act, after_acts}
use Rattle.item_shards.specs.Events.{Event, AddItem, ListItem}
use Rattle.item_shards.specs.Writing.{writes_of, first_act, second_act, is_cold_in, is_done_on}
use Rattle.item_shards.specs.declared.shard.Shard.{Shard}
use Rattle.item_shards.specs.ShardContents.{IsSameShard, HasItemRoom, clock, contents, rooms, shard_number, shard_count, opening as opening_of}
use Rattle.shard_boxes.specs.States.{ShardState, state_of, state_at, no_shard}
use Rattle.auction_shards.{proofs.Placed.{seen, lies_there}, specs.Shards.{AreNumbered, AreOfOne}}
use Rattle.auction_shards.specs.Writing.{CanWriteOn, HaveDone, with_acts}
use Rattle.auction_shards.specs.inner.Acting.{IsShardOf, HasRoomIn}

abbrev pub acted : Event → ShardState → ShardState
acted act state = record state { contents = after_act state.contents act }

module _ (states : List ShardState) (numbered : AreNumbered states) (place : ℕ) (below : place < length states) (object : Object) (act : Event)
    (about : target act ≡ Some object) (lies : shard_of object (length states) ≡ place) where
  here : (k : ℕ) → is_done_on k (length states) [] act ≡ (place == k)
  here k = (λ i. option_map_or (is_cold_in k (length states) []) (about i) false) ∙ ap (λ p. p == k) lies

  through : (sh : Contents) (t : Bool) → after_acts sh (cond t (act ∷ []) []) ≡ cond t (after_act sh act) sh
  through sh true = refl
  through sh false = refl

  with_is : (s : ℕ) → s < length states → (t : Bool) → (place == s) ≡ t
      → with_acts (length states) (act ∷ []) (state_at states s) ≡ record (state_at states s) { contents = cond t (after_act (state_at states s).contents act) (state_at states s).contents }
  with_is s low t e =
      ap (λ b. record (state_at states s) { contents = after_acts (state_at states s).contents (cond b (act ∷ []) []) }) (here (state_at states s).number ∙ ap (λ k. place == k) (numbered s low).0 ∙ e)
      ∙ ap (λ (sh : Contents). record (state_at states s) { contents = sh }) (through (state_at states s).contents t)

  -- an act on the shard where its object lies
  pub one_done : (new : ShardState) → new ≡ acted act (state_at states place) → HaveDone states (set states place new) (act ∷ [])
  one_done new is = record { len = length-set states place new; each = each } where
    each : (s : ℕ) → s < length states → state_at (set states place new) s ≡ with_acts (length states) (act ∷ []) (state_at states s)
    each s low = at (place == s) refl where
      at : (t : Bool) → (place == s) ≡ t → state_at (set states place new) s ≡ with_acts (length states) (act ∷ []) (state_at states s)
      at true e =
          let same : place ≡ s = eqb-true place s e in
          ap (state_at (set states place new)) (sym same) ∙ get_or-set_same states place new no_shard below ∙ is ∙ ap (λ k. acted act (state_at states k)) same ∙ sym (with_is s low true e)
      at false e = get_or-set_other states place s new no_shard (λ same. false≢true (sym e ∙ eq-eqb place s (sym same))) ∙ sym (with_is s low false e)

-- one shard acts, of those that are numbered
pub act_done : (shards : List Shard) → AreNumbered (map state_of shards) → (place : ℕ) → place < length shards → (object : Object) (act : Event) → target act ≡ Some object
    → shard_of object (length shards) ≡ place → (old new : Shard) → old ≡ get_or shards place old → IsSameShard old new → clock new ≡ clock old → contents new ≡ after_act (contents old) act
    → HaveDone (map state_of shards) (map state_of (set shards place new)) (act ∷ [])
act_done shards numbered place low object act about lies old new is same clock_is contents_is =
    let many : length (map state_of shards) ≡ length shards = simp length-map in
    let made : state_of new ≡ acted act (state_of old) = (λ i. record { number = same.number i; shards = same.shards i; opening = same.opening i; clock = clock_is i; contents = contents_is i }) in
    subst (λ states. HaveDone (map state_of shards) states (act ∷ [])) (sym (map-set state_of shards place new))
    (one_done (map state_of shards) numbered place (omega (arith, low, many)) object act about (ap (shard_of object) many ∙ lies) (state_of new) (made ∙ ap (acted act) (seen shards place low old is)))

-- the acts of a row that are on the shard at a place can be done there
pub can_there : (shards : List Shard) → AreNumbered (map state_of shards) → (r : Row) → CanWriteOn (map state_of shards) r → (place : ℕ) → place < length shards → (old : Shard) → old ≡ get_or shards place old
    → AllByRecursion (λ act. is_done_on place (length shards) [] act ≡ true → CanActOn (opening_of old) (shard_number old) (shard_count old) (λ id. true) (contents old) act) (writes_of r)
can_there shards numbered r can place low old is =
    let many : length (map state_of shards) ≡ length shards = simp length-map in
    let below : place < length (map state_of shards) = omega (arith, low, many) in
    let at = seen shards place low old is in
    let number_is : place ≡ shard_number old = sym (ap (λ (state : ShardState). state.number) at ∙ (numbered place below).0) in
    let count_is : length (map state_of shards) ≡ shard_count old = sym (ap (λ (state : ShardState). state.shards) at ∙ (numbered place below).1) in
    subst (λ n. AllByRecursion (λ act. is_done_on place n [] act ≡ true → CanActOn (opening_of old) (shard_number old) (shard_count old) (λ id. true) (contents old) act) (writes_of r)) many
    (subst (λ n. AllByRecursion (λ act. is_done_on place (length (map state_of shards)) [] act ≡ true → CanActOn (opening_of old) (shard_number old) n (λ id. true) (contents old) act) (writes_of r)) count_is
    (subst (λ n. AllByRecursion (λ act. is_done_on place (length (map state_of shards)) [] act ≡ true → CanActOn (opening_of old) n (length (map state_of shards)) (λ id. true) (contents old) act) (writes_of r)) number_is
    (subst (λ (state : ShardState). AllByRecursion (λ act. is_done_on place (length (map state_of shards)) [] act ≡ true → CanActOn state.opening place (length (map state_of shards)) (λ id. true) state.contents act) (writes_of r)) (sym at)
    (can place below))))

-- a shard that shows what it showed
pub shown_still : (shards : List Shard) (place : ℕ) → place < length shards → (old new : Shard) → old ≡ get_or shards place old → IsSameShard old new → clock new ≡ clock old → contents new ≡ contents old
    → map state_of (set shards place new) ≡ map state_of shards
shown_still shards place low old new is same clock_is contents_is =
    let made : state_of new ≡ state_of old = (λ i. record { number = same.number i; shards = same.shards i; opening = same.opening i; clock = clock_is i; contents = contents_is i }) in
    map-set state_of shards place new ∙ ap (λ state. set (map state_of shards) place state) (made ∙ seen shards place low old is) ∙ simp set-get_or

pub numbered_next : (old new : List ShardState) (acts : List Event) → AreNumbered old → HaveDone old new acts → AreNumbered new
numbered_next old new acts numbered done = λ s low.
    let known : s < length old = omega (arith, low, done.len) in (
      ap (λ (state : ShardState). state.number) (done.each s known) ∙ (numbered s known).0,
      ap (λ (state : ShardState). state.shards) (done.each s known) ∙ (numbered s known).1 ∙ sym done.len,
    )

-- once there is room for an item in the shard at its place, there is in the shard in which it lies
pub room_there : (shards : List Shard) (id : ItemId) (place : ℕ) → place < length shards → shard_of (Item id) (length shards) ≡ place → (prepared : Shard) → HasItemRoom prepared id
    → HasRoomIn (set shards place prepared) id
room_there shards id place low lies prepared room shard is =
    let there : shard ≡ prepared =
    is ∙ ap (λ k. get_or (set shards place prepared) k shard) (ap (shard_of (Item id)) (length-set shards place prepared) ∙ lies) ∙ get_or-set_same shards place prepared shard low in
    subst (λ (s : Shard). HasItemRoom s id) (sym there) room

-- after acts they are still of one auction
pub still_of_one : (old new : List ShardState) (acts : List Event) → AreOfOne old → HaveDone old new acts → AreOfOne new
still_of_one old new acts one done = record {
  some = omega (arith, done.len, one.some);
  few = omega (arith, done.len, one.few);
  numbered = numbered_next old new acts one.numbered done;
  opening_is = λ s low.
      ap (λ (state : ShardState). state.opening) (done.each s (omega (arith, low, done.len)))
      ∙ one.opening_is s (omega (arith, low, done.len)) ∙ sym (ap (λ (state : ShardState). state.opening) (done.each 0 one.some));
}

-- an act without an object is done nowhere
pub none_done : (states : List ShardState) (act : Event) → target act ≡ None → HaveDone states states (act ∷ [])
none_done states act none = record {
  len = refl;
  each = λ s low i.
      let state = state_at states s in
      let done : Bool = option_map_or (is_cold_in state.number (length states) []) (sym none i) false in
      record state { contents = after_acts state.contents (cond done (act ∷ []) []) };
}

-- one act and then another are both in turn
with_both : (shards : ℕ) (act other : Event) (state : ShardState) → with_acts shards (other ∷ []) (with_acts shards (act ∷ []) state) ≡ with_acts shards (act ∷ other ∷ []) state
with_both shards act other state =
    ap (λ (shown : Contents). record state { contents = shown }) (at (is_done_on state.number shards [] act) (is_done_on state.number shards [] other)) where
      at : (a b : Bool) → after_acts (after_acts state.contents (cond a (act ∷ []) [])) (cond b (other ∷ []) []) ≡ after_acts state.contents (cond a (act ∷ cond b (other ∷ []) []) (cond b (other ∷ []) []))
      at true b = refl
      at false b = refl

-- a look at nothing is done nowhere
with_writes : (shards : ℕ) (r : Row) (state : ShardState) → with_acts shards (first_act (writes_of r) ∷ second_act (writes_of r) ∷ []) state ≡ with_acts shards (writes_of r) state
with_writes shards (row.Item r) state = refl
with_writes shards r state = refl

-- the two acts of a row write it
pub both_written : (old last new : List ShardState) (r : Row) → HaveDone old last (first_act (writes_of r) ∷ []) → HaveDone last new (second_act (writes_of r) ∷ []) → HaveDone old new (writes_of r)
both_written old last new r first second = record {
  len = second.len ∙ first.len;
  each = λ s low.
      let below : s < length last = omega (arith, low, first.len) in
      second.each s below ∙ (λ i. with_acts (first.len i) (second_act (writes_of r) ∷ []) (first.each s low i))
      ∙ with_both (length old) (first_act (writes_of r)) (second_act (writes_of r)) (state_at old s)
      ∙ with_writes (length old) r (state_at old s);
}

module _ (shards : List Shard) (one : AreOfOne (map state_of shards)) (object : Object) (shard : Shard) (is : IsShardOf shards object shard) where
  abbrev place : ℕ
  place = shard_of object (length shards)

  low : place < length shards
  low = let many : length (map state_of shards) ≡ length shards = simp length-map in mod_below (number_of object) (length shards) (omega (arith, many, one.some))

  done_there : (act : Event) → target act ≡ Some object → is_done_on place (length shards) [] act ≡ true
  done_there act about = ap (λ its. option_map_or (is_cold_in place (length shards) []) its false) about ∙ cold_here place (length shards) [] object refl refl

  can_there_of : (r : Row) → CanWriteOn (map state_of shards) r
      → AllByRecursion (λ act. is_done_on place (length shards) [] act ≡ true → CanActOn (opening_of shard) (shard_number shard) (shard_count shard) (λ id. true) (contents shard) act) (writes_of r)
  can_there_of r can = can_there shards one.numbered r can place low shard is

  -- the first act of a row can be done where its object lies, once there is room
  pub can_first : (r : Row) → CanWriteOn (map state_of shards) r → target (first_act (writes_of r)) ≡ Some object
      → ((id : ItemId) → (commit_of r).reply ≡ ItemStored id → HasRoomIn shards id)
      → CanActOn (opening_of shard) (shard_number shard) (shard_count shard) (rooms shard) (contents shard) (first_act (writes_of r))
  can_first (row.Item r) can about room =
      let its : Some (Item r.id) ≡ Some object = about in let same : Item r.id ≡ object = cc its in
      (((can_there_of (row.Item r) can).0 (done_there (AddItem r.id r.facts) its)).0, room r.id refl shard (subst (λ o. IsShardOf shards o shard) (sym same) is))
  can_first r can about room = (can_there_of r can).0 (done_there (first_act (writes_of r)) about)

-- a stored item can be listed in its category
can_list : (old last : List Shard) (r : ItemRow) → AreOfOne (map state_of old) → CanWriteOn (map state_of old) (row.Item r)
    → HaveDone (map state_of old) (map state_of last) (AddItem r.id r.facts ∷ []) → (shard : Shard) → IsShardOf last (Category r.facts.category) shard
    → CanActOn (opening_of shard) (shard_number shard) (shard_count shard) (rooms shard) (contents shard) (ListItem r.facts.category (item_entry r))
can_list old last r one can done shard is =
    let category = Category r.facts.category in let place = shard_of category (length last) in
    let all_old : length (map state_of old) ≡ length old = simp length-map in
    let all_last : length (map state_of last) ≡ length last = simp length-map in
    let many : length last ≡ length old = omega (arith, all_old, all_last, done.len) in
    let low : place < length last = mod_below r.facts.category (length last) (omega (arith, one.some, all_old, many)) in
    let below : place < length (map state_of old) = omega (arith, low, many, all_old) in
    let numbered = numbered_next (map state_of old) (map state_of last) (AddItem r.id r.facts ∷ []) one.numbered done in
    let known = (can place below).1.0 (cold_here place (length (map state_of old)) [] category (ap (shard_of category) (all_old ∙ sym many)) refl) in
    let opening_is = ap (λ (state : ShardState). state.opening.categories) (seen last place low shard is ∙ done.each place below) in
    (lies_there last numbered category place low refl shard is, subst (λ n. r.facts.category < n) (sym opening_is) known.1)

-- after the first act of a row the second can be done where its object lies
pub can_second : (old last : List Shard) (r : Row) → AreOfOne (map state_of old) → CanWriteOn (map state_of old) r → HaveDone (map state_of old) (map state_of last) (first_act (writes_of r) ∷ [])
    → (object : Object) (shard : Shard) → IsShardOf last object shard → target (second_act (writes_of r)) ≡ Some object
    → CanActOn (opening_of shard) (shard_number shard) (shard_count shard) (rooms shard) (contents shard) (second_act (writes_of r))
can_second old last (row.Item r) one can done object shard is about =
    let its : Some (Category r.facts.category) ≡ Some object = about in
    let same : Category r.facts.category ≡ object = cc its in
    can_list old last r one can done shard (subst (λ o. IsShardOf last o shard) (sym same) is)
can_second old last r one can done object shard is about = tt
