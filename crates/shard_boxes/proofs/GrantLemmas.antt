-- The grants of a key, and the grants of all boxes.
use Rattle.std.proofs.Common.{◌≡◌, ℕ, zero, suc, ◌+◌, ◌<◌, ◌≤◌, Bool, cond, ltb, ltb-true, ltb-false, false, List, [], ◌∷◌, ◌++◌, length, map, get_or, take, refl, sym, ap, ◌∙◌, subst, arith, append_assoc, length-append, zero-lt-suc, true}
use Rattle.std.proofs.lemmas.List.{get_or-map, length-map, take_more, get_or_default, map_push}
use Rattle.shard_boxes.proofs.{BoxSteps.{maker_spare}, Each.{each_push}, KeySteps.{read}}
use Rattle.shard_boxes.{proofs.LineLemmas.{clock_grows, history_of}, specs.{Closed.{IsSpent, AreSpent}, Helds.{taken_at}}}
use Rattle.shard_boxes.specs.Keys.{BoxId, KeyState, key_at, no_seat, holds_at, lines_at, IsNewKey}
use Rattle.shard_boxes.specs.Lines.{Line, after_lines, IsShardHistory, StartsWith, lines_of}
use Rattle.shard_boxes.specs.Passes.{start_of, GrantState}
use Rattle.shard_boxes.specs.inner.Passing.{SpeaksForAll, IsSpare}
use Rattle.shard_boxes.specs.Seats.{own_of, seat_of, boxes_of, key_of, IsFor, AreFor}
use Rattle.shard_boxes.specs.States.{ShardState, state_of, state_at, no_shard, IsInitial}
use Rattle.shard_boxes.specs.declared.shard_box.Knowledge.{Knowledge}
use Rattle.shard_boxes.specs.inner.Grants.{AreSpare, IsNewView, IsFree, AreFree, clock_at, clock_seen, own_at, IsTaken}
use Rattle.shard_boxes.specs.inner.Rule.{AreLawful, IsLawfulList, HasParts}
use Rattle.shard_boxes.specs.inner.Steps.{maker, ready, opened, first_of, rest_of, joined, spent}
use Rattle.item_shards.specs.declared.shard.Shard.{Shard}

-- a list of one element is its first element
pub own_one : (own : List (List Line)) → length own ≡ 1 → own ≡ get_or own 0 [] ∷ []
own_one (l ∷ []) e = refl
own_one own e = absurd (omega arith)

-- the grants of a key that holds nothing
pub key_free : (initial : List ShardState) (workers worker : ℕ) (grants : List GrantState) (x : KeyState) → key_of worker grants ≡ x → AreFor initial workers grants worker → ((s : ℕ) → holds_at x s ≡ false)
    → AreFree initial workers x.boxes x.worker grants
key_free initial workers worker grants x is each idle = (
  ap (λ (k : KeyState). k.boxes) is,
  λ s d low.
      let fit = each s d low in
      let seat = read worker grants s (get_or grants s d) x is low (get_or_default grants s d (get_or grants s d) low) in record {
        start_is = fit.start_is;
        workers_are = fit.workers_are;
        from = fit.from ∙ ap (λ (k : KeyState). k.worker) is;
        speaks = subst (λ n. 0 < n) (sym fit.as_many) (zero-lt-suc 0);
        free = ap (λ t. t.holds) (sym seat) ∙ idle s;
      },
)

pub key_own : (initial : List ShardState) (workers worker : ℕ) (grants : List GrantState) (x : KeyState) (s : ℕ) (d : GrantState) → key_of worker grants ≡ x → AreFor initial workers grants worker → s < length grants
    → own_at grants s d ≡ lines_at x s ∷ []
key_own initial workers worker grants x s d is each low =
    let seat = read worker grants s (get_or grants s d) x is low (get_or_default grants s d (get_or grants s d) low) in
    own_one (own_at grants s d) (each s d low).as_many ∙ ap (λ l. l ∷ []) (ap (λ t. t.lines) (sym seat))

pub key_seen : (initial : List ShardState) (workers worker : ℕ) (grants : List GrantState) (x : KeyState) (s : ℕ) (d : GrantState) → key_of worker grants ≡ x → AreFor initial workers grants worker → s < length grants
    → clock_at grants s d ≡ (taken_at initial x s).clock
key_seen initial workers worker grants x s d is each low =
    let seat = read worker grants s (get_or grants s d) x is low (get_or_default grants s d (get_or grants s d) low) in
    ap (λ (o : ShardState). (after_lines o (get_or grants s d).knows.seen).clock) (each s d low).start_is ∙ ap (λ t. (after_lines (state_at initial s) t.seen).clock) (sym seat)

-- the grant at a box is for that box
pub place_is : (grants : List GrantState) (boxes : List BoxId) (s : ℕ) (l : GrantState) (p : BoxId) → boxes_of grants ≡ boxes → s < length grants → l ≡ get_or grants s l → p ≡ get_or boxes s p → l.box_id ≡ p
place_is grants boxes s l p is low at there =
    ap (λ (x : GrantState). x.box_id) at ∙ sym (get_or-map (λ (x : GrantState). x.box_id) grants s l p low) ∙ ap (λ ps. get_or ps s p) is ∙ sym there

pub as_many : (grants : List GrantState) (boxes : List BoxId) → boxes_of grants ≡ boxes → length grants ≡ length boxes
as_many grants boxes is = let same : length (boxes_of grants) ≡ length grants = simp length-map in sym same ∙ ap length is

-- one box more, with its maker's grant
pub spare_more : (boxes now : List BoxId) (grants later : List GrantState) (p : BoxId) (l : GrantState) → AreSpare boxes grants → now ≡ boxes ++ p ∷ [] → later ≡ grants ++ l ∷ [] → l.box_id ≡ p → l.knows ≡ maker
    → AreSpare now later
spare_more boxes now grants later p l spare now_is later_is place knows = (
  ap boxes_of later_is ∙ map_push (λ (x : GrantState). x.box_id) grants l ∙ (λ i. spare.0 i ++ place i ∷ []) ∙ sym now_is,
  λ s d low.
      each_push (λ k (x : GrantState). IsSpare x.knows) grants later l d (length grants) refl later_is (λ k lower. spare.1 k d lower) (subst IsSpare (sym knows) maker_spare) s
      (subst (λ n. s < n) (ap length later_is ∙ length-append grants (l ∷ [])) low),
)

-- what the steps make of a view for workers who have done nothing
pub opened_ready : (start : ShardState) (workers : ℕ) (v : Knowledge) (x : Shard) → v ≡ opened workers x → state_of x ≡ start → IsNewView start workers 0 workers v
opened_ready start workers v x is state = record {
  start_is = ap start_of is ∙ state;
  unused = is ∙ ap (λ (y : Knowledge). ready y.start workers 0 workers) (sym is);
}

pub rest_ready : (start : ShardState) (workers first count left : ℕ) (v : Knowledge) → IsNewView start workers first count v → count ≡ suc left → IsNewView start workers (first + 1) left (rest_of v)
rest_ready start workers first count left v h e = record { start_is = h.start_is; unused = ap rest_of h.unused ∙ ap (λ n. rest_of (ready v.start workers first n)) e }

pub first_ready : (start : ShardState) (workers first count left : ℕ) (v : Knowledge) → IsNewView start workers first count v → count ≡ suc left → IsNewView start workers first 1 (first_of v)
first_ready start workers first count left v h e = record { start_is = h.start_is; unused = ap first_of h.unused ∙ ap (λ n. first_of (ready v.start workers first n)) e }

-- a grant for one worker, who has done nothing
pub ready_for : (initial : List ShardState) (workers number first : ℕ) (l : GrantState) → IsNewView (state_at initial number) workers first 1 l.knows → IsFor initial workers number first 1 l
ready_for initial workers number first l h = record {
  start_is = h.start_is;
  workers_are = ap (λ (v : Knowledge). v.workers) h.unused;
  from = ap (λ (v : Knowledge). v.first) h.unused;
  as_many = ap (λ (v : Knowledge). length v.own) h.unused;
}

pub places_more : (room now : List GrantState) (boxes : List BoxId) (s : ℕ) (l : GrantState) (p : BoxId) → s < length boxes → now ≡ room ++ l ∷ [] → boxes_of room ≡ take s boxes → l.box_id ≡ p → p ≡ get_or boxes s p
    → boxes_of now ≡ take (s + 1) boxes
places_more room now boxes s l p below now_is is place there =
    ap boxes_of now_is ∙ map_push (λ (x : GrantState). x.box_id) room l ∙ (λ i. is i ++ (place ∙ there) i ∷ []) ∙ sym (take_more boxes s p below)

blank_seats : (grants : List GrantState) → ((k : ℕ) (d : GrantState) → k < length grants → seat_of (get_or grants k d) ≡ no_seat) → (s : ℕ) → get_or (map seat_of grants) s no_seat ≡ no_seat
blank_seats [] h s = refl
blank_seats (l ∷ rest) h zero = h 0 l (omega arith)
blank_seats (l ∷ rest) h (suc s) = blank_seats rest (λ k d low. h (suc k) d (omega arith)) s

seat_ready : (start : ShardState) (workers first : ℕ) (l : GrantState) → IsNewView start workers first 1 l.knows → seat_of l ≡ no_seat
seat_ready start workers first l h = let is = h.unused in (λ i. record { holds = (is i).holds; lines = own_of (is i); seen = (is i).seen })

pub new_key : (initial : List ShardState) (workers worker : ℕ) (grants : List GrantState) (boxes : List BoxId) → boxes_of grants ≡ boxes
    → ((k : ℕ) (d : GrantState) → k < length grants → IsNewView (state_at initial k) workers worker 1 (get_or grants k d).knows) → IsNewKey boxes worker (key_of worker grants)
new_key initial workers worker grants boxes is each =
    let same : length (map seat_of grants) ≡ length grants = simp length-map in record {
      boxes_are = is;
      worker_is = refl;
      seats_are = same ∙ as_many grants boxes is;
      unused = blank_seats grants (λ k d low. seat_ready (state_at initial k) workers worker (get_or grants k d) (each k d low));
    }

pub joined_free : (start : ShardState) (workers first : ℕ) (v w : Knowledge) → IsFree start workers first v → IsFree start workers first (joined v w)
joined_free start workers first v w h = record {
  start_is = h.start_is;
  workers_are = h.workers_are;
  from = h.from;
  speaks = omega (arith, length-append v.own w.own, h.speaks);
  free = h.free;
}

-- of two passes that are united neither has seen a greater clock
greater_is : {A : Type 0} (clock : A → ℕ) (a b : A) → (clock a ≤ clock (cond (ltb (clock a) (clock b)) b a)) × (clock b ≤ clock (cond (ltb (clock a) (clock b)) b a))
greater_is clock a b = at (ltb (clock a) (clock b)) refl where
  at : (t : Bool) → ltb (clock a) (clock b) ≡ t → (clock a ≤ clock (cond t b a)) × (clock b ≤ clock (cond t b a))
  at true less = (omega (arith, ltb-true (clock a) (clock b) less), omega arith)
  at false more = (omega arith, omega (arith, ltb-false (clock a) (clock b) more))

pub joined_clocks : (v w : Knowledge) → start_of w ≡ start_of v → (clock_seen v ≤ clock_seen (joined v w)) × (clock_seen w ≤ clock_seen (joined v w))
joined_clocks v w same =
    let both = greater_is (λ (lines : List (ℕ × Line)). (after_lines (start_of v) lines).clock) v.seen w.seen in
    (both.0, subst (λ (o : ShardState). (after_lines o w.seen).clock ≤ clock_seen (joined v w)) (sym same) both.1)

pub no_grant : GrantState
no_grant = record { box_id = record { words = 0; slots = 0; views_name = 0; atom = 0; block = 0; offset = 0; slot_names = [] }; knows = spent }

-- the last of the keys that are left
at_middle : (front done : List KeyState) (key : KeyState) → key_at (front ++ key ∷ done) (length front) ≡ key
at_middle [] done key = refl
at_middle (x ∷ front) done key = at_middle front done key

pub whole_is : (front now done all : List KeyState) (key : KeyState) → now ≡ front ++ key ∷ [] → now ++ done ≡ all → front ++ (key ∷ done) ≡ all
whole_is front now done all key e f = sym (append_assoc front (key ∷ []) done) ∙ ap (λ l. l ++ done) (sym e) ∙ f

pub spent_at : (boxes : List BoxId) (workers : ℕ) (front now done all : List KeyState) (key : KeyState) → AreSpent boxes workers all → now ≡ front ++ key ∷ [] → now ++ done ≡ all
    → IsSpent boxes (length front) key
spent_at boxes workers front now done all key spent e f =
    let whole = whole_is front now done all key e f in
    let long : length all ≡ length front + length (key ∷ done) = ap length (sym whole) ∙ length-append front (key ∷ done) in
    let low : length front < workers = omega (arith, long, spent.0) in
    let at : key_at all (length front) ≡ key = ap (λ l. key_at l (length front)) (sym whole) ∙ at_middle front done key in
    subst (IsSpent boxes (length front)) at (spent.1 (length front) low)

pub one_more : (front now : List KeyState) (key : KeyState) → now ≡ front ++ key ∷ [] → length now ≡ length front + 1
one_more front now key e = ap length e ∙ length-append front (key ∷ [])

zero_plus : (first w : ℕ) → first ≡ 0 → w ≡ first + w
zero_plus first w e = omega arith

-- the shards as lists of them and of what they show
pub state_is : (shards : List Shard) (initial : List ShardState) (s : ℕ) (shard : Shard) → map state_of shards ≡ initial → s < length shards → get_or shards s shard ≡ shard → state_of shard ≡ state_at initial s
state_is shards initial s shard is below at = ap state_of (sym at) ∙ sym (get_or-map state_of shards s shard no_shard below) ∙ ap (λ o. state_at o s) is

pub as_many_states : (shards : List Shard) (initial : List ShardState) → map state_of shards ≡ initial → length shards ≡ length initial
as_many_states shards initial is = let same : length (map state_of shards) ≡ length shards = simp length-map in sym same ∙ ap length is

-- a view for all workers, by their number
pub for_all : (start : ShardState) (workers : ℕ) (v : Knowledge) → IsFree start workers 0 v → length v.own ≡ workers → SpeaksForAll v
for_all start workers v free long = record { from = free.from; all = long ∙ sym free.workers_are; some = free.speaks }

-- a view for all workers that has taken the shard
pub taken_spare : (v w : Knowledge) → SpeaksForAll v → w ≡ record v { seen = w.seen; holds = true } → IsSpare w
taken_spare v w h is = (
  record {
    from = ap (λ (y : Knowledge). y.first) is ∙ h.from;
    all = ap (λ (y : Knowledge). length y.own) is ∙ h.all ∙ sym (ap (λ (y : Knowledge). y.workers) is);
    some = subst (λ n. 0 < n) (sym (ap (λ (y : Knowledge). length y.own) is)) h.some;
  },
  ap (λ (y : Knowledge). y.holds) is,
)

-- the history of a shard that was taken
pub history_by : (initial : List ShardState) (workers s : ℕ) (v : Knowledge) (lines : List (ℕ × Line)) (state : ShardState) → s < length initial → IsInitial (length initial) s (state_at initial s) → start_of v ≡ state_at initial s
    → v.workers ≡ workers → IsLawfulList (start_of v) v.workers lines → state ≡ after_lines (start_of v) lines → IsShardHistory initial workers s lines state
history_by initial workers s v lines state low is_opened start many kept now =
    history_of initial workers s lines state low is_opened (subst (λ (y : ShardState × ℕ). IsLawfulList y.0 y.1 lines) (λ i. (start i, many i)) kept) (now ∙ ap (λ o. after_lines o lines) start)

-- the shard that a grant for all workers takes
pub taken_is : (initial : List ShardState) (workers s : ℕ) (v : Knowledge) (own : List (List Line)) (lines : List (ℕ × Line)) (state : ShardState) → s < length initial → IsInitial (length initial) s (state_at initial s)
    → IsFree (state_at initial s) workers 0 v → own ≡ v.own → length own ≡ workers → IsLawfulList (start_of v) v.workers lines → state ≡ after_lines (start_of v) lines → StartsWith lines v.seen → HasParts v lines → IsTaken initial workers own (clock_seen v) s state
taken_is initial workers s v own lines state low is_opened free is long kept now later parts = (
  lines,
  history_by initial workers s v lines state low is_opened free.start_is free.workers_are kept now,
  λ w lower.
      let below : w < length v.own = omega (arith, lower, long, ap length is) in
      ap (λ n. lines_of n lines) (zero_plus v.first w free.from) ∙ sym (parts w below) ∙ ap (λ l. get_or l w []) (sym is),
  subst (λ n. clock_seen v ≤ n) (ap (λ (o : ShardState). o.clock) (ap (after_lines (start_of v)) (sym later.1) ∙ sym now))
      (clock_grows v.workers (start_of v) v.seen later.0 (subst (AreLawful v.workers (start_of v)) later.1 kept.lawful)),
)
