-- Parcels of a text, one after the other, and what they ask of each worker.
use Rattle.std.proofs.Common.{arith, ◌≡◌, ◌<◌, ◌+◌, ◌∷◌, ◌++◌, ◌∙◌, [], ℕ, zero, suc, List, drop, get_or, length, set, take, refl, sym, ap, ap₂, subst, append_assoc}
use Rattle.std.proofs.lemmas.List.{append-nil, drop-drop, drop-set-lt, get_or-drop, length-drop, length-take-le, take_more, take_more_set}
use Rattle.std.{proofs.lemmas.List.Elements.{All-append}, specs.Prelude.{slice_index_or}}
use Rattle.auction_rows.specs.declared.requests.Request.{Request}
use Rattle.auction_reading.proofs.{JoinLemmas.{parcel_read_on}, SaidLemmas.{has_read_then}}
use Rattle.auction_reading.specs.declared.parcels.Parcel.{Parcel}
use Rattle.auction_reading.specs.inner.Parcels.{AreParcels, CanJoin, Follows, IsParcel, all_requests_of, but_requests, read_with, read_with_all, requests_of, scripts_joined, scripts_with}
use Rattle.auction_reading.specs.inner.Said.{HasRead, WasRead, read_by}

-- the parcels of two lists
pub both_are : (text : List ℕ) (xs ys : List Parcel) → AreParcels text xs → AreParcels text ys → AreParcels text (xs ++ ys)
both_are text xs ys first second = record { each = All-append (IsParcel text) xs ys first.each second.each }

-- the next of parcels
next_taken : (parcels : List Parcel) (i : ℕ) (parcel : Parcel) → i < length parcels → parcel ≡ get_or parcels i parcel → take (i + 1) parcels ≡ take i parcels ++ parcel ∷ []
next_taken parcels i parcel less is = take_more parcels i parcel less ∙ ap (λ (p : Parcel). take i parcels ++ p ∷ []) (sym is)

-- what is read with one parcel more
all_more : (old : WasRead) (xs : List Parcel) (parcel : Parcel) → read_with_all old (xs ++ parcel ∷ []) ≡ read_with (read_with_all old xs) (read_by parcel.progress)
all_more old [] parcel = refl
all_more old (x ∷ xs) parcel = all_more (read_with old (read_by x.progress)) xs parcel

module _ (old : WasRead) (parcels : List Parcel) (i : ℕ) (parcel : Parcel) (now : WasRead) (less : i < length parcels) (is : parcel ≡ get_or parcels i parcel)
    (was : now ≡ but_requests old (read_with_all old (take i parcels))) where
  one_more : read_with_all old (take (i + 1) parcels) ≡ read_with (read_with_all old (take i parcels)) (read_by parcel.progress)
  one_more = ap (read_with_all old) (next_taken parcels i parcel less is) ∙ all_more old (take i parcels) parcel

  -- its rows are joined
  pub rows_more : (next : WasRead) → next ≡ but_requests now (read_with now (read_by parcel.progress)) → next ≡ but_requests old (read_with_all old (take (i + 1) parcels))
  rows_more next more =
      more ∙ ap (λ (w : WasRead). but_requests w (read_with w (read_by parcel.progress))) was ∙ ap (but_requests old) (sym one_more)

  -- it is read on
  pub reads_more : (text : List ℕ) (at to : ℕ) → Follows now at parcel to → IsParcel text parcel → HasRead old text (read_with_all old (take i parcels)) (drop at text)
      → HasRead old text (read_with_all old (take (i + 1) parcels)) (drop to text)
  reads_more text at to follows has reads =
      let so_far = read_with_all old (take i parcels) in
      let can : CanJoin (but_requests old so_far) (read_by parcel.progress) = subst (λ (w : WasRead). CanJoin w (read_by parcel.progress)) was follows.joins in
      let joins : CanJoin so_far (read_by parcel.progress) = record { workers = reads.workers ∙ can.workers; room = can.room; rows = can.rows } in
      let alone = (has to follows.ends).reads in
      let on = parcel_read_on so_far (read_by parcel.progress) (drop parcel.from text) (drop to text) joins alone in
      let here : HasRead so_far (drop at text) (read_with so_far (read_by parcel.progress)) (drop to text) =
      subst (λ (n : ℕ). HasRead so_far (drop n text) (read_with so_far (read_by parcel.progress)) (drop to text)) follows.begins on in
      subst (λ (w : WasRead). HasRead old text w (drop to text)) (sym one_more)
      (has_read_then old so_far (read_with so_far (read_by parcel.progress)) text (drop at text) (drop to text) reads here)

-- what parcels ask of a worker, with one parcel more
all_requests_more : (w : ℕ) (xs : List Parcel) (parcel : Parcel) → all_requests_of w (xs ++ parcel ∷ []) ≡ all_requests_of w xs ++ requests_of w parcel
all_requests_more w [] parcel = append-nil (requests_of w parcel)
all_requests_more w (x ∷ xs) parcel =
    ap (λ (rs : List Request). requests_of w x ++ rs) (all_requests_more w xs parcel) ∙ sym (append_assoc (requests_of w x) (all_requests_of w xs) (requests_of w parcel))

pub requests_more : (w : ℕ) (parcels : List Parcel) (i : ℕ) (parcel : Parcel) (old now next : List Request) → i < length parcels → parcel ≡ get_or parcels i parcel
    → now ≡ old ++ all_requests_of w (take i parcels) → next ≡ now ++ requests_of w parcel → next ≡ old ++ all_requests_of w (take (i + 1) parcels)
requests_more w parcels i parcel old now next less is was more =
    more ∙ ap (λ (rs : List Request). rs ++ requests_of w parcel) was ∙ append_assoc old (all_requests_of w (take i parcels)) (requests_of w parcel)
    ∙ ap (λ (rs : List Request). old ++ rs) (sym (all_requests_more w (take i parcels) parcel) ∙ ap (all_requests_of w) (sym (next_taken parcels i parcel less is)))

-- the scripts of two lists of workers
pub parts_with : (xs ys : List (List Request)) (parcels : List Parcel) (w v : ℕ) → v ≡ w + length xs → scripts_with w (xs ++ ys) parcels ≡ scripts_with w xs parcels ++ scripts_with v ys parcels
parts_with [] ys parcels w v is = ap (λ (n : ℕ). scripts_with n ys parcels) (omega (arith, is))
parts_with (x ∷ xs) ys parcels w v is = ap (λ (ss : List (List Request)). (x ++ all_requests_of w parcels) ∷ ss) (parts_with xs ys parcels (w + 1) v (omega (arith, is)))

-- one worker's script more is joined
module _ (scripts now : List (List Request)) (first i worker : ℕ) (script new : List Request) (parcels : List Parcel) (within : i < length now) (at : worker ≡ first + i)
    (made : new ≡ get_or now i script ++ all_requests_of worker parcels) (yet : drop i now ≡ drop i scripts) where
  within_scripts : i < length scripts
  within_scripts = omega (arith, within, ap length yet, length-drop i now, length-drop i scripts)

  same_script : get_or now i script ≡ get_or scripts i script
  same_script =
      let here : i + 0 ≡ i = omega arith in
      ap (λ (k : ℕ). get_or now k script) (sym here) ∙ sym (get_or-drop i now 0 script) ∙ ap (λ (ss : List (List Request)). get_or ss 0 script) yet
      ∙ get_or-drop i scripts 0 script ∙ ap (λ (k : ℕ). get_or scripts k script) here

  pub one_joined : take i now ≡ scripts_with first (take i scripts) parcels → take (i + 1) (set now i new) ≡ scripts_with first (take (i + 1) scripts) parcels
  one_joined done =
      let was = get_or scripts i script in
      let len : first + i ≡ first + length (take i scripts) = omega (arith, length-take-le i scripts (omega (arith, within_scripts))) in
      take_more_set now i new within ∙ ap (λ (ss : List (List Request)). ss ++ new ∷ []) done
      ∙ ap (λ (s : List Request). scripts_with first (take i scripts) parcels ++ s ∷ [])
      (made ∙ ap (λ (s : List Request). s ++ all_requests_of worker parcels) same_script ∙ ap (λ (n : ℕ). was ++ all_requests_of n parcels) at)
      ∙ sym (parts_with (take i scripts) (was ∷ []) parcels first (first + i) len)
      ∙ ap (λ (ss : List (List Request)). scripts_with first ss parcels) (sym (take_more scripts i script within_scripts))

  pub others_yet : drop (i + 1) (set now i new) ≡ drop (i + 1) scripts
  others_yet =
      let less : i < i + 1 = omega arith in
      drop-set-lt (i + 1) now i new less ∙ sym (drop-drop 1 i now) ∙ ap (drop 1) yet ∙ drop-drop 1 i scripts

-- the first of scripts, joined with the scripts from a worker on
no_scripts : (xs : List (List Request)) → scripts_joined xs [] ≡ xs
no_scripts [] = refl
no_scripts (x ∷ xs) = refl

alone_joined : (x : List Request) (xs : List (List Request)) → x ∷ xs ≡ (x ++ []) ∷ scripts_joined xs []
alone_joined x xs = ap₂ (λ (s : List Request) (ss : List (List Request)). s ∷ ss) (sym (append-nil x)) (sym (no_scripts xs))

first_joined : (ys : List (List Request)) (w : ℕ) (x : List Request) (xs : List (List Request))
    → scripts_joined (x ∷ xs) (drop w ys) ≡ (x ++ slice_index_or ys w []) ∷ scripts_joined xs (drop (suc w) ys)
first_joined [] zero x xs = alone_joined x xs
first_joined [] (suc w) x xs = alone_joined x xs
first_joined (y ∷ ys) zero x xs = refl
first_joined (y ∷ ys) (suc w) x xs = first_joined ys w x xs

-- one parcel more, joined first
first_with : (w : ℕ) (xs : List (List Request)) (parcel : Parcel) (parcels : List Parcel)
    → scripts_with w (scripts_joined xs (drop w parcel.progress.input.scripts.items)) parcels ≡ scripts_with w xs (parcel ∷ parcels)
first_with w [] parcel parcels = refl
first_with w (x ∷ xs) parcel parcels =
    let ys = parcel.progress.input.scripts.items in let next : suc w ≡ w + 1 = omega arith in
    ap (λ (ss : List (List Request)). scripts_with w ss parcels) (first_joined ys w x xs)
    ∙ ap₂ (λ (s : List Request) (ss : List (List Request)). s ∷ ss) (append_assoc x (requests_of w parcel) (all_requests_of w parcels))
    (ap (λ (n : ℕ). scripts_with (w + 1) (scripts_joined xs (drop n ys)) parcels) next ∙ first_with (w + 1) xs parcel parcels)

none_with : (w : ℕ) (xs : List (List Request)) → scripts_with w xs [] ≡ xs
none_with w [] = refl
none_with w (x ∷ xs) = ap₂ (λ (s : List Request) (ss : List (List Request)). s ∷ ss) (append-nil x) (none_with (w + 1) xs)

-- the scripts after all parcels
all_scripts : (old : WasRead) (parcels : List Parcel) → (read_with_all old parcels).asked.scripts ≡ scripts_with 0 old.asked.scripts parcels
all_scripts old [] = sym (none_with 0 old.asked.scripts)
all_scripts old (parcel ∷ parcels) = all_scripts (read_with old (read_by parcel.progress)) parcels ∙ first_with 0 old.asked.scripts parcel parcels

-- what was read once the requests are joined too
abbrev pub with_scripts : List (List Request) → WasRead → WasRead
with_scripts scripts was = record { asked = record { rows = was.asked.rows; scripts = scripts }; count = was.count; begun = was.begun }

pub requests_joined : (old : WasRead) (parcels : List Parcel) (now : WasRead) (scripts : List (List Request)) → now ≡ but_requests old (read_with_all old parcels) → scripts ≡ scripts_with 0 now.asked.scripts parcels
    → read_with_all old parcels ≡ with_scripts scripts now
requests_joined old parcels now scripts rows are =
    let all = read_with_all old parcels in
    let same : scripts ≡ all.asked.scripts = are ∙ ap (λ (w : WasRead). scripts_with 0 w.asked.scripts parcels) rows ∙ sym (all_scripts old parcels) in
    sym (ap (with_scripts scripts) rows ∙ ap (λ (ss : List (List Request)). with_scripts ss all) same)
