-- One more commit: what the heads before it say stays.
use Rattle.std.proofs.Common.{◌≡◌, ◌<◌, ◌≤◌, ◌+◌, ◌-◌, ℕ, List, [], ◌∷◌, ◌++◌, map, length, take, drop, refl, sym, ap, ◌∙◌, subst, arith, append-nil, inl, inr, length-append, length-drop}
use Rattle.std.proofs.lemmas.List.{get_or_append_left, drop-append-le, take-append-le, map-append, length-map}
use Rattle.std.specs.List.{AllByRecursion}
use Rattle.phase_laws.proofs.OrderLemmas.{all_push, all-weaker}
use Rattle.auction_rows.specs.ItemViews.{item_reply}
use Rattle.auction_rows.specs.declared.replies.Reply.TheVariants.{BidsSeen, CategorySeen}
use Rattle.auction_rows.specs.declared.requests.Request.{Request}
use Rattle.auction_rows.specs.declared.{replies.Reply.Reply, rows.Entry.Entry}
use Rattle.worker_journals.proofs.JournalLemmas.{lawful_after}
use Rattle.worker_journals.specs.Journals.{JournalView, IsOfScript, ComesAfter, IsLawfulJournal, closed_journal, seen, with_commit}
use Rattle.worker_journals.specs.Shown.{ShownLists, nothing_shown, shown_in}
use Rattle.worker_journals.specs.declared.heads.ShortReply.{ShortReply}
use Rattle.worker_journals.specs.inner.Entries.{entry_from, HasHead, shown, IsKept}
use Rattle.worker_journals.specs.inner.HeadLists.{AskedHead, IsHeadOf}
use Rattle.worker_journals.specs.inner.Sides.{SideLists, HasKept, HasReply, SaysReply, reply_from, user_reply, with_shown}
use Rattle.worker_journals.specs.declared.heads.ShortReply.TheVariants as told

part_stays : {X : Type 0} (xs more : List X) (place count : ℕ) → place + count ≤ length xs →
    take count (drop place (xs ++ more)) ≡ take count (drop place xs)
part_stays xs more place count h =
    ap (take count) (drop-append-le place xs more (omega arith))
    ∙ take-append-le count (drop place xs) more (omega (arith, length-drop place xs))

module _ (lists more : ShownLists) where
  reply_stays : (short : ShortReply) → HasReply lists short → SaysReply (with_shown lists more) short (reply_from lists short)
  reply_stays (told.ItemSeen place) h = record {
    within = omega (arith, length-append lists.items more.items, h);
    is = ap item_reply (get_or_append_left lists.items more.items _ place h);
  }
  reply_stays (told.BidsSeen count place) h = record {
    within = (h.0, omega (arith, length-append lists.bids more.bids, h.1));
    is = ap BidsSeen (part_stays lists.bids more.bids place count h.1);
  }
  reply_stays (told.CategorySeen count place) h = record {
    within = (h.0, omega (arith, length-append lists.latest more.latest, h.1));
    is = ap CategorySeen (part_stays lists.latest more.latest place count h.1);
  }
  reply_stays (told.UserSeen place) h = record {
    within = omega (arith, length-append lists.users more.users, h);
    is = ap user_reply (get_or_append_left lists.users more.users _ place h);
  }
  reply_stays short h = record { within = tt; is = refl }

-- an entry by the reply of its head
abbrev entry_by : ℕ → ℕ → AskedHead → Reply → Entry
entry_by phase worker head reply =
    record { phase = phase; number = head.head.number; worker = worker; index = head.head.index; request = head.request; reply = reply }

-- the side lists after one commit more, with this at the end of each list
abbrev with_more : SideLists → ShownLists → SideLists
with_more sides more = record { lists = with_shown sides.lists more; left = sides.left - 1 }

-- nothing more at the end of each list
with_nothing : (lists : ShownLists) → with_shown lists nothing_shown ≡ lists
with_nothing lists = λ i. record {
  items = append-nil lists.items i;
  users = append-nil lists.users i;
  bids = append-nil lists.bids i;
  latest = append-nil lists.latest i;
}

-- one commit more keeps something at the end of each list, be it nothing
grown_by : (sides after : SideLists) (reply : Reply) → HasKept sides reply after → (more : ShownLists) × (after ≡ with_more sides more)
grown_by sides after reply kept = elim kept.lists [
  | inl same ↦ (nothing_shown, λ i. record { lists = (same ∙ sym (with_nothing sides.lists)) i; left = kept.left i })
  | inr shown ↦ (shown_in reply, λ i. record { lists = shown i; left = kept.left i })
]

module _ (phase worker : ℕ) (sides : SideLists) (more : ShownLists) where
  abbrev after : SideLists
  after = with_more sides more

  head_stays : (head : AskedHead) → HasHead sides head → HasHead after head × (entry_from phase worker after head ≡ entry_from phase worker sides head)
  head_stays head h =
      let answered = reply_stays sides.lists more head.head.reply h in
      (answered.within, ap (entry_by phase worker head) answered.is)

  heads_stay : (heads : List AskedHead) → AllByRecursion (HasHead sides) heads →
      map (entry_from phase worker after) heads ≡ map (entry_from phase worker sides) heads
  heads_stay [] all = refl
  heads_stay (head ∷ heads) all =
      ap (λ e. e ∷ map (entry_from phase worker after) heads) (head_stays head all.0).1
      ∙ ap (λ es. entry_from phase worker sides head ∷ es) (heads_stay heads all.1)

  -- a head that says the commit, at the end of the heads
  module _ (heads : List AskedHead) (head : AskedHead) (reply : Reply) (capacity : ℕ) (kept : IsKept phase worker heads capacity sides) (some : 0 < sides.left)
      (answered : SaysReply after.lists head.head.reply reply) where
    abbrev said : Entry
    said = entry_by phase worker head reply

    entries_after : map (entry_from phase worker after) (heads ++ head ∷ []) ≡ map (entry_from phase worker sides) heads ++ said ∷ []
    entries_after =
        map-append (entry_from phase worker after) heads (head ∷ [])
        ∙ ap (λ es. es ++ entry_from phase worker after head ∷ []) (heads_stay heads kept.within)
        ∙ ap (λ r. map (entry_from phase worker sides) heads ++ entry_by phase worker head r ∷ []) answered.is

    room_after : length (heads ++ head ∷ []) + after.left ≡ length heads + sides.left
    room_after = omega (arith, length-append heads (head ∷ []))

    pub shown_after : shown phase worker (heads ++ head ∷ []) after ≡ with_commit (shown phase worker heads sides) head.head.number head.head.index head.request reply
    shown_after =
        ap (seen phase worker (length (heads ++ head ∷ []) + after.left)) entries_after
        ∙ ap (λ n. seen phase worker n (map (entry_from phase worker sides) heads ++ said ∷ [])) room_after

    pub kept_after : ComesAfter (map (entry_from phase worker sides) heads) head.head.number → IsKept phase worker (heads ++ head ∷ []) capacity after
    kept_after comes = record {
      lawful = subst IsLawfulJournal (sym shown_after) (lawful_after (shown phase worker heads sides) _ kept.lawful (refl, refl) comes);
      within = all_push (HasHead after) heads head (all-weaker (HasHead sides) (HasHead after) (λ h has. (head_stays h has).0) heads kept.within) answered.within;
      room = omega (arith, kept.room, length-append heads (head ∷ []));
    }

-- the same, of a journal that shows this, and side lists and heads that are equal to these
module _ (phase worker : ℕ) (heads new : List AskedHead) (capacity capacity' : ℕ) (sides sides' : SideLists) (head : AskedHead) (reply : Reply)
    (kept : IsKept phase worker heads capacity sides) (some : 0 < sides.left) (pushed : new ≡ heads ++ head ∷ []) (same : capacity' ≡ capacity)
    (has_kept : HasKept sides reply sides')
    (answered : SaysReply sides'.lists head.head.reply reply) where
  abbrev more' : ShownLists
  more' = (grown_by sides sides' reply has_kept).0

  grown : sides' ≡ with_more sides more'
  grown = (grown_by sides sides' reply has_kept).1

  answered' : SaysReply (with_more sides more').lists head.head.reply reply
  answered' = subst (λ (s : SideLists). SaysReply s.lists head.head.reply reply) grown answered

  pub pushed_shown : (journal : JournalView) → shown phase worker heads sides ≡ journal →
      shown phase worker new sides' ≡ with_commit journal head.head.number head.head.index head.request reply
  pushed_shown journal is =
      ap (λ hs. shown phase worker hs sides') pushed ∙ ap (λ s. shown phase worker (heads ++ head ∷ []) s) grown
      ∙ shown_after phase worker sides more' heads head reply capacity kept some answered'
      ∙ ap (λ j. with_commit j head.head.number head.head.index head.request reply) is

  pub pushed_kept : (journal : JournalView) → shown phase worker heads sides ≡ journal → ComesAfter journal.entries head.head.number →
      IsKept phase worker new capacity' sides'
  pushed_kept journal is comes =
      let after = subst (λ (j : JournalView). ComesAfter j.entries head.head.number) (sym is) comes in
      let here = kept_after phase worker sides more' heads head reply capacity kept some answered' after in
      subst (λ hs. IsKept phase worker hs capacity' sides') (sym pushed)
      (subst (λ n. IsKept phase worker (heads ++ head ∷ []) n sides') (sym same)
      (subst (λ s. IsKept phase worker (heads ++ head ∷ []) capacity s) (sym grown) here))

-- where there is room for more entries than there are, some room is left
pub some_left : (phase worker : ℕ) (heads : List AskedHead) (sides : SideLists) (journal : JournalView) → shown phase worker heads sides ≡ journal →
    length journal.entries < journal.room → 0 < sides.left
some_left phase worker heads sides journal is room =
    let here = subst (λ (j : JournalView). length j.entries < j.room) (sym is) room in
    omega (arith, here, length-map heads (entry_from phase worker sides))

-- the last commit: the heads stay, and no room is left
module _ (phase worker : ℕ) (heads new : List AskedHead) (sides sides' : SideLists) (same : new ≡ heads) (closed : sides' ≡ record sides { left = 0 }) where
  pub closed_shown : (journal : JournalView) → shown phase worker heads sides ≡ journal → shown phase worker new sides' ≡ closed_journal journal
  closed_shown journal is =
      ap (λ hs. shown phase worker hs sides') same
      ∙ ap (shown phase worker heads) closed
      ∙ ap (λ n. seen phase worker n (map (entry_from phase worker sides) heads)) (omega (arith, length-map heads (entry_from phase worker sides)))
      ∙ ap closed_journal is

  pub closed_kept : (capacity capacity' : ℕ) → IsKept phase worker heads capacity sides → IsKept phase worker new capacity' sides'
  closed_kept capacity capacity' kept =
      let here : IsKept phase worker heads capacity' (record sides { left = 0 }) = record {
        lawful = record { own = kept.lawful.own; ascending = kept.lawful.ascending };
        within = kept.within;
        room = omega arith;
      } in
      subst (λ hs. IsKept phase worker hs capacity' sides') (sym same)
      (subst (λ s. IsKept phase worker heads capacity' s) (sym closed) here)

-- entries' requests are those of a script exactly if their heads' are
pub of_script : (phase worker : ℕ) (sides : SideLists) (script : List Request) (heads : List AskedHead) → AllByRecursion (IsOfScript script) (map (entry_from phase worker sides) heads) →
    AllByRecursion (IsHeadOf script) heads
of_script phase worker sides script [] all = tt
of_script phase worker sides script (head ∷ heads) all = (all.0, of_script phase worker sides script heads all.1)
