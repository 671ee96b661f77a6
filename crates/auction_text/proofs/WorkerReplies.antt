-- The replies of all workers, one worker's after the other's.
use Rattle.std.proofs.Common.{arith, ◌≡◌, ◌<◌, ◌+◌, ◌-◌, ◌∙◌, ℕ, zero, suc, List, [], ◌∷◌, ◌++◌, ap, append-nil, append_assoc, length, refl, sym}
use Rattle.std.{proofs.lemmas.Grind.{flat_map-append}, specs.Global.{Vec}}
use Rattle.std.specs.List.{AllByRecursion, flat_map}
use Rattle.phase_laws.specs.Order.{part}
use Rattle.auction_rows.specs.declared.rows.Entry.{Entry}
use Rattle.worker_journals.specs.Journals.{entry_worker}
use Rattle.auction_text.proofs.PartLemmas.{below, below_all, below_none, in_order_more}
use Rattle.auction_text.{proofs.SortLemmas.{sorted-nil}, specs.Order.{comes_before, in_order}}
use Rattle.auction_text.specs.Replies.{lines, replies_text, reply_line}
use Rattle.auction_text.specs.inner.Workers.{AreEach, replies_of}

-- the replies of so many workers, from one on
abbrev pub replies_from : List Entry → ℕ → ℕ → List ℕ
replies_from es w zero = []
replies_from es w (suc k) = replies_of es w ++ replies_from es (w + 1) k

-- those of the workers before one
abbrev lines_below : ℕ → List Entry → List ℕ
lines_below w es = lines reply_line (in_order (below w es))

one_worker_more : (w : ℕ) (es : List Entry) → lines_below w es ++ replies_of es w ≡ lines_below (w + 1) es
one_worker_more w es =
    sym (flat_map-append reply_line (in_order (below w es)) (in_order (part entry_worker w es))) ∙ ap (lines reply_line) (in_order_more w (w + 1) es refl)

workers_more : (w k : ℕ) (es : List Entry) → lines_below w es ++ replies_from es w k ≡ lines_below (w + k) es
workers_more w zero es = append-nil (lines_below w es) ∙ ap (λ (n : ℕ). lines_below n es) (omega arith)
workers_more w (suc k) es =
    sym (append_assoc (lines_below w es) (replies_of es w) (replies_from es (w + 1) k))
    ∙ ap (λ (l : List ℕ). l ++ replies_from es (w + 1) k) (one_worker_more w es)
    ∙ workers_more (w + 1) k es ∙ ap (λ (n : ℕ). lines_below n es) (omega arith)

-- those of all workers are all replies
pub replies_of_all : (n : ℕ) (es : List Entry) → AllByRecursion (λ entry. entry.worker < n) es → replies_from es 0 n ≡ replies_text es
replies_of_all n es all =
    let none : lines_below 0 es ≡ [] = ap (λ (l : List Entry). lines reply_line (in_order l)) (below_none es) ∙ ap (lines reply_line) (sorted-nil comes_before) in
    ap (λ (l : List ℕ). l ++ replies_from es 0 n) (sym none) ∙ workers_more 0 n es
    ∙ ap (λ (m : ℕ). lines_below m es) (omega arith) ∙ ap (λ (l : List Entry). lines reply_line (in_order l)) (below_all n es all)

pub next_worker : (w n : ℕ) (es : List Entry) → w < n → replies_from es w (n - w) ≡ replies_of es w ++ replies_from es (w + 1) (n - (w + 1))
next_worker w n es less = let one : n - w ≡ suc (n - (w + 1)) = omega (arith, less) in ap (replies_from es w) one

pub no_worker : (w n : ℕ) (es : List Entry) → n - w ≡ 0 → replies_from es w (n - w) ≡ []
no_worker w n es none = ap (replies_from es w) none

texts_from : (es : List Entry) (w : ℕ) (texts : List (Vec ℕ)) → AreEach (λ n. replies_of es (w + n)) texts → flat_map (λ text. text.items) texts ≡ replies_from es w (length texts)
texts_from es w [] each = refl
texts_from es w (t ∷ ts) each =
    let first : t.items ≡ replies_of es w = each 0 t refl ∙ ap (replies_of es) (omega arith) in
    ap (λ (l : List ℕ). l ++ flat_map (λ text. text.items) ts) first
    ∙ ap (λ (l : List ℕ). replies_of es w ++ l) (texts_from es (w + 1) ts (λ n list is. each (suc n) list is ∙ ap (replies_of es) (omega arith)))

-- the texts of all workers, one after the other
pub texts_are_replies : (es : List Entry) (texts : List (Vec ℕ)) → AreEach (replies_of es) texts → AllByRecursion (λ entry. entry.worker < length texts) es
    → flat_map (λ text. text.items) texts ≡ replies_text es
texts_are_replies es texts each all =
    texts_from es 0 texts (λ n list is. each n list is ∙ ap (replies_of es) (omega arith)) ∙ replies_of_all (length texts) es all
