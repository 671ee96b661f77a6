use Rattle.std.proofs.Common.{◌≡◌, ◌∙◌, ◌++◌, ℕ, List, ap, append_assoc, length, map, sym}
use Rattle.std.proofs.lemmas.{List.{length-map}, Result.{on_ok_weaker}}
use Rattle.auction_rows.specs.declared.{requests.Object.Object, replies.Reply.Reply, rows.Entry.Entry}
use Rattle.auction_text.specs.Report.{category_line, counts_text, hot_line, numbered_lines, report_text, user_line}
use Rattle.auction_text.proofs.writing.output.push_report.Goals as goal

-- the parts of a report, each put after those before it
parts_made : (history : List Entry) (hot : List (List Object)) (categories users : List Reply) (phases : ℕ) (text one two three four : List ℕ)
    → phases ≡ length hot → one ≡ text ++ counts_text phases history → two ≡ one ++ numbered_lines hot_line 0 hot
    → three ≡ two ++ numbered_lines category_line 0 categories → four ≡ three ++ numbered_lines user_line 0 users
    → four ≡ text ++ report_text history hot categories users
unfolding report_text
parts_made history hot categories users phases text one two three four count first second third fourth =
    let counts = counts_text (length hot) history in let sets = numbered_lines hot_line 0 hot in
    let seen = numbered_lines category_line 0 categories in
    let last = numbered_lines user_line 0 users in
    let put_one = first ∙ ap (λ n. text ++ counts_text n history) count in
    let put_two = second ∙ ap (λ (made : List ℕ). made ++ sets) put_one ∙ append_assoc text counts sets in
    let put_three = third ∙ ap (λ (made : List ℕ). made ++ seen) put_two ∙ append_assoc text (counts ++ sets) seen in
    fourth ∙ ap (λ (made : List ℕ). made ++ last) put_three ∙ append_assoc text ((counts ++ sets) ++ seen) last

pub returns : goal.returns
returns c =
    let keys = map (λ set. set.keys) c.args.hot.now in let seen = c.args.lines.now in
    on_ok_weaker c.push_user_lines.result (λ users_told.
    parts_made c.args.history.now.entries keys seen.categories.items seen.users.items (length c.args.hot.now) c.args.text.now.items _ _ _ _
    (sym (length-map c.args.hot.now (λ set. set.keys))) c.in_ok-push_counts.ensures c.in_ok-push_hot_lines.ensures
    (c.in_ok-push_category_lines.ensures ∙ ap (λ (replies : List Reply). c.push_hot_lines.new.text.items ++ numbered_lines category_line 0 replies) c.as_slice.ensures.value)
    (users_told ∙ ap (λ (replies : List Reply). c.push_category_lines.new.text.items ++ numbered_lines user_line 0 replies) c.as_slice-2.ensures.value)) c.push_user_lines.ensures
