-- What a parse found for the option of an id.
use Rattle.std.proofs.Common.{◌≡◌, ◌∙◌, ◌<◌, ◌≤◌, ℕ, zero, suc, Bool, true, false, cond, not, List, [], ◌∷◌, length, is_some, map, Option, Some, None, refl, sym, ap, subst, inl, inr, true≢false, arith}
use Rattle.std.proofs.lemmas.List.{Elements.{All-get_or}, get_or_default}
use Rattle.std.{proofs.lemmas.Slice.Eq.{bytes_eq-Decides}, specs.Borrow.{Bor}}
use Rattle.std.specs.List.{All, Any, filter, find, slice_index_or}
use Rattle.std.specs.{Prelude.{option_map, pos, slice_get, unwrap_or}, Str.{bytes_eq}}
use Rattle.clap.proofs.{CallerLemmas.{entry_by_id}, SimpleLemmas.{is_false, is_nil}}
use Rattle.clap.proofs.WalkLemmas.{both}
use Rattle.clap.specs.Facts.{AllowsNone, Entry, EntryPasses, HasId, HasIn, HasReading, IsCountArg, IsParsed, MayBeEmpty, PassesArg, args_of, groups_of, least_values, parser_of_value, unwrap_or_range}
use Rattle.clap.specs.{Matches.{matched_of, one_text}, Texts.{items_of}}
use Rattle.clap.specs.Values.{Accepts, read_as, reading_of}
use Rattle.clap.specs.Walk.{Rule, Text, is_empty, rule_of, texts}
use Rattle.clap.specs.declared.builder.action.ArgAction.{TheVariants.{Count, Set}, ArgAction}
use Rattle.clap.specs.declared.builder.{arg.Arg.{Arg}, command.Command.{Command}}
use Rattle.clap.specs.declared.builder.value_parser.{Reading.{Reading}, ValueParser.{ValueParser}}
use Rattle.clap.specs.declared.builder.value_parser.ValueParser.TheVariants.{Signed}
use Rattle.clap.specs.declared.parser.matches.{Found.{Found}, MatchedArg.{MatchedArg}}
use Rattle.program_options.proofs.{Numerals.{number_in_range}, OneRule.{only_one, there_is}}
use Rattle.program_options.specs.Options.{IsNumberIn}

-- the text is one that passed the parser, as the parser reads it
abbrev pub IsRead : ValueParser → Text → Type 0
IsRead parser text = (given : Text) × (text ≡ read_as (reading_of parser) given) × ((b : Bool) × Accepts b parser given)

has_texts : (xs : List (Bor Text)) → 0 < length (texts xs) → 0 < length xs
has_texts [] some = some
has_texts (x ∷ xs) some = omega arith

first_some : (how : Reading) (vs : List (Bor Text)) → 0 < length vs → is_some (option_map (λ s. read_as how s.now) (slice_get vs 0)) ≡ true
first_some how [] some = absurd (omega arith)
first_some how (v ∷ vs) some = refl

has_found : (xs : List Entry) (id : Text) → HasIn xs id → is_some (option_map (λ e. e.1) (find (λ e. bytes_eq e.0.now id) xs)) ≡ true
has_found [] id has = absurd (omega (arith, has.1))
has_found (x ∷ xs) id has = go (has_found xs id) (bytes_eq x.0.now id) refl has.0 has.1 (has.2 x) where
  go : (HasIn xs id → is_some (option_map (λ e. e.1) (find (λ e. bytes_eq e.0.now id) xs)) ≡ true)
      → (b : Bool) → bytes_eq x.0.now id ≡ b → (i : ℕ) → i < length (x ∷ xs) → bytes_eq (slice_index_or (x ∷ xs) i x).0.now id ≡ true
      → is_some (option_map (λ e. e.1) (cond b (Some x) (find (λ e. bytes_eq e.0.now id) xs))) ≡ true
  go before true is i lt hit = refl
  go before false is zero lt hit = absurd (true≢false (sym hit ∙ is))
  go before false is (suc i) lt hit = before (i, omega arith, λ d. subst (λ (e : Entry). bytes_eq e.0.now id ≡ true) (get_or_default xs i x d (omega arith)) hit)

module _ (c : Command) (f : Found) (has : Bool) (parsed : IsParsed c f has) (no_groups : groups_of c ≡ []) (id : Text) (named : id ≡ [] → ⊥)
    (rule : Rule) (one : filter (λ r. bytes_eq r.id id) (map rule_of (args_of c)) ≡ rule ∷ []) where
  abbrev pub parser : ValueParser
  parser = parser_of_value rule.parser

  rule_is : (P : Arg → Type 0) → Any (λ a. (bytes_eq a.id.now id ≡ true) × P a) (args_of c) → (a : Arg) × (rule_of a ≡ rule) × P a
  rule_is P any =
      (any.1, subst (λ x. rule_of x ≡ rule) any.3 (only_one (λ r. bytes_eq r.id id) rule (args_of c) any.0 any.1 one any.2 (subst (λ (x : Arg). bytes_eq x.id.now id ≡ true) (sym any.3) any.4.0)), any.4.1)

  passed : (v : Bor Text) → PassesArg c id v.now → (b : Bool) × Accepts b parser v.now
  passed v any =
      let arg = rule_is (λ a. Accepts a.ignore_case (parser_of_value a.value_parser) v.now) any in
      (arg.0.ignore_case, subst (λ (r : Rule). Accepts arg.0.ignore_case (parser_of_value r.parser) v.now) arg.1 arg.2)

  read : (how : Reading) → HasReading c id how → how ≡ reading_of parser
  read how any =
      let arg = rule_is (λ a. reading_of (parser_of_value a.value_parser) ≡ how) any in
      sym arg.2 ∙ ap (λ (r : Rule). reading_of (parser_of_value r.parser)) arg.1

  no_group : (e : Entry) → e.0.now ≡ id → EntryPasses c e → e.1.is_group ≡ true → ⊥
  no_group e key pass group = elim (pass.3 group) [
    | inl empty ↦ named (sym key ∙ empty)
    | inr some ↦
        let bad : 0 < 0 = rw no_groups at some in
        absurd (omega arith)
  ]

  -- the entry of the id
  entry : (x : MatchedArg) → matched_of f id ≡ Some x → (e : Entry) × (e.1 ≡ x) × (e.0.now ≡ id) × EntryPasses c e
  entry x is =
      let got = entry_by_id (EntryPasses c) f.entries.items id x parsed.values is in
      (got.0, got.1, (bytes_eq-Decides got.0.0.now id).0 got.2, got.3)

  values_pass : (e : Entry) → e.0.now ≡ id → EntryPasses c e → All (λ v. PassesArg c id v.now) e.1.vals.items
  values_pass e key pass = elim pass.0 [
    | inl group ↦ absurd (no_group e key pass group)
    | inr vals ↦ subst (λ (w : Text). All (λ v. PassesArg c w v.now) e.1.vals.items) key vals
  ]

  reads : (e : Entry) → e.0.now ≡ id → EntryPasses c e → HasReading c id e.1.reading
  reads e key pass = elim pass.4 [
    | inl group ↦ absurd (no_group e key pass group)
    | inr how ↦ subst (λ (w : Text). HasReading c w e.1.reading) key how
  ]

  first_read : (how : Reading) (vs : List (Bor Text)) (text : Text) → how ≡ reading_of parser → All (λ v. PassesArg c id v.now) vs
      → option_map (λ s. read_as how s.now) (slice_get vs 0) ≡ Some text → IsRead parser text
  first_read how [] text same all is = absurd cc
  first_read how (v ∷ vs) text same all is =
      let first : read_as how v.now ≡ text = cc in
      (v.now, sym first ∙ ap (λ (h : Reading). read_as h v.now) same, passed v (All-get_or (λ w. PassesArg c id w.now) (v ∷ vs) 0 v (omega arith) all))

  -- a text that was found passed
  pub found_is_read : (text : Text) → one_text f id ≡ Some text → IsRead parser text
  found_is_read text is = go (matched_of f id) refl is where
    go : (o : Option MatchedArg) → matched_of f id ≡ o → one_text f id ≡ Some text → IsRead parser text
    go None none found =
        let bad : None ≡ Some text = rw none at found in
        absurd cc
    go (Some x) some found =
        let e = entry x some in
        let here : option_map (λ s. read_as x.reading s.now) (slice_get x.vals.items 0) ≡ Some text = rw some at found in
        let all = subst (λ (y : MatchedArg). All (λ v. PassesArg c id v.now) y.vals.items) e.1 (values_pass e.0 e.2 e.3) in
        let how = subst (λ (y : MatchedArg). HasReading c id y.reading) e.1 (reads e.0 e.2 e.3) in
        first_read x.reading x.vals.items text (read x.reading how) all here

  simple_fields : (a : Arg) → rule_of a ≡ rule → rule.is_simple ≡ true → (a.default_vals_ifs.items ≡ []) × (is_some a.val_delim ≡ false)
  simple_fields a is simple =
      let first = both (is_empty a.overrides.items) _ (ap (λ (r : Rule). r.is_simple) is ∙ simple) in
      let second = both (is_empty a.default_vals_ifs.items) _ first.1 in
      let third = both (is_empty a.groups.items) _ second.1 in
      let fourth = both (not (is_some a.val_delim)) _ third.1 in
      (is_nil a.default_vals_ifs.items second.0, is_false (is_some a.val_delim) fourth.0)

  -- an option with a usual text has one
  module _ (own : rule.id ≡ id) (simple : rule.is_simple ≡ true) (set : rule.action ≡ Some Set) (least : 1 ≤ (unwrap_or_range rule.range).start_inclusive)
      (usual : 0 < length rule.defaults) where
    has_entry : HasId f id
    has_entry =
        let any = there_is (λ r. bytes_eq r.id id) rule (args_of c) one in
        let a : Arg = slice_index_or (args_of c) any.0 any.1 in
        let is : rule_of a ≡ rule = subst (λ x. rule_of x ≡ rule) (sym any.3) any.4 in
        let texts_left : 0 < length (texts (items_of a.default_vals)) = subst (λ (r : Rule). 0 < length r.defaults) (sym is) usual in
        subst (HasId f) (ap (λ (r : Rule). r.id) is ∙ own)
        (parsed.defaults any.0 any.1 any.2 ((simple_fields a is simple).0, has_texts (items_of a.default_vals) texts_left))

    is_filled : (e : Entry) → e.0.now ≡ id → EntryPasses c e → 0 < length e.1.vals.items
    is_filled e key pass = elim pass.1 [
      | inl group ↦ absurd (no_group e key pass group.0)
      | inr (inl some) ↦ some
      | inr (inr (inl counted)) ↦
          let arg = rule_is (λ a. unwrap_or a.action Set ≡ Count) (subst (IsCountArg c) key counted.1) in
          let bad : Set ≡ Count = sym (ap (λ (r : Rule). unwrap_or r.action Set) arg.1 ∙ ap (λ (o : Option ArgAction). unwrap_or o Set) set) ∙ arg.2 in
          absurd cc
      | inr (inr (inr none)) ↦
          let arg = rule_is MayBeEmpty (subst (AllowsNone c) key none) in
          elim arg.2 [
            | inl zero_values ↦
                let some : 1 ≤ least_values arg.0 = subst (λ (r : Rule). 1 ≤ (unwrap_or_range r.range).start_inclusive) (sym arg.1) least in
                absurd (omega arith)
            | inr cut ↦ absurd (true≢false (sym cut ∙ (simple_fields arg.0 arg.1 simple).1))
          ]
    ]

    text_found : is_some (one_text f id) ≡ true
    text_found = go (matched_of f id) refl where
      go : (o : Option MatchedArg) → matched_of f id ≡ o → is_some (one_text f id) ≡ true
      go None none = absurd (true≢false (sym (has_found f.entries.items id has_entry) ∙ ap (λ o. is_some o) none))
      go (Some x) some =
          let e = entry x some in
          let filled = subst (λ (y : MatchedArg). 0 < length y.vals.items) e.1 (is_filled e.0 e.2 e.3) in
          rw some (first_some x.reading x.vals.items filled)

    -- and it is that of a number, where its parser asks for one
    pub number_found : (low high : ℕ) → rule.parser ≡ Some (Signed (pos low) (pos high)) → IsNumberIn low high (one_text f id)
    number_found low high by = go (one_text f id) refl text_found where
      numeral : (text : Text) → IsRead parser text → IsNumberIn low high (Some text)
      numeral text is =
          let same : parser ≡ Signed (pos low) (pos high) = ap parser_of_value by in
          let as_signed : IsRead (Signed (pos low) (pos high)) text = subst (λ p. IsRead p text) same is in
          subst (λ (t : Text). IsNumberIn low high (Some t)) (sym as_signed.1) (number_in_range low high as_signed.0 as_signed.2.1)

      go : (o : Option Text) → one_text f id ≡ o → is_some (one_text f id) ≡ true → IsNumberIn low high o
      go None none some = absurd (true≢false (sym some ∙ ap (λ o. is_some o) none))
      go (Some text) is some = numeral text (found_is_read text is)
