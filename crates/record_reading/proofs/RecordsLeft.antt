-- The records that are left of a text, after some were read.
use Rattle.std.proofs.Common.{◌≡◌, ◌<◌, ◌≤◌, ◌+◌, ◌∷◌, ◌∙◌, ℕ, zero, suc, Bool, true, false, List, [], Option, Some, None, length, refl, arith, if◌then◌else◌, ◌==◌, ◌&&◌}
use Rattle.csv.proofs.ReadFacts.{rows-end, rows-more}
use Rattle.csv.specs.Machine.{Read, ends_at_end, field_after, fields_after, is_end, next_record, step, ends_with, after_end, in_field, start_field, start_record, is_byte}
use Rattle.csv.specs.Reading.{ReadRecord, Reached, records, records_from, source_of, default_config}
use Rattle.csv.specs.declared.parser.{Action.{Action}, Config.{Config}, State.{State}}
use Rattle.csv.specs.declared.{parser.Terminator.{Terminator}, reader.Reader.{Reader}}
use Rattle.csv.specs.declared.parser.State.TheVariants as st
use Rattle.csv.specs.declared.parser.Terminator.TheVariants as term
use Rattle.record_reading.specs.inner.RecordsLeft.{Left}

-- a choice between two steps has what both have
both : (b : Bool) (x y : State × Action) (P : State × Action → Type 0) → P x → P y → P (if b then x else y)
both true x y P p q = p
both false x y P p q = q

-- a step that ends a record stops between records
abbrev StopsBetween : State × Action → Type 0
StopsBetween p = is_end p.1 ≡ true → ends_at_end p.0 ≡ false

false_true : {A : Type 0} → false ≡ true → A
false_true e = absurd (cc e)

if_state : (b : Bool) (x y : State) → ends_at_end x ≡ false → ends_at_end y ≡ false → ends_at_end (if b then x else y) ≡ false
if_state true x y p q = p
if_state false x y p q = q

between_end : (t : Terminator) (c : ℕ) → ends_at_end (after_end t c) ≡ false
between_end term.CRLF c = if_state (c == 13) st.AfterCr st.StartRecord refl refl
between_end (term.Any t) c = refl

between_in_field : (cfg : Config) (c : ℕ) → StopsBetween (in_field cfg c)
between_in_field cfg c =
    both (c == cfg.delimiter) _ _ StopsBetween (λ e. false_true e)
    (both (ends_with cfg.terminator c) _ _ StopsBetween (λ e. between_end cfg.terminator c) (λ e. false_true e))

between_start_field : (cfg : Config) (c : ℕ) → StopsBetween (start_field cfg c)
between_start_field cfg c = both (cfg.quoting && (c == cfg.quote)) _ _ StopsBetween (λ e. false_true e) (between_in_field cfg c)

between_start_record : (cfg : Config) (c : ℕ) → StopsBetween (start_record cfg c)
between_start_record cfg c =
    both (ends_with cfg.terminator c) _ _ StopsBetween (λ e. false_true e)
    (both (is_byte cfg.comment c) _ _ StopsBetween (λ e. false_true e) (between_start_field cfg c))

between : (cfg : Config) (s : State) (c : ℕ) → StopsBetween (step cfg s c)
between cfg st.StartRecord c = between_start_record cfg c
between cfg st.StartField c = between_start_field cfg c
between cfg st.InField c = between_in_field cfg c
between cfg st.InQuoted c =
    both (cfg.quoting && (c == cfg.quote)) _ _ StopsBetween (λ e. false_true e)
    (both (cfg.quoting && is_byte cfg.escape c) _ _ StopsBetween (λ e. false_true e) (λ e. false_true e))
between cfg st.InEscape c = λ e. false_true e
between cfg st.AfterQuote c = both (cfg.quoting && cfg.double_quote && (c == cfg.quote)) _ _ StopsBetween (λ e. false_true e) (between_in_field cfg c)
between cfg st.InComment c = both (c == 10) _ _ StopsBetween (λ e. false_true e) (λ e. false_true e)
between cfg st.AfterCr c = both (c == 10) _ _ StopsBetween (λ e. false_true e) (between_start_record cfg c)

-- what a record that was read leaves: a state between records, and no more bytes than there were
abbrev Leaves : ℕ → Read → Type 0
Leaves size p = (ends_at_end p.1 ≡ false) × (length p.2 ≤ size)

-- the record that a step ends, or else the one that is read on
abbrev either_read : Bool → Read → Option Read → Option Read
either_read b p o = if b then Some p else o

leaves_either : (b : Bool) (q p : Read) (o : Option Read) (size : ℕ) → (b ≡ true → Leaves size q) → (o ≡ Some p → Leaves size p) → either_read b q o ≡ Some p → Leaves size p
leaves_either true q p o size h g e = let same : q ≡ p = cc in rw (← same) (h refl)
leaves_either false q p o size h g e = g e

leaves_end : (b : Bool) (fields : List (List ℕ)) (p : Read) → (if b then Some (fields, st.StartRecord, []) else None) ≡ Some p → Leaves 0 p
leaves_end true fields p e = let same : (fields, st.StartRecord, []) ≡ p = cc in rw (← same) (refl, omega arith)
leaves_end false fields p e = absurd (cc e)

leaves : (cfg : Config) (s : State) (fields : List (List ℕ)) (field xs : List ℕ) (p : Read) → next_record cfg s fields field xs ≡ Some p → Leaves (length xs) p
unfolding next_record
leaves cfg s fields field [] p e = leaves_end (ends_at_end s) _ p e
leaves cfg s fields field (c ∷ xs) p e =
    leaves_either (is_end (step cfg s c).1) _ p _ (suc (length xs))
    (λ h. (between cfg s c h, omega arith))
    (λ h. let l = leaves cfg (step cfg s c).0 (fields_after (step cfg s c).1 fields field) (field_after (step cfg s c).1 c field) xs p h in (l.0, omega (arith, l.1))) e

-- a record that was read from between records takes a byte at least
pub shorter : (cfg : Config) (s : State) (xs : List ℕ) (p : Read) → ends_at_end s ≡ false → next_record cfg s [] [] xs ≡ Some p
    → (ends_at_end p.1 ≡ false) × (length p.2 < length xs)
unfolding next_record
shorter cfg s [] p b e = absurd (cc (rw b at e))
shorter cfg s (c ∷ xs) p b e =
    let l : Leaves (length xs) p = leaves_either (is_end (step cfg s c).1) _ p _ (length xs) (λ h. (between cfg s c h, omega arith)) (λ h. leaves cfg _ _ _ xs p h) e in
    (l.0, omega (arith, l.1))

more_from : (turns : ℕ) (s s2 : State) (y z : List ℕ) (f : List (List ℕ)) → length y < turns → ends_at_end s ≡ false → next_record default_config s [] [] y ≡ Some (f, s2, z)
    → (more : List (List (List ℕ))) × (records_from default_config turns s y ≡ f ∷ more) × Left s2 z more
unfolding records_from
more_from zero s s2 y z f enough b e = absurd (omega arith)
more_from (suc turns) s s2 y z f enough b e =
    let short = shorter default_config s y (f, s2, z) b e in
    (records_from default_config turns s2 z, rw e refl, record { turns = turns; enough = omega (arith, short.1); between = short.0; are = refl })

-- a record that is read is the first of those that are left
pub left_more : (s s2 : State) (y z : List ℕ) (f : List (List ℕ)) (rows : List (List (List ℕ))) → Left s y rows → next_record default_config s [] [] y ≡ Some (f, s2, z)
    → (more : List (List (List ℕ))) × (rows ≡ f ∷ more) × Left s2 z more
left_more s s2 y z f rows left e =
    let m = more_from left.turns s s2 y z f left.enough left.between e in
    (m.0, left.are ∙ m.1, m.2)

none_from : (turns : ℕ) (s : State) (y : List ℕ) → next_record default_config s [] [] y ≡ None → records_from default_config turns s y ≡ []
unfolding records_from
none_from zero s y e = refl
none_from (suc turns) s y e = rw e refl

-- where no record is read, none is left
pub left_none : (s : State) (y : List ℕ) (rows : List (List (List ℕ))) → Left s y rows → next_record default_config s [] [] y ≡ None → rows ≡ []
left_none s y rows left e = left.are ∙ none_from left.turns s y e

-- at the start every record is left
pub left_all : (bytes : List ℕ) → Left st.StartRecord bytes (records default_config bytes)
left_all bytes = record { turns = length bytes + 1; enough = omega arith; between = refl; are = refl }

same_read : (o : Option Read) (p : Read) (f : List (List ℕ)) (s : State) (z : List ℕ) → o ≡ Some p → f ≡ p.0 → p.1 ≡ s → p.2 ≡ z → o ≡ Some (f, s, z)
same_read o p f s z e fields state rest = rw (fields, ← state, ← rest) e

-- what one read of a reader does to the records that are left
pub read_more : {R : Type 0} (rem : R → Option (List ℕ)) (a b : Reader R) (f : List (List ℕ)) (y : List ℕ) (rows : List (List (List ℕ)))
    → a.config ≡ default_config → source_of rem a ≡ Some y → Left a.state y rows → ReadRecord rem a b true f
    → (z : List ℕ) × (source_of rem b ≡ Some z) × (more : List (List (List ℕ))) × (rows ≡ f ∷ more) × Left b.state z more
unfolding Reached
read_more rem a b f y rows config source left read =
    let (z, at, reached) = rows-more rem a b f default_config a.state y y [] config source (refl, refl) read in
    let (p, e, fields, rest) = reached in
    let here : next_record default_config a.state [] [] y ≡ Some (f, b.state, z) = same_read _ p f b.state z e fields rest.0 rest.1 in
    let m = left_more a.state b.state y z f rows left here in
    (z, at, m.0, m.1, m.2)

-- a read that finds no record leaves none
pub read_end : {R : Type 0} (rem : R → Option (List ℕ)) (a b : Reader R) (f : List (List ℕ)) (y : List ℕ) (rows : List (List (List ℕ)))
    → a.config ≡ default_config → source_of rem a ≡ Some y → Left a.state y rows → ReadRecord rem a b false f → rows ≡ []
read_end rem a b f y rows config source left read = left_none a.state y rows left (rows-end rem a b f default_config y config source read)
