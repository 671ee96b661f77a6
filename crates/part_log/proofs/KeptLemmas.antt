-- What a log has accepted of its file, as the file is cut or added to.
use Rattle.std.proofs.Common.{◌≡◌, ◌∙◌, ◌+◌, ◌++◌, ◌==◌, ◌≤◌, ◌<◌, ◌∷◌, ℕ, zero, suc, Bool, true, false, List, [], Option, None, Some, IfSome, ap, arith, drop, le_of_eq, length, length-append, length-drop, refl, subst, sym, take}
use Rattle.std.proofs.lemmas.Bool.{eq-eqb, eqb-true, ne_eqb}
use Rattle.std.proofs.lemmas.List.{length-take-le, take-append-le, take-take, take_all}
use Rattle.std.specs.{Io.KnownBytes.{append_known, Appends}, Option.{option_map}}
use Rattle.part_log.specs.Files.{HoldsSoMany, IsKeptIn, IsReadAt}

pub cut_twice : (kept : ℕ) (known : Option (List ℕ)) → option_map (take kept) (option_map (take kept) known) ≡ option_map (take kept) known
cut_twice kept None = refl
cut_twice kept (Some bytes) = ap Some (take-take kept kept bytes (omega arith))

pub cut_holds : (held : Option (List ℕ)) (kept : ℕ) (ended : Bool) → HoldsSoMany held kept → IsKeptIn (option_map (take kept) held) kept ended
cut_holds None kept ended many = (tt, λ goes_on. tt)
cut_holds (Some bytes) kept ended many = let long = length-take-le kept bytes many in (le_of_eq (sym long), λ goes_on. long)

grown_holds : (held : Option (List ℕ)) (kept : ℕ) (bytes : List ℕ) → HoldsSoMany held kept → HoldsSoMany (append_known held bytes) kept
grown_holds None kept bytes many = tt
grown_holds (Some known) kept bytes many = omega (arith, many, length-append known bytes)

grown_cut : (held : Option (List ℕ)) (kept : ℕ) (bytes : List ℕ) → HoldsSoMany held kept → option_map (take kept) (append_known held bytes) ≡ option_map (take kept) held
grown_cut None kept bytes many = refl
grown_cut (Some known) kept bytes many = ap Some (take-append-le kept known bytes many)

module _ (held synced new_held new_synced : Option (List ℕ)) (kept : ℕ) (ended : Bool)
    (is : IsKeptIn held kept ended) (same : option_map (take kept) held ≡ option_map (take kept) synced) where
  -- cut to what was accepted, it holds just this
  pub cut_kept : new_held ≡ option_map (take kept) held → new_synced ≡ option_map (take kept) synced → IsKeptIn new_held kept ended × (option_map (take kept) new_held ≡ option_map (take kept) new_synced)
  cut_kept cut cut_synced =
      (subst (λ h. IsKeptIn h kept ended) (sym cut) (cut_holds held kept ended is.0), ap (option_map (take kept)) (cut ∙ same ∙ sym cut_synced))

  pub cut_found : new_held ≡ option_map (take kept) held → new_synced ≡ option_map (take kept) synced → new_held ≡ option_map (take kept) new_synced
  cut_found cut cut_synced = cut ∙ same ∙ sym (cut_twice kept synced) ∙ ap (option_map (take kept)) (sym cut_synced)

  -- not cut, it is as it was
  pub not_cut : new_held ≡ held → new_synced ≡ synced → IsKeptIn new_held kept ended × (option_map (take kept) new_held ≡ option_map (take kept) new_synced)
  not_cut stays stays_synced =
      (subst (λ h. IsKeptIn h kept ended) (sym stays) is, ap (option_map (take kept)) stays ∙ same ∙ ap (option_map (take kept)) (sym stays_synced))

  -- with bytes at its end that are not accepted, it holds what was
  pub grown : (bytes : List ℕ) → new_held ≡ append_known held bytes → new_synced ≡ synced → HoldsSoMany new_held kept × (option_map (take kept) new_held ≡ option_map (take kept) new_synced)
  grown bytes more stays_synced = (
    subst (λ h. HoldsSoMany h kept) (sym more) (grown_holds held kept bytes is.0),
    ap (option_map (take kept)) more ∙ grown_cut held kept bytes is.0 ∙ same ∙ ap (option_map (take kept)) (sym stays_synced),
  )

whole_appended : (known bytes : List ℕ) (kept : ℕ) → length known ≡ kept → take (kept + length bytes) (known ++ bytes) ≡ take kept known ++ bytes
whole_appended known bytes kept whole =
    take_all (kept + length bytes) (known ++ bytes) (omega (arith, length-append known bytes)) ∙ ap (λ l. l ++ bytes) (sym (take_all kept known (omega (arith, whole))))

grown_whole : (held : Option (List ℕ)) (kept : ℕ) (bytes : List ℕ) → IsKeptIn held kept false
    → Appends (option_map (take kept) held) (option_map (take (kept + length bytes)) (append_known held bytes)) bytes
grown_whole None kept bytes is = tt
grown_whole (Some known) kept bytes is = whole_appended known bytes kept (is.1 refl)

-- with bytes at its end that the disk keeps, all that it holds is accepted
pub accepted_more : (held synced new_held new_synced : Option (List ℕ)) (kept : ℕ) (bytes : List ℕ)
    → IsKeptIn held kept false → option_map (take kept) held ≡ option_map (take kept) synced → new_held ≡ append_known held bytes → new_synced ≡ new_held
    → Appends (option_map (take kept) synced) (option_map (take (kept + length bytes)) new_synced) bytes
accepted_more held synced new_held new_synced kept bytes is same more kept_too =
    subst (λ known. Appends (option_map (take kept) synced) (option_map (take (kept + length bytes)) known) bytes) (sym (kept_too ∙ more))
    (subst (λ known. Appends known (option_map (take (kept + length bytes)) (append_known held bytes)) bytes) same (grown_whole held kept bytes is))

some_rest : (rest read : List ℕ) → 0 < length read → take (length read) rest ≡ read → 0 < length rest
some_rest [] [] some is = absurd (omega (arith, some))
some_rest [] (byte ∷ read) some is = absurd (cc is)
some_rest (byte ∷ rest) read some is = omega arith

-- what a read gave is there
pub given_there : (held : Option (List ℕ)) (at given : ℕ) (buffer : List ℕ) → given ≤ length buffer → 0 < given
    → IfSome held (λ bytes. IsReadAt bytes at (take given buffer)) → IfSome held (λ bytes. at < length bytes)
given_there None at given buffer fits some is = tt
given_there (Some bytes) at given buffer fits some is =
    let there = some_rest (drop at bytes) (take given buffer) (omega (arith, length-take-le given buffer fits, some)) is in
    omega (arith, length-drop at bytes, there)

pub all_there : (held : Option (List ℕ)) (count at : ℕ) → count ≤ at + 1 → IfSome held (λ bytes. at < length bytes) → IfSome held (λ bytes. count ≤ length bytes)
all_there None count at next there = tt
all_there (Some bytes) count at next there = omega (arith, next, there)

pub no_bytes_there : (held : Option (List ℕ)) (count : ℕ) → count ≤ 0 → IfSome held (λ bytes. count ≤ length bytes)
no_bytes_there None count few = tt
no_bytes_there (Some bytes) count few = omega (arith, few)

-- with nothing at a place before the last that it should hold, it holds less
pub holds_less : (held : Option (List ℕ)) (count at : ℕ) → at < count → IfSome held (λ bytes. length bytes ≤ at) → IfSome held (λ bytes. false ≡ (length bytes == count))
holds_less None count at before short = tt
holds_less (Some bytes) count at before short = sym (ne_eqb (length bytes) count (λ same. omega (arith, same, before, short)))

-- with all that it should hold, a read behind that tells whether there is more
pub holds_all : (held : Option (List ℕ)) (count given : ℕ) → IfSome held (λ bytes. count ≤ length bytes) → (given ≡ 0 → IfSome held (λ bytes. length bytes ≤ count))
    → (0 < given → IfSome held (λ bytes. count < length bytes)) → IfSome held (λ bytes. (given == 0) ≡ (length bytes == count))
holds_all None count given there end behind = tt
holds_all (Some bytes) count zero there end behind = sym (eq-eqb (length bytes) count (omega (arith, there, end refl)))
holds_all (Some bytes) count (suc given) there end behind = let more = behind (omega arith) in ne_eqb (suc given) 0 (λ is. omega (arith, is)) ∙ sym (ne_eqb (length bytes) count (λ same. omega (arith, same, more)))

-- a file of which it is true that it has so many bytes has them
pub of_length : (held : Option (List ℕ)) (count : ℕ) (same : Bool) → IfSome held (λ bytes. same ≡ (length bytes == count)) → same ≡ true → IfSome held (λ bytes. length bytes ≡ count)
of_length None count same is holds = tt
of_length (Some bytes) count same is holds = eqb-true (length bytes) count (sym is ∙ holds)
