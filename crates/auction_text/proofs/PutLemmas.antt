-- Texts that are put one after the other to what waits to be written.
use Rattle.std.proofs.Common.{arith, ◌≡◌, ◌∙◌, ◌+◌, ◌≤◌, min, ℕ, List, [], ◌++◌, Option, Some, Result, Ok, Err, OnOk, IfErr, IsErrAnd, ap, append-nil, append_assoc, length, refl, subst, sym, take}
use Rattle.std.proofs.{KnownBytes.{Appends-nil, Appends-trans}, Math.Seq.{take-append-add}}
use Rattle.std.{proofs.lemmas.List.{take-append-le, take_min}, specs.Io.KnownBytes.{Appends}}
use Rattle.byte_texts.specs.Writing.{IsPartWritten, WritesText}
use Rattle.byte_texts.specs.declared.writing.WriteFault.{TheVariants.{Write}, WriteFault}
use Rattle.auction_text.specs.inner.Putting.{Adds, PutsText}

-- nothing is written
pub adds_waiting : (c : Option (List ℕ)) (waiting left text : List ℕ) → left ≡ waiting ++ text → Adds c waiting c left text
adds_waiting c waiting left text is = record { written = []; appends = Appends-nil c; all = is }

pub adds_nothing : (c : Option (List ℕ)) (waiting : List ℕ) → Adds c waiting c waiting []
adds_nothing c waiting = adds_waiting c waiting waiting [] (sym (append-nil waiting))

-- a part is written at once
pub adds_part : (old new : Option (List ℕ)) (part : List ℕ) → Appends old new part → Adds old [] new [] part
adds_part old new part appends = record { written = part; appends = appends; all = append-nil part }

-- a text that is put in memory, with what is left of it
pub in_memory : (before after none left text : List ℕ) → before ≡ [] → none ≡ [] → Adds (Some before) none (Some after) left text → after ++ left ≡ text
in_memory before after none left text empty nothing adds =
    ap (λ (l : List ℕ). l ++ left) (adds.appends ∙ ap (λ (l : List ℕ). l ++ adds.written) empty) ∙ adds.all ∙ ap (λ (l : List ℕ). l ++ text) nothing

-- a longer text has the parts of its front
pub part_more : (old new : Option (List ℕ)) (text more : List ℕ) → IsPartWritten old new text → IsPartWritten old new (text ++ more)
part_more old new text more part =
    let n = min part.0 (length text) in let within : n ≤ length text = omega arith in
    (n, subst (Appends old new) (sym (take_min part.0 text) ∙ sym (take-append-le n text more within)) part.1)

module _ (old mid new : Option (List ℕ)) (waiting between left one two : List ℕ) (first : Adds old waiting mid between one) where
  pub adds_both : Adds mid between new left two → Adds old waiting new left (one ++ two)
  adds_both second = record {
    written = first.written ++ second.written;
    appends = Appends-trans old mid new first.written second.written first.appends second.appends;
    all = append_assoc first.written second.written left ∙ ap (λ (l : List ℕ). first.written ++ l) second.all
        ∙ sym (append_assoc first.written between two) ∙ ap (λ (l : List ℕ). l ++ two) first.all ∙ append_assoc waiting one two;
  }

  pub part_of_both : IsPartWritten mid new (between ++ two) → IsPartWritten old new (waiting ++ (one ++ two))
  part_of_both part =
      let all : first.written ++ (between ++ two) ≡ waiting ++ (one ++ two) =
      sym (append_assoc first.written between two) ∙ ap (λ (l : List ℕ). l ++ two) first.all ∙ append_assoc waiting one two in (
        length first.written + part.0,
        subst (Appends old new) (sym (take-append-add first.written (between ++ two) part.0) ∙ ap (take (length first.written + part.0)) all)
            (Appends-trans old mid new first.written (take part.0 (between ++ two)) first.appends part.1),
      )

-- of a whole text some is put, and the rest is not yet
pub record IsTold (old : Option (List ℕ)) (waiting : List ℕ) (new : Option (List ℕ)) (left rest all : List ℕ) : Type 0 where
  pub told : List ℕ
  pub adds : Adds old waiting new left told
  pub whole : told ++ rest ≡ all

pub told_none : (c : Option (List ℕ)) (waiting rest all : List ℕ) → rest ≡ all → IsTold c waiting c waiting rest all
told_none c waiting rest all is = record { told = []; adds = adds_nothing c waiting; whole = is }

module _ (old mid new : Option (List ℕ)) (waiting between left rest line more all : List ℕ) (so_far : IsTold old waiting mid between rest all) (next : rest ≡ line ++ more) where
  same_whole : (so_far.told ++ line) ++ more ≡ all
  same_whole = append_assoc so_far.told line more ∙ ap (λ (l : List ℕ). so_far.told ++ l) (sym next) ∙ so_far.whole

  pub told_more : Adds mid between new left line → IsTold old waiting new left more all
  told_more adds = record {
    told = so_far.told ++ line;
    adds = adds_both old mid new waiting between left so_far.told line so_far.adds adds;
    whole = same_whole;
  }

  pub told_part : IsPartWritten mid new (between ++ line) → IsPartWritten old new (waiting ++ all)
  told_part part =
      subst (λ (l : List ℕ). IsPartWritten old new l) (append_assoc waiting (so_far.told ++ line) more ∙ ap (λ (l : List ℕ). waiting ++ l) same_whole)
      (part_more old new (waiting ++ (so_far.told ++ line)) more (part_of_both old mid new waiting between left so_far.told line so_far.adds part))

pub told_all : (old new : Option (List ℕ)) (waiting left rest all : List ℕ) → IsTold old waiting new left rest all → rest ≡ [] → Adds old waiting new left all
told_all old new waiting left rest all so_far none =
    subst (λ (l : List ℕ). Adds old waiting new left l) (sym (append-nil so_far.told) ∙ ap (λ (l : List ℕ). so_far.told ++ l) (sym none) ∙ so_far.whole) so_far.adds

-- where the writer failed, and what it wrote is a part of the text
pub put_failed : {W T : Type 0} (contents : W → Option (List ℕ)) (old new : W) (waiting left text : List ℕ) (result : Result T WriteFault) (fault : WriteFault)
    → IsErrAnd result (λ other. other ≡ fault) → fault ≡ Write → IsPartWritten (contents old) (contents new) (waiting ++ text) → PutsText contents old new waiting left text result
put_failed contents old new waiting left text (Ok x) fault is write part = absurd is
put_failed contents old new waiting left text (Err other) fault is write part = record { whole = tt; part = (is ∙ write, part) }

-- nothing is written where a line cannot be
pub none_put : {W T : Type 0} (contents : W → Option (List ℕ)) (writer : W) (waiting left text : List ℕ) → PutsText {T = T} contents writer writer waiting left text (Err Write)
none_put contents writer waiting left text = record { whole = tt; part = (refl, (0, Appends-nil (contents writer))) }

-- nothing was put
pub nothing_put : {W T : Type 0} (contents : W → Option (List ℕ)) (writer : W) (waiting text : List ℕ) (done : T) → text ≡ []
    → PutsText contents writer writer waiting waiting text (Ok done)
nothing_put contents writer waiting text done none = record {
  whole = adds_waiting (contents writer) waiting waiting text (sym (append-nil waiting) ∙ ap (λ (l : List ℕ). waiting ++ l) (sym none));
  part = tt;
}

-- a text after what was put before it
module _ {W T : Type 0} (contents : W → Option (List ℕ)) (old mid new : W) (waiting between left rest line all : List ℕ)
    (so_far : IsTold (contents old) waiting (contents mid) between rest all) (same : rest ≡ line) where
  pub put_last : (result : Result T WriteFault) → PutsText contents mid new between left line result → PutsText contents old new waiting left all result
  put_last (Ok x) puts = record {
    whole = told_all (contents old) (contents new) waiting left [] all
        (told_more (contents old) (contents mid) (contents new) waiting between left rest line [] all so_far (same ∙ sym (append-nil line)) puts.whole) refl;
    part = tt;
  }
  put_last (Err fault) puts = record {
    whole = tt;
    part = (puts.part.0, told_part (contents old) (contents mid) (contents new) waiting between left rest line [] all so_far (same ∙ sym (append-nil line)) puts.part.1);
  }

-- a line is put where room was made for it
pub line_put : (old mid : Option (List ℕ)) (waiting between left line : List ℕ) → Adds old waiting mid between [] → left ≡ between ++ line → Adds old waiting mid left line
line_put old mid waiting between left line room is = adds_both old mid mid waiting between left [] line room (adds_waiting mid between left line is)

pub part_of_line : (old new : Option (List ℕ)) (waiting line : List ℕ) → IsPartWritten old new (waiting ++ []) → IsPartWritten old new (waiting ++ line)
part_of_line old new waiting line part = part_more old new waiting line (subst (IsPartWritten old new) (append-nil waiting) part)

-- a text of which nothing waited is written: what was left of it is written last
module _ {W T : Type 0} (contents : W → Option (List ℕ)) (old mid new : W) (none left text : List ℕ) (empty : none ≡ []) where
  pub writes_last : (result : Result T WriteFault) → Adds (contents old) none (contents mid) left text → OnOk result (Appends (contents mid) (contents new) left)
      → IfErr result (λ fault. (fault ≡ Write) × IsPartWritten (contents mid) (contents new) left) → WritesText contents old new text result
  writes_last (Ok x) puts whole part =
      let all : puts.written ++ left ≡ text = puts.all ∙ ap (λ (l : List ℕ). l ++ text) empty in
      record { whole = subst (Appends (contents old) (contents new)) all (Appends-trans _ _ _ puts.written left puts.appends whole); part = tt; memory = tt }
  writes_last (Err fault) puts whole part =
      let all : puts.written ++ left ≡ text = puts.all ∙ ap (λ (l : List ℕ). l ++ text) empty in
      let n = part.1.0 in
      let written = subst (Appends (contents old) (contents new)) (sym (take-append-add puts.written left n)) (Appends-trans _ _ _ puts.written (take n left) puts.appends part.1.1) in
      record { whole = tt; part = λ _. (length puts.written + n, subst (λ (l : List ℕ). Appends (contents old) (contents new) (take (length puts.written + n) l)) all written); memory = λ is. absurd (cc (sym part.0 ∙ is)) }

-- or the writer failed before
pub writes_part : {W T : Type 0} (contents : W → Option (List ℕ)) (old new : W) (none text : List ℕ) (result : Result T WriteFault) (fault : WriteFault) → none ≡ []
    → IsErrAnd result (λ other. other ≡ fault) → fault ≡ Write → IsPartWritten (contents old) (contents new) (none ++ text) → WritesText contents old new text result
writes_part contents old new none text (Ok x) fault empty is write part = absurd is
writes_part contents old new none text (Err other) fault empty is write part = record {
  whole = tt;
  part = λ _. subst (λ (l : List ℕ). IsPartWritten (contents old) (contents new) (l ++ text)) empty part;
  memory = λ memory. absurd (cc (sym (is ∙ write) ∙ memory));
}
