use Rattle.std.proofs.Common.{rules, refl, ◌≡◌, ◌++◌, ◌∷◌, [], List, sym, ap, ◌∙◌, append_assoc}
use Rattle.std.{proofs.lemmas.List.{append-nil}, specs.Prelude.{option_to_list}}
use Rattle.auction_rows.specs.Choosing.{objects_written}
use Rattle.auction_rows.specs.declared.{requests.Object.Object, rows.Entry.Entry}
use Rattle.hot_choice.{proofs.RunLemmas.{written_more}, specs.inner.Runs.{objects_of}}
use Rattle.hot_choice.proofs.runs.add_objects.Goals as goal

-- an entry that was the first of those that are left is the last of those that were told
one_told : (told left : List Entry) (e : Entry) (rest all : List Entry) → left ≡ e ∷ rest → told ++ left ≡ all → (told ++ e ∷ []) ++ rest ≡ all
one_told told left e rest all first so_far = append_assoc told (e ∷ []) rest ∙ ap (λ (es : List Entry). told ++ es) (sym first) ∙ so_far

pub loop-entry-init : goal.loop-entry-init
loop-entry-init c = record { all = search rules; added = refl }

pub loop-entry-preserved : goal.loop-entry-preserved
loop-entry-preserved c =
    let before = objects_of c.args.runs.now.items in
    let told = c.loop-entry.yielded in record {
      all = one_told told c.loop-entry.entry-iterator c.in-Some.entry c.next.new.self _ c.in-Some.ensures.steps c.loop-entry.invariant.all;
      added = c.in_ok-run.ensures
          ∙ (λ k. c.loop-entry.invariant.added k ++ option_to_list (c.object_written.ensures k))
          ∙ append_assoc before (objects_written told) _
          ∙ ap (λ (os : List Object). before ++ os) (sym (written_more told c.in-Some.entry));
    }

pub returns : goal.returns
returns c =
    let all : c.loop-entry.yielded ≡ c.args.journal.now.entries =
    sym (append-nil c.loop-entry.yielded) ∙ ap (λ (es : List Entry). c.loop-entry.yielded ++ es) (sym c.in-None.ensures.steps.0) ∙ c.loop-entry.invariant.all in
    c.in_ok-end_run.ensures ∙ c.loop-entry.invariant.added ∙ ap (λ es. objects_of c.args.runs.now.items ++ objects_written es) all
