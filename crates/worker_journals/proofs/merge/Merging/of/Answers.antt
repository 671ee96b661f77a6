use Rattle.std.proofs.Common.{◌≡◌, ◌∙◌, arith, ap, sym, length, map, take, refl}
use Rattle.std.proofs.Math.Seq.{take-length}
use Rattle.worker_journals.{proofs.StepLemmas.{left_all}, specs.Merged.{merged}}
use Rattle.worker_journals.specs.inner.Places.{first_number}
use Rattle.worker_journals.proofs.merge.Merging.of.Goals as goal

pub invariant_of-result : goal.invariant_of-result
invariant_of-result c =
    let journals = c.args.journals.now in
    let end : c.loop-worker.worker ≡ length journals = omega (arith, c.loop-worker-test.false, c.loop-worker.auto.worker-end) in
    record {
      by_worker = c.requires.by_worker;
      lawful = c.requires.lawful;
      few = c.requires.few;
      each_place = refl;
      each_number = c.loop-worker.invariant.room;
      are_next = ap (λ n. take n c.loop-worker.numbers) (sym end) ∙ c.loop-worker.invariant.numbers
          ∙ ap (λ n. map first_number (take n journals)) end ∙ ap (map first_number) (take-length journals)
          ∙ ap (map first_number) (sym (left_all journals 16));
    }

pub returns : goal.returns
returns c = ap merged (left_all c.args.journals.now 16)
