use Rattle.std.{proofs.Common.{◌≡◌, length, take, drop}, specs.Vec.Iter.{into_iter_items}}
use Rattle.std.specs.Iterator.Adapters.{zip_first, zip_second}
use Rattle.split_engine.specs.{Splitting.{merged_all}, inner.Kept.{AreKept, spread}}
use Rattle.split_engine.proofs.slices.Slices.merge_into.Given as goal

abbrev pub invariant-loop-key : goal.invariant-loop-key
invariant-loop-key g l =
    let rules = g.A.Application.rules in let guesses = l.guesses.items in
    let keys = into_iter_items (zip_first l.initial.key-iterator) in
    let slices = into_iter_items (zip_second l.initial.key-iterator) in let done = length l.yielded in record {
      kept : AreKept guesses keys slices;
      all : spread rules guesses keys slices ≡ l.fn.self;
      keys_left : into_iter_items (zip_first l.key-iterator) ≡ drop done keys;
      slices_left : into_iter_items (zip_second l.key-iterator) ≡ drop done slices;
      size : length l.table.items ≡ length l.fn.table.items;
      merged : l.table.items ≡ merged_all rules l.fn.table.items (spread rules guesses (take done keys) (take done slices));
    }
