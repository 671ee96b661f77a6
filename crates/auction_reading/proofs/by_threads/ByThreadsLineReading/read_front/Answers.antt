use Rattle.std.proofs.Common.{arith, ◌≡◌, ◌∙◌, ap, length, subst, sym}
use Rattle.std.proofs.lemmas.{List.{with_items_is}, Result.{IfOk-weaker}}
use Rattle.auction_reading.specs.inner.Parcels.{AreParcels}
use Rattle.auction_reading.proofs.by_threads.ByThreadsLineReading.read_front.Goals as goal

pub returns : goal.returns
returns g c =
    let text = c.args.text.now in let parcels = c.args.self.now.parcels in
    let now = c.read_parcels.new.parcels in
    let many : length now ≡ length parcels.items = omega (arith, c.read_parcels.auto.parcels, ap length c.deref_mut.ensures.value) in
    let back : c.deref.result.now ≡ now = c.deref.ensures.value ∙ with_items_is parcels now (many ∙ sym parcels.ok.0) in
    let are : AreParcels text c.deref.result.now = subst (AreParcels text) (sym back) c.read_parcels.ensures in
    record {
      within = IfOk-weaker c.join_parcels.result _ _ (λ at within. within text are) c.join_parcels.ensures.within;
      reads = IfOk-weaker c.join_parcels.result _ _ (λ at reads. reads text are) c.join_parcels.ensures.reads;
      fails = c.join_parcels.ensures.fails;
    }
