use Rattle.std.proofs.lemmas.Result.{IfErr-weaker, on_ok_weaker}
use Rattle.record_reading.proofs.BufferLemmas.{known_all}
use Rattle.auction_reading.proofs.scripts.read_rest.Goals as goal

pub returns-clause-input : goal.returns-clause-input
returns-clause-input g c =
    let fr = c.from_reader-records.ensures in
    on_ok_weaker c.read_all.result (λ read. known_all (g.R.Read.remaining c.args.reader) (λ left e bytes.
    read bytes left (record { source = rw e at fr.source; begins = fr.state }))) c.read_all.ensures.input

pub returns-clause-fault : goal.returns-clause-fault
returns-clause-fault g c =
    let fr = c.from_reader-records.ensures in
    IfErr-weaker c.read_all.result _ _ (λ fault read input. known_all (g.R.Read.remaining c.args.reader) (λ left e bytes.
    read input bytes left (record { source = rw e at fr.source; begins = fr.state }))) c.read_all.ensures.fault
