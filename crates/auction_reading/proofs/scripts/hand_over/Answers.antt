use Rattle.std.proofs.Common.{◌≡◌, ◌∙◌, ◌++◌, List, ℕ, ap, ap₂, append_assoc}
use Rattle.std.{proofs.lemmas.Result.{IfErr-weaker, on_ok_weaker}, specs.Fmt.{option_append}}
use Rattle.auction_reading.proofs.ProgressLemmas.{front, read_up_to_front}
use Rattle.auction_reading.proofs.scripts.hand_over.Goals as goal
use Rattle.record_reading.proofs.BufferLemmas.{known_all}

pub returns-clause-input : goal.returns-clause-input
returns-clause-input g c =
    let progress = c.args.progress.now in let held = c.args.held.now in
    let first = c.front_of-front.result.now in
    on_ok_weaker c.read_rest.result (λ read. known_all (g.R.Read.remaining c.args.reader) (λ left e bytes up_to.
    let both = read_up_to_front c.args.workers bytes progress (held ++ left) up_to in
    let same : (first ++ held) ++ left ≡ front progress.count ++ (held ++ left) = append_assoc first held left ∙ ap (λ (f : List ℕ). f ++ (held ++ left)) c.front_of-front.ensures in
    let known = c.chain-rest.ensures.bytes ∙ ap₂ option_append c.chain.ensures.bytes e in
    (rw known at read) bytes (rw same both.1) (rw same both.0))) c.read_rest.ensures.input

pub returns-clause-fault : goal.returns-clause-fault
returns-clause-fault g c =
    let progress = c.args.progress.now in let held = c.args.held.now in
    let first = c.front_of-front.result.now in
    IfErr-weaker c.read_rest.result _ _ (λ fault read input. known_all (g.R.Read.remaining c.args.reader) (λ left e bytes up_to.
    let both = read_up_to_front c.args.workers bytes progress (held ++ left) up_to in
    let same : (first ++ held) ++ left ≡ front progress.count ++ (held ++ left) = append_assoc first held left ∙ ap (λ (f : List ℕ). f ++ (held ++ left)) c.front_of-front.ensures in
    let known = c.chain-rest.ensures.bytes ∙ ap₂ option_append c.chain.ensures.bytes e in
    (rw known at (read input)) bytes (rw same both.1) (rw same both.0))) c.read_rest.ensures.fault
