use Rattle.std.proofs.Common.{arith, ◌≡◌, ◌∙◌, ◌++◌, [], List, ap, append-nil, sym}
use Rattle.std.{proofs.lemmas.Result.{on_ok_weaker}, specs.Prelude.{slice_index_or}}
use Rattle.auction_rows.specs.declared.requests.Request.{Request}
use Rattle.auction_reading.specs.inner.Parcels.{requests_of}
use Rattle.auction_reading.proofs.parcel_joins.add_requests.Goals as goal

pub returns-in-Some : goal.returns-in-Some
returns-in-Some c =
    let scripts = c.args.parcel.now.progress.input.scripts.items in let worker = c.args.worker in
    let there : c.in-Some.requests.now ≡ slice_index_or c.deref.result.now worker [] = rw c.in-Some.is at (c.get.ensures.lookup.4 (omega arith) []) in
    let is : c.in-Some.requests.now ≡ requests_of worker c.args.parcel.now = there ∙ ap (λ (ss : List (List Request)). slice_index_or ss worker []) c.deref.ensures.value in
    on_ok_weaker c.append.result (λ more. more ∙ ap (λ (rs : List Request). c.args.script.now ++ rs) is) c.append.ensures.appended

pub returns-in-None : goal.returns-in-None
returns-in-None c =
    let worker = c.args.worker in
    let none : [] ≡ slice_index_or c.deref.result.now worker [] = rw c.in-None.is at (c.get.ensures.lookup.4 (omega arith) []) in
    let is : [] ≡ requests_of worker c.args.parcel.now = none ∙ ap (λ (ss : List (List Request)). slice_index_or ss worker []) c.deref.ensures.value in
    sym (append-nil c.args.script.now) ∙ ap (λ (rs : List Request). c.args.script.now ++ rs) is
