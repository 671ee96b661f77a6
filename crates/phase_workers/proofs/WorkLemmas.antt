-- What a permit's calls are after one more request.
use Rattle.std.proofs.Common.{◌≡◌, ℕ, zero, suc, ◌+◌, ◌-◌, ◌<◌, ◌≤◌, Bool, true, false, cond, List, [], ◌∷◌, ◌++◌, length, map, take, drop, Some, None, refl, sym, ap, subst, ◌∙◌, append_assoc, arith}
use Rattle.std.proofs.{Math.Seq.{drop-nil}, lemmas.Bool.{false≢true}}
use Rattle.std.proofs.lemmas.List.{append-nil, map-append, length-append, take-append-drop, drop-drop, drop_all}
use Rattle.std.{proofs.lemmas.List.Elements.{filter-append}, specs.List.{filter, AllByRecursion}}
use Rattle.std.specs.Prelude.{Option, Result, Ok, Err, OnOk, IfOk, IfErr, IsErrAnd, slice_get, not, unwrap_or}
use Rattle.auction_rows.specs.{Phases.{is_put_off}, Replies.{row_of}}
use Rattle.auction_rows.specs.declared.{requests.Object.Object, requests.Request.Request, replies.Reply.Reply, rows.Entry.Entry}
use Rattle.item_shards.specs.Writing.{writes_if}
use Rattle.phase_transactions.proofs.{HomeLemmas.{same_objects_of}, LawfulLemmas.{objects-acts}}
use Rattle.phase_transactions.specs.Performing.{HasFailed, IsCause, HasCommitted}
use Rattle.phase_permits.specs.Dealing.{HasFailedFirst, HasDealt, HasPerformedFirstSome}
use Rattle.phase_transactions.specs.Workers.{WorkerState, with_try, with_first_unstashed}
use Rattle.phase_transactions.specs.declared.fault.PermitFault.{PermitFault}
use Rattle.worker_slices.{proofs.StockLemmas.{stocks-acts}, specs.Slicing.{hot_objects, stocks_of}}
use Rattle.phase_permits.proofs.PermitLemmas.{none_put_off}
use Rattle.phase_laws.proofs.ListLemmas.{all-append}
use Rattle.job_threads.proofs.ThreadLemmas.{err_as}
use Rattle.run_laws.specs.Serving.{call_of}
use Rattle.shard_boxes.specs.States.{ShardState}
use Rattle.worker_journals.specs.Journals.{JournalView, commit_in}
use Rattle.phase_workers.specs.Tasks.{task, HasDoneTask}
use Rattle.phase_workers.specs.Working.{calls_from, committed, stashed, taken, still_waiting, hot_for, put_off, not_put_off, IsSamePermit, HasStopped}
use Rattle.phase_workers.specs.inner.Steps.{HasDealtWithNext, HasPerformedWaiting}

pub same : (permit : WorkerState) → IsSamePermit permit permit
same permit = record { boxes = refl; worker = refl; opening = refl; begun = refl; phase = refl; writer = refl; room = refl; hot = refl; stocks = refl; own = λ are. are }

pub same_after : (old mid new : WorkerState) → IsSamePermit old mid → IsSamePermit mid new → IsSamePermit old new
same_after old mid new a b = record {
  boxes = b.boxes ∙ a.boxes;
  worker = b.worker ∙ a.worker;
  opening = b.opening ∙ a.opening;
  begun = b.begun ∙ a.begun;
  phase = b.phase ∙ a.phase;
  writer = b.writer ∙ a.writer;
  room = b.room ∙ a.room;
  hot = b.hot ∙ a.hot;
  stocks = b.stocks ∙ a.stocks;
  own = λ are. b.own (a.own are);
}

tried : (permit : WorkerState) → IsSamePermit permit (with_try permit)
tried permit = record { boxes = refl; worker = refl; opening = refl; begun = refl; phase = refl; writer = refl; room = refl; hot = refl; stocks = refl; own = λ are. are }

called : (permit : WorkerState) → IsSamePermit permit (with_first_unstashed permit)
called permit = record { boxes = refl; worker = refl; opening = refl; begun = refl; phase = refl; writer = refl; room = refl; hot = refl; stocks = refl; own = λ are. are }

-- the entries of a journal are of its phase
abbrev AreOfPhaseIn : JournalView → Type 0
AreOfPhaseIn journal = AllByRecursion (λ e. e.phase ≡ journal.phase) journal.entries

module _ (initial : List ShardState) (old new : WorkerState) (request : Request) (index : ℕ) where
  pub commit_same : (answer : Reply) → HasCommitted initial old new request index answer → IsSamePermit old new
  commit_same answer h = record {
    boxes = h.transacted.put.boxes;
    worker = h.transacted.put.worker;
    opening = ap (λ (d : WorkerState). d.opening) h.worker;
    begun = ap (λ (d : WorkerState). d.begun) h.worker;
    phase = ap (λ (d : WorkerState). d.journal.phase) h.worker;
    writer = ap (λ (d : WorkerState). d.journal.worker) h.worker;
    room = ap (λ (d : WorkerState). d.journal.room) h.worker;
    hot = ap (λ (d : WorkerState). hot_objects d.slices) h.worker ∙ objects-acts old.slices (writes_if (row_of old.journal.worker request answer));
    stocks = ap (λ (d : WorkerState). stocks_of d.slices) h.worker ∙ stocks-acts old.slices (writes_if (row_of old.journal.worker request answer));
    own = λ are. subst (λ (d : WorkerState). AreOfPhaseIn d.journal) (sym h.worker)
        (all-append (λ (e : Entry). e.phase ≡ old.journal.phase) old.journal.entries (commit_in old.journal h.number index request answer ∷ []) are (refl, tt));
  }

  pub commit_calls : (answer : Reply) → HasCommitted initial old new request index answer → committed new ≡ committed old ++ (index, request) ∷ []
  commit_calls answer h = ap (λ (d : WorkerState). map call_of d.journal.entries) h.worker ∙ map-append call_of old.journal.entries _

pub next_same : (initial : List ShardState) (old new : WorkerState) (request : Request) (index : ℕ) (answer : Reply) →
    HasCommitted initial (with_try old) new request index answer → IsSamePermit old new
next_same initial old new request index answer h = same_after old (with_try old) new (tried old) (commit_same initial (with_try old) new request index answer h)

pub first_same : (initial : List ShardState) (old new : WorkerState) (some : Bool) → (some ≡ false → new ≡ with_try old) →
    (some ≡ true → HasPerformedFirstSome initial (with_try old) new) → IsSamePermit old new
first_same initial old new false unchanged done = subst (IsSamePermit old) (sym (unchanged refl)) (tried old)
first_same initial old new true unchanged done =
    let mid : WorkerState = with_first_unstashed (with_try old) in let first = (done refl).1 in
    same_after old (with_try old) new (tried old)
    (same_after (with_try old) mid new (called (with_try old)) (commit_same initial mid new first.request first.index (done refl).0 first.committed))

pub dealt_same : (initial : List ShardState) (old new : WorkerState) (request : Request) (index : ℕ) (still_waiting : Bool) →
    HasDealt initial (with_try old) new request index still_waiting → IsSamePermit old new
dealt_same initial old new request index true (answer, h) = next_same initial old new request index answer h
dealt_same initial old new request index false h = record {
  boxes = ap (λ (d : WorkerState). d.key.boxes) h.worker;
  worker = ap (λ (d : WorkerState). d.key.worker) h.worker;
  opening = ap (λ (d : WorkerState). d.opening) h.worker;
  begun = ap (λ (d : WorkerState). d.begun) h.worker;
  phase = ap (λ (d : WorkerState). d.journal.phase) h.worker;
  writer = ap (λ (d : WorkerState). d.journal.worker) h.worker;
  room = ap (λ (d : WorkerState). d.journal.room) h.worker;
  hot = ap (λ (d : WorkerState). hot_objects d.slices) h.worker;
  stocks = ap (λ (d : WorkerState). stocks_of d.slices) h.worker;
  own = λ are. subst (λ (d : WorkerState). AreOfPhaseIn d.journal) (sym h.worker) are;
}

-- ---- what is put off

-- a call that is not put off is kept
one_kept : (hot : List Object) (call : ℕ × Request) → is_put_off hot call.1 ≡ false → not_put_off hot (call ∷ []) ≡ call ∷ []
one_kept hot call goes = ap (λ b. cond (not b) (call ∷ []) []) goes

none_off : (hot : List Object) (call : ℕ × Request) → is_put_off hot call.1 ≡ false → put_off hot (call ∷ []) ≡ []
none_off hot call goes = ap (λ b. cond b (call ∷ []) []) goes

one_off : (hot : List Object) (call : ℕ × Request) → is_put_off hot call.1 ≡ true → put_off hot (call ∷ []) ≡ call ∷ []
one_off hot call waits = ap (λ b. cond b (call ∷ []) []) waits

none_kept : (hot : List Object) (call : ℕ × Request) → is_put_off hot call.1 ≡ true → not_put_off hot (call ∷ []) ≡ []
none_kept hot call waits = ap (λ b. cond (not b) (call ∷ []) []) waits

-- where nothing is hot nothing is put off
pub cold_kept : (calls : List (ℕ × Request)) → not_put_off [] calls ≡ calls
cold_kept [] = refl
cold_kept (call ∷ calls) =
    ap (λ b. cond (not b) (call ∷ not_put_off [] calls) (not_put_off [] calls)) (none_put_off call.1) ∙ ap (λ cs. call ∷ cs) (cold_kept calls)

pub cold_off : (calls : List (ℕ × Request)) → put_off [] calls ≡ []
cold_off [] = refl
cold_off (call ∷ calls) = ap (λ b. cond b (call ∷ put_off [] calls) (put_off [] calls)) (none_put_off call.1) ∙ cold_off calls

-- where none of them is put off, all are kept
all_kept : (hot : List Object) (calls : List (ℕ × Request)) → put_off hot calls ≡ [] → not_put_off hot calls ≡ calls
all_kept hot [] none = refl
all_kept hot (call ∷ calls) none = at (is_put_off hot call.1) none (λ fewer. all_kept hot calls fewer) where
  at : (b : Bool) → cond b (call ∷ put_off hot calls) (put_off hot calls) ≡ [] → (put_off hot calls ≡ [] → not_put_off hot calls ≡ calls) →
      cond (not b) (call ∷ not_put_off hot calls) (not_put_off hot calls) ≡ call ∷ calls
  at true none others = absurd (let more : length (call ∷ put_off hot calls) ≡ 0 = ap length none in omega (arith, more))
  at false none others = ap (λ cs. call ∷ cs) (others none)

-- ---- one request more

-- what a permit did with the next request of its quota
pub dealt_next : (initial : List ShardState) (old new : WorkerState) (request : Request) (index : ℕ) (still_waiting : Bool) →
    HasDealt initial (with_try old) new request index still_waiting → HasDealtWithNext (index, request) old new
dealt_next initial old new request index true (answer, h) =
    let goes : is_put_off (hot_for old) request ≡ false = ap (λ hot. is_put_off hot request) (sym (same_objects_of old.slices)) ∙ h.transacted.answered.not_put_off in record {
      same = dealt_same initial old new request index true (answer, h);
      calls = commit_calls initial (with_try old) new request index answer h ∙ ap (λ cs. committed old ++ cs) (sym (one_kept (hot_for old) (index, request) goes));
      stash = ap (λ (d : WorkerState). d.stash.requests) h.worker ∙ sym (append-nil (stashed old)) ∙ ap (λ cs. stashed old ++ cs) (sym (none_off (hot_for old) (index, request) goes));
      left = ap (λ (d : WorkerState). d.left) h.worker;
      tries = ap (λ (d : WorkerState). d.tries) h.worker;
    }
dealt_next initial old new request index false h = record {
  same = dealt_same initial old new request index false h;
  calls = ap (λ (d : WorkerState). map call_of d.journal.entries) h.worker ∙ sym (append-nil (committed old)) ∙ ap (λ cs. committed old ++ cs) (sym (none_kept (hot_for old) (index, request) h.put_off));
  stash = ap (λ (d : WorkerState). d.stash.requests) h.worker ∙ ap (λ cs. stashed old ++ cs) (sym (one_off (hot_for old) (index, request) h.put_off));
  left = ap (λ (d : WorkerState). d.left) h.worker;
  tries = ap (λ (d : WorkerState). d.tries) h.worker;
}

-- what a permit did with the request at a place of the script, where the request is found there
module _ (initial : List ShardState) (old mid new : WorkerState) (script : List Request) (place : ℕ) (asked request : Request) (done result : Result Bool PermitFault)
    (at : slice_get script place ≡ Some request) (found : slice_get script place ≡ Some asked) (mid_is : mid ≡ new) (done_is : done ≡ result) where
  same_request : asked ≡ request
  same_request = ap (λ (o : Option Request). unwrap_or o asked) (sym found ∙ at)

  pub dealt_found : (still_waiting : Bool) → done ≡ Ok still_waiting → IfOk result (HasDealt initial (with_try old) new asked place) → HasDealtWithNext (place, request) old mid
  dealt_found still_waiting is dealt =
      subst (λ (w : WorkerState). HasDealtWithNext (place, request) old w) (sym mid_is) (subst (λ (r : Request). HasDealtWithNext (place, r) old new) same_request
      (dealt_next initial old new asked place still_waiting (subst (λ r. IfOk r (HasDealt initial (with_try old) new asked place)) (sym done_is ∙ is) dealt)))

  pub failed_found : (given : Result Unit PermitFault) (fault : PermitFault) → done ≡ Err fault → IsErrAnd given (λ e. e ≡ fault) → IfErr result (HasFailed initial (with_try old) new asked) →
      IfErr given (HasFailed initial (with_try old) mid request)
  failed_found given fault is gives failed =
      subst (λ (w : WorkerState). IfErr given (HasFailed initial (with_try old) w request)) (sym mid_is) (subst (λ (r : Request). IfErr given (HasFailed initial (with_try old) new r)) same_request
      (err_as given fault (HasFailed initial (with_try old) new asked) gives (subst (λ r. IfErr r (HasFailed initial (with_try old) new asked)) (sym done_is ∙ is) failed)))

-- a place of the quota is one of the script
pub within_script : (first place left long : ℕ) → place < left → left ≤ long - first → first + place < long
within_script first place left long less given = omega (arith, less, given)

-- and a request is there
pub request_there : (script : List Request) (place : ℕ) → place < length script → (request : Request) × (slice_get script place ≡ Some request)
request_there [] place less = absurd (omega (arith, less))
request_there (request ∷ script) zero less = (request, refl)
request_there (request ∷ script) (suc place) less = request_there script place (omega (arith, less))

pub some_left : (now place left : ℕ) → now + place ≡ left → place < left → 0 < now
some_left now place left so_far less = omega (arith, so_far, less)

pub try_left : (now old place left most : ℕ) → now ≤ old + place → place < left → old + left ≤ most → now < most
try_left now old place left most so_far less given = omega (arith, so_far, less, given)

pub tries_by : (now old place left : ℕ) → now ≤ old + place → place ≤ left → now ≤ old + left
tries_by now old place left so_far within = omega (arith, so_far, within)

-- one call more of those from an index on, where some of each are kept
pub kept_more : (p : ℕ × Request → Bool) (done so_far now front : List (ℕ × Request)) (next : List (ℕ × Request)) (call : ℕ × Request) →
    now ≡ done ++ filter p (call ∷ []) → done ≡ front ++ filter p so_far → next ≡ so_far ++ call ∷ [] → now ≡ front ++ filter p next
kept_more p done so_far now front next call is was more =
    is ∙ ap (λ xs. xs ++ filter p (call ∷ [])) was ∙ append_assoc front (filter p so_far) (filter p (call ∷ []))
    ∙ ap (λ xs. front ++ xs) (sym (ap (filter p) more ∙ filter-append p so_far (call ∷ [])))

-- ---- the stash, from its front

first_one : (xs : List (ℕ × Request)) (x : ℕ × Request) → slice_get xs 0 ≡ Some x → take 1 xs ≡ x ∷ []
first_one [] x is = absurd (let none : None ≡ Some x = is in cc)
first_one (y ∷ xs) x is = ap (λ (o : Option (ℕ × Request)). unwrap_or o y ∷ []) is

front_more : (k : ℕ) (xs : List (ℕ × Request)) → take k xs ++ take 1 (drop k xs) ≡ take (k + 1) xs
front_more zero xs = refl
front_more (suc k) [] = let e : suc (k + 1) ≡ suc k + 1 = omega arith in ap (λ (m : ℕ). take {A = ℕ × Request} m []) e
front_more (suc k) (x ∷ xs) =
    let e : suc (k + 1) ≡ suc k + 1 = omega arith in
    ap (λ ys. x ∷ ys) (front_more k xs) ∙ ap (λ (m : ℕ). take m (x ∷ xs)) e

here_is : (k : ℕ) (xs : List (ℕ × Request)) (x : ℕ × Request) → slice_get (drop k xs) 0 ≡ Some x → xs ≡ take k xs ++ x ∷ drop (k + 1) xs
here_is k xs x is =
    sym (take-append-drop (k + 1) xs) ∙ ap (λ ys. ys ++ drop (k + 1) xs) (sym (front_more k xs) ∙ ap (λ ys. take k xs ++ ys) (first_one (drop k xs) x is))
    ∙ append_assoc (take k xs) (x ∷ []) (drop (k + 1) xs)

-- those before the one that is reached are so many
reached : (k : ℕ) (xs : List (ℕ × Request)) (x : ℕ × Request) → slice_get (drop k xs) 0 ≡ Some x → length (take k xs) ≡ k
reached zero xs x is = refl
reached (suc k) [] x is = absurd (let none : None ≡ Some x = is in cc)
reached (suc k) (y ∷ xs) x is = ap suc (reached k xs x is)

next_is : (k : ℕ) (xs : List (ℕ × Request)) (x : ℕ × Request) → take (k + 1) xs ≡ take k xs ++ x ∷ [] → xs ≡ take k xs ++ x ∷ drop (k + 1) xs
next_is k xs x is =
    sym (take-append-drop (k + 1) xs) ∙ ap (λ ys. ys ++ drop (k + 1) xs) is ∙ append_assoc (take k xs) (x ∷ []) (drop (k + 1) xs)

-- what a permit did with the request that waited longest
pub first_performed : (initial : List ShardState) (old new : WorkerState) (some : Bool) →
    (some ≡ false → old.stash.requests ≡ []) → (some ≡ false → new ≡ with_try old) → (some ≡ true → HasPerformedFirstSome initial (with_try old) new) →
    HasPerformedWaiting true old new
first_performed initial old new false empty same done =
    let is : new ≡ with_try old = same refl in let none : old.stash.requests ≡ [] = empty refl in
    let tried_once : new.tries ≡ old.tries + 1 = ap (λ (p : WorkerState). p.tries) is in record {
      same = first_same initial old new false same done;
      goes = ap (λ ss. put_off (hot_for old) (take 1 ss)) none;
      calls = ap (λ (p : WorkerState). committed p) is ∙ sym (ap (λ ss. committed old ++ take 1 ss) none ∙ append-nil (committed old));
      stash = ap (λ (p : WorkerState). stashed p) is ∙ none ∙ ap (drop 1) (sym none);
      left = ap (λ (p : WorkerState). p.left) is;
      tries = omega (arith, tried_once);
    }
first_performed initial old new true empty same done =
    let first = (done refl).1 in
    let tried_once : new.tries ≡ old.tries + 1 = ap (λ (d : WorkerState). d.tries) first.committed.worker in
    let one_more : new.left ≡ old.left + 1 - 1 = ap (λ (d : WorkerState). d.left) first.committed.worker in
    let goes : is_put_off (hot_for old) first.request ≡ false = ap (λ hot. is_put_off hot first.request) (sym (same_objects_of old.slices)) ∙ first.committed.transacted.answered.not_put_off in record {
      same = first_same initial old new true same done;
      goes = ap (put_off (hot_for old)) (first_one (stashed old) (first.index, first.request) first.first) ∙ none_off (hot_for old) (first.index, first.request) goes;
      calls = commit_calls initial (with_first_unstashed (with_try old)) new first.request first.index (done refl).0 first.committed
          ∙ ap (λ cs. committed old ++ cs) (sym (first_one (stashed old) (first.index, first.request) first.first));
      stash = ap (λ (d : WorkerState). d.stash.requests) first.committed.worker;
      left = omega (arith, one_more);
      tries = omega (arith, tried_once);
    }

-- one more of the stash is not to be put off
pub stash_goes : (hot now : List Object) (k : ℕ) (ss waits : List (ℕ × Request)) → now ≡ hot → waits ≡ drop k ss →
    put_off hot (take k ss) ≡ [] → put_off now (take 1 waits) ≡ [] → put_off hot (take (k + 1) ss) ≡ []
stash_goes hot now k ss waits same left was goes =
    ap (put_off hot) (sym (front_more k ss)) ∙ filter-append (λ call. is_put_off hot call.1) (take k ss) (take 1 (drop k ss))
    ∙ ap (λ cs. cs ++ put_off hot (take 1 (drop k ss))) was
    ∙ ap (λ h. put_off h (take 1 (drop k ss))) (sym same) ∙ ap (λ cs. put_off now (take 1 cs)) (sym left) ∙ goes

pub stash_more : (k : ℕ) (ss cs old now : List (ℕ × Request)) → now ≡ cs ++ take 1 (drop k ss) → cs ≡ old ++ take k ss → now ≡ old ++ take (k + 1) ss
stash_more k ss cs old now more was =
    more ∙ ap (λ xs. xs ++ take 1 (drop k ss)) was ∙ append_assoc old (take k ss) (take 1 (drop k ss)) ∙ ap (λ xs. old ++ xs) (front_more k ss)

pub stash_less : (k : ℕ) (ss waits now : List (ℕ × Request)) → now ≡ drop 1 waits → waits ≡ drop k ss → now ≡ drop (k + 1) ss
stash_less k ss waits now less was = less ∙ ap (drop 1) was ∙ drop-drop 1 k ss

-- ---- what is taken of the stash

-- where something is taken the phase takes stashes
pub takes_some : (takes : Bool) (permit : WorkerState) (k : ℕ) → k < length (taken takes permit) → takes ≡ true
takes_some true permit k less = refl
takes_some false permit k less = absurd (omega (arith, less))

-- ---- the whole task

-- first the stash is done, and then the quota
pub task_done : (takes : Bool) (script : List Request) (first : ℕ) (old mid new : WorkerState) → IsSamePermit old mid → put_off (hot_for old) (taken takes old) ≡ [] →
    committed mid ≡ committed old ++ taken takes old → stashed mid ≡ still_waiting takes old → mid.left ≡ old.left →
    IsSamePermit mid new → committed new ≡ committed mid ++ not_put_off (hot_for mid) (calls_from first mid.left script) →
    stashed new ≡ stashed mid ++ put_off (hot_for mid) (calls_from first mid.left script) → HasDoneTask takes (task old script first) new
task_done takes script first old mid new same_stash go calls on left same_quota more waits =
    let hot : List Object = hot_for old in
    let own : List (ℕ × Request) = calls_from first old.left script in
    let quota_kept : not_put_off (hot_for mid) (calls_from first mid.left script) ≡ not_put_off hot own =
    ap (λ h. not_put_off h (calls_from first mid.left script)) same_stash.hot ∙ ap (λ n. not_put_off hot (calls_from first n script)) left in
    let quota_off : put_off (hot_for mid) (calls_from first mid.left script) ≡ put_off hot own =
    ap (λ h. put_off h (calls_from first mid.left script)) same_stash.hot ∙ ap (λ n. put_off hot (calls_from first n script)) left in record {
      same = same_after old mid new same_stash same_quota;
      calls = more ∙ ap (λ cs. cs ++ not_put_off (hot_for mid) (calls_from first mid.left script)) calls
          ∙ append_assoc (committed old) (taken takes old) (not_put_off (hot_for mid) (calls_from first mid.left script))
          ∙ ap (λ cs. committed old ++ (taken takes old ++ cs)) quota_kept
          ∙ ap (λ cs. committed old ++ cs)
          (sym (filter-append (λ call. not (is_put_off hot call.1)) (taken takes old) own ∙ ap (λ cs. cs ++ not_put_off hot own) (all_kept hot (taken takes old) go)));
      stash = waits ∙ ap (λ ss. ss ++ put_off (hot_for mid) (calls_from first mid.left script)) on
          ∙ ap (λ cs. still_waiting takes old ++ cs)
          (quota_off ∙ sym (filter-append (λ call. is_put_off hot call.1) (taken takes old) own ∙ ap (λ cs. cs ++ put_off hot own) go));
    }

pub on_ok3 : {A E B C D F : Type 0} (result : Result A E) → OnOk result B → OnOk result C → OnOk result D → (B → C → D → F) → OnOk result F
on_ok3 (Ok a) b c d all = all b c d
on_ok3 (Err e) b c d all = tt

-- ---- faults

failed_same : (initial : List ShardState) (old new : WorkerState) (request : Request) (fault : PermitFault) → HasFailed initial (with_try old) new request fault → IsSamePermit old new
failed_same initial old new request fault h = record {
  boxes = h.lines.boxes;
  worker = h.lines.worker;
  opening = ap (λ (d : WorkerState). d.opening) h.worker;
  begun = ap (λ (d : WorkerState). d.begun) h.worker;
  phase = ap (λ (d : WorkerState). d.journal.phase) h.worker;
  writer = ap (λ (d : WorkerState). d.journal.worker) h.worker;
  room = ap (λ (d : WorkerState). d.journal.room) h.worker;
  hot = ap (λ (d : WorkerState). hot_objects d.slices) h.worker;
  stocks = ap (λ (d : WorkerState). stocks_of d.slices) h.worker;
  own = λ are. subst (λ (d : WorkerState). AreOfPhaseIn d.journal) (sym h.worker) are;
}

module _ (initial : List ShardState) (old mid new : WorkerState) (fault : PermitFault) where
  -- the request that waits longest met a fault
  pub stopped_first : (takes : Bool) (k : ℕ) → takes ≡ true → IsSamePermit old mid → committed mid ≡ committed old ++ take k (taken takes old) → stashed mid ≡ still_waiting takes old ++ drop k (taken takes old) →
      put_off (hot_for old) (take k (taken takes old)) ≡ [] → HasFailedFirst initial (with_try mid) new fault → HasStopped takes initial (taken takes old) old new fault
  stopped_first false k is so_far was waits go met = absurd (false≢true is)
  stopped_first true k is so_far was waits go met =
      let before : List (ℕ × Request) = take k (stashed old) in
      let first : slice_get (drop k (stashed old)) 0 ≡ Some (met.index, met.request) = ap (λ ss. slice_get ss 0) (sym waits) ∙ met.first in record {
        same = same_after old mid new so_far (failed_same initial mid new met.request fault met.failed);
        before = before;
        call = (met.index, met.request);
        left = drop (k + 1) (stashed old);
        calls_are = here_is k (stashed old) (met.index, met.request) first;
        done = ap (λ (d : WorkerState). map call_of d.journal.entries) met.failed.worker ∙ was
            ∙ ap (λ cs. committed old ++ cs) (sym (all_kept (hot_for old) before go));
        waits = ap (λ (d : WorkerState). d.stash.requests) met.failed.worker ∙ waits ∙ ap (λ n. drop n (stashed old)) (sym (reached k (stashed old) (met.index, met.request) first))
            ∙ sym (append-nil (drop (length before) (stashed old)))
            ∙ ap (λ cs. drop (length before) (stashed old) ++ cs) (sym go);
        cause = subst (λ (d : WorkerState). IsCause initial d new.key met.request fault) (sym met.failed.worker) met.failed.cause;
      }

  -- the next request of the quota met a fault
  pub stopped_next : (k : ℕ) (calls : List (ℕ × Request)) (call : ℕ × Request) → take (k + 1) calls ≡ take k calls ++ call ∷ [] → IsSamePermit old mid →
      committed mid ≡ committed old ++ not_put_off (hot_for old) (take k calls) → stashed mid ≡ stashed old ++ put_off (hot_for old) (take k calls) →
      HasFailed initial (with_try mid) new call.1 fault → HasStopped false initial calls old new fault
  stopped_next k calls call next so_far was waits failed = record {
    same = same_after old mid new so_far (failed_same initial mid new call.1 fault failed);
    before = take k calls;
    call = call;
    left = drop (k + 1) calls;
    calls_are = next_is k calls call next;
    done = ap (λ (d : WorkerState). map call_of d.journal.entries) failed.worker ∙ was;
    waits = ap (λ (d : WorkerState). d.stash.requests) failed.worker ∙ waits
        ∙ sym (ap (λ cs. stashed old ++ cs ++ put_off (hot_for old) (take k calls)) (drop-nil (length (take k calls)))
        ∙ ap (λ cs. cs ++ put_off (hot_for old) (take k calls)) (append-nil (stashed old)));
    cause = subst (λ (d : WorkerState). IsCause initial d new.key call.1 fault) (sym failed.worker) failed.cause;
  }

  -- it stopped in its stash, before the quota
  pub stopped_early : (takes : Bool) (calls more : List (ℕ × Request)) → HasStopped takes initial calls old new fault → HasStopped takes initial (calls ++ more) old new fault
  stopped_early takes calls more met = record {
    same = met.same;
    before = met.before;
    call = met.call;
    left = met.left ++ more;
    calls_are = ap (λ cs. cs ++ more) met.calls_are ∙ append_assoc met.before (met.call ∷ met.left) more;
    done = met.done;
    waits = met.waits;
    cause = met.cause;
  }

  -- it stopped in its quota, once the stash was done
  pub stopped_late : (takes : Bool) (calls own : List (ℕ × Request)) → put_off (hot_for old) (taken takes old) ≡ [] → committed mid ≡ committed old ++ taken takes old →
      stashed mid ≡ still_waiting takes old → IsSamePermit old mid → calls ≡ own → HasStopped false initial calls mid new fault →
      HasStopped takes initial (taken takes old ++ own) old new fault
  stopped_late takes calls own go was on so_far as_given met =
      let hot = so_far.hot in let stash : List (ℕ × Request) = taken takes old in
      let rest : List (ℕ × Request) = still_waiting takes old in
      let still_waiting : not_put_off (hot_for old) (stash ++ met.before) ≡ stash ++ not_put_off (hot_for old) met.before =
      filter-append (λ call. not (is_put_off (hot_for old) call.1)) stash met.before ∙ ap (λ cs. cs ++ not_put_off (hot_for old) met.before) (all_kept (hot_for old) stash go) in
      let off : put_off (hot_for old) (stash ++ met.before) ≡ put_off (hot_for old) met.before =
      filter-append (λ call. is_put_off (hot_for old) call.1) stash met.before ∙ ap (λ cs. cs ++ put_off (hot_for old) met.before) go in
      let longer : length (stash ++ met.before) ≡ length stash + length met.before = length-append stash met.before in record {
        same = same_after old mid new so_far met.same;
        before = stash ++ met.before;
        call = met.call;
        left = met.left;
        calls_are = ap (λ cs. stash ++ cs) (sym as_given ∙ met.calls_are) ∙ sym (append_assoc stash met.before (met.call ∷ met.left));
        done = met.done ∙ ap (λ h. committed mid ++ not_put_off h met.before) hot ∙ ap (λ cs. cs ++ not_put_off (hot_for old) met.before) was
            ∙ append_assoc (committed old) stash (not_put_off (hot_for old) met.before) ∙ ap (λ cs. committed old ++ cs) (sym still_waiting);
        waits = met.waits ∙ ap (λ cs. stashed mid ++ cs ++ put_off (hot_for mid) met.before) (drop-nil (length met.before))
            ∙ ap (λ cs. cs ++ put_off (hot_for mid) met.before) (append-nil (stashed mid) ∙ on) ∙ ap (λ h. rest ++ put_off h met.before) hot
            ∙ ap (λ cs. rest ++ cs) (sym off) ∙ ap (λ cs. cs ++ put_off (hot_for old) (stash ++ met.before)) (sym (append-nil rest))
            ∙ ap (λ cs. rest ++ cs ++ put_off (hot_for old) (stash ++ met.before)) (sym (drop_all (length (stash ++ met.before)) stash (omega (arith, longer))));
        cause = met.cause;
      }
