-- What a thread's handle tells of its job.
use Rattle.std.specs.declared.thread.PromisedHandle.{PromisedHandle}
use Rattle.job_threads.specs.declared.threads.JobPromise.{JobPromise}

-- the job of a thread
abbrev pub job_of : {T J : Type 0} → PromisedHandle T (JobPromise J) → J
job_of handle = handle.promise.job.value
