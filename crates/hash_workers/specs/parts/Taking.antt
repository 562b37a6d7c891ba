-- The jobs that several workers took: a list for each worker, in its order. Workers, jobs and the indices of a list are counted
-- from 0 (this project's choice). That each job is taken once is said of these lists joined, as of draws (`HandsOutEach`).
use Rattle.std.specs.Prelude.{◌≡◌, ℕ, ◌<◌, List, slice_get, Option, Some, option_and_then}

-- The job that a worker took at this index.
abbrev pub job_at : List (List ℕ) → ℕ → ℕ → Option ℕ
job_at takings worker index = option_and_then (λ taken. slice_get taken index) (slice_get takings worker)

-- The worker took this job at this index.
abbrev pub Took : List (List ℕ) → ℕ → ℕ → ℕ → Type 0
Took takings worker index job = job_at takings worker index ≡ Some job

-- Some worker took this job.
pub record IsTaken (takings : List (List ℕ)) (job : ℕ) : Type 0 where
  pub worker : ℕ
  pub index : ℕ
  pub took : Took takings worker index job

-- The numbers of a list rise.
pub record NumbersRise (taken : List ℕ) : Type 0 where
  pub each : (first second earlier later : ℕ) → first < second → slice_get taken first ≡ Some earlier
      → slice_get taken second ≡ Some later → earlier < later

-- Each worker's jobs rise.
pub record NumbersRiseForEach (takings : List (List ℕ)) : Type 0 where
  pub each : (worker first second earlier later : ℕ) → first < second
      → Took takings worker first earlier → Took takings worker second later → earlier < later
