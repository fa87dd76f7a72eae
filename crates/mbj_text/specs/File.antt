-- What a job file spells, where it is bad or too long, and that each file is exactly one of the three.
use Rattle.std.specs.Prelude.{◌≡◌, ◌↔◌, ℕ, List}
use Rattle.mbj_types.specs.declared.job.Job.{Job}
use Rattle.mbj_text.specs.Cut.{Numbered, kept_lines}
use Rattle.mbj_text.specs.Spelling.{Spells, SpellsByName}
use Rattle.mbj_text.specs.Entries.{Entry, keys_in, jobs_in, SpellsEntry, IsBadEntry, IsOverLimit}
use Rattle.mbj_text.specs.Stops.{SpellEach, StopsAt}
use Rattle.mbj_text.specs.Answer.{IsOneOf}

-- ---- session lines and job lines

-- the lines spell the keys of sessions and jobs, each kind in its order
pub record ReadsLines (lines : List Numbered) (keys : List (List ℕ)) (jobs : List Job) : Type 0 where
  pub entries : List Entry
  pub each : SpellEach SpellsEntry lines entries
  pub keys_are : keys_in entries ≡ keys
  pub jobs_are : jobs_in entries ≡ jobs

-- the line with this number is the first bad one, and comes before each job line that is one too many; the field is its
-- fault
abbrev pub BadLines : List Numbered → ℕ → ℕ → Type 0
BadLines lines line field = StopsAt SpellsEntry (λ before text. IsBadEntry before text field) lines line

-- the lines before the one with this number are good, and it is one job line more than JOB_LIMIT, whatever it says
abbrev pub OverLines : List Numbered → ℕ → Type 0
OverLines lines line = StopsAt SpellsEntry IsOverLimit lines line

-- ---- the three relations: each line of a job file that isn't skipped is a session line or a job line

-- the file has at most MAX_SESSIONS session lines, which spell the keys, and at most JOB_LIMIT job lines, which spell the
-- jobs; in a job line `@N` stands for the key of session N, which is before it
abbrev pub Reads : List ℕ → List (List ℕ) → List Job → Type 0
Reads bytes keys jobs = ReadsLines (kept_lines bytes) keys jobs

-- this line is the first bad one, and comes before each job line that is one too many; the field is its fault
abbrev pub Bad : List ℕ → ℕ → ℕ → Type 0
Bad bytes line field = BadLines (kept_lines bytes) line field

-- this job line is one more than JOB_LIMIT good ones, and each session line before it is good
abbrev pub Over : List ℕ → ℕ → Type 0
Over bytes line = OverLines (kept_lines bytes) line

-- ---- laws

-- each file spells sessions and jobs, or has a first bad line, or has too many job lines: exactly one of these, and in
-- one way
abbrev pub EachFileIsOne : Type 0
EachFileIsOne = (bytes : List ℕ) → IsOneOf
    (λ (r : List (List ℕ) × List Job). Reads bytes r.0 r.1)
    (Bad bytes)
    (Over bytes)

-- a line spells a job by the table of the forms exactly where it does so field by field
abbrev pub TableAndNamesAgree : Type 0
TableAndNamesAgree = (keys : List (List ℕ)) (line : List ℕ) (job : Job) → Spells keys line job ↔ SpellsByName keys line job
