-- What the file of a replay spells, where it is bad or too long, and that each file is exactly one of the three.
use Rattle.std.specs.Prelude.{◌⊎◌, ℕ, List}
use Rattle.mbj_types.specs.declared.job.Job.{Job}
use Rattle.mbj_text.specs.declared.command.Cmd.{Cmd}
use Rattle.mbj_text.specs.Cut.{kept_lines, job_part, script_part}
use Rattle.mbj_text.specs.Answer.{IsOneOf}
use Rattle.mbj_text.specs.File.{ReadsLines, BadLines, OverLines}
use Rattle.mbj_text.specs.Script.{SpellScript, BadScript}

-- ---- the three relations

-- the lines before the script are those of a job file, and spell the keys of sessions and the jobs; the script lines
-- spell the commands, of which each names a submitter and a worker that there is
pub record ReadsReplay (submitters workers : ℕ) (bytes : List ℕ) (keys : List (List ℕ)) (jobs : List Job) (commands : List Cmd) : Type 0 where
  pub jobs_are : ReadsLines (job_part (kept_lines bytes)) keys jobs
  pub commands_are : SpellScript submitters workers (script_part (kept_lines bytes)) commands

-- the line with this number is the first bad one: a line before the script, or else, if these spell sessions and jobs,
-- a script line; the field is its fault
abbrev pub BadReplay : ℕ → ℕ → List ℕ → ℕ → ℕ → Type 0
BadReplay submitters workers bytes line field =
    let lines = kept_lines bytes in
    BadLines (job_part lines) line field
    ⊎ ((keys : List (List ℕ)) × (jobs : List Job) × ReadsLines (job_part lines) keys jobs × BadScript submitters workers (script_part lines) line field)

-- the job line with this number is one more than JOB_LIMIT good ones, and each session line before it is good
abbrev pub OverReplay : List ℕ → ℕ → Type 0
OverReplay bytes line = OverLines (job_part (kept_lines bytes)) line

-- ---- laws

-- each file spells a replay, or has a first bad line, or has too many job lines: exactly one of these, and in one way
abbrev pub EachReplayIsOne : Type 0
EachReplayIsOne = (submitters workers : ℕ) (bytes : List ℕ) → IsOneOf
    (λ (r : (List (List ℕ) × List Job) × List Cmd). ReadsReplay submitters workers bytes r.0.0 r.0.1 r.1)
    (BadReplay submitters workers bytes)
    (OverReplay bytes)
