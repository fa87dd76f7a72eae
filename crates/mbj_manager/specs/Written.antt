-- Which range of its packet a job's cipher writes, as its offset and its length.
use Rattle.std.specs.Prelude.{ℕ, Bool, true, false, not, List, [], ◌∷◌, Option, Some, None}
use Rattle.mbj_types.specs.declared.done.Done.{Done}
use Rattle.mbj_types.specs.declared.done.Status.{Status}
use Rattle.mbj_types.specs.declared.done.Status.TheVariants as status
use Rattle.mbj_types.specs.declared.job.Job.{Job}
use Rattle.mbj_types.specs.Verdict.{is_null_cipher}
use Rattle.mbj_stage.specs.CourseState.{CourseState}
use Rattle.mbj_stage.specs.Keys.{uses_key}
use Rattle.mbj_manager.specs.State.{ManagerState}

abbrev pub range_if : Bool → Job → ℕ × ℕ
range_if true j = (j.cipher_off, j.cipher_len)
range_if false j = (0, 0)

-- that of a course: empty if the job is refused or has no cipher
abbrev pub range_in : CourseState → ℕ × ℕ
range_in c = range_if (uses_key c.reason c.job.cipher) c.job

abbrev pub first_range_in : List CourseState → Option (ℕ × ℕ)
first_range_in [] = None
first_range_in (c ∷ cs) = Some (range_in c)

-- that of a job by its result's status
abbrev pub written_by : Status → Job → ℕ × ℕ
written_by status.Ok j = range_if (not (is_null_cipher j.cipher)) j
written_by (status.InvalidArgs reason) j = (0, 0)

-- that of the earliest job, if one is submitted and not given back
abbrev pub first_range_at : List Done → List Job → Option (ℕ × ℕ)
first_range_at (d ∷ ds) (j ∷ js) = Some (written_by d.status j)
first_range_at ds js = None

abbrev pub first_range : ManagerState → Option (ℕ × ℕ)
first_range h = first_range_at h.owed h.jobs
