-- What a line of a job file gives, the key of a session or a job, and which field of a bad line is its fault.
use Rattle.std.specs.Prelude.{◌≡◌, ◌⊎◌, ◌<◌, ℕ, List, [], ◌∷◌, length}
use Rattle.mbj_types.specs.declared.job.Job.{Job}
use Rattle.mbj_types.specs.declared.limits.TheConstants.{MAX_SESSIONS}
use Rattle.mbj_text.specs.declared.limits.TheConstants.{JOB_LIMIT}
use Rattle.mbj_text.specs.Words.{session_word}
use Rattle.mbj_text.specs.Spelling.{Form, Key, SpellsFields, HasFault, Spells, IsBadLine, fields_of}

-- ---- what lines give

-- the key of the next session, or the next job
pub data Entry : Type 0 where
  SessionEntry : List ℕ → Entry
  JobEntry : Job → Entry

-- the keys of the sessions, that of session 0 first
abbrev pub keys_in : List Entry → List (List ℕ)
keys_in [] = []
keys_in (SessionEntry key ∷ entries) = key ∷ keys_in entries
keys_in (JobEntry job ∷ entries) = keys_in entries

-- the jobs in the order of their lines
abbrev pub jobs_in : List Entry → List Job
jobs_in [] = []
jobs_in (SessionEntry key ∷ entries) = jobs_in entries
jobs_in (JobEntry job ∷ entries) = job ∷ jobs_in entries

-- ---- session lines

-- the line is a session line: its first field is `session`, and these are behind it
pub record IsSessionLine (line : List ℕ) : Type 0 where
  pub texts : List (List ℕ)
  pub fields : fields_of line ≡ session_word ∷ texts

-- the forms of the fields behind the word
abbrev pub session_forms : List Form
session_forms = Key ∷ []

-- the line spells the key of a session
pub record SpellsSession (line key : List ℕ) : Type 0 where
  pub session : IsSessionLine line
  pub key_is : SpellsFields session_forms session.texts (key, tt)

-- ---- each line, behind the entries of those before it

-- the line spells the entry: the key of a session, of which there are at most MAX_SESSIONS, or a job, of which there are
-- at most JOB_LIMIT
abbrev pub SpellsEntry : List Entry → List ℕ → Entry → Type 0
SpellsEntry before line (SessionEntry key) = (length (keys_in before) < MAX_SESSIONS) × SpellsSession line key
SpellsEntry before line (JobEntry job) =
    ¬ (IsSessionLine line) × (length (jobs_in before) < JOB_LIMIT) × Spells (keys_in before) line job

-- the line is a session line, and its fault is field f: 1 if there are MAX_SESSIONS before it, else 0 if it hasn't
-- two fields, else 2
abbrev pub IsBadSession : List Entry → List ℕ → ℕ → Type 0
IsBadSession before line f = (session : IsSessionLine line)
    × (((f ≡ 1) × (length (keys_in before) ≡ MAX_SESSIONS))
    ⊎ ((length (keys_in before) < MAX_SESSIONS) × HasFault 2 session_forms session.texts f))

-- the line is a job line among the first JOB_LIMIT, and its fault is field f
abbrev pub IsBadJob : List Entry → List ℕ → ℕ → Type 0
IsBadJob before line f =
    ¬ (IsSessionLine line) × (length (jobs_in before) < JOB_LIMIT) × IsBadLine (keys_in before) line f

-- the line spells no entry, and its fault is field f
abbrev pub IsBadEntry : List Entry → List ℕ → ℕ → Type 0
IsBadEntry before line f = IsBadSession before line f ⊎ IsBadJob before line f

-- the line is a job line, and there are JOB_LIMIT before it
abbrev pub IsOverLimit : List Entry → List ℕ → Type 0
IsOverLimit before line = ¬ (IsSessionLine line) × (length (jobs_in before) ≡ JOB_LIMIT)
