-- That each file of a replay is exactly one of good, bad and too long.
use Rattle.std.proofs.Common.{◌≡◌, ◌∙◌, inl, inr, ap, ℕ, List, map, Result, Ok, Err}
use Rattle.std.specs.Prelude.{◌≤◌, IfOk, length}
use Rattle.std.specs.declared.vec.Vec.{Vec}
use Rattle.std.specs.declared.alloc.Global.{Global}
use Rattle.mbj_types.specs.declared.job.Job.{Job}
use Rattle.mbj_text.specs.declared.command.Cmd.{Cmd}
use Rattle.mbj_text.specs.declared.limits.TheConstants.{JOB_LIMIT}
use Rattle.mbj_text.specs.declared.fault.TextFault.{TextFault}
use Rattle.mbj_text.specs.declared.fault.TextFault.TheVariants as text_fault
use Rattle.mbj_text.specs.Cut.{kept_lines, job_part, script_part}
use Rattle.mbj_text.specs.Answer.{IsOkOnly}
use Rattle.mbj_text.specs.Replay.{ReadsReplay, BadReplay, OverReplay, EachReplayIsOne}
use Rattle.mbj_text.specs.Inside.Reading.{Answers, KeysAndJobs}
use Rattle.mbj_text.proofs.AnswerLaws.{Tells, Fate, is_one, good_only}
use Rattle.mbj_text.proofs.FileLaws.{lines_outcome, lines_tell, fate_of_lines}
use Rattle.mbj_text.proofs.LimitLaws.{AreSessions, IsWithin, reads_within, sessions}
use Rattle.mbj_text.proofs.ScriptLaws.{script_outcome, script_gives, bad_script_gives, script_fate}

-- the keys and the jobs, and the commands
abbrev pub Replay : Type 0
Replay = KeysAndJobs × List Cmd

-- the file spells them
abbrev pub Spelled : ℕ → ℕ → List ℕ → Replay → Type 0
Spelled s w bytes r = ReadsReplay s w bytes r.0.0 r.0.1 r.1

-- ---- the three relations are told by the outcome of the job lines, and then that of the script lines

-- the commands' outcome, with the keys and the jobs
abbrev with_jobs : Result (List Cmd) TextFault → KeysAndJobs → Result Replay TextFault
with_jobs (Ok commands) jobs = Ok (jobs, commands)
with_jobs (Err e) jobs = Err e

-- first the outcome of the keys and the jobs, and then the commands'
abbrev first_jobs : Result (List Cmd) TextFault → Result KeysAndJobs TextFault → Result Replay TextFault
first_jobs script (Ok jobs) = with_jobs script jobs
first_jobs script (Err e) = Err e

-- the outcome of a file
pub replay_outcome : ℕ → ℕ → List ℕ → Result Replay TextFault
replay_outcome s w bytes = first_jobs (script_outcome s w (script_part (kept_lines bytes))) (lines_outcome (job_part (kept_lines bytes)))

-- it tells the three relations apart
pub replay_tells : (s w : ℕ) (bytes : List ℕ) → Tells (Spelled s w bytes) (BadReplay s w bytes) (OverReplay bytes) (replay_outcome s w bytes)
unfolding replay_outcome
replay_tells s w bytes = record { good = good; bad = bad; over = over }
  where
    good : (r : Replay) → Spelled s w bytes r → replay_outcome s w bytes ≡ Ok r
    good r h =
        ap (first_jobs (script_outcome s w (script_part (kept_lines bytes)))) ((lines_tell (job_part (kept_lines bytes))).good r.0 h.jobs_are)
        ∙ ap (λ o. with_jobs o r.0) (script_gives s w (script_part (kept_lines bytes)) r.1 h.commands_are)

    bad : (line field : ℕ) → BadReplay s w bytes line field → replay_outcome s w bytes ≡ Err (text_fault.Line line field)
    bad line field (inl b) = ap (first_jobs (script_outcome s w (script_part (kept_lines bytes)))) ((lines_tell (job_part (kept_lines bytes))).bad line field b)
    bad line field (inr (keys, jobs, jobs_are, b)) =
        ap (first_jobs (script_outcome s w (script_part (kept_lines bytes)))) ((lines_tell (job_part (kept_lines bytes))).good (keys, jobs) jobs_are)
        ∙ ap (λ o. with_jobs o (keys, jobs)) (bad_script_gives s w (script_part (kept_lines bytes)) line field b)

    over : (line : ℕ) → OverReplay bytes line → replay_outcome s w bytes ≡ Err (text_fault.Limit line)
    over line o = ap (first_jobs (script_outcome s w (script_part (kept_lines bytes)))) ((lines_tell (job_part (kept_lines bytes))).over line o)

-- ---- one of the three holds

-- reading the job lines and then the script lines tells
replay_fate : (s w : ℕ) (bytes : List ℕ) → Fate (Spelled s w bytes) (BadReplay s w bytes) (OverReplay bytes)
replay_fate s w bytes = elim (fate_of_lines (job_part (kept_lines bytes))) [
  | inl good ↦ elim (script_fate s w (script_part (kept_lines bytes))) [
    | inl commands ↦ inl ((good.0, commands.0), record { jobs_are = good.1; commands_are = commands.1 })
    | inr bad ↦ inr (inl (bad.0, bad.1, inr (good.0.0, good.0.1, good.1, bad.2)))
  ]
  | inr other ↦ elim other [
    | inl bad ↦ inr (inl (bad.0, bad.1, inl bad.2))
    | inr over ↦ inr (inr over)
  ]
]

-- exactly one of the three holds, and in one way
pub one_of_three : EachReplayIsOne
one_of_three s w bytes =
    is_one (Spelled s w bytes) (BadReplay s w bytes) (OverReplay bytes) (replay_outcome s w bytes) (replay_tells s w bytes) (replay_fate s w bytes)

-- ---- answers

-- what the code answers
abbrev pub ReplayAnswer : Type 0
ReplayAnswer = Result (Vec (Vec ℕ Global) Global × Vec Job Global × Vec Cmd Global) TextFault

-- keys, jobs and commands as lists
abbrev pub lists_of : Vec (Vec ℕ Global) Global × Vec Job Global × Vec Cmd Global → Replay
lists_of x = ((map (λ k. k.items) x.0.items, x.1.items), x.2.items)

-- the answer is right for this file
abbrev pub AnswersReplay : ℕ → ℕ → List ℕ → ReplayAnswer → Type 0
AnswersReplay s w bytes r = Answers (λ x. Spelled s w bytes (lists_of x)) (BadReplay s w bytes) (OverReplay bytes) r

-- the answer is Ok with these, unless memory ran out
abbrev IsReplay : ReplayAnswer → List (List ℕ) → List Job → List Cmd → Type 0
IsReplay r keys jobs commands = IsOkOnly r (λ x. (map (λ k. k.items) x.0.items ≡ keys) × (x.1.items ≡ jobs) × (x.2.items ≡ commands))

-- what is spelled is answered, unless memory ran out
pub replay_only : (s w : ℕ) (bytes : List ℕ) (r : ReplayAnswer) → AnswersReplay s w bytes r
    → (keys : List (List ℕ)) (jobs : List Job) (commands : List Cmd) → ReadsReplay s w bytes keys jobs commands → IsReplay r keys jobs commands
replay_only s w bytes r a keys jobs commands h =
    parts r (good_only lists_of (Spelled s w bytes) (BadReplay s w bytes) (OverReplay bytes) (replay_outcome s w bytes) (replay_tells s w bytes) r a ((keys, jobs), commands) h)
  where
    parts : (r : ReplayAnswer) → IsOkOnly r (λ x. lists_of x ≡ ((keys, jobs), commands)) → IsReplay r keys jobs commands
    parts (Ok x) same = (ap (λ (r : Replay). r.0.0) same, ap (λ (r : Replay). r.0.1) same, ap (λ (r : Replay). r.1) same)
    parts (Err e) same = same

-- it is within the limits
replay_within : (s w : ℕ) (bytes : List ℕ) (x : Vec (Vec ℕ Global) Global × Vec Job Global × Vec Cmd Global) → Spelled s w bytes (lists_of x)
    → IsWithin (lists_of x).0
replay_within s w bytes x reads = reads_within (job_part (kept_lines bytes)) (lists_of x).0.0 x.1.items reads.jobs_are

-- so are the sessions of the answer
pub replay_sessions : (s w : ℕ) (bytes : List ℕ) (r : ReplayAnswer) → AnswersReplay s w bytes r → IfOk r (λ x. AreSessions x.0)
replay_sessions s w bytes (Ok x) a = sessions x.0 x.1.items (replay_within s w bytes x a)
replay_sessions s w bytes (Err fault) a = tt

-- and its jobs
pub replay_count : (s w : ℕ) (bytes : List ℕ) (r : ReplayAnswer) → AnswersReplay s w bytes r → IfOk r (λ x. length x.1.items ≤ JOB_LIMIT)
replay_count s w bytes (Ok x) a = (replay_within s w bytes x a).few_jobs
replay_count s w bytes (Err fault) a = tt
