-- The lines of a trace, put together from those of its parts.
use Rattle.std.proofs.Common.{◌≡◌, ◌∙◌, ◌<◌, ◌+◌, ◌==◌, ◌++◌, [], arith, Bool, false, if◌then◌else◌, suc, ap, sym, ℕ, List, length, drop, get_or, flat_map, append_assoc}
use Rattle.mbj_types.specs.declared.job.Job.{Job}
use Rattle.mbj_types.specs.Kinds.{all_kinds}
use Rattle.mbj_types.specs.declared.kind.Kind.{Kind}
use Rattle.mbj_manager.specs.State.{ManagerState}
use Rattle.mbj_trace.specs.Trace.{Traced, Tracing, traced, calls_told, count_lines, jobs_told, new_tracing, take_told, takes_told, trace_lines}
use Rattle.mbj_trace.specs.Inside.State.{jobs_in}
use Rattle.mbj_trace.specs.declared.line.TraceLine.{TraceLine}
use Rattle.mbj_trace.specs.declared.tracer.Taking.{Taking}
use Rattle.mbj_trace.specs.declared.tracer.Taking.TheVariants as taking
use Rattle.mbj_text.proofs.Lines.{flat-next}
use Rattle.mbj_text.proofs.Tellings.{after-told}
use Rattle.mbj_text.specs.Telling.{then_told}

-- one more kind is told
pub kind-told : (old now : ManagerState) (lines told all : List TraceLine) (i : ℕ) (d : Kind) → i < length all_kinds → now ≡ old
    → told ≡ lines ++ count_lines old.machine (get_or all_kinds i d)
    → lines ++ flat_map (count_lines old.machine) (drop i all_kinds) ≡ all
    → told ++ flat_map (count_lines now.machine) (drop (i + 1) all_kinds) ≡ all
kind-told old now lines told all i d below same one before =
    ap (λ m. told ++ flat_map (count_lines m.machine) (drop (i + 1) all_kinds)) same
    ∙ ap (λ ls. ls ++ flat_map (count_lines old.machine) (drop (i + 1) all_kinds)) one
    ∙ append_assoc lines (count_lines old.machine (get_or all_kinds i d)) (flat_map (count_lines old.machine) (drop (i + 1) all_kinds))
    ∙ ap (λ ls. lines ++ ls) (sym (flat-next (count_lines old.machine) all_kinds i d below))
    ∙ before

-- all of a trace, from a new manager on
pub whole : (jobs : List Job) (t0 t1 t2 t3 : Tracing) (l0 l1 l2 l3 l4 : List TraceLine) → t0 ≡ new_tracing → l0 ≡ []
    → l1 ≡ l0 ++ (jobs_told 0 jobs t0).0 → t1 ≡ (jobs_told 0 jobs t0).1
    → l2 ≡ l1 ++ (traced taking.Completed t1).0 → t2 ≡ (traced taking.Completed t1).1
    → l3 ≡ l2 ++ (traced taking.Flushed t2).0 → t3 ≡ (traced taking.Flushed t2).1
    → l4 ≡ l3 ++ flat_map (count_lines t3.manager.machine) all_kinds
    → l4 ≡ trace_lines jobs
unfolding trace_lines
whole jobs t0 t1 t2 t3 l0 l1 l2 l3 l4 start none submitted state1 completed state2 flushed state3 counted =
    let begin : Traced = ([], new_tracing) in
    let one = after-told begin (jobs_told 0 jobs) l0 l1 t0 t1 none start submitted state1 in
    let two = after-told (jobs_told 0 jobs new_tracing) (traced taking.Completed) l1 l2 t1 t2 one.0 one.1 completed state2 in
    let three = after-told (then_told (jobs_told 0 jobs new_tracing) (traced taking.Completed)) (traced taking.Flushed)
    l2 l3 t2 t3 two.0 two.1 flushed state3 in
    counted ∙ ap (λ ls. ls ++ flat_map (count_lines t3.manager.machine) all_kinds) three.0
    ∙ ap (λ t. (calls_told jobs).0 ++ flat_map (count_lines t.manager.machine) all_kinds) three.1

-- ---- one job more is taken back

-- the calls after one that gave a job back
pub rest-taken : (how : Taking) (t : Tracing) (lines : List TraceLine) → (take_told how t).1.given ≡ t.given + 1
    → jobs_in (take_told how t).1 ≡ jobs_in t
    → ((lines ++ (take_told how t).0) ++ (traced how (take_told how t).1).0 ≡ lines ++ (traced how t).0)
    × ((traced how (take_told how t).1).1 ≡ (traced how t).1)
rest-taken how t lines one same =
    let next : Tracing = (take_told how t).1 in
    let n : ℕ = length next.manager.owed in
    let len : length t.manager.owed ≡ suc n = omega (arith, one, same) in
    let apart : (next.given == t.given) ≡ false = grind arith in
    let told : traced how t ≡ then_told (take_told how t) (traced how)
    = ap (λ k. takes_told how k t) len ∙ ap (λ (b : Bool). if b then take_told how t else then_told (take_told how t) (takes_told how n)) apart in (
      append_assoc lines (take_told how t).0 (traced how next).0 ∙ ap (λ (a : Traced). lines ++ a.0) (sym told),
      ap (λ (a : Traced). a.1) (sym told),
    )
