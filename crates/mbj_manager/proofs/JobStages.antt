-- A job has two stages at most, so that jobs have twice as many stages left as there are jobs at most.
use Rattle.std.proofs.Common.{ℕ, ◌*◌, ◌≤◌, suc, List, [], ◌∷◌, length, Option, None, Some, arith}
use Rattle.std.proofs.lemmas.List.{length-append}
use Rattle.std.proofs.lemmas.List.Sums.{sum_by-cons}
use Rattle.mbj_types.specs.Auths.{class_of}
use Rattle.mbj_types.specs.declared.class.AuthClass.{AuthClass}
use Rattle.mbj_types.specs.declared.class.AuthClass.TheVariants as class
use Rattle.mbj_types.specs.Verdict.{verdict}
use Rattle.mbj_types.specs.declared.job.Job.{Job}
use Rattle.mbj_types.specs.declared.job.Cipher.{Cipher}
use Rattle.mbj_types.specs.declared.job.Cipher.TheVariants as cipher
use Rattle.mbj_types.specs.declared.job.Dir.{Dir}
use Rattle.mbj_types.specs.declared.job.Dir.TheVariants.{Enc, Dec}
use Rattle.mbj_types.specs.declared.job.Order.{Order}
use Rattle.mbj_types.specs.declared.job.Order.TheVariants.{CipherHash, HashCipher}
use Rattle.mbj_types.specs.declared.reason.Reason.{Reason}
use Rattle.mbj_stage.specs.declared.stage.Stage.{Stage}
use Rattle.mbj_stage.specs.declared.stage.Stage.TheVariants as stage
use Rattle.mbj_stage.specs.declared.stage.Step.{Step}
use Rattle.mbj_stage.specs.Steps.{auth_steps, ccm_steps, cipher_steps, ordered, stage_at, steps_by, steps_with}
use Rattle.mbj_stage.specs.CourseState.{begun, lengths_of, sized}
use Rattle.mbj_manager.specs.Machine.Stages.{Pending, at_once, in_lanes, pending, pending_at, pending_by}
use Rattle.mbj_manager.specs.Machine.Course.{in_lanes_next, stages_left}
use Rattle.mbj_manager.specs.Inside.Standing.{left_at}
use Rattle.std.specs.Prelude.{drop}

few-by : (s : Stage) (j : Job) → length (pending_by s j) ≤ 1
few-by stage.Now j = omega arith
few-by (stage.Lane k) j = omega arith
few-by stage.Finished j = omega arith

few-at : (j : Job) (left : List Step) → length (pending_at j left) ≤ length left
few-at j [] = omega arith
few-at j (s ∷ left) =
    omega (arith, length-append (pending_by (stage_at j (s ∷ [])) j) (pending_at j left), few-by (stage_at j (s ∷ [])) j, few-at j left)

cipher-one : (c : Cipher) → length (cipher_steps c) ≤ 1
cipher-one cipher.Null = omega arith
cipher-one cipher.Cbc = omega arith
cipher-one cipher.Ctr = omega arith
cipher-one cipher.Gcm = omega arith
cipher-one cipher.Ccm = omega arith

auth-one : (a : AuthClass) → length (auth_steps a) ≤ 1
auth-one class.Null = omega arith
auth-one (class.Hmac h) = omega arith
auth-one (class.Cmac key) = omega arith
auth-one class.Gcm = omega arith
auth-one class.Ccm = omega arith
auth-one (class.Plain h) = omega arith
auth-one class.Gmac = omega arith
auth-one (class.States h) = omega arith

two-ordered : (o : Order) (xs ys : List Step) → length xs ≤ 1 → length ys ≤ 1 → length (ordered o xs ys) ≤ 2
two-ordered CipherHash xs ys a b = omega (arith, length-append xs ys)
two-ordered HashCipher xs ys a b = omega (arith, length-append ys xs)

two-ccm : (d : Dir) → length (ccm_steps d) ≤ 2
two-ccm Enc = omega arith
two-ccm Dec = omega arith

two-both : (c : Cipher) (j : Job) → length (ordered j.order (cipher_steps c) (auth_steps (class_of j.auth))) ≤ 2
two-both c j = two-ordered j.order (cipher_steps c) (auth_steps (class_of j.auth)) (cipher-one c) (auth-one (class_of j.auth))

two-with : (c : Cipher) (j : Job) → length (steps_with c j) ≤ 2
two-with cipher.Null j = two-both cipher.Null j
two-with cipher.Cbc j = two-both cipher.Cbc j
two-with cipher.Ctr j = two-both cipher.Ctr j
two-with cipher.Gcm j = two-both cipher.Gcm j
two-with cipher.Ccm j = two-ccm j.dir

two-steps : (reason : Option Reason) (j : Job) → length (steps_by reason j) ≤ 2
two-steps None j = two-with j.cipher j
two-steps (Some reason) j = omega arith

-- the stages of a job
pub two-stages : (j : Job) → length (pending (begun j)) ≤ 2
two-stages j = omega (arith, few-at (sized (lengths_of j) j) (steps_by (verdict j) j), two-steps (verdict j) j)

-- a stage that is done leaves no more
pub two-then : (ps : List Pending) → length ps ≤ 2 → length (drop 1 ps) ≤ 2
two-then [] two = two
two-then (p ∷ ps) two = omega arith

pub two-next : (ps : List Pending) → length ps ≤ 2 → length (in_lanes_next ps) ≤ 2
two-next [] two = two
two-next (at_once ∷ ps) two = two-next ps (omega arith)
two-next (in_lanes k rest ∷ ps) two = two

-- the stages of all jobs
pub twice : (left : List (List Pending)) → ((n : ℕ) → length (left_at n left) ≤ 2) → stages_left left ≤ 2 * length left
twice [] two = omega arith
twice (ps ∷ left) two = omega (arith, sum_by-cons length ps left, two 0, twice left (λ n. two (suc n)))
