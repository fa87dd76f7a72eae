-- Each stage in lanes of a job takes a round at least.
use Rattle.std.proofs.Common.{◌≡◌, ℕ, ◌≤◌, List, [], ◌∷◌, length, Option, Some, None, refl, arith}
use Rattle.std.specs.Prelude.{All}
use Rattle.std.proofs.lemmas.List.Elements.{All-append, All-cons, All-nil}
use Rattle.mbj_types.specs.declared.job.Job.{Job}
use Rattle.mbj_types.specs.Auths.{class_of, cmac_kind, hash_kind}
use Rattle.mbj_types.specs.declared.class.AuthClass.{AuthClass}
use Rattle.mbj_types.specs.declared.class.AuthClass.TheVariants as class
use Rattle.mbj_types.specs.declared.class.CmacKey.{CmacKey}
use Rattle.mbj_types.specs.declared.class.CmacKey.TheVariants.{Aes128}
use Rattle.mbj_types.specs.declared.class.HashName.{HashName}
use Rattle.mbj_types.specs.declared.class.HashName.TheVariants.{Sha1, Sha224, Sha256, Sha384, Sha512}
use Rattle.mbj_types.specs.declared.job.Cipher.{Cipher}
use Rattle.mbj_types.specs.declared.job.Cipher.TheVariants as cipher
use Rattle.mbj_types.specs.declared.job.Dir.{Dir}
use Rattle.mbj_types.specs.declared.job.Dir.TheVariants.{Enc, Dec}
use Rattle.mbj_types.specs.declared.kind.Kind.TheVariants as kind
use Rattle.mbj_types.specs.declared.reason.Reason.{Reason}
use Rattle.mbj_types.specs.Rounds.{cbc_rounds, rounds_of}
use Rattle.mbj_types.specs.Verdict.{verdict}
use Rattle.mbj_stage.specs.declared.stage.Step.{Step}
use Rattle.mbj_stage.specs.declared.stage.Step.TheVariants as step
use Rattle.mbj_stage.specs.Steps.{auth_stage_by, cbc_kind, ccm_kind, cipher_stage_by, steps_by}
use Rattle.mbj_stage.specs.CourseState.{begun, lengths_of, sized}
use Rattle.mbj_stage.proofs.EntryEnds.{cbc-accepted}
use Rattle.mbj_stage.proofs.Hashes.{auth-some}
use Rattle.mbj_stage.proofs.StagesOf.{each-by_key}
use Rattle.mbj_manager.specs.Machine.Stages.{Pending, in_lanes, pending, pending_at, pending_by}
use Rattle.mbj_manager.specs.Machine.Between.{HasRounds}

one : (p : Pending) → HasRounds p → All HasRounds (p ∷ [])
one p h = All-cons HasRounds p [] h (All-nil HasRounds)

-- CBC takes a round for each block
cbc-one : (n : ℕ) (j : Job) → 1 ≤ cbc_rounds j.cipher_len → 1 ≤ rounds_of (cbc_kind n) j
cbc-one n j h = each-by_key (λ k. 1 ≤ rounds_of k j) n kind.Cbc128 kind.Cbc192 kind.Cbc256 h h h

-- CCM's MAC takes one for its first block
ccm-one : (n : ℕ) (j : Job) → 1 ≤ rounds_of (ccm_kind n) j
ccm-one n j = each-by_key (λ k. 1 ≤ rounds_of k j) n kind.Ccm128 kind.Ccm192 kind.Ccm256 (omega arith) (omega arith) (omega arith)

cipher-rounds : (c : Cipher) (d : Dir) (n : ℕ) (j : Job) → (c ≡ cipher.Cbc → 1 ≤ cbc_rounds j.cipher_len)
    → All HasRounds (pending_by (cipher_stage_by c d n) j)
cipher-rounds cipher.Null d n j h = one _ tt
cipher-rounds cipher.Cbc Enc n j h = one (in_lanes (cbc_kind n) (rounds_of (cbc_kind n) j)) (cbc-one n j (h refl))
cipher-rounds cipher.Cbc Dec n j h = one _ tt
cipher-rounds cipher.Ctr d n j h = one _ tt
cipher-rounds cipher.Gcm d n j h = one _ tt
cipher-rounds cipher.Ccm d n j h = one _ tt

hash-one : (h : HashName) (j : Job) → 1 ≤ rounds_of (hash_kind h) j
hash-one Sha1 j = auth-some (class_of j.auth) 64 j.hash_len
hash-one Sha224 j = auth-some (class_of j.auth) 64 j.hash_len
hash-one Sha256 j = auth-some (class_of j.auth) 64 j.hash_len
hash-one Sha384 j = auth-some (class_of j.auth) 128 j.hash_len
hash-one Sha512 j = auth-some (class_of j.auth) 128 j.hash_len

cmac-one : (k : CmacKey) (j : Job) → 1 ≤ rounds_of (cmac_kind k) j
cmac-one Aes128 j = omega arith
cmac-one _ j = omega arith

auth-rounds : (a : AuthClass) (j : Job) → All HasRounds (pending_by (auth_stage_by a) j)
auth-rounds class.Null j = one _ tt
auth-rounds (class.Hmac h) j = one (in_lanes (hash_kind h) (rounds_of (hash_kind h) j)) (hash-one h j)
auth-rounds (class.Cmac k) j = one (in_lanes (cmac_kind k) (rounds_of (cmac_kind k) j)) (cmac-one k j)
auth-rounds class.Gcm j = one _ tt
auth-rounds class.Ccm j = one _ tt
auth-rounds (class.Plain h) j = one (in_lanes (hash_kind h) (rounds_of (hash_kind h) j)) (hash-one h j)
auth-rounds class.Gmac j = one _ tt
auth-rounds (class.States h) j = one (in_lanes (hash_kind h) (rounds_of (hash_kind h) j)) (hash-one h j)

steps-rounds : (j : Job) (steps : List Step) → (j.cipher ≡ cipher.Cbc → 1 ≤ cbc_rounds j.cipher_len) → All HasRounds (pending_at j steps)
steps-rounds j [] h = All-nil HasRounds
steps-rounds j (step.Cipher ∷ steps) h =
    All-append HasRounds (pending_by (cipher_stage_by j.cipher j.dir (length j.key)) j) (pending_at j steps)
    (cipher-rounds j.cipher j.dir (length j.key) j h) (steps-rounds j steps h)
steps-rounds j (step.Auth ∷ steps) h =
    All-append HasRounds (pending_by (auth_stage_by (class_of j.auth)) j) (pending_at j steps) (auth-rounds (class_of j.auth) j) (steps-rounds j steps h)
steps-rounds j (step.Gcm ∷ steps) h = All-append HasRounds (_ ∷ []) (pending_at j steps) (one _ tt) (steps-rounds j steps h)
steps-rounds j (step.CcmMac ∷ steps) h =
    All-append HasRounds (in_lanes (ccm_kind (length j.key)) (rounds_of (ccm_kind (length j.key)) j) ∷ []) (pending_at j steps)
    (one (in_lanes (ccm_kind (length j.key)) (rounds_of (ccm_kind (length j.key)) j)) (ccm-one (length j.key) j)) (steps-rounds j steps h)
steps-rounds j (step.Gmac ∷ steps) h = All-append HasRounds (_ ∷ []) (pending_at j steps) (one _ tt) (steps-rounds j steps h)
steps-rounds j (step.CcmText ∷ steps) h = All-append HasRounds (_ ∷ []) (pending_at j steps) (one _ tt) (steps-rounds j steps h)

by-verdict : (reason : Option Reason) (j : Job) → verdict j ≡ reason → All HasRounds (pending_at (sized (lengths_of j) j) (steps_by reason j))
by-verdict (Some r) j e = All-nil HasRounds
by-verdict None j e =
    steps-rounds (sized (lengths_of j) j) (steps_by None j) (λ cbc. let is = cbc-accepted j (length j.packet) e cbc in let some = is.some in let whole = is.whole in omega arith)

-- the stages of a job that is submitted
pub pending-rounds : (j : Job) → All HasRounds (pending (begun j))
pending-rounds j = by-verdict (verdict j) j refl
