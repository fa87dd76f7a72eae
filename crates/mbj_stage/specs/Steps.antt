-- The steps of a job, and when each is done.
use Rattle.std.specs.Prelude.{◌==◌, ℕ, List, [], ◌∷◌, ◌++◌, length, Option, Some, None, if◌then◌else◌}
use Rattle.mbj_types.specs.Auths.{class_of, cmac_kind, hash_kind}
use Rattle.mbj_types.specs.declared.class.AuthClass.{AuthClass}
use Rattle.mbj_types.specs.declared.class.AuthClass.TheVariants as class
use Rattle.mbj_types.specs.declared.job.Job.{Job}
use Rattle.mbj_types.specs.declared.job.Cipher.{Cipher}
use Rattle.mbj_types.specs.declared.job.Cipher.TheVariants as cipher
use Rattle.mbj_types.specs.declared.job.Dir.{Dir}
use Rattle.mbj_types.specs.declared.job.Dir.TheVariants.{Enc, Dec}
use Rattle.mbj_types.specs.declared.kind.Kind.{Kind}
use Rattle.mbj_types.specs.declared.kind.Kind.TheVariants as kind
use Rattle.mbj_types.specs.declared.job.Order.{Order}
use Rattle.mbj_types.specs.declared.job.Order.TheVariants.{CipherHash, HashCipher}
use Rattle.mbj_types.specs.declared.reason.Reason.{Reason}
use Rattle.mbj_stage.specs.declared.stage.Stage.{Stage}
use Rattle.mbj_stage.specs.declared.stage.Stage.TheVariants as stage
use Rattle.mbj_stage.specs.declared.stage.Step.{Step}
use Rattle.mbj_stage.specs.declared.stage.Step.TheVariants as step
use Rattle.mbj_stage.specs.declared.stage.Steps.{Steps}
use Rattle.mbj_stage.specs.declared.stage.Steps.TheVariants as steps

-- the steps of a cipher alone; GCM makes the tag too, and CCM has steps of its own
abbrev pub cipher_steps : Cipher → List Step
cipher_steps cipher.Null = []
cipher_steps cipher.Cbc = step.Cipher ∷ []
cipher_steps cipher.Ctr = step.Cipher ∷ []
cipher_steps cipher.Gcm = step.Gcm ∷ []
cipher_steps cipher.Ccm = []

-- the steps of an authentication; the tags of GCM and CCM are made with their ciphers, and GMAC has a step of its own
abbrev pub auth_steps : AuthClass → List Step
auth_steps class.Null = []
auth_steps (class.Hmac h) = step.Auth ∷ []
auth_steps (class.Cmac key) = step.Auth ∷ []
auth_steps class.Gcm = []
auth_steps class.Ccm = []
auth_steps (class.Plain h) = step.Auth ∷ []
auth_steps class.Gmac = step.Gmac ∷ []
auth_steps (class.States h) = step.Auth ∷ []

abbrev pub ordered : Order → List Step → List Step → List Step
ordered CipherHash ciphers auths = ciphers ++ auths
ordered HashCipher ciphers auths = auths ++ ciphers

-- the steps of CCM: the MAC is over the plaintext, so that a text that is sealed is ciphered after it, and one that is opened before
-- it
abbrev pub ccm_steps : Dir → List Step
ccm_steps Enc = step.CcmMac ∷ step.CcmText ∷ []
ccm_steps Dec = step.CcmText ∷ step.CcmMac ∷ []

-- the steps of an accepted job with this cipher: but for CCM its cipher's and its authentication's, in its order
abbrev pub steps_with : Cipher → Job → List Step
steps_with cipher.Ccm j = ccm_steps j.dir
steps_with c j = ordered j.order (cipher_steps c) (auth_steps (class_of j.auth))

abbrev pub steps_of : Job → List Step
steps_of j = steps_with j.cipher j

-- the steps of a job by the reason for which it is refused: then there are none
abbrev pub steps_by : Option Reason → Job → List Step
steps_by None j = steps_of j
steps_by (Some reason) j = []

-- steps as a list
abbrev pub steps_in : Steps → List Step
steps_in steps.Done = []
steps_in (steps.One first) = first ∷ []
steps_in (steps.Two first second) = first ∷ second ∷ []

-- one of three by a key of n bytes: 16, 24 or 32
abbrev pub by_key : ℕ → Kind → Kind → Kind → Kind
by_key n k128 k192 k256 = if n == 16 then k128 else if n == 24 then k192 else k256

-- the lanes in which CBC encrypts under a key of n bytes
abbrev pub cbc_kind : ℕ → Kind
cbc_kind n = by_key n kind.Cbc128 kind.Cbc192 kind.Cbc256

-- the lanes of CCM's MAC
abbrev pub ccm_kind : ℕ → Kind
ccm_kind n = by_key n kind.Ccm128 kind.Ccm192 kind.Ccm256

-- when a cipher is done under a key of n bytes: CBC encryption in lanes, and all else at once, since it has blocks of one
-- packet for every lane
abbrev pub cipher_stage_by : Cipher → Dir → ℕ → Stage
cipher_stage_by cipher.Null d n = stage.Now
cipher_stage_by cipher.Cbc Enc n = stage.Lane (cbc_kind n)
cipher_stage_by cipher.Cbc Dec n = stage.Now
cipher_stage_by cipher.Ctr d n = stage.Now
cipher_stage_by cipher.Gcm d n = stage.Now
cipher_stage_by cipher.Ccm d n = stage.Now

-- when an authentication is done: HMAC and digests in the lanes of their hash, and CMAC in those of its key
abbrev pub auth_stage_by : AuthClass → Stage
auth_stage_by class.Null = stage.Now
auth_stage_by (class.Hmac h) = stage.Lane (hash_kind h)
auth_stage_by (class.Cmac k) = stage.Lane (cmac_kind k)
auth_stage_by class.Gcm = stage.Now
auth_stage_by class.Ccm = stage.Now
auth_stage_by (class.Plain h) = stage.Lane (hash_kind h)
auth_stage_by class.Gmac = stage.Now
auth_stage_by (class.States h) = stage.Lane (hash_kind h)

-- when a job's cipher is done
abbrev pub cipher_stage : Job → Stage
cipher_stage j = cipher_stage_by j.cipher j.dir (length j.key)

-- when a job's authentication is done
abbrev pub auth_stage : Job → Stage
auth_stage j = auth_stage_by (class_of j.auth)

-- when the first of the steps that are left is done
abbrev pub stage_at : Job → List Step → Stage
stage_at j [] = stage.Finished
stage_at j (step.Cipher ∷ left) = cipher_stage j
stage_at j (step.Auth ∷ left) = auth_stage j
stage_at j (step.Gcm ∷ left) = stage.Now
stage_at j (step.CcmMac ∷ left) = stage.Lane (ccm_kind (length j.key))
stage_at j (step.CcmText ∷ left) = stage.Now
stage_at j (step.Gmac ∷ left) = stage.Now

-- the step whose stage is in a kind's lanes
abbrev pub step_of : Kind → Step
step_of kind.Cbc128 = step.Cipher
step_of kind.Cbc192 = step.Cipher
step_of kind.Cbc256 = step.Cipher
step_of kind.Cmac128 = step.Auth
step_of kind.Cmac256 = step.Auth
step_of kind.HmacSha1 = step.Auth
step_of kind.HmacSha256 = step.Auth
step_of kind.HmacSha512 = step.Auth
step_of kind.Ccm128 = step.CcmMac
step_of kind.Ccm192 = step.CcmMac
step_of kind.Ccm256 = step.CcmMac
