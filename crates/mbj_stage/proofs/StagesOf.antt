-- Which jobs have their next stage at once, in which lanes, or none left.
use Rattle.std.proofs.Common.{◌≡◌, ◌≢◌, ℕ, ◌==◌, List, [], ◌∷◌, length, refl, sym, ap, ◌∙◌}
use Rattle.std.specs.Prelude.{if◌then◌else◌}
use Rattle.std.proofs.lemmas.Bool.{cond_both}
use Rattle.mbj_types.specs.declared.job.Job.{Job}
use Rattle.mbj_types.specs.declared.job.Cipher.{Cipher}
use Rattle.mbj_types.specs.declared.job.Cipher.TheVariants as cipher
use Rattle.mbj_types.specs.declared.job.Dir.{Dir}
use Rattle.mbj_types.specs.declared.job.Dir.TheVariants.{Enc, Dec}
use Rattle.mbj_types.specs.declared.class.AuthClass.{AuthClass}
use Rattle.mbj_types.specs.declared.class.AuthClass.TheVariants as class
use Rattle.mbj_types.specs.declared.class.CmacKey.{CmacKey}
use Rattle.mbj_types.specs.declared.class.CmacKey.TheVariants.{Aes128}
use Rattle.mbj_types.specs.declared.class.HashName.{HashName}
use Rattle.mbj_types.specs.declared.class.HashName.TheVariants.{Sha1}
use Rattle.mbj_types.specs.declared.kind.Kind.{Kind}
use Rattle.mbj_types.specs.declared.kind.Kind.TheVariants as kind
use Rattle.mbj_types.specs.Auths.{IsCmac, class_of, cmac_kind, hash_kind}
use Rattle.mbj_stage.specs.declared.stage.Stage.TheVariants as stage
use Rattle.mbj_stage.specs.declared.stage.Step.{Step}
use Rattle.mbj_stage.specs.declared.stage.Step.TheVariants as step
use Rattle.mbj_stage.specs.Families.{cmac_lanes, cmac_stage}
use Rattle.mbj_stage.specs.Handing.{left_behind}
use Rattle.mbj_stage.specs.Steps.{auth_stage_by, by_key, cbc_kind, ccm_kind, cipher_stage_by, stage_at, step_of}
use Rattle.mbj_stage.specs.Inside.Kept.{IsNextStep}

-- ---- the packet has no part in it

pub stage-packet : (j : Job) (p : List ℕ) (left : List Step) → stage_at (record j { packet = p }) left ≡ stage_at j left
stage-packet j p [] = refl
stage-packet j p (step.Cipher ∷ left) = refl
stage-packet j p (step.Auth ∷ left) = refl
stage-packet j p (step.Gcm ∷ left) = refl
stage-packet j p (step.CcmMac ∷ left) = refl
stage-packet j p (step.CcmText ∷ left) = refl
stage-packet j p (step.Gmac ∷ left) = refl

-- nor have nonce and additional data
pub stage-texts : (j : Job) (iv aad : List ℕ) (left : List Step) → stage_at (record j { iv = iv; aad = aad }) left ≡ stage_at j left
stage-texts j iv aad [] = refl
stage-texts j iv aad (step.Cipher ∷ left) = refl
stage-texts j iv aad (step.Auth ∷ left) = refl
stage-texts j iv aad (step.Gcm ∷ left) = refl
stage-texts j iv aad (step.CcmMac ∷ left) = refl
stage-texts j iv aad (step.CcmText ∷ left) = refl
stage-texts j iv aad (step.Gmac ∷ left) = refl

-- a job of which parts are out has its stages
pub stage-left_behind : (j : Job) (left : List Step) → stage_at (left_behind left j) left ≡ stage_at j left
stage-left_behind j [] = refl
stage-left_behind j (step.Cipher ∷ left) = refl
stage-left_behind j (step.Auth ∷ left) = refl
stage-left_behind j (step.Gcm ∷ left) = refl
stage-left_behind j (step.CcmMac ∷ left) = refl
stage-left_behind j (step.CcmText ∷ left) = refl
stage-left_behind j (step.Gmac ∷ left) = refl

-- the steps after the first have no part in it
pub stage-first : (j : Job) (s : Step) (left : List Step) → stage_at j (s ∷ left) ≡ stage_at j (s ∷ [])
stage-first j step.Cipher left = refl
stage-first j step.Auth left = refl
stage-first j step.Gcm left = refl
stage-first j step.CcmMac left = refl
stage-first j step.CcmText left = refl
stage-first j step.Gmac left = refl

-- ---- a step that is left isn't finished

cipher-left : (c : Cipher) (d : Dir) (n : ℕ) → cipher_stage_by c d n ≢ stage.Finished
cipher-left cipher.Null d n e = cc
cipher-left cipher.Cbc Enc n e = cc
cipher-left cipher.Cbc Dec n e = cc
cipher-left cipher.Ctr d n e = cc
cipher-left cipher.Gcm d n e = cc
cipher-left cipher.Ccm d n e = cc

auth-left : (a : AuthClass) → auth_stage_by a ≢ stage.Finished
auth-left class.Null e = cc
auth-left (class.Hmac hash) e = cc
auth-left (class.Cmac key) e = cc
auth-left class.Gcm e = cc
auth-left class.Ccm e = cc
auth-left (class.Plain hash) e = cc
auth-left class.Gmac e = cc
auth-left (class.States hash) e = cc

-- if the stage is finished no step is left
pub finished-left : (j : Job) (left : List Step) → stage_at j left ≡ stage.Finished → left ≡ []
finished-left j [] h = refl
finished-left j (step.Cipher ∷ left) h = absurd (cipher-left j.cipher j.dir (length j.key) h)
finished-left j (step.Auth ∷ left) h = absurd (auth-left (class_of j.auth) h)
finished-left j (step.Gcm ∷ left) h = absurd (cc)
finished-left j (step.CcmMac ∷ left) h = absurd (cc)
finished-left j (step.CcmText ∷ left) h = absurd (cc)
finished-left j (step.Gmac ∷ left) h = absurd (cc)

-- ---- CBC

-- CBC that is done at once decrypts
pub cbc-now : (c : Cipher) (d : Dir) (n : ℕ) → c ≡ cipher.Cbc → cipher_stage_by c d n ≡ stage.Now → d ≡ Dec
cbc-now cipher.Null d n e h = absurd (cc)
cbc-now cipher.Cbc Enc n e h = absurd (cc)
cbc-now cipher.Cbc Dec n e h = refl
cbc-now cipher.Ctr d n e h = absurd (cc)
cbc-now cipher.Gcm d n e h = absurd (cc)
cbc-now cipher.Ccm d n e h = absurd (cc)

-- a cipher in lanes is CBC encryption
pub record IsEncryption (c : Cipher) (d : Dir) (n : ℕ) (k : Kind) : Type 0 where
  pub cbc : c ≡ cipher.Cbc
  pub enc : d ≡ Enc
  pub kind : cbc_kind n ≡ k

pub cipher-lane : (c : Cipher) (d : Dir) (n : ℕ) (k : Kind) → cipher_stage_by c d n ≡ stage.Lane k → IsEncryption c d n k
cipher-lane cipher.Null d n k h = absurd (cc)
cipher-lane cipher.Cbc Enc n k h = record { cbc = refl; enc = refl; kind = cc }
cipher-lane cipher.Cbc Dec n k h = absurd (cc)
cipher-lane cipher.Ctr d n k h = absurd (cc)
cipher-lane cipher.Gcm d n k h = absurd (cc)
cipher-lane cipher.Ccm d n k h = absurd (cc)

-- ---- the step of each kind

-- what holds of each of three kinds holds of the one by the key
pub each-by_key : (P : Kind → Type 0) (n : ℕ) (a b c : Kind) → P a → P b → P c → P (by_key n a b c)
each-by_key P n a b c pa pb pc =
    cond_both (n == 16) a (if n == 24 then b else c) P (λ _. pa) (λ _. cond_both (n == 24) b c P (λ _. pb) (λ _. pc))

cbc-step : (n : ℕ) → step_of (cbc_kind n) ≡ step.Cipher
cbc-step n = each-by_key (λ k. step_of k ≡ step.Cipher) n kind.Cbc128 kind.Cbc192 kind.Cbc256 refl refl refl

ccm-step : (n : ℕ) → step_of (ccm_kind n) ≡ step.CcmMac
ccm-step n = each-by_key (λ k. step_of k ≡ step.CcmMac) n kind.Ccm128 kind.Ccm192 kind.Ccm256 refl refl refl

hash-step : (h : HashName) → step.Auth ≡ step_of (hash_kind h)
hash-step Sha1 = refl
hash-step _ = refl

cmac-step : (k : CmacKey) → step.Auth ≡ step_of (cmac_kind k)
cmac-step Aes128 = refl
cmac-step _ = refl

auth-step : (a : AuthClass) (k : Kind) → auth_stage_by a ≡ stage.Lane k → step.Auth ≡ step_of k
auth-step class.Null k h = absurd (cc)
auth-step (class.Hmac hash) k h = let e : hash_kind hash ≡ k = cc in hash-step hash ∙ ap step_of e
auth-step (class.Cmac key) k h = let e : cmac_kind key ≡ k = cc in cmac-step key ∙ ap step_of e
auth-step class.Gcm k h = absurd (cc)
auth-step class.Ccm k h = absurd (cc)
auth-step (class.Plain hash) k h = let e : hash_kind hash ≡ k = cc in hash-step hash ∙ ap step_of e
auth-step class.Gmac k h = absurd (cc)
auth-step (class.States hash) k h = let e : hash_kind hash ≡ k = cc in hash-step hash ∙ ap step_of e

-- if a stage in a kind's lanes is next, its step is the first
pub first-step : (j : Job) (left : List Step) (k : Kind) → stage_at j left ≡ stage.Lane k → IsNextStep (step_of k) left
first-step j [] k h = absurd (cc)
first-step j (step.Cipher ∷ left) k h = sym (cbc-step (length j.key)) ∙ ap step_of (cipher-lane j.cipher j.dir (length j.key) k h).kind
first-step j (step.Auth ∷ left) k h = auth-step (class_of j.auth) k h
first-step j (step.Gcm ∷ left) k h = absurd (cc)
first-step j (step.CcmMac ∷ left) k h = let e : ccm_kind (length j.key) ≡ k = cc in sym (ccm-step (length j.key)) ∙ ap step_of e
first-step j (step.CcmText ∷ left) k h = absurd (cc)
first-step j (step.Gmac ∷ left) k h = absurd (cc)

-- if the first step is the authentication, its stage is next
pub auth-first : (j : Job) (left : List Step) → IsNextStep step.Auth left → stage_at j left ≡ auth_stage_by (class_of j.auth)
auth-first j [] h = absurd h
auth-first j (step.Cipher ∷ left) h = absurd (cc)
auth-first j (step.Auth ∷ left) h = refl
auth-first j (step.Gcm ∷ left) h = absurd (cc)
auth-first j (step.CcmMac ∷ left) h = absurd (cc)
auth-first j (step.CcmText ∷ left) h = absurd (cc)
auth-first j (step.Gmac ∷ left) h = absurd (cc)

pub cipher-first : (j : Job) (left : List Step) → IsNextStep step.Cipher left → stage_at j left ≡ cipher_stage_by j.cipher j.dir (length j.key)
cipher-first j [] h = absurd h
cipher-first j (step.Cipher ∷ left) h = refl
cipher-first j (step.Auth ∷ left) h = absurd (cc)
cipher-first j (step.Gcm ∷ left) h = absurd (cc)
cipher-first j (step.CcmMac ∷ left) h = absurd (cc)
cipher-first j (step.CcmText ∷ left) h = absurd (cc)
cipher-first j (step.Gmac ∷ left) h = absurd (cc)

pub ccm-first : (j : Job) (left : List Step) → IsNextStep step.CcmMac left → stage_at j left ≡ stage.Lane (ccm_kind (length j.key))
ccm-first j [] h = absurd h
ccm-first j (step.Cipher ∷ left) h = absurd (cc)
ccm-first j (step.Auth ∷ left) h = absurd (cc)
ccm-first j (step.Gcm ∷ left) h = absurd (cc)
ccm-first j (step.CcmMac ∷ left) h = refl
ccm-first j (step.CcmText ∷ left) h = absurd (cc)
ccm-first j (step.Gmac ∷ left) h = absurd (cc)

pub first-some : (s : Step) (left : List Step) → IsNextStep s left → left ≢ []
first-some s [] h = absurd h
first-some s (t ∷ left) h = λ e. cc

-- ---- CMAC

-- a hash has another kind
hash-else : (h : HashName) (n : ℕ) → hash_kind h ≢ cmac_lanes n
hash-else h n = cond_both (n == 10) kind.Cmac128 kind.Cmac256 (λ k. hash_kind h ≢ k) (λ _. of128 h) (λ _. of256 h)
  where
    of128 : (h : HashName) → hash_kind h ≢ kind.Cmac128
    of128 Sha1 e = cc
    of128 _ e = cc

    of256 : (h : HashName) → hash_kind h ≢ kind.Cmac256
    of256 Sha1 e = cc
    of256 _ e = cc

-- the authentication of a kind's lanes of CMAC
pub cmac-auth : (a : AuthClass) (n : ℕ) → auth_stage_by a ≡ cmac_stage n → IsCmac a
cmac-auth class.Null n h = absurd (cc)
cmac-auth (class.Hmac hash) n h = absurd (let e : hash_kind hash ≡ cmac_lanes n = cc in hash-else hash n e)
cmac-auth (class.Cmac key) n h = tt
cmac-auth class.Gcm n h = absurd (cc)
cmac-auth class.Ccm n h = absurd (cc)
cmac-auth (class.Plain hash) n h = absurd (let e : hash_kind hash ≡ cmac_lanes n = cc in hash-else hash n e)
cmac-auth class.Gmac n h = absurd (cc)
cmac-auth (class.States hash) n h = absurd (let e : hash_kind hash ≡ cmac_lanes n = cc in hash-else hash n e)
