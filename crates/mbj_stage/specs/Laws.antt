-- What the kernels of kinds prove of their kinds.
use Rattle.std.proofs.Common.{◌≡◌, ℕ, ◌==◌, IsTrue, refl}
use Rattle.std.specs.Prelude.{if◌then◌else◌}
use Rattle.std.proofs.lemmas.Bool.{cond_both}
use Rattle.mbj_types.specs.Kinds.{lanes_of}
use Rattle.mbj_types.specs.declared.class.AuthClass.{AuthClass}
use Rattle.mbj_types.specs.declared.class.AuthClass.TheVariants as class
use Rattle.mbj_types.specs.declared.class.CmacKey.TheVariants.{Aes128}
use Rattle.mbj_types.specs.declared.class.HashName.TheVariants.{Sha1, Sha224, Sha256, Sha384, Sha512}
use Rattle.mbj_types.specs.declared.kind.TheConstants.{AES_LANES}
use Rattle.mbj_types.specs.declared.kind.Kind.{Kind}
use Rattle.mbj_types.specs.declared.kind.Kind.TheVariants as kind
use Rattle.mbj_hmac.specs.Hashings.{sha1_hashing, sha256_hashing, sha512_hashing}
use Rattle.mbj_hmac.specs.Names.{serves_lanes_class}
use Rattle.mbj_stage.specs.declared.stage.Stage.TheVariants as stage
use Rattle.mbj_stage.specs.Steps.{auth_stage_by}
use Rattle.mbj_stage.specs.Families.{by_rounds, cbc_lanes, ccm_lanes, cmac_lanes}

-- ---- lanes

-- what holds of each of three kinds holds of the one by rounds
pub each-by_rounds : (P : Kind → Type 0) (n : ℕ) (a b c : Kind) → P a → P b → P c → P (by_rounds n a b c)
each-by_rounds P n a b c pa pb pc =
    cond_both (n == 10) a (if n == 12 then b else c) P (λ _. pa) (λ _. cond_both (n == 12) b c P (λ _. pb) (λ _. pc))

pub cbc-lanes : (n : ℕ) → AES_LANES ≡ lanes_of (cbc_lanes n)
cbc-lanes n = each-by_rounds (λ k. AES_LANES ≡ lanes_of k) n kind.Cbc128 kind.Cbc192 kind.Cbc256 refl refl refl

pub ccm-lanes : (n : ℕ) → AES_LANES ≡ lanes_of (ccm_lanes n)
ccm-lanes n = each-by_rounds (λ k. AES_LANES ≡ lanes_of k) n kind.Ccm128 kind.Ccm192 kind.Ccm256 refl refl refl

pub cmac-lanes : (n : ℕ) → AES_LANES ≡ lanes_of (cmac_lanes n)
cmac-lanes n = cond_both (n == 10) kind.Cmac128 kind.Cmac256 (λ k. AES_LANES ≡ lanes_of k) (λ _. refl) (λ _. refl)

-- ---- the authentications of each kind of hashes

pub sha1-serves : (a : AuthClass) → auth_stage_by a ≡ stage.Lane kind.HmacSha1 → IsTrue (serves_lanes_class sha1_hashing a)
sha1-serves (class.Hmac Sha1) h = refl
sha1-serves (class.Hmac _) h = absurd (cc)
sha1-serves (class.Plain Sha1) h = refl
sha1-serves (class.Plain _) h = absurd (cc)
sha1-serves (class.States Sha1) h = refl
sha1-serves (class.States _) h = absurd (cc)
sha1-serves (class.Cmac Aes128) h = absurd (cc)
sha1-serves (class.Cmac _) h = absurd (cc)
sha1-serves _ h = absurd (cc)

pub sha256-serves : (a : AuthClass) → auth_stage_by a ≡ stage.Lane kind.HmacSha256 → IsTrue (serves_lanes_class sha256_hashing a)
sha256-serves (class.Hmac Sha224) h = refl
sha256-serves (class.Hmac Sha256) h = refl
sha256-serves (class.Hmac _) h = absurd (cc)
sha256-serves (class.Plain Sha224) h = refl
sha256-serves (class.Plain Sha256) h = refl
sha256-serves (class.Plain _) h = absurd (cc)
sha256-serves (class.States Sha224) h = refl
sha256-serves (class.States Sha256) h = refl
sha256-serves (class.States _) h = absurd (cc)
sha256-serves (class.Cmac Aes128) h = absurd (cc)
sha256-serves (class.Cmac _) h = absurd (cc)
sha256-serves _ h = absurd (cc)

pub sha512-serves : (a : AuthClass) → auth_stage_by a ≡ stage.Lane kind.HmacSha512 → IsTrue (serves_lanes_class sha512_hashing a)
sha512-serves (class.Hmac Sha384) h = refl
sha512-serves (class.Hmac Sha512) h = refl
sha512-serves (class.Hmac _) h = absurd (cc)
sha512-serves (class.Plain Sha384) h = refl
sha512-serves (class.Plain Sha512) h = refl
sha512-serves (class.Plain _) h = absurd (cc)
sha512-serves (class.States Sha384) h = refl
sha512-serves (class.States Sha512) h = refl
sha512-serves (class.States _) h = absurd (cc)
sha512-serves (class.Cmac Aes128) h = absurd (cc)
sha512-serves (class.Cmac _) h = absurd (cc)
sha512-serves _ h = absurd (cc)
