-- GMAC: what the argument table tells of a job that has it, and its tag.
use Rattle.std.proofs.Common.{◌≡◌, ℕ, ◌+◌, ◌<◌, ◌≤◌, true, [], ◌∷◌, List, take, refl, sym, ap, ◌∙◌}
use Rattle.mbj_types.specs.Aes.{aes}
use Rattle.mbj_types.specs.Auths.{class_of}
use Rattle.mbj_types.specs.Blocks.{blocks}
use Rattle.mbj_types.specs.Gcm.{gcm, gmac}
use Rattle.mbj_types.specs.Result.{hash_range, mac_by, tag_over}
use Rattle.mbj_types.specs.declared.class.AuthClass.{AuthClass}
use Rattle.mbj_types.specs.declared.class.AuthClass.TheVariants as class
use Rattle.mbj_types.specs.declared.job.Job.{Job}
use Rattle.mbj_stage.specs.declared.stage.Step.TheVariants as step
use Rattle.mbj_stage.specs.Steps.{auth_steps}

-- the one authentication with the step of GMAC
pub gmac_auth : (a : AuthClass) → auth_steps a ≡ step.Gmac ∷ [] → a ≡ class.Gmac
gmac_auth class.Null h = absurd (cc)
gmac_auth (class.Hmac hash) h = absurd (cc)
gmac_auth (class.Cmac key) h = absurd (cc)
gmac_auth class.Gcm h = absurd (cc)
gmac_auth class.Ccm h = absurd (cc)
gmac_auth (class.Plain hash) h = absurd (cc)
gmac_auth class.Gmac h = refl
gmac_auth (class.States hash) h = absurd (cc)

-- the tag of GCM over data and no text
pub sealed_nothing : (e : List ℕ → List ℕ) (iv aad : List ℕ) → (gcm e iv aad [] true).1 ≡ gmac e iv aad
unfolding blocks
sealed_nothing e iv aad = refl

-- the tag of GMAC over the hash range
pub gmac_is_tag : (j : Job) (p whole : List ℕ) → auth_steps (class_of j.auth) ≡ step.Gmac ∷ []
    → whole ≡ gmac (aes j.auth_key) j.iv (hash_range j p) → take j.tag_len whole ≡ tag_over j p
unfolding tag_over
gmac_is_tag j p whole steps e =
    ap (take j.tag_len) (e ∙ sym (ap (λ (c : AuthClass). mac_by c j p) (gmac_auth (class_of j.auth) steps)))
