-- Digests and HMACs, which are done in the lanes of their hash.
use Rattle.std.proofs.Common.{◌≡◌, ◌≢◌, ℕ, ◌*◌, ◌≤◌, Bool, true, false, ◌||◌, IfSome, IsTrue, List, refl, sym, ap, ◌∙◌, subst, arith}
use Rattle.std.specs.Prelude.{if◌then◌else◌}
use Rattle.std.proofs.lemmas.Bool.{cond_both, eqb-true}
use Rattle.mbj_types.specs.Auths.{compression_of_name, hash_in, is_from_states, is_plain, plain_hash_in, states_hash_in}
use Rattle.mbj_types.specs.Hmac.{hmac}
use Rattle.mbj_types.specs.States.{hmac_from_states}
use Rattle.mbj_types.specs.Result.{hash_range, mac_by}
use Rattle.mbj_types.specs.Verdict.{has_hash_range, takes_auth_key}
use Rattle.mbj_types.specs.Rounds.{auth_rounds, hash_rounds, hmac_rounds, states_rounds}
use Rattle.mbj_types.specs.declared.class.AuthClass.{AuthClass}
use Rattle.mbj_types.specs.declared.class.AuthClass.TheVariants as class
use Rattle.mbj_types.specs.declared.class.HashName.{HashName}
use Rattle.mbj_types.specs.declared.job.Job.{Job}
use Rattle.mbj_hmac.specs.Names.{serves_class, serves_plain_class, serves_states_class, serves_lanes_class}
use Rattle.mbj_hmac.specs.Begun.{value_of}
use Rattle.mbj_hmac.specs.Rounds.{Hashing}
use Rattle.mbj_stage.specs.declared.stage.Stage.TheVariants as stage
use Rattle.mbj_stage.specs.Steps.{auth_stage_by}

either-left : (x y : Bool) → x || y ≡ true → y ≡ false → x ≡ true
either-left true y t f = refl
either-left false y t f = absurd (cc)

either-right : (x y : Bool) → x || y ≡ true → x ≡ false → y ≡ true
either-right true y t f = absurd (cc)
either-right false y t f = t

module _ (h : Hashing) (a : AuthClass) where
  -- the digest or the HMAC from states of a hash that is served
  abbrev others : AuthClass → Bool
  others c = serves_plain_class h c || serves_states_class h c

  -- an HMAC that is served, a digest, and an HMAC from states
  pub keyed-served : (n : HashName) → a ≡ class.Hmac n → IsTrue (serves_lanes_class h a) → IsTrue (serves_class h a)
  keyed-served n e t = either-left (serves_class h a) (others a) t (ap others e)

  pub plain-served : (n : HashName) → a ≡ class.Plain n → IsTrue (serves_lanes_class h a) → IsTrue (serves_plain_class h a)
  plain-served n e t =
      either-left (serves_plain_class h a) (serves_states_class h a) (either-right (serves_class h a) (others a) t (ap (serves_class h) e)) (ap (serves_states_class h) e)

  pub states-served : (n : HashName) → a ≡ class.States n → IsTrue (serves_lanes_class h a) → IsTrue (serves_states_class h a)
  states-served n e t =
      either-right (serves_plain_class h a) (serves_states_class h a) (either-right (serves_class h a) (others a) t (ap (serves_class h) e)) (ap (serves_plain_class h) e)

-- a digest or an HMAC has a round at least
pub auth-some : (a : AuthClass) (b n : ℕ) → 1 ≤ auth_rounds a b n
auth-some a b n =
    let keyed : ℕ = if is_from_states a then states_rounds b n else hmac_rounds b n in
    cond_both (is_plain a) (hash_rounds b n) keyed (λ r. 1 ≤ r) (λ _. omega arith)
    (λ _. cond_both (is_from_states a) (states_rounds b n) (hmac_rounds b n) (λ r. 1 ≤ r) (λ _. omega arith) (λ _. omega arith))

-- what is served is done in lanes
pub hash-in-lanes : (h : Hashing) (a : AuthClass) → IsTrue (serves_lanes_class h a) → auth_stage_by a ≢ stage.Now
hash-in-lanes h class.Null t e = absurd (cc)
hash-in-lanes h (class.Hmac hash) t e = cc
hash-in-lanes h (class.Cmac key) t e = absurd (cc)
hash-in-lanes h class.Gcm t e = absurd (cc)
hash-in-lanes h class.Ccm t e = absurd (cc)
hash-in-lanes h (class.Plain hash) t e = cc
hash-in-lanes h class.Gmac t e = absurd (cc)
hash-in-lanes h (class.States hash) t e = cc

module _ (a : AuthClass) (n : HashName) (j : Job) (p tag : List ℕ) where
  -- an HMAC with the hash of its authentication is that authentication's value
  pub keyed_is_mac : a ≡ class.Hmac n → IfSome (hash_in a) (λ h. tag ≡ hmac h j.auth_key (hash_range j p)) → tag ≡ mac_by a j p
  keyed_is_mac e is =
      let Is : AuthClass → Type 0 = λ c. IfSome (hash_in c) (λ h. tag ≡ hmac h j.auth_key (hash_range j p)) in
      subst Is e is ∙ sym (ap (λ (c : AuthClass). mac_by c j p) e)

  -- and so is a digest
  pub plain_is_mac : a ≡ class.Plain n → IfSome (plain_hash_in a) (λ h. tag ≡ h.digest (hash_range j p)) → tag ≡ mac_by a j p
  plain_is_mac e is =
      let Is : AuthClass → Type 0 = λ c. IfSome (plain_hash_in c) (λ h. tag ≡ h.digest (hash_range j p)) in
      subst Is e is ∙ sym (ap (λ (c : AuthClass). mac_by c j p) e)

  -- and so is an HMAC from states
  pub states_is_mac : a ≡ class.States n → IfSome (states_hash_in a) (λ c. tag ≡ hmac_from_states c j.auth_key (hash_range j p)) → tag ≡ mac_by a j p
  states_is_mac e is =
      let Is : AuthClass → Type 0 = λ c. IfSome (states_hash_in c) (λ k. tag ≡ hmac_from_states k j.auth_key (hash_range j p)) in
      subst Is e is ∙ sym (ap (λ (c : AuthClass). mac_by c j p) e)

-- the states of a job that is accepted have their length
pub states-length : (a : AuthClass) (n : HashName) (len : ℕ) → a ≡ class.States n → takes_auth_key a len ≡ true
    → IfSome (states_hash_in a) (λ c. len ≡ 2 * c.state_bytes)
states-length a n len e t =
    let OfStates : AuthClass → Type 0 = λ b. IfSome (states_hash_in b) (λ c. len ≡ 2 * c.state_bytes) in
    subst OfStates (sym e) (eqb-true len (2 * (compression_of_name n).state_bytes) (sym (ap (λ (b : AuthClass). takes_auth_key b len) e) ∙ t))

-- ---- by the class of what is served

pub served-length : (a : AuthClass) (len : ℕ) → takes_auth_key a len ≡ true → IfSome (states_hash_in a) (λ c. len ≡ 2 * c.state_bytes)
served-length class.Null len t = tt
served-length (class.Hmac n) len t = tt
served-length (class.Cmac k) len t = tt
served-length class.Gcm len t = tt
served-length class.Ccm len t = tt
served-length (class.Plain n) len t = tt
served-length class.Gmac len t = tt
served-length (class.States n) len t = eqb-true len (2 * (compression_of_name n).state_bytes) t

module _ (h : Hashing) where
  -- it has a range that is hashed
  pub served-range : (a : AuthClass) → IsTrue (serves_lanes_class h a) → has_hash_range a ≡ true
  served-range class.Null t = absurd (cc)
  served-range (class.Hmac n) t = refl
  served-range (class.Cmac k) t = absurd (cc)
  served-range class.Gcm t = absurd (cc)
  served-range class.Ccm t = absurd (cc)
  served-range (class.Plain n) t = refl
  served-range class.Gmac t = absurd (cc)
  served-range (class.States n) t = refl

  -- its value is that of the job's authentication
  pub value_is_mac : (a : AuthClass) (j : Job) (p : List ℕ) → IsTrue (serves_lanes_class h a) → value_of a j.auth_key (hash_range j p) ≡ mac_by a j p
  value_is_mac class.Null j p t = absurd (cc)
  value_is_mac (class.Hmac n) j p t = refl
  value_is_mac (class.Cmac k) j p t = absurd (cc)
  value_is_mac class.Gcm j p t = absurd (cc)
  value_is_mac class.Ccm j p t = absurd (cc)
  value_is_mac (class.Plain n) j p t = refl
  value_is_mac class.Gmac j p t = absurd (cc)
  value_is_mac (class.States n) j p t = refl
