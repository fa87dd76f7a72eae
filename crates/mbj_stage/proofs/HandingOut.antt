-- A course that hands its packet out, by its fields.
use Rattle.std.proofs.Common.{◌≡◌, ◌≢◌, ℕ, ◌+◌, ◌/◌, ◌==◌, true, ◌⊎◌, inl, inr, List, [], ◌∷◌, length, Option, Some, None, refl, sym, ap, ap₂, ◌∙◌, subst, arith}
use Rattle.std.specs.List.{All}
use Rattle.std.proofs.lemmas.Bool.{cond_both, eqb-true}
use Rattle.std.proofs.lemmas.List.Elements.{All-head}
use Rattle.mbj_types.specs.declared.job.Job.{Job}
use Rattle.mbj_types.specs.declared.class.AuthClass.{AuthClass}
use Rattle.mbj_types.specs.declared.class.AuthClass.TheVariants as class
use Rattle.mbj_types.specs.declared.class.CmacKey.{CmacKey}
use Rattle.mbj_types.specs.declared.class.CmacKey.TheVariants.{Aes128, Aes256}
use Rattle.mbj_types.specs.declared.job.Cipher.{Cipher}
use Rattle.mbj_types.specs.declared.job.Cipher.TheVariants as cipher
use Rattle.mbj_types.specs.declared.job.Dir.TheVariants.{Enc}
use Rattle.mbj_types.specs.declared.kind.Kind.{Kind}
use Rattle.mbj_types.specs.declared.kind.Kind.TheVariants as kind
use Rattle.mbj_types.specs.declared.reason.Reason.{Reason}
use Rattle.mbj_types.specs.Aes.{round_count}
use Rattle.mbj_types.specs.Auths.{IsCmac, class_of, cmac_key_bytes, cmac_kind}
use Rattle.mbj_types.specs.Result.{ciphered, mac_by}
use Rattle.mbj_types.specs.Verdict.{takes_auth_key, takes_key, verdict, verdict_at}
use Rattle.mbj_aes.specs.Bytes.{IsKeySize, IsRoundCount}
use Rattle.mbj_aes.proofs.KeySizes.{key_sizes}
use Rattle.mbj_args.proofs.Accepted.{accepted}
use Rattle.mbj_stage.specs.declared.stage.Stage.TheVariants as stage
use Rattle.mbj_stage.specs.declared.stage.Step.{Step}
use Rattle.mbj_stage.specs.declared.stage.Step.TheVariants as step
use Rattle.mbj_stage.specs.Families.{by_rounds, cbc_lanes, cbc_stage, ccm_lanes, ccm_stage, cmac_lanes, cmac_stage}
use Rattle.mbj_stage.specs.Laws.{each-by_rounds}
use Rattle.mbj_stage.specs.Steps.{auth_stage_by, by_key, ccm_kind, stage_at, step_of}
use Rattle.mbj_stage.specs.Inside.Kept.{IsNextStep, IsSound, IsStepOf, has_texts, packet_length}
use Rattle.mbj_stage.specs.declared.lengths.Lengths.{Lengths}
use Rattle.mbj_stage.specs.CourseState.{owed, sized}
use Rattle.mbj_stage.specs.Handing.{End, handed_out, left_behind, owed_with}
use Rattle.mbj_stage.proofs.Handings.{IsCcmEnd, going, owes-ccm, owes-text, owes-mac}
use Rattle.mbj_stage.proofs.PacketLengths.{length-ciphered}
use Rattle.mbj_stage.proofs.Soundness.{verdict-sized}
use Rattle.mbj_stage.proofs.Packets.{ciphered-packet, mac_by-packet}
use Rattle.mbj_stage.proofs.StagesOf.{auth-first, ccm-first, cipher-first, cipher-lane, cmac-auth, first-some, first-step}

-- ---- what is owed

-- what is left of a job by the step that its entry does
left-cipher : (j : Job) (left : List Step) → IsNextStep step.Cipher left → left_behind left j ≡ record j { packet = [] }
left-cipher j [] h = absurd h
left-cipher j (step.Cipher ∷ left) h = refl
left-cipher j (step.Auth ∷ left) h = absurd (cc)
left-cipher j (step.Gcm ∷ left) h = absurd (cc)
left-cipher j (step.CcmMac ∷ left) h = absurd (cc)
left-cipher j (step.CcmText ∷ left) h = absurd (cc)
left-cipher j (step.Gmac ∷ left) h = absurd (cc)

left-auth : (j : Job) (left : List Step) → IsNextStep step.Auth left → left_behind left j ≡ record j { packet = [] }
left-auth j [] h = absurd h
left-auth j (step.Cipher ∷ left) h = absurd (cc)
left-auth j (step.Auth ∷ left) h = refl
left-auth j (step.Gcm ∷ left) h = absurd (cc)
left-auth j (step.CcmMac ∷ left) h = absurd (cc)
left-auth j (step.CcmText ∷ left) h = absurd (cc)
left-auth j (step.Gmac ∷ left) h = absurd (cc)

left-ccm : (j : Job) (left : List Step) → IsNextStep step.CcmMac left → left_behind left j ≡ record j { packet = []; iv = []; aad = [] }
left-ccm j [] h = absurd h
left-ccm j (step.Cipher ∷ left) h = absurd (cc)
left-ccm j (step.Auth ∷ left) h = absurd (cc)
left-ccm j (step.Gcm ∷ left) h = absurd (cc)
left-ccm j (step.CcmMac ∷ left) h = refl
left-ccm j (step.CcmText ∷ left) h = absurd (cc)
left-ccm j (step.Gmac ∷ left) h = absurd (cc)

-- a course by its fields once its packet went out
out-is : (n : Lengths) (j : Job) (q tag : List ℕ) (reason : Option Reason) (left : List Step) (out : Option ℕ) (m : ℕ) → q ≡ [] → m ≡ length j.packet
    → left_behind left j ≡ record j { packet = [] }
    → going n (record j { packet = q }) tag reason left (Some m) ≡ handed_out (going n j tag reason left out)
out-is n j q tag reason left out m none len behind =
    ap₂ (λ (x : List ℕ) (l : ℕ). going n (record j { packet = x }) tag reason left (Some l)) none len
    ∙ ap (λ (x : Job). going n x tag reason left (Some (length j.packet))) (sym behind)

pub text-is-out : (n : Lengths) (j : Job) (q tag : List ℕ) (reason : Option Reason) (left : List Step) (out : Option ℕ) (m : ℕ) → q ≡ [] → m ≡ length j.packet
    → IsNextStep step.Cipher left → going n (record j { packet = q }) tag reason left (Some m) ≡ handed_out (going n j tag reason left out)
text-is-out n j q tag reason left out m none len first = out-is n j q tag reason left out m none len (left-cipher j left first)

pub mac-is-out : (n : Lengths) (j : Job) (q tag : List ℕ) (reason : Option Reason) (left : List Step) (out : Option ℕ) (m : ℕ) → q ≡ [] → m ≡ length j.packet
    → IsNextStep step.Auth left → going n (record j { packet = q }) tag reason left (Some m) ≡ handed_out (going n j tag reason left out)
mac-is-out n j q tag reason left out m none len first = out-is n j q tag reason left out m none len (left-auth j left first)

pub ccm-is-out : (n : Lengths) (j : Job) (q iv aad tag : List ℕ) (reason : Option Reason) (left : List Step) (out : Option ℕ) (m : ℕ) → q ≡ [] → iv ≡ [] → aad ≡ []
    → m ≡ length j.packet → IsNextStep step.CcmMac left
    → going n (record j { packet = q; iv = iv; aad = aad }) tag reason left (Some m) ≡ handed_out (going n j tag reason left out)
ccm-is-out n j q iv aad tag reason left out m none no_iv no_aad len first =
    ap₂ (λ (x y : List ℕ). going n (record j { packet = q; iv = x; aad = y }) tag reason left (Some m)) no_iv no_aad
    ∙ ap₂ (λ (x : List ℕ) (l : ℕ). going n (record j { packet = x; iv = []; aad = [] }) tag reason left (Some l)) none len
    ∙ ap (λ (x : Job). going n x tag reason left (Some (length j.packet))) (sym (left-ccm j left first))

-- with a packet out that is ciphered
pub text-out : (n : Lengths) (j : Job) (q tag : List ℕ) (reason : Option Reason) (left : List Step) (out : Option ℕ) (m : ℕ) (e : End) → q ≡ []
    → m ≡ length j.packet → IsNextStep step.Cipher left → e.packet ≡ ciphered (record j { packet = q }) j.packet
    → owed_with e (going n (record j { packet = q }) tag reason left (Some m)) ≡ owed (going n j tag reason left out)
text-out n j q tag reason left out m e none len first is =
    ap (owed_with e) (text-is-out n j q tag reason left out m none len first)
    ∙ owes-text (going n j tag reason left out) e first (is ∙ ciphered-packet j j.packet q)

-- with a packet out that is authenticated
pub mac-out : (n : Lengths) (j : Job) (q tag : List ℕ) (reason : Option Reason) (left : List Step) (out : Option ℕ) (m : ℕ) (e : End) → q ≡ []
    → m ≡ length j.packet → IsNextStep step.Auth left → e.packet ≡ j.packet
    → e.mac ≡ mac_by (class_of j.auth) (record j { packet = q }) j.packet
    → owed_with e (going n (record j { packet = q }) tag reason left (Some m)) ≡ owed (going n j tag reason left out)
mac-out n j q tag reason left out m e none len first is mac =
    ap (owed_with e) (mac-is-out n j q tag reason left out m none len first)
    ∙ owes-mac (going n j tag reason left out) e first is (mac ∙ mac_by-packet (class_of j.auth) j j.packet q)

-- with a packet out over which CCM's MAC is made
pub ccm-out : (n : Lengths) (j : Job) (q iv aad tag : List ℕ) (reason : Option Reason) (left : List Step) (out : Option ℕ) (m : ℕ) (e : End) → q ≡ [] → iv ≡ [] → aad ≡ []
    → m ≡ length j.packet → IsNextStep step.CcmMac left → IsCcmEnd j e
    → owed_with e (going n (record j { packet = q; iv = iv; aad = aad }) tag reason left (Some m)) ≡ owed (going n j tag reason left out)
ccm-out n j q iv aad tag reason left out m e none no_iv no_aad len first is =
    ap (owed_with e) (ccm-is-out n j q iv aad tag reason left out m none no_iv no_aad len first)
    ∙ owes-ccm (going n j tag reason left out) e first is

-- the ciphered packet is as long
pub ciphered-long : (j : Job) (q : List ℕ) → verdict j ≡ None → length (ciphered (record j { packet = q }) j.packet) ≡ length j.packet
ciphered-long j q none = ap length (ciphered-packet j j.packet q) ∙ length-ciphered j none

-- ---- the keys of AES

lane-kind : (a b : Kind) → stage.Lane a ≡ stage.Lane b → a ≡ b
lane-kind a b h = cc

-- three kinds apart
pub record AreThree (a b c : Kind) : Type 0 where
  pub first : a ≢ b
  pub second : b ≢ c
  pub third : a ≢ c

same-kinds : (a b c : Kind) (key k n m : ℕ) → key ≡ k → n ≡ m → by_key key a b c ≡ by_rounds n a b c → by_key k a b c ≡ by_rounds m a b c
same-kinds a b c key k n m e f h = ap (λ (x : ℕ). by_key x a b c) (sym e) ∙ h ∙ ap (λ (x : ℕ). by_rounds x a b c) f

-- the rounds of the kind's keys
kind-rounds : (a b c : Kind) (key n : ℕ) → AreThree a b c → (key ≡ 16) ⊎ ((key ≡ 24) ⊎ (key ≡ 32)) → IsRoundCount n → by_key key a b c ≡ by_rounds n a b c → key / 4 + 6 ≡ n
kind-rounds a b c key n d (inl e) (inl f) h = omega arith
kind-rounds a b c key n d (inl e) (inr (inl f)) h = absurd (d.first (same-kinds a b c key 16 n 12 e f h))
kind-rounds a b c key n d (inl e) (inr (inr f)) h = absurd (d.third (same-kinds a b c key 16 n 14 e f h))
kind-rounds a b c key n d (inr (inl e)) (inl f) h = absurd (d.first (sym (same-kinds a b c key 24 n 10 e f h)))
kind-rounds a b c key n d (inr (inl e)) (inr (inl f)) h = omega arith
kind-rounds a b c key n d (inr (inl e)) (inr (inr f)) h = absurd (d.second (same-kinds a b c key 24 n 14 e f h))
kind-rounds a b c key n d (inr (inr e)) (inl f) h = absurd (d.third (sym (same-kinds a b c key 32 n 10 e f h)))
kind-rounds a b c key n d (inr (inr e)) (inr (inl f)) h = absurd (d.second (sym (same-kinds a b c key 32 n 12 e f h)))
kind-rounds a b c key n d (inr (inr e)) (inr (inr f)) h = omega arith

cbc-three : AreThree kind.Cbc128 kind.Cbc192 kind.Cbc256
cbc-three = record { first = λ e. cc; second = λ e. cc; third = λ e. cc }

ccm-three : AreThree kind.Ccm128 kind.Ccm192 kind.Ccm256
ccm-three = record { first = λ e. cc; second = λ e. cc; third = λ e. cc }

-- ---- a course whose next stage is CBC encryption with keys of n rounds

pub record IsCbcNext (j : Job) (left : List Step) (n : ℕ) : Type 0 where
  pub first : IsNextStep step.Cipher left
  pub cbc : j.cipher ≡ cipher.Cbc
  pub enc : j.dir ≡ Enc
  pub rounds : round_count j.key ≡ n
  pub accepted : verdict j ≡ None

pub cbc-kinds : (n : ℕ) → step_of (cbc_lanes n) ≡ step.Cipher
cbc-kinds n = each-by_rounds (λ k. step_of k ≡ step.Cipher) n kind.Cbc128 kind.Cbc192 kind.Cbc256 refl refl refl

-- an accepted job whose packet is there
pub here-accepted : (j : Job) (left : List Step) (out : Option ℕ) (m : Lengths) → IsSound j left out m → out ≡ None → left ≢ [] → verdict j ≡ None
here-accepted j left out m sound here some =
    sym (verdict-sized j m (length j.packet) (sound.lengths some (ap (λ (o : Option ℕ). has_texts o left) here)))
    ∙ ap (λ (o : Option ℕ). verdict_at (sized m j) (packet_length o j.packet)) (sym here)
    ∙ sound.accepted some

pub cbc-next : (j : Job) (left : List Step) (out : Option ℕ) (m : Lengths) (n : ℕ) → IsRoundCount n → IsSound j left out m → out ≡ None
    → stage_at j left ≡ cbc_stage n → IsCbcNext j left n
cbc-next j left out m n count sound here next =
    let first = subst (λ (s : Step). IsNextStep s left) (cbc-kinds n) (first-step j left _ next) in
    let lane = sym (cipher-first j left first) ∙ next in
    let is = cipher-lane j.cipher j.dir (length j.key) _ lane in
    let none = here-accepted j left out m sound here (first-some step.Cipher left first) in
    let key : IsKeySize (length j.key) = ap (λ (c : Cipher). takes_key c (length j.key)) (sym is.cbc) ∙ (accepted j (length j.packet) none).key in
    record {
      first = first;
      cbc = is.cbc;
      enc = is.enc;
      rounds = kind-rounds kind.Cbc128 kind.Cbc192 kind.Cbc256 (length j.key) n cbc-three (key_sizes (length j.key) key) count is.kind;
      accepted = none;
    }

-- ---- a course whose next stage is HMAC

-- ---- a course whose next stage is CMAC with keys of n rounds

pub record IsCmacNext (j : Job) (left : List Step) (n : ℕ) : Type 0 where
  pub first : IsNextStep step.Auth left
  pub cmac : IsCmac (class_of j.auth)
  pub rounds : round_count j.auth_key ≡ n
  pub accepted : verdict j ≡ None

pub cmac-kinds : (n : ℕ) → step_of (cmac_lanes n) ≡ step.Auth
cmac-kinds n = cond_both (n == 10) kind.Cmac128 kind.Cmac256 (λ k. step_of k ≡ step.Auth) (λ _. refl) (λ _. refl)

-- the rounds of each CMAC's keys
key-rounds : (k : CmacKey) (key n : ℕ) → (n ≡ 10) ⊎ (n ≡ 14) → key ≡ cmac_key_bytes k → stage.Lane (cmac_kind k) ≡ cmac_stage n → key / 4 + 6 ≡ n
key-rounds Aes128 key n (inl b) k h = omega arith
key-rounds Aes128 key n (inr b) k h = absurd (let e = h ∙ ap cmac_stage b in cc)
key-rounds Aes256 key n (inl b) k h = absurd (let e = h ∙ ap cmac_stage b in cc)
key-rounds Aes256 key n (inr b) k h = omega arith

cmac-rounds : (a : AuthClass) (key n : ℕ) → (n ≡ 10) ⊎ (n ≡ 14) → takes_auth_key a key ≡ true → auth_stage_by a ≡ cmac_stage n → key / 4 + 6 ≡ n
cmac-rounds class.Null key n count k h = absurd (cmac-auth class.Null n h)
cmac-rounds (class.Hmac hash) key n count k h = absurd (cmac-auth (class.Hmac hash) n h)
cmac-rounds (class.Cmac of) key n count k h = key-rounds of key n count (eqb-true key (cmac_key_bytes of) k) h
cmac-rounds class.Gcm key n count k h = absurd (cmac-auth class.Gcm n h)
cmac-rounds class.Ccm key n count k h = absurd (cmac-auth class.Ccm n h)
cmac-rounds (class.Plain hash) key n count k h = absurd (cmac-auth (class.Plain hash) n h)
cmac-rounds class.Gmac key n count k h = absurd (cmac-auth class.Gmac n h)
cmac-rounds (class.States hash) key n count k h = absurd (cmac-auth (class.States hash) n h)

pub cmac-next : (j : Job) (left : List Step) (out : Option ℕ) (m : Lengths) (n : ℕ) → (n ≡ 10) ⊎ (n ≡ 14) → IsSound j left out m → out ≡ None
    → stage_at j left ≡ cmac_stage n → IsCmacNext j left n
cmac-next j left out m n count sound here next =
    let first = subst (λ (s : Step). IsNextStep s left) (cmac-kinds n) (first-step j left _ next) in
    let lane = sym (auth-first j left first) ∙ next in
    let none = here-accepted j left out m sound here (first-some step.Auth left first) in
    record {
      first = first;
      cmac = cmac-auth (class_of j.auth) n lane;
      rounds = cmac-rounds (class_of j.auth) (length j.auth_key) n count (accepted j (length j.packet) none).auth_key lane;
      accepted = none;
    }

-- ---- a course whose next stage is CCM's MAC with keys of n rounds

pub record IsCcmNext (j : Job) (left : List Step) (n : ℕ) : Type 0 where
  pub first : IsNextStep step.CcmMac left
  pub ccm : j.cipher ≡ cipher.Ccm
  pub rounds : round_count j.key ≡ n
  pub accepted : verdict j ≡ None

pub ccm-kinds : (n : ℕ) → step_of (ccm_lanes n) ≡ step.CcmMac
ccm-kinds n = each-by_rounds (λ k. step_of k ≡ step.CcmMac) n kind.Ccm128 kind.Ccm192 kind.Ccm256 refl refl refl

-- the first of the steps is one of the job's
own-first : (j : Job) (left : List Step) → All (IsStepOf j) left → IsNextStep step.CcmMac left → j.cipher ≡ cipher.Ccm
own-first j [] own h = absurd h
own-first j (step.Cipher ∷ left) own h = absurd (cc)
own-first j (step.Auth ∷ left) own h = absurd (cc)
own-first j (step.Gcm ∷ left) own h = absurd (cc)
own-first j (step.CcmMac ∷ left) own h = All-head (IsStepOf j) step.CcmMac left own
own-first j (step.CcmText ∷ left) own h = absurd (cc)
own-first j (step.Gmac ∷ left) own h = absurd (cc)

pub ccm-next : (j : Job) (left : List Step) (out : Option ℕ) (m : Lengths) (n : ℕ) → IsRoundCount n → IsSound j left out m → out ≡ None
    → stage_at j left ≡ ccm_stage n → IsCcmNext j left n
ccm-next j left out m n count sound here next =
    let first = subst (λ (s : Step). IsNextStep s left) (ccm-kinds n) (first-step j left _ next) in
    let lane : stage.Lane (ccm_kind (length j.key)) ≡ ccm_stage n = sym (ccm-first j left first) ∙ next in
    let none = here-accepted j left out m sound here (first-some step.CcmMac left first) in
    let ccm = own-first j left sound.own first in
    let key : IsKeySize (length j.key) = ap (λ (c : Cipher). takes_key c (length j.key)) (sym ccm) ∙ (accepted j (length j.packet) none).key in
    record {
      first = first;
      ccm = ccm;
      rounds = kind-rounds kind.Ccm128 kind.Ccm192 kind.Ccm256 (length j.key) n ccm-three (key_sizes (length j.key) key) count (lane-kind _ _ lane);
      accepted = none;
    }
