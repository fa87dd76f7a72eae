-- What ciphers make of packets, and that a job's own packet has no part in it.
use Rattle.std.proofs.Common.{◌≡◌, ℕ, ◌+◌, ◌-◌, false, List, ◌++◌, take, drop, refl, sym, ap, ap₂, ◌∙◌, arith}
use Rattle.std.proofs.lemmas.List.{append_assoc, drop-drop}
use Rattle.mbj_types.specs.declared.job.Job.{Job}
use Rattle.mbj_types.specs.declared.job.Cipher.{Cipher}
use Rattle.mbj_types.specs.declared.job.Cipher.TheVariants as cipher
use Rattle.mbj_types.specs.declared.job.Dir.{Dir}
use Rattle.mbj_types.specs.declared.job.Dir.TheVariants.{Enc, Dec}
use Rattle.mbj_types.specs.Auths.{class_of}
use Rattle.mbj_types.specs.declared.class.AuthClass.{AuthClass}
use Rattle.mbj_types.specs.declared.class.AuthClass.TheVariants as class
use Rattle.mbj_types.specs.Verdict.{is_null_cipher}
use Rattle.mbj_types.specs.Result.{cipher_range, with_cipher_range, gcm_of, ccm_of, ciphered, ciphered_by, mac_by, tag_over}
use Rattle.mbj_stage.specs.declared.stage.Step.{Step}
use Rattle.mbj_stage.specs.declared.stage.Step.TheVariants as step
use Rattle.mbj_stage.specs.CourseState.{packet_after, tag_after}
use Rattle.mbj_stage.specs.Inside.Texts.{other_text}

-- ---- the cipher range

-- a cipher replaces the cipher range by its other text
ciphered_by-text : (c : Cipher) (d : Dir) (j : Job) (p : List ℕ) → is_null_cipher c ≡ false → j.dir ≡ d
    → ciphered_by c d j p ≡ with_cipher_range j (other_text c d j (cipher_range j p)) p
unfolding gcm_of ccm_of
ciphered_by-text cipher.Null d j p h e = absurd (cc)
ciphered_by-text cipher.Cbc Enc j p h e = refl
ciphered_by-text cipher.Cbc Dec j p h e = refl
ciphered_by-text cipher.Ctr d j p h e = refl
ciphered_by-text cipher.Gcm d j p h e = refl
ciphered_by-text cipher.Ccm d j p h e = refl

-- a packet whose cipher range has become its other text is the ciphered packet
pub ciphered-range : (c : Cipher) (j : Job) (p text : List ℕ) → j.cipher ≡ c → is_null_cipher c ≡ false
    → text ≡ other_text c j.dir j (take (j.cipher_off + j.cipher_len - j.cipher_off) (drop j.cipher_off p))
    → take j.cipher_off p ++ (text ++ drop (j.cipher_off + j.cipher_len - j.cipher_off) (drop j.cipher_off p)) ≡ ciphered j p
unfolding ciphered
ciphered-range c j p text is h e =
    let len : j.cipher_off + j.cipher_len - j.cipher_off ≡ j.cipher_len = omega arith in
    let from : List ℕ = drop j.cipher_off p in
    let text_is : text ≡ other_text c j.dir j (cipher_range j p) = e ∙ ap (λ (n : ℕ). other_text c j.dir j (take n from)) len in
    let rest_is : drop (j.cipher_off + j.cipher_len - j.cipher_off) from ≡ drop (j.cipher_off + j.cipher_len) p =
    ap (λ (n : ℕ). drop n from) len ∙ drop-drop j.cipher_len j.cipher_off p in
    ap₂ (λ (x y : List ℕ). take j.cipher_off p ++ (x ++ y)) text_is rest_is
    ∙ sym (append_assoc (take j.cipher_off p) (other_text c j.dir j (cipher_range j p)) (drop (j.cipher_off + j.cipher_len) p))
    ∙ sym (ciphered_by-text c j.dir j p h refl)
    ∙ ap (λ (x : Cipher). ciphered_by x j.dir j p) (sym is)

-- ---- the job's own packet

ciphered_by-packet : (c : Cipher) (d : Dir) (j : Job) (p q : List ℕ) → ciphered_by c d (record j { packet = q }) p ≡ ciphered_by c d j p
unfolding gcm_of ccm_of
ciphered_by-packet cipher.Null d j p q = refl
ciphered_by-packet cipher.Cbc Enc j p q = refl
ciphered_by-packet cipher.Cbc Dec j p q = refl
ciphered_by-packet cipher.Ctr d j p q = refl
ciphered_by-packet cipher.Gcm d j p q = refl
ciphered_by-packet cipher.Ccm d j p q = refl

pub ciphered-packet : (j : Job) (p q : List ℕ) → ciphered (record j { packet = q }) p ≡ ciphered j p
unfolding ciphered
ciphered-packet j p q = ciphered_by-packet j.cipher j.dir j p q

pub mac_by-packet : (a : AuthClass) (j : Job) (p q : List ℕ) → mac_by a (record j { packet = q }) p ≡ mac_by a j p
unfolding gcm_of ccm_of
mac_by-packet class.Null j p q = refl
mac_by-packet (class.Hmac h) j p q = refl
mac_by-packet (class.Cmac key) j p q = refl
mac_by-packet class.Gcm j p q = refl
mac_by-packet class.Ccm j p q = refl
mac_by-packet (class.Plain hash) j p q = refl
mac_by-packet class.Gmac j p q = refl
mac_by-packet (class.States hash) j p q = refl

pub tag_over-packet : (j : Job) (p q : List ℕ) → tag_over (record j { packet = q }) p ≡ tag_over j p
unfolding tag_over
tag_over-packet j p q = ap (take j.tag_len) (mac_by-packet (class_of j.auth) j p q)

-- what a step makes of a packet, whatever packet the job has
pub packet_after-packet : (s : Step) (j : Job) (p q : List ℕ) → packet_after s (record j { packet = q }) p ≡ packet_after s j p
packet_after-packet step.Cipher j p q = ciphered-packet j p q
packet_after-packet step.Auth j p q = refl
packet_after-packet step.Gcm j p q = ciphered-packet j p q
packet_after-packet step.CcmMac j p q = refl
packet_after-packet step.CcmText j p q = ciphered-packet j p q
packet_after-packet step.Gmac j p q = refl

-- the tag after a step, whatever packet the job has
pub tag_after-packet : (s : Step) (j : Job) (p q tag : List ℕ) → tag_after s (record j { packet = q }) p tag ≡ tag_after s j p tag
tag_after-packet step.Cipher j p q tag = refl
tag_after-packet step.Auth j p q tag = tag_over-packet j p q
tag_after-packet step.Gcm j p q tag = tag_over-packet j p q
tag_after-packet step.CcmMac j p q tag = refl
tag_after-packet step.CcmText j p q tag = refl
tag_after-packet step.Gmac j p q tag = tag_over-packet j p q
