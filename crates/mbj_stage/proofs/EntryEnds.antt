-- What a job's entries ask of it, and what they end with.
use Rattle.std.proofs.Common.{◌≡◌, ℕ, ◌+◌, ◌%◌, ◌<◌, ◌≤◌, ◌==◌, ◌&&◌, nat_le, nat_lt, length, List, ◌++◌, take, drop, None, sym, ap, ap₂, ◌∙◌}
use Rattle.std.proofs.lemmas.Bool.{and_parts, leb-true, ltb-true, eqb-true}
use Rattle.mbj_types.specs.declared.job.Job.{Job}
use Rattle.mbj_types.specs.declared.job.Cipher.{Cipher}
use Rattle.mbj_types.specs.declared.job.Cipher.TheVariants as cipher
use Rattle.mbj_types.specs.declared.job.Dir.{Dir}
use Rattle.mbj_types.specs.declared.job.Dir.TheVariants.{Enc}
use Rattle.mbj_types.specs.Aes.{aes}
use Rattle.mbj_types.specs.Modes.{cbc_text}
use Rattle.mbj_types.specs.Result.{ciphered, ciphered_by, range}
use Rattle.mbj_types.specs.Auths.{class_of}
use Rattle.mbj_types.specs.declared.class.AuthClass.{AuthClass}
use Rattle.mbj_types.specs.declared.class.AuthClass.TheVariants as class
use Rattle.mbj_types.specs.declared.limits.TheConstants.{MAX_PACKET_BYTES}
use Rattle.mbj_types.specs.declared.limits.ccm.TheConstants.{MAX_CCM_AAD_BYTES}
use Rattle.mbj_types.specs.Verdict.{goes_with, is_null_cipher, takes_aad, takes_iv, takes_key, takes_range, takes_tag, verdict_at}
use Rattle.mbj_aes.specs.Bytes.{IsKeySize}
use Rattle.mbj_args.proofs.Accepted.{accepted}
use Rattle.mbj_stage.proofs.Gcms.{ccm_both}

-- ---- CBC

-- what the argument table tells of CBC over a packet of n bytes
pub record IsCbc (j : Job) (n : ℕ) : Type 0 where
  pub key : IsKeySize (length j.key)
  pub range : j.cipher_off + j.cipher_len ≤ n
  pub some : 0 < j.cipher_len
  pub whole : j.cipher_len % 16 ≡ 0

pub cbc-accepted : (j : Job) (n : ℕ) → verdict_at j n ≡ None → j.cipher ≡ cipher.Cbc → IsCbc j n
cbc-accepted j n none cbc =
    let a = accepted j n none in
    let len = and_parts (nat_lt 0 j.cipher_len) (j.cipher_len % 16 == 0) (ap (λ (c : Cipher). takes_range c j.cipher_len) (sym cbc) ∙ a.cipher_len) in
    record {
      key = ap (λ (c : Cipher). takes_key c (length j.key)) (sym cbc) ∙ a.key;
      range = a.cipher_range (ap is_null_cipher cbc);
      some = ltb-true 0 j.cipher_len len.0;
      whole = eqb-true (j.cipher_len % 16) 0 len.1;
    }

-- a CBC encryption of the packet p
pub ciphered-cbc : (j : Job) (p : List ℕ) → j.cipher ≡ cipher.Cbc → j.dir ≡ Enc
    → take j.cipher_off p ++ cbc_text (aes j.key) j.iv (range j.cipher_off j.cipher_len p) ++ drop (j.cipher_off + j.cipher_len) p ≡ ciphered j p
unfolding ciphered
ciphered-cbc j p cbc enc = sym (ap₂ (λ (c : Cipher) (d : Dir). ciphered_by c d j p) cbc enc)

-- ---- CCM

-- what the argument table tells of CCM over a packet of n bytes
pub record IsCcm (j : Job) (n : ℕ) : Type 0 where
  pub packet : n ≤ MAX_PACKET_BYTES
  pub nonce_least : 7 ≤ length j.iv
  pub nonce_most : length j.iv ≤ 13
  pub aad : length j.aad ≤ MAX_CCM_AAD_BYTES
  pub range : j.cipher_off + j.cipher_len ≤ n
  pub key : IsKeySize (length j.key)
  pub tag_least : 4 ≤ j.tag_len
  pub tag_most : j.tag_len ≤ 16
  pub tag_even : j.tag_len % 2 ≡ 0

pub ccm-accepted : (j : Job) (n : ℕ) → verdict_at j n ≡ None → j.cipher ≡ cipher.Ccm → IsCcm j n
ccm-accepted j n none ccm =
    let a = accepted j n none in
    let iv = and_parts (nat_le 7 (length j.iv)) (nat_le (length j.iv) 13) (ap (λ (c : Cipher). takes_iv c (length j.iv)) (sym ccm) ∙ a.iv) in
    let auth : class_of j.auth ≡ class.Ccm = ccm_both (class_of j.auth) (ap (λ (c : Cipher). goes_with c (class_of j.auth)) (sym ccm) ∙ a.pair) in
    let tag = and_parts (nat_le 4 j.tag_len && nat_le j.tag_len 16) (j.tag_len % 2 == 0) (ap (λ (c : AuthClass). takes_tag c j.tag_len) (sym auth) ∙ a.tag) in
    let bounds = and_parts (nat_le 4 j.tag_len) (nat_le j.tag_len 16) tag.0 in
    record {
      packet = a.packet;
      nonce_least = leb-true 7 (length j.iv) iv.0;
      nonce_most = leb-true (length j.iv) 13 iv.1;
      aad = leb-true (length j.aad) MAX_CCM_AAD_BYTES (ap (λ (c : Cipher). takes_aad c (length j.aad)) (sym ccm) ∙ a.aad);
      range = a.cipher_range (ap is_null_cipher ccm);
      key = ap (λ (c : Cipher). takes_key c (length j.key)) (sym ccm) ∙ a.key;
      tag_least = leb-true 4 j.tag_len bounds.0;
      tag_most = leb-true j.tag_len 16 bounds.1;
      tag_even = eqb-true (j.tag_len % 2) 0 tag.1;
    }
