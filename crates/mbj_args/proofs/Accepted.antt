-- What holds of a job that is accepted: no row of the argument table applies.
use Rattle.std.proofs.Common.{◌≡◌, ℕ, ◌+◌, ◌≤◌, Bool, true, false, cond, not, ◌&&◌, length, Option, Some, None, refl, sym}
use Rattle.std.proofs.lemmas.Bool.{ltb-false}
use Rattle.mbj_types.specs.declared.job.Job.{Job}
use Rattle.mbj_types.specs.declared.reason.Reason.{Reason}
use Rattle.mbj_types.specs.declared.limits.TheConstants.{MAX_PACKET_BYTES}
use Rattle.mbj_types.specs.Auths.{class_of}
use Rattle.mbj_types.specs.Verdict.{is_null_cipher, takes_key, takes_iv, takes_range, takes_aad, takes_auth_iv, takes_auth_key, has_hash_range, takes_tag, goes_with, verdict_at}

-- a job with a packet of n bytes, read off the rows
pub record IsAccepted (j : Job) (n : ℕ) : Type 0 where
  pub packet : n ≤ MAX_PACKET_BYTES
  pub pair : goes_with j.cipher (class_of j.auth) ≡ true
  pub key : takes_key j.cipher (length j.key) ≡ true
  pub iv : takes_iv j.cipher (length j.iv) ≡ true
  pub auth_iv : takes_auth_iv (class_of j.auth) (length j.iv) ≡ true
  pub cipher_range : is_null_cipher j.cipher ≡ false → j.cipher_off + j.cipher_len ≤ n
  pub cipher_len : takes_range j.cipher j.cipher_len ≡ true
  pub auth_key : takes_auth_key (class_of j.auth) (length j.auth_key) ≡ true
  pub hash_range : has_hash_range (class_of j.auth) ≡ true → j.hash_off + j.hash_len ≤ n
  pub aad : takes_aad j.cipher (length j.aad) ≡ true
  pub tag : takes_tag (class_of j.auth) j.tag_len ≡ true

-- a choice that is none took the second way
second_way : (b : Bool) (r : Reason) (rest : Option Reason) → cond b (Some r) rest ≡ None → (b ≡ false) × (rest ≡ None)
second_way true r rest h = absurd (cc)
second_way false r rest h = (refl, h)

not-false : (b : Bool) → not b ≡ false → b ≡ true
not-false true h = refl
not-false false h = sym h

and-false : (a b : Bool) → a && b ≡ false → a ≡ true → b ≡ false
and-false true b h t = h
and-false false b h t = absurd (cc)

not_and-false : (a b : Bool) → not a && b ≡ false → a ≡ false → b ≡ false
not_and-false true b h t = absurd (cc)
not_and-false false b h t = h

both : (a b : Bool) → a && b ≡ true → (a ≡ true) × (b ≡ true)
both true b h = (refl, h)
both false b h = absurd (cc)

-- if the verdict is none, no row applies
pub accepted : (j : Job) (n : ℕ) → verdict_at j n ≡ None → IsAccepted j n
accepted j n none =
    let packet = second_way _ _ _ none in
    let pair = second_way _ _ _ packet.1 in
    let key = second_way _ _ _ pair.1 in
    let iv = second_way _ _ _ key.1 in
    let ivs = both _ _ (not-false _ iv.0) in
    let cipher_range = second_way _ _ _ iv.1 in
    let cipher_len = second_way _ _ _ cipher_range.1 in
    let auth_key = second_way _ _ _ cipher_len.1 in
    let hash_range = second_way _ _ _ auth_key.1 in
    let aad = second_way _ _ _ hash_range.1 in
    let tag = second_way _ _ _ aad.1 in
    record {
      packet = ltb-false MAX_PACKET_BYTES n packet.0;
      pair = not-false _ pair.0;
      key = not-false _ key.0;
      iv = ivs.0;
      auth_iv = ivs.1;
      cipher_range = λ c. ltb-false n (j.cipher_off + j.cipher_len) (not_and-false (is_null_cipher j.cipher) _ cipher_range.0 c);
      cipher_len = not-false _ cipher_len.0;
      auth_key = not-false _ auth_key.0;
      hash_range = λ a. ltb-false n (j.hash_off + j.hash_len) (and-false (has_hash_range (class_of j.auth)) _ hash_range.0 a);
      aad = not-false _ aad.0;
      tag = not-false _ tag.0;
    }
