-- Jobs that are drawn from a state, a number of 64 bits. What draws answers what it drew, and the state after it.
use Rattle.std.specs.Prelude.{◌+◌, ◌-◌, ◌*◌, ◌/◌, ◌%◌, ◌^◌, ◌==◌, ℕ, zero, suc, List, [], ◌∷◌, if◌then◌else◌, get_or}
use Rattle.mbj_types.specs.Auths.{class_of, cmac_key_bytes, compression_of_name}
use Rattle.mbj_types.specs.Blank.{blank}
use Rattle.mbj_types.specs.declared.class.AuthClass.{AuthClass}
use Rattle.mbj_types.specs.declared.class.AuthClass.TheVariants as class
use Rattle.mbj_types.specs.declared.job.Job.{Job}
use Rattle.mbj_types.specs.declared.job.Cipher.{Cipher}
use Rattle.mbj_types.specs.declared.job.Cipher.TheVariants as cipher
use Rattle.mbj_types.specs.declared.job.Dir.TheVariants.{Enc, Dec}
use Rattle.mbj_types.specs.declared.job.Order.TheVariants.{CipherHash, HashCipher}
use Rattle.mbj_types.specs.declared.job.Auth.{Auth}
use Rattle.mbj_types.specs.declared.job.Auth.TheVariants as auth

-- ---- draws

-- a byte: the highest of the next state of a linear congruential generator
unfoldable pub byte : ℕ → ℕ × ℕ
byte x = let next = (x * 6364136223846793005 + 1442695040888963407) % 2 ^ 64 in (next / 2 ^ 56, next)

-- n draws, one after another
unfoldable pub draws : {A : Type 0} → (ℕ → A × ℕ) → ℕ → ℕ → List A × ℕ
draws draw zero x = ([], x)
draws draw (suc n) x = let first = draw x in let rest = draws draw n first.1 in (first.0 ∷ rest.0, rest.1)

-- the length n, or up to 15 less
unfoldable pub drawn_length : ℕ → ℕ → ℕ × ℕ
drawn_length n x = let b = byte x in (n - b.0 % 16, b.1)

-- ---- the kinds of jobs

-- a cipher, an authentication, and the length of the tag
abbrev pub recipes : List (Cipher × Auth × ℕ)
recipes =
    (cipher.Null, auth.HmacSha1, 20)
    ∷ (cipher.Null, auth.HmacSha224, 28)
    ∷ (cipher.Null, auth.HmacSha256, 32)
    ∷ (cipher.Null, auth.HmacSha384, 48)
    ∷ (cipher.Null, auth.HmacSha512, 64)
    ∷ (cipher.Null, auth.Cmac128, 16)
    ∷ (cipher.Null, auth.Cmac256, 16)
    ∷ (cipher.Cbc, auth.Null, 0)
    ∷ (cipher.Ctr, auth.Null, 0)
    ∷ (cipher.Gcm, auth.Gcm, 16)
    ∷ (cipher.Cbc, auth.HmacSha1, 20)
    ∷ (cipher.Cbc, auth.HmacSha256, 32)
    ∷ (cipher.Cbc, auth.Cmac128, 16)
    ∷ (cipher.Ctr, auth.HmacSha512, 64)
    ∷ (cipher.Ctr, auth.HmacSha384, 48)
    ∷ []

-- what a draw stands for: one in 16 stands for none of these, and asks for a tag that is longer than it may be
abbrev pub recipe_of : ℕ → Cipher × Auth × ℕ
recipe_of b = get_or recipes (b % 16) (cipher.Null, auth.Null, 1)

-- ---- the parts of a job whose packet has n bytes; no recipe has CCM, whose parts would be as long as those of GCM

abbrev pub iv_length : Cipher → ℕ → ℕ × ℕ
iv_length cipher.Null x = (0, x)
iv_length cipher.Cbc x = (16, x)
iv_length cipher.Ctr x = let b = byte x in (if b.0 % 2 == 0 then 16 else 12, b.1)
iv_length cipher.Gcm x = (12, x)
iv_length cipher.Ccm x = (12, x)

abbrev pub cipher_length : Cipher → ℕ → ℕ → ℕ × ℕ
cipher_length cipher.Null n x = (0, x)
cipher_length cipher.Cbc n x = (n, x)
cipher_length cipher.Ctr n x = drawn_length n x
cipher_length cipher.Gcm n x = drawn_length n x
cipher_length cipher.Ccm n x = drawn_length n x

-- a key of 16, 24 or 32 bytes, an IV and a range
unfoldable pub keyed : ℕ → Job → ℕ → Job × ℕ
keyed n j x =
    let b = byte x in
    let key = draws byte (16 + 8 * (b.0 % 3)) b.1 in
    let size = iv_length j.cipher key.1 in
    let iv = draws byte size.0 size.1 in
    let len = cipher_length j.cipher n iv.1 in
    (record j { key = key.0; iv = iv.0; cipher_len = len.0 }, len.1)

abbrev pub with_cipher_part : Cipher → ℕ → Job → ℕ → Job × ℕ
with_cipher_part cipher.Null n j x = (j, x)
with_cipher_part cipher.Cbc n j x = keyed n j x
with_cipher_part cipher.Ctr n j x = keyed n j x
with_cipher_part cipher.Gcm n j x = keyed n j x
with_cipher_part cipher.Ccm n j x = keyed n j x

-- a key of k bytes and a range
unfoldable pub with_hash_part : ℕ → ℕ → Job → ℕ → Job × ℕ
with_hash_part k n j x =
    let key = draws byte k x in
    let len = drawn_length n key.1 in
    (record j { auth_key = key.0; hash_len = len.0 }, len.1)

-- a key of up to 255 bytes and a range
abbrev pub hmac_keyed : ℕ → Job → ℕ → Job × ℕ
hmac_keyed n j x = let b = byte x in with_hash_part b.0 n j b.1

-- up to 63 bytes of additional authenticated data
abbrev pub with_aad : Job → ℕ → Job × ℕ
with_aad j x = let b = byte x in let aad = draws byte (b.0 % 64) b.1 in (record j { aad = aad.0 }, aad.1)

abbrev pub with_auth_part : AuthClass → ℕ → Job → ℕ → Job × ℕ
with_auth_part class.Null n j x = (j, x)
with_auth_part (class.Hmac h) n j x = hmac_keyed n j x
with_auth_part (class.Cmac k) n j x = with_hash_part (cmac_key_bytes k) n j x
with_auth_part class.Gcm n j x = with_aad j x
with_auth_part class.Ccm n j x = with_aad j x
with_auth_part (class.Plain h) n j x = with_hash_part 0 n j x
with_auth_part class.Gmac n j x = with_hash_part 16 n j x
with_auth_part (class.States h) n j x = with_hash_part (2 * (compression_of_name h).state_bytes) n j x

-- ---- the job

-- a job without its parts
unfoldable pub bare : ℕ → Job × ℕ
bare x =
    let kind = byte x in
    let dir = byte kind.1 in
    let order = byte dir.1 in
    let recipe = recipe_of kind.0 in (
      record blank {
        cipher = recipe.0;
        dir = if dir.0 % 2 == 0 then Enc else Dec;
        order = if order.0 % 2 == 0 then CipherHash else HashCipher;
        auth = recipe.1;
        tag_len = recipe.2;
      },
      order.1,
    )

-- the next job
unfoldable pub job : ℕ → Job × ℕ
job x =
    let j = bare x in
    let b = byte j.1 in
    let n = 16 * (1 + b.0 % 32) in
    let ciphered = with_cipher_part j.0.cipher n j.0 b.1 in
    let authenticated = with_auth_part (class_of ciphered.0.auth) n ciphered.0 ciphered.1 in
    let packet = draws byte n authenticated.1 in
    (record authenticated.0 { packet = packet.0 }, packet.1)
