-- How many rounds a job takes in the lanes of its kind.
use Rattle.std.specs.Prelude.{ℕ, ◌+◌, ◌/◌, nat_eq, length, max, if◌then◌else◌}
use Rattle.mbj_types.specs.Auths.{class_of, is_from_states, is_plain}
use Rattle.mbj_types.specs.declared.class.AuthClass.{AuthClass}
use Rattle.mbj_types.specs.declared.job.Job.{Job}
use Rattle.mbj_types.specs.declared.kind.Kind.{Kind}
use Rattle.mbj_types.specs.declared.kind.Kind.TheVariants.{Cbc128, Cbc192, Cbc256, Cmac128, Cmac256, HmacSha1, HmacSha256, HmacSha512, Ccm128, Ccm192, Ccm256}

-- CBC over a text of n bytes: one for each block
abbrev pub cbc_rounds : ℕ → ℕ
cbc_rounds n = n / 16

-- CMAC over a message of n bytes: one for each block, of which the empty message has one
abbrev pub cmac_rounds : ℕ → ℕ
cmac_rounds n = max 1 ((n + 15) / 16)

-- a message of n bytes, by a hash with blocks of b bytes, whose padding is a byte, zeros, and a bit length of b / 8 bytes: one for
-- each block of the padded message
abbrev pub hash_rounds : ℕ → ℕ → ℕ
hash_rounds b n = (n + b / 8) / b + 1

-- HMAC over it: one more for the inner pad, one for the outer pad, and one for the block that holds the inner digest
abbrev pub hmac_rounds : ℕ → ℕ → ℕ
hmac_rounds b n = hash_rounds b n + 3

-- HMAC over it from states, behind which a block lies already: one more for the block that holds the inner digest
abbrev pub states_rounds : ℕ → ℕ → ℕ
states_rounds b n = hash_rounds b n + 1

-- a digest, an HMAC from states, or an HMAC
abbrev pub auth_rounds : AuthClass → ℕ → ℕ → ℕ
auth_rounds c b n =
    if is_plain c then hash_rounds b n
    else if is_from_states c then states_rounds b n
    else hmac_rounds b n

-- CCM's additional data of a bytes: one for each block of it and the 2 bytes of its length, and none if there is no data
abbrev pub data_rounds : ℕ → ℕ
data_rounds a = if nat_eq a 0 then 0 else (a + 2 + 15) / 16

-- CCM's MAC over additional data of a bytes and a text of n bytes: one for the first block, those of the data, and one for each block
-- of the text
abbrev pub ccm_rounds : ℕ → ℕ → ℕ
ccm_rounds a n = 1 + data_rounds a + (n + 15) / 16

abbrev pub rounds_of : Kind → Job → ℕ
rounds_of Cbc128 j = cbc_rounds j.cipher_len
rounds_of Cbc192 j = cbc_rounds j.cipher_len
rounds_of Cbc256 j = cbc_rounds j.cipher_len
rounds_of Cmac128 j = cmac_rounds j.hash_len
rounds_of Cmac256 j = cmac_rounds j.hash_len
rounds_of HmacSha1 j = auth_rounds (class_of j.auth) 64 j.hash_len
rounds_of HmacSha256 j = auth_rounds (class_of j.auth) 64 j.hash_len
rounds_of HmacSha512 j = auth_rounds (class_of j.auth) 128 j.hash_len
rounds_of Ccm128 j = ccm_rounds (length j.aad) j.cipher_len
rounds_of Ccm192 j = ccm_rounds (length j.aad) j.cipher_len
rounds_of Ccm256 j = ccm_rounds (length j.aad) j.cipher_len
