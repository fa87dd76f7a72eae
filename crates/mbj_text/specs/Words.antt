-- The words of job lines and script lines.
use Rattle.std.specs.Prelude.{ℕ, List, codes}
use Rattle.mbj_types.specs.declared.job.Cipher.{Cipher}
use Rattle.mbj_types.specs.declared.job.Cipher.TheVariants as cipher
use Rattle.mbj_types.specs.declared.job.Dir.{Dir}
use Rattle.mbj_types.specs.declared.job.Dir.TheVariants.{Enc, Dec}
use Rattle.mbj_types.specs.declared.job.Order.{Order}
use Rattle.mbj_types.specs.declared.job.Order.TheVariants.{CipherHash, HashCipher}
use Rattle.mbj_types.specs.declared.job.Auth.{Auth}
use Rattle.mbj_types.specs.declared.job.Auth.TheVariants as auth
use Rattle.mbj_text.specs.declared.command.Verb.{Verb}
use Rattle.mbj_text.specs.declared.command.Verb.TheVariants.{Post, Claim, Flush, Collect}

abbrev pub cipher_word : Cipher → List ℕ
cipher_word cipher.Null = codes "null"
cipher_word cipher.Cbc = codes "cbc"
cipher_word cipher.Ctr = codes "ctr"
cipher_word cipher.Gcm = codes "gcm"
cipher_word cipher.Ccm = codes "ccm"

abbrev pub dir_word : Dir → List ℕ
dir_word Enc = codes "enc"
dir_word Dec = codes "dec"

abbrev pub order_word : Order → List ℕ
order_word CipherHash = codes "ch"
order_word HashCipher = codes "hc"

abbrev pub auth_word : Auth → List ℕ
auth_word auth.Null = codes "null"
auth_word auth.HmacSha1 = codes "hmac-sha1"
auth_word auth.HmacSha224 = codes "hmac-sha224"
auth_word auth.HmacSha256 = codes "hmac-sha256"
auth_word auth.HmacSha384 = codes "hmac-sha384"
auth_word auth.HmacSha512 = codes "hmac-sha512"
auth_word auth.Cmac128 = codes "cmac128"
auth_word auth.Cmac256 = codes "cmac256"
auth_word auth.Gcm = codes "gcm"
auth_word auth.Ccm = codes "ccm"
auth_word auth.Sha1 = codes "sha1"
auth_word auth.Sha224 = codes "sha224"
auth_word auth.Sha256 = codes "sha256"
auth_word auth.Sha384 = codes "sha384"
auth_word auth.Sha512 = codes "sha512"
auth_word auth.Gmac = codes "gmac"
auth_word auth.HmacSha1States = codes "hmac-sha1-states"
auth_word auth.HmacSha224States = codes "hmac-sha224-states"
auth_word auth.HmacSha256States = codes "hmac-sha256-states"
auth_word auth.HmacSha384States = codes "hmac-sha384-states"
auth_word auth.HmacSha512States = codes "hmac-sha512-states"

-- the word of a session line
abbrev pub session_word : List ℕ
session_word = codes "session"

abbrev pub verb_word : Verb → List ℕ
verb_word Post = codes "post"
verb_word Claim = codes "claim"
verb_word Flush = codes "flush"
verb_word Collect = codes "collect"
