-- Which word a code is: it stands at the code in its list.
use Rattle.std.specs.Prelude.{List, [], ◌∷◌}
use Rattle.mbj_types.specs.declared.job.Cipher.{Cipher}
use Rattle.mbj_types.specs.declared.job.Cipher.TheVariants as cipher
use Rattle.mbj_types.specs.declared.job.Dir.{Dir}
use Rattle.mbj_types.specs.declared.job.Dir.TheVariants as dir
use Rattle.mbj_types.specs.declared.job.Order.{Order}
use Rattle.mbj_types.specs.declared.job.Order.TheVariants as order
use Rattle.mbj_types.specs.declared.job.Auth.{Auth}
use Rattle.mbj_types.specs.declared.job.Auth.TheVariants as auth
use Rattle.mbj_types.specs.declared.class.HashName.{HashName}
use Rattle.mbj_types.specs.declared.class.HashName.TheVariants as hash

abbrev pub ciphers : List Cipher
ciphers = cipher.Null ∷ cipher.Cbc ∷ cipher.Ctr ∷ cipher.Gcm ∷ cipher.Ccm ∷ []

abbrev pub dirs : List Dir
dirs = dir.Enc ∷ dir.Dec ∷ []

abbrev pub orders : List Order
orders = order.CipherHash ∷ order.HashCipher ∷ []

abbrev pub auths : List Auth
auths =
    auth.Null ∷ auth.HmacSha1 ∷ auth.HmacSha224 ∷ auth.HmacSha256 ∷ auth.HmacSha384 ∷ auth.HmacSha512
    ∷ auth.Cmac128 ∷ auth.Cmac256 ∷ auth.Gcm ∷ auth.Gmac ∷ auth.Ccm
    ∷ auth.Sha1 ∷ auth.Sha224 ∷ auth.Sha256 ∷ auth.Sha384 ∷ auth.Sha512
    ∷ auth.HmacSha1States ∷ auth.HmacSha224States ∷ auth.HmacSha256States ∷ auth.HmacSha384States ∷ auth.HmacSha512States ∷ []

abbrev pub hashes : List HashName
hashes = hash.Sha1 ∷ hash.Sha224 ∷ hash.Sha256 ∷ hash.Sha384 ∷ hash.Sha512 ∷ []
