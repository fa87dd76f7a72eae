-- What it means that texts are opened by their tags: nothing here rests on a test of bytes.
use Rattle.std.specs.Prelude.{◌≡◌, ◌≢◌, ℕ, true, false, List, length, replicate, Result, Ok, Err}
use Rattle.mbj_types.specs.Aes.{aes}
use Rattle.mbj_types.specs.Ccm.{ccm}
use Rattle.mbj_types.specs.Gcm.{gcm, takes_tag}
use Rattle.mbj_c.specs.declared.refusal.Refusal.{Refusal}
use Rattle.mbj_c.specs.declared.refusal.Refusal.TheVariants.{WrongTag}
use Rattle.mbj_c.specs.Direct.{Pair, ccm_accepts, ccm_opened, cut_to, gcm_accepts, gcm_opened}

-- a text came with a tag, and `made` are the plaintext and the tag that it should have come with
pub record IsOpenedByTag (made : Pair) (tag text : List ℕ) (after : Result Unit Refusal × List ℕ) : Type 0 where
  pub right : tag ≡ made.1 → after ≡ (Ok tt, made.0)
  pub wrong : tag ≢ made.1 → after ≡ (Err WrongTag, replicate (length text) 0)

abbrev pub GcmOpensByTags : Type 0
GcmOpensByTags =
    (key iv aad text tag : List ℕ) → gcm_accepts key iv ≡ Ok tt → takes_tag (length tag) ≡ true
    → IsOpenedByTag (cut_to (length tag) (gcm (aes key) iv aad text false)) tag text (gcm_opened key iv aad text tag)

abbrev pub CcmOpensByTags : Type 0
CcmOpensByTags =
    (key nonce aad text tag : List ℕ) → ccm_accepts (length key) (length nonce) (length aad) (length text) (length tag) ≡ Ok tt
    → IsOpenedByTag (cut_to (length tag) (ccm (aes key) nonce aad text (length tag) false)) tag text (ccm_opened key nonce aad text tag)
