use Rattle.std.proofs.Common.{◌≡◌, ◌∙◌, ◌≤◌, ◌<◌, ◌++◌, ◌-◌, List, ℕ, length, subst, arith, ap, sym, append-nil}
use Rattle.std.specs.Prelude.{replicate}
use Rattle.mbj_types.specs.Auths.{hash_of_name}
use Rattle.mbj_types.specs.Hmac.{Hash}
use Rattle.mbj_hmac.proofs.Keys.{block_at_most, filled_on, block_key-short, block_key-long}
use Rattle.mbj_hmac.proofs.key.hash_key.Goals as goal

pub returns-then-key-block_bytes : goal.returns-then-key-block_bytes
returns-then-key-block_bytes c =
    let hash : Hash = hash_of_name c.args.hash in
    let key : List ℕ = c.args.key.now in
    let short : length key ≤ hash.block_bytes = omega arith in
    c.filled.ensures ∙ filled_on key hash.block_bytes 128 short (block_at_most c.args.hash)
    ∙ ap (λ (k : List ℕ). k ++ replicate (128 - hash.block_bytes) 0) (sym (block_key-short hash key short))

pub returns-else-key-block_bytes : goal.returns-else-key-block_bytes
returns-else-key-block_bytes c =
    let hash : Hash = hash_of_name c.args.hash in
    let key : List ℕ = c.args.key.now in
    let long : hash.block_bytes < length key = omega arith in
    let digest_is : c.digest_of.result ≡ hash.digest key = c.digest_of.ensures.value ∙ ap hash.digest (append-nil key) in
    let Fits : List ℕ → Type 0 = λ d. length d ≤ hash.block_bytes in
    let fits : length (hash.digest key) ≤ hash.block_bytes = subst Fits digest_is c.digest_of.ensures.fits in
    let IsFilled : List ℕ → Type 0 = λ d. c.filled-else-key-block_bytes.result ≡ d ++ replicate (128 - length d) 0 in
    subst IsFilled (c.bytes.ensures.value ∙ digest_is) c.filled-else-key-block_bytes.ensures
    ∙ filled_on (hash.digest key) hash.block_bytes 128 fits (block_at_most c.args.hash)
    ∙ ap (λ (k : List ℕ). k ++ replicate (128 - hash.block_bytes) 0) (sym (block_key-long hash key long))
