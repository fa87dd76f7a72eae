use Rattle.std.proofs.Common.{◌≡◌, ◌∙◌, ◌++◌, ◌-◌, List, ℕ, take, ap, ap₂}
use Rattle.mbj_types.specs.Auths.{hash_of_name}
use Rattle.mbj_types.specs.Hmac.{Hash, hmac, block_key, padded_key, ipad, opad}
use Rattle.mbj_hmac.proofs.NamedStates.{named_pad}
use Rattle.mbj_hmac.proofs.plain.hmac_by.Goals as goal

pub returns-clause-value : goal.returns-clause-value
unfolding hmac
returns-clause-value c =
    let hash : Hash = hash_of_name c.args.hash in
    let key : List ℕ = block_key hash c.args.key.now in
    let front : (pad : ℕ) → take hash.block_bytes (padded_key pad c.hash_key-key.result) ≡ padded_key pad key =
    λ pad. named_pad c.args.hash c.args.key.now c.hash_key-key.result pad (128 - hash.block_bytes) c.hash_key-key.ensures in
    let inner_key : take c.block_bytes-block.result c.padded.result ≡ padded_key ipad key = ap₂ take c.block_bytes-block.ensures c.padded.ensures ∙ front ipad in
    let outer_key : take c.block_bytes-block.result c.padded-2.result ≡ padded_key opad key = ap₂ take c.block_bytes-block.ensures c.padded-2.ensures ∙ front opad in
    let inner_is : c.bytes.result.now ≡ hash.digest (padded_key ipad key ++ c.args.message.now) =
    c.bytes.ensures.value ∙ c.digest_of-inner.ensures.value ∙ ap (λ (k : List ℕ). hash.digest (k ++ c.args.message.now)) inner_key in
    c.digest_of.ensures.value ∙ ap₂ (λ (k m : List ℕ). hash.digest (k ++ m)) outer_key inner_is
