use Rattle.std.proofs.Common.{ℕ, ◌-◌, ◌*◌, List, ◌++◌, take, ap, ap₂, ◌∙◌}
use Rattle.std.specs.Prelude.{replicate}
use Rattle.mbj_types.specs.Auths.{compression_of_name, hash_of_name}
use Rattle.mbj_types.specs.Hmac.{ipad, opad}
use Rattle.mbj_types.specs.States.{Compression, block_state}
use Rattle.mbj_hmac.proofs.NamedStates.{named_pad, stored_both}
use Rattle.mbj_hmac.proofs.stored.states_by_name.Goals as goal

pub returns : goal.returns
returns c =
    let a = c.args.hash in
    let key : List ℕ = c.args.key.now in
    let k : Compression = compression_of_name a in
    let n : ℕ = k.state_bytes in
    let zeros : ℕ = 128 - (hash_of_name a).block_bytes in
    let x = c.hash_key-key.result in
    let inner = ap₂ (λ i y. block_state k (take i y)) c.block_bytes-block.ensures c.padded.ensures
    ∙ ap (block_state k) (named_pad a key x ipad zeros c.hash_key-key.ensures) in
    let outer = ap₂ (λ i y. block_state k (take i y)) c.block_bytes-block.ensures c.padded-2.ensures
    ∙ ap (block_state k) (named_pad a key x opad zeros c.hash_key-key.ensures) in
    stored_both n c.put_state-at.result 128 c.put_state-at.new.states c.put_state.new.states _ _
    c.put_state-at.ensures.next c.put_state-at.ensures.written c.put_state-at.ensures.behind c.put_state.ensures.written c.put_state.ensures.behind
    ∙ ap₂ (λ i o. (i ++ o) ++ replicate (128 - 2 * n) 0) inner outer
