use Rattle.std.proofs.Common.{◌≡◌, ◌+◌, ◌*◌, ◌++◌, ℕ, List, length, take, ap, ◌∙◌, arith}
use Rattle.mbj_types.specs.Hmac.{ipad, opad}
use Rattle.mbj_hmac.specs.Inside.Layout.{message_end, tail_blocks}
use Rattle.mbj_hmac.proofs.Writes.{grown}
use Rattle.mbj_hmac.proofs.FirstEnds.{ends_fit, ends_made, pad_fills, pad_is}
use Rattle.mbj_hmac.proofs.ends.put_first_ends.Goals as goal

pub put-requires-2 : goal.put-requires-2
put-requires-2 g c =
    let h = g.H.LaneHash.hashing in
    let std = g.met.H.LaneHash.standard in
    let key = c.args.key.now in
    let len = c.args.len in
    let back = pad_is h std key opad c.block_bytes-block.result c.padded-2.result c.block_bytes-block.ensures c.padded-2.ensures in
    omega (arith, c.put_end-at.ensures.next, pad_fills h std key opad _ c.told-key back, ends_fit h std len)

pub returns-clause-value : goal.returns-clause-value
returns-clause-value g c =
    let h = g.H.LaneHash.hashing in
    let b : ℕ = h.block_bytes in
    let bytes = g.H.LaneHash.ends_bytes in
    let std = g.met.H.LaneHash.standard in
    let key = c.args.key.now in
    let packet = c.args.packet.now in
    let off = c.args.off in
    let len = c.args.len in
    let t : ℕ = tail_blocks b len in
    let blk : ℕ = c.block_bytes-block.result in
    let front = pad_is h std key ipad blk c.padded.result c.block_bytes-block.ensures c.padded.ensures in
    let back = pad_is h std key opad blk c.padded-2.result c.block_bytes-block.ensures c.padded-2.ensures in
    let full = pad_fills h std key ipad _ c.told-key front in
    let full2 = pad_fills h std key opad _ c.told-key back in
    let end : List ℕ = message_end h blk packet off len in
    let at1 : b ≡ 0 + length (take blk c.padded.result) = omega (arith, full) in
    let g1 = ap (λ (n : ℕ). take n (bytes c.put.new.ends)) at1 ∙ c.put.ensures.written in
    let g2 = ap (λ (n : ℕ). take n (bytes c.put_end-at.new.ends)) c.put_end-at.ensures.next ∙ c.put_end-at.ensures.written ∙ ap (λ (l : List ℕ). l ++ end) g1 in
    let g3 = grown (bytes c.put_end-at.new.ends) (bytes c.put-2.new.ends) _ _ c.put_end-at.result c.put-2.result g2 c.put-2.ensures.next c.put-2.ensures.written in
    let place : b * (t + 2) ≡ c.put-2.result = omega (arith, c.put_end-at.ensures.next, c.put-2.ensures.next, full2) in
    ap (λ (n : ℕ). take n (bytes c.put-2.new.ends)) place ∙ g3
    ∙ ends_made h std key packet off len blk _ _ c.block_bytes-block.ensures front back
