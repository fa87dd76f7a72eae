-- The nonce covers the highest bytes of the number, and the lowest ones are left.
use Rattle.std.proofs.Common.{◌≡◌, ℕ, ◌+◌, ◌-◌, List, ◌∷◌, ◌++◌, length, take, drop, set, ap, ap₂, ◌∙◌, arith}
use Rattle.std.specs.Int.{bytes_high_first}
use Rattle.mbj_ccm.proofs.WrittenNumbers.{drop-bytes_high_first}
use Rattle.mbj_ccm.proofs.format.numbered_block.Goals as goal

pub returns : goal.returns
returns c =
    let n : ℕ = length c.args.nonce.now in
    let flags : ℕ = c.args.flags in
    let number : ℕ = c.args.number in
    let span : 1 + n - 1 ≡ n = omega arith in
    let block : List ℕ = flags ∷ bytes_high_first 15 number in
    let made : set c.to_be_bytes-block.result 0 flags ≡ block = ap (λ b. set b 0 flags) c.to_be_bytes-block.ensures in
    ap₂ (λ (m : ℕ) b. take 1 b ++ (c.copy_from_slice.new.self ++ drop m (drop 1 b))) span made
    ∙ ap₂ (λ xs ys. flags ∷ (xs ++ ys)) c.copy_from_slice.ensures.after (drop-bytes_high_first n 15 number)
