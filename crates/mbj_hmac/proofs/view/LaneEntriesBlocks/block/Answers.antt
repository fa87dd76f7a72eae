use Rattle.std.proofs.Common.{◌≡◌, ℕ, ◌-◌, refl, sym, ap, ◌∙◌, arith}
use Rattle.std.specs.Prelude.{replicate}
use Rattle.mbj_hmac.specs.Inside.InLanes.{blank, block_in}
use Rattle.mbj_hmac.proofs.InLanes.{entry_in-past}
use Rattle.mbj_hmac.proofs.view.LaneEntriesBlocks.block.Goals as goal

pub returns-else-i-self-clause-block : goal.returns-else-i-self-clause-block
returns-else-i-self-clause-block g c =
    let h = g.H.LaneHash.hashing in
    let done : ℕ = c.args.self.now.done in
    let none : 0 - done ≡ 0 = omega arith in
    let zeros : block_in h blank done ≡ replicate h.block_bytes 0 = rw none refl in
    c.blank_block.ensures.block ∙ sym zeros
    ∙ sym (ap (λ e. block_in h e done) (entry_in-past c.args.self.now.entries.now c.args.i (omega arith)))
