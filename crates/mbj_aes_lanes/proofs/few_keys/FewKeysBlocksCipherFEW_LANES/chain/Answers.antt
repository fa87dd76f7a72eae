-- The block in lane p is block p % 2 of register p / 2.
use Rattle.std.proofs.Common.{◌≡◌, ℕ, ◌<◌, ◌+◌, ◌*◌, ◌/◌, ◌%◌, List, [], get_or, ap, ◌∙◌, arith}
use Rattle.mbj_types.specs.Aes.{encipher}
use Rattle.mbj_types.specs.Blocks.{xor_lists}
use Rattle.mbj_types.specs.Lanes.{lane_at}
use Rattle.mbj_aes.specs.BlockWords.{block_at}
use Rattle.mbj_aes_lanes.specs.Inside.BusyKeys.{few_schedule}
use Rattle.mbj_aes_lanes.proofs.few_keys.FewKeysBlocksCipherFEW_LANES.chain.Goals as goal

pub returns : goal.returns
returns g c p h =
    let i : ℕ = p / 2 in
    let b : ℕ = p % 2 in
    let inside : i < g.row.N = omega (arith, h, c.args.self.now.few) in
    let none : List ℕ = [] in
    let n : ℕ = c.args.self.now.rounds in
    let keys = c.args.self.now.keys.now in
    let old = block_at (lane_at 8) (get_or c.args.chains.now i none) b in
    let place : 2 * i + b ≡ p = omega arith in
    c.encrypt_all.ensures i b none inside (omega arith)
    ∙ ap (encipher (few_schedule n keys (2 * i + b))) (c.add_blocks.ensures i b none inside (omega arith))
    ∙ ap (λ (q : ℕ). encipher (few_schedule n keys q) (xor_lists (g.B.LaneBlocks.block_in c.args.blocks.now q) old)) place
