-- The laid out key stands in each block.
use Rattle.std.proofs.Common.{◌≡◌, ℕ, ◌+◌, ◌-◌, ◌*◌, ◌/◌, List, [], get_or, length, slice_index, ap, ◌∙◌, arith}
use Rattle.mbj_aes.specs.BlockWords.{block_byte}
use Rattle.mbj_aes_lanes.proofs.LaidSchedules.{length-laid, round_key-laid}
use Rattle.mbj_aes_lanes.proofs.narrow.text_key.LaidKeySchedules.round_key.Goals as goal

pub bounds-keys-r : goal.bounds-keys-r
bounds-keys-r g c =
    omega (arith, c.requires.round, length-laid g.D.Direction.laid c.self.inside.rounds g.met.D.Direction.sized c.self.inside.keys c.args.self.now c.self.view_is)

pub offset_bounds-keys-r : goal.offset_bounds-keys-r
offset_bounds-keys-r g c =
    omega (arith, c.requires.round, length-laid g.D.Direction.laid c.self.inside.rounds g.met.D.Direction.sized c.self.inside.keys c.args.self.now c.self.view_is)

pub returns : goal.returns
returns g c b h =
    let w : List ℕ = c.args.self.now in
    let laid = g.D.Direction.laid in
    let n : ℕ = c.self.inside.rounds in
    let r : ℕ = c.args.r in
    let keys : List (List ℕ) = c.self.inside.keys in
    let size : length w ≡ 16 * (n + 1) = length-laid laid n g.met.D.Direction.sized keys w c.self.view_is in
    let count : length w / 16 - 1 ≡ n = omega (arith, size) in
    g.met.D.Direction.same (length w / 16 - 1) r (block_byte g.V.Lane8.lane c.in_each_block.result b) (slice_index (get_or keys r []))
    (λ j k. c.in_each_block.ensures b j h k)
    ∙ ap (λ (n : ℕ). laid n r (slice_index (get_or keys r []))) count
    ∙ round_key-laid laid n g.met.D.Direction.sized keys w r (omega (arith, c.requires.round, count)) c.self.view_is
