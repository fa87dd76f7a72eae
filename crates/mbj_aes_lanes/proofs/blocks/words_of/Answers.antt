-- One row more is loaded in each turn, and the transposed rows are the words.
use Rattle.std.proofs.Common.{◌≡◌, ℕ, ◌+◌, ◌*◌, ◌/◌, ◌%◌, ◌<◌, length, inl, inr, ap, ◌∙◌, arith, List}
use Rattle.std.proofs.lemmas.Bool.{cases_eq}
use Rattle.mbj_types.specs.Lanes.{lane_at}
use Rattle.mbj_types.specs.declared.kind.TheConstants.{AES_LANES}
use Rattle.mbj_aes_lanes.specs.Inside.Matrix.{byte_at_row}
use Rattle.mbj_aes_lanes.proofs.ByteMatrices.{block_written, block_beside, lane_of-turned}
use Rattle.mbj_aes_lanes.proofs.blocks.words_of.Goals as goal

pub rows-init : goal.rows-init
rows-init g c j h lt hg = absurd (omega arith)

pub rows-preserved : goal.rows-preserved
rows-preserved g c j h lt hg =
    let lane : List ℕ → ℕ → ℕ = lane_at 8 in
    let k : ℕ = c.rows.k in
    let inside : k < length c.rows.words = omega arith in
    elim (cases_eq j k) [
      | inl same ↦ rw same (block_written lane c.rows.words k h c.row.result inside ∙ c.row.ensures h hg)
      | inr ne ↦ block_beside lane c.rows.words k j h c.row.result ne ∙ c.rows.invariant j h (omega arith) hg
    ]

pub returns : goal.returns
returns g c i h =
    let lane : List ℕ → ℕ → ℕ = lane_at 8 in
    let place : 16 * (i / 16) + i % 16 ≡ i = omega arith in
    let group : 16 * (i / 16) < AES_LANES = omega arith in
    lane_of-turned lane c.transpose.new.rows c.rows.words i (omega arith)
    (λ t below.
    ap (byte_at_row lane c.transpose.new.rows t) (omega arith)
    ∙ c.transpose.ensures t (i / 16) (i % 16) below group (omega arith))
    ∙ c.rows.invariant (i % 16) (i / 16) (omega arith) group
    ∙ ap (g.B.LaneBlocks.block_in c.args.blocks.now) place
