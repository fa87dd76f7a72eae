-- The blocks of one row more are written in each turn; the rows are the transposed words.
use Rattle.std.proofs.Common.{◌≡◌, ℕ, ◌+◌, ◌*◌, ◌/◌, ◌%◌, ◌<◌, [], get_or, inl, inr, sym, ap, ◌∙◌, arith, List}
use Rattle.std.proofs.lemmas.Bool.{cases_eq}
use Rattle.mbj_types.specs.Lanes.{lane_at}
use Rattle.mbj_types.specs.declared.kind.TheConstants.{AES_LANES}
use Rattle.mbj_aes_lanes.specs.Inside.Matrix.{byte_at_row}
use Rattle.mbj_aes_lanes.proofs.ByteMatrices.{block_read, lane_of-turned}
use Rattle.mbj_aes_lanes.proofs.blocks.put_blocks.Goals as goal

pub rows-init : goal.rows-init
rows-init c j h lt hg = absurd (omega arith)

pub rows-preserved : goal.rows-preserved
rows-preserved c j h lt hg =
    let lane : List ℕ → ℕ → ℕ = lane_at 8 in
    let k : ℕ = c.rows.k in
    elim (cases_eq j k) [
      | inl same ↦
          rw same (c.put_row.ensures.written h hg ∙ block_read lane c.transpose.new.rows k h [] (omega arith))
      | inr ne ↦ c.put_row.ensures.others h j (omega arith) ne ∙ c.rows.invariant j h (omega arith) hg
    ]

pub returns : goal.returns
returns c i h =
    let lane : List ℕ → ℕ → ℕ = lane_at 8 in
    let place : i ≡ 16 * (i / 16) + i % 16 = omega arith in
    let group : 16 * (i / 16) < AES_LANES = omega arith in
    ap (λ (n : ℕ). get_or c.rows.to n []) place
    ∙ c.rows.invariant (i % 16) (i / 16) (omega arith) group
    ∙ sym (lane_of-turned lane c.args.words.now c.transpose.new.rows i (omega arith)
    (λ t below.
    ap (byte_at_row lane c.args.words.now t) place
    ∙ sym (c.transpose.ensures (i % 16) (i / 16) t (omega arith) group below)))
