-- Step by step.
use Rattle.std.proofs.Common.{ap, ◌∙◌}
use Rattle.mbj_types.specs.Aes.{inv_shift_rows, inv_sub_bytes, inv_mix_columns}
use Rattle.mbj_aes_lanes.proofs.wide.decryption.undone_round.Goals as goal

pub returns : goal.returns
returns g c i h =
    c.inverse_bytes.ensures i h
    ∙ ap inv_sub_bytes
    (c.unshifted_rows.ensures i
    ∙ ap inv_shift_rows (c.unmixed_columns.ensures i h ∙ ap inv_mix_columns (c.add_key.ensures i h)))
