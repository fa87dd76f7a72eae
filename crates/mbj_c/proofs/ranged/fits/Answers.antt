-- The range that a job gives back is no longer than the one that it says.
use Rattle.std.proofs.Common.{◌∙◌, length, sym}
use Rattle.std.specs.Prelude.{nat_le}
use Rattle.mbj_types.specs.declared.limits.TheConstants.{MAX_TAG_BYTES}
use Rattle.mbj_c.proofs.Ranges.{shorter-fits}
use Rattle.mbj_c.proofs.ranged.fits.Goals as goal

pub returns-then-has_room : goal.returns-then-has_room
returns-then-has_room c =
    let out = c.args.out.now in
    c.if-has_room.true
    ∙ sym (shorter-fits c.args.job.now (length out.dst.now) (nat_le MAX_TAG_BYTES (length out.tag.now)) (sym c.has_room.ensures ∙ c.if-has_room.true))
