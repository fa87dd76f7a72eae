-- All slots are idle.
use Rattle.std.proofs.Common.{◌≡◌, None, length, ap, ◌∙◌, arith}
use Rattle.std.proofs.lemmas.List.{length-replicate}
use Rattle.mbj_types.specs.declared.kind.TheConstants.{AES_LANES}
use Rattle.mbj_aes_lanes.proofs.slots.ChainedSlotKernel.new_slots.Goals as goal

pub invariant_of-result : goal.invariant_of-result
invariant_of-result g c =
    let all : c.lanes._i ≡ AES_LANES = omega arith in
    (c.in_ok-round_keys.ensures, ap length c.lanes.invariant.items ∙ length-replicate c.lanes._i None ∙ all)
