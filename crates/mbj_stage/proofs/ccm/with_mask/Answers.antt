-- MAC and mask are xored in either order.
use Rattle.std.proofs.Common.{◌∙◌, List, ℕ, take, ap, sym}
use Rattle.mbj_types.specs.Blocks.{xor_lists}
use Rattle.mbj_types.specs.declared.job.Job.{Job}
use Rattle.mbj_types.specs.declared.job.Dir.{Dir}
use Rattle.mbj_stage.specs.CourseState.{with_mask}
use Rattle.mbj_stage.proofs.Masks.{xor_lists-comm}
use Rattle.mbj_stage.proofs.ccm.with_mask.Goals as goal

pub returns-in-Enc : goal.returns-in-Enc
returns-in-Enc c =
    let j : Job = c.args.job.now in
    c.joined.ensures
    ∙ ap (take j.tag_len) (xor_lists-comm c.args.mask.now c.bytes.result.now)
    ∙ ap (λ (mac : List ℕ). take j.tag_len (xor_lists mac c.args.mask.now)) c.bytes.ensures.value
    ∙ ap (λ (d : Dir). with_mask j.tag_len c.args.mask.now d c.args.tag.now) (sym c.in-Enc.is)
