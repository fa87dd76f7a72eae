-- A block and at most 16 bytes are xored.
use Rattle.std.proofs.Common.{◌≡◌, ◌∙◌, List, ℕ, length, take, drop, ap, arith}
use Rattle.std.proofs.lemmas.List.{length-take, take_at}
use Rattle.mbj_types.proofs.XorLists.{length-xor_lists}
use Rattle.mbj_stage.proofs.Masks.{xor_lists-block}
use Rattle.mbj_stage.proofs.ccm.joined.Goals as goal

pub returns : goal.returns
returns c =
    let both : ℕ = c.min-both.result in
    let block : List ℕ = c.args.block.now in
    let other : List ℕ = c.args.other.now in
    let text : List ℕ = c.xor_in_place.new.text in
    let whole : length block ≡ 16 = omega (arith, c.told-block) in
    let part = length-take both block in
    let size : length text ≡ both =
    ap length c.xor_in_place.ensures ∙ length-xor_lists (take both block) other (omega (arith, c.min-both.ensures)) ∙ omega (arith, c.min-both.ensures) in
    c.cut.ensures
    ∙ ap (take c.args.tag_len) (take_at text (drop both block) both size ∙ c.xor_in_place.ensures ∙ xor_lists-block both block other whole c.min-both.ensures)
