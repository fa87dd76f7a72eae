-- A read gives the front of what was left, and leaves what stands behind it.
use Rattle.std.proofs.Common.{◌≡◌, ◌∙◌, ◌-◌, ℕ, List, ap, arith, drop, length, length-drop, sym, take}
use Rattle.std.proofs.Math.ListN.{drop_of_length-le}
use Rattle.mbj_io.specs.Memory.{SourceView}
use Rattle.mbj_io.proofs.Pieces.{piece_and_rest}
use Rattle.mbj_io.proofs.memory.MemSourceSource.read.Goals as goal

pub returns-clause-bytes : goal.returns-clause-bytes
returns-clause-bytes c =
    let content : List ℕ = c.self.inside.content.items in
    let at : ℕ = c.self.inside.at in
    let n : ℕ = c.min-n.result in
    let given : List ℕ = c.copy_from_slice.new.self in
    let old : c.args.self.now.rest ≡ drop at content = ap (λ (s : SourceView). s.rest) (sym c.self.view_is) in
    let piece : given ≡ take n (drop at content) = cc in
    let left : length c.rest-rest.result.now ≡ length content - at = ap length c.rest-rest.ensures ∙ length-drop at content in (
      old ∙ piece_and_rest content given _ at n piece (omega arith),
      λ none room. drop_of_length-le content (omega arith),
    )

pub returns-in_err-count-clause-listed : goal.returns-in_err-count-clause-listed
returns-in_err-count-clause-listed c = grind arith

pub invariant_of-self : goal.invariant_of-self
invariant_of-self c = grind arith
