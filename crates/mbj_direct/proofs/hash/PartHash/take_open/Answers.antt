-- The part stands in the last block, which is hashed if it is whole.
use Rattle.std.proofs.Common.{◌≡◌, ℕ, ◌+◌, ◌/◌, ◌%◌, List, ◌++◌, length, take, drop, refl, ap, ap₂, ◌∙◌, arith, length-append}
use Rattle.std.proofs.lemmas.List.{length-take-le}
use Rattle.mbj_types.specs.Blocks.{first_blocks}
use Rattle.mbj_types.specs.Ghash.{ghash_from}
use Rattle.mbj_direct.specs.declared.hash.PartHash.{PartHash}
use Rattle.mbj_direct.proofs.BlockRuns.{first_blocks-front, behind-filled}
use Rattle.mbj_direct.proofs.Hashes.{taken, hashed-next}
use Rattle.mbj_direct.proofs.hash.PartHash.take_open.Goals as goal

pub returns-clause-hashed : goal.returns-clause-hashed
returns-clause-hashed c xs text h =
    let s : PartHash = c.args.self.now in
    let part : List ℕ = c.args.part.now in
    let used : ℕ = s.bytes % 16 in
    let d : List ℕ = taken s used part in
    let rest : List ℕ = drop (used + length part) s.last in
    let is : c.put_at.new.block ≡ d ++ rest = c.put_at.ensures in
    let front : length (take used s.last) ≡ used = length-take-le used s.last (omega arith) in
    let size : length d ≡ used + length part = length-append (take used s.last) part ∙ omega arith in
    let many : (used + length part) / 16 ≡ length d / 16 = omega arith in
    let left : (length text + length part) % 16 ≡ length d % 16 = omega (arith, h.bytes) in
    hashed-next xs text part s _ used h (omega (arith, h.bytes)) refl
    (c.value_at-self.ensures
    ∙ ap₂ (λ (k : ℕ) b. ghash_from s.subkey s.value (first_blocks k b)) many is
    ∙ ap (ghash_from s.subkey s.value) (first_blocks-front (length d / 16) d rest (omega arith)))
    (ap₂ (λ (k : ℕ) b. take k b) left is ∙ behind-filled d rest (omega arith))
    refl
