-- The first block is the vector, and the others stay.
use Rattle.std.proofs.Common.{◌≡◌, ◌≢◌, ℕ, ◌+◌, ◌*◌, [], get_or, set, w8, Fits, sym, ap, ◌∙◌, arith, get_or-set_same, get_or-set_other, slice_index}
use Rattle.std.proofs.lemmas.Simd.{Each1-get_or}
use Rattle.mbj_aes.proofs.BlockWords.{block_in_vector}
use Rattle.mbj_aes.proofs.register.U8x16BlockWord.store.Goals as goal

pub returns-clause-first : goal.returns-clause-first
returns-clause-first c b h =
    let row = c.args.self in
    let is : b ≡ 0 = omega arith in
    ap (λ (i : ℕ). get_or (set c.args.blocks.now 0 row) i []) is
    ∙ get_or-set_same c.args.blocks.now 0 row [] (omega arith)
    ∙ sym (block_in_vector row row b c.fits-self.0 (λ j k. (Each1-get_or (Fits w8) row j 0 (omega arith) c.fits-self.1).fits)
    (λ j k. let at : 16 * b + j ≡ j = omega arith in ap (slice_index row) at))

pub returns-clause-others : goal.returns-clause-others
returns-clause-others c b h = let ne : b ≢ 0 = omega arith in get_or-set_other c.args.blocks.now 0 b c.args.self [] ne
