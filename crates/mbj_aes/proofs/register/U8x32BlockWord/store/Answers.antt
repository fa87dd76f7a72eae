-- The first blocks are those of the vector, and the others stay.
use Rattle.std.proofs.Common.{◌≡◌, ◌≢◌, ℕ, List, [], ◌++◌, map, get_or, set, slice_index, ◌∙◌, arith, get_or-set_same, get_or-set_other}
use Rattle.std.specs.List.{range_with_len}
use Rattle.std.proofs.lemmas.List.{length-set}
use Rattle.mbj_types.specs.Lanes.{lane_at}
use Rattle.mbj_aes.specs.BlockWords.{block_at}
use Rattle.mbj_aes.proofs.BlockWords.{block_extracted, either_block}
use Rattle.mbj_aes.proofs.register.U8x32BlockWord.store.Goals as goal

pub returns-clause-first : goal.returns-clause-first
returns-clause-first c b h =
    let xs : List ℕ = c.args.self in
    let blocks : List (List ℕ) = c.args.blocks.now in
    let first : List ℕ = map (slice_index (xs ++ xs)) (range_with_len 0 16) in
    let second : List ℕ = map (slice_index (xs ++ xs)) (range_with_len 16 16) in
    let now : List (List ℕ) = set (set blocks 0 first) 1 second in
    let beside : 0 ≢ 1 = omega arith in
    either_block (λ b. get_or now b [] ≡ block_at (lane_at 8) xs b)
    (get_or-set_other (set blocks 0 first) 1 0 second [] beside
    ∙ get_or-set_same blocks 0 first [] (omega arith)
    ∙ block_extracted 32 xs 0 c.fits-self.0 c.fits-self.1 (omega arith))
    (get_or-set_same (set blocks 0 first) 1 second [] (omega (arith, length-set blocks 0 first))
    ∙ block_extracted 32 xs 1 c.fits-self.0 c.fits-self.1 (omega arith))
    b h

pub returns-clause-others : goal.returns-clause-others
returns-clause-others c b h =
    let xs : List ℕ = c.args.self in
    let blocks : List (List ℕ) = c.args.blocks.now in
    let first : List ℕ = map (slice_index (xs ++ xs)) (range_with_len 0 16) in
    let second : List ℕ = map (slice_index (xs ++ xs)) (range_with_len 16 16) in
    let not_first : b ≢ 0 = omega arith in
    let not_second : b ≢ 1 = omega arith in
    get_or-set_other (set blocks 0 first) 1 b second [] not_second ∙ get_or-set_other blocks 0 b first [] not_first
