-- The blocks in their places are those of the row.
use Rattle.std.proofs.Common.{◌≡◌, ◌≢◌, ℕ, ◌+◌, ◌*◌, List, [], get_or, set, ap, ◌∙◌, arith, get_or-set_same, get_or-set_other}
use Rattle.std.proofs.lemmas.List.{length-set}
use Rattle.mbj_types.specs.Lanes.{lane_at}
use Rattle.mbj_aes.specs.BlockWords.{block_at}
use Rattle.mbj_aes.proofs.BlockWords.{either_block}
use Rattle.mbj_aes_lanes.proofs.blocks.put_row.Goals as goal

pub returns-clause-written : goal.returns-clause-written
returns-clause-written c g hg =
    let to : List (List ℕ) = c.args.to.now in
    let k : ℕ = c.args.k in
    let both : List (List ℕ) = c.store.new.blocks in
    let first : List (List ℕ) = set to k (get_or both 0 []) in
    let now : List (List ℕ) = set first (16 + k) (get_or both 1 []) in
    let low : 16 * 0 + k ≡ k = omega arith in
    let beside : k ≢ 16 + k = omega arith in
    either_block (λ g. get_or now (16 * g + k) [] ≡ block_at (lane_at 8) c.args.row g)
    (ap (λ (i : ℕ). get_or now i []) low ∙ get_or-set_other first (16 + k) k (get_or both 1 []) [] beside
    ∙ get_or-set_same to k (get_or both 0 []) [] (omega arith) ∙ c.store.ensures.first 0 (omega arith))
    (get_or-set_same first (16 + k) (get_or both 1 []) [] (omega (arith, length-set to k (get_or both 0 [])))
    ∙ c.store.ensures.first 1 (omega arith))
    g (omega arith)
