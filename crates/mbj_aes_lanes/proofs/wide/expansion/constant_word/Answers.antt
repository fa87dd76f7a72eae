-- A power of x, and zeros.
use Rattle.std.proofs.Common.{ℕ, List, [], ◌∷◌, slice_index, ap, ◌∙◌}
use Rattle.mbj_aes.specs.Tower.{from_tower}
use Rattle.mbj_aes_lanes.proofs.TowerWords.{from_tower-zero}
use Rattle.mbj_aes_lanes.proofs.wide.expansion.constant_word.Goals as goal

pub returns : goal.returns
returns g c i h =
    let first = c.to_tower_byte.ensures i h ∙ c.splat.ensures i h ∙ ap (λ (xs : List ℕ). slice_index xs 0) c.round_constant.ensures in
    let zero = ap from_tower (c.splat-zero.ensures i h) ∙ from_tower-zero in
    λ j. first j ∷ zero j ∷ zero j ∷ zero j ∷ []
