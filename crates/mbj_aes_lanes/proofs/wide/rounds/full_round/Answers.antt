-- Column by column, each of the rows as shifted.
use Rattle.std.proofs.Common.{ℕ, List, ◌++◌, take, drop, map, ap, ◌∙◌}
use Rattle.mbj_types.specs.Blocks.{xor_lists}
use Rattle.mbj_types.specs.Aes.{mixed_column, sub_bytes}
use Rattle.mbj_aes.specs.Tower.{from_tower}
use Rattle.mbj_aes_lanes.specs.declared.wide.state.Word.{Word}
use Rattle.mbj_aes_lanes.specs.Inside.Wide.{state_lane, tower_word}
use Rattle.mbj_aes_lanes.specs.Inside.WideKeys.{with_constant}
use Rattle.mbj_aes_lanes.proofs.wide.rounds.full_round.Goals as goal

pub returns : goal.returns
unfolding state_lane
returns g c i h =
    let lane = g.V.Lane8.lane in
    let key = c.args.key.now in
    let of : Word g.row.V.Denot → List ℕ → List ℕ = λ k ys.
    xor_lists (mixed_column (sub_bytes (map from_tower ys)) 0) (with_constant (tower_word lane k i)) in
    let shifted = c.shifted_rows-shifted.ensures i in
    let c0 = c.full_column.ensures i h ∙ ap (of key.0) (ap (take 4) shifted) in
    let c1 = c.full_column-2.ensures i h ∙ ap (of key.1) (ap (λ ys. take 4 (drop 4 ys)) shifted) in
    let c2 = c.full_column-3.ensures i h ∙ ap (of key.2) (ap (λ ys. take 4 (drop 8 ys)) shifted) in
    let c3 = c.full_column-4.ensures i h ∙ ap (of key.3) (ap (λ ys. take 4 (drop 12 ys)) shifted) in
    λ j. c0 j ++ c1 j ++ c2 j ++ c3 j
