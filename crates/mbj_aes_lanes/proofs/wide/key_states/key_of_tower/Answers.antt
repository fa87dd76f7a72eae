-- In the tower's basis, with the constant added, or both.
use Rattle.std.proofs.Common.{ap, ◌∙◌}
use Rattle.mbj_aes_lanes.specs.Inside.Wide.{state_lane, tower_block}
use Rattle.mbj_aes_lanes.specs.Inside.WideKeys.{with_constant}
use Rattle.mbj_aes_lanes.proofs.TowerWords.{constant-added-in-tower}
use Rattle.mbj_aes_lanes.proofs.WideKeys.{key_in-first, key_in-between, key_in-last, tower_block-sum, with_constant-twice}
use Rattle.mbj_aes_lanes.proofs.wide.key_states.key_of_tower.Goals as goal

pub returns-then-r-eq0 : goal.returns-then-r-eq0
returns-then-r-eq0 g c i h = key_in-first g.V.Lane8.lane c.args.rounds c.args.r c.args.key i c.if-r-eq0.true

pub returns-then-r-rounds : goal.returns-then-r-rounds
returns-then-r-rounds g c i h =
    let lane = g.V.Lane8.lane in
    key_in-last lane c.args.rounds c.args.r c.with_constant.result i c.if-r-eq0.false c.if-r-rounds.true
    ∙ ap with_constant (c.with_constant.ensures i h)
    ∙ with_constant-twice (state_lane lane c.from_tower-plain.result i)
    ∙ c.from_tower-plain.ensures i h

pub returns-else-r-rounds : goal.returns-else-r-rounds
returns-else-r-rounds g c i h =
    let lane = g.V.Lane8.lane in
    let key = c.args.key in
    let constant = c.splat_state.result in
    key_in-between lane c.args.rounds c.args.r c.add_round_key.result i c.if-r-eq0.false c.if-r-rounds.false
    ∙ ap with_constant
    (tower_block-sum lane g.met.V.Lane8.fits key constant c.add_round_key.result i (c.add_round_key.ensures i h)
    ∙ constant-added-in-tower lane key constant i (c.splat_state.ensures i h))
    ∙ with_constant-twice (tower_block lane key i)
