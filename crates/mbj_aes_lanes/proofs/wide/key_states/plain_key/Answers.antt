-- From the tower's basis, with the constant added, or both.
use Rattle.std.proofs.Common.{sym, ap, ◌∙◌}
use Rattle.mbj_aes_lanes.specs.Inside.WideKeys.{with_constant}
use Rattle.mbj_aes_lanes.proofs.WideKeys.{key_in-first, key_in-between, key_in-last}
use Rattle.mbj_aes_lanes.proofs.wide.key_states.plain_key.Goals as goal

pub returns-then-r-eq0 : goal.returns-then-r-eq0
returns-then-r-eq0 g c i h =
    c.from_tower.ensures i h ∙ sym (key_in-first g.V.Lane8.lane c.args.rounds c.args.r c.args.key i c.if-r-eq0.true)

pub returns-then-r-rounds : goal.returns-then-r-rounds
returns-then-r-rounds g c i h =
    c.with_constant.ensures i h ∙ sym (key_in-last g.V.Lane8.lane c.args.rounds c.args.r c.args.key i c.if-r-eq0.false c.if-r-rounds.true)

pub returns-else-r-rounds : goal.returns-else-r-rounds
returns-else-r-rounds g c i h =
    c.with_constant-else-r-rounds.ensures i h
    ∙ ap with_constant (c.from_tower-else-r-rounds.ensures i h)
    ∙ sym (key_in-between g.V.Lane8.lane c.args.rounds c.args.r c.args.key i c.if-r-eq0.false c.if-r-rounds.false)
