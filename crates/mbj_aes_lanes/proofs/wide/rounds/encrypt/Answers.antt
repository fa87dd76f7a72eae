-- CIPHER, round by round, in each lane.
use Rattle.std.proofs.Common.{◌≡◌, ℕ, ◌+◌, ◌-◌, List, refl, arith, ap, ap₂, sym, ◌∙◌}
use Rattle.mbj_types.specs.Blocks.{xor_lists}
use Rattle.mbj_types.specs.Aes.{full_round, after_rounds, shift_rows, sub_bytes}
use Rattle.mbj_aes_lanes.specs.Inside.Wide.{state_lane}
use Rattle.mbj_aes_lanes.proofs.CipherRounds.{after-none, after-next, after-last}
use Rattle.mbj_aes_lanes.proofs.WideKeys.{key_in-first, key_in-between, key_in-last, tower_block-sum}
use Rattle.mbj_aes_lanes.proofs.wide.rounds.encrypt.Goals as goal

pub rounds-init : goal.rounds-init
rounds-init g c i h =
    let lane = g.V.Lane8.lane in
    let keys = c.args.keys.now in
    let n : ℕ = g.K.LaneSchedules.count_of keys - 1 in
    let w : List ℕ = g.K.LaneSchedules.schedule_of keys i in
    let block : List ℕ = state_lane lane c.args.s.now i in
    tower_block-sum lane g.met.V.Lane8.fits c.to_tower.result c.round_key.result c.add_round_key-state.result i (c.add_round_key-state.ensures i h)
    ∙ ap₂ xor_lists (c.to_tower.ensures i h) (sym (key_in-first lane n 0 c.round_key.result i refl) ∙ c.round_key.ensures i h)
    ∙ after-none w block

pub rounds-preserved : goal.rounds-preserved
rounds-preserved g c i h =
    let lane = g.V.Lane8.lane in
    let keys = c.args.keys.now in
    let n : ℕ = g.K.LaneSchedules.count_of keys - 1 in
    let w : List ℕ = g.K.LaneSchedules.schedule_of keys i in
    let block : List ℕ = state_lane lane c.args.s.now i in
    let r : ℕ = c.rounds.r in
    let now : r + 1 - 1 ≡ r = omega arith in
    c.full_round-state.ensures i h
    ∙ ap₂ full_round (c.rounds.invariant i h)
    (sym (key_in-between lane n r c.round_key-in-rounds.result i (omega arith) (omega (arith, c.rounds-rounds.ensures.value)))
    ∙ c.round_key-in-rounds.ensures i h)
    ∙ after-next w block (r - 1) r (omega arith)
    ∙ ap (after_rounds w block) (sym now)

pub returns : goal.returns
returns g c i h =
    let lane = g.V.Lane8.lane in
    let keys = c.args.keys.now in
    let n : ℕ = c.rounds-rounds.result in
    let w : List ℕ = g.K.LaneSchedules.schedule_of keys i in
    let block : List ℕ = state_lane lane c.args.s.now i in
    let last : n ≡ g.K.LaneSchedules.count_of keys - 1 = omega (arith, c.rounds-rounds.ensures.value) in
    let done : c.rounds.r - 1 ≡ n - 1 = omega (arith, c.rounds-rounds.ensures.least) in
    c.last_round.ensures i h
    ∙ ap₂ (λ s k. xor_lists (shift_rows (sub_bytes s)) k) (c.rounds.invariant i h ∙ ap (after_rounds w block) done)
    (sym (key_in-last lane (g.K.LaneSchedules.count_of keys - 1) n c.round_key-2.result i (omega arith) last) ∙ c.round_key-2.ensures i h)
    ∙ after-last w block n (omega (arith, c.rounds-rounds.ensures.sizes i h))
