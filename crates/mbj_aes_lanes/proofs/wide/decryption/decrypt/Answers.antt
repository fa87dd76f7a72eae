-- INVCIPHER, round by round, in each lane.
use Rattle.std.proofs.Common.{◌≡◌, ℕ, ◌-◌, List, arith, ap, ◌∙◌}
use Rattle.mbj_types.specs.Aes.{inv_shift_rows, inv_sub_bytes, undone_rounds}
use Rattle.mbj_aes_lanes.specs.Inside.Wide.{state_lane}
use Rattle.mbj_aes_lanes.proofs.CipherRounds.{undone-none, undone-next, undone-all}
use Rattle.mbj_aes_lanes.proofs.wide.decryption.decrypt.Goals as goal

pub rounds-init : goal.rounds-init
rounds-init g c i h =
    let n : ℕ = c.rounds-rounds.result in
    let w : List ℕ = g.K.LaneSchedules.schedule_of c.args.keys.now i in
    ap (λ s. undone_rounds w s (n - 1))
    (c.inverse_bytes-state.ensures i h
    ∙ ap inv_sub_bytes (c.unshifted_rows.ensures i ∙ ap inv_shift_rows (c.add_key.ensures i h)))
    ∙ undone-all w (state_lane g.V.Lane8.lane c.args.s.now i) n (omega (arith, c.rounds-rounds.ensures.sizes i h))

pub rounds-preserved : goal.rounds-preserved
rounds-preserved g c i h =
    let w : List ℕ = g.K.LaneSchedules.schedule_of c.args.keys.now i in
    let s : List ℕ = state_lane g.V.Lane8.lane c.rounds.state i in
    let r : ℕ = c.rounds.r - 1 in
    ap (λ s. undone_rounds w s (r - 1)) (c.undone_round-state.ensures i h)
    ∙ undone-next w s (r - 1) r (omega arith)
    ∙ c.rounds.invariant i h

pub returns : goal.returns
returns g c i h =
    let w : List ℕ = g.K.LaneSchedules.schedule_of c.args.keys.now i in
    let s : List ℕ = state_lane g.V.Lane8.lane c.rounds.state i in
    let none : 0 ≡ c.rounds.r - 1 = omega arith in
    c.add_key-2.ensures i h
    ∙ undone-none w s
    ∙ ap (undone_rounds w s) none
    ∙ c.rounds.invariant i h
