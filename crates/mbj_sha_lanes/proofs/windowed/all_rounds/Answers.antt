use Rattle.std.proofs.Common.{◌≡◌, ℕ, ◌*◌, sym, arith}
use Rattle.mbj_types.specs.Lanes.{lane_of}
use Rattle.mbj_sha_lanes.specs.Sha2.{working_lane}
use Rattle.mbj_sha_lanes.specs.Inside.Windows.{AreScheduled}
use Rattle.mbj_sha_lanes.proofs.RoundNumbers.{two_on, next_sixteen}
use Rattle.mbj_sha_lanes.proofs.Windows.{window_first, window_of}
use Rattle.mbj_sha_lanes.proofs.windowed.all_rounds.Goals as goal

pub turns-init : goal.turns-init
turns-init g c i b lt words =
    let laws = g.met.H.Sha2.laws in
    let f = g.H.Sha2.standard in
    let h = working_lane g.W.Words.lane c.args.start i in
    let win = window_of laws b _ words in
    let r0 = sym (laws.rounds_none h (f.schedule b)) in
    let first : AreScheduled (lane_of g.W.Words.lane c.args.words.now i) (f.schedule b) 16 = λ t. window_first _ _ t win in
    let r2 = c.two_steps-v.ensures i 16 b h lt (omega arith) first r0 in
    let r4 = c.two_steps-v-2.ensures i 16 b h lt (omega arith) first r2 in
    let r6 = c.two_steps-v-3.ensures i 16 b h lt (omega arith) first r4 in
    let r8 = c.two_steps-v-4.ensures i 16 b h lt (omega arith) first r6 in
    let r10 = c.two_steps-v-5.ensures i 16 b h lt (omega arith) first r8 in
    let r12 = c.two_steps-v-6.ensures i 16 b h lt (omega arith) first r10 in
    let r14 = c.two_steps-v-7.ensures i 16 b h lt (omega arith) first r12 in
    let r16 = c.two_steps-v-8.ensures i 16 b h lt (omega arith) first r14 in
    (win, r16)

pub turns-preserved : goal.turns-preserved
turns-preserved g c i b lt words =
    let h = working_lane g.W.Words.lane c.args.start i in
    let t : ℕ = 16 * c.turns.turn in
    let r2 = c.two_steps-v-in-turns.ensures i b h lt (c.turns.invariant i b lt words) in
    let r4 = rw (two_on t 2) at (c.two_steps-v-in-turns-2.ensures i b h lt r2) in
    let r6 = rw (two_on t 4) at (c.two_steps-v-in-turns-3.ensures i b h lt r4) in
    let r8 = rw (two_on t 6) at (c.two_steps-v-in-turns-4.ensures i b h lt r6) in
    let r10 = rw (two_on t 8) at (c.two_steps-v-in-turns-5.ensures i b h lt r8) in
    let r12 = rw (two_on t 10) at (c.two_steps-v-in-turns-6.ensures i b h lt r10) in
    let r14 = rw (two_on t 12) at (c.two_steps-v-in-turns-7.ensures i b h lt r12) in
    rw (next_sixteen c.turns.turn) at (c.two_steps-v-in-turns-8.ensures i b h lt r14)

pub returns : goal.returns
returns g c i b lt words =
    let count = g.met.H.Sha2.laws.count in
    let rounds = g.met.H.Sha2.rounds in
    let last : 16 * c.turns.turn ≡ g.H.Sha2.standard.count = omega arith in
    (rw last at (c.turns.invariant i b lt words)).1
