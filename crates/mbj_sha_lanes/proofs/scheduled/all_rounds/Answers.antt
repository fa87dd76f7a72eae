use Rattle.std.proofs.Common.{ℕ, ◌*◌, arith}
use Rattle.mbj_sha_lanes.specs.Sha2.{working_lane}
use Rattle.mbj_sha_lanes.proofs.RoundNumbers.{two_on, next_eight}
use Rattle.mbj_sha_lanes.proofs.scheduled.all_rounds.Goals as goal

pub turns-preserved : goal.turns-preserved
turns-preserved g c i b lt words =
    let h = working_lane g.W.Words.lane c.args.start i in
    let n : ℕ = g.H.Sha2.standard.count in
    let count = g.met.H.Sha2.laws.count in
    let rounds = g.met.H.Sha2.rounds in
    let t : ℕ = 8 * c.turns.turn in
    let r2 = c.two_steps-v.ensures i n b h lt (omega arith) words (c.turns.invariant i b lt words) in
    let r4 = rw (two_on t 2) at (c.two_steps-v-in-turns.ensures i n b h lt (omega arith) words r2) in
    let r6 = rw (two_on t 4) at (c.two_steps-v-in-turns-2.ensures i n b h lt (omega arith) words r4) in
    rw (next_eight c.turns.turn) at (c.two_steps-v-in-turns-3.ensures i n b h lt (omega arith) words r6)
