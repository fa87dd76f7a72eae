use Rattle.std.proofs.Common.{◌<◌, ◌∙◌, List, length, ap, arith}
use Rattle.mbj_types.specs.Lanes.{lane_at}
use Rattle.mbj_hmac.specs.Rounds.{HmacState}
use Rattle.mbj_hmac.specs.Inside.InLanes.{entry_in}
use Rattle.mbj_hmac.proofs.InLanes.{all_moved, all_ready, entry_in-moved, has_entry, lane_advanced, tied_le}
use Rattle.mbj_hmac.proofs.lanes.HmacLanes.stretch.Goals as goal

pub compressed-requires-clause-digests : goal.compressed-requires-clause-digests
compressed-requires-clause-digests g c i h busy = (c.requires.ready i h busy).1

pub compressed-requires-clause-half : goal.compressed-requires-clause-half
compressed-requires-clause-half g c i lt busy = c.busy_half-half.ensures i (omega (arith, g.met.H.LaneHash.narrow)) busy

pub returns-clause-rests : goal.returns-clause-rests
returns-clause-rests g c i h =
    let rests = c.args.self.now.rests in
    c.lowered-self.ensures i h (tied_le (lane_at 32 rests.left i) (lane_at 32 rests.turns i) (entry_in c.args.entries.now i) (c.requires.tied.tied i h))

pub returns-clause-tied : goal.returns-clause-tied
returns-clause-tied g c =
    let rests = c.args.self.now.rests in
    rw c.go_on.ensures (all_moved rests.left rests.turns c.args.entries.now c.requires.tied c.args.m c.lowered-self.result (returns-clause-rests g c))

pub returns-clause-ready : goal.returns-clause-ready
returns-clause-ready g c =
    let self = c.args.self.now in
    let rests = self.rests in
    rw c.go_on.ensures
    (all_ready g.H.LaneHash.hashing c.args.m (g.H.LaneHash.lane self.starts) rests.bits rests.left c.lowered-self.result rests.turns c.args.entries.now
    c.requires.tied (returns-clause-rests g c) c.requires.ready)

pub returns-clause-advanced : goal.returns-clause-advanced
returns-clause-advanced g c i h busy =
    let self = c.args.self.now in
    let rests = self.rests in
    let lane = g.H.LaneHash.lane in
    let es = c.args.entries.now in
    let inside : i < length es = has_entry rests.left rests.turns es c.requires.tied i h busy in
    lane_advanced g.H.LaneHash.hashing c.args.m (lane self.states i) (lane self.inner i) (lane c.compressed.new.states i) (entry_in es i) (entry_in c.go_on.new.entries i)
    (c.compressed.ensures i (omega (arith, c.requires.few)) busy)
    (ap (λ (xs : List HmacState). entry_in xs i) c.go_on.ensures ∙ entry_in-moved c.args.m es i)
