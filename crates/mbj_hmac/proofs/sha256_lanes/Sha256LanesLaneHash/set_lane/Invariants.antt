use Rattle.mbj_hmac.proofs.Written.{AreWritten}
use Rattle.mbj_hmac.proofs.sha256_lanes.Sha256LanesLaneHash.set_lane.Given as goal

abbrev pub invariant-words : goal.invariant-words
invariant-words l = AreWritten 32 16 8 l.i l.initial.states l.states l.chain l.k
