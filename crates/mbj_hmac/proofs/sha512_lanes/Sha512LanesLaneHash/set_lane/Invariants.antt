use Rattle.mbj_hmac.proofs.Written.{AreWritten}
use Rattle.mbj_hmac.proofs.sha512_lanes.Sha512LanesLaneHash.set_lane.Given as goal

abbrev pub invariant-words : goal.invariant-words
invariant-words l = AreWritten 64 8 8 l.i l.initial.states l.states l.chain l.k
