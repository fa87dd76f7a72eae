use Rattle.mbj_hmac.proofs.Written.{AreWritten}
use Rattle.mbj_hmac.proofs.sha1_lanes.Sha1LanesLaneHash.set_lane.Given as goal

abbrev pub invariant-words : goal.invariant-words
invariant-words l = AreWritten 32 16 5 l.i l.initial.states l.states l.chain l.k
