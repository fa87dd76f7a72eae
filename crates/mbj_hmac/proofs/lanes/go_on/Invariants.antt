use Rattle.std.proofs.Common.{◌≡◌}
use Rattle.mbj_lane.proofs.Halfway.{halfway}
use Rattle.mbj_hmac.specs.Inside.InLanes.{moved}
use Rattle.mbj_hmac.proofs.lanes.go_on.Given as goal

abbrev pub invariant-rests : goal.invariant-rests
invariant-rests g l = l.entries ≡ halfway (moved l.m) l.i l.initial.entries
