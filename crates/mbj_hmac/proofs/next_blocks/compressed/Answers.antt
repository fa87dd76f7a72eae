use Rattle.std.proofs.Common.{◌≡◌, ap, ◌∙◌, arith}
use Rattle.mbj_lane.specs.Rounds.{after}
use Rattle.mbj_hmac.specs.Rounds.{compressed_once}
use Rattle.mbj_hmac.specs.Inside.InLanes.{entry_in, seen_at}
use Rattle.mbj_hmac.proofs.InLanes.{pass_advanced}
use Rattle.mbj_hmac.proofs.next_blocks.compressed.Goals as goal

pub pass-requires-clause-rests : goal.pass-requires-clause-rests
pass-requires-clause-rests g c i h busy = omega (arith, c.requires.rests i h busy)

pub passes-preserved : goal.passes-preserved
passes-preserved g c i lt busy =
    let lane = g.H.LaneHash.lane in
    pass_advanced g.H.LaneHash.hashing c.passes.done (lane c.args.states.now i) (lane c.args.inner.now i) (lane c.passes.states i) (lane c.pass.new.states i)
    (entry_in c.args.entries.now i) (c.passes.invariant i lt busy) (c.pass.ensures i lt busy)

pub returns : goal.returns
returns g c i lt busy =
    let lane = g.H.LaneHash.lane in
    let all : c.passes.done ≡ c.args.m = omega arith in
    c.passes.invariant i lt busy
    ∙ ap (λ n. (after (compressed_once g.H.LaneHash.hashing) n (seen_at (lane c.args.states.now) (lane c.args.inner.now) c.args.entries.now i)).chain) all
