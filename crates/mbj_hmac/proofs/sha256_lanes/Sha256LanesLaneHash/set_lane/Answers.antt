use Rattle.std.proofs.Common.{refl, arith}
use Rattle.mbj_hmac.proofs.Written.{written_next}
use Rattle.mbj_hmac.proofs.sha256_lanes.Sha256LanesLaneHash.set_lane.Goals as goal

pub words-init : goal.words-init
words-init c = record { size = c.told-states; here = refl; others = λ j h apart. refl }

pub words-preserved : goal.words-preserved
words-preserved c =
    written_next 32 16 8 c.args.i c.words.k c.args.states.now c.words.states c.args.chain.now c.with_word32.result
    c.requires (omega arith) c.told-chain c.told-states c.with_word32.ensures c.words.invariant
