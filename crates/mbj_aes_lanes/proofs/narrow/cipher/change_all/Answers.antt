-- Round by round, in each block.
use Rattle.std.proofs.Common.{◌≡◌, get_or, refl, arith}
use Rattle.mbj_aes.specs.BlockWords.{block_at}
use Rattle.mbj_aes_lanes.proofs.narrow.cipher.change_all.Goals as goal

pub rounds-init : goal.rounds-init
rounds-init g c i b d h k =
    c.round_all.ensures i b d (block_at g.V.Lane8.lane (get_or c.args.s.now i d) b) h k (c.rounds-n.ensures.sizes i b (omega arith) k)
    (record { first = λ e. refl; between = λ e f. absurd (omega arith); last = λ e. absurd (omega arith) })

pub rounds-preserved : goal.rounds-preserved
rounds-preserved g c i b d h k =
    c.round_all-in-rounds.ensures i b d (block_at g.V.Lane8.lane (get_or c.args.s.now i d) b) h k (c.rounds-n.ensures.sizes i b (omega arith) k)
    (c.rounds.invariant i b d h k)

pub returns : goal.returns
returns g c i b d h k =
    let done : c.rounds.k ≡ c.rounds-n.result = omega arith in
    let before = rw done at (c.rounds.invariant i b d h k) in
    (c.round_all-2.ensures i b d (block_at g.V.Lane8.lane (get_or c.args.s.now i d) b) h k (c.rounds-n.ensures.sizes i b (omega arith) k) before).last refl
