use Rattle.std.proofs.Common.{refl, arith}
use Rattle.mbj_types.specs.Aes.{round_key}
use Rattle.mbj_aes_lanes.proofs.EachRegister.{none_done, one_more}
use Rattle.mbj_aes_lanes.proofs.narrow.cipher.round_all.Goals as goal

pub registers-init : goal.registers-init
registers-init g c = none_done _ c.args.s.now c.args.s.now 0 refl refl

pub registers-preserved : goal.registers-preserved
registers-preserved g c =
    one_more _ c.args.s.now c.registers.s c.registers.i c.index-s-i.result c.round.result (omega arith)
    (λ b block h size.
    c.round.ensures b (g.K.Schedules.schedule_of c.args.keys.now c.registers.i b) block h size
    (rw (← c.key_index-r.ensures.value, c.requires.rounds) (c.round_key.ensures b h)))
    c.registers.invariant

pub returns : goal.returns
returns g c i b d block h k = c.registers.invariant.done i d (omega arith) b block k
