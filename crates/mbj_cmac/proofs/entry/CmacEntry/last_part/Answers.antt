-- It is what the range has behind the blocks before it.
use Rattle.std.proofs.Common.{◌*◌, ◌-◌, arith}
use Rattle.mbj_types.specs.Rounds.{cmac_rounds}
use Rattle.mbj_cmac.proofs.Ends.{range-rest}
use Rattle.mbj_cmac.proofs.entry.CmacEntry.last_part.Goals as goal

pub returns-clause-part : goal.returns-clause-part
returns-clause-part g c =
    let f = c.self.inside in
    rw (← c.self.view_is, c.deref.ensures.value, c.rounds.ensures)
    (range-rest f.off f.len (16 * (cmac_rounds f.len - 1)) f.packet.items (omega arith))
