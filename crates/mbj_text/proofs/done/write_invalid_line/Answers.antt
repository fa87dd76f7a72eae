-- The line is its parts.
use Rattle.std.proofs.Common.{append_assoc}
use Rattle.mbj_text.proofs.done.write_invalid_line.Goals as goal

pub returns : goal.returns
returns g c = simp append_assoc (rw (c.from.ensures, c.from-2.ensures) at c.write_line.ensures)
