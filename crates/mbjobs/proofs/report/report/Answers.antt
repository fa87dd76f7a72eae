use Rattle.std.proofs.Common.{rules}
use Rattle.mbjobs.proofs.report.report.Goals as goal

pub returns-in-Line : goal.returns-in-Line
returns-in-Line g c = rw c.in-Line.is (search rules)

pub returns-in-Bytes : goal.returns-in-Bytes
returns-in-Bytes g c = rw c.in-Bytes.is (search rules)

pub returns-in-Jobs : goal.returns-in-Jobs
returns-in-Jobs g c = rw c.in-Jobs.is (search rules)

pub returns-in-Memory : goal.returns-in-Memory
returns-in-Memory g c = rw c.in-Memory.is (search rules)
