-- Settling looks at no cell, so the last looks are those of the work before it.
use Rattle.std.proofs.Common.{rules}
use Rattle.mbj_work.proofs.party.Party.serve.Goals as goal

pub returns-clause-looks : goal.returns-clause-looks
returns-clause-looks g c = search rules
