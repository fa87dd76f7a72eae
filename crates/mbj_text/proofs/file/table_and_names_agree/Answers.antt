-- The table and the names say the same.
use Rattle.mbj_text.proofs.Names.{same}
use Rattle.mbj_text.proofs.file.table_and_names_agree.Goals as goal

pub returns : goal.returns
returns c = same
