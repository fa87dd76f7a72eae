-- The laws of files.
use Rattle.mbj_text.proofs.FileLaws.{one_of_three}
use Rattle.mbj_text.proofs.file.each_file_is_one.Goals as goal

pub returns : goal.returns
returns c = one_of_three
