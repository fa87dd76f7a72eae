-- The limits are these numbers.
use Rattle.std.proofs.Common.{refl}
use Rattle.mbj_text.proofs.limits.files_have_these_limits.Goals as goal

pub returns-clause-bytes : goal.returns-clause-bytes
returns-clause-bytes c = refl

pub returns-clause-jobs : goal.returns-clause-jobs
returns-clause-jobs c = refl
