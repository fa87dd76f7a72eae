use Rattle.std.proofs.Common.{refl}
use Rattle.mbj_aes.proofs.BlockWords.{first_in_both, second_in_both}
use Rattle.mbj_aes.proofs.register.both.Goals as goal

pub returns-clause-first : goal.returns-clause-first
returns-clause-first c j h = first_in_both _ c.args.first c.args.second j c.fits-first.0 refl h

pub returns-clause-second : goal.returns-clause-second
returns-clause-second c j h = second_in_both _ c.args.first c.args.second j c.fits-first.0 refl h
