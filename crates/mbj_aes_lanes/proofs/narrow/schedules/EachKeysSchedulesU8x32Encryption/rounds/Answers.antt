use Rattle.std.proofs.Common.{refl}
use Rattle.mbj_aes_lanes.specs.Inside.LaidKeys.{laid_key}
use Rattle.mbj_aes_lanes.specs.Inside.LaidLaws.{length-laid_key}
use Rattle.mbj_aes_lanes.proofs.LaidSchedules.{length-laid}
use Rattle.mbj_aes_lanes.proofs.narrow.schedules.EachKeysSchedulesU8x32Encryption.rounds.Goals as goal

pub returns-clause-sizes : goal.returns-clause-sizes
returns-clause-sizes c i b h k = length-laid laid_key _ length-laid_key _ _ refl
