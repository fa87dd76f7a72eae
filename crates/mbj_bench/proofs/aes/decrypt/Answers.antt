-- Every lane has the key.
use Rattle.mbj_aes_lanes.proofs.FullLanes.{IsFull-same}
use Rattle.mbj_bench.proofs.aes.decrypt.Goals as goal

pub decrypt32-requires : goal.decrypt32-requires
decrypt32-requires c = IsFull-same c.all-keys.result c.schedule.result c.all-keys.ensures
