-- Every lane has the key.
use Rattle.mbj_aes_lanes.proofs.FullLanes.{IsFull-same}
use Rattle.mbj_bench.proofs.aes.encrypt.Goals as goal

pub encrypt32-requires : goal.encrypt32-requires
encrypt32-requires c = IsFull-same c.all-keys.result c.schedule.result c.all-keys.ensures
