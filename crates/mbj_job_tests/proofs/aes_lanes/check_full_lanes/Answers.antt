-- Every lane has the schedule.
use Rattle.mbj_aes_lanes.proofs.FullLanes.{IsFull-same}
use Rattle.mbj_job_tests.proofs.aes_lanes.check_full_lanes.Goals as goal

pub encrypt32-requires : goal.encrypt32-requires
encrypt32-requires g c = IsFull-same c.all.result c.args.schedule.now c.all.ensures

pub decrypt32-requires : goal.decrypt32-requires
decrypt32-requires g c = IsFull-same c.all-2.result c.args.schedule.now c.all-2.ensures
