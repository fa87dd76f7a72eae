-- What the collect answered is counted.
use Rattle.mbj_c.proofs.seat_bursts.collect_next.Goals as goal

pub returns : goal.returns
returns c =
    let answer = c.collect-is_given.ensures in
    (answer.0, (answer.1.0, c.count.ensures answer.0 c.args.out.now c.collect-is_given.new.out answer.1.1))
