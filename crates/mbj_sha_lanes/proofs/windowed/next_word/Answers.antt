use Rattle.std.proofs.Common.{ℕ, ◌+◌, ◌%◌, arith}
use Rattle.mbj_types.specs.Lanes.{lane_of}
use Rattle.mbj_types.proofs.LaneLists.{lane_of-set, lane_read}
use Rattle.mbj_sha_lanes.proofs.Windows.{window_next, window_word}
use Rattle.mbj_sha_lanes.proofs.windowed.next_word.Goals as goal

pub returns-clause-word : goal.returns-clause-word
returns-clause-word g c i b lt win =
    let lane = g.W.Words.lane in
    let ws = c.args.words.now in
    let t : ℕ = c.args.t in
    window_word g.met.H.Sha2.laws b (lane_of lane ws i) t _ _ _ _ _ win c.requires.low c.requires.high
    (c.schedule_word-word.ensures i lt)
    (lane_read lane ws i ((t + 14) % 16) c.index-words-t.result (omega arith) c.index-words-t.is)
    (lane_read lane ws i ((t + 9) % 16) c.index-words-t-2.result (omega arith) c.index-words-t-2.is)
    (lane_read lane ws i ((t + 1) % 16) c.index-words-t-3.result (omega arith) c.index-words-t-3.is)
    (lane_read lane ws i (t % 16) c.index-words-t-4.result (omega arith) c.index-words-t-4.is)

pub returns-clause-window : goal.returns-clause-window
returns-clause-window g c i b lt win =
    let lane = g.W.Words.lane in
    let word = returns-clause-word g c i b lt win in
    rw (lane_of-set lane c.args.words.now i (c.args.t % 16) c.schedule_word-word.result)
    (window_next g.met.H.Sha2.laws b (lane_of lane c.args.words.now i) c.args.t _ win c.requires.low word)
