use Rattle.std.proofs.Common.{ℕ, ◌-◌, ◌<◌, length, ◌∙◌, arith}
use Rattle.std.proofs.lemmas.List.{length-set}
use Rattle.mbj_types.specs.Lanes.{lane_of}
use Rattle.mbj_types.proofs.LaneLists.{lane_of-set, lane_read, length-lane_of}
use Rattle.mbj_sha_lanes.proofs.Windows.{scheduled_first, scheduled_next}
use Rattle.mbj_sha_lanes.proofs.scheduled.fill.Goals as goal

pub words-init : goal.words-init
words-init g c =
    (c.requires, λ i b lt e. scheduled_first g.met.H.Sha2.laws b (lane_of g.W.Words.lane c.args.words.now i) e)

pub words-preserved : goal.words-preserved
words-preserved g c =
    let lane = g.W.Words.lane in
    let t : ℕ = c.words.t in
    let ws = c.words.words in
    let rounds = g.met.H.Sha2.rounds in
    let laws = g.met.H.Sha2.laws in
    let size = c.words.invariant.0 in (
      length-set ws t _ ∙ size,
      λ i b lt e.
          let inside : t < length (lane_of lane ws i) = omega (arith, length-lane_of lane ws i, size) in
          rw (lane_of-set lane ws i t c.schedule_word.result)
          (scheduled_next laws b (lane_of lane ws i) t _ _ _ _ _ (c.words.invariant.1 i b lt e) (omega arith) (omega arith) inside
          (c.schedule_word.ensures i lt)
          (lane_read lane ws i (t - 2) c.index-words-t.result (omega arith) c.index-words-t.is)
          (lane_read lane ws i (t - 7) c.index-words-t-in-words.result (omega arith) c.index-words-t-in-words.is)
          (lane_read lane ws i (t - 15) c.index-words-t-in-words-2.result (omega arith) c.index-words-t-in-words-2.is)
          (lane_read lane ws i (t - 16) c.index-words-t-in-words-3.result (omega arith) c.index-words-t-in-words-3.is)),
    )
