-- One word after the other.
use Rattle.std.proofs.Common.{◌++◌, take, drop, ap, ◌∙◌}
use Rattle.mbj_types.specs.Lanes.{lane_of}
use Rattle.mbj_types.proofs.LaneLists.{length-lane_of}
use Rattle.mbj_aes_lanes.specs.Inside.Wide.{word_lane, state_lane}
use Rattle.mbj_aes_lanes.proofs.WideWords.{four-words}
use Rattle.mbj_aes_lanes.proofs.wide.words.put_state.Goals as goal

pub returns : goal.returns
unfolding state_lane
returns g c i =
    let lane = g.V.Lane8.lane in
    let s = c.args.s.now in
    c.put_word-4.ensures i
    ∙ ap (λ ys. take 12 ys ++ word_lane lane s.3 i ++ drop 16 ys)
    (c.put_word-3.ensures i
    ∙ ap (λ ys. take 8 ys ++ word_lane lane s.2 i ++ drop 12 ys)
    (c.put_word-2.ensures i ∙ ap (λ ys. take 4 ys ++ word_lane lane s.1 i ++ drop 8 ys) (c.put_word.ensures i)))
    ∙ four-words (lane_of lane c.args.words.now i) _ _ _ _ _ _ _ _ _ _ _ _ _ _ _ _ (length-lane_of lane c.args.words.now i ∙ c.requires)
