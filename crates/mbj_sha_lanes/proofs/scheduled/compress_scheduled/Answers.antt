-- The blocks' words stand at the front of the schedule that is made.
use Rattle.std.proofs.Common.{◌≡◌, length, sym, ap, ◌∙◌}
use Rattle.std.proofs.lemmas.List.{take_at, take-map}
use Rattle.mbj_types.specs.Lanes.{lane_of}
use Rattle.mbj_sha_lanes.specs.Sha2.{add_state}
use Rattle.mbj_sha_lanes.proofs.scheduled.compress_scheduled.Goals as goal

pub returns : goal.returns
returns g c i b lt words =
    let lane = g.W.Words.lane in
    let f = g.H.Sha2.standard in
    let copied = c.copy_from_slice.new.self in
    let size : length copied ≡ 16 = ap length c.copy_from_slice.ensures.after ∙ c.requires.words in
    let front =
    words
    ∙ ap (λ ws. lane_of lane ws i) (sym (take_at copied _ 16 size ∙ c.copy_from_slice.ensures.after))
    ∙ sym (take-map (λ v. lane v i) 16 _) in
    c.add_working.ensures i lt
    ∙ ap (add_state g.W.Words.width (lane_of lane c.args.states.now i))
    (c.all_rounds-v.ensures i b lt (c.fill.ensures.schedule i b lt front)
    ∙ ap (λ h. f.rounds h (f.schedule b) f.count) (c.working_of.ensures i))
