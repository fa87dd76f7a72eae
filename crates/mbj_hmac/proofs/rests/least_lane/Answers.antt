use Rattle.std.proofs.Common.{◌≡◌, ◌<◌, length, min, get_or, w32, sym, ap₂, ◌∙◌, arith}
use Rattle.mbj_hmac.proofs.Vectors.{IsLeastOf, halves_least, halves_size, lane_is, least_of_four}
use Rattle.mbj_hmac.proofs.rests.least_lane.Goals as goal

found : (c : goal.After-least-3) → IsLeastOf c.least-3.result c.args.words
found c =
    let v = c.args.words in
    let half = c.lesser_half.result in
    let quarter = c.lesser_quarter.result in
    let size : length v ≡ 16 = c.fits-words.0 in
    let size8 : length half ≡ 8 = halves_size 8 v half size c.lesser_half.ensures in
    let size4 : length quarter ≡ 4 = halves_size 4 half quarter size8 c.lesser_quarter.ensures in
    let is : c.least-3.result ≡ min (min (get_or quarter 0 0) (get_or quarter 1 0)) (min (get_or quarter 2 0) (get_or quarter 3 0)) =
    c.least-3.ensures ∙ ap₂ min c.least.ensures c.least-2.ensures in
    rw is (halves_least 8 v half size c.lesser_half.ensures _ (halves_least 4 half quarter size8 c.lesser_quarter.ensures _ (least_of_four quarter size4)))

pub returns-clause-below : goal.returns-clause-below
returns-clause-below c i h =
    let size : length c.args.words ≡ 16 = c.fits-words.0 in
    rw (lane_is w32 c.args.words 16 i size c.fits-words.1 h) ((found c).below i (omega (arith, size)))

pub returns-clause-met : goal.returns-clause-met
returns-clause-met c =
    let size : length c.args.words ≡ 16 = c.fits-words.0 in
    let m = (found c).met in
    let h : m.0 < 16 = omega (arith, m.1, size) in
    (m.0, h, m.2 ∙ sym (lane_is w32 c.args.words 16 m.0 size c.fits-words.1 h))
