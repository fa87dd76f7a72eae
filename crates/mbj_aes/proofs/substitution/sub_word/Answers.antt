-- Each byte goes through its lane.
use Rattle.std.proofs.Common.{◌≡◌, ℕ, ◌%◌, ◌^◌, ◌<◌, List, [], ◌∷◌, length, map, slice_index, refl, sym, ap, ◌∙◌, arith}
use Rattle.std.proofs.Math.Nat.{mod-eq_of_lt}
use Rattle.mbj_types.specs.Aes.{sub_byte}
use Rattle.mbj_types.specs.Lanes.{lane_at}
use Rattle.mbj_types.proofs.LaneLists.{slice_index-lane_list}
use Rattle.mbj_aes.proofs.substitution.sub_word.Goals as goal

four : (w : List ℕ) → length w ≡ 4 → w ≡ slice_index w 0 ∷ slice_index w 1 ∷ slice_index w 2 ∷ slice_index w 3 ∷ []
four (a ∷ b ∷ c ∷ d ∷ []) h = refl
four w h = absurd (omega arith)

pub returns : goal.returns
returns c =
    let w : List ℕ = c.args.word.now in
    let bytes : List ℕ = c.bytes_of-bytes.result in
    let fits : (k : ℕ) → slice_index w k % 2 ^ 8 ≡ slice_index w k = λ k. mod-eq_of_lt (c.fits-word k) in
    let lane : (k : ℕ) → k < 16 → slice_index bytes k ≡ lane_at 8 c.substituted.result k = λ k h.
    ap (λ bs. slice_index bs k) c.bytes_of-bytes.ensures ∙ slice_index-lane_list (lane_at 8) 16 c.substituted.result k h in
    let byte0 = lane 0 (omega arith) ∙ c.substituted.ensures 0 (omega arith) ∙ ap sub_byte (fits 0) in
    let byte1 = lane 1 (omega arith) ∙ c.substituted.ensures 1 (omega arith) ∙ ap sub_byte (fits 1) in
    let byte2 = lane 2 (omega arith) ∙ c.substituted.ensures 2 (omega arith) ∙ ap sub_byte (fits 2) in
    let byte3 = lane 3 (omega arith) ∙ c.substituted.ensures 3 (omega arith) ∙ ap sub_byte (fits 3) in
    rw (byte0, byte1, byte2, byte3) (sym (ap (map sub_byte) (four w c.told-word)))
