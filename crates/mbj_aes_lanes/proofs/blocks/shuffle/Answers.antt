-- Each row is half of two rows in turn.
use Rattle.std.proofs.Common.{◌≡◌, ℕ, ◌+◌, ◌*◌, ◌/◌, ◌%◌, List, [], ◌∷◌, length, slice_index, ap, ◌∙◌, arith, zero, suc, ◌<◌, slice_set, get_or, refl}
use Rattle.mbj_aes_lanes.specs.Inside.Matrix.{byte_at_row, in_turn}
use Rattle.mbj_aes_lanes.proofs.ByteMatrices.{byte_in_turn}
use Rattle.mbj_types.specs.Lanes.{lane_at, lane_of}
use Rattle.mbj_aes_lanes.proofs.blocks.shuffle.Goals as goal

at_each_place : (P : ℕ → Type 0) → P 0 → P 1 → P 2 → P 3 → P 4 → P 5 → P 6 → P 7 → P 8 → P 9 → P 10 → P 11 → P 12 → P 13 → P 14 → P 15 → (t : ℕ) → t < 16 → P t
at_each_place P p0 p1 p2 p3 p4 p5 p6 p7 p8 p9 p10 p11 p12 p13 p14 p15 zero h = p0
at_each_place P p0 p1 p2 p3 p4 p5 p6 p7 p8 p9 p10 p11 p12 p13 p14 p15 (suc zero) h = p1
at_each_place P p0 p1 p2 p3 p4 p5 p6 p7 p8 p9 p10 p11 p12 p13 p14 p15 (suc (suc zero)) h = p2
at_each_place P p0 p1 p2 p3 p4 p5 p6 p7 p8 p9 p10 p11 p12 p13 p14 p15 (suc (suc (suc zero))) h = p3
at_each_place P p0 p1 p2 p3 p4 p5 p6 p7 p8 p9 p10 p11 p12 p13 p14 p15 (suc (suc (suc (suc zero)))) h = p4
at_each_place P p0 p1 p2 p3 p4 p5 p6 p7 p8 p9 p10 p11 p12 p13 p14 p15 (suc (suc (suc (suc (suc zero))))) h = p5
at_each_place P p0 p1 p2 p3 p4 p5 p6 p7 p8 p9 p10 p11 p12 p13 p14 p15 (suc (suc (suc (suc (suc (suc zero)))))) h = p6
at_each_place P p0 p1 p2 p3 p4 p5 p6 p7 p8 p9 p10 p11 p12 p13 p14 p15 (suc (suc (suc (suc (suc (suc (suc zero))))))) h = p7
at_each_place P p0 p1 p2 p3 p4 p5 p6 p7 p8 p9 p10 p11 p12 p13 p14 p15 (suc (suc (suc (suc (suc (suc (suc (suc zero)))))))) h = p8
at_each_place P p0 p1 p2 p3 p4 p5 p6 p7 p8 p9 p10 p11 p12 p13 p14 p15 (suc (suc (suc (suc (suc (suc (suc (suc (suc zero))))))))) h = p9
at_each_place P p0 p1 p2 p3 p4 p5 p6 p7 p8 p9 p10 p11 p12 p13 p14 p15 (suc (suc (suc (suc (suc (suc (suc (suc (suc (suc zero)))))))))) h = p10
at_each_place P p0 p1 p2 p3 p4 p5 p6 p7 p8 p9 p10 p11 p12 p13 p14 p15 (suc (suc (suc (suc (suc (suc (suc (suc (suc (suc (suc zero))))))))))) h = p11
at_each_place P p0 p1 p2 p3 p4 p5 p6 p7 p8 p9 p10 p11 p12 p13 p14 p15 (suc (suc (suc (suc (suc (suc (suc (suc (suc (suc (suc (suc zero)))))))))))) h = p12
at_each_place P p0 p1 p2 p3 p4 p5 p6 p7 p8 p9 p10 p11 p12 p13 p14 p15 (suc (suc (suc (suc (suc (suc (suc (suc (suc (suc (suc (suc (suc zero))))))))))))) h = p13
at_each_place P p0 p1 p2 p3 p4 p5 p6 p7 p8 p9 p10 p11 p12 p13 p14 p15 (suc (suc (suc (suc (suc (suc (suc (suc (suc (suc (suc (suc (suc (suc zero)))))))))))))) h = p14
at_each_place P p0 p1 p2 p3 p4 p5 p6 p7 p8 p9 p10 p11 p12 p13 p14 p15 (suc (suc (suc (suc (suc (suc (suc (suc (suc (suc (suc (suc (suc (suc (suc zero))))))))))))))) h = p15
at_each_place P p0 p1 p2 p3 p4 p5 p6 p7 p8 p9 p10 p11 p12 p13 p14 p15 (suc (suc (suc (suc (suc (suc (suc (suc (suc (suc (suc (suc (suc (suc (suc (suc n)))))))))))))))) h = absurd (omega arith)

-- sixteen lane words written one after another
lane_of-written : {V : Type 0} (lane : V → ℕ → ℕ) (words : List V) (v0 v1 v2 v3 v4 v5 v6 v7 v8 v9 v10 v11 v12 v13 v14 v15 : V) (i : ℕ)
    → length words ≡ 16
    → lane_of lane (slice_set (slice_set (slice_set (slice_set (slice_set (slice_set (slice_set (slice_set (slice_set (slice_set (slice_set (slice_set (slice_set (slice_set (slice_set (slice_set words 0 v0) 1 v1) 2 v2) 3 v3) 4 v4) 5 v5) 6 v6) 7 v7) 8 v8) 9 v9) 10 v10) 11 v11) 12 v12) 13 v13) 14 v14) 15 v15) i
    ≡ lane v0 i ∷ lane v1 i ∷ lane v2 i ∷ lane v3 i ∷ lane v4 i ∷ lane v5 i ∷ lane v6 i ∷ lane v7 i ∷ lane v8 i ∷ lane v9 i ∷ lane v10 i ∷ lane v11 i ∷ lane v12 i ∷ lane v13 i ∷ lane v14 i ∷ lane v15 i ∷ []
lane_of-written lane (x0 ∷ x1 ∷ x2 ∷ x3 ∷ x4 ∷ x5 ∷ x6 ∷ x7 ∷ x8 ∷ x9 ∷ x10 ∷ x11 ∷ x12 ∷ x13 ∷ x14 ∷ x15 ∷ []) v0 v1 v2 v3 v4 v5 v6 v7 v8 v9 v10 v11 v12 v13 v14 v15 i h = refl
lane_of-written lane words v0 v1 v2 v3 v4 v5 v6 v7 v8 v9 v10 v11 v12 v13 v14 v15 i h = absurd (omega arith)

pub returns : goal.returns
returns c j h k hj hg hk =
    let lane : List ℕ → ℕ → ℕ = lane_at 8 in
    let rows = c.args.rows.now in
    let size : length rows ≡ 16 = c.requires in
    let i : ℕ = 16 * h + k in
    let written = lane_of-written lane rows c.lower_in_turn.result c.upper_in_turn.result c.lower_in_turn-2.result c.upper_in_turn-2.result c.lower_in_turn-3.result c.upper_in_turn-3.result c.lower_in_turn-4.result c.upper_in_turn-4.result c.lower_in_turn-5.result c.upper_in_turn-5.result c.lower_in_turn-6.result c.upper_in_turn-6.result c.lower_in_turn-7.result c.upper_in_turn-7.result c.lower_in_turn-8.result c.upper_in_turn-8.result i size in
    let after : List ℕ = lane c.lower_in_turn.result i ∷ lane c.upper_in_turn.result i ∷ lane c.lower_in_turn-2.result i ∷ lane c.upper_in_turn-2.result i ∷ lane c.lower_in_turn-3.result i ∷ lane c.upper_in_turn-3.result i ∷ lane c.lower_in_turn-4.result i ∷ lane c.upper_in_turn-4.result i ∷ lane c.lower_in_turn-5.result i ∷ lane c.upper_in_turn-5.result i ∷ lane c.lower_in_turn-6.result i ∷ lane c.upper_in_turn-6.result i ∷ lane c.lower_in_turn-7.result i ∷ lane c.upper_in_turn-7.result i ∷ lane c.lower_in_turn-8.result i ∷ lane c.upper_in_turn-8.result i ∷ [] in
    let lower : (m : ℕ) (v : List ℕ) → m < 8 → lane v i ≡ lane (in_turn (get_or rows m []) (get_or rows (m + 8) []) k) (16 * h + k / 2)
    → lane v i ≡ byte_at_row lane rows (m + 8 * (k % 2)) (16 * h + (0 + k / 2)) = λ m v below e.
    let place : 16 * h + k / 2 ≡ 16 * h + (0 + k / 2) = omega arith in
    e ∙ byte_in_turn lane rows m k (16 * h + k / 2) [] below size ∙ ap (byte_at_row lane rows (m + 8 * (k % 2))) place in
    let upper : (m : ℕ) (v : List ℕ) → m < 8 → lane v i ≡ lane (in_turn (get_or rows m []) (get_or rows (m + 8) []) k) (16 * h + (8 + k / 2))
    → lane v i ≡ byte_at_row lane rows (m + 8 * (k % 2)) (16 * h + (8 + k / 2)) = λ m v below e.
    e ∙ byte_in_turn lane rows m k (16 * h + (8 + k / 2)) [] below size in
    ap (λ xs. slice_index xs j) written
    ∙ at_each_place (λ j. slice_index after j ≡ byte_at_row lane rows (j / 2 + 8 * (k % 2)) (16 * h + (8 * (j % 2) + k / 2)))
    (lower 0 c.lower_in_turn.result (omega arith) (c.lower_in_turn.ensures h k hg hk)) (upper 0 c.upper_in_turn.result (omega arith) (c.upper_in_turn.ensures h k hg hk))
    (lower 1 c.lower_in_turn-2.result (omega arith) (c.lower_in_turn-2.ensures h k hg hk)) (upper 1 c.upper_in_turn-2.result (omega arith) (c.upper_in_turn-2.ensures h k hg hk))
    (lower 2 c.lower_in_turn-3.result (omega arith) (c.lower_in_turn-3.ensures h k hg hk)) (upper 2 c.upper_in_turn-3.result (omega arith) (c.upper_in_turn-3.ensures h k hg hk))
    (lower 3 c.lower_in_turn-4.result (omega arith) (c.lower_in_turn-4.ensures h k hg hk)) (upper 3 c.upper_in_turn-4.result (omega arith) (c.upper_in_turn-4.ensures h k hg hk))
    (lower 4 c.lower_in_turn-5.result (omega arith) (c.lower_in_turn-5.ensures h k hg hk)) (upper 4 c.upper_in_turn-5.result (omega arith) (c.upper_in_turn-5.ensures h k hg hk))
    (lower 5 c.lower_in_turn-6.result (omega arith) (c.lower_in_turn-6.ensures h k hg hk)) (upper 5 c.upper_in_turn-6.result (omega arith) (c.upper_in_turn-6.ensures h k hg hk))
    (lower 6 c.lower_in_turn-7.result (omega arith) (c.lower_in_turn-7.ensures h k hg hk)) (upper 6 c.upper_in_turn-7.result (omega arith) (c.upper_in_turn-7.ensures h k hg hk))
    (lower 7 c.lower_in_turn-8.result (omega arith) (c.lower_in_turn-8.ensures h k hg hk)) (upper 7 c.upper_in_turn-8.result (omega arith) (c.upper_in_turn-8.ensures h k hg hk))
    j hj
