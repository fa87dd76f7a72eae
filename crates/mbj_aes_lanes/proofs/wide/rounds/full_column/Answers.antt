-- Each byte of the column by the law of one.
use Rattle.std.proofs.Common.{◌≡◌, ℕ, ◌<◌, [], ◌∷◌, bit_xor, ap, ap₂, ◌∙◌}
use Rattle.mbj_types.specs.Aes.{times, sub_byte}
use Rattle.mbj_aes.specs.declared.substitution.WithDouble.{WithDouble}
use Rattle.mbj_aes.specs.declared.tables.TheConstants.{SBOX_CONSTANT}
use Rattle.mbj_aes.specs.Tower.{from_tower}
use Rattle.mbj_aes.proofs.ByteMaps.{sub_byte_small}
use Rattle.mbj_aes.proofs.Sums.{sum4, sum4-turned}
use Rattle.mbj_aes_lanes.proofs.WideColumns.{IsSubstituted, sum-tower, mixed_byte-tower}
use Rattle.mbj_aes_lanes.proofs.wide.rounds.full_column.Goals as goal

pub returns : goal.returns
returns g c i h =
    let lane = g.V.Lane8.lane in
    let fits = g.met.V.Lane8.fits in
    let box : _ → ℕ = λ v. sub_byte (from_tower (lane v i)) in
    let w = c.args.column in
    let key = c.args.key in
    let s0 = c.substituted_in_tower-s0.result in
    let s1 = c.substituted_in_tower-s1.result in
    let s2 = c.substituted_in_tower-s2.result in
    let s3 = c.substituted_in_tower-s3.result in
    let made : (v : g.row.V.Denot) (s : WithDouble g.row.V.Denot) → from_tower (lane s.once i) ≡ bit_xor (box v) SBOX_CONSTANT
    → from_tower (lane s.twice i) ≡ times 2 (bit_xor (box v) SBOX_CONSTANT) → IsSubstituted (box v) (lane s.once i) (lane s.twice i) =
    λ v s once twice. record {
      small = sub_byte_small (from_tower (lane v i));
      once_small = fits s.once i;
      twice_small = fits s.twice i;
      once_is = once;
      twice_is = twice;
    } in
    let is0 = made w.0 s0 (c.substituted_in_tower-s0.ensures.once i h) (c.substituted_in_tower-s0.ensures.twice i h) in
    let is1 = made w.1 s1 (c.substituted_in_tower-s1.ensures.once i h) (c.substituted_in_tower-s1.ensures.twice i h) in
    let is2 = made w.2 s2 (c.substituted_in_tower-s2.ensures.once i h) (c.substituted_in_tower-s2.ensures.twice i h) in
    let is3 = made w.3 s3 (c.substituted_in_tower-s3.ensures.once i h) (c.substituted_in_tower-s3.ensures.twice i h) in
    let all : ℕ = lane c.xored-all.result i in
    let small : all < 256 = fits c.xored-all.result i in
    let sums : all ≡ bit_xor (bit_xor (lane s0.once i) (lane s1.once i)) (bit_xor (lane s2.once i) (lane s3.once i)) =
    c.xored-all.ensures i h ∙ ap₂ bit_xor (c.xored.ensures i h) (c.xored-2.ensures i h) in
    let sum : from_tower all ≡ sum4 (box w.0) (box w.1) (box w.2) (box w.3) =
    ap from_tower sums ∙ sum-tower _ _ _ _ _ _ _ _ _ _ _ _ is0 is1 is2 is3 in
    let sum3 : from_tower all ≡ sum4 (box w.3) (box w.0) (box w.1) (box w.2) = sum ∙ sum4-turned (box w.0) (box w.1) (box w.2) (box w.3) in
    let sum2 : from_tower all ≡ sum4 (box w.2) (box w.3) (box w.0) (box w.1) = sum3 ∙ sum4-turned (box w.3) (box w.0) (box w.1) (box w.2) in
    let sum1 : from_tower all ≡ sum4 (box w.1) (box w.2) (box w.3) (box w.0) = sum2 ∙ sum4-turned (box w.2) (box w.3) (box w.0) (box w.1) in
    let byte0 = ap from_tower (c.mixed_byte.ensures i h) ∙ mixed_byte-tower all _ _ _ _ _ _ _ _ (lane key.0 i) small sum is0 is1 (fits key.0 i) in
    let byte1 = ap from_tower (c.mixed_byte-2.ensures i h) ∙ mixed_byte-tower all _ _ _ _ _ _ _ _ (lane key.1 i) small sum1 is1 is2 (fits key.1 i) in
    let byte2 = ap from_tower (c.mixed_byte-3.ensures i h) ∙ mixed_byte-tower all _ _ _ _ _ _ _ _ (lane key.2 i) small sum2 is2 is3 (fits key.2 i) in
    let byte3 = ap from_tower (c.mixed_byte-4.ensures i h) ∙ mixed_byte-tower all _ _ _ _ _ _ _ _ (lane key.3 i) small sum3 is3 is0 (fits key.3 i) in
    λ j. byte0 j ∷ byte1 j ∷ byte2 j ∷ byte3 j ∷ []
