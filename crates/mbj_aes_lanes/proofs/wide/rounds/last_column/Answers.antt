-- The constant that the S-box leaves out is the key's.
use Rattle.std.proofs.Common.{◌≡◌, ℕ, [], ◌∷◌, bit_xor, ap, ◌∙◌}
use lib.Bits.{xor_assoc, xor_comm}
use Rattle.mbj_aes.specs.declared.tables.TheConstants.{SBOX_CONSTANT}
use Rattle.mbj_aes_lanes.proofs.wide.rounds.last_column.Goals as goal

moved : (x y k : ℕ) → y ≡ bit_xor x SBOX_CONSTANT → bit_xor y k ≡ bit_xor x (bit_xor k SBOX_CONSTANT)
moved x y k e =
    ap (λ (y : ℕ). bit_xor y k) e ∙ xor_assoc x SBOX_CONSTANT k ∙ ap (bit_xor x) (xor_comm SBOX_CONSTANT k)

pub returns : goal.returns
returns g c i h =
    let lane = g.V.Lane8.lane in
    let key = c.args.key in
    let b0 = moved _ _ (lane key.0 i) (c.substituted_from_tower.ensures i h) in
    let b1 = moved _ _ (lane key.1 i) (c.substituted_from_tower-2.ensures i h) in
    let b2 = moved _ _ (lane key.2 i) (c.substituted_from_tower-3.ensures i h) in
    let b3 = moved _ _ (lane key.3 i) (c.substituted_from_tower-4.ensures i h) in
    c.xor_words.ensures.plain i h ∙ (λ j. b0 j ∷ b1 j ∷ b2 j ∷ b3 j ∷ [])
