-- The key stands before zeros.
use Rattle.std.proofs.Common.{ℕ, ◌++◌, ap₂, length, arith, ◌≡◌, ◌-◌, ◌*◌, ◌<◌, ◌≤◌, List, take, replicate, refl, sym, ap, ◌∙◌, length-append}
use Rattle.std.proofs.lemmas.List.{drop-replicate, take_at, length-replicate}
use Rattle.mbj_aes.proofs.States.{IsBytes-told}
use Rattle.std.proofs.lemmas.List.Elements.{All-append, All-replicate, All-same}
use Rattle.mbj_types.specs.Aes.{round_count}
use Rattle.mbj_aes.proofs.KeySizes.{key_sizes}
use Rattle.mbj_aes_lanes.specs.KeyBytes.{IsKeyArray}
use Rattle.mbj_aes.specs.Bytes.{IsBytes, IsKeySize}
use Rattle.mbj_aes_lanes.proofs.key_bytes.bytes_of_key.Goals as goal

-- a key in an array, and zeros
IsKeyArray-made : (key xs : List ℕ) → IsKeySize (length key) → IsBytes key → xs ≡ key ++ replicate (32 - length key) 0
    → IsKeyArray (round_count key) xs
IsKeyArray-made key xs size bytes is =
    let sizes = key_sizes (length key) size in
    let zero : ℕ = 0 in
    let rest : List ℕ = replicate (32 - length key) zero in
    let words : 4 * (round_count key - 6) ≡ length key = grind (arith, sizes) in
    let fits : length key ≤ 32 = grind (arith, sizes) in
    let first : take (length key) xs ≡ key = ap (take (length key)) is ∙ take_at key rest (length key) refl in
    record {
      size = ap length is ∙ length-append key rest ∙ omega (arith, fits, length-replicate (32 - length key) zero);
      bytes = All-same (λ x. x < 256) xs (key ++ rest) is (All-append (λ x. x < 256) key rest bytes (All-replicate (λ x. x < 256) (32 - length key) 0 (omega arith)));
      zeros =
          is
          ∙ ap (λ ys. ys ++ rest) (sym first)
          ∙ ap (λ (n : ℕ). take n xs ++ replicate (32 - n) zero) (sym words);
    }

pub returns-clause-array : goal.returns-clause-array
returns-clause-array c =
    let zero : ℕ = 0 in
    IsKeyArray-made c.args.key.now _ c.requires (IsBytes-told c.args.key.now (λ k. omega (arith, c.type_inv.key k)))
    (ap₂ (λ xs ys. xs ++ ys) c.copy_from_slice.ensures.after (drop-replicate (length c.args.key.now) 32 zero))
