-- The lanes of the block are xored, and stand in its place.
use Rattle.std.proofs.Common.{◌≡◌, ℕ, ◌+◌, ◌-◌, ◌*◌, List, [], ◌∷◌, ◌++◌, length, take, drop, bit_xor, refl, ap, sym, ◌∙◌, arith, length-drop}
use Rattle.std.proofs.lemmas.List.{append_assoc, drop-drop, length-take-le, take_all}
use Rattle.std.specs.Simd.Lanes.{zip2}
use Rattle.std.proofs.lemmas.Simd.{put_chunk_whole}
use lib.Lanes.{put_chunk}
use Rattle.mbj_types.specs.Blocks.{xor_lists}
use Rattle.mbj_types.proofs.XorLists.{length-xor_lists}
use Rattle.mbj_blocks.specs.Places.{block_of}
use Rattle.mbj_blocks.proofs.outputs.xor_whole.Goals as goal

zip2-xor : (xs ys : List ℕ) → zip2 bit_xor xs ys ≡ xor_lists xs ys
zip2-xor [] ys = refl
zip2-xor (x ∷ xs) [] = refl
zip2-xor (x ∷ xs) (y ∷ ys) = ap (λ zs. bit_xor x y ∷ zs) (zip2-xor xs ys)

pub returns : goal.returns
returns c =
    let text : List ℕ = c.args.text.now in
    let mask : List ℕ = c.args.mask.now in
    let i : ℕ = c.args.i in
    let start : ℕ = 16 * i in
    let block : List ℕ = block_of text i in
    let span : start + 16 - start ≡ 16 = omega arith in
    let rest : length (drop start text) ≡ length text - start = length-drop start text in
    let whole : length block ≡ 16 = length-take-le 16 (drop start text) (omega arith) in
    let size : length (xor_lists block mask) ≡ length block = length-xor_lists block mask (omega arith) in
    let xored : zip2 bit_xor (take 16 block) mask ≡ xor_lists block mask =
    zip2-xor (take 16 block) mask ∙ ap (λ b. xor_lists b mask) (take_all 16 block (omega arith)) in
    let behind : start + 16 ≡ 16 * (i + 1) = omega arith in
    ap (λ (n : ℕ).
    take start text
    ++ (put_chunk 0 (take n (drop start text)) (zip2 bit_xor (take 16 (take n (drop start text))) mask) ++ drop n (drop start text)))
    span
    ∙ ap (λ ys. take start text ++ (ys ++ drop 16 (drop start text)))
    (ap (put_chunk 0 block) xored ∙ put_chunk_whole block (xor_lists block mask) (sym size))
    ∙ ap (λ ys. take start text ++ (xor_lists block mask ++ ys)) (drop-drop 16 start text ∙ ap (λ (n : ℕ). drop n text) behind)
    ∙ sym (append_assoc (take start text) (xor_lists block mask) (drop (16 * (i + 1)) text))
