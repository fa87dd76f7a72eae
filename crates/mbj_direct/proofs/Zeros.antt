-- Arrays that end with zero bytes.
use Rattle.std.proofs.Common.{◌≡◌, ℕ, ◌+◌, ◌-◌, ◌*◌, ◌≤◌, List, ◌++◌, length, take, drop, replicate, sym, ap, ap₂, ◌∙◌, arith}
use Rattle.std.proofs.lemmas.List.{take_at, drop_at, drop-drop, drop-replicate}
use Rattle.mbj_blocks.specs.Places.{with_block}

-- a block is put where the zeros begin
pub put_next : (done block old new : List ℕ) (r n : ℕ) → length done ≡ 16 * r → 16 * (r + 1) ≤ n
    → old ≡ done ++ replicate (n - 16 * r) 0 → new ≡ with_block old r block
    → new ≡ done ++ block ++ replicate (n - 16 * (r + 1)) 0
put_next done block old new r n size fits e f =
    let zero : ℕ = 0 in
    let zeros : List ℕ = replicate (n - 16 * r) zero in
    let next : 16 * (r + 1) ≡ 16 * r + 16 = omega arith in
    let left : n - 16 * r - 16 ≡ n - 16 * (r + 1) = omega arith in
    let front : take (16 * r) old ≡ done = ap (take (16 * r)) e ∙ take_at done zeros (16 * r) size in
    let back : drop (16 * (r + 1)) old ≡ replicate (n - 16 * (r + 1)) zero =
    ap (λ (k : ℕ). drop k old) next
    ∙ sym (drop-drop 16 (16 * r) old)
    ∙ ap (drop 16) (ap (drop (16 * r)) e ∙ drop_at done zeros (16 * r) size)
    ∙ drop-replicate 16 (n - 16 * r) zero
    ∙ ap (λ (k : ℕ). replicate k zero) left in
    f ∙ ap₂ (λ xs ys. xs ++ block ++ ys) front back
