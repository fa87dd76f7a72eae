-- Lists of bytes, one xored with another.
use Rattle.std.proofs.Common.{◌≡◌, ℕ, zero, suc, ◌+◌, ◌<◌, ◌≤◌, List, [], ◌∷◌, ◌++◌, length, take, drop, slice_index, slice_set, bit_xor, refl, ap, ap₂, ◌∙◌, arith, append-nil}
use Rattle.std.proofs.lemmas.List.{take_all, drop_all}
use lib.Bits.{xor_assoc, xor_self, xor_zero_r}
use Rattle.mbj_types.specs.Blocks.{xor_lists}

-- the byte at i is xored into the list whose first i bytes are
next_xored : (xs ys : List ℕ) (i : ℕ) → i < length xs → length xs ≤ length ys
    → let zs = xor_lists (take i xs) ys ++ drop i xs in
    slice_set zs i (bit_xor (slice_index zs i) (slice_index ys i)) ≡ xor_lists (take (suc i) xs) ys ++ drop (suc i) xs
next_xored [] ys i h k = absurd (omega arith)
next_xored (x ∷ xs) [] i h k = absurd (omega arith)
next_xored (x ∷ xs) (y ∷ ys) zero h k = refl
next_xored (x ∷ xs) (y ∷ ys) (suc i) h k = ap (λ zs. bit_xor x y ∷ zs) (next_xored xs ys i (omega arith) (omega arith))

-- a list zs whose first i bytes are xored, and then the next one
pub xor_lists-next : (xs ys zs : List ℕ) (i : ℕ) → i < length xs → length xs ≤ length ys
    → zs ≡ xor_lists (take i xs) ys ++ drop i xs
    → slice_set zs i (bit_xor (slice_index zs i) (slice_index ys i))
    ≡ xor_lists (take (i + 1) xs) ys ++ drop (i + 1) xs
xor_lists-next xs ys zs i h k e =
    let next : i + 1 ≡ suc i = omega arith in
    rw (next, e) (next_xored xs ys i h k)

-- a list zs whose first i bytes are xored, if that is all of them
pub xor_lists-whole : (xs ys zs : List ℕ) (i : ℕ) → length xs ≤ i → zs ≡ xor_lists (take i xs) ys ++ drop i xs
    → zs ≡ xor_lists xs ys
xor_lists-whole xs ys zs i h e =
    e ∙ ap₂ (λ done rest. xor_lists done ys ++ rest) (take_all i xs h) (drop_all i xs h) ∙ append-nil (xor_lists xs ys)

-- the length of what is xored
pub length-xor_lists : (xs ys : List ℕ) → length xs ≤ length ys → length (xor_lists xs ys) ≡ length xs
length-xor_lists [] ys h = refl
length-xor_lists (x ∷ xs) [] h = absurd (omega arith)
length-xor_lists (x ∷ xs) (y ∷ ys) h = ap suc (length-xor_lists xs ys (omega arith))

-- what is xored twice with the same bytes is as it was
pub xor_lists_twice : (xs ys : List ℕ) → length xs ≤ length ys → xor_lists (xor_lists xs ys) ys ≡ xs
xor_lists_twice [] ys h = refl
xor_lists_twice (x ∷ xs) [] h = absurd (omega arith)
xor_lists_twice (x ∷ xs) (y ∷ ys) h =
    let head : bit_xor (bit_xor x y) y ≡ x = xor_assoc x y y ∙ ap (bit_xor x) (xor_self y) ∙ xor_zero_r x in
    ap₂ (λ z zs. z ∷ zs) head (xor_lists_twice xs ys (omega arith))
