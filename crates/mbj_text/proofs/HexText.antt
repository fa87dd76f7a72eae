-- Hexadecimal text in parts.
use Rattle.std.proofs.Common.{◌≡◌, ◌∙◌, ◌/◌, ◌%◌, ℕ, List, [], ◌∷◌, ◌++◌, ap, refl, slice_index}
use Rattle.hex.specs.Hex.{encode_lower, encode_with, lower_digits}

-- bytes one after another are spelled one after another
encode_with-append : (t xs ys : List ℕ)
    → encode_with t (xs ++ ys) ≡ encode_with t xs ++ encode_with t ys
unfolding encode_with
encode_with-append t [] ys = refl
encode_with-append t (x ∷ xs) ys =
    let digits = λ (l : List ℕ). slice_index t (x / 16) ∷ slice_index t (x % 16) ∷ l in
    ap digits (encode_with-append t xs ys)

-- bytes that are cut in two are spelled one after the other
pub encode_lower-cut : (bytes front after : List ℕ)
    → bytes ≡ front ++ after → encode_lower bytes ≡ encode_lower front ++ encode_lower after
encode_lower-cut bytes front after cut =
    ap encode_lower cut ∙ encode_with-append lower_digits front after

-- no bytes have no digits
pub encode_lower-nil : encode_lower [] ≡ []
unfolding encode_with
encode_lower-nil = refl
