-- The field of 2^128 elements (SP 800-38D, 6.3): polynomials over bits, the coefficient of x^i at place i of a list.
use Rattle.std.specs.Prelude.{ℕ, zero, suc, ◌+◌, ◌*◌, ◌/◌, ◌%◌, ◌^◌, ◌==◌, Bool, true, false, not, ◌&&◌, List, [], ◌∷◌, ◌++◌, length, take, replicate, map, slice_index_or}

-- the sum of two coefficients
abbrev pub plus : Bool → Bool → Bool
plus false b = b
plus true b = not b

-- the sum of two polynomials; the rest of the longer one stays
abbrev pub add : List Bool → List Bool → List Bool
add [] q = q
add (a ∷ p) [] = a ∷ p
add (a ∷ p) (b ∷ q) = plus a b ∷ add p q

abbrev pub scale : Bool → List Bool → List Bool
scale c p = map (λ b. c && b) p

-- the schoolbook product of two polynomials
abbrev pub mul : List Bool → List Bool → List Bool
mul [] q = []
mul (a ∷ p) q = add (scale a q) (false ∷ mul p q)

abbrev pub zeros : ℕ → List Bool
zeros n = replicate n false

-- 1 + x + x^2 + x^7, which x^128 is
abbrev pub tail : List Bool
tail = true ∷ true ∷ true ∷ false ∷ false ∷ false ∷ false ∷ true ∷ []

abbrev pub coefficient : List Bool → ℕ → Bool
coefficient p i = slice_index_or p i false

-- the coefficient of x^(n + 128), the highest, replaced by way of x^128
abbrev pub fold_top : ℕ → List Bool → List Bool
fold_top n p = add (take (n + 128) p) (zeros n ++ scale (coefficient p (n + 128)) tail)

-- the coefficients of x^(n + 127) down to x^128 replaced
abbrev pub reduce : ℕ → List Bool → List Bool
reduce zero p = p
reduce (suc n) p = reduce n (fold_top n p)

-- the product in the field: the coefficients of x^254 down to x^128 of the schoolbook product are replaced
unfoldable pub product : List Bool → List Bool → List Bool
product p q = reduce 127 (mul p q)

-- ---- multiples of an element by a polynomial, by one coefficient after another

-- the product by x of 128 coefficients: each moves up by one place, and the one that comes to x^128 is replaced
unfoldable pub times_x : List Bool → List Bool
times_x p = add (false ∷ take 127 p) (scale (coefficient p 127) tail)

-- the product by x^n
unfoldable pub times_power : ℕ → List Bool → List Bool
times_power zero p = p
times_power (suc n) p = times_power n (times_x p)

-- the multiple of v by the polynomial p: the sum of v, x v, x^2 v and so on, each taken by its coefficient
abbrev pub multiple : List Bool → List Bool → List Bool
multiple [] v = zeros 128
multiple (c ∷ p) v = add (scale c v) (multiple p (times_x v))

-- f 0 + x^8 f 1 + x^16 f 2 and so on, n terms
unfoldable pub weighted : (ℕ → List Bool) → ℕ → List Bool
weighted f zero = zeros 128
weighted f (suc n) = add (weighted f n) (times_power (8 * n) (f n))

-- the n low bits of v, the highest first
unfoldable pub bits : ℕ → ℕ → List Bool
bits zero v = []
bits (suc n) v = (v / 2 ^ n % 2 == 1) ∷ bits n v

-- the number of a list of bits, the highest first
abbrev pub number : List Bool → ℕ
number [] = 0
number (true ∷ p) = 2 ^ length p + number p
number (false ∷ p) = number p
