-- MIXCOLUMNS and its inverse on whole states.
use Rattle.std.proofs.Common.{◌≡◌, ℕ, ◌+◌, ◌<◌, List, [], ◌∷◌, ◌++◌, slice_index, refl, ◌∙◌, arith}
use Rattle.std.proofs.lemmas.List.Elements.{All-cons, All-nil, All-append}
use Rattle.mbj_types.specs.Aes.{mixed_byte, inv_mixed_byte, mix_columns, inv_mix_columns}
use Rattle.mbj_aes.specs.Bytes.{IsBytes, IsBlock}
use Rattle.mbj_aes.proofs.Circulants.{IsColumn, turned, after, mixed_byte_small, inv_mixed_byte_small, unmixed_byte, remixed_byte}
use Rattle.mbj_aes.proofs.States.{picked-all}

-- ---- columns changed alike

-- a column whose first byte m makes, and whose others it makes of the column turned
abbrev column : (ℕ → ℕ → ℕ → ℕ → ℕ) → ℕ → ℕ → ℕ → ℕ → List ℕ
column m a b c d = m a b c d ∷ m b c d a ∷ m c d a b ∷ m d a b c ∷ []

-- the column of the state s that begins at byte k
abbrev column_at : (ℕ → ℕ → ℕ → ℕ → ℕ) → List ℕ → ℕ → List ℕ
column_at m s k = column m (slice_index s k) (slice_index s (k + 1)) (slice_index s (k + 2)) (slice_index s (k + 3))

-- all four columns
abbrev pub columns : (ℕ → ℕ → ℕ → ℕ → ℕ) → List ℕ → List ℕ
columns m s = column_at m s 0 ++ column_at m s 4 ++ column_at m s 8 ++ column_at m s 12

-- four bytes of a block, from byte k on
IsColumn-block : (s : List ℕ) (k : ℕ) → IsBlock s → k + 3 < 16
    → IsColumn (slice_index s k) (slice_index s (k + 1)) (slice_index s (k + 2)) (slice_index s (k + 3))
IsColumn-block s k h inside = record {
  first = h.bytes k 0 (omega arith);
  second = h.bytes (k + 1) 0 (omega arith);
  third = h.bytes (k + 2) 0 (omega arith);
  fourth = h.bytes (k + 3) 0 (omega arith);
}

-- ---- two ways to change columns that agree on bytes agree on states

-- of one column
column-same : (m n : ℕ → ℕ → ℕ → ℕ → ℕ) → ((a b c d : ℕ) → IsColumn a b c d → m a b c d ≡ n a b c d)
    → (a b c d : ℕ) → IsColumn a b c d → column m a b c d ≡ column n a b c d
column-same m n same a b c d h =
    let h1 : IsColumn b c d a = turned a b c d h in
    let h2 : IsColumn c d a b = turned b c d a h1 in
    let h3 : IsColumn d a b c = turned c d a b h2 in
    λ j. same a b c d h j ∷ same b c d a h1 j ∷ same c d a b h2 j ∷ same d a b c h3 j ∷ []

-- of all four
columns-same : (m n : ℕ → ℕ → ℕ → ℕ → ℕ) → ((a b c d : ℕ) → IsColumn a b c d → m a b c d ≡ n a b c d)
    → (s : List ℕ) → IsBlock s → columns m s ≡ columns n s
columns-same m n same s h =
    let each : (k : ℕ) → k + 3 < 16 → column_at m s k ≡ column_at n s k = λ k inside.
    column-same m n same (slice_index s k) (slice_index s (k + 1)) (slice_index s (k + 2)) (slice_index s (k + 3))
    (IsColumn-block s k h inside) in
    λ j. each 0 (omega arith) j ++ each 4 (omega arith) j ++ each 8 (omega arith) j ++ each 12 (omega arith) j

-- INVMIXCOLUMNS after MIXCOLUMNS
pub unmixed_columns : (s : List ℕ) → IsBlock s → inv_mix_columns (mix_columns s) ≡ s
unmixed_columns s h =
    columns-same (after inv_mixed_byte mixed_byte) (λ a b c d. a) unmixed_byte s h ∙ picked-all s h.size

-- MIXCOLUMNS after INVMIXCOLUMNS
pub remixed_columns : (s : List ℕ) → IsBlock s → mix_columns (inv_mix_columns s) ≡ s
remixed_columns s h =
    columns-same (after mixed_byte inv_mixed_byte) (λ a b c d. a) remixed_byte s h ∙ picked-all s h.size

-- ---- blocks stay blocks

-- a column made of bytes
IsBytes-column : (m : ℕ → ℕ → ℕ → ℕ → ℕ) → ((a b c d : ℕ) → IsColumn a b c d → m a b c d < 256)
    → (a b c d : ℕ) → IsColumn a b c d → IsBytes (column m a b c d)
IsBytes-column m small a b c d h =
    let P : ℕ → Type 0 = λ x. x < 256 in
    let h1 : IsColumn b c d a = turned a b c d h in
    let h2 : IsColumn c d a b = turned b c d a h1 in
    let h3 : IsColumn d a b c = turned c d a b h2 in
    All-cons P (m a b c d) (m b c d a ∷ m c d a b ∷ m d a b c ∷ []) (small a b c d h)
    (All-cons P (m b c d a) (m c d a b ∷ m d a b c ∷ []) (small b c d a h1)
    (All-cons P (m c d a b) (m d a b c ∷ []) (small c d a b h2)
    (All-cons P (m d a b c) [] (small d a b c h3) (All-nil P))))

-- a state made of columns
IsBlock-columns : (m : ℕ → ℕ → ℕ → ℕ → ℕ) → ((a b c d : ℕ) → IsColumn a b c d → m a b c d < 256)
    → (s : List ℕ) → IsBlock s → IsBlock (columns m s)
IsBlock-columns m small s h =
    let P : ℕ → Type 0 = λ x. x < 256 in
    let at : ℕ → List ℕ = column_at m s in
    let each : (k : ℕ) → k + 3 < 16 → IsBytes (at k) = λ k inside.
    IsBytes-column m small (slice_index s k) (slice_index s (k + 1)) (slice_index s (k + 2)) (slice_index s (k + 3))
    (IsColumn-block s k h inside) in
    let two : IsBytes (at 0 ++ at 4) = All-append P (at 0) (at 4) (each 0 (omega arith)) (each 4 (omega arith)) in
    let three : IsBytes (at 0 ++ at 4 ++ at 8) = All-append P (at 0 ++ at 4) (at 8) two (each 8 (omega arith)) in
    record { size = refl; bytes = All-append P (at 0 ++ at 4 ++ at 8) (at 12) three (each 12 (omega arith)) }

-- MIXCOLUMNS of a block
pub IsBlock-mix_columns : (s : List ℕ) → IsBlock s → IsBlock (mix_columns s)
IsBlock-mix_columns s h = IsBlock-columns mixed_byte mixed_byte_small s h

-- INVMIXCOLUMNS of a block
pub IsBlock-inv_mix_columns : (s : List ℕ) → IsBlock s → IsBlock (inv_mix_columns s)
IsBlock-inv_mix_columns s h = IsBlock-columns inv_mixed_byte (λ a b c d column. inv_mixed_byte_small a b c d) s h
