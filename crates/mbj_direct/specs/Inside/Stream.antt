-- The key stream of GCM, byte by byte.
use Rattle.std.specs.Prelude.{ℕ, ◌+◌, ◌/◌, ◌%◌, List, [], ◌∷◌, bit_xor, slice_index_or}
use Rattle.mbj_gcm.specs.Incremented.{incremented}

-- its byte n, where e enciphers and j is the counter block before the first one
abbrev pub stream_byte : (List ℕ → List ℕ) → List ℕ → ℕ → ℕ
stream_byte e j n = slice_index_or (e (incremented j (n / 16 + 1))) (n % 16) 0

-- a part of a text, before which n bytes stand, xored with it
abbrev pub streamed : (List ℕ → List ℕ) → List ℕ → ℕ → List ℕ → List ℕ
streamed e j n [] = []
streamed e j n (x ∷ xs) = bit_xor x (stream_byte e j n) ∷ streamed e j (n + 1) xs
