-- Lane words as lists of their lanes, and lists of lane words at one lane.
use Rattle.std.proofs.Common.{◌≡◌, ℕ, ◌^◌, ◌<◌, List, length, slice_index, slice_set, get_or, sym, ap, ◌∙◌, arith}
use Rattle.std.proofs.Math.Nat.{mod-eq_of_lt}
use Rattle.std.proofs.lemmas.Grind.{same_number_lists}
use Rattle.std.proofs.lemmas.List.{get_or-map, length-map, map-set}
use Rattle.std.proofs.lemmas.List.FromFn.{length-map-range_with_len, get_or-map-range_with_len}
use Rattle.mbj_types.specs.Lanes.{lane_at, lane_list, lane_of}

-- a lane word is a list of n words
pub length-lane_list : {V : Type 0} (lane : V → ℕ → ℕ) (n : ℕ) (v : V) → length (lane_list lane n v) ≡ n
length-lane_list lane n v = length-map-range_with_len (λ i. lane v i) 0 n

-- word i of the list is lane i
pub slice_index-lane_list : {V : Type 0} (lane : V → ℕ → ℕ) (n : ℕ) (v : V) (i : ℕ) → i < n → slice_index (lane_list lane n v) i ≡ lane v i
slice_index-lane_list lane n v i h = get_or-map-range_with_len (λ i. lane v i) 0 n i i 0 h (omega arith)

-- the list of a vector's lanes is the vector itself
pub lane_list-vector : (bits n : ℕ) (xs : List ℕ) → length xs ≡ n → ((i : ℕ) → i < n → slice_index xs i < 2 ^ bits) → lane_list (lane_at bits) n xs ≡ xs
lane_list-vector bits n xs l fits =
    same_number_lists (lane_list (lane_at bits) n xs) xs (length-lane_list (lane_at bits) n xs ∙ sym l)
    (λ i h.
    let below : i < n = omega (arith, length-lane_list (lane_at bits) n xs) in
    slice_index-lane_list (lane_at bits) n xs i below ∙ mod-eq_of_lt (fits i below))

pub length-lane_of : {V : Type 0} (lane : V → ℕ → ℕ) (vs : List V) (i : ℕ) → length (lane_of lane vs i) ≡ length vs
length-lane_of lane vs i = length-map vs (λ v. lane v i)

-- lane i of the value at place k
pub slice_index-lane_of : {V : Type 0} (lane : V → ℕ → ℕ) (vs : List V) (i k : ℕ) (v : V) → k < length vs → slice_index (lane_of lane vs i) k ≡ lane (get_or vs k v) i
slice_index-lane_of lane vs i k v h = get_or-map (λ v. lane v i) vs k v 0 h

-- lane i of a value that was read at place k
pub lane_read : {V : Type 0} (lane : V → ℕ → ℕ) (vs : List V) (i k : ℕ) (v : V) → k < length vs → v ≡ get_or vs k v → lane v i ≡ slice_index (lane_of lane vs i) k
lane_read lane vs i k v h e = ap (λ v. lane v i) e ∙ sym (slice_index-lane_of lane vs i k v h)

-- lane i after a value was written at place k
pub lane_of-set : {V : Type 0} (lane : V → ℕ → ℕ) (vs : List V) (i k : ℕ) (v : V) → lane_of lane (slice_set vs k v) i ≡ slice_set (lane_of lane vs i) k (lane v i)
lane_of-set lane vs i k v = map-set _ _ _ _
