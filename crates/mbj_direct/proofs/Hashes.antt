-- A hash that takes a part more.
use Rattle.std.proofs.Common.{◌≡◌, ℕ, ◌+◌, ◌%◌, ◌^◌, List, ◌++◌, length, take, sym, ap, ap₂, ◌∙◌, arith, length-append, append_assoc}
use Rattle.mbj_types.specs.Blocks.{zero_block}
use Rattle.mbj_types.specs.Ghash.{ghash, ghash_from}
use Rattle.mbj_direct.specs.declared.hash.PartHash.{PartHash}
use Rattle.mbj_direct.specs.Hashed.{IsHashed}
use Rattle.mbj_direct.proofs.BlockRuns.{whole_blocks, behind, open_part, ghash_from-append, whole_blocks-append, behind-append}

-- the bytes of the open block, and the part p
abbrev pub taken : PartHash → ℕ → List ℕ → List ℕ
taken s used p = take used s.last ++ p

-- s has taken c, and t takes the part p more
pub hashed-next : (xs : List (List ℕ)) (c p : List ℕ) (s t : PartHash) (used : ℕ) → IsHashed xs c s → used ≡ length c % 16
    → t.subkey ≡ s.subkey → t.value ≡ ghash_from s.subkey s.value (whole_blocks (taken s used p))
    → take ((length c + length p) % 16) t.last ≡ behind (taken s used p)
    → t.bytes ≡ (s.bytes + length p) % 2 ^ 64
    → IsHashed xs (c ++ p) t
hashed-next xs c p s t used h u same value last bytes =
    let d : List ℕ = taken s used p in
    let size : length (c ++ p) ≡ length c + length p = length-append c p in
    let part : d ≡ open_part c p =
    ap (λ (n : ℕ). take n s.last ++ p) u ∙ ap (λ q. q ++ p) h.rest in
    let before : List (List ℕ) = whole_blocks c in
    record {
      value =
          value
          ∙ ap₂ (λ y q. ghash_from s.subkey y (whole_blocks q)) h.value part
          ∙ sym (ghash_from-append s.subkey zero_block (xs ++ before) (whole_blocks (open_part c p)))
          ∙ ap (ghash s.subkey) (append_assoc xs before (whole_blocks (open_part c p))
          ∙ ap (λ bs. xs ++ bs) (sym (whole_blocks-append c p)))
          ∙ ap (λ k. ghash k (xs ++ whole_blocks (c ++ p))) (sym same);
      rest =
          ap (λ (n : ℕ). take (n % 16) t.last) size
          ∙ last
          ∙ ap behind part
          ∙ sym (behind-append c p);
      bytes = bytes ∙ omega (arith, h.bytes);
    }
