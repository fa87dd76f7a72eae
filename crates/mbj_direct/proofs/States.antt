-- A text that comes in parts, under the schedule of its key.
use Rattle.std.proofs.Common.{◌≡◌, ℕ, ◌≤◌, List, [], ◌∷◌, ◌++◌, length, refl, sym, ap, ap₂, ◌∙◌, arith, append-nil, append_assoc, length-append}
use Rattle.std.proofs.Math.Path.{fun_ext}
use Rattle.std.proofs.lemmas.Bool.{cond_both, eqb-true}
use Rattle.std.specs.Prelude.{nat_eq, nat_lt, ◌&&◌, Bool, true, false, map, replicate, if◌then◌else◌}
use Rattle.std.specs.List.{concat}
use Rattle.mbj_types.specs.Aes.{aes, encipher, key_schedule, is_key_size}
use Rattle.mbj_types.specs.Blocks.{zero_block, filled_block, filled_blocks}
use Rattle.mbj_types.specs.Ghash.{block_product, ghash}
use Rattle.mbj_types.specs.Gcm.{bit_length, gcm_text, gctr, inc32, pre_counter_block}
use Rattle.mbj_blocks.proofs.Blocks.{blocks-nil}
use Rattle.mbj_aes.specs.Bytes.{IsKey, IsKeySize}
use Rattle.mbj_aes.proofs.KeySizes.{key_sizes}
use Rattle.mbj_aes.proofs.AesLaws.{length-aes}
use Rattle.mbj_aes.proofs.ExpandedKeys.{encipher-key_schedule}
use Rattle.mbj_direct.specs.Laws.{AnyCuttingGivesOneText}
use Rattle.mbj_direct.specs.Parts.{dir_number, is_gcm_state, part_texts}
use Rattle.mbj_direct.specs.declared.parts.GcmState.{GcmState}
use Rattle.mbj_direct.proofs.BlockRuns.{ghash_from-append}
use Rattle.mbj_direct.proofs.Streams.{gcm_text-append, gcm_text-behind}

-- the schedule of a key enciphers as the key does
pub enciphers : (key w : List ℕ) → w ≡ key_schedule key → encipher w ≡ aes key
enciphers key w is = fun_ext (λ b. ap (λ (s : List ℕ). encipher s b) is ∙ encipher-key_schedule key b)

-- a hash is a block
pub length-ghash : (h : List ℕ) (xs : List (List ℕ)) (x : List ℕ) → length (ghash h (xs ++ x ∷ [])) ≡ 16
unfolding block_product
length-ghash h xs x = ap length (ghash_from-append h zero_block xs (x ∷ []))

-- the pre-counter block is one
pub length-pre_counter_block : (h iv : List ℕ) → length (pre_counter_block h iv) ≡ 16
unfolding pre_counter_block
length-pre_counter_block h iv =
    let hashed : List ℕ = ghash h (filled_blocks iv ++ (replicate 8 0 ++ bit_length (length iv)) ∷ []) in
    let numbered : List ℕ = iv ++ 0 ∷ 0 ∷ 0 ∷ 1 ∷ [] in
    cond_both (nat_eq (length iv) 12) numbered hashed (λ b. length b ≡ 16)
    (λ e. let twelve : length iv ≡ 12 = eqb-true (length iv) 12 e in length-append iv (0 ∷ 0 ∷ 0 ∷ 1 ∷ []) ∙ omega arith)
    (λ e. length-ghash h (filled_blocks iv) (replicate 8 0 ++ bit_length (length iv)))

-- the parts of a text that is cut become what the whole becomes
module _ (key iv : List ℕ) (k : IsKey key) where
  abbrev e : List ℕ → List ℕ
  e = aes key

  size : length (pre_counter_block (e zero_block) iv) ≡ 16
  size = length-pre_counter_block (e zero_block) iv

  one_text : (so_far : List ℕ) (parts : List (List ℕ))
      → gcm_text e iv so_far ++ concat (part_texts e iv so_far parts) ≡ gcm_text e iv (so_far ++ concat parts)
  one_text so_far [] = append-nil (gcm_text e iv so_far) ∙ ap (gcm_text e iv) (sym (append-nil so_far))
  one_text so_far (p ∷ ps) =
      let sizes : (b : List ℕ) → length (e b) ≡ 16 = λ b. length-aes key b k in
      let later : List ℕ = concat (part_texts e iv (so_far ++ p) ps) in
      sym (append_assoc (gcm_text e iv so_far) _ later)
      ∙ ap (λ xs. xs ++ later) (ap (λ ys. gcm_text e iv so_far ++ ys) (gcm_text-behind e iv sizes size so_far p)
      ∙ sym (gcm_text-append e iv sizes size so_far p))
      ∙ one_text (so_far ++ p) ps
      ∙ ap (gcm_text e iv) (append_assoc so_far p (concat ps))

-- the empty text stays empty
pub gcm_text-none : (e : List ℕ → List ℕ) (iv : List ℕ) → gcm_text e iv [] ≡ []
gcm_text-none e iv =
    ap (λ bs. concat (gctr e (inc32 (pre_counter_block (e zero_block) iv)) bs)) (blocks-nil [] refl)

pub any_cutting : AnyCuttingGivesOneText
any_cutting key iv parts k =
    ap (λ xs. xs ++ concat (part_texts (aes key) iv [] parts)) (sym (gcm_text-none (aes key) iv))
    ∙ one_text key iv k [] parts

-- ---- states

-- no part, no block
pub filled_blocks-none : filled_blocks [] ≡ []
filled_blocks-none = ap (map filled_block) (blocks-nil [] refl)

-- nothing of a text is taken at first
pub nothing_yet : (sealing : Bool) (e : List ℕ → List ℕ) (iv : List ℕ) → (if sealing then gcm_text e iv [] else []) ≡ []
nothing_yet true e iv = gcm_text-none e iv
nothing_yet false e iv = refl

-- a key of its size and a direction make a state
pub state_made : (n dir : ℕ) (sealing : Bool) → is_key_size n ≡ true → dir ≡ dir_number sealing → (is_key_size n && nat_lt dir 2) ≡ true
state_made n dir true k d = ap₂ (λ a (b : ℕ). a && nat_lt b 2) k d
state_made n dir false k d = ap₂ (λ a (b : ℕ). a && nat_lt b 2) k d

front_test : (a b : Bool) → (a && b) ≡ true → a ≡ true
front_test true b h = refl
front_test false b h = h

-- the key of a state has its size
pub state_size : (s : GcmState) → is_gcm_state s ≡ true → IsKeySize s.key_bytes
state_size s h = front_test (is_key_size s.key_bytes) (nat_lt s.dir 2) h

-- and its room holds it
pub state_fits : (s : GcmState) → is_gcm_state s ≡ true → s.key_bytes ≤ 32
state_fits s h =
    let sizes = key_sizes s.key_bytes (state_size s h) in
    omega arith
