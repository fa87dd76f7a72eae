-- The blocks of a message by their numbers, and what a CMAC comes to by its rounds.
use Rattle.std.proofs.Common.{◌≡◌, ℕ, zero, suc, ◌+◌, ◌-◌, ◌*◌, ◌<◌, ◌≤◌, List, [], ◌∷◌, length, take, drop, get_or, refl, sym, ap, ap₂, ◌∙◌, arith, length-drop}
use Rattle.std.proofs.lemmas.List.{drop-drop, drop-take, take-take, get_or-drop}
use Rattle.std.proofs.Math.Path.{fun_ext}
use Rattle.mbj_types.specs.Aes.{aes, encipher, key_schedule}
use Rattle.mbj_types.specs.Blocks.{xor_lists, zero_block}
use Rattle.mbj_types.specs.Cmac.{closed, closed_block, message_blocks, cmac}
use Rattle.mbj_types.specs.Result.{range}
use Rattle.mbj_types.specs.Rounds.{cmac_rounds}
use Rattle.mbj_aes.proofs.ExpandedKeys.{encipher-key_schedule}
use Rattle.mbj_lane.specs.Rounds.{end_of}
use Rattle.mbj_aes_lanes.proofs.ChainedEnds.{chain_end, same-after}
use Rattle.mbj_blocks.specs.Places.{block_of}
use Rattle.mbj_blocks.proofs.Blocks.{length-blocks}
use Rattle.mbj_blocks.proofs.Ranges.{length-range}
use Rattle.mbj_cmac.specs.Rounds.{CmacState, chain_of, rest_of, round, started}
use Rattle.mbj_cmac.proofs.Messages.{closed-more, closed-last}

-- ---- how many blocks there are

length-closed : (e : List ℕ → List ℕ) (ps : List (List ℕ)) → length (closed e ps) ≡ length ps
length-closed e [] = refl
length-closed e (p ∷ []) = refl
length-closed e (p ∷ q ∷ ps) = ap suc (length-closed e (q ∷ ps))

length-message_blocks : (m : List ℕ) → length (message_blocks m) ≡ cmac_rounds (length m)
length-message_blocks [] = refl
length-message_blocks (x ∷ m) = omega (arith, length-blocks (x ∷ m))

-- as many as there are rounds
length-closed_blocks : (e : List ℕ → List ℕ) (m : List ℕ) → length (closed e (message_blocks m)) ≡ cmac_rounds (length m)
length-closed_blocks e m = length-closed e (message_blocks m) ∙ length-message_blocks m

-- ---- block i

-- the blocks from block i on
drop-closed : (e : List ℕ → List ℕ) (m : List ℕ) (i : ℕ) → i < cmac_rounds (length m)
    → drop i (closed e (message_blocks m)) ≡ closed e (message_blocks (drop (16 * i) m))
drop-closed e m zero h = refl
drop-closed e m (suc i) h =
    let next : suc i ≡ i + 1 = omega arith in
    sym (drop-drop 1 i (closed e (message_blocks m)) ∙ ap (λ (n : ℕ). drop n (closed e (message_blocks m))) (sym next))
    ∙ ap (drop 1) (drop-closed e m i (omega arith) ∙ closed-more e m i (omega arith))
    ∙ ap (λ (n : ℕ). closed e (message_blocks (drop (16 * n) m))) (sym next)

head-of : (xs : List (List ℕ)) (i : ℕ) → get_or xs i [] ≡ get_or (drop i xs) 0 []
head-of xs i =
    let at : i ≡ i + 0 = omega arith in
    ap (λ (n : ℕ). get_or xs n []) at ∙ sym (get_or-drop i xs 0 [])

-- a block before the last one is as it is in the message
pub block-more : (e : List ℕ → List ℕ) (m : List ℕ) (i : ℕ) → i + 1 < cmac_rounds (length m)
    → get_or (closed e (message_blocks m)) i [] ≡ block_of m i
block-more e m i h =
    head-of (closed e (message_blocks m)) i
    ∙ ap (λ bs. get_or bs 0 []) (drop-closed e m i (omega arith) ∙ closed-more e m i (omega arith))

-- the last block is closed
pub block-last : (e : List ℕ → List ℕ) (m : List ℕ) (i : ℕ) → i + 1 ≡ cmac_rounds (length m)
    → get_or (closed e (message_blocks m)) i [] ≡ closed_block e (drop (16 * i) m)
block-last e m i h =
    head-of (closed e (message_blocks m)) i
    ∙ ap (λ bs. get_or bs 0 [])
    (drop-closed e m i (omega arith) ∙ closed-last e (drop (16 * i) m) (omega (arith, length-drop (16 * i) m)))

-- ---- the range that the message is

-- block i of a range that has it whole
pub range-block : (off len i : ℕ) (packet : List ℕ) → 16 * (i + 1) ≤ len
    → take 16 (drop (off + 16 * i) packet) ≡ block_of (range off len packet) i
range-block off len i packet h =
    let whole : 16 * i + (len - 16 * i) ≡ len = omega arith in
    ap (take 16) (sym (drop-drop (16 * i) off packet))
    ∙ sym (take-take 16 (len - 16 * i) (drop (16 * i) (drop off packet)) (omega arith))
    ∙ ap (take 16) (sym (drop-take (16 * i) (len - 16 * i) (drop off packet)))
    ∙ ap (λ (n : ℕ). take 16 (drop (16 * i) (take n (drop off packet)))) whole

-- what is left of a range behind this many bytes
pub range-rest : (off len at : ℕ) (packet : List ℕ) → at ≤ len
    → take (off + len - (off + at)) (drop (off + at) packet) ≡ drop at (range off len packet)
range-rest off len at packet h =
    let left : off + len - (off + at) ≡ len - at = omega arith in
    let whole : at + (len - at) ≡ len = omega arith in
    ap₂ (λ (n : ℕ) xs. take n xs) left (sym (drop-drop at off packet))
    ∙ sym (drop-take at (len - at) (drop off packet))
    ∙ ap (λ (n : ℕ). drop at (take n (drop off packet))) whole

-- ---- the rounds

module _ (key packet : List ℕ) (off len : ℕ) (h : off + len ≤ length packet) where
  abbrev state : ℕ → List ℕ → CmacState
  state rest chain = record { packet = packet; rest = rest; chain = chain; key = key; off = off; len = len }

  abbrev parts : List (List ℕ)
  parts = closed (encipher key) (message_blocks (range off len packet))

  many : length parts ≡ cmac_rounds len
  many = length-closed_blocks (encipher key) (range off len packet) ∙ ap cmac_rounds (length-range off len packet h)

  -- a round takes the next block
  advanced : (n i : ℕ) (chain : List ℕ) → i + suc n ≡ length parts
      → round (state (suc n) chain) ≡ state n (encipher key (xor_lists (get_or parts i []) chain))
  advanced n i chain at =
      let place : cmac_rounds len - suc n ≡ i = omega (arith, many) in
      let fewer : suc n - 1 ≡ n = omega arith in
      ap₂ (λ (m k : ℕ). state m (encipher key (xor_lists (get_or parts k []) chain))) fewer place

  -- at the end the chaining value is the CMAC
  pub mac_end : (end_of round rest_of (started key packet off len)).chain ≡ cmac (encipher key) (range off len packet)
  mac_end = chain_end round chain_of state (encipher key) parts (λ n c. refl) advanced (cmac_rounds len) zero_block (sym many)

  -- and the packet is as it was given
  pub packet_end : (end_of round rest_of (started key packet off len)).packet ≡ packet
  packet_end = same-after round (λ (e : CmacState). e.packet) (λ e. refl) (cmac_rounds len) (started key packet off len)

-- under the schedule of a key it is the CMAC under the key
pub mac_end-key : (key packet : List ℕ) (off len : ℕ) → off + len ≤ length packet
    → (end_of round rest_of (started (key_schedule key) packet off len)).chain ≡ cmac (aes key) (range off len packet)
mac_end-key key packet off len h =
    mac_end (key_schedule key) packet off len h
    ∙ ap (λ (e : List ℕ → List ℕ). cmac e (range off len packet)) (fun_ext (encipher-key_schedule key))
