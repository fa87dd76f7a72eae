-- What an encryption comes to, by its rounds.
use Rattle.std.proofs.Common.{◌≡◌, ℕ, zero, suc, ◌+◌, ◌-◌, ◌*◌, ◌/◌, ◌%◌, ◌≤◌, List, [], ◌∷◌, ◌++◌, length, take, drop, sym, ap, ap₂, ◌∙◌, arith, length-append, length-drop}
use Rattle.std.specs.List.{concat}
use Rattle.std.proofs.lemmas.List.{append_assoc, drop-drop, take-append-drop, take_at, drop_at, length-take-le}
use Rattle.std.proofs.Math.Path.{fun_ext}
use Rattle.mbj_types.specs.Aes.{aes, encipher, key_schedule}
use Rattle.mbj_types.specs.Blocks.{xor_lists}
use Rattle.mbj_types.specs.Modes.{cbc, cbc_text}
use Rattle.mbj_types.specs.Result.{range}
use Rattle.mbj_aes.specs.Bytes.{IsKey}
use Rattle.mbj_aes.proofs.ExpandedKeys.{encipher-key_schedule, length-key_schedule}
use Rattle.mbj_aes.proofs.Rounds.{length-encipher}
use Rattle.mbj_lane.specs.Rounds.{after, end_of}
use Rattle.mbj_blocks.proofs.Blocks.{blocks-nil, blocks-cons}
use Rattle.mbj_cbc.specs.Rounds.{CbcState, rest_of, round, started}

module _ (key : List ℕ) (off len : ℕ) (long : 16 ≤ length key) where
  abbrev state : List ℕ → ℕ → List ℕ → CbcState
  state packet rest chain = record { packet = packet; rest = rest; chain = chain; key = key; off = off; len = len }

  -- one round, where b is the next block, before it stands what is done and behind it what is left
  one_round : (done b left chain : List ℕ) (n : ℕ) → length done + 16 * suc n ≡ off + len → length b ≡ 16
      → round (state (done ++ b ++ left) (suc n) chain)
      ≡ state (done ++ encipher key (xor_lists b chain) ++ left) n (encipher key (xor_lists b chain))
  one_round done b left chain n at size =
      let p : ℕ = off + len - 16 * suc n in
      let place : length done ≡ p = omega arith in
      let fewer : suc n - 1 ≡ n = omega arith in
      let packet : List ℕ = done ++ b ++ left in
      let first : packet ≡ done ++ (b ++ left) = append_assoc done b left in
      let block : take 16 (drop p packet) ≡ b =
      ap (λ xs. take 16 (drop p xs)) first ∙ ap (take 16) (drop_at done (b ++ left) p place) ∙ take_at b left 16 size in
      let before : take p packet ≡ done = ap (take p) first ∙ take_at done (b ++ left) p place in
      let behind : drop (p + 16) packet ≡ left = drop_at (done ++ b) left (p + 16) (omega (arith, length-append done b)) in
      let c : List ℕ = encipher key (xor_lists (take 16 (drop p packet)) chain) in
      let sealed : c ≡ encipher key (xor_lists b chain) = ap (λ x. encipher key (xor_lists x chain)) block in
      ap₂ (λ xs ys. state (xs ++ c ++ ys) (suc n - 1) c) before behind
      ∙ ap₂ (λ d m. state (done ++ d ++ left) m d) sealed fewer

  -- n rounds, which are all that are left
  all_rounds : (n : ℕ) (done text behind chain : List ℕ) → length done + 16 * n ≡ off + len → length text ≡ 16 * n
      → (after round n (state (done ++ text ++ behind) n chain)).packet ≡ done ++ cbc_text (encipher key) chain text ++ behind
  all_rounds zero done [] behind chain at size =
      ap (λ bs. done ++ concat (cbc (encipher key) chain bs) ++ behind) (sym (blocks-nil [] (omega arith)))
  all_rounds zero done (x ∷ text) behind chain at size = absurd (omega arith)
  all_rounds (suc n) done text behind chain at size =
      let b : List ℕ = take 16 text in
      let left : List ℕ = drop 16 text in
      let c : List ℕ = encipher key (xor_lists b chain) in
      let block : length b ≡ 16 = length-take-le 16 text (omega arith) in
      let cut : done ++ text ++ behind ≡ done ++ b ++ (left ++ behind) =
      ap (λ xs. done ++ xs ++ behind) (sym (take-append-drop 16 text))
      ∙ ap (λ xs. xs ++ behind) (sym (append_assoc done b left))
      ∙ append_assoc (done ++ b) left behind in
      let whole : cbc_text (encipher key) chain text ≡ c ++ cbc_text (encipher key) c left =
      ap (λ bs. concat (cbc (encipher key) chain bs)) (blocks-cons text (omega arith)) in
      ap (λ p. (after round n (round (state p (suc n) chain))).packet) cut
      ∙ ap (λ e. (after round n e).packet) (one_round done b (left ++ behind) chain n at block)
      ∙ ap (λ p. (after round n (state p n c)).packet) (sym (append_assoc (done ++ c) left behind))
      ∙ all_rounds n (done ++ c) left behind c
      (omega (arith, length-append done c, length-encipher key (xor_lists b chain) long)) (omega (arith, length-drop 16 text))
      ∙ ap (λ xs. xs ++ behind)
      (append_assoc done c (cbc_text (encipher key) c left) ∙ ap (λ xs. done ++ xs) (sym whole))

  -- at the end the range is encrypted
  pub encrypted_end : (iv packet : List ℕ) → off + len ≤ length packet → len % 16 ≡ 0
      → (end_of round rest_of (started key iv packet off len)).packet
      ≡ take off packet ++ cbc_text (encipher key) iv (range off len packet) ++ drop (off + len) packet
  encrypted_end iv packet h whole =
      let text : List ℕ = range off len packet in
      let behind : List ℕ = drop (off + len) packet in
      let cut : packet ≡ take off packet ++ text ++ behind =
      sym (append_assoc (take off packet) text behind
      ∙ ap (λ xs. take off packet ++ xs) (ap (λ ys. text ++ ys) (sym (drop-drop len off packet)) ∙ take-append-drop len (drop off packet))
      ∙ take-append-drop off packet) in
      let before : length (take off packet) ≡ off = length-take-le off packet (omega arith) in
      let size : length text ≡ len = length-take-le len (drop off packet) (omega (arith, length-drop off packet)) in
      ap (λ p. (after round (len / 16) (state p (len / 16) iv)).packet) cut
      ∙ all_rounds (len / 16) (take off packet) text behind iv (omega arith) (omega arith)

-- under the schedule of a key it is encrypted under the key
pub encrypted_end-key : (key : List ℕ) (off len : ℕ) (iv packet : List ℕ) → IsKey key → off + len ≤ length packet → len % 16 ≡ 0
    → (end_of round rest_of (started (key_schedule key) iv packet off len)).packet
    ≡ take off packet ++ cbc_text (aes key) iv (range off len packet) ++ drop (off + len) packet
encrypted_end-key key off len iv packet is h whole =
    encrypted_end (key_schedule key) off len (omega (arith, length-key_schedule key is)) iv packet h whole
    ∙ ap (λ (e : List ℕ → List ℕ). take off packet ++ cbc_text e iv (range off len packet) ++ drop (off + len) packet)
    (fun_ext (encipher-key_schedule key))
