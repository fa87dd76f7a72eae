-- The end of a new entry is its digest or its HMAC.
use Rattle.std.proofs.Common.{◌≡◌, ℕ, ◌+◌, ◌/◌, ◌*◌, ◌^◌, ◌≤◌, ◌<◌, ◌⊎◌, inl, inr, List, [], ◌++◌, length, take, drop, sym, ap, ◌∙◌, arith, length-append, length-drop, refl}
use Rattle.std.proofs.lemmas.List.{length-take-le}
use Rattle.mbj_types.specs.declared.class.HashName.{HashName}
use Rattle.mbj_types.specs.Hmac.{Hash, hmac, block_key, padded_key, ipad, opad}
use Rattle.mbj_types.specs.Rounds.{hash_rounds, hmac_rounds, states_rounds}
use Rattle.mbj_types.specs.States.{digest_from, hash_from, hmac_from_states}
use Rattle.mbj_lane.specs.Rounds.{end_of}
use Rattle.mbj_hmac.specs.declared.form.Form.{Form}
use Rattle.mbj_hmac.specs.declared.form.Form.TheVariants.{Plain, Keyed, States}
use Rattle.mbj_hmac.specs.Forms.{counted}
use Rattle.mbj_hmac.specs.Rounds.{Hashing, HmacState, compression, hashed, padded, padded_in, round, rest_of, started, started_plain, started_states}
use Rattle.mbj_hmac.specs.Inside.Layout.{IsStandard, tail_blocks}
use Rattle.mbj_hmac.proofs.Numbers.{blocks, rounds_is, split, fill_is}
use Rattle.mbj_hmac.proofs.RoundEnds.{end_digest, end_hash, end_packet, plain_run_end, states_inner, states_run_end}
use Rattle.mbj_hmac.proofs.Laid.{bytes_behind, counted_is, length-padding, length-padded}
use Rattle.mbj_hmac.proofs.Writes.{digest_full}

module _ (h : Hashing) (std : IsStandard h) (a : HashName) where
  abbrev b : ℕ
  b = h.block_bytes

  -- the blocks of the padded text, of which f stand before the message
  text_blocks : (form : Form) (front packet : List ℕ) (off len f : ℕ) → length front ≡ b * f
      → (bytes_behind form b + b * f ≡ 0) ⊎ (bytes_behind form b + b * f ≡ b) → off + len ≤ length packet → len < 2 ^ 32
      → length (padded_in h form (front ++ take len (drop off packet))) / b ≡ f + hash_rounds b len
  text_blocks form front packet off len f lf before range small =
      let k : ℕ = bytes_behind form b in
      let msg : List ℕ = take len (drop off packet) in
      let lm : length msg ≡ len = length-take-le len (drop off packet) (omega (arith, length-drop off packet)) in
      let count : ℕ = counted form b (length (front ++ msg)) in
      let n : count ≡ k + b * f + len = counted_is form b (length (front ++ msg)) ∙ omega (arith, length-append front msg) in
      let p : length (h.padding count) ≡ _ = ap (λ n. length (h.padding n)) n ∙ length-padding h std (k + b * f) len before small in
      let l : length (padded_in h form (front ++ msg)) ≡ b * (f + len / b + tail_blocks b len) =
      omega (arith, length-append (front ++ msg) (h.padding count), length-append front msg, p, split b std.size len, fill_is b std.size len) in
      omega (arith, blocks b std.size (f + len / b + tail_blocks b len) (length (padded_in h form (front ++ msg))) l, rounds_is b std.size len)

  -- an HMAC under a key
  module _ (front back packet : List ℕ) (off len : ℕ) where
    abbrev msg : List ℕ
    msg = take len (drop off packet)

    -- the rounds of the inner hash, and two
    rounds : length front ≡ b → off + len ≤ length packet → len < 2 ^ 32 → hmac_rounds b len ≡ length (padded h (front ++ msg)) / b + 2
    rounds lf range small =
        let one : b ≡ b * 1 = omega arith in
        omega (arith, text_blocks Keyed front packet off len 1 (lf ∙ one) (inr (omega arith)) range small)

    pub packet_end : length front ≡ b → off + len ≤ length packet → len < 2 ^ 32
        → (end_of (round h) rest_of (started h a front back packet off len)).packet ≡ packet
    packet_end lf range small = end_packet h a front back packet off len (rounds lf range small)

    pub hmac_end : (hash : Hash) (key : List ℕ) → ((m : List ℕ) → hash.digest m ≡ h.digest a (hashed h a m))
        → front ≡ padded_key ipad (block_key hash key) → back ≡ padded_key opad (block_key hash key)
        → length front ≡ b → length back ≡ b → off + len ≤ length packet → len < 2 ^ 32
        → (let end : HmacState = end_of (round h) rest_of (started h a front back packet off len) in h.digest end.hash end.chain) ≡ hmac hash key msg
    unfolding hmac
    hmac_end hash key is ef eb lf lb range small =
        let two : length (padded h (back ++ h.digest a (hashed h a (front ++ msg)))) / b ≡ 2 =
        let l = length-padded h std a back (hashed h a (front ++ msg)) lb in
        blocks b std.size 2 (length (padded h (back ++ h.digest a (hashed h a (front ++ msg))))) (omega (arith, l)) in
        ap (λ n. h.digest n (end_of (round h) rest_of (started h a front back packet off len)).chain) (end_hash h a front back packet off len (rounds lf range small))
        ∙ end_digest h a front back packet off len (rounds lf range small) two
        ∙ sym (is (back ++ h.digest a (hashed h a (front ++ msg))))
        ∙ ap (λ x. hash.digest (back ++ x)) (sym (is (front ++ msg)))
        ∙ rw (ef, eb) refl

  -- a digest
  plain_rounds : (packet : List ℕ) (off len : ℕ) → off + len ≤ length packet → len < 2 ^ 32 → hash_rounds b len ≡ length (padded h (take len (drop off packet))) / b
  plain_rounds packet off len range small =
      let none : 0 ≡ b * 0 = omega arith in
      omega (arith, text_blocks Plain [] packet off len 0 none (inl (omega arith)) range small)

  pub plain_packet_end : (packet : List ℕ) (off len : ℕ) → off + len ≤ length packet → len < 2 ^ 32
      → (end_of (round h) rest_of (started_plain h a packet off len)).packet ≡ packet
  plain_packet_end packet off len range small = ap (λ (e : HmacState). e.packet) (plain_run_end h a packet off len (plain_rounds packet off len range small))

  pub plain_end : (packet : List ℕ) (off len : ℕ) (hash : Hash) → ((m : List ℕ) → hash.digest m ≡ h.digest a (hashed h a m))
      → off + len ≤ length packet → len < 2 ^ 32
      → (let end : HmacState = end_of (round h) rest_of (started_plain h a packet off len) in h.digest end.hash end.chain) ≡ hash.digest (take len (drop off packet))
  plain_end packet off len hash is range small =
      ap (λ (e : HmacState). h.digest e.hash e.chain) (plain_run_end h a packet off len (plain_rounds packet off len range small))
      ∙ sym (is (take len (drop off packet)))

  -- an HMAC from states
  states_rounds_are : (packet : List ℕ) (off len : ℕ) → off + len ≤ length packet → len < 2 ^ 32
      → states_rounds b len ≡ length (padded_in h States (take len (drop off packet))) / b + 1
  states_rounds_are packet off len range small =
      let none : 0 ≡ b * 0 = omega arith in
      omega (arith, text_blocks States [] packet off len 0 none (inr (omega arith)) range small)

  pub states_packet_end : (inner outer packet : List ℕ) (off len : ℕ) → off + len ≤ length packet → len < 2 ^ 32
      → (end_of (round h) rest_of (started_states h a inner outer packet off len)).packet ≡ packet
  states_packet_end inner outer packet off len range small =
      ap (λ (e : HmacState). e.packet) (states_run_end h a inner outer packet off len (states_rounds_are packet off len range small))

  -- the block of a digest is one
  one_block : (s : List ℕ) → length (padded_in h States (h.digest a s)) / b ≡ 1
  one_block s =
      let d : List ℕ = h.digest a s in
      blocks b std.size 1 (length (padded_in h States d)) (omega (arith, length-append d (h.padding (b + length d)), digest_full h std a s))

  pub states_end : (states packet : List ℕ) (off len : ℕ) → off + len ≤ length packet → len < 2 ^ 32
      → (let end : HmacState = end_of (round h) rest_of (started_states h a (h.loaded (take h.state_bytes states)) (h.loaded (drop h.state_bytes states)) packet off len) in h.digest end.hash end.chain)
      ≡ hmac_from_states (compression h a) states (take len (drop off packet))
  unfolding hmac_from_states digest_from
  states_end states packet off len range small =
      let inner : List ℕ = h.loaded (take h.state_bytes states) in
      let outer : List ℕ = h.loaded (drop h.state_bytes states) in
      let text : List ℕ = padded_in h States (h.digest a (states_inner h a inner outer packet off len)) in
      ap (λ (e : HmacState). h.digest e.hash e.chain) (states_run_end h a inner outer packet off len (states_rounds_are packet off len range small))
      ∙ ap (λ n. h.digest a (hash_from h.compress b outer text n)) (sym (one_block (states_inner h a inner outer packet off len)))
