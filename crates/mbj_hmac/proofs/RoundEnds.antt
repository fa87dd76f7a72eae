-- Where the rounds of a digest and of an HMAC lead.
use Rattle.std.proofs.Common.{◌≡◌, ℕ, zero, suc, ◌+◌, ◌-◌, ◌/◌, List, [], ◌++◌, length, take, drop, refl, sym, ap, ◌∙◌, arith, rules, true, false, eqb, ◌&&◌}
use Rattle.std.specs.Prelude.{nat_lt, replicate}
use Rattle.std.proofs.lemmas.Bool.{lt-ltb}
use Rattle.mbj_types.specs.declared.class.HashName.{HashName}
use Rattle.mbj_types.specs.Rounds.{hash_rounds, hmac_rounds, states_rounds}
use Rattle.mbj_types.specs.States.{hash_from}
use Rattle.mbj_lane.specs.Rounds.{after, end_of}
use Rattle.mbj_lane.proofs.Advanced.{after-one_more}
use Rattle.mbj_hmac.specs.declared.form.Form.{Form}
use Rattle.mbj_hmac.specs.declared.form.Form.TheVariants.{Plain, Keyed, States}
use Rattle.mbj_hmac.specs.Forms.{outer_rounds_of}
use Rattle.mbj_hmac.specs.Rounds.{Hashing, HmacState, padded, padded_in, block_at, chained, hashed, rest_of, round, started, started_plain, started_states}

two : (k : ℕ) → k + 1 + 1 ≡ k + 2
two k = omega arith

-- before the outer hash nothing is turned
unturned : (form : Form) (k r : ℕ) → r ≡ suc k + outer_rounds_of form → (nat_lt 0 (outer_rounds_of form) && eqb r (outer_rounds_of form)) ≡ false
unturned Plain k r e = refl
unturned Keyed k r e = let no : eqb (suc k + 2) 2 ≡ false = search rules in ap (λ n. eqb n 2) e ∙ no
unturned States k r e = let no : eqb (suc k + 1) 1 ≡ false = search rules in ap (λ n. eqb n 1) e ∙ no

module _ (h : Hashing) (a : HashName) (form : Form) (start front back packet : List ℕ) (off len : ℕ) where
  -- the entry with a rest and hash values
  abbrev at : ℕ → List ℕ → List ℕ → HmacState
  at rest chain inner = record {
    packet = packet;
    rest = rest;
    chain = chain;
    inner = inner;
    start = start;
    hash = a;
    form = form;
    front = front;
    back = back;
    off = off;
    len = len;
  }

  abbrev text : List ℕ
  text = padded_in h form (front ++ take len (drop off packet))

  abbrev blocks : ℕ
  blocks = length text / h.block_bytes

  -- the rounds of the outer hash
  abbrev o : ℕ
  o = outer_rounds_of form

  -- a round of the inner hash
  inner_step : (k n r : ℕ) (c i : List ℕ) → n + suc k ≡ blocks → r ≡ suc k + o → round h (at r c i) ≡ at (k + o) (h.compress c (block_at h text n)) i
  inner_step k n r c i e is =
      let no : (nat_lt 0 o && eqb r o) ≡ false = unturned form k r is in
      let yes : nat_lt o r ≡ true = lt-ltb o r (omega arith) in
      let j : blocks + o - r ≡ n = omega arith in
      let less : r - 1 ≡ k + o = omega arith in
      rw (no, yes, j, less) refl

  -- the hash value after the first n blocks, from s
  abbrev from : List ℕ → ℕ → List ℕ
  from s n = hash_from h.compress h.block_bytes s text n

  inner_run : (s : List ℕ) (k n r : ℕ) (i : List ℕ) → n + k ≡ blocks → r ≡ k + o → after (round h) k (at r (from s n) i) ≡ at o (from s blocks) i
  inner_run s zero n r i e is =
      let z : n ≡ blocks = omega arith in
      let none : r ≡ o = omega arith in
      ap (λ m. at r (from s m) i) z ∙ ap (λ m. at m (from s blocks) i) none
  inner_run s (suc k) n r i e is =
      let e' : suc n + k ≡ blocks = omega arith in
      ap (after (round h) k) (inner_step k n r (from s n) i e is) ∙ inner_run s k (suc n) (k + o) i e' refl

-- an HMAC under a key
module _ (h : Hashing) (a : HashName) (front back packet : List ℕ) (off len : ℕ) where
  abbrev state : ℕ → List ℕ → List ℕ → HmacState
  state = at h a Keyed (h.initial a) front back packet off len

  abbrev inner_blocks : ℕ
  inner_blocks = length (padded h (front ++ take len (drop off packet))) / h.block_bytes

  abbrev inner_end : List ℕ
  inner_end = hashed h a (front ++ take len (drop off packet))

  abbrev outer : List ℕ
  outer = padded h (back ++ h.digest a inner_end)

  run_end : hmac_rounds h.block_bytes len ≡ inner_blocks + 2
      → end_of (round h) rest_of (started h a front back packet off len) ≡ state 0 (h.compress (h.compress (h.initial a) (block_at h outer 0)) (block_at h outer 1)) inner_end
  run_end r =
      let split : (k : ℕ) (e : HmacState) → after (round h) (k + 2) e ≡ round h (round h (after (round h) k e)) =
      λ k e. sym (after-one_more (round h) (k + 1) e ∙ ap (λ m. after (round h) m e) (two k)) ∙ ap (round h) (sym (after-one_more (round h) k e)) in
      ap (λ n. after (round h) n (state n (h.initial a) (replicate h.words 0))) r
      ∙ split inner_blocks (state (inner_blocks + 2) (h.initial a) (replicate h.words 0))
      ∙ ap (λ e. round h (round h e)) (inner_run h a Keyed (h.initial a) front back packet off len (h.initial a) inner_blocks 0 (inner_blocks + 2) (replicate h.words 0) (omega arith) refl)

  -- the digest of the end is that of the outer hash, and the packet is as it was
  pub end_digest : hmac_rounds h.block_bytes len ≡ inner_blocks + 2 → length outer / h.block_bytes ≡ 2
      → h.digest a (end_of (round h) rest_of (started h a front back packet off len)).chain
      ≡ h.digest a (hashed h a (back ++ h.digest a (hashed h a (front ++ take len (drop off packet)))))
  end_digest r two = ap (λ (e : HmacState). h.digest a e.chain) (run_end r) ∙ ap (λ n. h.digest a (chained h a outer n)) (sym two)

  -- so is the hash
  pub end_hash : hmac_rounds h.block_bytes len ≡ inner_blocks + 2 → (end_of (round h) rest_of (started h a front back packet off len)).hash ≡ a
  end_hash r = ap (λ (e : HmacState). e.hash) (run_end r)

  pub end_packet : hmac_rounds h.block_bytes len ≡ inner_blocks + 2 → (end_of (round h) rest_of (started h a front back packet off len)).packet ≡ packet
  end_packet r = ap (λ (e : HmacState). e.packet) (run_end r)

-- a digest: its end has the hash value of the message
module _ (h : Hashing) (a : HashName) (packet : List ℕ) (off len : ℕ) where
  abbrev digest_blocks : ℕ
  digest_blocks = length (padded h (take len (drop off packet))) / h.block_bytes

  pub plain_run_end : hash_rounds h.block_bytes len ≡ digest_blocks
      → end_of (round h) rest_of (started_plain h a packet off len) ≡ at h a Plain (replicate h.words 0) [] [] packet off len 0 (hashed h a (take len (drop off packet))) (replicate h.words 0)
  plain_run_end r =
      ap (λ n. after (round h) n (at h a Plain (replicate h.words 0) [] [] packet off len n (h.initial a) (replicate h.words 0))) r
      ∙ inner_run h a Plain (replicate h.words 0) [] [] packet off len (h.initial a) digest_blocks 0 digest_blocks (replicate h.words 0) (omega arith) (omega arith)

-- an HMAC from states: its end has the hash value to which the block of the inner digest leads from the outer state
module _ (h : Hashing) (a : HashName) (inner outer packet : List ℕ) (off len : ℕ) where
  abbrev behind : List ℕ
  behind = padded_in h States (take len (drop off packet))

  abbrev states_blocks : ℕ
  states_blocks = length behind / h.block_bytes

  abbrev pub states_inner : List ℕ
  states_inner = hash_from h.compress h.block_bytes inner behind states_blocks

  pub states_run_end : states_rounds h.block_bytes len ≡ states_blocks + 1
      → end_of (round h) rest_of (started_states h a inner outer packet off len)
      ≡ at h a States outer [] [] packet off len 0 (h.compress outer (block_at h (padded_in h States (h.digest a states_inner)) 0)) states_inner
  states_run_end r =
      let zeros : List ℕ = replicate h.words 0 in
      ap (λ n. after (round h) n (at h a States outer [] [] packet off len n inner zeros)) r
      ∙ sym (after-one_more (round h) states_blocks (at h a States outer [] [] packet off len (states_blocks + 1) inner zeros))
      ∙ ap (round h) (inner_run h a States outer [] [] packet off len inner states_blocks 0 (states_blocks + 1) zeros (omega arith) refl)
