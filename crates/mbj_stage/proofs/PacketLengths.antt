-- Ciphers keep the lengths of texts, and so a result's packet is as long as its job's.
use Rattle.std.proofs.Common.{◌≡◌, ℕ, zero, suc, ◌==◌, ◌&&◌, nat_lt, ◌+◌, ◌-◌, ◌*◌, ◌/◌, ◌%◌, ◌^◌, ◌<◌, ◌≤◌, inl, inr, true, false, List, [], ◌∷◌, ◌++◌, length, take, drop, Option, Some, None, refl, sym, ap, ◌∙◌, arith, length-append, length-drop}
use Rattle.std.specs.List.{All, concat}
use Rattle.std.specs.Option.{option_map_or}
use Rattle.std.specs.Int.{w128, to_be_bytes}
use Rattle.std.proofs.lemmas.Bool.{cases_lt, eqb-true}
use Rattle.std.proofs.lemmas.List.{append_assoc, drop_at, length-take, length-take-le, take_at}
use Rattle.std.proofs.lemmas.List.Elements.{All-cons, All-head, All-nil, All-tail}
use Rattle.mbj_types.specs.Aes.{key_schedule, schedule, schedule_term, word, round_key, round_count, decipher, undone_rounds, inv_sub_bytes, inv_shift_rows, aes, aes_inverse}
use Rattle.mbj_types.specs.Blocks.{zero_block, xor_lists, first_blocks, blocks}
use Rattle.mbj_types.specs.Modes.{cbc, uncbc, ctr_blocks, first_counter, cbc_text, uncbc_text, ctr_text}
use Rattle.mbj_types.specs.Gcm.{inc32, pre_counter_block, gctr, gcm_text}
use Rattle.mbj_types.specs.Ccm.{ccm_text, counted, counter_block}
use Rattle.mbj_types.specs.Verdict.{is_null_cipher, takes_key, takes_iv, takes_range, verdict}
use Rattle.mbj_types.specs.Result.{cipher_range, with_cipher_range, gcm_of, ccm_of, ciphered, ciphered_by, accepted, refused, result_of}
use Rattle.mbj_types.specs.declared.job.Job.{Job}
use Rattle.mbj_types.specs.declared.job.Cipher.{Cipher}
use Rattle.mbj_types.specs.declared.job.Cipher.TheVariants as cipher
use Rattle.mbj_types.specs.declared.job.Dir.{Dir}
use Rattle.mbj_types.specs.declared.job.Dir.TheVariants.{Enc, Dec}
use Rattle.mbj_types.specs.declared.reason.Reason.{Reason}
use Rattle.mbj_types.proofs.XorLists.{length-xor_lists}
use Rattle.mbj_aes.specs.Bytes.{IsKeySize}
use Rattle.mbj_aes.proofs.KeyLists.{length-round_key}
use Rattle.mbj_aes.proofs.Rounds.{length-encipher, length-decipher}
use Rattle.mbj_blocks.proofs.Blocks.{concat-blocks}
use Rattle.mbj_args.proofs.Accepted as table

-- ---- the block cipher

-- a block of any numbers becomes one of 16 bytes
abbrev GivesBlocks : (List ℕ → List ℕ) → Type 0
GivesBlocks e = (b : List ℕ) → length (e b) ≡ 16

-- a schedule has its key in front
length-schedule : (nk : ℕ) (key : List ℕ) (n : ℕ) → length key ≤ length (schedule nk key n)
unfolding schedule
length-schedule nk key zero = omega arith
length-schedule nk key (suc n) =
    let w : List ℕ = schedule nk key n in
    let before : length key ≤ length w = length-schedule nk key n in
    omega (arith, length-append w (xor_lists (word w n) (schedule_term nk w (nk + n))))

length-aes : (key : List ℕ) → 16 ≤ length key → GivesBlocks (aes key)
unfolding aes
length-aes key h b =
    let long = length-schedule (length key / 4) key (4 * (round_count key + 1) - length key / 4) in
    length-encipher (key_schedule key) b (omega arith)

-- decryption with one round key
length-decipher_short : (w b : List ℕ) → 16 ≤ length w → length w < 32 → length (decipher w b) ≡ 16
unfolding decipher undone_rounds
length-decipher_short w b h short =
    let none : length w / 16 - 1 - 1 ≡ 0 = omega arith in
    let s : List ℕ = inv_sub_bytes (inv_shift_rows (xor_lists b (round_key w (length w / 16 - 1)))) in
    let first : length (round_key w 0) ≡ 16 = length-round_key w 0 (omega arith) in
    let size : length s ≡ 16 = refl in
    ap (λ (n : ℕ). length (undone_rounds w s n)) none ∙ length-xor_lists s (round_key w 0) (omega arith) ∙ size

length-aes_inverse : (key : List ℕ) → 16 ≤ length key → GivesBlocks (aes_inverse key)
unfolding aes_inverse
length-aes_inverse key h b =
    let w : List ℕ = key_schedule key in
    let long = length-schedule (length key / 4) key (4 * (round_count key + 1) - length key / 4) in
    elim (cases_lt (length w) 32) [
      | inl short ↦ length-decipher_short w b (omega arith) short
      | inr whole ↦ length-decipher w b whole
    ]

-- ---- blocks

-- no longer than a block
abbrev IsWithin : List ℕ → Type 0
IsWithin p = length p ≤ 16

abbrev IsWhole : List ℕ → Type 0
IsWhole p = length p ≡ 16

All-within : (n : ℕ) (text : List ℕ) → All IsWithin (first_blocks n text)
All-within zero text = All-nil IsWithin
All-within (suc n) text =
    All-cons IsWithin (take 16 text) (first_blocks n (drop 16 text)) (omega (arith, length-take 16 text)) (All-within n (drop 16 text))

All-whole : (n : ℕ) (text : List ℕ) → length text ≡ 16 * n → All IsWhole (first_blocks n text)
All-whole zero text h = All-nil IsWhole
All-whole (suc n) text h =
    All-cons IsWhole (take 16 text) (first_blocks n (drop 16 text)) (length-take-le 16 text (omega arith))
    (All-whole n (drop 16 text) (omega (arith, length-drop 16 text)))

-- ---- modes

-- one block as long as the other, and then lists of blocks
length-next : (x y : List ℕ) (xs ys : List (List ℕ)) → length x ≡ length y → length (concat xs) ≡ length (concat ys)
    → length (concat (x ∷ xs)) ≡ length (concat (y ∷ ys))
length-next x y xs ys h k = length-append x (concat xs) ∙ omega (arith, length-append y (concat ys))

length-cbc : (e : List ℕ → List ℕ) (c : List ℕ) (ps : List (List ℕ)) → GivesBlocks e → All IsWhole ps
    → length (concat (cbc e c ps)) ≡ length (concat ps)
length-cbc e c [] g a = refl
length-cbc e c (p ∷ ps) g a =
    let x : List ℕ = e (xor_lists p c) in
    length-next x p (cbc e x ps) ps (g (xor_lists p c) ∙ sym (All-head IsWhole p ps a)) (length-cbc e x ps g (All-tail IsWhole p ps a))

length-uncbc : (d : List ℕ → List ℕ) (c : List ℕ) (xs : List (List ℕ)) → GivesBlocks d → IsWhole c → All IsWhole xs
    → length (concat (uncbc d c xs)) ≡ length (concat xs)
length-uncbc d c [] g h a = refl
length-uncbc d c (x ∷ xs) g h a =
    let whole : length x ≡ 16 = All-head IsWhole x xs a in
    let size : length (d x) ≡ 16 = g x in
    length-next (xor_lists (d x) c) x (uncbc d x xs) xs (length-xor_lists (d x) c (omega arith) ∙ omega arith)
    (length-uncbc d x xs g whole (All-tail IsWhole x xs a))

length-ctr : (e : List ℕ → List ℕ) (t : ℕ) (ps : List (List ℕ)) → GivesBlocks e → All IsWithin ps
    → length (concat (ctr_blocks e t ps)) ≡ length (concat ps)
length-ctr e t [] g a = refl
length-ctr e t (p ∷ ps) g a =
    let mask : List ℕ = e (to_be_bytes w128 t) in
    let size : length mask ≡ 16 = g (to_be_bytes w128 t) in
    let within : length p ≤ 16 = All-head IsWithin p ps a in
    length-next (xor_lists p mask) p (ctr_blocks e ((t + 1) % 2 ^ 128) ps) ps (length-xor_lists p mask (omega arith))
    (length-ctr e ((t + 1) % 2 ^ 128) ps g (All-tail IsWithin p ps a))

length-gctr : (e : List ℕ → List ℕ) (j : List ℕ) (ps : List (List ℕ)) → GivesBlocks e → All IsWithin ps
    → length (concat (gctr e j ps)) ≡ length (concat ps)
length-gctr e j [] g a = refl
length-gctr e j (p ∷ ps) g a =
    let size : length (e j) ≡ 16 = g j in
    let within : length p ≤ 16 = All-head IsWithin p ps a in
    length-next (xor_lists p (e j)) p (gctr e (inc32 j) ps) ps (length-xor_lists p (e j) (omega arith))
    (length-gctr e (inc32 j) ps g (All-tail IsWithin p ps a))

length-counted : (e : List ℕ → List ℕ) (nonce : List ℕ) (i : ℕ) (ps : List (List ℕ)) → GivesBlocks e → All IsWithin ps
    → length (concat (counted e nonce i ps)) ≡ length (concat ps)
length-counted e nonce i [] g a = refl
length-counted e nonce i (p ∷ ps) g a =
    let mask : List ℕ = e (counter_block nonce i) in
    let size : length mask ≡ 16 = g (counter_block nonce i) in
    let within : length p ≤ 16 = All-head IsWithin p ps a in
    length-next (xor_lists p mask) p (counted e nonce (i + 1) ps) ps (length-xor_lists p mask (omega arith))
    (length-counted e nonce (i + 1) ps g (All-tail IsWithin p ps a))

-- ---- texts

length-cbc_text : (e : List ℕ → List ℕ) (iv text : List ℕ) → GivesBlocks e → length text % 16 ≡ 0
    → length (cbc_text e iv text) ≡ length text
unfolding blocks
length-cbc_text e iv text g h =
    length-cbc e iv (blocks text) g (All-whole ((length text + 15) / 16) text (omega arith)) ∙ ap length (concat-blocks text)

length-uncbc_text : (d : List ℕ → List ℕ) (iv text : List ℕ) → GivesBlocks d → length iv ≡ 16 → length text % 16 ≡ 0
    → length (uncbc_text d iv text) ≡ length text
unfolding blocks
length-uncbc_text d iv text g i h =
    length-uncbc d iv (blocks text) g i (All-whole ((length text + 15) / 16) text (omega arith)) ∙ ap length (concat-blocks text)

length-ctr_text : (e : List ℕ → List ℕ) (iv text : List ℕ) → GivesBlocks e → length (ctr_text e iv text) ≡ length text
unfolding blocks
length-ctr_text e iv text g =
    length-ctr e (first_counter iv) (blocks text) g (All-within ((length text + 15) / 16) text) ∙ ap length (concat-blocks text)

length-gcm_text : (e : List ℕ → List ℕ) (iv text : List ℕ) → GivesBlocks e → length (gcm_text e iv text) ≡ length text
unfolding blocks
length-gcm_text e iv text g =
    length-gctr e (inc32 (pre_counter_block (e zero_block) iv)) (blocks text) g (All-within ((length text + 15) / 16) text) ∙ ap length (concat-blocks text)

length-ccm_text : (e : List ℕ → List ℕ) (nonce text : List ℕ) → GivesBlocks e → length (ccm_text e nonce text) ≡ length text
unfolding blocks
length-ccm_text e nonce text g =
    length-counted e nonce 1 (blocks text) g (All-within ((length text + 15) / 16) text) ∙ ap length (concat-blocks text)

-- ---- packets

-- a cipher range inside the packet, and another text as long
length-with_cipher_range : (j : Job) (text p : List ℕ) → j.cipher_off + j.cipher_len ≤ length p
    → length text ≡ length (cipher_range j p) → length (with_cipher_range j text p) ≡ length p
length-with_cipher_range j text p inside same =
    let from : List ℕ = drop j.cipher_off p in
    let rest : List ℕ = drop (j.cipher_off + j.cipher_len) p in
    let front : length (take j.cipher_off p) ≡ j.cipher_off = length-take-le j.cipher_off p (omega arith) in
    let size : length (cipher_range j p) ≡ j.cipher_len = length-take-le j.cipher_len from (omega (arith, length-drop j.cipher_off p)) in
    length-append (take j.cipher_off p ++ text) rest
    ∙ omega (arith, length-append (take j.cipher_off p) text, length-drop (j.cipher_off + j.cipher_len) p)

-- a key that a cipher takes has a block at least
key_size : (n : ℕ) → IsKeySize n → 16 ≤ n
key_size n h = grind (arith, eqb-true)

-- a range that CBC takes has whole blocks
whole_range : (n : ℕ) → (nat_lt 0 n && n % 16 == 0) ≡ true → n % 16 ≡ 0
whole_range n h = grind (arith, eqb-true)

-- what the argument table tells of an accepted job with the cipher c
record IsCiphered (c : Cipher) (j : Job) : Type 0 where
  key : takes_key c (length j.key) ≡ true
  iv : takes_iv c (length j.iv) ≡ true
  inside : is_null_cipher c ≡ false → j.cipher_off + j.cipher_len ≤ length j.packet
  len : takes_range c j.cipher_len ≡ true

is_ciphered : (j : Job) → verdict j ≡ None → IsCiphered j.cipher j
is_ciphered j none =
    let facts = table.accepted j (length j.packet) none in
    record { key = facts.key; iv = facts.iv; inside = facts.cipher_range; len = facts.cipher_len }

-- the cipher range has the length that the job says
length-cipher_range : (j : Job) → j.cipher_off + j.cipher_len ≤ length j.packet → length (cipher_range j j.packet) ≡ j.cipher_len
length-cipher_range j inside = length-take-le j.cipher_len (drop j.cipher_off j.packet) (omega (arith, length-drop j.cipher_off j.packet))

length-ciphered_by : (c : Cipher) (d : Dir) (j : Job) → IsCiphered c j → length (ciphered_by c d j j.packet) ≡ length j.packet
unfolding gcm_of ccm_of
length-ciphered_by cipher.Null d j h = refl
length-ciphered_by cipher.Cbc Enc j h =
    let range : List ℕ = cipher_range j j.packet in
    let whole : j.cipher_len % 16 ≡ 0 = whole_range j.cipher_len h.len in
    let size : length range ≡ j.cipher_len = length-cipher_range j (h.inside refl) in
    length-with_cipher_range j (cbc_text (aes j.key) j.iv range) j.packet (h.inside refl)
    (length-cbc_text (aes j.key) j.iv range (length-aes j.key (key_size (length j.key) h.key)) (ap (λ (n : ℕ). n % 16) size ∙ whole))
length-ciphered_by cipher.Cbc Dec j h =
    let range : List ℕ = cipher_range j j.packet in
    let whole : j.cipher_len % 16 ≡ 0 = whole_range j.cipher_len h.len in
    let size : length range ≡ j.cipher_len = length-cipher_range j (h.inside refl) in
    length-with_cipher_range j (uncbc_text (aes_inverse j.key) j.iv range) j.packet (h.inside refl)
    (length-uncbc_text (aes_inverse j.key) j.iv range (length-aes_inverse j.key (key_size (length j.key) h.key))
    (eqb-true (length j.iv) 16 h.iv) (ap (λ (n : ℕ). n % 16) size ∙ whole))
length-ciphered_by cipher.Ctr d j h =
    let range : List ℕ = cipher_range j j.packet in
    length-with_cipher_range j (ctr_text (aes j.key) j.iv range) j.packet (h.inside refl)
    (length-ctr_text (aes j.key) j.iv range (length-aes j.key (key_size (length j.key) h.key)))
length-ciphered_by cipher.Gcm d j h =
    let range : List ℕ = cipher_range j j.packet in
    length-with_cipher_range j (gcm_text (aes j.key) j.iv range) j.packet (h.inside refl)
    (length-gcm_text (aes j.key) j.iv range (length-aes j.key (key_size (length j.key) h.key)))
length-ciphered_by cipher.Ccm d j h =
    let range : List ℕ = cipher_range j j.packet in
    length-with_cipher_range j (ccm_text (aes j.key) j.iv range) j.packet (h.inside refl)
    (length-ccm_text (aes j.key) j.iv range (length-aes j.key (key_size (length j.key) h.key)))

length-by_verdict : (reason : Option Reason) (j : Job) → verdict j ≡ reason
    → length (option_map_or (refused j) reason (accepted j)).packet ≡ length j.packet
unfolding ciphered
length-by_verdict None j none = length-ciphered_by j.cipher j.dir j (is_ciphered j none)
length-by_verdict (Some reason) j e = refl

-- the cipher range of a packet whose cipher range was replaced by a text as long
range-replaced : (j : Job) (text p : List ℕ) → j.cipher_off + j.cipher_len ≤ length p → length text ≡ j.cipher_len
    → cipher_range j (with_cipher_range j text p) ≡ text
range-replaced j text p inside same =
    let from : List ℕ = drop (j.cipher_off + j.cipher_len) p in
    let front : length (take j.cipher_off p) ≡ j.cipher_off = length-take-le j.cipher_off p (omega arith) in
    ap (take j.cipher_len) (ap (drop j.cipher_off) (append_assoc (take j.cipher_off p) text from)
    ∙ drop_at (take j.cipher_off p) (text ++ from) j.cipher_off front)
    ∙ take_at text from j.cipher_len same

-- the cipher range that CCM ciphered is its other text
pub ccm-range : (j : Job) → verdict j ≡ None → j.cipher ≡ cipher.Ccm → cipher_range j (ciphered j j.packet) ≡ ccm_text (aes j.key) j.iv (cipher_range j j.packet)
unfolding ciphered ccm_of
ccm-range j none is =
    let facts = table.accepted j (length j.packet) none in
    let inside = facts.cipher_range (ap is_null_cipher is) in
    let range : List ℕ = cipher_range j j.packet in
    let key : IsKeySize (length j.key) = ap (λ (c : Cipher). takes_key c (length j.key)) (sym is) ∙ facts.key in
    ap (λ (c : Cipher). cipher_range j (ciphered_by c j.dir j j.packet)) is
    ∙ range-replaced j (ccm_text (aes j.key) j.iv range) j.packet inside
    (length-ccm_text (aes j.key) j.iv range (length-aes j.key (key_size (length j.key) key)) ∙ length-cipher_range j inside)

-- the cipher of an accepted job keeps the packet's length
pub length-ciphered : (j : Job) → verdict j ≡ None → length (ciphered j j.packet) ≡ length j.packet
unfolding ciphered
length-ciphered j none = length-ciphered_by j.cipher j.dir j (is_ciphered j none)

-- a result's packet is as long as its job's
pub length-result_of : (j : Job) → length (result_of j).packet ≡ length j.packet
unfolding result_of
length-result_of j = length-by_verdict (verdict j) j refl
