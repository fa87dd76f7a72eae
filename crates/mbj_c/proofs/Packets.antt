-- A result's packet differs from its job's in the range that is given back alone, and ranges of accepted jobs are as C gives them.
use Rattle.std.proofs.Common.{◌≡◌, ◌<◌, ◌≤◌, ◌+◌, ◌-◌, ◌^◌, ◌++◌, ℕ, List, length, drop, take, Option, None, Some, Bool, true, false, nat_lt, refl, sym, ap, ◌∙◌, append_assoc, arith, length-append, length-drop}
use Rattle.std.specs.Prelude.{if◌then◌else◌}
use Rattle.std.specs.Option.{option_map_or}
use Rattle.std.proofs.lemmas.List.{length-take-le}
use Rattle.std.proofs.Math.Seq.{drop-append_seam, take-append_seam}
use Rattle.mbj_types.specs.declared.job.Cipher.{Cipher}
use Rattle.mbj_types.specs.declared.job.Cipher.TheVariants as cipher
use Rattle.mbj_types.specs.declared.job.Dir.{Dir}
use Rattle.mbj_types.specs.declared.job.Dir.TheVariants.{Enc, Dec}
use Rattle.mbj_types.specs.declared.job.Job.{Job}
use Rattle.mbj_types.specs.declared.reason.Reason.{Reason}
use Rattle.mbj_types.specs.Auths.{class_of}
use Rattle.mbj_types.specs.Aes.{aes, aes_inverse}
use Rattle.mbj_types.specs.Modes.{cbc_text, ctr_text, uncbc_text}
use Rattle.mbj_types.specs.Result.{accepted, cipher_range, ciphered, ciphered_by, gcm_of, ccm_of, refused, result_of, with_cipher_range}
use Rattle.mbj_types.specs.Verdict.{has_hash_range, is_null_cipher, verdict}
use Rattle.mbj_args.proofs.Accepted as table
use Rattle.mbj_stage.proofs.PacketLengths.{length-ciphered}
use Rattle.mbj_c.specs.declared.job.RawJob.{RawJob}
use Rattle.mbj_c.specs.declared.range.CipherRange.{CipherRange}
use Rattle.mbj_c.specs.declared.words.Words.{Words}
use Rattle.mbj_c.specs.Filling.{job_with}
use Rattle.mbj_c.specs.Ranges.{bytes_in, given_range, narrowed, no_range, range_by, with_bytes, written_range}

-- ---- packets

-- the packet q is p with the bytes of q in the range
abbrev IsInRange : CipherRange → List ℕ → List ℕ → Type 0
IsInRange r p q = q ≡ with_bytes r (bytes_in r q) p

-- a text stands where it was put, behind this many bytes
seam : (n k : ℕ) (front text rest : List ℕ) → length front ≡ n → length text ≡ k → take k (drop n (front ++ text ++ rest)) ≡ text
seam n k front text rest front_is text_is =
    ap (λ i. take k (drop i (front ++ text ++ rest))) (sym front_is)
    ∙ ap (λ xs. take k (drop (length front) xs)) (append_assoc front text rest)
    ∙ ap (take k) (drop-append_seam front (text ++ rest))
    ∙ ap (λ i. take i (text ++ rest)) (sym text_is)
    ∙ take-append_seam text rest

-- a text that was put into a range, if it is as long as that, stands there
text-in-range : (off len : ℕ) (text p : List ℕ) → off + len ≤ length p → length (take off p ++ text ++ drop (off + len) p) ≡ length p
    → take len (drop off (take off p ++ text ++ drop (off + len) p)) ≡ text
text-in-range off len text p inside same =
    let front : length (take off p) ≡ off = length-take-le off p (omega arith) in
    let size : length text ≡ len =
    omega (arith, same, length-append (take off p ++ text) (drop (off + len) p), length-append (take off p) text, length-drop (off + len) p) in
    seam off len (take off p) text (drop (off + len) p) front size

-- nothing is given back of a range of no byte
nothing-in-range : (p : List ℕ) → IsInRange no_range p p
nothing-in-range p = refl

-- a text in the cipher range
replaced-in-range : (j : Job) (text : List ℕ) → j.cipher_off + j.cipher_len ≤ length j.packet
    → length (with_cipher_range j text j.packet) ≡ length j.packet
    → IsInRange (record { off = j.cipher_off; len = j.cipher_len }) j.packet (with_cipher_range j text j.packet)
replaced-in-range j text inside same =
    ap (λ (t : List ℕ). take j.cipher_off j.packet ++ t ++ drop (j.cipher_off + j.cipher_len) j.packet)
    (sym (text-in-range j.cipher_off j.cipher_len text j.packet inside same))

-- what the cipher writes
written-in-range : (c : Cipher) (d : Dir) (j : Job) → (is_null_cipher c ≡ false → j.cipher_off + j.cipher_len ≤ length j.packet)
    → length (ciphered_by c d j j.packet) ≡ length j.packet → IsInRange (written_range c j) j.packet (ciphered_by c d j j.packet)
written-in-range cipher.Null d j inside same = nothing-in-range j.packet
written-in-range cipher.Cbc Enc j inside same = replaced-in-range j (cbc_text (aes j.key) j.iv (cipher_range j j.packet)) (inside refl) same
written-in-range cipher.Cbc Dec j inside same = replaced-in-range j (uncbc_text (aes_inverse j.key) j.iv (cipher_range j j.packet)) (inside refl) same
written-in-range cipher.Ctr d j inside same = replaced-in-range j (ctr_text (aes j.key) j.iv (cipher_range j j.packet)) (inside refl) same
written-in-range cipher.Gcm d j inside same = replaced-in-range j (gcm_of j j.packet).0 (inside refl) same
written-in-range cipher.Ccm d j inside same = replaced-in-range j (ccm_of j j.packet).0 (inside refl) same

by-verdict : (reason : Option Reason) (j : Job) → verdict j ≡ reason
    → IsInRange (range_by reason j) j.packet (option_map_or (refused j) reason (accepted j)).packet
unfolding ciphered
by-verdict None j none =
    written-in-range j.cipher j.dir j (table.accepted j (length j.packet) none).cipher_range (length-ciphered j none)
by-verdict (Some reason) j some = nothing-in-range j.packet

pub packet-with-range : (j : Job) → (result_of j).packet ≡ with_bytes (given_range j) (bytes_in (given_range j) (result_of j).packet) j.packet
unfolding result_of
packet-with-range j = by-verdict (verdict j) j refl

-- ---- ranges

-- a number that is small once it is narrowed was so before
narrowed-small : (b : Bool) (n most : ℕ) → nat_lt n (2 ^ 32) ≡ b → (if b then n else 2 ^ 32 - 1) ≤ most → most < 2 ^ 32 - 1
    → n ≤ (if b then n else 2 ^ 32 - 1)
narrowed-small true n most is small below = omega arith
narrowed-small false n most is small below = omega arith

narrowed-sum : (m n most : ℕ) → narrowed m + narrowed n ≤ most → most < 2 ^ 32 - 1 → m + n ≤ most
narrowed-sum m n most small below =
    let left : m ≤ narrowed m = narrowed-small (nat_lt m (2 ^ 32)) m most refl (omega arith) below in
    let right : n ≤ narrowed n = narrowed-small (nat_lt n (2 ^ 32)) n most refl (omega arith) below in
    omega arith

pub cipher-range-within : (r : RawJob) (w : Words) → verdict (job_with r w) ≡ None → is_null_cipher w.cipher ≡ false
    → r.cipher_off + r.cipher_len ≤ length r.packet.now
cipher-range-within r w none some =
    let facts = table.accepted (job_with r w) (length r.packet.now) none in
    let packet = facts.packet in
    narrowed-sum r.cipher_off r.cipher_len (length r.packet.now) (facts.cipher_range some) (omega arith)

pub hash-range-within : (r : RawJob) (w : Words) → verdict (job_with r w) ≡ None → has_hash_range (class_of w.auth) ≡ true
    → r.hash_off + r.hash_len ≤ length r.packet.now
hash-range-within r w none some =
    let facts = table.accepted (job_with r w) (length r.packet.now) none in
    let packet = facts.packet in
    narrowed-sum r.hash_off r.hash_len (length r.packet.now) (facts.hash_range some) (omega arith)
