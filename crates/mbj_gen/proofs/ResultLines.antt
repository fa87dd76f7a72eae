-- The lines of results: each fits a sink, and one after another they are the text.
use Rattle.std.proofs.Common.{◌≡◌, ℕ, zero, suc, ◌+◌, ◌*◌, ◌<◌, ◌≤◌, inl, inr, Bool, cond, get_or, List, [], ◌∷◌, ◌++◌, length, take, slice_get, codes, decimal, Some, sym, ap, ap₂, ◌∙◌, arith, append_assoc, append-nil, length-append}
use Rattle.std.proofs.lemmas.Fmt.{length-decimal-le}
use Rattle.std.proofs.lemmas.List.Sums.{sum_by_more}
use Rattle.std.proofs.lemmas.Option.{get_or_from_slice_get, slice_get_within}
use Rattle.hex.specs.Hex.{lower_digits}
use Rattle.hex.proofs.HexLemmas.{length-encode_with}
use Rattle.mbj_io.specs.Faults.{Rose}
use Rattle.mbj_types.specs.Reasons.{number_of}
use Rattle.mbj_types.specs.declared.done.Done.{Done}
use Rattle.mbj_types.specs.declared.done.Status.{Status}
use Rattle.mbj_types.specs.declared.done.Status.TheVariants as status
use Rattle.mbj_types.specs.declared.reason.Reason.{Reason}
use Rattle.mbj_types.specs.declared.reason.Reason.TheVariants.{PacketLong, GcmPair, CipherKey, IvLength, CipherRange, CipherLength, AuthKey, HashRange, AadLong, TagLength}
use Rattle.mbj_text.specs.Flow.{GainsPrefix}
use Rattle.mbj_text.specs.Line.{shown, ok_line, invalid_line, line_by, done_line, text_from, text}
use Rattle.mbj_gen.specs.Summary.{accepted_count, is_ok}

-- ---- a sink for one line

-- a sink that fails only when it is full doesn't fail at a text that leaves room
pub room_is_left : (room faults : ℕ) (held text : List ℕ) → length text < room
    → (length held < room → faults ≡ 0) → Rose 0 faults → GainsPrefix (Some []) (Some held) text → ⊥
room_is_left room faults held text fits calm rose gains =
    let size : length held ≡ length gains.front = ap length gains.written in
    let whole : length text ≡ length gains.front + length gains.rest = ap length gains.text_is ∙ length-append gains.front gains.rest in
    let none : faults ≡ 0 = calm (omega arith) in
    elim rose [ inl more ↦ omega arith | inr last ↦ omega arith ]

-- ---- the length of a line

length-shown : (bytes : List ℕ) → length (shown bytes) ≤ 2 * length bytes + 1
length-shown [] = omega arith
length-shown (byte ∷ bytes) = omega (arith, length-encode_with lower_digits (byte ∷ bytes))

number_of-small : (reason : Reason) → number_of reason < 100
number_of-small PacketLong = omega arith
number_of-small GcmPair = omega arith
number_of-small CipherKey = omega arith
number_of-small IvLength = omega arith
number_of-small CipherRange = omega arith
number_of-small CipherLength = omega arith
number_of-small AuthKey = omega arith
number_of-small HashRange = omega arith
number_of-small AadLong = omega arith
number_of-small TagLength = omega arith

length-ok_line : (n : ℕ) (packet tag : List ℕ) → n < 100000
    → length (ok_line n packet tag) ≤ 2 * length packet + 2 * length tag + 13
length-ok_line n packet tag h =
    let number : length (decimal n) ≤ 5 = length-decimal-le 5 n (omega arith) h (omega arith) in
    let spelled = length-shown packet in
    let tagged = length-shown tag in
    omega (
      arith,
      length-append (decimal n ++ codes " ok " ++ shown packet ++ codes " " ++ shown tag) (codes "\n"),
      length-append (decimal n ++ codes " ok " ++ shown packet ++ codes " ") (shown tag),
      length-append (decimal n ++ codes " ok " ++ shown packet) (codes " "),
      length-append (decimal n ++ codes " ok ") (shown packet),
      length-append (decimal n) (codes " ok "),
    )

length-invalid_line : (n : ℕ) (reason : Reason) → n < 100000 → length (invalid_line n (number_of reason)) ≤ 22
length-invalid_line n reason h =
    let r : ℕ = number_of reason in
    let number : length (decimal n) ≤ 5 = length-decimal-le 5 n (omega arith) h (omega arith) in
    let small : r < 100 = number_of-small reason in
    let reason_number : length (decimal r) ≤ 2 = length-decimal-le 2 r (omega arith) small (omega arith) in
    omega (
      arith,
      length-append (decimal n ++ codes " invalid-args " ++ decimal r) (codes "\n"),
      length-append (decimal n ++ codes " invalid-args ") (decimal r),
      length-append (decimal n) (codes " invalid-args "),
    )

length-line_by : (s : Status) (n : ℕ) (done : Done) → n < 100000
    → length (line_by s n done) ≤ 2 * length done.packet + 2 * length done.tag + 22
length-line_by status.Ok n done h = omega (arith, length-ok_line n done.packet done.tag h)
length-line_by (status.InvalidArgs reason) n done h = omega (arith, length-invalid_line n reason h)

-- two digits for each byte, and a number of five digits at most and the words
pub length-done_line : (n : ℕ) (done : Done) → n < 100000
    → length (done_line n done) ≤ 2 * length done.packet + 2 * length done.tag + 22
length-done_line n done h = length-line_by done.status n done h

-- ---- the text

text_from-next : (from n : ℕ) (results : List Done) (done : Done) → slice_get results n ≡ Some done
    → text_from from (take (suc n) results) ≡ text_from from (take n results) ++ done_line (from + n) done
text_from-next from n [] done h = absurd (cc)
text_from-next from zero (first ∷ rest) done h =
    let same : first ≡ done = cc in
    let number : from ≡ from + 0 = omega arith in
    append-nil (done_line from first) ∙ ap₂ (λ (k : ℕ) (d : Done). done_line k d) number same
text_from-next from (suc n) (first ∷ rest) done h =
    let number : from + 1 + n ≡ from + suc n = omega arith in
    ap (λ (lines : List ℕ). done_line from first ++ lines) (text_from-next (from + 1) n rest done h)
    ∙ sym (append_assoc (done_line from first) (text_from (from + 1) (take n rest)) (done_line (from + 1 + n) done))
    ∙ ap (λ (k : ℕ). (done_line from first ++ text_from (from + 1) (take n rest)) ++ done_line k done) number

-- the text of one more result
pub text-next : (n : ℕ) (results : List Done) (done : Done) → slice_get results n ≡ Some done
    → text (take (n + 1) results) ≡ text (take n results) ++ done_line n done
text-next n results done h =
    let next : n + 1 ≡ suc n = omega arith in
    let number : 0 + n ≡ n = omega arith in
    ap (λ (k : ℕ). text (take k results)) next ∙ text_from-next 0 n results done h
    ∙ ap (λ (k : ℕ). text (take n results) ++ done_line k done) number

-- ---- the count of accepted results

-- with one more result
pub accepted-next : (n : ℕ) (results : List Done) (done : Done) (ok : Bool) → slice_get results n ≡ Some done
    → ok ≡ is_ok done.status → accepted_count (take (n + 1) results) ≡ accepted_count (take n results) + cond ok 1 0
accepted-next n results done ok at is =
    let here : get_or results n done ≡ done = get_or_from_slice_get results n done done at in
    sum_by_more (λ (d : Done). cond (is_ok d.status) 1 0) results n done (slice_get_within results n done at)
    ∙ ap (λ (b : Bool). accepted_count (take n results) + cond b 1 0) (ap (λ (d : Done). is_ok d.status) here ∙ sym is)
