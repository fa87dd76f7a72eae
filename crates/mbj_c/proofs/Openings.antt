-- A text becomes what its tag says.
use Rattle.std.proofs.Common.{◌≡◌, ◌≢◌, ℕ, Bool, true, false, List, length, take, replicate, Ok, Err, Result, OnOk, ap, ap₂, subst, sym, ◌∙◌, arith}
use Rattle.std.proofs.Math.Path.{fun_ext}
use Rattle.std.proofs.lemmas.Slice.Eq.{bytes_eq-Decides}
use Rattle.std.specs.Prelude.{bytes_eq, if◌then◌else◌}
use Rattle.mbj_types.specs.Aes.{aes, encipher}
use Rattle.mbj_types.specs.Ccm.{ccm}
use Rattle.mbj_types.specs.Gcm.{gcm}
use Rattle.mbj_c.specs.declared.refusal.Refusal.{Refusal}
use Rattle.mbj_c.specs.declared.refusal.Refusal.TheVariants.{NoState, TagLength, WrongTag}
use Rattle.mbj_c.specs.Codes.{code_of}
use Rattle.mbj_c.specs.Direct.{Pair, and_then, ccm_accepts, ccm_opened, cut_to, opened_by, verified, wants}
use Rattle.mbj_c.specs.Opened.{CcmOpensByTags, GcmOpensByTags, IsOpenedByTag}

-- a test that doesn't hold
unequal : (b : Bool) → b ≢ true → b ≡ false
unequal true not = absurd (not (cc))
unequal false not = cc

-- what a test makes of a text
abbrev returned : Pair → List ℕ → Bool → Result Unit Refusal × List ℕ
returned made text b = if b then (Ok tt, made.0) else (Err WrongTag, replicate (length text) 0)

pub verified_by_tag : (made : Pair) (tag text : List ℕ) → IsOpenedByTag made tag text (verified made tag text)
verified_by_tag made tag text =
    let test = bytes_eq-Decides made.1 tag in
    record {
      right = λ same. ap (returned made text) (test.1 (sym same));
      wrong = λ other. ap (returned made text) (unequal (bytes_eq made.1 tag) (λ is. other (sym (test.0 is))));
    }

pub gcm_opens : GcmOpensByTags
gcm_opens key iv aad text tag takes fits =
    let made : Pair = cut_to (length tag) (gcm (aes key) iv aad text false) in
    let opened : Result Unit Refusal → Bool → Result Unit Refusal × List ℕ =
    λ a b. opened_by (and_then a (and_then (wants b TagLength) (Ok made))) tag text in
    let is = ap₂ opened takes fits in
    let by_tag = verified_by_tag made tag text in
    record {
      right = λ same. is ∙ by_tag.right same;
      wrong = λ other. is ∙ by_tag.wrong other;
    }

pub ccm_opens : CcmOpensByTags
ccm_opens key nonce aad text tag takes =
    let made : Pair = cut_to (length tag) (ccm (aes key) nonce aad text (length tag) false) in
    let opened : Result Unit Refusal → Result Unit Refusal × List ℕ = λ a. opened_by (and_then a (Ok made)) tag text in
    let is = ap opened takes in
    let by_tag = verified_by_tag made tag text in
    record {
      right = λ same. is ∙ by_tag.right same;
      wrong = λ other. is ∙ by_tag.wrong other;
    }

-- what is verified of a text that was decrypted by CCM, under the schedule w of the key
pub ccm_by_tag : (key nonce aad text tag w new found : List ℕ)
    → ccm_accepts (length key) (length nonce) (length aad) (length text) (length tag) ≡ Ok tt
    → ((b : List ℕ) → encipher w b ≡ aes key b) → new ≡ (ccm (encipher w) nonce aad text (length tag) false).0
    → found ≡ (ccm (encipher w) nonce aad text (length tag) false).1 → length new ≡ length text
    → verified (new, take (length tag) found) tag new ≡ ccm_opened key nonce aad text tag
ccm_by_tag key nonce aad text tag w new found takes same is tagged long =
    let n : ℕ = length tag in
    let under : (List ℕ → List ℕ) → Pair = λ e. ccm e nonce aad text n false in
    let keyed : under (encipher w) ≡ under (aes key) = ap under (fun_ext same) in
    let opened : Result Unit Refusal → Result Unit Refusal × List ℕ = λ a. opened_by (and_then a (Ok (cut_to n (under (aes key))))) tag text in
    let by : List ℕ → List ℕ → ℕ → Result Unit Refusal × List ℕ =
    λ x f k. if bytes_eq (take n f) tag then (Ok tt, x) else (Err WrongTag, replicate k 0) in
    ap (by new found) long
    ∙ ap₂ (λ x f. by x f (length text)) (is ∙ ap (λ (p : Pair). p.0) keyed) (tagged ∙ ap (λ (p : Pair). p.1) keyed)
    ∙ sym (ap opened takes)

-- what holds if a test lets a call be done holds if its code is 0
pub done_says : (t : Bool) (answer : Result Unit Refusal) (P : Type 0) → answer ≡ wants t NoState → OnOk answer P → code_of answer ≡ 0 → P
done_says true answer P is says none = subst (λ (r : Result (Unit {0}) Refusal). OnOk r P) is says
done_says false answer P is says none = absurd (omega (arith, ap code_of is, none))
