use Rattle.std.proofs.Common.{◌≡◌, ◌++◌, ◌+◌, ◌*◌, ℕ, List, take, ap, sym, refl, ◌∙◌, arith, add-one, slice_index}
use Rattle.std.specs.Int.{w64, to_be_bytes}
use Rattle.std.proofs.lemmas.List.{take_all}
use Rattle.sha2.specs.Sha512.{digest_bytes}
use Rattle.mbj_hmac.proofs.sha512_lanes.bytes_of.Goals as goal

-- one word more
next : (s : List ℕ) (j : ℕ) → digest_bytes s (j + 1) ≡ digest_bytes s j ++ to_be_bytes w64 (slice_index s j)
unfolding digest_bytes
next s j = ap (digest_bytes s) (add-one j)

pub words-init : goal.words-init
unfolding digest_bytes
words-init c = record { long = refl; front = refl }

pub words-preserved : goal.words-preserved
words-preserved c =
    let s = c.args.chain.now in
    let j = c.words.j in
    let place : 8 * (j + 1) ≡ 8 * j + 8 = omega arith in
    record {
      long = c.put_word.ensures.length;
      front = ap (λ n. take n c.put_word.new.bytes) place ∙ c.put_word.ensures.written ∙ ap (λ l. l ++ to_be_bytes w64 (slice_index s j)) c.words.invariant.front ∙ sym (next s j);
    }

pub returns-clause-value : goal.returns-clause-value
returns-clause-value c =
    let all : c.words.j ≡ 8 = omega arith in
    sym (take_all (8 * c.words.j) c.words.bytes (omega (arith, c.words.invariant.long))) ∙ c.words.invariant.front ∙ ap (digest_bytes c.args.chain.now) all
