-- One word more is that of the schedule in each turn.
use Rattle.std.proofs.Common.{◌≡◌, ℕ, List, ◌+◌, ◌-◌, ◌*◌, ◌/◌, ◌++◌, length, take, drop, replicate, ap, ap₂, ◌∙◌, sym, arith}
use Rattle.std.proofs.lemmas.List.{drop-replicate}
use Rattle.mbj_types.specs.Aes.{schedule}
use Rattle.mbj_aes.proofs.KeySizes.{key_sizes, key_words}
use Rattle.mbj_aes.proofs.KeyWords.{schedule-next, schedule-none}
use Rattle.mbj_aes.proofs.States.{IsBytes-told}
use Rattle.mbj_aes.proofs.Turns.{place-first, number-first, place-next, number-next}
use Rattle.mbj_aes.proofs.expansion.expanded_key.Goals as goal

pub words-init : goal.words-init
words-init c =
    let sizes = key_sizes (length c.args.key.now) c.requires in
    let words = key_words (length c.args.key.now) c.requires in
    let whole : 240 - length c.args.key.now ≡ 240 - 4 * (length c.args.key.now / 4) = omega arith in record {
      bytes =
          c.key_and_zeros-bytes.ensures
          ∙ ap₂ (λ w n. w ++ replicate n 0) (sym (schedule-none (length c.args.key.now / 4) c.args.key.now)) whole;
      turn = record { place = place-first (length c.args.key.now / 4) words; number = number-first (length c.args.key.now / 4) words };
    }

pub words-preserved : goal.words-preserved
words-preserved c =
    let sizes = key_sizes (length c.args.key.now) c.requires in
    let words = key_words (length c.args.key.now) c.requires in
    let nk : ℕ = length c.args.key.now / 4 in
    let fewer : 240 - 4 * c.words.i - 4 ≡ 240 - 4 * (c.words.i + 1) = omega arith in
    let bytes : List ℕ = c.words.bytes in
    let zero : ℕ = 0 in
    let key_bytes = IsBytes-told c.args.key.now (λ k. omega (arith, c.type_inv.key k)) in
    let turn = c.words.invariant.turn in record {
      bytes =
          c.put_word.ensures
          ∙ ap (λ x. take (4 * c.words.i) bytes ++ x ++ drop (4 * c.words.i + 4) bytes) c.next_word-word.ensures
          ∙ schedule-next nk c.words.i c.args.key.now bytes (replicate (240 - 4 * c.words.i) 0)
          (omega arith) (omega arith) (omega arith) key_bytes c.words.invariant.bytes
          ∙ ap (λ xs. schedule nk c.args.key.now (c.words.i + 1 - nk) ++ xs)
          (drop-replicate 4 (240 - 4 * c.words.i) zero ∙ ap (λ (n : ℕ). replicate n zero) fewer);
      turn = record {
        place = c.next_turn-turn.ensures.place ∙ place-next nk c.words.i c.words.turn.place words turn.place;
        number =
            c.next_turn-turn.ensures.number
            ∙ number-next nk c.words.i c.words.turn.place c.words.turn.number words turn.place turn.number;
      };
    }
