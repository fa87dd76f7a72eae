-- Zeros are a key of any number of rounds.
use Rattle.std.proofs.Common.{ℕ, ◌<◌, replicate, inl, inr, refl, sym, subst, arith}
use Rattle.std.proofs.lemmas.List.Elements.{All-replicate}
use Rattle.mbj_aes.specs.Bytes.{IsRoundCount}
use Rattle.mbj_aes_lanes.specs.KeyBytes.{IsKeyArray}
use Rattle.mbj_aes_lanes.proofs.slot_keys.key_in.Goals as goal

zeros : (n : ℕ) → IsRoundCount n → IsKeyArray n (replicate 32 0)
zeros n count =
    let bytes = All-replicate (λ x. x < 256) 32 0 (omega arith) in
    elim count [
      | inl e ↦ subst (λ (m : ℕ). IsKeyArray m (replicate 32 0)) (sym e) (record { size = refl; bytes = bytes; zeros = refl })
      | inr later ↦ elim later [
        | inl e ↦ subst (λ (m : ℕ). IsKeyArray m (replicate 32 0)) (sym e) (record { size = refl; bytes = bytes; zeros = refl })
        | inr e ↦ subst (λ (m : ℕ). IsKeyArray m (replicate 32 0)) (sym e) (record { size = refl; bytes = bytes; zeros = refl })
      ]
    ]

pub returns-in-None-clause-array : goal.returns-in-None-clause-array
returns-in-None-clause-array g c = zeros g.E.ChainedEntry.key_rounds c.requires.rounds
