-- One round key more stands in each turn, and at the end all do.
use Rattle.std.proofs.Common.{◌≡◌, ℕ, ◌+◌, ◌-◌, ◌*◌, List, ◌++◌, length, take, replicate, ap, ap₂, ◌∙◌, arith}
use Rattle.std.proofs.lemmas.List.{length-take-le, take_all}
use Rattle.mbj_types.specs.Aes.{round_key}
use Rattle.mbj_blocks.specs.Places.{with_block}
use Rattle.mbj_direct.proofs.KeyBytes.{keys-next}
use Rattle.mbj_direct.proofs.Zeros.{put_next}
use Rattle.mbj_direct.proofs.keys.encryption_schedule.Goals as goal

pub rounds-preserved : goal.rounds-preserved
rounds-preserved c =
    let w : List ℕ = c.args.key.now in
    let r : ℕ = c.rounds.r in
    let zeros : List ℕ = replicate (240 - 16 * (r + 1)) 0 in
    put_next (take (16 * r) w) (round_key w r) c.rounds.bytes c.put_block.new.text r 240
    (length-take-le (16 * r) w (omega arith)) (omega arith) c.rounds.invariant
    (c.put_block.ensures ∙ ap (with_block c.rounds.bytes r) c.round_key.ensures)
    ∙ ap (λ xs. xs ++ zeros) (keys-next w r)

pub returns : goal.returns
returns c =
    let w : List ℕ = c.args.key.now in
    let all : take (16 * c.rounds.r) w ≡ w = take_all (16 * c.rounds.r) w (omega arith) in
    let left : 240 - 16 * c.rounds.r ≡ 240 - length w = omega arith in
    c.rounds.invariant ∙ ap₂ (λ xs (k : ℕ). xs ++ replicate k 0) all left
