-- What fills the open block is xored, and then the rest.
use Rattle.std.proofs.Common.{◌≡◌, ℕ, ◌+◌, ◌*◌, ◌/◌, ◌%◌, ◌^◌, ◌-◌, min, List, length, take, drop, ap, ap₂, ◌∙◌, arith}
use Rattle.std.specs.List.{concat}
use Rattle.std.proofs.lemmas.List.{length-take}
use Rattle.mbj_types.specs.Aes.{encipher}
use Rattle.mbj_types.specs.Blocks.{blocks, xor_lists}
use Rattle.mbj_types.specs.Gcm.{gctr, inc32}
use Rattle.mbj_aes.proofs.Rounds.{length-encipher}
use Rattle.mbj_gcm.specs.Incremented.{incremented}
use Rattle.mbj_direct.specs.Inside.Stream.{streamed}
use Rattle.mbj_direct.proofs.Streams.{incremented-mod, gctr-streamed, streamed-open, streamed-part}
use Rattle.mbj_direct.proofs.counter.xor_part.Goals as goal

pub returns : goal.returns
returns c =
    let w : List ℕ = c.args.key.now in
    let e : List ℕ → List ℕ = encipher w in
    let j : List ℕ = c.args.pre_counter.now in
    let n : ℕ = c.args.at in
    let part : List ℕ = c.args.part.now in
    let m : ℕ = c.min.result in
    let sizes : (b : List ℕ) → length (e b) ≡ 16 = λ b. length-encipher w b c.requires in
    let begun : c.incremented-begun.result ≡ incremented j ((n + 15) / 16) =
    c.incremented-begun.ensures ∙ ap (incremented j) c.begun_blocks.ensures ∙ incremented-mod j ((n + 15) / 16 % 2 ^ 32) ((n + 15) / 16) (omega arith) in
    let room : m ≡ min ((16 - n % 16) % 16) (length part) = omega arith in
    let first : c.xor_within.new.bytes ≡ streamed e j n (take m part) =
    c.xor_within.ensures
    ∙ ap₂ (λ xs b. xor_lists xs (drop (n % 16) (e b))) c.split_at_mut-open.ensures.front begun
    ∙ streamed-open e j sizes n (n % 16) (take m part) (omega arith) (omega (arith, length-take m part)) in
    let rest : c.xor_after.new.text ≡ streamed e j (16 * ((n + 15) / 16)) (drop m part) =
    c.xor_after.ensures
    ∙ ap₂ (λ xs b. concat (gctr e (inc32 b) (blocks xs))) c.split_at_mut-open.ensures.back begun
    ∙ gctr-streamed e j sizes c.told-pre_counter ((n + 15) / 16) (drop m part) in
    streamed-part e j n m part c.xor_within.new.bytes c.xor_after.new.text room first rest
