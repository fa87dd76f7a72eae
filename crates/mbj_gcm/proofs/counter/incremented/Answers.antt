-- The last 4 bytes are written anew.
use Rattle.std.proofs.Common.{◌≡◌, ℕ, List, ◌+◌, ◌%◌, ◌^◌, ◌++◌, length, take, drop, ap, ap₂, ◌∙◌, arith, append-nil, length-drop}
use Rattle.std.proofs.lemmas.List.{take_all, drop_all}
use Rattle.std.specs.Int.{w32, to_be_bytes, from_be_bytes}
use Rattle.mbj_gcm.specs.Incremented.{incremented}
use Rattle.mbj_gcm.proofs.counter.incremented.Goals as goal

pub returns : goal.returns
unfolding incremented
returns c =
    let iv : List ℕ = take 12 c.args.block.now in
    let last : List ℕ = drop 12 c.args.block.now in
    let size : length last ≡ 4 = length-drop 12 c.args.block.now ∙ omega arith in
    let number : c.copy_from_slice.new.self ≡ last =
    c.copy_from_slice.ensures.after ∙ take_all 4 last (omega arith) in
    let next : c.copy_from_slice-2.new.self ≡ to_be_bytes w32 ((from_be_bytes w32 last + c.args.by) % 2 ^ 32) =
    c.copy_from_slice-2.ensures.after ∙ c.to_be_bytes.ensures
    ∙ ap (λ (n : ℕ). to_be_bytes w32 ((n + c.args.by) % 2 ^ 32))
    (c.from_be_bytes.ensures ∙ ap (from_be_bytes w32) number) in
    ap₂ (λ x y. iv ++ (x ++ y)) next (drop_all 4 last (omega arith))
    ∙ ap (λ x. iv ++ x) (append-nil (to_be_bytes w32 ((from_be_bytes w32 last + c.args.by) % 2 ^ 32)))
