-- The key stands in front.
use Rattle.std.proofs.Common.{ℕ, List, ◌++◌, length, take, drop, replicate, refl, ap, ◌∙◌}
use Rattle.std.proofs.lemmas.List.{take_at}
use Rattle.mbj_direct.proofs.parts.padded_key.Goals as goal

pub returns : goal.returns
returns c =
    let key : List ℕ = c.args.key.now in
    ap (take (length key)) (ap (λ xs. xs ++ drop (length key) (replicate 32 0)) c.copy_from_slice.ensures.after)
    ∙ take_at key (drop (length key) (replicate 32 0)) (length key) refl
