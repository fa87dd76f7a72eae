-- What fills the last block is taken, and then the rest.
use Rattle.std.proofs.Common.{◌≡◌, ℕ, List, [], ◌++◌, length, take, drop, sym, ap, ap₂, ◌∙◌, subst, append-nil, append_assoc}
use Rattle.std.proofs.lemmas.Bool.{eqb-true}
use Rattle.std.proofs.lemmas.List.{take-append-drop, nil_from_length}
use Rattle.mbj_direct.specs.Hashed.{IsHashed}
use Rattle.mbj_direct.proofs.hash.PartHash.take.Goals as goal

pub returns-then-is_empty-clause-hashed : goal.returns-then-is_empty-clause-hashed
returns-then-is_empty-clause-hashed c xs text h =
    let part : List ℕ = c.args.part.now in
    let m : ℕ = c.min.result in
    let back : List ℕ = drop m part in
    let rest : c.split_at.result.1.now ≡ back = c.split_at.ensures.back in
    let none : back ≡ [] =
    nil_from_length back (ap length (sym rest) ∙ eqb-true (length c.split_at.result.1.now) 0 (sym c.is_empty.ensures ∙ c.if-is_empty.true)) in
    let all : c.split_at.result.0.now ≡ part =
    c.split_at.ensures.front ∙ sym (append-nil (take m part)) ∙ ap (λ ys. take m part ++ ys) (sym none) ∙ take-append-drop m part in
    subst (λ (ys : List ℕ). IsHashed xs (text ++ ys) c.take_open.new.self) all (c.take_open.ensures.hashed xs text h)

pub returns-clause-hashed : goal.returns-clause-hashed
returns-clause-hashed c xs text h =
    let part : List ℕ = c.args.part.now in
    let m : ℕ = c.min.result in
    let first : List ℕ = c.split_at.result.0.now in
    let rest : List ℕ = c.split_at.result.1.now in
    let all : text ++ first ++ rest ≡ text ++ part =
    append_assoc text first rest
    ∙ ap (λ ys. text ++ ys) (ap₂ (λ xs ys. xs ++ ys) c.split_at.ensures.front c.split_at.ensures.back ∙ take-append-drop m part) in
    subst (λ (ys : List ℕ). IsHashed xs ys c.take_blocks.new.self) all
    (c.take_blocks.ensures.hashed xs (text ++ first) (c.take_open.ensures.hashed xs text h))
