-- Four blocks more are changed in each turn, and then the rest.
use Rattle.std.proofs.Common.{ℕ, ◌+◌, ◌-◌, ◌*◌, ◌/◌, ◌≤◌, List, [], length, drop, refl, ap, ◌∙◌, arith, length-drop}
use Rattle.std.proofs.lemmas.List.{length-take-le}
use Rattle.mbj_aes_lanes.proofs.ListParts.{part_read, changed_further, same_further}
use Rattle.mbj_aes_lanes.proofs.narrow.by_fours.change_each.Goals as goal

pub fours-preserved : goal.fours-preserved
fours-preserved g c =
    let xs : List (List ℕ) = c.fours.blocks in
    let a : ℕ = 4 * c.fours.k in
    let ys : List (List ℕ) = c.change_four.new.blocks in
    let inside : 4 * c.fours.k ≤ length xs = omega (arith, c.fours.auto.blocks) in
    let change = g.D.Direction.change c.args.key.now in
    record {
      changed = λ i h.
          changed_further a 4 xs ys inside change c.args.blocks.now c.fours.invariant.changed
          (λ j l. c.change_four.ensures.first j l
          ∙ ap change (part_read a xs [] _ j (a + j) refl refl ∙ c.fours.invariant.others (a + j) (omega arith))) i (omega arith);
      others = λ i h. same_further a 4 xs ys inside c.change_four.ensures.others i (omega arith) ∙ c.fours.invariant.others i (omega arith);
    }

pub returns : goal.returns
returns g c i h =
    let xs : List (List ℕ) = c.fours.blocks in
    let many : ℕ = length c.args.blocks.now in
    let a : ℕ = 4 * (length c.args.blocks.now / 4) in
    let inside : 4 * (length c.args.blocks.now / 4) ≤ length xs = omega (arith, c.fours.auto.blocks) in
    let change = g.D.Direction.change c.args.key.now in
    changed_further a (many - a) xs c.change_rest.new.blocks inside change c.args.blocks.now (λ i l. c.fours.invariant.changed i (omega arith))
    (λ j l. c.change_rest.ensures j
    (omega (arith, c.fours.auto.blocks, length-take-le (length xs - a) (drop a xs) (omega (arith, length-drop a xs))))
    ∙ ap change (part_read a xs [] _ j (a + j) refl refl ∙ c.fours.invariant.others (a + j) (omega arith))) i (omega arith)
