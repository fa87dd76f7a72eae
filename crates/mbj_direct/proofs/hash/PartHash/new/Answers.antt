-- The blocks of the additional data are taken.
use Rattle.std.proofs.Common.{ℕ, List, [], refl, sym, ap, ◌∙◌, append-nil}
use Rattle.mbj_types.specs.Blocks.{filled_blocks}
use Rattle.mbj_types.specs.Ghash.{ghash}
use Rattle.mbj_direct.proofs.hash.PartHash.new.Goals as goal

pub returns-clause-hashed : goal.returns-clause-hashed
returns-clause-hashed c =
    let h : List ℕ = c.args.subkey.now in
    let xs : List (List ℕ) = filled_blocks c.args.aad.now in
    record {
      value =
          c.value.ensures.so_far h xs (c.update_padded.ensures.so_far h [] c.new-hash.ensures)
          ∙ ap (ghash h) (sym (append-nil xs));
      rest = refl;
      bytes = refl;
    }
