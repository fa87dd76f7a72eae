-- The hash of a ciphertext of which parts are still to come.
use Rattle.std.specs.Prelude.{◌≡◌, ℕ, ◌*◌, ◌/◌, ◌%◌, ◌^◌, List, ◌++◌, length, take, drop}
use Rattle.mbj_types.specs.Blocks.{first_blocks}
use Rattle.mbj_types.specs.Ghash.{ghash}
use Rattle.mbj_direct.specs.declared.hash.PartHash.{PartHash}

-- it has taken the blocks xs, and then the ciphertext c
pub record IsHashed (xs : List (List ℕ)) (c : List ℕ) (s : PartHash) : Type 0 where
  pub value : s.value ≡ ghash s.subkey (xs ++ first_blocks (length c / 16) c)
  pub rest : take (length c % 16) s.last ≡ drop (16 * (length c / 16)) c
  pub bytes : s.bytes ≡ length c % 2 ^ 64
