-- The laws of encryption and decryption under each key.
use Rattle.std.proofs.Common.{◌≡◌, ℕ, ◌+◌, ◌*◌, ◌≤◌, List, length, arith}
use Rattle.mbj_types.specs.Aes.{key_schedule, round_count, aes, aes_inverse}
use Rattle.mbj_aes.specs.Bytes.{IsBytes, IsKey}
use Rattle.mbj_aes.specs.Laws.{Undoes, KeepsBlocks}
use Rattle.mbj_aes.proofs.KeySizes.{key_sizes}
use Rattle.mbj_aes.proofs.KeyLists.{IsSchedule, IsSchedule-key_schedule}
use Rattle.mbj_aes.proofs.Rounds.{IsUndone, encipher-undone, decipher-undone, length-encipher}

-- the schedule of a key has bytes, and two round keys at least
bytes_of_rounds : (key : List ℕ) → IsKey key → IsBytes (key_schedule key) × (32 ≤ length (key_schedule key))
bytes_of_rounds key k =
    let w : IsSchedule (4 * (round_count key + 1)) (key_schedule key) = IsSchedule-key_schedule key k in
    let sizes = key_sizes (length key) k.size in
    (w.bytes, omega arith)

aes-undone : (key : List ℕ) → IsKey key → IsUndone (aes key) (aes_inverse key)
unfolding aes aes_inverse
aes-undone key k = let w = bytes_of_rounds key k in encipher-undone (key_schedule key) w.0 w.1

aes_inverse-undone : (key : List ℕ) → IsKey key → IsUndone (aes_inverse key) (aes key)
unfolding aes aes_inverse
aes_inverse-undone key k = let w = bytes_of_rounds key k in decipher-undone (key_schedule key) w.0 w.1

-- each undoes the other
pub decryption_undoes : Undoes aes_inverse aes
decryption_undoes key b k h = (aes-undone key k).again b h

pub encryption_undoes : Undoes aes aes_inverse
encryption_undoes key b k h = (aes_inverse-undone key k).again b h

-- each makes blocks
pub encryption_keeps : KeepsBlocks aes
encryption_keeps key b k h = (aes-undone key k).block b h

pub decryption_keeps : KeepsBlocks aes_inverse
decryption_keeps key b k h = (aes_inverse-undone key k).block b h

-- encryption makes 16 bytes, whatever numbers go in
pub length-aes : (key b : List ℕ) → IsKey key → length (aes key b) ≡ 16
unfolding aes
length-aes key b k = let w = bytes_of_rounds key k in length-encipher (key_schedule key) b (omega (arith, w.1))
