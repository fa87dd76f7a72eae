-- What stored states are, if C asks for them (RFC 2104, 4).
use Rattle.std.specs.Prelude.{ℕ, ◌==◌, nat_le, List, ◌++◌, length, drop, Option, Some, None, Result, Ok, Err, slice_get, if◌then◌else◌}
use Rattle.mbj_types.specs.declared.class.HashName.{HashName}
use Rattle.mbj_types.specs.Auths.{hash_of_name, compression_of_name}
use Rattle.mbj_types.specs.States.{block_state, key_states}
use Rattle.mbj_c.specs.declared.refusal.Refusal.{Refusal}
use Rattle.mbj_c.specs.declared.refusal.Refusal.TheVariants.{NoRoom, TextLength, Word}
use Rattle.mbj_c.specs.Words.{hashes}

-- the states of a key, the inner one first, if the hash is one
abbrev pub states_by : Option HashName → List ℕ → Result (List ℕ) Refusal
states_by None key = Err Word
states_by (Some h) key = Ok (key_states (hash_of_name h) (compression_of_name h) key)

abbrev pub states_by_code : ℕ → List ℕ → Result (List ℕ) Refusal
states_by_code code key = states_by (slice_get hashes code) key

-- the state behind one block, if the hash is one and the block has its length
abbrev pub state_by : Option HashName → List ℕ → Result (List ℕ) Refusal
state_by None block = Err Word
state_by (Some h) block =
    if length block == (hash_of_name h).block_bytes then Ok (block_state (compression_of_name h) block) else Err TextLength

abbrev pub state_by_code : ℕ → List ℕ → Result (List ℕ) Refusal
state_by_code code block = state_by (slice_get hashes code) block

-- bytes are put at the front of their room, if that holds them; else nothing is written
abbrev pub put_in : Result (List ℕ) Refusal → List ℕ → Result Unit Refusal × List ℕ
put_in (Err r) room = (Err r, room)
put_in (Ok bytes) room =
    if nat_le (length bytes) (length room) then (Ok tt, bytes ++ drop (length bytes) room) else (Err NoRoom, room)
