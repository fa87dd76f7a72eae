-- What the calls without a manager give, if C's arguments are accepted.
use Rattle.std.specs.Prelude.{ℕ, nat_le, ◌&&◌, Bool, true, false, List, ◌++◌, length, take, drop, replicate, bytes_eq, Option, None, Some, Result, Ok, Err, slice_get, if◌then◌else◌}
use Rattle.mbj_types.specs.declared.class.HashName.{HashName}
use Rattle.mbj_types.specs.declared.job.Dir.{Dir}
use Rattle.mbj_types.specs.declared.limits.TheConstants.{MAX_PACKET_BYTES}
use Rattle.mbj_types.specs.Aes.{aes, is_key_size, key_schedule}
use Rattle.mbj_types.specs.Auths.{hash_of_name}
use Rattle.mbj_types.specs.Ccm as Ccm
use Rattle.mbj_types.specs.Ccm.{ccm}
use Rattle.mbj_types.specs.Cmac as Cmac
use Rattle.mbj_types.specs.Cmac.{first_subkey, second_subkey}
use Rattle.mbj_types.specs.Gcm as Gcm
use Rattle.mbj_types.specs.Gcm.{gcm}
use Rattle.mbj_direct.specs.declared.parts.GcmState.{GcmState}
use Rattle.mbj_direct.specs.declared.gmac.GmacState.{GmacState}
use Rattle.mbj_direct.specs.Gmac.{is_gmac_state}
use Rattle.mbj_direct.specs.Parts.{is_gcm_state}
use Rattle.mbj_direct.specs.Schedules.{inverse_schedule}
use Rattle.mbj_c.specs.declared.refusal.Refusal.{Refusal}
use Rattle.mbj_c.specs.declared.refusal.Refusal.TheVariants.{AadLength, IvLength, KeyLength, NoRoom, NoState, TagLength, TextLength, Word, WrongTag}
use Rattle.mbj_c.specs.Words.{dirs, hashes}

-- a test, or why a call is refused
abbrev pub wants : Bool → Refusal → Result Unit Refusal
wants true r = Ok tt
wants false r = Err r

-- one test after another: the first that fails refuses the call
abbrev pub and_then : {A : Type 0} → Result Unit Refusal → Result A Refusal → Result A Refusal
and_then (Err r) next = Err r
and_then (Ok u) next = next

-- two things that are made
abbrev pub Pair : Type 0
Pair = List ℕ × List ℕ

-- ---- two lists of bytes, each put at the front of a room of its own

abbrev pub put_in_front : List ℕ → List ℕ → List ℕ
put_in_front bytes room = bytes ++ drop (length bytes) room

-- both are written, or none if a room is too short
abbrev pub put_both : Result Pair Refusal → Pair → Result Unit Refusal × Pair
put_both (Err r) rooms = (Err r, rooms)
put_both (Ok made) rooms =
    if nat_le (length made.0) (length rooms.0) && nat_le (length made.1) (length rooms.1)
    then (Ok tt, (put_in_front made.0 rooms.0, put_in_front made.1 rooms.1))
    else (Err NoRoom, rooms)

-- the schedules of a key
abbrev pub checked_schedules : List ℕ → Result Pair Refusal
checked_schedules key = and_then (wants (is_key_size (length key)) KeyLength) (Ok (key_schedule key, inverse_schedule (key_schedule key)))

-- the subkeys of a key of CMAC
abbrev pub checked_subkeys : List ℕ → Result Pair Refusal
checked_subkeys key =
    and_then (wants (Cmac.takes_key (length key)) KeyLength) (Ok (first_subkey (aes key), second_subkey (aes key)))

-- ---- the digest of a text

abbrev pub digest_by : Option HashName → List ℕ → Result (List ℕ) Refusal
digest_by None text = Err Word
digest_by (Some h) text = Ok ((hash_of_name h).digest text)

abbrev pub digest_by_code : ℕ → List ℕ → Result (List ℕ) Refusal
digest_by_code code text = digest_by (slice_get hashes code) text

-- ---- a text that changes in place, and the room of its tag

-- both change, or none
abbrev pub changed : Result Pair Refusal → Pair → Result Unit Refusal × Pair
changed (Err r) old = (Err r, old)
changed (Ok new) old = (Ok tt, new)

-- the other text, and the tag cut to n bytes
abbrev pub cut_to : ℕ → Pair → Pair
cut_to n whole = (whole.0, take n whole.1)

-- a key and an IV of GCM
abbrev pub gcm_accepts : List ℕ → List ℕ → Result Unit Refusal
gcm_accepts key iv = and_then (wants (is_key_size (length key)) KeyLength) (wants (Gcm.takes_iv (length iv)) IvLength)

-- a whole text by GCM, and a tag as long as its room
abbrev pub checked_gcm : List ℕ → List ℕ → List ℕ → Bool → Pair → Result Pair Refusal
checked_gcm key iv aad sealing old =
    and_then (gcm_accepts key iv)
    (and_then (wants (Gcm.takes_tag (length old.1)) TagLength) (Ok (cut_to (length old.1) (gcm (aes key) iv aad old.0 sealing))))

-- the lengths of a key, a nonce, additional data, a text and a tag of CCM
abbrev pub ccm_accepts : ℕ → ℕ → ℕ → ℕ → ℕ → Result Unit Refusal
ccm_accepts key nonce aad text tag =
    and_then (wants (is_key_size key) KeyLength)
    (and_then (wants (Ccm.takes_nonce nonce) IvLength)
    (and_then (wants (Ccm.takes_aad aad) AadLength)
    (and_then (wants (nat_le text MAX_PACKET_BYTES) TextLength) (wants (Ccm.takes_tag tag) TagLength))))

-- a text by CCM, and a tag as long as its room
abbrev pub checked_ccm : List ℕ → List ℕ → List ℕ → Bool → Pair → Result Pair Refusal
checked_ccm key nonce aad sealing old =
    and_then (ccm_accepts (length key) (length nonce) (length aad) (length old.0) (length old.1))
    (Ok (cut_to (length old.1) (ccm (aes key) nonce aad old.0 (length old.1) sealing)))

-- ---- a text that is opened, and the tag that came with it

-- where that is the tag that it should have come with, it becomes the plaintext, else zeros
abbrev pub verified : Pair → List ℕ → List ℕ → Result Unit Refusal × List ℕ
verified made tag text = if bytes_eq made.1 tag then (Ok tt, made.0) else (Err WrongTag, replicate (length text) 0)

-- it stays as it is where it isn't looked at
abbrev pub opened_by : Result Pair Refusal → List ℕ → List ℕ → Result Unit Refusal × List ℕ
opened_by (Err r) tag text = (Err r, text)
opened_by (Ok made) tag text = verified made tag text

abbrev pub gcm_opened : List ℕ → List ℕ → List ℕ → List ℕ → List ℕ → Result Unit Refusal × List ℕ
gcm_opened key iv aad text tag = opened_by (checked_gcm key iv aad false (text, tag)) tag text

abbrev pub ccm_opened : List ℕ → List ℕ → List ℕ → List ℕ → List ℕ → Result Unit Refusal × List ℕ
ccm_opened key nonce aad text tag = opened_by (checked_ccm key nonce aad false (text, tag)) tag text

-- ---- a text by GCM in parts

abbrev pub dir_by : Option Dir → Result Dir Refusal
dir_by None = Err Word
dir_by (Some d) = Ok d

-- how a text is begun: its direction, if that is one and GCM takes the key and the IV
abbrev pub begun_by : Result Dir Refusal → List ℕ → List ℕ → Result Dir Refusal
begun_by (Err r) key iv = Err r
begun_by (Ok d) key iv = and_then (gcm_accepts key iv) (Ok d)

abbrev pub begun_by_code : ℕ → List ℕ → List ℕ → Result Dir Refusal
begun_by_code code key iv = begun_by (dir_by (slice_get dirs code)) key iv

-- whether a text goes on from a state
abbrev pub goes_on : GcmState → Result Unit Refusal
goes_on s = wants (is_gcm_state s) NoState

-- whether it ends there with a tag of n bytes
abbrev pub ends : GcmState → ℕ → Result Unit Refusal
ends s n = and_then (goes_on s) (wants (Gcm.takes_tag n) TagLength)

-- ---- GMAC in parts

-- whether data goes on from a state
abbrev pub data_goes_on : GmacState → Result Unit Refusal
data_goes_on s = wants (is_gmac_state s) NoState

-- whether it ends there with a tag of n bytes
abbrev pub data_ends : GmacState → ℕ → Result Unit Refusal
data_ends s n = and_then (data_goes_on s) (wants (Gcm.takes_tag n) TagLength)
