-- What C's job says, and what filling the next job with it comes to.
use Rattle.std.specs.Prelude.{ℕ, ◌+◌, ◌-◌, ◌^◌, ◌==◌, nat_le, List, ◌∷◌, ◌++◌, take, drop, length, Option, Some, None, Result, Ok, Err, slice_get, option_map, if◌then◌else◌}
use Rattle.mbj_types.specs.declared.job.Job.{Job}
use Rattle.mbj_types.specs.declared.job.Cipher.{Cipher}
use Rattle.mbj_types.specs.declared.job.Dir.{Dir}
use Rattle.mbj_types.specs.declared.job.Order.{Order}
use Rattle.mbj_types.specs.declared.job.Auth.{Auth}
use Rattle.mbj_ring.specs.declared.ring.TheConstants.{CELLS}
use Rattle.mbj_manager.specs.State.{ManagerState}
use Rattle.mbj_c.specs.declared.job.RawJob.{RawJob}
use Rattle.mbj_c.specs.declared.words.Words.{Words}
use Rattle.mbj_c.specs.declared.refusal.Refusal.{Refusal}
use Rattle.mbj_c.specs.declared.refusal.Refusal.TheVariants as refusal
use Rattle.mbj_c.specs.Ranges.{given_range, narrowed}
use Rattle.mbj_c.specs.State.{RangedState, new_ranged}
use Rattle.mbj_c.specs.Words.{ciphers, dirs, orders, auths}

-- the words, if each code is one
abbrev pub words_of : Option Cipher → Option Dir → Option Order → Option Auth → Option Words
words_of (Some c) (Some d) (Some o) (Some a) = Some (record { cipher = c; dir = d; order = o; auth = a })
words_of c d o a = None

abbrev pub words_of_raw : RawJob → Option Words
words_of_raw r = words_of (slice_get ciphers r.cipher) (slice_get dirs r.dir) (slice_get orders r.order) (slice_get auths r.auth)

-- the greatest number of 32 bits names no session
abbrev pub session_of_raw : ℕ → Option ℕ
session_of_raw n = if n == 2 ^ 32 - 1 then None else Some n

abbrev pub job_with : RawJob → Words → Job
job_with r w = record {
  cipher = w.cipher;
  dir = w.dir;
  order = w.order;
  key = r.key.now;
  iv = r.iv.now;
  cipher_off = narrowed r.cipher_off;
  cipher_len = narrowed r.cipher_len;
  auth = w.auth;
  auth_key = r.auth_key.now;
  aad = r.aad.now;
  hash_off = narrowed r.hash_off;
  hash_len = narrowed r.hash_len;
  tag_len = r.tag_len;
  packet = r.packet.now;
  session = session_of_raw r.session;
}

-- the job that C's job says, if each code is a word
abbrev pub job_of_raw : RawJob → Option Job
job_of_raw r = option_map (job_with r) (words_of_raw r)

-- the list with x for element i, and with x last if it has no more than i elements
abbrev pub put_at : {A : Type 0} → ℕ → A → List A → List A
put_at i x xs = take i xs ++ x ∷ drop (i + 1) xs

-- the job is in open cell i, in place of what was filled there
abbrev pub with_cell : ℕ → Job → ManagerState → ManagerState
with_cell i j m = record m { opened = put_at i j m.opened }

abbrev pub with_job_at : ℕ → Job → RangedState → RangedState
with_job_at i j k = record k { manager = with_cell i j k.manager; filled = put_at i (given_range j) k.filled }

-- the job that is meant is in open cell i
abbrev pub filled_with : ℕ → Option Job → RangedState → Result Unit Refusal × RangedState
filled_with i None k = (Err refusal.Word, k)
filled_with i (Some j) k = (Ok tt, with_job_at i j k)

-- what filling open cell i comes to if there is memory: it is refused if that cell isn't left, and then if a code is none
abbrev pub filled_at : ℕ → RawJob → RangedState → Result Unit Refusal × RangedState
filled_at i r k = if nat_le CELLS (length k.manager.owed + i) then (Err refusal.Full, k) else filled_with i (job_of_raw r) k

abbrev pub filled_cell : ℕ → RawJob → Option RangedState → Result Unit Refusal × Option RangedState
filled_cell i r None = (Err refusal.NoManager, None)
filled_cell i r (Some k) = ((filled_at i r k).0, Some (filled_at i r k).1)

-- the single call fills the first open cell
abbrev pub filled : RawJob → Option RangedState → Result Unit Refusal × Option RangedState
filled r m = filled_cell 0 r m

-- what making a manager comes to if there is memory
abbrev pub made : Option RangedState → Result Unit Refusal × Option RangedState
made None = (Ok tt, Some new_ranged)
made (Some k) = (Err refusal.HasManager, Some k)
