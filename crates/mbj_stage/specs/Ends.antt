-- What the entries of each kernel bring back when their rounds are done.
use Rattle.std.specs.Prelude.{◌≡◌, ◌≤◌, List, [], ℕ, Some, length}
use Rattle.mbj_types.specs.Auths.{class_of}
use Rattle.mbj_types.specs.declared.job.Job.{Job}
use Rattle.mbj_types.specs.Rounds.{auth_rounds}
use Rattle.mbj_lane.specs.Rounds.{end_of}
use Rattle.mbj_cbc.specs.Rounds as Cbc
use Rattle.mbj_cmac.specs.Rounds as Cmac
use Rattle.mbj_hmac.specs.Rounds as Hmac
use Rattle.mbj_hmac.specs.Begun.{begun}
use Rattle.mbj_ccm.specs.Rounds as Ccm
use Rattle.mbj_stage.specs.CourseState.{CourseState, owed}
use Rattle.mbj_stage.specs.Handing.{End, owed_with, taken_back, without_packet}

abbrev pub cbc_end : Cbc.CbcState → End
cbc_end e = record { packet = e.packet; mac = []; iv = []; aad = [] }

abbrev pub cmac_end : Cmac.CmacState → End
cmac_end e = record { packet = e.packet; mac = e.chain; iv = []; aad = [] }

-- a digest, and a whole HMAC, is the digest of the hash value
abbrev pub hmac_end : Hmac.Hashing → Hmac.HmacState → End
hmac_end h e = record { packet = e.packet; mac = h.digest e.hash e.chain; iv = []; aad = [] }

-- the digest or HMAC of a job over a packet, of which nothing is done
abbrev pub begun_over : Hmac.Hashing → Job → List ℕ → Hmac.HmacState
begun_over h j p = begun h (class_of j.auth) j.auth_key p j.hash_off j.hash_len

abbrev pub ccm_end : Ccm.CcmState → End
ccm_end e = record { packet = e.packet; mac = e.chain; iv = e.iv; aad = e.aad }

-- this entry of a digest or an HMAC goes out of the course old
pub record GoesOut (h : Hmac.Hashing) (e : Hmac.HmacState) (new old : CourseState) : Type 0 where
  pub rest_is : e.rest ≡ auth_rounds (class_of old.job.auth) h.block_bytes old.job.hash_len
  pub some : 1 ≤ e.rest
  pub owed_is : owed_with (hmac_end h (end_of (Hmac.round h) Hmac.rest_of e)) new ≡ owed old
  pub job_is : without_packet (taken_back (hmac_end h (end_of (Hmac.round h) Hmac.rest_of e)) new).job ≡ without_packet old.job
  pub length_is : new.out ≡ Some (length (hmac_end h (end_of (Hmac.round h) Hmac.rest_of e)).packet)
