-- The job that does nothing.
use Rattle.std.specs.Prelude.{[], None}
use Rattle.mbj_types.specs.declared.job.Job.{Job}
use Rattle.mbj_types.specs.declared.job.Cipher.TheVariants as cipher
use Rattle.mbj_types.specs.declared.job.Dir.TheVariants as dir
use Rattle.mbj_types.specs.declared.job.Order.TheVariants as order
use Rattle.mbj_types.specs.declared.job.Auth.TheVariants as auth

abbrev pub blank : Job
blank = record {
  cipher = cipher.Null;
  dir = dir.Enc;
  order = order.CipherHash;
  key = [];
  iv = [];
  cipher_off = 0;
  cipher_len = 0;
  auth = auth.Null;
  auth_key = [];
  aad = [];
  hash_off = 0;
  hash_len = 0;
  tag_len = 0;
  packet = [];
  session = None;
}
