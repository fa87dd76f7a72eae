use Rattle.std.proofs.Common.{◌≡◌, ◌≤◌, length, ap, sym, arith, rules}
use Rattle.mbj_types.specs.declared.limits.TheConstants.{MAX_PACKET_BYTES}
use Rattle.mbj_types.specs.declared.job.Cipher.TheVariants as cipher
use Rattle.mbj_types.specs.declared.job.Auth.TheVariants as auth
use Rattle.mbj_front_tests.proofs.NullJobs.{null_result}
use Rattle.mbj_front_tests.proofs.events.result_of_null.Goals as goal

pub returns : goal.returns
returns c =
    let job = c.args.job.now in
    let is_cipher : job.cipher ≡ cipher.Null = search rules in
    let is_auth : job.auth ≡ auth.Null = search rules in
    let is_tag : job.tag_len ≡ 0 = c.if-job-ne0.false in
    let short : length job.packet ≤ MAX_PACKET_BYTES = omega (arith, ap length c.as_slice-bytes.ensures, c.if-bytes-gt-MAX_PACKET_BYTES.false) in
    rw ((c.in_ok-copy.ensures {u = tt}), c.from_slice.ensures) (sym (null_result job is_cipher is_auth is_tag short))
