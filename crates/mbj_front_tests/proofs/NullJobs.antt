-- The result of a job with no cipher and no authentication, as tests post it.
use Rattle.std.proofs.Common.{◌≡◌, ◌≤◌, Bool, false, [], length, ap, ◌∙◌, le-ltb}
use Rattle.std.specs.Prelude.{Some, None, nat_lt, if◌then◌else◌}
use Rattle.std.specs.Option.{option_map_or}
use Rattle.mbj_types.specs.Result.{result_of, accepted, refused, ciphered, tag_over}
use Rattle.mbj_types.specs.declared.job.Job.{Job}
use Rattle.mbj_types.specs.declared.job.Cipher.TheVariants as cipher
use Rattle.mbj_types.specs.declared.job.Auth.TheVariants as auth
use Rattle.mbj_types.specs.declared.reason.Reason.TheVariants.{PacketLong}
use Rattle.mbj_types.specs.declared.done.Status.TheVariants as status
use Rattle.mbj_types.specs.declared.limits.TheConstants.{MAX_PACKET_BYTES}

abbrev null_of : Job → Job
null_of j = record j { cipher = cipher.Null; auth = auth.Null; tag_len = 0 }

of_null : (j : Job) → nat_lt MAX_PACKET_BYTES (length j.packet) ≡ false → result_of (null_of j) ≡ record { status = status.Ok; packet = j.packet; tag = [] }
unfolding result_of ciphered tag_over
of_null j e = ap (λ (b : Bool). option_map_or (refused (null_of j)) (if b then Some PacketLong else None) (accepted (null_of j))) e

pub null_result : (j : Job) → j.cipher ≡ cipher.Null → j.auth ≡ auth.Null → j.tag_len ≡ 0 → length j.packet ≤ MAX_PACKET_BYTES → result_of j ≡ record { status = status.Ok; packet = j.packet; tag = [] }
null_result j is_cipher is_auth is_tag short =
    let same : j ≡ null_of j = λ t. record j { cipher = is_cipher t; auth = is_auth t; tag_len = is_tag t } in
    ap result_of same ∙ of_null j (le-ltb _ _ short)
