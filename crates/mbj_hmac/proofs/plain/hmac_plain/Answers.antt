use Rattle.std.proofs.Common.{◌≡◌, length}
use Rattle.mbj_types.specs.Hmac.{hmac}
use Rattle.mbj_hmac.proofs.Served.{of_hash}
use Rattle.mbj_hmac.proofs.plain.hmac_plain.Goals as goal

pub returns-clause-value : goal.returns-clause-value
returns-clause-value c =
    of_hash c.args.auth c.hash_name.result c.hash_name.ensures
    (λ h. c.hmac_by.result ≡ hmac h c.args.key.now c.args.message.now) c.hmac_by.ensures.value

pub returns-clause-len : goal.returns-clause-len
returns-clause-len c =
    of_hash c.args.auth c.hash_name.result c.hash_name.ensures (λ h. length c.hmac_by.result ≡ h.digest_bytes) c.hmac_by.ensures.len
