use Rattle.std.proofs.Common.{◌≡◌, ◌-◌, ◌++◌}
use Rattle.std.specs.Prelude.{replicate}
use Rattle.mbj_types.specs.Hmac.{block_key}
use Rattle.mbj_hmac.proofs.Served.{of_hash}
use Rattle.mbj_hmac.proofs.key.pad_key.Goals as goal

pub returns : goal.returns
returns c =
    of_hash c.args.auth c.hash_name.result c.hash_name.ensures
    (λ h. c.hash_key.result ≡ block_key h c.args.key.now ++ replicate (128 - h.block_bytes) 0) c.hash_key.ensures
