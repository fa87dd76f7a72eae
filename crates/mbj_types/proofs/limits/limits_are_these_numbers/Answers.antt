use Rattle.std.proofs.Common.{refl}
use Rattle.mbj_types.proofs.limits.limits_are_these_numbers.Goals as goal

pub returns-clause-packet : goal.returns-clause-packet
returns-clause-packet c = refl

pub returns-clause-iv : goal.returns-clause-iv
returns-clause-iv c = refl

pub returns-clause-aad : goal.returns-clause-aad
returns-clause-aad c = refl

pub returns-clause-hmac_key : goal.returns-clause-hmac_key
returns-clause-hmac_key c = refl

pub returns-clause-tag : goal.returns-clause-tag
returns-clause-tag c = refl
