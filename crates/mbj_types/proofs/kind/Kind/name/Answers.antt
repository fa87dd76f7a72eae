use Rattle.std.proofs.Common.{ap, sym}
use Rattle.mbj_types.specs.Kinds.{name_of}
use Rattle.mbj_types.proofs.kind.Kind.name.Goals as goal

pub returns-in-HmacSha256 : goal.returns-in-HmacSha256
returns-in-HmacSha256 c = sym (ap name_of c.in-HmacSha256.is)
