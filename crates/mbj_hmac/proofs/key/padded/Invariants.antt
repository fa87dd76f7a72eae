use Rattle.std.proofs.Common.{◌≡◌, ◌++◌, take, drop}
use Rattle.mbj_types.specs.Hmac.{padded_key}
use Rattle.mbj_hmac.proofs.key.padded.Given as goal

abbrev pub invariant-loop-byte : goal.invariant-loop-byte
invariant-loop-byte l = l.byte-items ≡ padded_key l.pad (take l.byte-index l.key) ++ drop l.byte-index l.key
