use Rattle.std.proofs.Common.{◌≡◌, ◌*◌, length, take}
use Rattle.sha2.specs.Sha512.{digest_bytes}
use Rattle.mbj_hmac.proofs.sha512_lanes.bytes_of.Given as goal

abbrev pub invariant-words : goal.invariant-words
invariant-words l = record {
  long : length l.bytes ≡ 64;
  front : take (8 * l.j) l.bytes ≡ digest_bytes l.chain l.j;
}
