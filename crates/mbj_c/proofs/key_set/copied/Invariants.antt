-- The first keys are copied, and the others are good.
use Rattle.std.proofs.Common.{◌≡◌, ◌≤◌, drop, length, map, take, true, vec_capacity}
use Rattle.std.specs.List.{All}
use Rattle.mbj_aes.specs.Bytes.{IsKeySize}
use Rattle.mbj_c.specs.KeySets.{are_keys, bytes_each}
use Rattle.mbj_c.proofs.key_set.copied.Given as goal

abbrev pub invariant-keys : goal.invariant-keys
invariant-keys l = record {
  within : l.key-index ≤ length l.keys;
  count : length l.copies.items ≡ l.key-index;
  room : length l.keys ≤ vec_capacity l.copies;
  copies : map (λ k. k.items) l.copies.items ≡ bytes_each (take l.key-index l.keys);
  sizes : All (λ k. IsKeySize (length k.items)) l.copies.items;
  left : are_keys (bytes_each (drop l.key-index l.keys)) ≡ true;
}
