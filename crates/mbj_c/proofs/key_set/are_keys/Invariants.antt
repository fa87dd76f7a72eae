-- All keys are good exactly where those are that are left.
use Rattle.std.proofs.Common.{◌≡◌, drop}
use Rattle.mbj_c.specs.KeySets.{are_keys, bytes_each}
use Rattle.mbj_c.proofs.key_set.are_keys.Given as goal

abbrev pub invariant-keys : goal.invariant-keys
invariant-keys l = are_keys (bytes_each (drop l.key-index l.keys)) ≡ are_keys (bytes_each l.keys)
