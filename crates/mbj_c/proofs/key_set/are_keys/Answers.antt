-- The first key that is none decides.
use Rattle.std.proofs.Common.{◌≡◌, ◌∙◌, ◌+◌, ap, arith, drop, false, sym, true}
use Rattle.std.specs.Prelude.{◌&&◌}
use Rattle.mbj_c.specs.KeySets.{are_keys, bytes_each}
use Rattle.mbj_c.proofs.KeyLists.{keys-at, keys-end}
use Rattle.mbj_c.proofs.key_set.are_keys.Goals as goal

pub returns-then-not-is_key_size : goal.returns-then-not-is_key_size
returns-then-not-is_key_size c =
    let keys = c.args.keys.now in let i = c.keys.key-index in
    let none : c.is_key_size.result ≡ false = c.if-not-is_key_size.true in
    sym (ap (λ b. b && are_keys (bytes_each (drop (i + 1) keys))) none)
    ∙ sym (keys-at keys i _ c.is_key_size.result (omega (arith, c.keys-test.true, c.keys.auto.key-index-end)) c.is_key_size.ensures)
    ∙ c.keys.invariant

pub keys-preserved : goal.keys-preserved
keys-preserved c =
    let keys = c.args.keys.now in let i = c.keys.key-index in
    let one : c.is_key_size.result ≡ true = c.if-not-is_key_size.false in
    sym (ap (λ b. b && are_keys (bytes_each (drop (i + 1) keys))) one)
    ∙ sym (keys-at keys i _ c.is_key_size.result (omega (arith, c.keys-test.true, c.keys.auto.key-index-end)) c.is_key_size.ensures)
    ∙ c.keys.invariant

pub returns : goal.returns
returns c = sym (keys-end c.args.keys.now c.keys.key-index (omega (arith, c.keys-test.false, c.keys.auto.key-index-end))) ∙ c.keys.invariant
