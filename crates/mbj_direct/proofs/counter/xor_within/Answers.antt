-- If there are no bytes, nothing changes.
use Rattle.std.proofs.Common.{◌≡◌, ℕ, ◌-◌, List, [], length, take, drop, sym, ap, ◌∙◌, arith, length-drop}
use Rattle.std.proofs.lemmas.Bool.{eqb-true}
use Rattle.std.proofs.lemmas.List.{nil_from_length, take_all}
use Rattle.mbj_types.specs.Aes.{encipher}
use Rattle.mbj_types.specs.Blocks.{xor_lists}
use Rattle.mbj_direct.proofs.counter.xor_within.Goals as goal

pub returns-then-is_empty : goal.returns-then-is_empty
returns-then-is_empty c =
    let bytes : List ℕ = c.args.bytes.now in
    let none : bytes ≡ [] = nil_from_length bytes (eqb-true (length bytes) 0 (sym c.is_empty.ensures ∙ c.if-is_empty.true)) in
    none ∙ ap (λ xs. xor_lists xs (drop c.args.used (encipher c.args.key.now c.args.counter.now))) (sym none)

pub returns : goal.returns
returns c =
    let used : ℕ = c.args.used in
    let mask : List ℕ = c.enciphered-mask.result in
    let behind : take (16 - used) (drop used mask) ≡ drop used mask =
    take_all (16 - used) (drop used mask) (omega (arith, length-drop used mask)) in
    c.xor_in_place.ensures
    ∙ ap (xor_lists c.args.bytes.now) (behind ∙ ap (drop used) c.enciphered-mask.ensures)
