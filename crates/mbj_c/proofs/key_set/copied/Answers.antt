-- One more key is copied.
use Rattle.std.proofs.Common.{◌<◌, ◌∙◌, ℕ, Global, Vec, ap, arith, length, length-append, subst, sym}
use Rattle.std.specs.List.{All}
use Rattle.std.proofs.lemmas.List.Elements.{All-push}
use Rattle.mbj_aes.specs.Bytes.{IsKeySize}
use Rattle.mbj_c.proofs.KeyLists.{copied-more, first-size}
use Rattle.mbj_c.proofs.key_set.copied.Goals as goal

pub keys-preserved : goal.keys-preserved
keys-preserved c =
    let keys = c.args.keys.now in let i = c.keys.key-index in
    let was = c.keys.invariant in let pushed = c.push_reserved.ensures in
    let within : i < length keys = omega (arith, c.keys-test.true, c.keys.auto.key-index-end) in
    let first = first-size keys i _ within was.left in
    let is_key : Vec ℕ Global → Type 0 = λ k. IsKeySize (length k.items) in
    let copy = c.in_ok-from_slice.field-0 in
    record {
      within = omega (arith, within);
      count = ap length pushed.items ∙ length-append c.keys.copies.items _ ∙ omega (arith, was.count);
      room = omega (arith, was.room, pushed.capacity);
      copies = copied-more (λ k. k.items) c.keys.copies.items c.push_reserved.new.self.items keys i _ copy within
          pushed.items c.in_ok-from_slice.ensures.items was.copies;
      sizes = subst (All is_key) (sym pushed.items)
          (All-push is_key c.keys.copies.items copy was.sizes (subst (λ k. IsKeySize (length k)) (sym c.in_ok-from_slice.ensures.items) first.0));
      left = first.1;
    }
