use Rattle.std.proofs.Common.{ℕ, bit_xor, arith, get_or}
use Rattle.std.proofs.lemmas.List.{get_or_default}
use Rattle.std.proofs.lemmas.List.Edits.{map_over_more}
use Rattle.mbj_hmac.proofs.key.padded.Goals as goal

pub loop-byte-preserved : goal.loop-byte-preserved
loop-byte-preserved c =
    let bytes = c.loop-byte.byte-items in
    let i = c.loop-byte.byte-index in
    map_over_more (λ (x : ℕ). bit_xor x c.args.pad) c.args.key.now bytes i (get_or bytes i 0) (omega arith)
    c.loop-byte.invariant (get_or_default bytes i 0 (get_or bytes i 0) (omega arith))
