-- The digits of the next chunk flow on.
use Rattle.std.proofs.Common.{◌≡◌, ◌∙◌, [], ap, ℕ, List}
use Rattle.std.proofs.lemmas.List.{nil_from_length}
use Rattle.std.proofs.lemmas.Result.{err_from_is_err_and}
use Rattle.std.specs.Slice.Iter.{chunks_rest}
use Rattle.hex.specs.Hex.{encode_lower}
use Rattle.mbj_text.proofs.Flows.{flows_part, flows_last, front_part}
use Rattle.mbj_text.proofs.HexText.{encode_lower-cut, encode_lower-nil}
use Rattle.mbj_text.proofs.line.put_hex.Goals as goal

pub loop-chunk-preserved : goal.loop-chunk-preserved
loop-chunk-preserved g c =
    let rest : List ℕ = chunks_rest c.loop-chunk.chunk-iterator in
    let chunk : List ℕ = c.in-Some.chunk.now in
    let after : List ℕ = chunks_rest c.next.new.self in
    let before = rw (encode_lower-cut rest chunk after c.in-Some.ensures.steps.1.0) at c.loop-chunk.invariant in
    flows_part c.loop-chunk.piece (encode_lower chunk) (encode_lower after) before c.in_ok-put_hex_chunk.ensures

pub returns-in_err-put_hex_chunk : goal.returns-in_err-put_hex_chunk
returns-in_err-put_hex_chunk g c =
    let rest : List ℕ = chunks_rest c.loop-chunk.chunk-iterator in
    let chunk : List ℕ = c.in-Some.chunk.now in
    let after : List ℕ = chunks_rest c.next.new.self in
    let before = rw (encode_lower-cut rest chunk after c.in-Some.ensures.steps.1.0) at c.loop-chunk.invariant in
    let exit = err_from_is_err_and c.from_residual.result c.from_residual.ensures.1 in
    rw exit.1 (front_part c.loop-chunk.piece (encode_lower chunk) (encode_lower after) before c.in_err-put_hex_chunk.ensures)

pub returns : goal.returns
returns g c =
    let rest : List ℕ = chunks_rest c.loop-chunk.chunk-iterator in
    let end : rest ≡ [] = nil_from_length rest c.in-None.ensures.steps.1.0 in
    let none : encode_lower rest ≡ [] = ap encode_lower end ∙ encode_lower-nil in
    flows_last c.loop-chunk.piece (rw none at c.loop-chunk.invariant)
