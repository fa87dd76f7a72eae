-- A whole piece flows on, and then the front of what is left comes to what waits.
use Rattle.std.proofs.Common.{◌≡◌, ◌++◌, ℕ, List}
use Rattle.std.proofs.lemmas.List.{take-append-drop}
use Rattle.std.proofs.lemmas.Result.{err_from_is_err_and}
use Rattle.mbj_text.proofs.Flows.{flows_then, flows_more, flows_kept, front_then, front_with}
use Rattle.mbj_text.proofs.piece.Piece.put.Goals as goal

pub returns-in_err-make_room : goal.returns-in_err-make_room
returns-in_err-make_room g c =
    let exit = err_from_is_err_and c.from_residual.result c.from_residual.ensures.1 in
    rw exit.1 (front_then c.loop-rest.invariant (front_with c.loop-rest.rest.now c.in_err-make_room.ensures.put))

pub loop-rest-preserved : goal.loop-rest-preserved
loop-rest-preserved g c =
    let rest : List ℕ = c.loop-rest.rest.now in
    let front : List ℕ = c.split_at.result.0.now in
    let after : List ℕ = c.split_at.result.1.now in
    let cut : rest ≡ front ++ after = cc (take-append-drop c.min.result rest) in
    let before = rw cut at (flows_then c.loop-rest.invariant (flows_more rest c.in_ok-make_room.ensures.put)) in
    rw c.append.ensures (flows_kept c.make_room.new.self front after before)
