-- A whole piece is written, so that nothing waits; one that isn't whole has room.
use Rattle.std.proofs.Common.{◌≡◌, ◌∙◌, sym, ap, length, arith}
use Rattle.std.proofs.lemmas.List.{length-take-le}
use Rattle.std.proofs.lemmas.Result.{err_from_is_err_and}
use Rattle.mbj_text.proofs.Flows.{flows_start, flows_whole, front_whole}
use Rattle.mbj_text.proofs.piece.Piece.make_room.Goals as goal

pub returns-in_ok-write_all-clause-put : goal.returns-in_ok-write_all-clause-put
returns-in_ok-write_all-clause-put g c =
    flows_whole c.self.inside.len c.self.inside.bytes (omega (arith, c.self.told, c.if-self-eq-PIECE_LEN.true)) c.self.view_is
    c.in_ok-write_all.ensures

pub returns-in_err-write_all-clause-put : goal.returns-in_err-write_all-clause-put
returns-in_err-write_all-clause-put g c =
    let exit = err_from_is_err_and c.from_residual.result c.from_residual.ensures.1 in
    rw exit.1 (front_whole c.self.inside.len c.self.inside.bytes
    (omega (arith, c.self.told, c.if-self-eq-PIECE_LEN.true)) c.self.view_is c.in_err-write_all.ensures)

pub returns-else-self-eq-PIECE_LEN-clause-put : goal.returns-else-self-eq-PIECE_LEN-clause-put
returns-else-self-eq-PIECE_LEN-clause-put g c = flows_start c.args.self.now

pub returns-else-self-eq-PIECE_LEN-clause-room : goal.returns-else-self-eq-PIECE_LEN-clause-room
returns-else-self-eq-PIECE_LEN-clause-room g c =
    let long : length c.args.self.now ≡ c.self.inside.len =
    ap length (sym c.self.view_is) ∙ length-take-le c.self.inside.len c.self.inside.bytes (omega (arith, c.self.invariant, c.self.told)) in
    omega (arith, long, c.self.invariant, c.if-self-eq-PIECE_LEN.false)
