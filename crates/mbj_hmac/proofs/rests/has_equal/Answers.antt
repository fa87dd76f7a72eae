use Rattle.std.proofs.Common.{w32, eqb, sym, ◌∙◌, arith}
use Rattle.std.proofs.lemmas.Bool.{eq-eqb, eqb-true, not-false}
use Rattle.mbj_hmac.proofs.Vectors.{lane_is, none_told}
use Rattle.mbj_hmac.proofs.rests.has_equal.Goals as goal

pub returns : goal.returns
returns c none i h same =
    let a = c.args.a in
    let b = c.args.b in
    none_told eqb a b 16 i (omega arith) c.fits-a.0 c.fits-b.0 h (eqb-true _ 0 (not-false _ none))
    (eq-eqb _ _ (sym (lane_is w32 a 16 i c.fits-a.0 c.fits-a.1 h) ∙ same ∙ lane_is w32 b 16 i c.fits-b.0 c.fits-b.1 h))
