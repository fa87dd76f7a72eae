-- What was done says what was taken.
use Rattle.std.proofs.Common.{sym, ◌∙◌}
use Rattle.mbj_direct.specs.Gmac.{TakesPart, is_gmac_state}
use Rattle.mbj_c.proofs.Openings.{done_says}
use Rattle.mbj_c.proofs.exports.gmac.mbj_gmac_update.Goals as goal

pub returns-clause-taken : goal.returns-clause-taken
returns-clause-taken c none =
    done_says (is_gmac_state c.args.state.now) c.gmac_update.result (TakesPart c.args.part.now c.args.state.now c.gmac_update.new.state)
    c.gmac_update.ensures.answer c.gmac_update.ensures.taken (sym c.code.ensures ∙ none)
