-- To search among the rows is to look up.
use Rattle.std.proofs.Common.{◌∙◌}
use Rattle.mbj_text.proofs.WordLaws.{find_is_lookup}
use Rattle.mbj_text.proofs.words.lookup.Goals as goal

pub returns : goal.returns
returns g c = c.find_value.ensures ∙ find_is_lookup c.args.rows.now c.args.text.now
