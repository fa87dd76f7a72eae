-- The law, of each algorithm.
use Rattle.mbj_c.proofs.Openings.{ccm_opens, gcm_opens}
use Rattle.mbj_c.proofs.laws.texts_are_opened_by_their_tags.Goals as goal

pub returns : goal.returns
returns c = record {
  gcm = gcm_opens;
  ccm = ccm_opens;
}
