-- The entries of the list stand in the first lanes.
use Rattle.std.proofs.Common.{◌≤◌, subst, arith}
use Rattle.std.proofs.lemmas.Option.{get_or_from_slice_get, slice_get_within}
use Rattle.mbj_lane.specs.Rounds.{after}
use Rattle.mbj_aes_lanes.specs.ChainedEntry.{chained_once}
use Rattle.mbj_aes_lanes.proofs.SlotFacts.{same-slots}
use Rattle.mbj_aes_lanes.proofs.advancing.advance_all.Goals as goal

pub advance-requires-clause-rests : goal.advance-requires-clause-rests
advance-requires-clause-rests g c i e h is =
    let rest = g.E.ChainedEntry.rest_of in
    let es = c.args.entries.now in
    subst (λ x. c.args.m ≤ rest x) (get_or_from_slice_get es i e e is) (c.requires.rests i e (slice_get_within es i e is))

pub returns : goal.returns
returns g c =
    let e = g.E.ChainedEntry in
    same-slots (after (chained_once e.key_of e.block_of e.chain_of e.advanced e.kept) c.args.m) 32 c.args.entries.now c.advance.new.slots
    c.requires.few (omega (arith, c.requires.few, c.advance.auto.slots)) c.advance.ensures
