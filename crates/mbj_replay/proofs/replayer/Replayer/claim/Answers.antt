-- By the law of the front, the first cell of the hand is the one whose result comes.
use Rattle.std.proofs.Common.{◌≡◌, ◌∙◌, ◌*◌, ap, sym, refl, ℕ, List, Some, None, option_map, option_to_list, slice_index, length, set, map, ◌++◌, [], ◌∷◌, length-set}
use Rattle.std.proofs.lemmas.Option.{none-some, same_Some}
use Rattle.mbj_core.specs.CoreStates.{CoreState}
use Rattle.mbj_core.specs.declared.cells.TheConstants.{SUBMITTER_CELLS}
use Rattle.mbj_ring.specs.declared.ring.TheConstants as ring
use Rattle.mbj_manager.specs.State.{after_submit, with_open}
use Rattle.mbj_types.specs.Result.{result_of}
use Rattle.mbj_types.specs.declared.job.Job.{Job}
use Rattle.mbj_replay.specs.Inside.Giving.{first_with}
use Rattle.mbj_replay.specs.Inside.State.{state_of}
use Rattle.mbj_replay.specs.declared.replayer.Posted.{Posted}
use Rattle.mbj_replay.specs.declared.line.ReplayLine.TheVariants as line
use Rattle.mbj_replay.proofs.Fronts.{held-at, within-cells}
use Rattle.mbj_replay.proofs.Places.{posted-at, worker-at}
use Rattle.mbj_replay.proofs.Commands.{claim-copy, claim-hand, claim-held, claim-plays, worker-hand}
use Rattle.mbj_replay.proofs.CommandLines.{claim-is, claim-state, finish-number, manager-is, no-claim-is, numbers-stay, refuted}
use Rattle.mbj_replay.proofs.replayer.Replayer.claim.Given.{Over}
use Rattle.mbj_replay.proofs.replayer.Replayer.claim.Goals as goal
use Rattle.mbj_replay.proofs.replayer.Replayer.claim.Goals.{After-take}

-- the copy that is taken is that of the job that is claimed
copied : (g : Over) (c : After-take g) → c.index_mut.result.now.copy ≡ Some c.in-Some.ensures.claimed.0.job
copied g c =
    let r = c.args.self.now in
    let z = c.index_mut.result.now in
    claim-copy g.jobs r c.claim_earliest.new.core c.party_of-party.result c.in-Some.cell z c.requires.0
    (posted-at g.jobs r c.in-Some.cell z c.requires.0 c.in-Some.ensures.within c.index_mut.ensures.value) c.in-Some.ensures.claimed.0

pub unreachable-requires : goal.unreachable-requires
unreachable-requires g c =
    none-some _ (sym c.in_default-take.is ∙ c.take.ensures.value ∙ copied g (goal.at.unreachable-requires g c).After-take)

pub finish_given-finished-requires-clause-held : goal.finish_given-finished-requires-clause-held
finish_given-finished-requires-clause-held g c =
    let r = c.args.self.now in
    let x = c.index_mut-2.result.now in
    let p = c.party_of-party.result in
    let mid = c.claim_earliest.new.core in
    let at = worker-at g.jobs r c.args.w x c.requires.0 c.requires.1.0 c.index_mut-2.ensures.value in
    let copy = same_Some _ _ (c.in-Some-take.ensures.value ∙ copied g (goal.at.finish_given-finished-requires-clause-held g c).After-take) in
    let owed = c.submit-given.ensures.owed ∙ ap (λ (j : Job). x.manager.owed ++ result_of j ∷ []) copy in
    held-at mid p c.submit-given.result
    (claim-held g.jobs r c.args.w p c.submit-given.result x c.submit-given.new.self c.requires.0 c.party_of-party.ensures at
    mid c.in-Some.cell c.in-Some.ensures.claimed.0 c.submit-given.ensures.hand owed c.stands_for_lawful_states.ensures)

pub number_at-requires : goal.number_at-requires
number_at-requires g c =
    let r = c.args.self.now in
    let x = c.index_mut-2.result.now in
    let z = c.index_mut.result.now in
    let taken : Posted = record z { copy = c.take.new.self } in
    let p = c.party_of-party.result in
    let mid = c.claim_earliest.new.core in
    let cells = c.requires.0.1.stock.cell_count in
    let at = worker-at g.jobs r c.args.w x c.requires.0 c.requires.1.0 c.index_mut-2.ensures.value in
    let copy = same_Some _ _ (c.in-Some-take.ensures.value ∙ copied g (goal.at.number_at-requires g c).After-take) in
    let owed = c.submit-given.ensures.owed ∙ ap (λ (j : Job). x.manager.owed ++ result_of j ∷ []) copy in
    let submitters : mid.submitters ≡ r.core.submitters = ap (λ (d : CoreState). d.submitters) c.in-Some.ensures.claimed.0.state in
    let count : length (set r.posted.items c.in-Some.cell taken) ≡ SUBMITTER_CELLS * mid.submitters
    = length-set r.posted.items c.in-Some.cell taken ∙ cells ∙ ap (λ n. SUBMITTER_CELLS * n) (sym submitters) in
    within-cells mid p c.submit-given.result _ c.finish_given-finished.result count c.finish_given-finished.ensures.cell
    (claim-held g.jobs r c.args.w p c.submit-given.result x c.submit-given.new.self c.requires.0 c.party_of-party.ensures at
    mid c.in-Some.cell c.in-Some.ensures.claimed.0 c.submit-given.ensures.hand owed c.stands_for_lawful_states.ensures)

pub returns-in_default-clause-told : goal.returns-in_default-clause-told
returns-in_default-clause-told g c =
    let r = c.args.self.now in
    let x = c.index.result.now in
    let at = worker-at g.jobs r c.args.w x c.requires.0 c.requires.1.0 c.index.ensures in
    no-claim-is g.jobs c.args.w c.args.s (state_of r) _ x.hand.items
    (worker-hand g.jobs r c.args.w c.party_of-party.result None x x c.requires.0 c.party_of-party.ensures at c.requires.1.0)
    (refuted c.is_full.result (length x.hand.items ≡ ring.CELLS) c.is_full.ensures.full c.if-is_full.false)
    c.in_default.ensures.none
    (ap (λ (d : CoreState). record (state_of r) { core = d }) c.in_default.ensures.same)

pub returns-clause-told : goal.returns-clause-told
returns-clause-told g c =
    let r = c.args.self.now in
    let first = c.index.result.now in
    let x = c.index_mut-2.result.now in
    let y = c.submit-given.new.self in
    let z = c.index_mut.result.now in
    let taken : Posted = record z { copy = c.take.new.self } in
    let p = c.party_of-party.result in
    let mid = c.claim_earliest.new.core in
    let claims = c.in-Some.ensures.claimed.0 in
    let at = worker-at g.jobs r c.args.w x c.requires.0 c.requires.1.0 c.index_mut-2.ensures.value in
    let at_first = worker-at g.jobs r c.args.w first c.requires.0 c.requires.1.0 c.index.ensures in
    let there = posted-at g.jobs r c.in-Some.cell z c.requires.0 c.in-Some.ensures.within c.index_mut.ensures.value in
    let copy = same_Some _ _ (c.in-Some-take.ensures.value ∙ copied g (goal.at.returns-clause-told g c).After-take) in
    let owed = c.submit-given.ensures.owed ∙ ap (λ (j : Job). x.manager.owed ++ result_of j ∷ []) copy in
    let numbers = numbers-stay r.posted.items c.in-Some.cell z taken there refl in
    claim-is g.jobs c.args.w c.args.s c.in-Some.cell claims.job (state_of r) _ x.manager first.hand.items (x.hand.items ++ c.in-Some.cell ∷ []) c.submit-given.result
    c.number_at-job.result _
    (worker-hand g.jobs r c.args.w p c.submit-given.result first y c.requires.0 c.party_of-party.ensures at_first c.requires.1.0)
    (refuted c.is_full.result (length first.hand.items ≡ ring.CELLS) c.is_full.ensures.full c.if-is_full.false)
    c.in-Some.ensures.claimed.1
    (manager-is r.workers.items c.args.w x at)
    (claim-hand g.jobs r c.args.w p c.submit-given.result x y c.requires.0 c.party_of-party.ensures at
    mid c.in-Some.cell claims c.submit-given.ensures.hand owed c.stands_for_lawful_states.ensures c.requires.1.0)
    (c.submit-given.ensures.finished ∙ ap (λ (j : Job). first_with (x.hand.items ++ c.in-Some.cell ∷ []) (after_submit (with_open x.manager j)).0) copy)
    (claim-state r mid c.finish_given-finished.new.core c.args.w p c.in-Some.cell claims.job c.submit-given.result y z taken _
    c.party_of-party.ensures claims.state c.finish_given-finished.ensures.core
    (c.submit-given.ensures.manager ∙ ap (λ (j : Job). (after_submit (with_open x.manager j)).1) copy) there refl)
    c.number_at-job.ensures
    (c.finish_line-finish.ensures ∙ ap (λ o. map (λ n. line.Finish c.args.w (Some n)) (option_to_list o))
    (c.number_at.ensures ∙ ap (λ (ns : List ℕ). option_map (λ i. slice_index ns i) c.finish_given-finished.result) numbers
    ∙ finish-number (state_of r) c.submit-given.result c.finish_given-finished.result c.finish_given-finished.ensures.cell))

pub returns-clause-playing : goal.returns-clause-playing
returns-clause-playing g c =
    let r = c.args.self.now in
    let x = c.index_mut-2.result.now in
    let z = c.index_mut.result.now in
    let taken : Posted = record z { copy = c.take.new.self } in
    let p = c.party_of-party.result in
    let mid = c.claim_earliest.new.core in
    let at = worker-at g.jobs r c.args.w x c.requires.0 c.requires.1.0 c.index_mut-2.ensures.value in
    let copy = same_Some _ _ (c.in-Some-take.ensures.value ∙ copied g (goal.at.returns-clause-playing g c).After-take) in
    let owed = c.submit-given.ensures.owed ∙ ap (λ (j : Job). x.manager.owed ++ result_of j ∷ []) copy in
    claim-plays g.jobs r c.args.w p c.submit-given.result x c.submit-given.new.self c.requires.0 c.party_of-party.ensures at
    mid c.in-Some.cell c.in-Some.ensures.claimed.0 c.submit-given.ensures.hand owed c.stands_for_lawful_states.ensures
    c.finish_given-finished.new.core taken _ _ c.finish_given-finished.ensures.core c.finish_given-finished.ensures.leads refl refl
