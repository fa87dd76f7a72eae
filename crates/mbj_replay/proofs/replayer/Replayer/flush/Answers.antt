-- By the law of the front, the first cell of the hand is the one whose result comes.
use Rattle.std.proofs.Common.{◌∙◌, refl, length}
use Rattle.mbj_replay.proofs.Fronts.{held-at, within-cells}
use Rattle.mbj_replay.proofs.Places.{worker-at}
use Rattle.mbj_replay.proofs.Commands.{flush-held, flush-plays, worker-hand}
use Rattle.mbj_replay.proofs.CommandLines.{finish-number, flush-is, flush-state, manager-is}
use Rattle.mbj_replay.specs.Inside.State.{state_of}
use Rattle.mbj_replay.proofs.replayer.Replayer.flush.Goals as goal

pub finish_given-finished-requires-clause-held : goal.finish_given-finished-requires-clause-held
finish_given-finished-requires-clause-held g c =
    let r = c.args.self.now in
    let x = c.index_mut.result.now in
    let at = worker-at g.jobs r c.args.w x c.requires.0 c.requires.1 c.index_mut.ensures.value in
    held-at r.core c.party_of-party.result c.flush-given.result
    (flush-held g.jobs r c.args.w c.party_of-party.result c.flush-given.result x c.flush-given.new.self c.requires.0 c.party_of-party.ensures at
    c.flush-given.ensures.hand c.flush-given.ensures.owed c.stands_for_lawful_states.ensures)

pub number_at-job-requires : goal.number_at-job-requires
number_at-job-requires g c =
    let r = c.args.self.now in
    let x = c.index_mut.result.now in
    let at = worker-at g.jobs r c.args.w x c.requires.0 c.requires.1 c.index_mut.ensures.value in
    within-cells r.core c.party_of-party.result c.flush-given.result (length r.posted.items) c.finish_given-finished.result
    c.requires.0.1.stock.cell_count c.finish_given-finished.ensures.cell
    (flush-held g.jobs r c.args.w c.party_of-party.result c.flush-given.result x c.flush-given.new.self c.requires.0 c.party_of-party.ensures at
    c.flush-given.ensures.hand c.flush-given.ensures.owed c.stands_for_lawful_states.ensures)

pub returns-clause-told : goal.returns-clause-told
returns-clause-told g c =
    let r = c.args.self.now in
    let x = c.index_mut.result.now in
    let at = worker-at g.jobs r c.args.w x c.requires.0 c.requires.1 c.index_mut.ensures.value in
    flush-is g.jobs c.args.w (state_of r) _ x.manager x.hand.items c.flush-given.result c.number_at-job.result
    (manager-is r.workers.items c.args.w x at)
    (worker-hand g.jobs r c.args.w c.party_of-party.result c.flush-given.result x c.flush-given.new.self c.requires.0 c.party_of-party.ensures at c.requires.1)
    c.flush-given.ensures.finished
    (flush-state r c.finish_given-finished.new.core c.args.w c.party_of-party.result c.flush-given.result c.flush-given.new.self _
    c.party_of-party.ensures c.finish_given-finished.ensures.core c.flush-given.ensures.manager)
    (c.number_at-job.ensures ∙ finish-number (state_of r) c.flush-given.result c.finish_given-finished.result c.finish_given-finished.ensures.cell)

pub returns-clause-playing : goal.returns-clause-playing
returns-clause-playing g c =
    let r = c.args.self.now in
    let x = c.index_mut.result.now in
    let at = worker-at g.jobs r c.args.w x c.requires.0 c.requires.1 c.index_mut.ensures.value in
    flush-plays g.jobs r c.args.w c.party_of-party.result c.flush-given.result x c.flush-given.new.self c.requires.0 c.party_of-party.ensures at
    c.flush-given.ensures.hand c.flush-given.ensures.owed c.stands_for_lawful_states.ensures c.finish_given-finished.new.core _
    c.finish_given-finished.ensures.core c.finish_given-finished.ensures.leads refl
