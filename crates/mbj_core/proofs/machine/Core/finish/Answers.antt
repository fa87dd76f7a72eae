use Rattle.mbj_core.proofs.Fields.{after_finish}
use Rattle.mbj_core.proofs.machine.Core.finish.Goals as goal

pub invariant_of-self : goal.invariant_of-self
invariant_of-self c =
    let is = c.self.invariant in
    let near = rw (← c.self.view_is) at c.requires.party in let held = rw (← c.self.view_is) at c.requires.held in record {
      some_submitter = is.some_submitter;
      submitters = is.submitters;
      workers = is.workers;
      cells = is.cells;
      hands = is.hands;
      outs = is.outs;
      each_first = is.each_first;
      each_out = is.each_out;
      backed = rw c.put.ensures (after_finish c.self.inside is c.args.p c.args.cell c.args.done c.index_mut.result.now c.take_out.new.self near held c.index_mut.ensures.value c.take_out.ensures).1;
    }

pub returns-clause-finished : goal.returns-clause-finished
returns-clause-finished c =
    let near = rw (← c.self.view_is) at c.requires.party in let held = rw (← c.self.view_is) at c.requires.held in
    rw (← c.self.view_is, c.put.ensures) (after_finish c.self.inside c.self.invariant c.args.p c.args.cell c.args.done c.index_mut.result.now c.take_out.new.self near held c.index_mut.ensures.value c.take_out.ensures).0

pub returns-clause-leads : goal.returns-clause-leads
returns-clause-leads c =
    let near = rw (← c.self.view_is) at c.requires.party in let held = rw (← c.self.view_is) at c.requires.held in
    rw (← c.self.view_is, c.put.ensures) (after_finish c.self.inside c.self.invariant c.args.p c.args.cell c.args.done c.index_mut.result.now c.take_out.new.self near held c.index_mut.ensures.value c.take_out.ensures).2
