use Rattle.std.proofs.Common.{◌≡◌, ◌<◌, ◌≤◌, arith}
use Rattle.std.proofs.lemmas.List.Elements.{All-set}
use Rattle.mbj_core.specs.CoreStates.{out_of}
use Rattle.mbj_core.specs.declared.cells.TheConstants.{SUBMITTER_CELLS}
use Rattle.mbj_core.specs.declared.machine.JobsOut.{JobsOut}
use Rattle.mbj_core.proofs.Fields.{after_post, count_read, first_within, one_more, out_within}
use Rattle.mbj_core.proofs.machine.Core.post.Goals as goal

pub invariant_of-self : goal.invariant_of-self
invariant_of-self c =
    let a = c.self.inside in let is = c.self.invariant in let s = c.args.s in let out = c.index-out.result.now in
    let near = rw (← c.self.view_is) at c.requires.submitter in
    let all_but = c.if-out-eq-SUBMITTER_CELLS.false in
    let count_is = count_read a is s out near c.index-out.ensures in let most = out_within a is s near in record {
      some_submitter = is.some_submitter;
      submitters = is.submitters;
      workers = is.workers;
      cells = is.cells;
      hands = is.hands;
      outs = is.outs;
      each_first = All-set (λ (o : JobsOut). o.first < SUBMITTER_CELLS) a.outs.items s (one_more out)
          (first_within a is s out near c.index-out.ensures) is.each_first;
      each_out = All-set (λ (o : JobsOut). o.count ≤ SUBMITTER_CELLS) a.outs.items s (one_more out) (omega arith) is.each_out;
      backed = rw c.put.ensures (after_post a is s c.cell_at-next.result out c.args.job near c.cell_at-next.ensures c.index-out.ensures c.if-out-eq-SUBMITTER_CELLS.false).1;
    }

pub returns-clause-posted : goal.returns-clause-posted
returns-clause-posted c =
    let near = rw (← c.self.view_is) at c.requires.submitter in
    rw (← c.self.view_is, c.put.ensures) (after_post c.self.inside c.self.invariant c.args.s c.cell_at-next.result c.index-out.result.now c.args.job near
    c.cell_at-next.ensures c.index-out.ensures c.if-out-eq-SUBMITTER_CELLS.false).0

pub returns-clause-leads : goal.returns-clause-leads
returns-clause-leads c =
    let near = rw (← c.self.view_is) at c.requires.submitter in
    rw (← c.self.view_is, c.put.ensures) (after_post c.self.inside c.self.invariant c.args.s c.cell_at-next.result c.index-out.result.now c.args.job near
    c.cell_at-next.ensures c.index-out.ensures c.if-out-eq-SUBMITTER_CELLS.false).2

pub returns-clause-full : goal.returns-clause-full
returns-clause-full c =
    let near = rw (← c.self.view_is) at c.requires.submitter in let out = c.index-out.result.now in
    let count_is : out.count ≡ out_of c.args.self.now c.args.s = rw (← c.self.view_is) (count_read c.self.inside c.self.invariant c.args.s out near c.index-out.ensures) in
    (λ no. cc, λ full. absurd (omega arith))
