use Rattle.std.proofs.Common.{◌<◌, ◌≤◌, ◌∙◌, sym, subst, arith, inl, inr}
use Rattle.std.proofs.lemmas.List.Elements.{All-set}
use Rattle.mbj_core.specs.declared.cells.TheConstants.{SUBMITTER_CELLS}
use Rattle.mbj_core.specs.declared.machine.JobsOut.{JobsOut}
use Rattle.mbj_core.specs.Inside.Fields.{state_of}
use Rattle.mbj_core.specs.Stands.{IsBacked}
use Rattle.mbj_core.proofs.Calls.{vain_collects_lead}
use Rattle.mbj_core.proofs.Fields.{after_collect, unchanged, undone, done_read, count_read, one_less, out_within, sizes_of}
use Rattle.mbj_core.proofs.machine.Core.collect.Goals as goal

pub returns-then-out-eq0-clause-leads : goal.returns-then-out-eq0-clause-leads
returns-then-out-eq0-clause-leads c =
    let a = c.self.inside in let is = c.self.invariant in
    let near = rw (← c.self.view_is) at c.requires.submitter in
    rw (← c.self.view_is) (vain_collects_lead (state_of a) (sizes_of a is) is.backed c.args.s near
    (inl (sym (count_read a is c.args.s c.index-out.result.now near c.index-out.ensures) ∙ c.if-out-eq0.true)))

pub invariant_of-self : goal.invariant_of-self
invariant_of-self c =
    let is = c.self.invariant in record {
      some_submitter = is.some_submitter;
      submitters = is.submitters;
      workers = is.workers;
      cells = is.cells;
      hands = is.hands;
      outs = is.outs;
      each_first = is.each_first;
      each_out = is.each_out;
      backed = subst IsBacked (sym (unchanged c.self.inside is c.cell_at-at.result c.index_mut.result.now c.take_done.new.self c.index_mut.ensures.value (c.in_err-done.ensures {u = tt}).1)) is.backed;
    }

pub returns-in_err-done-clause-none : goal.returns-in_err-done-clause-none
returns-in_err-done-clause-none c =
    let near = rw (← c.self.view_is) at c.requires.submitter in
    rw (c.from_residual.ensures, ← c.self.view_is)
    (inr (undone c.self.inside c.self.invariant c.args.s c.cell_at-at.result c.index-out.result.now c.index_mut.result.now near
    c.cell_at-at.ensures c.index-out.ensures c.index_mut.ensures.value (c.in_err-done.ensures {u = tt}).0))

pub returns-in_err-done-clause-leads : goal.returns-in_err-done-clause-leads
returns-in_err-done-clause-leads c =
    let a = c.self.inside in let is = c.self.invariant in
    let near = rw (← c.self.view_is) at c.requires.submitter in
    rw (c.from_residual.ensures, ← c.self.view_is, unchanged a is c.cell_at-at.result c.index_mut.result.now c.take_done.new.self c.index_mut.ensures.value (c.in_err-done.ensures {u = tt}).1)
    (vain_collects_lead (state_of a) (sizes_of a is) is.backed c.args.s near
    (inr (undone a is c.args.s c.cell_at-at.result c.index-out.result.now c.index_mut.result.now near
    c.cell_at-at.ensures c.index-out.ensures c.index_mut.ensures.value (c.in_err-done.ensures {u = tt}).0)))

pub invariant_of-self-2 : goal.invariant_of-self-2
invariant_of-self-2 c =
    let a = c.self.inside in let is = c.self.invariant in let s = c.args.s in let out = c.index-out.result.now in
    let near = rw (← c.self.view_is) at c.requires.submitter in
    let count_is = count_read a is s out near c.index-out.ensures in let most = out_within a is s near in record {
      some_submitter = is.some_submitter;
      submitters = is.submitters;
      workers = is.workers;
      cells = is.cells;
      hands = is.hands;
      outs = is.outs;
      each_first = All-set (λ (o : JobsOut). o.first < SUBMITTER_CELLS) a.outs.items s (one_less out) (omega arith) is.each_first;
      each_out = All-set (λ (o : JobsOut). o.count ≤ SUBMITTER_CELLS) a.outs.items s (one_less out) (omega arith) is.each_out;
      backed = (after_collect a is s c.cell_at-at.result out c.in_ok-done.done c.index_mut.result.now c.take_done.new.self near
          c.cell_at-at.ensures c.index-out.ensures c.if-out-eq0.false c.index_mut.ensures.value c.in_ok-done.ensures.0 c.in_ok-done.ensures.1).1;
    }

pub returns-clause-some_out : goal.returns-clause-some_out
returns-clause-some_out c =
    let near = rw (← c.self.view_is) at c.requires.submitter in
    rw (← c.self.view_is) (λ e. c.if-out-eq0.false (count_read c.self.inside c.self.invariant c.args.s c.index-out.result.now near c.index-out.ensures ∙ e))

pub returns-clause-done : goal.returns-clause-done
returns-clause-done c =
    let near = rw (← c.self.view_is) at c.requires.submitter in
    rw (← c.self.view_is) (done_read c.self.inside c.self.invariant c.args.s c.cell_at-at.result c.index-out.result.now
    c.in_ok-done.done c.index_mut.result.now near c.cell_at-at.ensures c.index-out.ensures c.index_mut.ensures.value c.in_ok-done.ensures.0)

pub returns-clause-collected : goal.returns-clause-collected
returns-clause-collected c =
    let near = rw (← c.self.view_is) at c.requires.submitter in
    rw (← c.self.view_is) (after_collect c.self.inside c.self.invariant c.args.s c.cell_at-at.result c.index-out.result.now
    c.in_ok-done.done c.index_mut.result.now c.take_done.new.self near
    c.cell_at-at.ensures c.index-out.ensures c.if-out-eq0.false c.index_mut.ensures.value c.in_ok-done.ensures.0 c.in_ok-done.ensures.1).0

pub returns-clause-leads : goal.returns-clause-leads
returns-clause-leads c =
    let near = rw (← c.self.view_is) at c.requires.submitter in
    rw (← c.self.view_is) (after_collect c.self.inside c.self.invariant c.args.s c.cell_at-at.result c.index-out.result.now
    c.in_ok-done.done c.index_mut.result.now c.take_done.new.self near
    c.cell_at-at.ensures c.index-out.ensures c.if-out-eq0.false c.index_mut.ensures.value c.in_ok-done.ensures.0 c.in_ok-done.ensures.1).2
