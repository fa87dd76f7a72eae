-- Each turn is a submission of the first open job.
use Rattle.std.proofs.Common.{◌+◌, ◌-◌, Option, length, replicate, ap, sym, ◌∙◌, arith, length-append, length-drop}
use Rattle.std.specs.Prelude.{option_to_list}
use Rattle.mbj_types.specs.declared.done.Done.{Done}
use Rattle.mbj_manager.specs.State.{ManagerState}
use Rattle.mbj_manager.specs.Calls as calls
use Rattle.mbj_manager.proofs.Submissions.{submits-order, submits-others}
use Rattle.mbj_manager.proofs.Turns.{one-at-most, submits, turns-end, turns-step}
use Rattle.mbj_manager.proofs.manager.Manager.submit_burst.Goals as goal

pub submitting-preserved : goal.submitting-preserved
submitting-preserved c =
    let i = c.submitting.invariant in
    let h = c.submitting.self in
    let n = c.args.n in
    let t = c.submitting.turn in
    let out = c.submitting.out.items in
    let given = c.submit-given.result in
    let is = submits h.opened h (omega (arith, i.are_open, c.submitting-test.true)) in
    record {
      turns = turns-step calls.submit (n - t) (n - (t + 1)) n h c.submit-given.new.self c.args.self.now given out c.keep-count.new.out.items c.args.out.now.items
          (omega (arith, c.submitting-test.true)) (c.submit-given.ensures.result ∙ ap (λ (r : Option Done × ManagerState). r.0) (sym is))
          (c.submit-given.ensures.state ∙ ap (λ (r : Option Done × ManagerState). r.1) (sym is)) c.keep-count.ensures.results i.turns;
      are_open = omega (arith, i.are_open, c.submitting-test.true, ap length c.submit-given.ensures.others, length-drop 1 h.opened);
      counted = omega (arith, i.counted, ap length c.keep-count.ensures.results, length-append out (option_to_list given), c.keep-count.ensures.count);
      few = omega (arith, i.few, c.keep-count.ensures.count, one-at-most given);
      room = c.keep-count.ensures.room ∙ i.room;
    }

pub returns-clause-state : goal.returns-clause-state
returns-clause-state c =
    (turns-end calls.submit (c.args.n - c.submitting.turn) c.args.n c.submitting.self c.args.self.now c.submitting.out.items c.args.out.now.items
    (omega (arith, c.submitting-test.false)) c.submitting.invariant.turns).0

pub returns-clause-results : goal.returns-clause-results
returns-clause-results c =
    (turns-end calls.submit (c.args.n - c.submitting.turn) c.args.n c.submitting.self c.args.self.now c.submitting.out.items c.args.out.now.items
    (omega (arith, c.submitting-test.false)) c.submitting.invariant.turns).1

pub returns-clause-count : goal.returns-clause-count
returns-clause-count c =
    omega (
      arith,
      c.submitting.invariant.counted,
      ap length (returns-clause-results c),
      length-append c.args.out.now.items (calls.given_back (replicate c.args.n calls.submit) c.args.self.now),
    )

pub returns-clause-order : goal.returns-clause-order
returns-clause-order c =
    submits-order c.args.n c.args.self.now c.submitting.self c.args.out.now.items c.submitting.out.items (returns-clause-state c) (returns-clause-results c)

pub returns-clause-others : goal.returns-clause-others
returns-clause-others c =
    ap (λ (h : ManagerState). h.opened) (returns-clause-state c) ∙ submits-others c.args.n c.args.self.now
