-- A job was taken back, and the calls that are left are one fewer.
use Rattle.std.proofs.Common.{◌≡◌, ◌∙◌, ◌+◌, ◌++◌, ap, sym, subst, List, if◌then◌else◌, Bool}
use Rattle.mbj_trace.specs.Trace.{Tracing, traced, take_told}
use Rattle.mbj_trace.specs.Inside.State.{jobs_in, state_of}
use Rattle.mbj_trace.specs.declared.line.TraceLine.{TraceLine}
use Rattle.mbj_trace.proofs.TraceLines.{rest-taken}
use Rattle.mbj_trace.proofs.tracer.Tracer.take_all.Goals as goal

pub taking-preserved : goal.taking-preserved
taking-preserved c =
    let old : Tracing = state_of c.taking.self in
    let new : Tracing = state_of c.take.new.self in
    let is : new ≡ (take_told c.args.how old).1 = c.in_ok-take.ensures.state in
    let one : (take_told c.args.how old).1.given ≡ old.given + 1
    = ap (λ (t : Tracing). t.given) (sym is) ∙ c.in_ok-take.ensures.taken ∙ ap (λ (b : Bool). if b then old.given + 1 else old.given) c.if-branch.true in
    let same : jobs_in (take_told c.args.how old).1 ≡ jobs_in old = subst (λ (t : Tracing). jobs_in t ≡ jobs_in old) is c.in_ok-take.ensures.count in
    let rest = rest-taken c.args.how old c.taking.self.lines.items one same in
    record {
      lines = ap (λ (t : Tracing). c.take.new.self.lines.items ++ (traced c.args.how t).0) is
          ∙ ap (λ (ls : List TraceLine). ls ++ (traced c.args.how (take_told c.args.how old).1).0) c.in_ok-take.ensures.lines
          ∙ rest.0 ∙ c.taking.invariant.lines;
      state = ap (λ (t : Tracing). (traced c.args.how t).1) is ∙ rest.1 ∙ c.taking.invariant.state;
      count = c.in_ok-take.ensures.count ∙ c.taking.invariant.count;
    }
