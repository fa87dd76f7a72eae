use Rattle.std.proofs.Common.{◌≡◌, ◌+◌, ◌<◌, ◌++◌, ℕ, List, length, drop, ap, sym, subst, ◌∙◌, arith}
use Rattle.mbj_types.specs.declared.done.Done.{Done}
use Rattle.mbj_front.specs.Seats.{view_of, submitters_of}
use Rattle.mbj_work.proofs.Endless.{never_none}
use Rattle.mbj_work.proofs.Collecting.{due_still, given_on, submits_still}
use Rattle.mbj_work.proofs.party.Party.collect_down_to.Goals as goal
use Rattle.mbj_work.proofs.party.Party.collect_down_to.Goals.{in-None, in-Some+then-out-left}

pub loop-preserved-in-Some-collect_at : goal.loop-preserved-in-Some-collect_at
loop-preserved-in-Some-collect_at g c =
    let was = c.loop.invariant in let told = c.in-Some-collect_at.ensures in let pushed = c.push_reserved.ensures in
    let v = view_of c.loop.self.seat in let w = view_of c.collect_at.new.self.seat in
    let due : w.due ≡ v.due = ap (λ u. u.due) told.part in
    let handed : w.handed ≡ v.handed + 1 = ap (λ u. u.handed) told.part in record {
      next = tt;
      finite = tt;
      front = told.front;
      number = ap (λ u. u.number) told.part ∙ was.number;
      due = due ∙ was.due;
      results = given_on c.loop.results.items c.push_reserved.new.self.items v.due w.due v.handed w.handed c.in-Some-collect_at.done
          told.result handed pushed.items due ∙ was.results;
      room = omega (arith, pushed.len, pushed.capacity, was.room, c.loop.self.seat.keeps.out_is, c.collect_at.new.self.seat.keeps.out_is, handed, ap length due);
      capacity = pushed.capacity ∙ was.capacity;
    }

pub wait-requires-clause-front : goal.wait-requires-clause-front
wait-requires-clause-front g c = c.collect_at.ensures.front

pub wait-requires-clause-submitter : goal.wait-requires-clause-submitter
wait-requires-clause-submitter g c =
    let v = view_of c.loop.self.seat in let w = view_of c.collect_at.new.self.seat in
    let still = due_still v w c.in-None-collect_at.ensures.part in
    let is : v.number < c.loop.self.seat.inner.me.0.submitters = submits_still v.number _ c.out.result c.args.left c.out.ensures.worker c.if-out-left.false in
    subst (λ (n : ℕ). n < submitters_of c.args.front.now) (sym still.0) (subst (λ (n : ℕ). v.number < n) c.loop.invariant.front.1 is)

pub loop-preserved : goal.loop-preserved
loop-preserved g c =
    let was = c.loop.invariant in let kept = c.wait.ensures.due in
    let v = view_of c.loop.self.seat in let w = view_of c.wait.new.self.seat in
    let still = due_still v (view_of c.collect_at.new.self.seat) c.in-None-collect_at.ensures.part in
    let due : w.due ≡ v.due = kept.2 ∙ still.1 in
    let handed : w.handed ≡ v.handed = kept.3 ∙ still.2 in record {
      next = tt;
      finite = tt;
      front = c.wait.ensures.front;
      number = kept.0 ∙ still.0 ∙ was.number;
      due = due ∙ was.due;
      results = ap (λ (p : ℕ × List Done). c.loop.results.items ++ drop p.0 p.1) (λ i. (handed i, due i)) ∙ was.results;
      room = omega (arith, was.room, c.loop.self.seat.keeps.out_is, c.wait.new.self.seat.keeps.out_is, handed, ap length due);
      capacity = was.capacity;
    }

pub push_reserved-requires : goal.push_reserved-requires
push_reserved-requires g c = omega (arith, c.loop.invariant.room, c.out.ensures.out, c.loop.self.seat.keeps.out_is, c.if-out-left.false)

pub returns-clause-left : goal.returns-clause-left
returns-clause-left g c = elim c.match-next.branch [
  | in-None b ↦ absurd (never_none c.next.result c.next.ensures.steps b.in-None.is)
  | in-Some+then-out-left b ↦ omega (arith, b.out.ensures.out, b.if-out-left.true)
]

pub returns-clause-front : goal.returns-clause-front
returns-clause-front g c = c.loop.invariant.front

pub returns-clause-number : goal.returns-clause-number
returns-clause-number g c = c.loop.invariant.number

pub returns-clause-due : goal.returns-clause-due
returns-clause-due g c = c.loop.invariant.due

pub returns-clause-results : goal.returns-clause-results
returns-clause-results g c = c.loop.invariant.results

pub returns-clause-room : goal.returns-clause-room
returns-clause-room g c = c.loop.invariant.capacity
