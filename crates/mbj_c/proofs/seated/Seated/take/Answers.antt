-- The earliest result goes with the first range.
use Rattle.std.proofs.Common.{◌≡◌, ◌∙◌, ◌+◌, ◌≤◌, ℕ, List, None, Some, ap, drop, length, subst, sym, refl, true, nat_lt}
use Rattle.mbj_types.specs.declared.done.Done.{Done}
use Rattle.mbj_core.specs.declared.party.View.{View}
use Rattle.mbj_ring.specs.Ring.{RingState}
use Rattle.mbj_types.specs.declared.job.Job.{Job}
use Rattle.mbj_front.specs.declared.front.SharedFront.{SharedFront}
use Rattle.mbj_front.specs.declared.standard.Standard.{Standard}
use Rattle.std_alloc.specs.Arc.{arc_value}
use Rattle.mbj_front.specs.Seats.{submitters_of}
use Rattle.mbj_work.specs.Parties.{part_of, IsPartyOf}
use Rattle.mbj_c.specs.declared.range.CipherRange.{CipherRange}
use Rattle.mbj_c.specs.Given.{Given}
use Rattle.mbj_c.specs.Seats.{SeatState, Collects}
use Rattle.mbj_c.specs.Inside.Seated.{AreOut}
use Rattle.mbj_c.proofs.SeatRanges.{out-fits, out-less}
use Rattle.mbj_c.proofs.seated.Seated.take.Goals as goal

pub write_done-requires-clause-range : goal.write_done-requires-clause-range
write_done-requires-clause-range c =
    let v : View Done = part_of c.self.inside.party in
    let given = c.in-Some.ensures in
    out-fits v.due v.handed c.self.inside.ranges.values c.into_parts-done.result.0 c.in-Some-pop.range c.self.invariant.jobs
    (given.result ∙ ap Some (sym c.into_parts-done.ensures)) (sym c.in-Some-pop.ensures.value)

pub invariant_of-self-2 : goal.invariant_of-self-2
invariant_of-self-2 c =
    let was = c.self.invariant in
    let v : View Done = part_of c.self.inside.party in
    let part = c.in-Some.ensures.part in
    let rest = c.in-Some-pop.ensures.rest in
    record {
      of_front = subst (λ (f : SharedFront Job Done Standard). IsPartyOf f c.collect_returned.new.self) c.deref.ensures c.collect_returned.ensures.front;
      submitter = was.submitter ∙ ap (λ (u : View Done). nat_lt u.number (submitters_of (arc_value c.self.inside.front))) (sym part);
      jobs = subst (λ (x : View Done × RingState CipherRange). AreOut (drop x.0.handed x.0.due) x.1.values)
          (λ i. (sym part i, sym rest i)) (out-less v.due v.handed c.self.inside.ranges.values was.jobs);
      closed = ap (λ (r : RingState CipherRange). r.opened) rest ∙ was.closed;
      from_cell = was.from_cell;
    }

pub returns : goal.returns
returns c =
    let v : View Done = part_of c.self.inside.party in
    let submitters : ℕ = submitters_of (arc_value c.self.inside.front) in
    let before : SeatState = record { part = v; submitters = submitters; ranges = c.self.inside.ranges.values } in
    let after : SeatState = record { part = part_of c.collect_returned.new.self; submitters = submitters; ranges = c.pop.new.self.values } in
    let part = c.in-Some.ensures.part in
    let rest = c.in-Some-pop.ensures.rest in
    let given : Given = record { done = c.into_parts-done.result.0; range = c.in-Some-pop.range } in
    let collects : Collects (Some given) before after = (
      c.in-Some.ensures.result ∙ ap Some (sym c.into_parts-done.ensures),
      sym c.in-Some-pop.ensures.value,
      (λ i. record { part = part i; submitters = submitters; ranges = (rest i).values }),
    ) in
    (Some given, (subst (λ (s : SeatState). Collects (Some given) s after) c.self.view_is collects, (refl, c.write_done.ensures)))
