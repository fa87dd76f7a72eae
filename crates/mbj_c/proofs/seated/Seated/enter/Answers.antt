-- One job more is due, and its range is the last.
use Rattle.std.proofs.Common.{◌≡◌, ◌∙◌, ◌++◌, ◌∷◌, [], ℕ, List, ap, ap₂, drop, length, subst, sym, arith, nat_lt}
use Rattle.mbj_types.specs.declared.done.Done.{Done}
use Rattle.mbj_types.specs.Result.{result_of}
use Rattle.mbj_core.specs.declared.party.View.{View}
use Rattle.mbj_types.specs.declared.job.Job.{Job}
use Rattle.mbj_front.specs.declared.front.SharedFront.{SharedFront}
use Rattle.mbj_front.specs.declared.standard.Standard.{Standard}
use Rattle.std_alloc.specs.Arc.{arc_value}
use Rattle.mbj_front.specs.Seats.{submitters_of}
use Rattle.mbj_work.specs.Parties.{part_of, IsPartyOf}
use Rattle.mbj_c.specs.declared.range.CipherRange.{CipherRange}
use Rattle.mbj_c.specs.Inside.Seated.{AreOut}
use Rattle.mbj_c.specs.Ranges.{given_range}
use Rattle.mbj_c.proofs.SeatRanges.{out-more}
use Rattle.mbj_c.proofs.seated.Seated.enter.Goals as goal

pub invariant_of-self : goal.invariant_of-self
invariant_of-self c =
    let was = c.self.invariant in
    let v : View Done = part_of c.self.inside.party in
    let part = c.post.ensures.part in
    let few = c.self.inside.party.seat.keeps.out_is in
    record {
      of_front = subst (λ (f : SharedFront Job Done Standard). IsPartyOf f c.post.new.party) c.deref.ensures c.post.ensures.front;
      submitter = was.submitter ∙ ap (λ (u : View Done). nat_lt u.number (submitters_of (arc_value c.self.inside.front))) (sym part);
      jobs = subst (λ (x : View Done × List CipherRange). AreOut (drop x.0.handed x.0.due) x.1)
          (λ i. (sym part i, sym (c.put_last.ensures.values ∙ ap (λ r. c.self.inside.ranges.values ++ r ∷ []) c.requires.range) i))
          (out-more v.due v.handed c.self.inside.ranges.values c.args.job (omega (arith, few)) was.jobs);
      closed = c.put_last.ensures.closed;
      from_cell = was.from_cell;
    }
