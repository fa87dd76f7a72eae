-- What is looked at before a collect is what it is refused for.
use Rattle.std.proofs.Common.{◌≡◌, ◌∙◌, Ok, Option, ap, false, refl, slice_get, subst, sym, true}
use Rattle.std_alloc.specs.Arc.{arc_value}
use Rattle.mbj_ring.specs.Ring.{RingState}
use Rattle.mbj_front.specs.Seats.{submitters_of}
use Rattle.mbj_work.specs.Parties.{part_of}
use Rattle.mbj_c.specs.declared.range.CipherRange.{CipherRange}
use Rattle.mbj_c.specs.Given.{Given}
use Rattle.mbj_c.specs.Giving.{IsReturnedAt, has_room_for}
use Rattle.mbj_c.specs.Seats.{Collects, SeatState, is_submitter}
use Rattle.mbj_c.proofs.SeatAnswers.{collects-returned, refused-room, refused-worker}
use Rattle.mbj_c.proofs.seated.Seated.collect.Goals as goal

pub returns-then-not-self : goal.returns-then-not-self
returns-then-not-self c =
    let works : is_submitter c.args.self.now ≡ false =
    subst (λ (s : SeatState). is_submitter s ≡ false) c.self.view_is (sym c.self.invariant.submitter ∙ c.if-not-self.true) in
    refused-worker c.args.self.now c.args.self.now c.code.result c.args.out.now works refl c.code.ensures

pub returns-then-not-has_room : goal.returns-then-not-has_room
returns-then-not-has_room c =
    let ranges = c.self.inside.ranges in
    let at : RingState CipherRange → SeatState = λ r. record {
      part = part_of c.self.inside.party;
      submitters = submitters_of (arc_value c.self.inside.front);
      ranges = r.values;
    } in
    let submits : is_submitter c.args.self.now ≡ true =
    subst (λ (s : SeatState). is_submitter s ≡ true) c.self.view_is (sym c.self.invariant.submitter ∙ c.if-not-self.false) in
    let lacks : has_room_for (slice_get c.args.self.now.ranges 0) c.args.out.now ≡ false =
    subst (λ (s : SeatState). has_room_for (slice_get s.ranges 0) c.args.out.now ≡ false) c.self.view_is
    (ap (λ (r : Option CipherRange). has_room_for r c.args.out.now) (sym c.first_of.ensures.first) ∙ sym c.has_room.ensures ∙ c.if-not-has_room.true) in
    refused-room c.args.self.now (at c.first_of.new.ranges) c.code-then-not-has_room.result c.args.out.now submits lacks
    (ap at c.first_of.ensures.same ∙ c.self.view_is) c.code-then-not-has_room.ensures

pub returns : goal.returns
returns c =
    let submits : is_submitter c.args.self.now ≡ true =
    subst (λ (s : SeatState). is_submitter s ≡ true) c.self.view_is (sym c.self.invariant.submitter ∙ c.if-not-self.false) in
    let room : has_room_for (slice_get c.args.self.now.ranges 0) c.args.out.now ≡ true =
    subst (λ (s : SeatState). has_room_for (slice_get s.ranges 0) c.args.out.now ≡ true) c.self.view_is
    (ap (λ (r : Option CipherRange). has_room_for r c.args.out.now) (sym c.first_of.ensures.first) ∙ sym c.has_room.ensures ∙ c.if-not-has_room.false) in
    let at : RingState CipherRange → SeatState = λ r. record {
      part = part_of c.self.inside.party;
      submitters = submitters_of (arc_value c.self.inside.front);
      ranges = r.values;
    } in
    let same : at c.first_of.new.ranges ≡ c.args.self.now = ap at c.first_of.ensures.same ∙ c.self.view_is in
    collects-returned c.args.self.now c.take.new.self c.take.result c.args.out.now c.take.new.out submits room
    (subst (λ (s : SeatState). (given : Option Given) × (Collects given s c.take.new.self × IsReturnedAt (Ok given) c.take.result c.args.out.now c.take.new.out))
    same c.take.ensures)
