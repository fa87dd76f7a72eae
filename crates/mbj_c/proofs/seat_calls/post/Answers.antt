-- The handle has what the seat's own post left.
use Rattle.std.proofs.Common.{◌≡◌, Option, Some, subst, sym}
use Rattle.mbj_c.specs.Inside.Answers.{IsDone}
use Rattle.mbj_c.specs.Seats.{SeatState, posted, posted_in}
use Rattle.mbj_c.proofs.Answered.{done-some}
use Rattle.mbj_c.proofs.seat_calls.post.Goals as goal

pub returns : goal.returns
returns c =
    let k : SeatState = c.in-Some.seat.value in
    let after : SeatState = c.post-answer.new.self in
    let want = posted_in c.args.raw.now k in
    let same : c.deref_mut.result.now ≡ k = c.deref_mut.ensures.value in
    let done : IsDone want k c.post-answer.result after =
    subst (λ (m : SeatState). IsDone (posted_in c.args.raw.now m) m c.post-answer.result after) same c.post-answer.ensures in
    subst (λ (m : Option SeatState). IsDone (posted c.args.raw.now m) m c.post-answer.result c.put.new.self.seat)
    c.in-Some.ensures.seat
    (subst (λ (m : Option SeatState). IsDone (posted c.args.raw.now (Some k)) (Some k) c.post-answer.result m) (sym c.put.ensures)
    (done-some want.0 want.1 k c.post-answer.result after done))
