-- Each collect has the room of the place that the next result has.
use Rattle.std.proofs.Common.{◌≡◌, ℕ, arith, length, subst, sym}
use Rattle.std.proofs.lemmas.Option.{slice_get-get_or}
use Rattle.mbj_c.specs.declared.bursts.RawBurst.{RawBurst}
use Rattle.mbj_c.specs.SeatBursts.{CollectAll}
use Rattle.mbj_c.proofs.SeatBursting.{AreCollected, collected-next, none-collected}
use Rattle.mbj_c.proofs.seat_bursts.collect.Goals as goal

pub collecting-init : goal.collecting-init
collecting-init c =
    subst (λ (returned : RawBurst). AreCollected 0 c.args.handle.now.seat c.args.outs.now returned c.args.outs.now c.args.handle.now.seat)
    (sym c.new.ensures) (none-collected c.args.outs.now c.args.handle.now.seat)

pub collecting-preserved : goal.collecting-preserved
collecting-preserved c =
    let answer = c.collect_next.ensures in
    collected-next c.collecting.turn c.args.handle.now.seat c.args.outs.now c.collecting.outs c.collecting.returned c.collect_next.new.returned
    c.collecting.handle.seat c.collect_next.new.handle.seat _ c.collect_next.new.out answer.0 c.collecting.invariant
    (slice_get-get_or c.collecting.outs c.collecting.returned.given _
    (omega (arith, c.collecting.invariant.given, c.collecting-test.true, c.collecting.auto.outs)))
    answer.1.0 answer.1.1

pub returns : goal.returns
returns c =
    let was = c.collecting.invariant in
    let all : c.collecting.turn ≡ length c.args.outs.now = omega (arith, c.collecting-test.false, c.collecting.auto.turn-end) in
    record {
      calls = was.calls;
      made = subst (λ (n : ℕ). CollectAll n c.args.outs.now c.args.handle.now.seat was.calls) all was.are;
      state = was.state;
      is_returned = was.is_returned;
    }
