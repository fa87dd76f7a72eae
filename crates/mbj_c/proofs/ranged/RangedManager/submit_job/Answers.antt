-- If the job is filled, what is returned is what the submission returns; else why it isn't filled.
use Rattle.std.proofs.Common.{◌≡◌, ◌<◌, ◌∙◌, ap, false, length, slice_get, subst, sym, true}
use Rattle.std.proofs.lemmas.Bool.{lt-ltb}
use Rattle.mbj_c.specs.declared.giving.Call.TheVariants as call
use Rattle.mbj_c.specs.Filling.{filled_at}
use Rattle.mbj_c.specs.Giving.{gone, has_job, has_room_for}
use Rattle.mbj_c.specs.State.{RangedState}
use Rattle.mbj_c.proofs.Called.{called-done, called-without-room}
use Rattle.mbj_c.proofs.Refused.{at-for-another}
use Rattle.mbj_c.proofs.Submitting.{submitted-filled, submitted-unfilled}
use Rattle.mbj_c.proofs.ranged.RangedManager.submit_job.Goals as goal

pub give_first-requires : goal.give_first-requires
give_first-requires c =
    let went : c.make.new.self ≡ gone call.Submit c.fill.new.self = c.make.ensures.state ∙ ap (gone call.Submit) c.has_room.ensures.same in
    record {
      room = subst (λ (k : RangedState). has_room_for (slice_get k.ranges 0) c.args.out.now ≡ true) (sym went)
          (sym c.has_room.ensures.room ∙ c.if-not-has_room.false);
    }

pub returns : goal.returns
returns c =
    let want = filled_at 0 c.args.raw.now c.args.self.now in
    let k : RangedState = c.fill.new.self in
    let called = called-done call.Submit k c.make.new.self c.give_first.new.self c.give_first.result c.args.out.now c.give_first.new.out
    (lt-ltb 0 (length k.manager.opened) c.in-Ok.ensures.open) (sym c.has_room.ensures.room ∙ c.if-not-has_room.false)
    (c.make.ensures.state ∙ ap (gone call.Submit) c.has_room.ensures.same) c.give_first.ensures.returned c.give_first.ensures.state in
    submitted-filled want.0 want.1 c.args.self.now k c.give_first.new.self c.give_first.result 0 c.args.out.now c.give_first.new.out
    c.in-Ok.ensures.done called.state called.returned

pub returns-in-Err : goal.returns-in-Err
returns-in-Err c =
    let want = filled_at 0 c.args.raw.now c.args.self.now in
    submitted-unfilled want.0 want.1 c.args.self.now c.fill.new.self c.in-Err.why c.code.result c.args.out.now c.in-Err.ensures.done
    (at-for-another 0 c.args.raw.now c.args.self.now) c.code.ensures

pub returns-then-not-has_room : goal.returns-then-not-has_room
returns-then-not-has_room c =
    let want = filled_at 0 c.args.raw.now c.args.self.now in
    let k : RangedState = c.fill.new.self in
    let code = c.code-then-not-has_room.result in
    let called = called-without-room call.Submit k c.has_room.new.self code c.args.out.now (lt-ltb 0 (length k.manager.opened) c.in-Ok.ensures.open)
    (sym c.has_room.ensures.room ∙ c.if-not-has_room.true) c.code-then-not-has_room.ensures c.has_room.ensures.same in
    submitted-filled want.0 want.1 c.args.self.now k c.has_room.new.self false code c.args.out.now c.args.out.now
    c.in-Ok.ensures.done called.state called.returned
