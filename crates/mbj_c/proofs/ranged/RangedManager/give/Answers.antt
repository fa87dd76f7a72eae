-- A call with a job, if it takes one, and with room for the first result that is owed isn't refused.
use Rattle.std.proofs.Common.{◌≡◌, ◌∙◌, ap, false, refl, slice_get, subst, sym, true}
use Rattle.mbj_manager.proofs.NoneOwed.{none-owed}
use Rattle.mbj_c.specs.declared.giving.Call.{Call}
use Rattle.mbj_c.specs.Giving.{gone, has_room_for, made_by}
use Rattle.mbj_c.specs.State.{RangedState}
use Rattle.mbj_c.proofs.Called.{called-done, called-without-job, called-without-room}
use Rattle.mbj_c.proofs.ranged.RangedManager.give.Goals as goal

pub give_first-requires : goal.give_first-requires
give_first-requires c =
    let went : c.make.new.self ≡ gone c.args.call c.args.self.now = c.make.ensures.state ∙ ap (gone c.args.call) c.has_room.ensures.same in
    record {
      room = subst (λ (k : RangedState). has_room_for (slice_get k.ranges 0) c.args.out.now ≡ true) (sym went)
          (sym c.has_room.ensures.room ∙ c.if-not-has_room.false);
    }

pub returns-clause-returned : goal.returns-clause-returned
returns-clause-returned c =
    (called-done c.args.call c.args.self.now c.make.new.self c.give_first.new.self c.give_first.result c.args.out.now c.give_first.new.out
    (sym c.has_job.ensures.has ∙ c.if-not-has_job.false) (sym c.has_room.ensures.room ∙ c.if-not-has_room.false)
    (c.make.ensures.state ∙ ap (gone c.args.call) c.has_room.ensures.same) c.give_first.ensures.returned c.give_first.ensures.state).returned

pub returns-clause-state : goal.returns-clause-state
returns-clause-state c =
    (called-done c.args.call c.args.self.now c.make.new.self c.give_first.new.self c.give_first.result c.args.out.now c.give_first.new.out
    (sym c.has_job.ensures.has ∙ c.if-not-has_job.false) (sym c.has_room.ensures.room ∙ c.if-not-has_room.false)
    (c.make.ensures.state ∙ ap (gone c.args.call) c.has_room.ensures.same) c.give_first.ensures.returned c.give_first.ensures.state).state

pub returns-clause-drained : goal.returns-clause-drained
returns-clause-drained c is_flush none drained =
    let m : RangedState = c.args.self.now in
    let went : c.make.new.self ≡ gone c.args.call m = c.make.ensures.state ∙ ap (gone c.args.call) c.has_room.ensures.same in
    let same : c.make.new.self.manager.owed ≡ m.manager.owed =
    ap (λ (k : RangedState). k.manager.owed) went ∙ ap (λ (x : Call). (made_by x m.notes m.manager).owed) is_flush in
    let was : c.has_room.new.self.manager.owed ≡ m.manager.owed = ap (λ (k : RangedState). k.manager.owed) c.has_room.ensures.same in
    none-owed m.manager.owed c.make.new.self.manager same (λ some. c.make.ensures.done is_flush (λ e. some (sym was ∙ e))) (c.give_first.ensures.none none)

pub returns-then-not-has_job-clause-returned : goal.returns-then-not-has_job-clause-returned
returns-then-not-has_job-clause-returned c =
    (called-without-job c.args.call c.args.self.now c.args.self.now c.code.result c.args.out.now (sym c.has_job.ensures.has ∙ c.if-not-has_job.true)
    c.code.ensures refl).returned

pub returns-then-not-has_room-clause-returned : goal.returns-then-not-has_room-clause-returned
returns-then-not-has_room-clause-returned c =
    (called-without-room c.args.call c.args.self.now c.args.self.now c.code-then-not-has_room.result c.args.out.now
    (sym c.has_job.ensures.has ∙ c.if-not-has_job.false) (sym c.has_room.ensures.room ∙ c.if-not-has_room.true) c.code-then-not-has_room.ensures refl).returned
