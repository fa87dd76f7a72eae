use Rattle.std.proofs.Common.{◌≡◌, ℕ, ◌+◌, ◌-◌, List, [], ◌∷◌, ◌++◌, length, map, drop, length-append, length-drop, append_assoc, sym, ap, ◌∙◌, arith}
use Rattle.std.proofs.lemmas.List.{map-append}
use Rattle.std.proofs.lemmas.Iterator.Consumers.{YieldsList-turn, YieldsList-end}
use Rattle.std.proofs.lemmas.Iterator.Adapters.{YieldsList-from_vec}
use lib.ListN.{length-map}
use Rattle.mbj_types.specs.declared.done.Done.{Done}
use Rattle.mbj_types.specs.Result.{result_of}
use Rattle.mbj_core.specs.declared.party.View.{View}
use Rattle.mbj_front.specs.Seats.{view_of}
use Rattle.mbj_work.specs.Inside.Runs.{with_due}
use Rattle.mbj_work.proofs.party.Party.submit_all.Goals as goal

counted : (given : List Done) (v : View Done) → length (with_due given v) ≡ length given + (length v.due - v.handed)
counted given v = length-append given (drop v.handed v.due) ∙ ap (λ (n : ℕ). length given + n) (length-drop v.handed v.due)

pub post_with_room-requires-clause-room : goal.post_with_room-requires-clause-room
post_with_room-requires-clause-room g c = let inv = c.loop-job.invariant in
    let t = YieldsList-turn (YieldsList-from_vec {s = c.into_iter-job-iterator.result} c.args.jobs.items c.into_iter-job-iterator.ensures.into_iter_gives.0 (c.into_iter-job-iterator.ensures.into_iter_gives.1 ∙ c.args.jobs.ok.0)) c.loop-job.yielded c.loop-job.job-iterator c.loop-job.yielded_by c.next.result c.next.new.self c.in-Some.job c.in-Some.is c.next.ensures.steps in
    omega (arith, c.requires.room, inv.capacity, counted c.loop-job.results.items (view_of c.loop-job.self.seat), ap length inv.results, length-append (with_due c.args.results.now.items (view_of c.args.self.now.seat)) (map result_of c.loop-job.yielded), length-map c.loop-job.yielded result_of, t.0)

pub drain-requires-clause-room : goal.drain-requires-clause-room
drain-requires-clause-room g c = let inv = c.loop-job.invariant in
    let t = YieldsList-end (YieldsList-from_vec {s = c.into_iter-job-iterator.result} c.args.jobs.items c.into_iter-job-iterator.ensures.into_iter_gives.0 (c.into_iter-job-iterator.ensures.into_iter_gives.1 ∙ c.args.jobs.ok.0)) c.loop-job.yielded c.loop-job.job-iterator c.loop-job.yielded_by c.next.result c.next.new.self c.in-None.is c.next.ensures.steps in
    omega (arith, c.requires.room, inv.capacity, counted c.loop-job.results.items (view_of c.loop-job.self.seat), ap length inv.results, length-append (with_due c.args.results.now.items (view_of c.args.self.now.seat)) (map result_of c.loop-job.yielded), length-map c.loop-job.yielded result_of, t.1)

pub loop-job-preserved : goal.loop-job-preserved
loop-job-preserved g c =
    let was = c.loop-job.invariant in let told = c.post_with_room.ensures in
    let due = with_due c.args.results.now.items (view_of c.args.self.now.seat) in let given = result_of c.in-Some.job ∷ [] in record {
      next = tt;
      finite = tt;
      front = told.front;
      number = told.number ∙ was.number;
      capacity = told.room ∙ was.capacity;
      results = told.results ∙ ap (λ l. l ++ given) was.results ∙ append_assoc due (map result_of c.loop-job.yielded) given
          ∙ ap (λ l. due ++ l) (sym (map-append result_of c.loop-job.yielded (c.in-Some.job ∷ [])));
    }
