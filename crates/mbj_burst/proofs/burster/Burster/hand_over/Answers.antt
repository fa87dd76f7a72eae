-- One burst was submitted, and the others are left.
use Rattle.std.proofs.Common.{◌≡◌, ◌∙◌, ◌+◌, ◌-◌, ◌<◌, ◌≤◌, ◌++◌, List, length, drop, take, ap, subst, append_assoc, arith}
use Rattle.std.proofs.lemmas.List.{drop-drop, length-drop}
use Rattle.std.specs.Vec.Iter.{into_iter_items}
use Rattle.mbj_types.specs.declared.job.Job.{Job}
use Rattle.mbj_burst.specs.Inside.State.{HasResults, state_of}
use Rattle.mbj_burst.proofs.BurstLines.{group-step, take-add}
use Rattle.mbj_burst.proofs.burster.Burster.hand_over.Goals as goal

pub bursts-preserved : goal.bursts-preserved
bursts-preserved c =
    let i = c.bursts.invariant in
    let made = c.in_ok-make_room.ensures in
    let told = c.in_ok-rest.ensures in
    let old = c.bursts.self in
    let room = c.make_room.new.self in
    let new = c.submit.new.self in
    let n = c.in_ok-rest.field-0 in
    let rest = c.bursts.rest in
    let before = c.args.count - rest in
    let all = into_iter_items c.args.jobs.now in
    let jobs = into_iter_items c.bursts.jobs in
    let left = into_iter_items c.submit.new.jobs in
    let within : rest ≤ length jobs = omega (arith, ap length i.jobs, length-drop before all, c.requires.count, i.within) in
    let some : 0 < n = omega (arith, told.size, made.cell, c.bursts-test.true) in
    let next : before + n ≡ c.args.count - (rest - n) = omega (arith, i.within, told.size) in
    record {
      left = group-step c.args.size rest n i.left.steps jobs left old.lines.items room.lines.items new.lines.items _ (state_of old) (state_of room) (state_of new) _
          c.bursts-test.true within i.left.enough some told.size told.rest made.lines made.state told.lines told.state i.left.told i.left.state;
      within = omega (arith, i.within);
      jobs = told.rest ∙ ap (λ (js : List Job). drop n js) i.jobs ∙ drop-drop n before all ∙ ap (λ k. drop k all) next;
      results = λ done has.
          subst (λ (js : List Job). HasResults js (state_of new))
          (append_assoc done (take before all) (take n jobs)
          ∙ ap (λ (js : List Job). done ++ js) (ap (λ (js : List Job). take before all ++ take n js) i.jobs ∙ take-add before n all ∙ ap (λ k. take k all) next))
          (told.results (done ++ take before all) (made.results (done ++ take before all) (i.results done has)));
      closed = told.closed;
      total = omega (arith, told.jobs, made.jobs, i.total, told.size);
      room = told.room ∙ made.room ∙ i.room;
    }
