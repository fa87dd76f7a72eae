-- A loop of steps comes to where the whole course comes.
use Rattle.std.proofs.Common.{◌≡◌, ℕ, zero, suc, ◌≤◌, ◌<◌, [], refl, sym, ◌∙◌, arith}
use Rattle.mbj_manager.specs.Machine.Queues.{Machine}
use Rattle.mbj_manager.specs.declared.lane.Cause.{Cause}
use Rattle.mbj_manager.specs.Machine.Course.{course, stepped}
use Rattle.mbj_manager.proofs.Resting.{rests}
use Rattle.mbj_manager.specs.Inside.Steps.{steps_ahead}
use Rattle.mbj_manager.proofs.Steps.{after_steps}

-- enough steps of the machine m come to the machine end
pub record Reaches (at : Cause) (m end : Machine) : Type 0 where
  pub count : ℕ
  pub enough : steps_ahead m ≤ count
  pub is : after_steps at count m ≡ end

pub reaches-start : (at : Cause) (m : Machine) → Reaches at m (course at m)
unfolding course
reaches-start at m = record { count = steps_ahead m; enough = omega arith; is = refl }

by-count : (at : Cause) (m end : Machine) (count : ℕ) → steps_ahead (stepped at m) < steps_ahead m → steps_ahead m ≤ count → after_steps at count m ≡ end
    → Reaches at (stepped at m) end
by-count at m end zero fewer enough is = absurd (omega arith)
by-count at m end (suc count) fewer enough is = record { count = count; enough = omega arith; is = is }

pub reaches-step : (at : Cause) (m end : Machine) → steps_ahead (stepped at m) < steps_ahead m → Reaches at m end → Reaches at (stepped at m) end
reaches-step at m end fewer r = by-count at m end r.count fewer r.enough r.is

pub reaches-end : (at : Cause) (m end : Machine) → m.agenda ≡ [] → Reaches at m end → m ≡ end
reaches-end at m end none r = sym (rests at r.count m none) ∙ r.is
