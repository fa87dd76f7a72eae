-- The round keys are those of the schedule.
use Rattle.std.proofs.Common.{ℕ, ap, ◌∙◌}
use Rattle.mbj_aes_lanes.specs.Inside.LaidKeys.{laid_schedule}
use Rattle.mbj_aes_lanes.proofs.narrow.text_key.LaidKey.new.Goals as goal

pub returns : goal.returns
returns g c = ap (λ (n : ℕ). laid_schedule g.D.Direction.laid n c.laid_keys.result) c.rounds.ensures.value ∙ c.laid_keys.ensures.schedule
