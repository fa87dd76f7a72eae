-- What a claim leaves.
use Rattle.std.specs.Prelude.{◌≡◌, ℕ, ⊤, Option, MatchOption}
use Rattle.std.specs.Borrow.{Fml, MutBor, Bor, follows_so}
use mathlib.Core.Option.{none}
use Rattle.mbj_types.specs.declared.job.Job.{Job}
use Rattle.mbj_core.specs.Events.{claim}
use Rattle.mbj_core.specs.Answers.{claim_answer}
use Rattle.mbj_core.specs.CoreStates.{CoreState, claimed_by}
use Rattle.mbj_core.specs.Stands.{Leads}
use Rattle.mbj_core.specs.contracts.machine.Core.{the_row}

-- the party p has the job that r lends, by the event; at `None` nothing changed
pub record ClaimLeaves (old : CoreState) (p cell : ℕ) (r : Option (Bor Job)) (new : CoreState) : Type 0 where
  pub claimed : MatchOption r (new ≡ old) (λ job. new ≡ claimed_by old p cell job.now)
  pub leads : Leads old (claim p cell) (claim_answer r) new

-- the core ends so, once the job that r lends is given back
abbrev pub ClaimEnds : MutBor CoreState → ℕ → ℕ → Option (Bor Job) → Fml
ClaimEnds core p cell r = follows_so the_row the_row core.ghost_name none (λ _ _. ⊤) (ClaimLeaves core.now p cell r)
