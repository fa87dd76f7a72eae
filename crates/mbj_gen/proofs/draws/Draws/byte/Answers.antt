use Rattle.std.proofs.Common.{◌*◌, ◌/◌, ◌^◌, ap}
use Rattle.std.proofs.Math.Nat.{mod-add-mod}
use Rattle.mbj_gen.specs.Generator.{byte}
use Rattle.mbj_gen.proofs.draws.Draws.byte.Goals as goal

pub returns-clause-value : goal.returns-clause-value
unfolding byte
returns-clause-value c = ap (λ next. next / 2 ^ 56) (mod-add-mod (c.args.self.now.state * 6364136223846793005) (2 ^ 64) 1442695040888963407)

pub returns-clause-state : goal.returns-clause-state
unfolding byte
returns-clause-state c = mod-add-mod (c.args.self.now.state * 6364136223846793005) (2 ^ 64) 1442695040888963407
