-- What was taken is there exactly where the handle had a manager.
use Rattle.std.proofs.Common.{◌≡◌, ◌∙◌, Option, None, Some, ap, option_map, refl, sym}
use Rattle.std.specs.Prelude.{is_some}
use Rattle.mbj_c.proofs.exports.managers.mbj_c_free.Goals as goal

is_some-map : {A B : Type 0} (f : A → B) (o : Option A) → is_some (option_map f o) ≡ is_some o
is_some-map f None = refl
is_some-map f (Some x) = refl

pub returns-clause-freed : goal.returns-clause-freed
returns-clause-freed c = c.is_some.ensures ∙ sym (is_some-map (λ b. b.value) c.take.result) ∙ ap is_some c.take.ensures.manager

pub returns-clause-empty : goal.returns-clause-empty
returns-clause-empty c = c.take.ensures.empty
