-- The checker computes the draw.
use Rattle.std.proofs.Common.{refl}
use Rattle.mbj_gen.specs.Generator.{byte}
use Rattle.mbj_front_tests.proofs.generator.the_first_draw_from_zero_is_20.Goals as goal

pub returns : goal.returns
unfolding byte
returns c = refl
