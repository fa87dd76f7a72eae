-- The key in the state has its size.
use Rattle.std.proofs.Common.{length, sym, ap, ◌∙◌, subst, arith}
use Rattle.std.proofs.lemmas.List.{length-take-le}
use Rattle.mbj_aes.specs.Bytes.{IsKeySize}
use Rattle.mbj_direct.proofs.States.{state_size, state_fits}
use Rattle.mbj_direct.proofs.parts.GcmState.text_key.Goals as goal

pub slice_bounds-expand-end : goal.slice_bounds-expand-end
slice_bounds-expand-end c =
    sym (length-take-le c.args.self.now.key_bytes c.args.self.now.key (omega (arith, state_fits c.args.self.now c.requires)))

pub expand-requires : goal.expand-requires
expand-requires c =
    subst IsKeySize (sym (length-take-le c.args.self.now.key_bytes c.args.self.now.key (omega (arith, state_fits c.args.self.now c.requires))))
    (state_size c.args.self.now c.requires)

pub returns : goal.returns
returns c = record {
  schedule = c.new.ensures ∙ c.expand.ensures.schedule;
  length = omega (arith, ap length c.new.ensures, c.expand.ensures.length);
}
