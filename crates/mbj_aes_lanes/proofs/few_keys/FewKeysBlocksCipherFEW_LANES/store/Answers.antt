-- The block in lane p is block p % 2 of register p / 2.
use Rattle.std.proofs.Common.{◌≡◌, ◌+◌, ◌*◌, ◌/◌, ◌%◌, ℕ, [], get_or, ap, ◌∙◌, arith}
use Rattle.mbj_aes_lanes.proofs.few_keys.FewKeysBlocksCipherFEW_LANES.store.Goals as goal

pub returns : goal.returns
returns g c p h =
    let place : p ≡ 2 * (p / 2) + p % 2 = omega arith in
    ap (λ (q : ℕ). get_or c.registers.blocks q []) place
    ∙ c.registers.invariant.written (p / 2) (p % 2) (omega (arith, h, c.args.self.now.few)) (omega arith)
