-- The course of a submission ends between two calls, and the key is counted.
use Rattle.std.proofs.Common.{◌≡◌, ◌∙◌, ◌+◌, ◌%◌, ◌<◌, ℕ, Bool, true, false, is_some, refl, ap, ap₂, sym, subst, length}
use Rattle.std.specs.Prelude.{if◌then◌else◌}
use mir.Val.{bool_byte}
use Rattle.mbj_manager.specs.Machine.Queues.{count_end}
use Rattle.mbj_manager.specs.State.{ManagerState, counted, entered, expanded_for}
use Rattle.mbj_manager.specs.Inside.Settled.{IsSettled}
use Rattle.mbj_manager.proofs.CallsKeep.{entered-settled}
use Rattle.mbj_manager.proofs.Counted.{with_count, entered-count, count-one}
use Rattle.mbj_manager.proofs.manager.Manager.enter.Goals as goal

byte-is : (b : Bool) → bool_byte b ≡ (if b then 1 else 0)
byte-is true = refl
byte-is false = refl

pub invariant_of-self : goal.invariant_of-self
invariant_of-self c =
    let w = c.self.inside.engine in
    subst IsSettled (sym c.enter-is_expanded.ensures.entered) (entered-settled w.opened w c.self.invariant)

pub returns : goal.returns
returns c =
    let w = c.self.inside.engine in
    let n = c.self.inside.expansions in
    let f = is_some c.args.found in
    let some = subst (λ (h : ManagerState). 0 < length h.opened) (sym c.self.view_is) c.requires.is_open in
    let count : (n + c.from.result) % count_end ≡ (n + expanded_for f w.opened) % count_end =
    ap (λ (m : ℕ). (n + m) % count_end)
    (c.from.ensures ∙ byte-is c.enter-is_expanded.result ∙ count-one f c.enter-is_expanded.result w.opened some c.enter-is_expanded.ensures.expands) in
    ap₂ (λ (g : ManagerState) (m : ℕ). with_count m g) c.enter-is_expanded.ensures.entered count
    ∙ entered-count w.opened w n ((n + expanded_for f w.opened) % count_end)
    ∙ ap (λ (h : ManagerState). counted f h (entered h)) c.self.view_is
