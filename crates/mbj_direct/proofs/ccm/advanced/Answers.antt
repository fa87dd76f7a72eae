-- A run by all its rounds leaves the entry none.
use Rattle.std.proofs.Common.{◌≡◌, ◌∙◌, ◌-◌, map, get_or, ap, arith}
use Rattle.mbj_lane.specs.Rounds.{after}
use Rattle.mbj_direct.proofs.ccm.advanced.Goals as goal

pub returns-clause-done : goal.returns-clause-done
returns-clause-done g c =
    let e = c.args.entry in
    let rest = g.K.Kernel.rest_of in
    let none : rest e - rest e ≡ 0 = omega arith in
    let run = c.run.ensures ∙ ap (map (after g.K.Kernel.round c.rest-rest.result)) c.from_mut.ensures.value in
    ap (λ es. rest (get_or es 0 e)) run ∙ ap (λ m. rest (after g.K.Kernel.round m e)) c.rest-rest.ensures
    ∙ g.met.K.Kernel.rests_fall (rest e) e ∙ none
