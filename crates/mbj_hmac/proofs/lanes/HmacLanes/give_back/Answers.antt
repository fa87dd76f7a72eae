use Rattle.std.proofs.Common.{◌≡◌, ◌<◌, ◌∙◌, inl, inr, length, length-set, get_or, get_or-set_same, get_or-set_other, ap, ap₂, arith}
use Rattle.std.proofs.lemmas.Bool.{cases_eq}
use Rattle.std.proofs.lemmas.List.{get_or_default}
use Rattle.mbj_hmac.specs.Inside.InLanes.{blank, entry_in, seen_at, with_chains}
use Rattle.mbj_hmac.proofs.lanes.HmacLanes.give_back.Goals as goal

pub entries-preserved : goal.entries-preserved
entries-preserved g c =
    let lane = g.H.LaneHash.lane in
    let inv = c.entries.invariant in
    let es = c.entries.entries in
    let i = c.entries.i in
    let x = c.set_chains.new.self in
    let lt : i < length es = omega (arith, c.entries.auto.entries) in
    let size = length-set es i x in
    let d = c.index-entries-i.result in
    let old : get_or es i d ≡ entry_in c.args.entries.now i = get_or_default es i d blank lt ∙ inv.left i lt (omega arith) in
    let self = c.args.self.now in
    let here : x ≡ seen_at (lane self.states) (lane self.inner) c.args.entries.now i =
    c.set_chains.ensures ∙ ap₂ (λ a b. with_chains a b (get_or es i d)) c.scattered-chain.ensures c.scattered-inner.ensures
    ∙ ap (with_chains (lane self.states i) (lane self.inner i)) old in
    record {
      done = λ j l b. elim (cases_eq j i) [
        | inl same ↦ rw same (get_or-set_same es i x blank lt ∙ here)
        | inr apart ↦ get_or-set_other es i j x blank apart ∙ inv.done j (omega (arith, size)) (omega arith)
      ];
      left = λ j l b. get_or-set_other es i j x blank (λ same. absurd (omega arith)) ∙ inv.left j (omega (arith, size)) (omega arith);
    }
