use Rattle.std.proofs.Common.{◌≡◌, ◌<◌, ◌∙◌, length, inl, inr, ap, sym, arith}
use Rattle.std.proofs.lemmas.Bool.{cases_eq, cases_lt}
use Rattle.std.proofs.lemmas.List.{get_or_default}
use Rattle.mbj_hmac.specs.Rounds.{HmacState}
use Rattle.mbj_hmac.specs.Inside.InLanes.{blank, entry_in, most_lanes, turn_of}
use Rattle.mbj_hmac.proofs.InLanes.{entry_in-past}
use Rattle.mbj_hmac.proofs.lanes.HmacLanes.of.Goals as goal

pub lanes-preserved : goal.lanes-preserved
lanes-preserved g c =
    let inv = c.lanes.invariant in
    let in_ = c.enter.ensures in
    let es = c.args.entries.now in
    let i = c.lanes.i in
    let lt : i < length es = omega arith in
    let here : c.index-entries-i.result ≡ entry_in es i = c.index-entries-i.is ∙ get_or_default es i c.index-entries-i.result blank lt in
    let few : i < most_lanes = omega (arith, c.requires, g.met.H.LaneHash.narrow) in
    record {
      few = λ j b. elim (cases_eq j i) [
        | inl same ↦ rw (same, in_.rest) in_.few
        | inr apart ↦ rw (in_.rests j (omega arith) apart) (inv.few j (omega arith))
      ];
      rests = λ j b. elim (cases_eq j i) [
        | inl same ↦ rw same (in_.rest ∙ ap (λ (e : HmacState). e.rest) here)
        | inr apart ↦ in_.rests j (omega arith) apart ∙ inv.rests j (omega arith)
      ];
      turns = λ j b. elim (cases_eq j i) [
        | inl same ↦ rw same (in_.turn ∙ ap turn_of here)
        | inr apart ↦ in_.turns j (omega arith) apart ∙ inv.turns j (omega arith)
      ];
      chains = λ j b. elim (cases_eq j i) [
        | inl same ↦ rw same (in_.chain ∙ ap (λ (e : HmacState). e.chain) here)
        | inr apart ↦ in_.chains j (omega (arith, c.requires)) apart ∙ inv.chains j (omega arith)
      ];
      inners = λ j b. elim (cases_eq j i) [
        | inl same ↦ rw same (in_.inner ∙ ap (λ (e : HmacState). e.inner) here)
        | inr apart ↦ in_.inners j (omega (arith, c.requires)) apart ∙ inv.inners j (omega arith)
      ];
      ready = λ j b. elim (cases_eq j i) [
        | inl same ↦ rw (same, sym here) in_.ready
        | inr apart ↦
            let inside : j < g.H.LaneHash.LANES = omega (arith, c.requires) in
            rw (in_.starts j inside apart, in_.bits j (omega (arith, g.met.H.LaneHash.narrow)) apart) (inv.ready j (omega arith))
      ];
      left = λ j h b. in_.rests j h (λ same. absurd (omega arith)) ∙ inv.left j h (omega arith);
    }

pub returns-clause-rests : goal.returns-clause-rests
returns-clause-rests g c i lt = c.lanes.invariant.few i (omega arith)

pub returns-clause-tied : goal.returns-clause-tied
returns-clause-tied g c =
    let inv = c.lanes.invariant in
    let es = c.args.entries.now in
    record {
      tied = λ i h. elim (cases_lt i c.lanes.i) [
        | inl lt ↦ inr (inv.few i lt, inv.rests i lt, inv.turns i lt)
        | inr le ↦ inl (inv.left i h le, ap (λ (e : HmacState). e.rest) (entry_in-past es i (omega arith)))
      ];
      past = λ i h le. inv.left i h (omega arith);
    }

pub returns-clause-ready : goal.returns-clause-ready
returns-clause-ready g c i h busy = elim (cases_lt i c.lanes.i) [
  | inl lt ↦ c.lanes.invariant.ready i lt
  | inr le ↦ let none = c.lanes.invariant.left i h le in absurd (omega (arith, none))
]
