-- The entry begins under the key of the schedule, and its rounds lead to the MAC.
use Rattle.std.proofs.Common.{◌≡◌, ℕ, ◌-◌, ◌/◌, List, length, refl, sym, ap, ap₂, ◌∙◌, arith}
use Rattle.mbj_types.specs.Aes.{key_schedule}
use Rattle.mbj_types.specs.Blocks.{zero_block}
use Rattle.mbj_types.specs.Rounds.{ccm_rounds}
use Rattle.mbj_lane.specs.Rounds.{end_of}
use Rattle.mbj_aes_lanes.specs.KeyBytes.{key_of_array}
use Rattle.mbj_aes_lanes.proofs.ChainedEnds.{same-after}
use Rattle.mbj_ccm.specs.Rounds.{CcmState, rest_of, round}
use Rattle.mbj_ccm.proofs.Ends.{mac_end}
use Rattle.mbj_ccm.proofs.entry.CcmEntry.new.Given as given
use Rattle.mbj_ccm.proofs.entry.CcmEntry.new.Goals as goal

rounds-is : (g : given.Over) (c : goal.After-bytes_of_schedule-key g) → length c.args.key / 16 - 1 ≡ g.row.N
rounds-is g c = omega (arith, c.requires.rounds)

-- the entry that is made, by what its rest and its key are
made : (g : given.Over) (c : goal.After-bytes_of_schedule-key g) → ℕ → List ℕ → CcmState
made g c rest key = record {
  packet = c.args.packet.items;
  iv = c.args.iv.items;
  aad = c.args.aad.items;
  tag_len = c.args.tag_len;
  rest = rest;
  chain = zero_block;
  key = key;
  off = c.args.off;
  len = c.args.len;
}

pub returns-clause-start : goal.returns-clause-start
unfolding made
returns-clause-start g c =
    let b : List ℕ = c.bytes_of_schedule-key.result in
    let aad_len : c.len.result ≡ length c.args.aad.items = omega arith in
    ap₂ (made g c) (c.rounds-rest.ensures ∙ ap (λ (n : ℕ). ccm_rounds n c.args.len) aad_len)
    (ap (λ (m : ℕ). key_schedule (key_of_array m b)) (sym (rounds-is g c)) ∙ c.bytes_of_schedule-key.ensures.schedule)

pub returns-clause-packet : goal.returns-clause-packet
returns-clause-packet g c = same-after round (λ (e : CcmState). e.packet) (λ e. refl) c.rounds-rest.result _

pub returns-clause-iv : goal.returns-clause-iv
returns-clause-iv g c = same-after round (λ (e : CcmState). e.iv) (λ e. refl) c.rounds-rest.result _

pub returns-clause-aad : goal.returns-clause-aad
returns-clause-aad g c = same-after round (λ (e : CcmState). e.aad) (λ e. refl) c.rounds-rest.result _

pub returns-clause-mac : goal.returns-clause-mac
returns-clause-mac g c =
    ap (λ (e : CcmState). (end_of round rest_of e).chain) (returns-clause-start g c)
    ∙ mac_end c.args.key c.args.iv.items c.args.aad.items c.args.packet.items c.args.off c.args.len c.args.tag_len c.requires.range
