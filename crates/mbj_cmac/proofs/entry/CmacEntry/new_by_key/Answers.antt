-- The entry begins under the schedule of the key, and its rounds lead to the CMAC.
use Rattle.std.proofs.Common.{◌≡◌, ℕ, List, ap, subst, ◌∙◌}
use Rattle.mbj_types.specs.Aes.{key_schedule}
use Rattle.mbj_lane.specs.Rounds.{end_of}
use Rattle.mbj_aes_lanes.specs.KeyBytes.{key_of_array}
use Rattle.mbj_cmac.specs.Rounds.{CmacState, rest_of, round, started}
use Rattle.mbj_cmac.proofs.Ends.{mac_end-key, packet_end}
use Rattle.mbj_cmac.proofs.entry.CmacEntry.new_by_key.Given as given
use Rattle.mbj_cmac.proofs.entry.CmacEntry.new_by_key.Goals as goal

-- the key of the entry is the one that was given
entry-started : (g : given.Over) (c : goal.After-of_bytes g)
    → c.of_bytes.result ≡ started (key_schedule c.args.key.now) c.args.packet.items c.args.off c.args.len
entry-started g c =
    let key : List ℕ = c.args.key.now in
    let bytes : List ℕ = c.bytes_of_key.result in
    let same : key_of_array g.row.N bytes ≡ key = subst (λ (n : ℕ). key_of_array n bytes ≡ key) c.requires.rounds c.bytes_of_key.ensures.key in
    c.of_bytes.ensures ∙ ap (λ k. started (key_schedule k) c.args.packet.items c.args.off c.args.len) same

pub returns-clause-packet : goal.returns-clause-packet
returns-clause-packet g c =
    ap (λ (e : CmacState). (end_of round rest_of e).packet) (entry-started g c)
    ∙ packet_end (key_schedule c.args.key.now) c.args.packet.items c.args.off c.args.len c.requires.range

pub returns-clause-mac : goal.returns-clause-mac
returns-clause-mac g c =
    ap (λ (e : CmacState). (end_of round rest_of e).chain) (entry-started g c)
    ∙ mac_end-key c.args.key.now c.args.packet.items c.args.off c.args.len c.requires.range
