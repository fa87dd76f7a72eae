-- The entry begins under the key of the schedule, and its rounds lead to the CMAC.
use Rattle.std.proofs.Common.{◌≡◌, ℕ, ◌-◌, ◌/◌, List, length, ap, ◌∙◌, arith}
use Rattle.mbj_types.specs.Aes.{key_schedule}
use Rattle.mbj_lane.specs.Rounds.{end_of}
use Rattle.mbj_aes_lanes.specs.KeyBytes.{key_of_array}
use Rattle.mbj_cmac.specs.Rounds.{CmacState, rest_of, round, started}
use Rattle.mbj_cmac.proofs.Ends.{mac_end, packet_end}
use Rattle.mbj_cmac.proofs.entry.CmacEntry.new.Given as given
use Rattle.mbj_cmac.proofs.entry.CmacEntry.new.Goals as goal

-- the key of the entry is that of the schedule
entry-started : (g : given.Over) (c : goal.After-of_bytes g) → c.of_bytes.result ≡ started c.args.key c.args.packet.items c.args.off c.args.len
entry-started g c =
    let b : List ℕ = c.bytes_of_schedule.result in
    let n : g.row.N ≡ length c.args.key / 16 - 1 = omega (arith, c.requires.rounds) in
    c.of_bytes.ensures
    ∙ ap (λ w. started w c.args.packet.items c.args.off c.args.len)
    (ap (λ (m : ℕ). key_schedule (key_of_array m b)) n ∙ c.bytes_of_schedule.ensures.schedule)

pub returns-clause-start : goal.returns-clause-start
returns-clause-start g c = entry-started g c

pub returns-clause-packet : goal.returns-clause-packet
returns-clause-packet g c =
    ap (λ (e : CmacState). (end_of round rest_of e).packet) (entry-started g c)
    ∙ packet_end c.args.key c.args.packet.items c.args.off c.args.len c.requires.range

pub returns-clause-mac : goal.returns-clause-mac
returns-clause-mac g c =
    ap (λ (e : CmacState). (end_of round rest_of e).chain) (entry-started g c)
    ∙ mac_end c.args.key c.args.packet.items c.args.off c.args.len c.requires.range
