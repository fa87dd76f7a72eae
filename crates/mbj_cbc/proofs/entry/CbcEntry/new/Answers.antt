-- The entry begins under the key of the schedule, and its rounds lead to the encrypted range.
use Rattle.std.proofs.Common.{◌≡◌, ℕ, ◌-◌, ◌/◌, List, length, ap, ◌∙◌, arith}
use Rattle.mbj_types.specs.Aes.{key_schedule}
use Rattle.mbj_lane.specs.Rounds.{end_of}
use Rattle.mbj_aes_lanes.specs.KeyBytes.{key_of_array}
use Rattle.mbj_cbc.specs.Rounds.{CbcState, rest_of, round, started}
use Rattle.mbj_cbc.proofs.Ends.{encrypted_end}
use Rattle.mbj_cbc.proofs.entry.CbcEntry.new.Given as given
use Rattle.mbj_cbc.proofs.entry.CbcEntry.new.Goals as goal

-- the key of the entry is that of the schedule
entry-started : (g : given.Over) (c : goal.After-of_bytes g)
    → c.of_bytes.result ≡ started c.args.key c.args.iv c.args.packet.items c.args.off c.args.len
entry-started g c =
    let b : List ℕ = c.bytes_of_schedule-key.result in
    let n : g.row.N ≡ length c.args.key / 16 - 1 = omega (arith, c.requires.rounds) in
    c.of_bytes.ensures
    ∙ ap (λ w. started w c.args.iv c.args.packet.items c.args.off c.args.len)
    (ap (λ (m : ℕ). key_schedule (key_of_array m b)) n ∙ c.bytes_of_schedule-key.ensures.schedule)

pub returns-clause-start : goal.returns-clause-start
returns-clause-start g c = entry-started g c

pub returns-clause-packet : goal.returns-clause-packet
returns-clause-packet g c =
    ap (λ (e : CbcState). (end_of round rest_of e).packet) (entry-started g c)
    ∙ encrypted_end c.args.key c.args.off c.args.len (omega (arith, c.requires.rounds)) c.args.iv c.args.packet.items c.requires.range
    c.requires.whole
