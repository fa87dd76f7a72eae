-- The entry begins under the schedule of the key, and its rounds lead to the encrypted range.
use Rattle.std.proofs.Common.{◌≡◌, ℕ, List, ap, subst, ◌∙◌, arith}
use Rattle.mbj_types.specs.Aes.{key_schedule}
use Rattle.mbj_aes.proofs.States.{IsBytes-told}
use Rattle.mbj_lane.specs.Rounds.{end_of}
use Rattle.mbj_aes_lanes.specs.KeyBytes.{key_of_array}
use Rattle.mbj_cbc.specs.Rounds.{CbcState, rest_of, round, started}
use Rattle.mbj_cbc.proofs.Ends.{encrypted_end-key}
use Rattle.mbj_cbc.proofs.entry.CbcEntry.new_by_key.Goals as goal

pub returns-clause-packet : goal.returns-clause-packet
returns-clause-packet g c =
    let key : List ℕ = c.args.key.now in
    let bytes : List ℕ = c.bytes_of_key.result in
    let same : key_of_array g.row.N bytes ≡ key = subst (λ (n : ℕ). key_of_array n bytes ≡ key) c.requires.rounds c.bytes_of_key.ensures.key in
    ap (λ (e : CbcState). (end_of round rest_of e).packet)
    (c.of_bytes.ensures ∙ ap (λ k. started (key_schedule k) c.args.iv c.args.packet.items c.args.off c.args.len) same)
    ∙ encrypted_end-key key c.args.off c.args.len c.args.iv c.args.packet.items
    (record { size = c.requires.size; bytes = IsBytes-told key (λ k. omega (arith, c.type_inv.key k)) })
    c.requires.range c.requires.whole
