-- The cipher range is inside and has whole blocks, and at the end it is encrypted.
use Rattle.std.proofs.Common.{◌≡◌, ◌∙◌, ◌+◌, ℕ, List, ◌++◌, length, take, drop, ap, ap₂, subst, sym, arith}
use Rattle.mbj_types.specs.declared.job.Job.{Job}
use Rattle.mbj_types.specs.Aes.{aes, round_count}
use Rattle.mbj_types.specs.Modes.{cbc_text}
use Rattle.mbj_aes.specs.Bytes.{IsKeySize}
use Rattle.mbj_types.specs.Result.{range}
use Rattle.mbj_lane.specs.Rounds.{end_of}
use Rattle.mbj_cbc.specs.Rounds.{CbcState, rest_of, round}
use Rattle.mbj_stage.proofs.EntryEnds.{cbc-accepted, ciphered-cbc}
use Rattle.mbj_stage.proofs.entries.cbc_entry.Goals as goal

pub new_by_key-requires : goal.new_by_key-requires
new_by_key-requires g c =
    let j : Job = c.args.job.now in
    let a = cbc-accepted j (length c.args.packet.items) c.requires.accepted c.requires.cbc in
    let key = sym c.as_slice-key.ensures in
    let size = subst (λ (k : List ℕ). IsKeySize (length k)) key a.key in
    let rounds = subst (λ (k : List ℕ). round_count k ≡ g.row.N) key c.requires.rounds in
    (omega arith, (size, (rounds, (a.range, (a.some, a.whole)))))

pub returns-clause-packet : goal.returns-clause-packet
returns-clause-packet g c =
    let j : Job = c.args.job.now in
    let p : List ℕ = c.args.packet.items in
    c.new_by_key.ensures.packet
    ∙ ap₂ (λ (k iv : List ℕ). take j.cipher_off p ++ cbc_text (aes k) iv (range j.cipher_off j.cipher_len p) ++ drop (j.cipher_off + j.cipher_len) p)
    c.as_slice-key.ensures (c.iv_block-iv.ensures ∙ c.as_slice.ensures)
    ∙ ciphered-cbc j p c.requires.cbc c.requires.enc
