-- Key, nonce, data, range and tag have lengths that CCM takes.
use Rattle.std.proofs.Common.{◌∙◌, ◌+◌, ◌*◌, ℕ, List, length, ap, arith}
use Rattle.mbj_types.specs.declared.job.Job.{Job}
use Rattle.mbj_types.specs.Ccm.{ccm_mac}
use Rattle.mbj_types.specs.Result.{cipher_range}
use Rattle.mbj_lane.specs.Rounds.{end_of}
use Rattle.mbj_ccm.specs.Rounds.{CcmState, rest_of, round}
use Rattle.mbj_stage.proofs.EntryEnds.{ccm-accepted}
use Rattle.mbj_stage.proofs.Schedules.{enciphers}
use Rattle.mbj_stage.proofs.entries.ccm_entry.Goals as goal

pub new-requires : goal.new-requires
new-requires g c =
    let j : Job = record c.args.job.now { iv = c.args.iv.items; aad = c.args.aad.items } in
    let a = ccm-accepted j (length c.args.packet.items) c.requires.accepted c.requires.ccm in
    let rounds = c.requires.key.size ∙ ap (λ (n : ℕ). 16 * (n + 1)) c.requires.rounds in
    (omega arith, (rounds, (a.nonce_least, (a.nonce_most, (a.aad, (a.packet, (a.range, (a.tag_least, (a.tag_most, a.tag_even)))))))))

pub returns-clause-mac : goal.returns-clause-mac
returns-clause-mac g c =
    let j : Job = c.args.job.now in
    c.new.ensures.mac
    ∙ ap (λ (e : List ℕ → List ℕ). ccm_mac e c.args.iv.items c.args.aad.items (cipher_range j c.args.packet.items) j.tag_len)
    (enciphers j.key c.args.key c.requires.key)
