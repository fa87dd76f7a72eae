-- The hash range is inside, and at the end the chaining value is the CMAC over it.
use Rattle.std.proofs.Common.{◌≡◌, ◌∙◌, ℕ, List, length, ap, subst, sym, arith}
use Rattle.mbj_aes.specs.Bytes.{IsKeySize}
use Rattle.mbj_args.proofs.Accepted.{accepted}
use Rattle.mbj_types.specs.declared.job.Job.{Job}
use Rattle.mbj_types.specs.Aes.{aes, round_count}
use Rattle.mbj_types.specs.Auths.{class_of}
use Rattle.mbj_types.specs.Cmac.{cmac}
use Rattle.mbj_types.specs.Result.{hash_range}
use Rattle.mbj_stage.proofs.Tags.{cmac_has_range, cmac_is_mac, cmac_key}
use Rattle.mbj_stage.proofs.entries.cmac_entry.Goals as goal

pub new_by_key-requires : goal.new_by_key-requires
new_by_key-requires g c =
    let j : Job = c.args.job.now in
    let key = sym c.as_slice-key.ensures in
    let size = subst (λ (k : List ℕ). IsKeySize (length k)) key
    (cmac_key (class_of j.auth) (length j.auth_key) c.requires.cmac (accepted j (length c.args.packet.items) c.requires.accepted).auth_key) in
    let rounds = subst (λ (k : List ℕ). round_count k ≡ g.row.N) key c.requires.rounds in
    (omega arith, (size, (rounds, (accepted j (length c.args.packet.items) c.requires.accepted).hash_range (cmac_has_range (class_of j.auth) c.requires.cmac))))

pub returns-clause-mac : goal.returns-clause-mac
returns-clause-mac g c =
    let j : Job = c.args.job.now in
    c.new_by_key.ensures.mac ∙ ap (λ (k : List ℕ). cmac (aes k) (hash_range j c.args.packet.items)) c.as_slice-key.ensures
    ∙ cmac_is_mac (class_of j.auth) j c.args.packet.items c.requires.cmac
