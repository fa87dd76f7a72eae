-- The cipher range is replaced by its other text, and the tag is cut from that of GCM.
use Rattle.std.proofs.Common.{refl, ◌∙◌, length}
use Rattle.mbj_args.proofs.Accepted.{accepted}
use Rattle.mbj_types.specs.Auths.{class_of}
use Rattle.mbj_types.specs.declared.job.Job.{Job}
use Rattle.mbj_types.specs.declared.job.Cipher.TheVariants as cipher
use Rattle.mbj_stage.proofs.Gcms.{gcm_cipher, gcm_both}
use Rattle.mbj_stage.proofs.Packets.{ciphered-range}
use Rattle.mbj_stage.proofs.Tags.{gcm_is_tag}
use Rattle.mbj_stage.proofs.gcm.run.Goals as goal

pub returns-clause-packet : goal.returns-clause-packet
returns-clause-packet c =
    ciphered-range cipher.Gcm c.args.job.now c.args.packet.now c.gcm-whole.new.text
    (gcm_cipher c.args.job.now.cipher c.requires.step) refl c.gcm-whole.ensures.text

pub returns-clause-tag : goal.returns-clause-tag
returns-clause-tag c =
    let j : Job = c.args.job.now in
    c.cut.ensures
    ∙ gcm_is_tag j c.args.packet.now c.gcm-whole.result
    (gcm_both j.cipher (class_of j.auth) (accepted j (length c.args.packet.now) c.requires.accepted).pair (gcm_cipher j.cipher c.requires.step))
    c.gcm-whole.ensures.tag
