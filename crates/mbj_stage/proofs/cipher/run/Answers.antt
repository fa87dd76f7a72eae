-- The cipher range is replaced by its other text.
use Rattle.std.proofs.Common.{refl, length}
use Rattle.mbj_types.specs.declared.job.Job.{Job}
use Rattle.mbj_types.specs.declared.job.Cipher.TheVariants as cipher
use Rattle.mbj_stage.proofs.Packets.{ciphered-range}
use Rattle.mbj_stage.proofs.StagesOf.{cbc-now}
use Rattle.mbj_stage.proofs.cipher.run.Goals as goal

pub decrypt-requires-clause-dec : goal.decrypt-requires-clause-dec
decrypt-requires-clause-dec c =
    let j : Job = c.args.job.now in
    cbc-now j.cipher j.dir (length j.key) c.in-Cbc.is c.requires.now

pub returns-in-Cbc : goal.returns-in-Cbc
returns-in-Cbc c = ciphered-range cipher.Cbc c.args.job.now c.args.packet.now c.decrypt.new.text c.in-Cbc.is refl c.decrypt.ensures

pub returns-in-Ctr : goal.returns-in-Ctr
returns-in-Ctr c = ciphered-range cipher.Ctr c.args.job.now c.args.packet.now c.ctr.new.text c.in-Ctr.is refl c.ctr.ensures
