-- What the argument table tells of GMAC, and its tag over the hash range.
use Rattle.std.proofs.Common.{◌≡◌, ◌∙◌, ◌+◌, ◌-◌, ℕ, List, take, drop, ap, arith}
use Rattle.mbj_types.specs.declared.job.Job.{Job}
use Rattle.mbj_types.specs.Aes.{aes}
use Rattle.mbj_types.specs.Gcm.{gmac}
use Rattle.mbj_stage.proofs.Gmacs.{gmac_is_tag}
use Rattle.mbj_stage.proofs.gmac.run.Goals as goal

pub returns : goal.returns
returns c =
    let j : Job = c.args.job.now in
    let p : List ℕ = c.args.packet.now in
    let len : j.hash_off + j.hash_len - j.hash_off ≡ j.hash_len = omega arith in
    c.cut.ensures
    ∙ gmac_is_tag j p c.gmac.result c.requires.step
    (c.gmac.ensures ∙ ap (λ (n : ℕ). gmac (aes j.auth_key) j.iv (take n (drop j.hash_off p))) len)
