-- The tag that is sealed over no text is GMAC.
use Rattle.std.proofs.Common.{◌≡◌, ◌∙◌, ℕ, List, ap, ap₂}
use Rattle.std.proofs.Math.Path.{fun_ext}
use Rattle.mbj_types.specs.Aes.{aes, encipher}
use Rattle.mbj_types.specs.Gcm.{gmac}
use Rattle.mbj_types.specs.declared.job.Job.{Job}
use Rattle.mbj_stage.proofs.Gmacs.{sealed_nothing}
use Rattle.mbj_stage.proofs.gmac.gmac.Goals as goal

pub returns : goal.returns
returns c =
    let j : Job = c.args.job.now in
    let key_is : encipher c.expand-key.result ≡ aes j.auth_key =
    fun_ext (λ b. c.expand-key.ensures.encipher b ∙ ap (λ (k : List ℕ). aes k b) c.as_slice.ensures) in
    c.seal.ensures.tag
    ∙ sealed_nothing (encipher c.expand-key.result) c.as_slice-2.result.now c.args.bytes.now
    ∙ ap₂ (λ (e : List ℕ → List ℕ) (iv : List ℕ). gmac e iv c.args.bytes.now) key_is c.as_slice-2.ensures
