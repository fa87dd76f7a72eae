-- What a job's cipher makes of a text, by the job's key, IV and direction.
use Rattle.std.specs.Prelude.{ℕ, List}
use Rattle.mbj_types.specs.Aes.{aes, aes_inverse}
use Rattle.mbj_types.specs.Modes.{cbc_text, uncbc_text, ctr_text}
use Rattle.mbj_types.specs.Gcm.{gcm}
use Rattle.mbj_types.specs.Ccm.{ccm_text}
use Rattle.mbj_types.specs.Result.{is_enc}
use Rattle.mbj_types.specs.declared.job.Job.{Job}
use Rattle.mbj_types.specs.declared.job.Cipher.{Cipher}
use Rattle.mbj_types.specs.declared.job.Cipher.TheVariants as cipher
use Rattle.mbj_types.specs.declared.job.Dir.{Dir}
use Rattle.mbj_types.specs.declared.job.Dir.TheVariants.{Enc, Dec}

-- GCM: the other text, and the whole tag
abbrev pub gcm_by : Job → List ℕ → List ℕ × List ℕ
gcm_by j text = gcm (aes j.key) j.iv j.aad text (is_enc j.dir)

-- the other text of each cipher
abbrev pub other_text : Cipher → Dir → Job → List ℕ → List ℕ
other_text cipher.Null d j text = text
other_text cipher.Cbc Enc j text = cbc_text (aes j.key) j.iv text
other_text cipher.Cbc Dec j text = uncbc_text (aes_inverse j.key) j.iv text
other_text cipher.Ctr d j text = ctr_text (aes j.key) j.iv text
other_text cipher.Gcm d j text = (gcm_by j text).0
other_text cipher.Ccm d j text = ccm_text (aes j.key) j.iv text
