use Rattle.std.proofs.Common.{◌∙◌, [], Ok, ap, sym, subst, drop}
use Rattle.std.proofs.lemmas.Result.{err_from_is_err_and}
use Rattle.mbj_types.specs.declared.job.Job.{Job}
use Rattle.mbj_text.specs.Inside.Reading.{Gives, Read, job_with}
use Rattle.mbj_text.specs.Spelling.{Values, forms}
use Rattle.mbj_text.specs.declared.job.AuthFields.{AuthFields}
use Rattle.mbj_text.specs.declared.job.CipherFields.{CipherFields}
use Rattle.mbj_text.proofs.job.job_from.Goals as goal

-- the job with these first fields and the values of the others
abbrev make : CipherFields → Values (drop 7 (forms [])) → Job
make f vs = job_with (f.cipher, (f.dir, (f.order, (f.key, (f.iv, (f.cipher_off, (f.cipher_len, vs)))))))

-- what is read then, if these are the others
abbrev made : CipherFields → AuthFields → Read Job
made f back =
    Ok (make f (back.auth, (back.auth_key, (back.aad, (back.hash_off, (back.hash_len, (back.tag_len, (back.packet, tt))))))))

pub returns : goal.returns
returns c =
    c.in_ok-front.ensures.value
    ∙ c.in_ok-back.ensures (make c.in_ok-front.front)
    ∙ ap (λ (f : CipherFields). made f c.in_ok-back.back) (sym c.front.view_is)

pub returns-in_err-back : goal.returns-in_err-back
returns-in_err-back c =
    let p = err_from_is_err_and c.from_residual-in_err-back.result c.from_residual-in_err-back.ensures.1 in
    subst (λ (read : Read Job). Gives c.from_residual-in_err-back.result read) (sym c.in_ok-front.ensures.value)
    (rw (p.1, p.2) (c.in_err-back.ensures (make c.in_ok-front.front)))
