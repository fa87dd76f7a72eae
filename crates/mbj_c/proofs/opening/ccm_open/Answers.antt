-- The text that was decrypted is verified.
use Rattle.std.proofs.Common.{ℕ, List, Result, ap, sym, ◌∙◌, arith}
use Rattle.mbj_c.specs.declared.refusal.Refusal.{Refusal}
use Rattle.mbj_c.proofs.Openings.{ccm_by_tag}
use Rattle.mbj_c.proofs.opening.ccm_open.Goals as goal

pub returns-clause-answer : goal.returns-clause-answer
returns-clause-answer c other =
    c.verify.ensures.answer
    ∙ ap (λ (r : Result (Unit {0}) Refusal × List ℕ). r.0)
    (ccm_by_tag c.args.key.now c.args.nonce.now c.args.aad.now c.args.text.now c.args.tag.now c.expand-schedule.result c.ccm_open.new.text
    c.in_ok-found.found (sym c.ccm_takes.ensures ∙ c.in_ok-ccm_takes.was) c.expand-schedule.ensures.encipher c.in_ok-found.ensures.text
    c.in_ok-found.ensures.tag (omega arith))

pub returns-clause-written : goal.returns-clause-written
returns-clause-written c other =
    c.verify.ensures.written
    ∙ ap (λ (r : Result (Unit {0}) Refusal × List ℕ). r.1)
    (ccm_by_tag c.args.key.now c.args.nonce.now c.args.aad.now c.args.text.now c.args.tag.now c.expand-schedule.result c.ccm_open.new.text
    c.in_ok-found.found (sym c.ccm_takes.ensures ∙ c.in_ok-ccm_takes.was) c.expand-schedule.ensures.encipher c.in_ok-found.ensures.text
    c.in_ok-found.ensures.tag (omega arith))
