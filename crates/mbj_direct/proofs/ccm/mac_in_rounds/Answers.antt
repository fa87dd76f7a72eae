-- The end of the entry has the plaintext and the MAC.
use Rattle.std.proofs.Common.{◌≡◌, ℕ, List, take, drop, ap, ◌∙◌, arith}
use Rattle.std.proofs.lemmas.List.{take_all}
use Rattle.mbj_types.specs.Aes.{encipher}
use Rattle.mbj_types.specs.Ccm.{ccm_mac}
use Rattle.mbj_ccm.specs.Rounds.{CcmState}
use Rattle.mbj_direct.proofs.ccm.mac_in_rounds.Goals as goal

pub returns-clause-plaintext : goal.returns-clause-plaintext
returns-clause-plaintext g c =
    c.into_parts-plaintext.ensures.packet ∙ ap (λ (e : CcmState). e.packet) c.advanced.ensures.end ∙ c.new-entry.ensures.packet

pub returns-clause-mac : goal.returns-clause-mac
returns-clause-mac g c =
    let text : List ℕ = c.args.plaintext.items in
    let all : take c.len-len.result (drop 0 text) ≡ text = take_all c.len-len.result text (omega arith) in
    c.into_parts-plaintext.ensures.mac
    ∙ ap (λ (e : CcmState). e.chain) c.advanced.ensures.end
    ∙ c.new-entry.ensures.mac
    ∙ ap (λ p. ccm_mac (encipher c.args.key) c.args.nonce.items c.args.aad.items p c.args.tag_len) all
