-- No data is taken.
use Rattle.std.proofs.Common.{◌≡◌, ℕ, List, [], ap, ap₂, ◌∙◌, subst}
use Rattle.mbj_types.specs.Aes.{aes, encipher}
use Rattle.mbj_types.specs.Blocks.{zero_block}
use Rattle.mbj_types.specs.Gcm.{pre_counter_block}
use Rattle.mbj_direct.specs.Hashed.{IsHashed}
use Rattle.mbj_direct.proofs.States.{enciphers, filled_blocks-none}
use Rattle.mbj_direct.proofs.gmac.GmacState.begin.Goals as goal

pub returns-clause-begun : goal.returns-clause-begun
returns-clause-begun c =
    let key : List ℕ = c.args.key.now in
    let iv : List ℕ = c.args.iv.now in
    let same : encipher c.new-text_key.result ≡ aes key =
    enciphers key c.new-text_key.result (c.new-text_key.ensures ∙ c.expand.ensures.schedule) in
    let zeros : encipher c.new-text_key.result zero_block ≡ aes key zero_block = ap (λ f. f zero_block) same in
    let place : c.pre_counter_block-pre_counter.result ≡ pre_counter_block (aes key zero_block) iv =
    c.pre_counter_block-pre_counter.ensures ∙ ap (λ h. pre_counter_block h iv) zeros in
    record {
      mask = c.enciphered.ensures ∙ ap₂ (λ f j. f j) same place;
      subkey = c.new.ensures.subkey ∙ c.enciphered-subkey.ensures ∙ zeros;
      hashed = subst (λ xs. IsHashed xs [] c.new.result) filled_blocks-none c.new.ensures.hashed;
    }
