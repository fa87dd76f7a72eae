-- Nothing of the text is taken.
use Rattle.std.proofs.Common.{◌≡◌, ℕ, Bool, List, length, refl, sym, ap, ◌∙◌, subst}
use Rattle.mbj_types.specs.Aes.{aes, encipher}
use Rattle.mbj_types.specs.Blocks.{zero_block, filled_blocks}
use Rattle.mbj_types.specs.Gcm.{pre_counter_block}
use Rattle.mbj_types.specs.Result.{is_enc}
use Rattle.mbj_direct.specs.Hashed.{IsHashed}
use Rattle.mbj_direct.proofs.States.{state_made, nothing_yet}
use Rattle.mbj_direct.proofs.parts.GcmState.begin.Goals as goal

pub returns-clause-state : goal.returns-clause-state
returns-clause-state c = state_made (length c.args.key.now) c.dir_number.result (is_enc c.args.dir) c.requires.key c.dir_number.ensures

pub returns-clause-begun : goal.returns-clause-begun
returns-clause-begun c =
    let key : List ℕ = c.args.key.now in
    let iv : List ℕ = c.args.iv.now in
    let sealing : Bool = is_enc c.args.dir in
    let zeros : encipher c.new-text_key.result zero_block ≡ aes key zero_block =
    ap (λ (w : List ℕ). encipher w zero_block) c.new-text_key.ensures
    ∙ c.expand.ensures.encipher zero_block in
    let subkey : c.enciphered-subkey.result ≡ aes key zero_block = c.enciphered-subkey.ensures ∙ zeros in
    record {
      held = c.padded_key.ensures;
      dir = c.dir_number.ensures;
      pre_counter = c.pre_counter_block.ensures ∙ ap (λ h. pre_counter_block h iv) zeros;
      aad_size = refl;
      subkey = c.new.ensures.subkey ∙ subkey;
      hashed =
          subst (λ (text : List ℕ). IsHashed (filled_blocks c.args.aad.now) text c.new.result) (sym (nothing_yet sealing (aes key) iv))
          c.new.ensures.hashed;
    }
