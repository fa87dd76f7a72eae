-- What holds of each key, block, IV and cut.
use Rattle.std.specs.Prelude.{◌≡◌, ℕ, List, []}
use Rattle.std.specs.List.{concat}
use Rattle.mbj_types.specs.Aes.{aes, aes_inverse, key_schedule}
use Rattle.mbj_types.specs.Gcm.{gcm_text, gmac}
use Rattle.mbj_aes.specs.Bytes.{IsBlock, IsKey}
use Rattle.mbj_direct.specs.declared.gmac.GmacState.{GmacState}
use Rattle.mbj_direct.specs.Equivalent.{equivalent_decipher}
use Rattle.mbj_direct.specs.Gmac.{GivesTag, HasTakenData, TakesParts}
use Rattle.mbj_direct.specs.Parts.{part_texts}
use Rattle.mbj_direct.specs.Schedules.{inverse_schedule}

-- the equivalent inverse cipher by the schedule for it deciphers
abbrev pub EquivalentCipherDeciphers : Type 0
EquivalentCipherDeciphers =
    (key b : List ℕ) → IsKey key → IsBlock b → equivalent_decipher (inverse_schedule (key_schedule key)) b ≡ aes_inverse key b

-- however a text is cut, its parts become what the whole text becomes
abbrev pub AnyCuttingGivesOneText : Type 0
AnyCuttingGivesOneText =
    (key iv : List ℕ) (parts : List (List ℕ)) → IsKey key
    → concat (part_texts (aes key) iv [] parts) ≡ gcm_text (aes key) iv (concat parts)

-- however data is cut, its parts give the tag of the whole
abbrev pub AnyCuttingGivesOneTag : Type 0
AnyCuttingGivesOneTag =
    (key iv tag : List ℕ) (parts : List (List ℕ)) (s t : GmacState) → HasTakenData key iv [] s → TakesParts parts s t
    → GivesTag t tag → tag ≡ gmac (aes key) iv (concat parts)
