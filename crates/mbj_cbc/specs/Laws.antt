-- What holds of each key, IV and text.
use Rattle.std.specs.Prelude.{◌≡◌, ℕ, ◌%◌, List, length}
use Rattle.mbj_types.specs.Aes.{aes, aes_inverse}
use Rattle.mbj_types.specs.Modes.{cbc_text, uncbc_text}
use Rattle.mbj_aes.specs.Bytes.{IsBytes, IsBlock, IsKey}

-- a text of whole blocks, encrypted by CBC and decrypted by the same key and IV, is that text again
abbrev pub DecryptionUndoesCbc : Type 0
DecryptionUndoesCbc =
    (key iv text : List ℕ) → IsKey key → IsBlock iv → IsBytes text → length text % 16 ≡ 0
    → uncbc_text (aes_inverse key) iv (cbc_text (aes key) iv text) ≡ text
