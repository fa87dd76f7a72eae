-- What holds of each key, nonce, additional data and text.
use Rattle.std.specs.Prelude.{◌≡◌, ℕ, true, false, List}
use Rattle.mbj_types.specs.Aes.{aes}
use Rattle.mbj_types.specs.Ccm.{ccm}
use Rattle.mbj_aes.specs.Bytes.{IsBytes, IsKey}

-- a text that is sealed, and opened with the same key, nonce, additional data and length of tag, is that text again, and has the same
-- tag
abbrev pub OpeningUndoesSealing : Type 0
OpeningUndoesSealing =
    (key nonce aad text : List ℕ) (tag_len : ℕ) → IsKey key → IsBytes nonce
    → let sealed = ccm (aes key) nonce aad text tag_len true in
    ccm (aes key) nonce aad sealed.0 tag_len false ≡ (text, sealed.1)
