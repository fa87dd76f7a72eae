-- What a field and a job line spell, and which field of a bad line is its fault.
use Rattle.std.specs.Prelude.{◌≡◌, ◌≢◌, ◌⊎◌, ◌<◌, ◌+◌, ◌^◌, ◌++◌, ℕ, IsTrue, List, [], ◌∷◌, length, codes, decimal, Ok, Option, Some, None, slice_get}
use Rattle.hex.specs.Hex.{decode_of}
use Rattle.mbj_types.specs.Aes.{is_key_size}
use Rattle.mbj_types.specs.declared.job.Job.{Job}
use Rattle.mbj_types.specs.declared.job.Cipher.{Cipher}
use Rattle.mbj_types.specs.declared.job.Dir.{Dir}
use Rattle.mbj_types.specs.declared.job.Order.{Order}
use Rattle.mbj_types.specs.declared.job.Auth.{Auth}
use Rattle.mbj_text.specs.Cut.{cut, space}
use Rattle.mbj_text.specs.Words.{cipher_word, dir_word, order_word, auth_word}

-- ---- fields

-- bytes: `-` for none, or hexadecimal digits of either case, at least 2, two for each byte
abbrev pub SpellsBytes : List ℕ → List ℕ → Type 0
SpellsBytes text bytes = ((text ≡ codes "-") × (bytes ≡ [])) ⊎ ((0 < length text) × (decode_of text ≡ Ok bytes))

-- a number: 1 to 5 digits, the first of them not `0` unless it is the only one, as decimal writes it
abbrev pub SpellsNumber : List ℕ → ℕ → Type 0
SpellsNumber text n = (text ≡ decimal n) × (n < 10 ^ 5)

-- the key of a session: bytes of an AES key
abbrev pub SpellsKey : List ℕ → List ℕ → Type 0
SpellsKey text key = SpellsBytes text key × IsTrue (is_key_size (length key))

-- the key of a cipher and the session it is from: bytes, which are of no session, or `@N` for the key of session N,
-- where these are the keys of the sessions before the line
abbrev pub SpellsCipherKey : List (List ℕ) → List ℕ → List ℕ × Option ℕ → Type 0
SpellsCipherKey keys text (key, None) = SpellsBytes text key
SpellsCipherKey keys text (key, Some n) =
    (digits : List ℕ) × (text ≡ codes "@" ++ digits) × SpellsNumber digits n × (slice_get keys n ≡ Some key)

-- the forms of fields
pub data Form : Type 0 where
  CipherWord : Form
  DirWord : Form
  OrderWord : Form
  AuthWord : Form
  Hex : Form
  Key : Form
  CipherKey : List (List ℕ) → Form
  Number : Form
  Below : ℕ → Form

-- what a field of each form stands for
abbrev pub Value : Form → Type 0
Value CipherWord = Cipher
Value DirWord = Dir
Value OrderWord = Order
Value AuthWord = Auth
Value Hex = List ℕ
Value Key = List ℕ
Value (CipherKey keys) = List ℕ × Option ℕ
Value Number = ℕ
Value (Below limit) = ℕ

-- the text spells the value in the form; a number below a limit is a number that is less
abbrev pub Spelled : (form : Form) → List ℕ → Value form → Type 0
Spelled CipherWord text c = text ≡ cipher_word c
Spelled DirWord text d = text ≡ dir_word d
Spelled OrderWord text o = text ≡ order_word o
Spelled AuthWord text a = text ≡ auth_word a
Spelled Hex text bytes = SpellsBytes text bytes
Spelled Key text key = SpellsKey text key
Spelled (CipherKey keys) text key = SpellsCipherKey keys text key
Spelled Number text n = SpellsNumber text n
Spelled (Below limit) text n = SpellsNumber text n × (n < limit)

-- the text is of the form
abbrev pub HasForm : Form → List ℕ → Type 0
HasForm form text = (v : Value form) × Spelled form text v

-- ---- lines

-- the forms of the 14 fields of a job line behind sessions with these keys:
-- cipher, direction, order; key, initialization vector; offset and length of the cipher range;
-- authentication, its key, additional data; offset and length of the hash range; length of the tag; packet
abbrev pub forms : List (List ℕ) → List Form
forms keys =
    CipherWord ∷ DirWord ∷ OrderWord ∷ CipherKey keys ∷ Hex ∷ Number ∷ Number
    ∷ AuthWord ∷ Hex ∷ Hex ∷ Number ∷ Number ∷ Below 256 ∷ Hex ∷ []

-- a value for each form
abbrev pub Values : List Form → Type 0
Values [] = Unit {0}
Values (form ∷ rest) = Value form × Values rest

-- the fields of a job, in the order of the line
abbrev pub values : (keys : List (List ℕ)) → Job → Values (forms keys)
values keys j = (j.cipher, (j.dir, (j.order, ((j.key, j.session), (j.iv, (j.cipher_off, (j.cipher_len, (j.auth, (j.auth_key, (j.aad, (j.hash_off, (j.hash_len, (j.tag_len, (j.packet, tt))))))))))))))

-- there are as many texts as forms, and each spells its value
abbrev pub SpellsFields : (fs : List Form) → List (List ℕ) → Values fs → Type 0
SpellsFields [] [] vs = Unit {0}
SpellsFields [] (text ∷ texts) vs = ⊥
SpellsFields (form ∷ rest) [] vs = ⊥
SpellsFields (form ∷ rest) (text ∷ texts) vs = Spelled form text vs.0 × SpellsFields rest texts vs.1

-- the fields of a line: it is cut at each space
abbrev pub fields_of : List ℕ → List (List ℕ)
fields_of line = cut space line

-- the line spells the job, if sessions with these keys are before it
abbrev pub Spells : List (List ℕ) → List ℕ → Job → Type 0
Spells keys line j = SpellsFields (forms keys) (fields_of line) (values keys j)

-- the first of the texts that isn't of its form has number f, if they are numbered from n on
abbrev pub IsFirstBad : ℕ → List Form → List (List ℕ) → ℕ → Type 0
IsFirstBad n [] texts f = ⊥
IsFirstBad n (form ∷ rest) [] f = ⊥
IsFirstBad n (form ∷ rest) (text ∷ texts) f =
    ((f ≡ n) × ¬ (HasForm form text)) ⊎ (HasForm form text × IsFirstBad (n + 1) rest texts f)

-- the texts don't spell the forms, and the fault is field f: 0 if there aren't as many texts as forms,
-- else the number of the first one that isn't of its form
abbrev pub HasFault : ℕ → List Form → List (List ℕ) → ℕ → Type 0
HasFault n fs texts f =
    ((f ≡ 0) × (length texts ≢ length fs))
    ⊎ ((length texts ≡ length fs) × IsFirstBad n fs texts f)

-- the line spells no job behind these sessions, and its fault is field f
abbrev pub IsBadLine : List (List ℕ) → List ℕ → ℕ → Type 0
IsBadLine keys line f = HasFault 1 (forms keys) (fields_of line) f

-- ---- the same with the fields by their names

-- the line has these fourteen fields: words, texts of bytes, and numbers in decimal
pub record SpellsByName (keys : List (List ℕ)) (line : List ℕ) (j : Job) : Type 0 where
  pub key : List ℕ
  pub iv : List ℕ
  pub auth_key : List ℕ
  pub aad : List ℕ
  pub packet : List ℕ
  pub fields : fields_of line
      ≡ cipher_word j.cipher ∷ dir_word j.dir ∷ order_word j.order ∷ key ∷ iv ∷ decimal j.cipher_off ∷ decimal j.cipher_len
      ∷ auth_word j.auth ∷ auth_key ∷ aad ∷ decimal j.hash_off ∷ decimal j.hash_len ∷ decimal j.tag_len ∷ packet ∷ []
  pub key_is : SpellsCipherKey keys key (j.key, j.session)
  pub iv_is : SpellsBytes iv j.iv
  pub auth_key_is : SpellsBytes auth_key j.auth_key
  pub aad_is : SpellsBytes aad j.aad
  pub packet_is : SpellsBytes packet j.packet
  pub cipher_off_fits : j.cipher_off < 10 ^ 5
  pub cipher_len_fits : j.cipher_len < 10 ^ 5
  pub hash_off_fits : j.hash_off < 10 ^ 5
  pub hash_len_fits : j.hash_len < 10 ^ 5
  pub tag_len_fits : j.tag_len < 256
