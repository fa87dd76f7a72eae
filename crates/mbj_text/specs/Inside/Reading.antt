-- The reader of a line as a function, from left to right, and what answers are right. Private functions alone promise it.
use Rattle.std.specs.Prelude.{◌≡◌, ◌==◌, ◌&&◌, ◌||◌, ◌+◌, ◌-◌, ◌*◌, ℕ, Bool, false, not, List, [], ◌∷◌, ◌++◌, length, map, drop, Ok, Err, Result, Option, Some, None, nat_le, nat_lt, if◌then◌else◌, codes, slice_get, slice_index, option_map, MatchOption}
use denote.Ref.{Bor}
use Rattle.std.specs.Char.{is_ascii_digit}
use Rattle.std.specs.Str.{bytes_eq}
use Rattle.std.specs.Option.{option_map_or, option_and_then}
use Rattle.std.specs.Result.{result_ok}
use Rattle.hex.specs.Hex.{decode_of}
use Rattle.mbj_types.specs.Aes.{is_key_size}
use Rattle.mbj_types.specs.declared.limits.TheConstants.{MAX_SESSIONS}
use Rattle.mbj_types.specs.declared.job.Job.{Job}
use Rattle.mbj_types.specs.declared.job.Cipher.{Cipher}
use Rattle.mbj_types.specs.declared.job.Cipher.TheVariants as cipher
use Rattle.mbj_types.specs.declared.job.Dir.{Dir}
use Rattle.mbj_types.specs.declared.job.Dir.TheVariants.{Enc, Dec}
use Rattle.mbj_types.specs.declared.job.Order.{Order}
use Rattle.mbj_types.specs.declared.job.Order.TheVariants.{CipherHash, HashCipher}
use Rattle.mbj_types.specs.declared.job.Auth.{Auth}
use Rattle.mbj_types.specs.declared.job.Auth.TheVariants as auth
use Rattle.mbj_text.specs.declared.command.Cmd.{Cmd}
use Rattle.mbj_text.specs.declared.command.Cmd.TheVariants as command
use Rattle.mbj_text.specs.declared.command.Verb.{Verb}
use Rattle.mbj_text.specs.declared.command.Verb.TheVariants as verb
use Rattle.mbj_text.specs.declared.kept_lines.EntriesEnd.{EntriesEnd}
use Rattle.mbj_text.specs.declared.kept_lines.EntriesEnd.TheVariants as entries_end
use Rattle.mbj_text.specs.declared.fault.LineFault.{LineFault}
use Rattle.mbj_text.specs.declared.fault.LineFault.TheVariants as line_fault
use Rattle.mbj_text.specs.declared.fault.TextFault.{TextFault}
use Rattle.mbj_text.specs.declared.fault.TextFault.TheVariants as text_fault
use Rattle.mbj_text.specs.declared.limits.TheConstants.{JOB_LIMIT}
use Rattle.mbj_text.specs.Words.{cipher_word, dir_word, order_word, auth_word, session_word, verb_word}
use Rattle.mbj_text.specs.Cut.{Numbered, cut, is_mark, job_part, script_part}
use Rattle.mbj_text.specs.Script.{number_forms}
use Rattle.mbj_text.specs.Entries.{Entry, SessionEntry, JobEntry, session_forms}
use Rattle.mbj_text.specs.Spelling.{Form, CipherWord, DirWord, OrderWord, AuthWord, Hex, Key, CipherKey, Number, Below, Value, Values, forms, fields_of}

-- ---- fields

-- the value in the first row whose word is the text
unfoldable pub lookup : {A : Type 0} → List (List ℕ × A) → List ℕ → Option A
lookup [] text = None
lookup (row ∷ rows) text = if bytes_eq row.0 text then Some row.1 else lookup rows text

-- a row for each value
abbrev pub rows_of : {A : Type 0} → (A → List ℕ) → List A → List (List ℕ × A)
rows_of word values = map (λ v. (word v, v)) values

-- all ciphers, all authentications, and all verbs
abbrev pub ciphers : List Cipher
ciphers = cipher.Null ∷ cipher.Cbc ∷ cipher.Ctr ∷ cipher.Gcm ∷ cipher.Ccm ∷ []

abbrev pub auths : List Auth
auths =
    auth.Null ∷ auth.HmacSha1 ∷ auth.HmacSha224 ∷ auth.HmacSha256 ∷ auth.HmacSha384 ∷ auth.HmacSha512
    ∷ auth.Cmac128 ∷ auth.Cmac256 ∷ auth.Gcm ∷ auth.Ccm
    ∷ auth.Sha1 ∷ auth.Sha224 ∷ auth.Sha256 ∷ auth.Sha384 ∷ auth.Sha512 ∷ auth.Gmac
    ∷ auth.HmacSha1States ∷ auth.HmacSha224States ∷ auth.HmacSha256States ∷ auth.HmacSha384States ∷ auth.HmacSha512States ∷ []

abbrev pub verbs : List Verb
verbs = verb.Post ∷ verb.Claim ∷ verb.Flush ∷ verb.Collect ∷ []

abbrev pub cipher_of : List ℕ → Option Cipher
cipher_of text = lookup (rows_of cipher_word ciphers) text

abbrev pub dir_of : List ℕ → Option Dir
dir_of text = lookup (rows_of dir_word (Enc ∷ Dec ∷ [])) text

abbrev pub order_of : List ℕ → Option Order
order_of text = lookup (rows_of order_word (CipherHash ∷ HashCipher ∷ [])) text

abbrev pub auth_of : List ℕ → Option Auth
auth_of text = lookup (rows_of auth_word auths) text

abbrev pub verb_of : List ℕ → Option Verb
verb_of text = lookup (rows_of verb_word verbs) text

abbrev pub bytes_of : List ℕ → Option (List ℕ)
bytes_of text =
    if bytes_eq text (codes "-") then Some []
    else (if length text == 0 then None else result_ok (decode_of text))

-- the number that the digits write behind n, or none
abbrev pub digits_after : ℕ → List ℕ → Option ℕ
digits_after n [] = Some n
digits_after n (x ∷ xs) = if is_ascii_digit x then digits_after (n * 10 + (x - 48)) xs else None

-- it has 1 to 5 bytes, and the first isn't `0` unless it is the only one
abbrev pub is_number_sized : List ℕ → Bool
is_number_sized text =
    nat_lt 0 (length text) && (nat_le (length text) 5 && (length text == 1 || not (slice_index text 0 == 48)))

abbrev pub spelled_number : List ℕ → Option ℕ
spelled_number text = if is_number_sized text then digits_after 0 text else None

abbrev pub below_of : ℕ → List ℕ → Option ℕ
below_of limit text = option_and_then (λ n. if nat_lt n limit then Some n else None) (spelled_number text)

-- the key of a session
abbrev pub key_of : List ℕ → Option (List ℕ)
key_of text = option_and_then (λ key. if is_key_size (length key) then Some key else None) (bytes_of text)

-- the sign that stands before the number of a session
abbrev pub at_sign : ℕ
at_sign = 64

-- the key of session n, and its number
abbrev pub key_at : List (List ℕ) → ℕ → Option (List ℕ × Option ℕ)
key_at keys n = option_map (λ key. (key, Some n)) (slice_get keys n)

-- the key of a cipher and its session, behind sessions with these keys
abbrev pub cipher_key_of : List (List ℕ) → List ℕ → Option (List ℕ × Option ℕ)
cipher_key_of keys [] = None
cipher_key_of keys (first ∷ rest) =
    if first == at_sign then option_and_then (key_at keys) (spelled_number rest)
    else option_map (λ key. (key, None)) (bytes_of (first ∷ rest))

-- what the text is read as in a form
abbrev pub value_of : (form : Form) → List ℕ → Option (Value form)
value_of CipherWord = cipher_of
value_of DirWord = dir_of
value_of OrderWord = order_of
value_of AuthWord = auth_of
value_of Hex = bytes_of
value_of Key = key_of
value_of (CipherKey keys) = cipher_key_of keys
value_of Number = spelled_number
value_of (Below limit) = below_of limit

-- ---- lines

-- the parts of what is left of a text, if anything is
abbrev pub parts_left : ℕ → Option (List ℕ) → List (List ℕ)
parts_left mark None = []
parts_left mark (Some text) = cut mark text

-- what is read of a line, or its fault, which is never want of memory
abbrev pub Read : Type 0 → Type 0
Read A = Result A LineFault

-- the ? of the logic
infixl 10 ◌>>=◌
abbrev pub ◌>>=◌ : {A B : Type 0} → Read A → (A → Read B) → Read B
(Ok x) >>= f = f x
(Err fault) >>= f = Err fault

-- the fault is this field
abbrev pub bad_field : {A : Type 0} → ℕ → Read A
bad_field f = Err (line_fault.Field f)

-- how many fields are read, and those that are left
pub record Cursor : Type 0 where
  pub taken : ℕ
  pub left : List (List ℕ)

-- before the first field of a line
abbrev pub at_start : List ℕ → Cursor
at_start line = record { taken = 0; left = fields_of line }

-- the next field as a value, and the cursor behind it
abbrev pub next_from : {A : Type 0} → (List ℕ → Option A) → ℕ → List (List ℕ) → Read (A × Cursor)
next_from read n [] = bad_field 0
next_from read n (text ∷ texts) = option_map_or (λ x. Ok (x, record { taken = n + 1; left = texts })) (read text) (bad_field (n + 1))

abbrev pub next_of : {A : Type 0} → (List ℕ → Option A) → Cursor → Read (A × Cursor)
next_of read cursor = next_from read cursor.taken cursor.left

-- the fields one after the other, and then what comes of their values
abbrev pub fields_from : {A : Type 0} → (fs : List Form) → Cursor → (Values fs → Read A) → Read A
fields_from [] cursor next = next tt
fields_from (form ∷ rest) cursor next =
    next_of (value_of form) cursor >>= λ (x : Value form × Cursor). fields_from rest x.1 (λ vs. next (x.0, vs))

-- the job with these values, which are of the same types whatever sessions there are
abbrev pub job_with : Values (forms []) → Job
job_with vs = record {
  cipher = vs.0;
  dir = vs.1.0;
  order = vs.1.1.0;
  key = vs.1.1.1.0.0;
  iv = vs.1.1.1.1.0;
  cipher_off = vs.1.1.1.1.1.0;
  cipher_len = vs.1.1.1.1.1.1.0;
  auth = vs.1.1.1.1.1.1.1.0;
  auth_key = vs.1.1.1.1.1.1.1.1.0;
  aad = vs.1.1.1.1.1.1.1.1.1.0;
  hash_off = vs.1.1.1.1.1.1.1.1.1.1.0;
  hash_len = vs.1.1.1.1.1.1.1.1.1.1.1.0;
  tag_len = vs.1.1.1.1.1.1.1.1.1.1.1.1.0;
  packet = vs.1.1.1.1.1.1.1.1.1.1.1.1.1.0;
  session = vs.1.1.1.0.1;
}

-- what comes of the fields that are left, if there are as many as forms
abbrev pub all_from : {A : Type 0} → (fs : List Form) → Cursor → (Values fs → A) → Read A
all_from fs cursor make =
    if length cursor.left == length fs then fields_from fs cursor (λ vs. Ok (make vs)) else bad_field 0

-- the job of a line behind sessions with these keys, or its fault
unfoldable pub job_of : List (List ℕ) → List ℕ → Read Job
job_of keys line = all_from (forms keys) (at_start line) job_with

-- the key of a session line, or its fault
unfoldable pub session_of : List ℕ → Read (List ℕ)
session_of line = all_from session_forms (record { taken = 1; left = drop 1 (fields_of line) }) (λ vs. vs.0)

-- the first of these fields is the word of a session line
abbrev pub begins_session : List (List ℕ) → Bool
begins_session [] = false
begins_session (first ∷ rest) = bytes_eq first session_word

-- the entry of a line behind sessions with these keys and this many jobs, or its fault
unfoldable pub entry_of : List (List ℕ) → ℕ → List ℕ → Read Entry
entry_of keys job_count line =
    if begins_session (fields_of line)
    then (if length keys == MAX_SESSIONS then bad_field 1 else session_of line >>= λ key. Ok (SessionEntry key))
    else (if job_count == JOB_LIMIT then Err line_fault.Limit else job_of keys line >>= λ job. Ok (JobEntry job))

-- the command with this word and these numbers
abbrev pub command_with : (submitters workers : ℕ) (verb : Verb) → Values (number_forms submitters workers verb) → Cmd
command_with submitters workers verb.Post vs = command.Post vs.0
command_with submitters workers verb.Claim vs = command.Claim vs.0 vs.1.0
command_with submitters workers verb.Flush vs = command.Flush vs.0
command_with submitters workers verb.Collect vs = command.Collect vs.0

-- the command of a line, or its fault
unfoldable pub command_of : ℕ → ℕ → List ℕ → Read Cmd
command_of submitters workers line =
    next_of verb_of (at_start line)
    >>= λ (x : Verb × Cursor). all_from (number_forms submitters workers x.0) x.1 (command_with submitters workers x.0)

-- ---- answers, but for want of memory

-- the fault is that of the reading
abbrev pub Fails : {A : Type 0} → LineFault → Read A → Type 0
Fails line_fault.Memory read = Unit {0}
Fails (line_fault.Field f) read = read ≡ Err (line_fault.Field f)
Fails line_fault.Limit read = read ≡ Err line_fault.Limit

-- the answer is that of the reading
abbrev pub Gives : {A : Type 0} → Result A LineFault → Read A → Type 0
Gives (Ok x) read = read ≡ Ok x
Gives (Err e) read = Fails e read

-- the answer is the next field's value, and the cursor moves from old to new
abbrev pub ReadsNext : {A : Type 0} → (List ℕ → Option A) → Cursor → Result A LineFault → Cursor → Type 0
ReadsNext read old (Ok x) new = next_of read old ≡ Ok (x, new)
ReadsNext read old (Err e) new = Fails e (next_of read old)

-- the keys and the jobs that were read
abbrev pub KeysAndJobs : Type 0
KeysAndJobs = List (List ℕ) × List Job

-- these and one entry more
abbrev pub with_entry : KeysAndJobs → Entry → KeysAndJobs
with_entry read (SessionEntry key) = (read.0 ++ key ∷ [], read.1)
with_entry read (JobEntry job) = (read.0, read.1 ++ job ∷ [])

-- the answer is that of the reading, whose entry comes to old and makes new
abbrev pub Adds : KeysAndJobs → Result (Unit {0}) LineFault → KeysAndJobs → Read Entry → Type 0
Adds old (Ok done) new read = (entry : Entry) × (read ≡ Ok entry) × (new ≡ with_entry old entry)
Adds old (Err e) new read = Fails e read

-- the fault of a file whose line n has this fault
abbrev pub fault_at : ℕ → LineFault → TextFault
fault_at n (line_fault.Field f) = text_fault.Line n f
fault_at n line_fault.Limit = text_fault.Limit n
fault_at n line_fault.Memory = text_fault.Memory

-- ---- answers

-- the answer is right: what the file spells, or where it is bad or too long, or memory ran out
abbrev pub Answers : {A : Type 0} → (A → Type 0) → (ℕ → ℕ → Type 0) → (ℕ → Type 0) → Result A TextFault → Type 0
Answers Good Bad Over (Ok x) = Good x
Answers Good Bad Over (Err (text_fault.Line line field)) = Bad line field
Answers Good Bad Over (Err (text_fault.Limit line)) = Over line
Answers Good Bad Over (Err text_fault.Memory) = Unit {0}

-- ---- the parts of a file

-- the session lines and job lines end at this line
abbrev pub ends_entries : EntriesEnd → List ℕ → Bool
ends_entries entries_end.File line = false
ends_entries entries_end.Mark line = is_mark line

-- the session lines and job lines among lines, which end where this says
abbrev pub part_before : EntriesEnd → List Numbered → List Numbered
part_before entries_end.File lines = lines
part_before entries_end.Mark lines = job_part lines

-- the lines behind the one that ends them
abbrev pub part_behind : EntriesEnd → List Numbered → List Numbered
part_behind entries_end.File lines = []
part_behind entries_end.Mark lines = script_part lines

-- the answer is the next session line or job line of old, or none; new is what is left
abbrev pub TakesEntryLine : EntriesEnd → List Numbered → Option (ℕ × Bor (List ℕ)) → List Numbered → Type 0
TakesEntryLine end old line new = MatchOption line
    ((part_before end old ≡ []) × (new ≡ part_behind end old))
    (λ l. (part_before end old ≡ (l.0, l.1.now) ∷ part_before end new) × (part_behind end old ≡ part_behind end new))
