-- The lines of results. Numbers are in decimal, and each line ends with LF.
use Rattle.std.specs.Prelude.{ℕ, ◌+◌, List, [], ◌∷◌, ◌++◌, Option, Some, None, codes, decimal}
use Rattle.hex.specs.Hex.{encode_lower}
use Rattle.mbj_types.specs.declared.done.Done.{Done}
use Rattle.mbj_types.specs.declared.done.Status.{Status}
use Rattle.mbj_types.specs.declared.done.Status.TheVariants as status
use Rattle.mbj_types.specs.Reasons.{number_of}
use Rattle.mbj_text.specs.declared.line.Part.{Part}
use Rattle.mbj_text.specs.declared.line.Part.TheVariants.{Words, Number, Hex}

-- bytes in lower-case hexadecimal, `-` for none
abbrev pub shown : List ℕ → List ℕ
shown [] = codes "-"
shown (byte ∷ bytes) = encode_lower (byte ∷ bytes)

-- a part as text
abbrev pub text_of : Part → List ℕ
text_of (Words words) = words.now
text_of (Number n) = decimal n
text_of (Hex bytes) = shown bytes.now

-- a number in decimal, or that there is none
abbrev pub number_or_none : Option ℕ → List ℕ
number_or_none None = codes "none"
number_or_none (Some n) = decimal n

-- the parts one after another, and a text behind them
abbrev pub text_before : List Part → List ℕ → List ℕ
text_before [] rest = rest
text_before (part ∷ parts) rest = text_of part ++ text_before parts rest

-- the parts one after another, and LF
abbrev pub line_of : List Part → List ℕ
line_of parts = text_before parts (codes "\n")

-- `N ok PACKET TAG`
abbrev pub ok_line : ℕ → List ℕ → List ℕ → List ℕ
ok_line n packet tag =
    decimal n ++ codes " ok " ++ shown packet ++ codes " " ++ shown tag ++ codes "\n"

-- `N invalid-args R`
abbrev pub invalid_line : ℕ → ℕ → List ℕ
invalid_line n reason = decimal n ++ codes " invalid-args " ++ decimal reason ++ codes "\n"

-- the line of result n, which ended so
abbrev pub line_by : Status → ℕ → Done → List ℕ
line_by status.Ok n done = ok_line n done.packet done.tag
line_by (status.InvalidArgs reason) n done = invalid_line n (number_of reason)

abbrev pub done_line : ℕ → Done → List ℕ
done_line n done = line_by done.status n done

-- the lines of results that are numbered from n on
abbrev pub text_from : ℕ → List Done → List ℕ
text_from n [] = []
text_from n (done ∷ rest) = done_line n done ++ text_from (n + 1) rest

-- the lines of results, numbered from 0
abbrev pub text : List Done → List ℕ
text results = text_from 0 results
