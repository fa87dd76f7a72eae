-- A file as lines, and a line as fields.
use Rattle.std.specs.Prelude.{ℕ, ◌+◌, ◌==◌, Bool, true, List, [], ◌∷◌, if◌then◌else◌, codes}
use Rattle.std.specs.List.{slice_split, before_first, after_first}
use Rattle.std.specs.Str.{bytes_eq}
use Rattle.std.specs.Str.Lines.{strip_carriage_return}

-- LF, at which a file is cut into lines, the space, at which a line is cut into fields, and `#`
abbrev pub line_feed : ℕ
line_feed = 10

abbrev pub space : ℕ
space = 32

abbrev pub number_sign : ℕ
number_sign = 35

-- the parts between the bytes that are mark: one more than there are such bytes
unfoldable pub cut : ℕ → List ℕ → List (List ℕ)
cut mark text = slice_split (λ b. b == mark) text

-- a line is skipped where it is empty or begins with `#`
abbrev pub is_skipped : List ℕ → Bool
is_skipped [] = true
is_skipped (first ∷ rest) = first == number_sign

-- a line with its number in the file
abbrev pub Numbered : Type 0
Numbered = ℕ × List ℕ

-- the lines that aren't skipped, if lines are numbered from n on; one CR at a line's end is dropped first
unfoldable pub kept_lines_from : ℕ → List (List ℕ) → List Numbered
kept_lines_from n [] = []
kept_lines_from n (line ∷ lines) =
    let text = strip_carriage_return line in
    if is_skipped text then kept_lines_from (n + 1) lines else (n, text) ∷ kept_lines_from (n + 1) lines

-- the lines of a file that aren't skipped: it is cut at each LF, and lines are counted from 1;
-- what is behind the last LF is a line too, which is skipped if it is empty
abbrev pub kept_lines : List ℕ → List Numbered
kept_lines bytes = kept_lines_from 1 (cut line_feed bytes)

-- a line that is exactly `%` ends the session lines and job lines of a replay
abbrev pub is_mark : List ℕ → Bool
is_mark line = bytes_eq line (codes "%")

-- the session lines and job lines of a replay: those before the first such line, or all if there is none
abbrev pub job_part : List Numbered → List Numbered
job_part lines = before_first (λ line. is_mark line.1) lines

-- its script lines: those behind the first such line, or none if there is none
abbrev pub script_part : List Numbered → List Numbered
script_part lines = after_first (λ line. is_mark line.1) lines
