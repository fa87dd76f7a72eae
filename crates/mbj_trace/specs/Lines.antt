-- The lines of a trace. Numbers are in decimal, and each line ends with LF.
use Rattle.std.specs.Prelude.{ℕ, List, ◌++◌, codes, decimal}
use Rattle.mbj_types.specs.Kinds.{name_of}
use Rattle.mbj_text.specs.Line.{number_or_none}
use Rattle.mbj_trace.specs.declared.line.TraceLine.{TraceLine}
use Rattle.mbj_trace.specs.declared.line.TraceLine.TheVariants as line

abbrev pub line_text : TraceLine → List ℕ
line_text (line.Submit job given) = codes "submit " ++ (decimal job ++ (codes " " ++ (number_or_none given ++ codes "\n")))
line_text line.Full = codes "full\n"
line_text (line.Completed given) = codes "completed " ++ (number_or_none given ++ codes "\n")
line_text (line.Flush given) = codes "flush " ++ (number_or_none given ++ codes "\n")
line_text (line.Rounds kind rounds blocks) =
    codes "rounds " ++ (name_of kind ++ (codes " " ++ (decimal rounds ++ (codes " " ++ (decimal blocks ++ codes "\n")))))
