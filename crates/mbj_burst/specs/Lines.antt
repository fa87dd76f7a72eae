-- The lines of a burst. Numbers are in decimal, and each line ends with LF.
use Rattle.std.specs.Prelude.{ℕ, List, ◌++◌, codes, decimal}
use Rattle.mbj_burst.specs.declared.line.BurstLine.{BurstLine}
use Rattle.mbj_burst.specs.declared.line.BurstLine.TheVariants as line

abbrev pub line_text : BurstLine → List ℕ
line_text (line.Submit jobs given) = codes "submit " ++ (decimal jobs ++ (codes " " ++ (decimal given ++ codes "\n")))
line_text line.Full = codes "full\n"
line_text (line.Flush given) = codes "flush " ++ (decimal given ++ codes "\n")
