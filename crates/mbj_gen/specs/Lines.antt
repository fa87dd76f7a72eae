-- The lines of a summary. Numbers are in decimal, and each line ends with LF.
use Rattle.std.specs.Prelude.{ℕ, List, ◌++◌, codes, decimal}
use Rattle.mbj_text.specs.Line.{shown}
use Rattle.mbj_gen.specs.declared.line.SummaryLine.{SummaryLine}
use Rattle.mbj_gen.specs.declared.line.SummaryLine.TheVariants as line

abbrev pub line_text : SummaryLine → List ℕ
line_text (line.Jobs count) = codes "jobs " ++ (decimal count ++ codes "\n")
line_text (line.Accepted count) = codes "ok " ++ (decimal count ++ codes "\n")
line_text (line.Invalid count) = codes "invalid " ++ (decimal count ++ codes "\n")
line_text (line.Bytes count) = codes "bytes " ++ (decimal count ++ codes "\n")
line_text (line.Sha256 digest) = codes "sha256 " ++ (shown digest ++ codes "\n")
