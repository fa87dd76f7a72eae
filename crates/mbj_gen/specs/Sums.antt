-- What results come to, as they are added one after another.
use Rattle.std.specs.Prelude.{◌≡◌, List, length, take}
use Rattle.sha2.specs.Hashers.{Holds256}
use Rattle.mbj_types.specs.declared.done.Done.{Done}
use Rattle.mbj_text.specs.Line.{text}
use Rattle.mbj_gen.specs.Summary.{accepted_count}
use Rattle.mbj_gen.specs.declared.summary.Summary.{Summary}

-- the summary is that of the first of the results: how many are accepted, and the length and the hasher of their text
pub record IsSumOf (results : List Done) (s : Summary) : Type 0 where
  pub good_is : s.accepted ≡ accepted_count (take s.count results)
  pub size_is : s.bytes ≡ length (text (take s.count results))
  pub holds : Holds256 s.hasher (text (take s.count results))
