-- What flows to a sink.
use Rattle.std.specs.Prelude.{◌≡◌, ◌≤◌, ℕ, List, ◌++◌, Option, Result, MatchResult}
use Rattle.std.specs.Io.KnownBytes.{Appends}
use Rattle.mbj_io.specs.Streams.{Stream, Fails}
use Rattle.mbj_io.specs.declared.traits.Failed.{Failed}

-- a prefix of the text was appended to what was held
pub record GainsPrefix (old new : Option (List ℕ)) (text : List ℕ) : Type 0 where
  pub front : List ℕ
  pub rest : List ℕ
  pub text_is : text ≡ front ++ rest
  pub written : Appends old new front

-- the whole text was appended, and no write failed
pub record WritesAll (s : Stream) (text : List ℕ) : Type 0 where
  pub written : Appends s.before s.after text
  pub calm : s.faults_after ≡ s.faults_before

-- a prefix of the text was appended, and then a write failed
pub record WritesFront (s : Stream) (text : List ℕ) : Type 0 where
  pub front : GainsPrefix s.before s.after text
  pub failed : Fails s
  pub never_falls : s.faults_before ≤ s.faults_after

-- what a call answers that writes a text: Ok if the whole text was written, and Failed if it broke off
abbrev pub Writes : Result (Unit {0}) Failed → Stream → List ℕ → Type 0
Writes answer s text = MatchResult answer (λ _. WritesAll s text) (λ _. WritesFront s text)
