-- What a call does to a source or to a sink.
use Rattle.std.specs.Prelude.{◌≡◌, ℕ, List, Option}
use Rattle.mbj_io.specs.Faults.{Rose, counted}

-- a source or a sink before and after a call: the bytes that it tells, and its count of faults
pub record Stream : Type 0 where
  pub before : Option (List ℕ)
  pub after : Option (List ℕ)
  pub faults_before : ℕ
  pub faults_after : ℕ

abbrev pub stream : {X : Type 0} → (X → Option (List ℕ)) → (X → ℕ) → X → X → Stream
stream bytes faults old new = record { before = bytes old; after = bytes new; faults_before = faults old; faults_after = faults new }

abbrev pub Fails : Stream → Type 0
Fails s = Rose s.faults_before s.faults_after

-- exactly one fault was counted, unless the count stood at its last value
pub record FailsOnce (s : Stream) : Type 0 where
  pub rose : Fails s
  pub once : s.faults_after ≡ counted s.faults_before

-- the bytes stay, and so does the count of faults
pub record IsUntouched (s : Stream) : Type 0 where
  pub bytes : s.after ≡ s.before
  pub faults : s.faults_after ≡ s.faults_before
