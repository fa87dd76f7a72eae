-- The calls of a source or a sink in memory.
use Rattle.std.specs.Prelude.{ℕ, List, Bool, Contains, if◌then◌else◌}
use Rattle.mbj_io.specs.Faults.{counted}

-- what the calls are to be, and what they were
pub record CallsView : Type 0 where
  -- at most how many bytes a call moves
  pub piece : ℕ
  -- the numbers of the calls that fail
  pub fails : List ℕ
  -- the number of the next call, from 0
  pub made : ℕ
  -- how many calls failed
  pub faults : ℕ

-- before the first call
abbrev pub first_calls : ℕ → List ℕ → CallsView
first_calls piece fails = record { piece = piece; fails = fails; made = 0; faults = 0 }

-- the next call is one of those that fail
abbrev pub IsListed : CallsView → Type 0
IsListed calls = Contains calls.fails calls.made

-- after one more call, which failed or didn't
abbrev pub after_call : CallsView → Bool → CallsView
after_call calls failed = record calls {
  made = counted calls.made;
  faults = if failed then counted calls.faults else calls.faults;
}
