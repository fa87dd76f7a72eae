-- Sources and sinks in memory, as contracts see them.
use Rattle.std.specs.Prelude.{◌≡◌, ℕ, ◌<◌, List, [], length}
use Rattle.mbj_io.specs.Calls.{CallsView}

-- a source: what is left of its bytes, and its calls
pub record SourceView : Type 0 where
  -- the bytes not yet read
  pub rest : List ℕ
  pub calls : CallsView

-- a sink: what it holds, its room, and its calls
pub record SinkView : Type 0 where
  -- the bytes taken
  pub held : List ℕ
  -- how many bytes there is room for in all
  pub room : ℕ
  pub calls : CallsView

-- with no call listed, none has failed
abbrev pub FailsOnlyWhereListed : CallsView → Type 0
FailsOnlyWhereListed calls = calls.fails ≡ [] → calls.faults ≡ 0

-- with no call listed, none has failed while room is left
abbrev pub FailsOnlyWhereListedOrFull : List ℕ → ℕ → CallsView → Type 0
FailsOnlyWhereListedOrFull held room calls =
    calls.fails ≡ [] → length held < room → calls.faults ≡ 0
