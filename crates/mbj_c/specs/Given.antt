-- A result that is given back, and the range of its packet that C gets.
use Rattle.mbj_types.specs.declared.done.Done.{Done}
use Rattle.mbj_c.specs.declared.range.CipherRange.{CipherRange}

pub record Given : Type 0 where
  pub done : Done
  pub range : CipherRange
