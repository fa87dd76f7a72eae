use Rattle.std.proofs.Common.{rules, arith}
use Rattle.mbj_args.proofs.table.check.Goals as goal

pub returns-then-not-takes_key : goal.returns-then-not-takes_key
returns-then-not-takes_key c = grind arith

pub returns-then-not-takes_iv : goal.returns-then-not-takes_iv
returns-then-not-takes_iv c = grind arith

pub returns-then-passes_end : goal.returns-then-passes_end
returns-then-passes_end c = grind arith

pub returns-then-not-takes_range : goal.returns-then-not-takes_range
returns-then-not-takes_range c = grind arith

pub returns : goal.returns
returns c = search rules
