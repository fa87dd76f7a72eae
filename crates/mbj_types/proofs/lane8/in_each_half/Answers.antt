use Rattle.std.proofs.Common.{◌%◌, ◌++◌, get_or, ◌∙◌, arith}
use Rattle.std.proofs.lemmas.List.FromFn.{get_or-map-range_with_len}
use Rattle.std.proofs.lemmas.List.{get_or_append_left}
use Rattle.mbj_types.proofs.lane8.in_each_half.Goals as goal

pub returns : goal.returns
returns c i h =
    let t = c.args.table.now in
    get_or-map-range_with_len (λ j. get_or (t ++ t) (j % 16) 0) 0 32 i i 0 h (omega arith)
    ∙ get_or_append_left t t 0 (i % 16) (omega (arith, c.told-table))
