-- The lines of results, one after another.
use Rattle.std.proofs.Common.{◌≡◌, ◌∙◌, ◌+◌, ◌<◌, ◌++◌, ap, sym, ℕ, List, Some, drop, get_or, length, slice_get}
use Rattle.std.proofs.lemmas.List.{drop_more}
use Rattle.mbj_types.specs.declared.done.Done.{Done}
use Rattle.mbj_text.specs.Line.{done_line, text_from}
use Rattle.mbj_work.proofs.Deals.{drop_next}

-- the text of the results from a place on begins with the line of the result there
pub text_first : (n : ℕ) (results : List Done) (done : Done) → slice_get results n ≡ Some done
    → text_from n (drop n results) ≡ done_line n done ++ text_from (n + 1) (drop (n + 1) results)
text_first n results done is = ap (λ (ds : List Done). text_from n ds) (drop_next results n done is)

pub text_at : (n : ℕ) (results : List Done) (done : Done) → n < length results → done ≡ get_or results n done
    → text_from n (drop n results) ≡ done_line n done ++ text_from (n + 1) (drop (n + 1) results)
text_at n results done below is =
    ap (λ (ds : List Done). text_from n ds) (drop_more results n done below)
    ∙ ap (λ (d : Done). done_line n d ++ text_from (n + 1) (drop (n + 1) results)) (sym is)
