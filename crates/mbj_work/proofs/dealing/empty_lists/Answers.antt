use Rattle.std.proofs.Common.{◌≡◌, ◌+◌, ◌≤◌, [], ◌∷◌, length, length-append, All, vec_capacity, sym, subst, ap, ◌∙◌}
use Rattle.std.proofs.lemmas.List.Elements.{All-push}
use Rattle.mbj_work.proofs.dealing.empty_lists.Goals as goal

pub loop-preserved : goal.loop-preserved
loop-preserved c = let was = c.loop.invariant in let pushed = c.push_reserved.ensures in let list = c.in_ok-list.ensures in record {
  count = ap length pushed.items ∙ length-append c.loop.lists.items (c.in_ok-list.list ∷ []) ∙ ap (λ n. n + 1) was.count;
  place = subst (λ n. c.args.submitters ≤ n) (sym pushed.capacity) was.place;
  empty = subst (All (λ list. list.items ≡ [])) (sym pushed.items) (All-push (λ list. list.items ≡ []) _ _ was.empty list.items);
  room = subst (All (λ list. c.args.capacity ≤ vec_capacity list)) (sym pushed.items)
      (All-push (λ list. c.args.capacity ≤ vec_capacity list) _ _ was.room list.capacity);
}
