-- The lists so far are empty, each with its room, and there is room for the others.
use Rattle.std.proofs.Common.{◌≡◌, ◌≤◌, [], All, length, vec_capacity}
use Rattle.mbj_work.proofs.dealing.empty_lists.Given as goal

abbrev pub invariant-loop : goal.invariant-loop
invariant-loop l = record {
  count : length l.lists.items ≡ l.counter;
  place : l.fn.submitters ≤ vec_capacity l.lists;
  empty : All (λ list. list.items ≡ []) l.lists.items;
  room : All (λ list. l.fn.capacity ≤ vec_capacity list) l.lists.items;
}
