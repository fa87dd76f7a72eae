-- There is room for what comes back, which goes behind the results in its order.
use Rattle.std.proofs.Common.{◌≡◌, ◌≤◌, ◌+◌, ℕ, List, [], ◌∷◌, ◌++◌, length, option_to_list, ap, sym, ◌∙◌, arith, length-append, append_assoc}
use Rattle.mbj_types.specs.declared.done.Done.{Done}
use Rattle.mbj_types.specs.Result.{result_of}
use Rattle.mbj_work.proofs.task.submit.Goals as goal

room-for-back : (results owed flushed given left : List Done) (r : Done) (room : ℕ) → (flushed ++ given) ++ left ≡ owed ++ r ∷ []
    → length (results ++ owed) + 1 ≤ room → length results + length flushed + length given ≤ room
room-for-back results owed flushed given left r room order fits =
    omega (arith, fits, ap length order, length-append (flushed ++ given) left, length-append flushed given, length-append owed (r ∷ []), length-append results owed)

kept-in-order : (results flushed given owed left more all : List Done) (r : Done) → more ≡ results ++ flushed → all ≡ more ++ given
    → (flushed ++ given) ++ left ≡ owed ++ r ∷ [] → all ++ left ≡ (results ++ owed) ++ r ∷ []
kept-in-order results flushed given owed left more all r is_more is_all order =
    ap (λ l. l ++ left) (is_all ∙ ap (λ l. l ++ given) is_more ∙ append_assoc results flushed given)
    ∙ append_assoc results (flushed ++ given) left ∙ ap (λ l. results ++ l) order ∙ sym (append_assoc results owed (r ∷ []))

pub keep-requires : goal.keep-requires
keep-requires c = let told = c.submit_job-submitted in
    let fits = room-for-back c.args.results.now.items c.args.manager.now.owed (option_to_list told.result.flushed) (option_to_list told.result.given)
    told.new.manager.owed (result_of c.args.job) _ told.ensures.order c.requires.room in
    record { room = omega (arith, fits) }

pub keep-requires-2 : goal.keep-requires-2
keep-requires-2 c = let told = c.submit_job-submitted in
    let fits = room-for-back c.args.results.now.items c.args.manager.now.owed (option_to_list told.result.flushed) (option_to_list told.result.given)
    told.new.manager.owed (result_of c.args.job) _ told.ensures.order c.requires.room in
    record {
      room = omega (arith, fits, ap length c.keep.ensures.results, length-append c.args.results.now.items (option_to_list told.result.flushed), c.keep.ensures.room);
    }

pub returns-clause-order : goal.returns-clause-order
returns-clause-order c = let told = c.submit_job-submitted in
    kept-in-order c.args.results.now.items (option_to_list told.result.flushed) (option_to_list told.result.given) c.args.manager.now.owed told.new.manager.owed
    c.keep.new.results.items c.keep-2.new.results.items (result_of c.args.job) c.keep.ensures.results c.keep-2.ensures.results told.ensures.order
