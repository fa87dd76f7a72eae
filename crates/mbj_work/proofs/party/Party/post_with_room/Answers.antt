-- The job's result is due behind those that were.
use Rattle.std.proofs.Common.{[], ◌∷◌, ◌++◌, ap, ◌∙◌}
use Rattle.mbj_types.specs.Result.{result_of}
use Rattle.mbj_front.specs.Seats.{view_of}
use Rattle.mbj_work.proofs.Collecting.{due_more}
use Rattle.mbj_work.proofs.party.Party.post_with_room.Goals as goal

pub returns-clause-number : goal.returns-clause-number
returns-clause-number g c = ap (λ u. u.number) c.in-Ok.ensures.part ∙ c.collect_down_to.ensures.number

pub returns-clause-results : goal.returns-clause-results
returns-clause-results g c = let left = c.collect_down_to.new in
    due_more left.results.items (view_of left.self.seat) (view_of c.post_at.new.self.seat) (result_of c.args.job) _ c.in-Ok.ensures.part left.self.seat.keeps.out_is
    ∙ ap (λ l. l ++ result_of c.args.job ∷ []) c.collect_down_to.ensures.results
