use Rattle.std.proofs.Common.{[], ◌∷◌, ◌++◌, All, length, map, sym, ap, subst, ◌∙◌, arith}
use Rattle.std.proofs.lemmas.List.{length-map, map-append}
use Rattle.std.proofs.lemmas.Iterator.Consumers.{YieldsList-turn, YieldsList-end}
use Rattle.std.proofs.lemmas.Iterator.Adapters.{YieldsList-from_vec}
use Rattle.std.proofs.lemmas.List.Elements.{All-push}
use Rattle.mbj_work.specs.Inside.Runs.{IsDone}
use Rattle.mbj_work.proofs.Crews.{map_same}
use Rattle.mbj_work.proofs.shared.results_of.Goals as goal

pub loop-submitter-preserved : goal.loop-submitter-preserved
loop-submitter-preserved c =
    let was = c.loop-submitter.invariant in let pushed = c.push_reserved.ensures in record {
      next = tt;
      finite = tt;
      given = pushed.items ∙ ap (λ l. l ++ c.in_ok-results.results ∷ []) was.given
          ∙ ap (λ r. map (λ s. s.results) c.loop-submitter.yielded ++ r ∷ []) c.in_ok-results.ensures.results
          ∙ sym (map-append (λ s. s.results) c.loop-submitter.yielded (c.in-Some.submitter ∷ []));
      room = pushed.capacity ∙ was.room;
      done = All-push IsDone c.loop-submitter.yielded c.in-Some.submitter was.done c.in_ok-results.ensures.done;
    }

pub push_reserved-requires : goal.push_reserved-requires
push_reserved-requires c = let was = c.loop-submitter.invariant in let made = c.into_iter-submitter-iterator in
    let t = YieldsList-turn (YieldsList-from_vec {s = made.result} c.args.submitters.items made.ensures.into_iter_gives.0 (made.ensures.into_iter_gives.1 ∙ c.args.submitters.ok.0)) c.loop-submitter.yielded c.loop-submitter.submitter-iterator c.loop-submitter.yielded_by c.next.result c.next.new.self c.in-Some.submitter c.in-Some.is c.next.ensures.steps in
    omega (arith, c.requires.room, was.room, c.args.submitters.ok.0, c.loop-submitter.given.ok.0, ap length was.given, length-map c.loop-submitter.yielded (λ s. s.results), t.0)

pub returns-clause-results : goal.returns-clause-results
returns-clause-results c = let made = c.into_iter-submitter-iterator in
    let t = YieldsList-end (YieldsList-from_vec {s = made.result} c.args.submitters.items made.ensures.into_iter_gives.0 (made.ensures.into_iter_gives.1 ∙ c.args.submitters.ok.0)) c.loop-submitter.yielded c.loop-submitter.submitter-iterator c.loop-submitter.yielded_by c.next.result c.next.new.self c.in-None.is c.next.ensures.steps in
    c.loop-submitter.invariant.given ∙ ap (map (λ s. s.results)) (sym (map_same c.loop-submitter.yielded) ∙ t.0)

pub returns-clause-done : goal.returns-clause-done
returns-clause-done c = let made = c.into_iter-submitter-iterator in
    let t = YieldsList-end (YieldsList-from_vec {s = made.result} c.args.submitters.items made.ensures.into_iter_gives.0 (made.ensures.into_iter_gives.1 ∙ c.args.submitters.ok.0)) c.loop-submitter.yielded c.loop-submitter.submitter-iterator c.loop-submitter.yielded_by c.next.result c.next.new.self c.in-None.is c.next.ensures.steps in
    subst (All IsDone) (sym (map_same c.loop-submitter.yielded) ∙ t.0) c.loop-submitter.invariant.done
