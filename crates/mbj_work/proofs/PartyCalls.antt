-- What was collected by calls of a party, and what is still due then.
use Rattle.std.proofs.Common.{◌≡◌, ◌≤◌, ℕ, ◌+◌, ◌-◌, List, [], ◌∷◌, ◌++◌, length, map, drop, refl, sym, ap, ap₂, ◌∙◌, subst, arith, append-nil, append_assoc, length-append}
use Rattle.std.proofs.lemmas.List.{map-append}
use Rattle.std.proofs.lemmas.Option.{slice_get_within}
use Rattle.mbj_types.specs.declared.job.Job.{Job}
use Rattle.mbj_types.specs.declared.done.Done.{Done}
use Rattle.mbj_types.specs.Result.{result_of}
use Rattle.mbj_core.specs.declared.party.View.{View}
use Rattle.mbj_core.specs.Parties.{new_party}
use Rattle.mbj_work.specs.Calls.{PartyCall, posted, post_full, collected, not_yet, worked, drained, Makes, MakeAll, posted_by, collected_by, all_posted, all_collected, CollectsInOrder, DrainsCollectAll}
use Rattle.mbj_work.specs.Inside.Runs.{with_due}
use Rattle.mbj_work.proofs.Collecting.{given_on, due_more, due_still}

-- no more is handed out than is due, and a call adds to what is collected and due together just the results of what it posts
record Adds (given : List Done) (c : PartyCall) (v w : View Done) : Type 0 where
  few : w.handed ≤ length w.due
  all : with_due (given ++ collected_by c) w ≡ with_due given v ++ map result_of (posted_by c)

same-due : (given : List Done) (c : PartyCall) (v w : View Done) → collected_by c ≡ [] → posted_by c ≡ [] → v.handed ≤ length v.due
    → w.due ≡ v.due → w.handed ≡ v.handed → Adds given c v w
same-due given c v w none nobody few due handed = record {
  few = subst (λ n. n ≤ length w.due) (sym handed) (subst (λ (l : List Done). v.handed ≤ length l) (sym due) few);
  all = ap₂ (λ (ds : List Done) (p : ℕ × List Done). (given ++ ds) ++ drop p.0 p.1) none (λ i. (handed i, due i))
      ∙ ap (λ (l : List Done). l ++ drop v.handed v.due) (append-nil given)
      ∙ sym (append-nil (with_due given v)) ∙ ap (λ (js : List Job). with_due given v ++ map result_of js) (sym nobody);
}

adds : (c : PartyCall) (given : List Done) (v w : View Done) → v.handed ≤ length v.due → Makes c v w → Adds given c v w
adds (posted j) given v w few is =
    let out : length v.due ≡ v.handed + (length v.due - v.handed) = omega arith in
    record {
      few = subst (λ (u : View Done). u.handed ≤ length u.due) (sym is) (omega (arith, length-append v.due (result_of j ∷ [])));
      all = ap (λ (ds : List Done). with_due ds w) (append-nil given) ∙ due_more given v w (result_of j) (length v.due - v.handed) is out;
    }
adds post_full given v w few is = same-due given post_full v w refl refl few (ap (λ (u : View Done). u.due) is) (ap (λ (u : View Done). u.handed) is)
adds (collected d) given v w few is =
    let inside = slice_get_within v.due v.handed d is.0 in
    record {
      few = subst (λ (u : View Done). u.handed ≤ length u.due) (sym is.1) (omega arith);
      all = given_on given (given ++ d ∷ []) v.due w.due v.handed w.handed d is.0 (ap (λ (u : View Done). u.handed) is.1) refl (ap (λ (u : View Done). u.due) is.1)
          ∙ sym (append-nil (with_due given v));
    }
adds not_yet given v w few is = let same = due_still v w is in same-due given not_yet v w refl refl few same.1 same.2
adds worked given v w few is = same-due given worked v w refl refl few is.2 is.3
adds (drained ds) given v w few is = record {
  few = omega (arith, is.handed, ap length is.due);
  all = ap₂ (λ (l : List Done) (p : ℕ × List Done). (given ++ l) ++ drop p.0 p.1) is.results (λ i. (is.handed i, is.due i))
      ∙ append_assoc given (drop v.handed v.due) (drop (length v.due) v.due)
      ∙ ap (λ (l : List Done). given ++ (drop v.handed v.due ++ l)) (drop-all v.due)
      ∙ ap (λ (l : List Done). given ++ l) (append-nil (drop v.handed v.due))
      ∙ sym (append-nil (with_due given v));
}
  where
    drop-all : (l : List Done) → drop (length l) l ≡ []
    drop-all [] = refl
    drop-all (d ∷ l) = drop-all l

-- all calls together
all-add : (cs : List PartyCall) (given : List Done) (v w : View Done) → v.handed ≤ length v.due → MakeAll cs v w
    → with_due (given ++ all_collected cs) w ≡ with_due given v ++ map result_of (all_posted cs)
all-add [] given v w few is =
    ap (λ (ds : List Done). with_due ds w) (append-nil given) ∙ ap (with_due given) is ∙ sym (append-nil (with_due given v))
all-add (c ∷ cs) given v w few (u, step) =
    let one = adds c given v u few step.0 in
    ap (λ (ds : List Done). with_due ds w) (sym (append_assoc given (collected_by c) (all_collected cs)))
    ∙ all-add cs (given ++ collected_by c) u w one.few step.1
    ∙ ap (λ (ds : List Done). ds ++ map result_of (all_posted cs)) one.all
    ∙ append_assoc (with_due given v) (map result_of (posted_by c)) (map result_of (all_posted cs))
    ∙ ap (λ (ds : List Done). with_due given v ++ ds) (sym (map-append result_of (posted_by c) (all_posted cs)))

pub collects-in-order : CollectsInOrder
collects-in-order calls number v made = all-add calls [] (new_party number) v (omega arith) made

pub drains-collect-all : DrainsCollectAll
drains-collect-all calls number ds u v made drain =
    ap (λ (l : List Done). all_collected calls ++ l) drain.results ∙ collects-in-order calls number u made
