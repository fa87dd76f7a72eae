use Rattle.std.proofs.Common.{◌≡◌, ◌∙◌, ℕ, List, Vec, Global, length, map, ap, sym, subst}
use Rattle.std.proofs.lemmas.List.{length-map}
use Rattle.mbj_types.specs.declared.job.Job.{Job}
use Rattle.mbj_types.specs.declared.done.Done.{Done}
use Rattle.mbj_types.specs.Result.{result_of}
use Rattle.mbj_work.specs.Dealing.{AreDealt}
use Rattle.mbj_work.specs.Inside.Gathering.{gathered}
use Rattle.mbj_work.proofs.Deals.{dealt_done, gathered_all}
use Rattle.mbj_work.proofs.dealing.do_jobs.Goals as goal

-- the results are dealt as the jobs were, and gathered they are those of the jobs
record AreResults (jobs : List Job) (count : ℕ) (lists : List (Vec Done Global)) : Type 0 where
  dealt : AreDealt (map result_of jobs) (length lists) (map (λ l. l.items) lists)
  gathered_is : gathered count 0 (length lists) (map (λ l. l.items) lists) ≡ map result_of jobs

are_results : (jobs : List Job) (count n : ℕ) (lists : List (Vec Job Global)) (done : List (Vec Done Global)) → count ≡ length jobs
    → AreDealt jobs n (map (λ l. l.items) lists) → map (λ r. r.items) done ≡ map (λ l. map result_of l.items) lists
    → AreResults jobs count done
are_results jobs count n lists done all dealt same =
    let results : AreDealt (map result_of jobs) n (map (λ l. l.items) done) = dealt_done result_of jobs n (λ l. l.items) (λ r. r.items) lists done dealt same in
    let Count : ℕ → Type 0 = λ m. AreDealt (map result_of jobs) m (map (λ l. l.items) done) in
    record {
      dealt = subst Count (sym results.count ∙ length-map done (λ l. l.items)) results;
      gathered_is = gathered_all (map result_of jobs) count n (λ l. l.items) done (all ∙ sym (length-map jobs result_of)) results;
    }

pub of-requires-clause-dealt : goal.of-requires-clause-dealt
of-requires-clause-dealt g c =
    let are = are_results c.args.jobs.items c.len-count.result c.args.submitters c.in_ok-lists.lists.items c.in_ok-lists-2.lists.items
    (c.len-count.ensures ∙ c.args.jobs.ok.0) c.in_ok-lists.ensures c.in_ok-lists-2.ensures in
    rw are.gathered_is are.dealt

pub of-requires-clause-count : goal.of-requires-clause-count
of-requires-clause-count g c =
    let all = c.len-count.ensures ∙ c.args.jobs.ok.0 in
    let are = are_results c.args.jobs.items c.len-count.result c.args.submitters c.in_ok-lists.lists.items c.in_ok-lists-2.lists.items
    all c.in_ok-lists.ensures c.in_ok-lists-2.ensures in
    ap length are.gathered_is ∙ length-map c.args.jobs.items result_of ∙ sym all

pub returns : goal.returns
returns g c =
    let are = are_results c.args.jobs.items c.len-count.result c.args.submitters c.in_ok-lists.lists.items c.in_ok-lists-2.lists.items
    (c.len-count.ensures ∙ c.args.jobs.ok.0) c.in_ok-lists.ensures c.in_ok-lists-2.ensures in
    c.of.ensures ∙ are.gathered_is
