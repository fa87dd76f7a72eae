-- A session line is read if one more fits.
use Rattle.std.proofs.Common.{◌≡◌, ◌≢◌, ◌∙◌, ◌++◌, ap, ℕ, List, [], ◌∷◌, length, map, Ok, arith, rules, vec_len}
use Rattle.std.specs.declared.vec.Vec.{Vec}
use Rattle.std.specs.declared.alloc.Global.{Global}
use Rattle.std.proofs.lemmas.List.{length-map, map-append}
use Rattle.std.proofs.lemmas.Result.{err_from_is_err_and}
use Rattle.mbj_types.specs.declared.job.Job.{Job}
use Rattle.mbj_types.specs.declared.limits.TheConstants.{MAX_SESSIONS}
use Rattle.mbj_text.specs.Entries.{SessionEntry}
use Rattle.mbj_text.specs.Inside.Reading.{◌>>=◌, KeysAndJobs, Read, with_entry}
use Rattle.mbj_text.proofs.EntryLaws.{fails_on, no_session_fits, session_fits}
use Rattle.mbj_text.proofs.entries.Entries.add_session.Goals as goal

-- the keys and the jobs as lists
abbrev lists : List (Vec ℕ Global) → Vec Job Global → KeysAndJobs
lists keys jobs = (map (λ k. k.items) keys, jobs.items)

-- there are as many keys in the list as in the vector
count : (keys : Vec (Vec ℕ Global) Global) (jobs : Vec Job Global) (now : KeysAndJobs) → lists keys.items jobs ≡ now → vec_len keys ≡ length now.0
count keys jobs now view =
    let size : vec_len keys ≡ length keys.items = search rules in
    omega (arith, size, length-map keys.items (λ k. k.items), ap (λ (l : KeysAndJobs). length l.0) view)

-- one key more
pushed : (old new : List (Vec ℕ Global)) (jobs : Vec Job Global) (key : Vec ℕ Global) (bytes : List ℕ) (now : KeysAndJobs)
    → new ≡ old ++ key ∷ [] → key.items ≡ bytes → lists old jobs ≡ now → lists new jobs ≡ with_entry now (SessionEntry bytes)
pushed old new jobs key bytes now is spelled view =
    ap (λ (l : List (Vec ℕ Global)). lists l jobs) is
    ∙ ap (λ (l : List (List ℕ)). (l, jobs.items)) (map-append (λ k. k.items) old (key ∷ []))
    ∙ ap (λ (k : List ℕ). (map (λ k. k.items) old ++ k ∷ [], jobs.items)) spelled
    ∙ ap (λ (l : KeysAndJobs). with_entry l (SessionEntry bytes)) view

pub returns-then-len-eq-MAX_SESSIONS : goal.returns-then-len-eq-MAX_SESSIONS
returns-then-len-eq-MAX_SESSIONS c =
    let size = count c.self.inside.keys c.self.inside.jobs c.args.self.now c.self.view_is in
    no_session_fits c.args.self.now.0 (length c.args.self.now.1) c.args.line.now c.requires (omega (arith, size))

pub returns-in_err-key : goal.returns-in_err-key
returns-in_err-key c =
    let size = count c.self.inside.keys c.self.inside.jobs c.args.self.now c.self.view_is in
    let room : length c.args.self.now.0 ≢ MAX_SESSIONS = omega (arith, size) in
    let read = session_fits c.args.self.now.0 (length c.args.self.now.1) c.args.line.now c.requires room in
    let exit = err_from_is_err_and c.from_residual.result c.from_residual.ensures.1 in
    rw (exit.1, exit.2, read) (fails_on c.in_err-key.field-0.0 _ (λ key. Ok (SessionEntry key)) c.in_err-key.ensures)

pub returns : goal.returns
returns c =
    let size = count c.self.inside.keys c.self.inside.jobs c.args.self.now c.self.view_is in
    let read = session_fits c.args.self.now.0 (length c.args.self.now.1) c.args.line.now c.requires (λ full. c.if-len-eq-MAX_SESSIONS.false (omega (arith, size, full))) in (
      SessionEntry c.in_ok-key.key,
      read ∙ ap (λ (r : Read (List ℕ)). r >>= λ key. Ok (SessionEntry key)) c.in_ok-key.ensures,
      pushed c.self.inside.keys.items _ c.self.inside.jobs c.into_vec.result c.in_ok-key.key c.args.self.now c.in_ok-push.ensures.items c.into_vec.ensures c.self.view_is,
    )
