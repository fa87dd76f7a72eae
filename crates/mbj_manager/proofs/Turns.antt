-- Calls of one kind in turn, and blank jobs that are opened one by one.
use Rattle.std.proofs.Common.{◌≡◌, ℕ, false, ◌+◌, ◌-◌, ◌≤◌, ◌<◌, ◌++◌, min, zero, suc, List, [], ◌∷◌, drop, length, replicate, Option, Some, None, refl, ap, ap₂, sym, ◌∙◌, subst, arith, append_assoc, append-nil, length-append}
use Rattle.std.specs.Prelude.{option_to_list}
use Rattle.mbj_types.specs.Blank.{blank}
use Rattle.mbj_types.specs.declared.job.Job.{Job}
use Rattle.mbj_types.specs.declared.done.Done.{Done}
use Rattle.mbj_ring.specs.declared.ring.TheConstants.{CELLS}
use Rattle.mbj_manager.specs.State.{ManagerState, after_flush, after_get_next_burst, after_submit, with_blanks}
use Rattle.mbj_manager.specs.Calls.{Call, after_calls, called, given_back, submitted_at, FlushesEach}

-- ---- blank jobs

blanks-more : (os : List Job) (k m : ℕ) → k ≡ m + 1 → (os ++ blank ∷ []) ++ replicate m blank ≡ os ++ replicate k blank
blanks-more os k m e = append_assoc os (blank ∷ []) (replicate m blank) ∙ ap (λ (n : ℕ). os ++ replicate n blank) (let s : suc m ≡ k = omega (arith, e) in s)

-- if fewer are open than are wanted, one more blank job leads to the same
pub one-more-blank : (n : ℕ) (h : ManagerState) → length h.opened < min n (CELLS - length h.owed)
    → after_get_next_burst n (with_blanks 1 h) ≡ after_get_next_burst n h
one-more-blank n h few =
    let w = min n (CELLS - length h.owed) in
    ap (λ (os : List Job). record h { opened = os })
    (blanks-more h.opened (w - length h.opened) (w - length (h.opened ++ blank ∷ [])) (omega (arith, few, length-append h.opened (blank ∷ []))))

-- if as many are open as are wanted, nothing changes
pub no-more-blanks : (n : ℕ) (h : ManagerState) → min n (CELLS - length h.owed) ≤ length h.opened → after_get_next_burst n h ≡ h
no-more-blanks n h all =
    let none : min n (CELLS - length h.owed) - length h.opened ≡ 0 = omega (arith, all) in
    ap (λ (k : ℕ). with_blanks k h) none ∙ ap (λ (os : List Job). record h { opened = os }) (append-nil h.opened)

-- ---- calls in turn

-- what turns of a call leave is what they all lead to, and what they give back
pub record Turns (c : Call) (left n : ℕ) (h h0 : ManagerState) (out out0 : List Done) : Type 0 where
  pub state : after_calls (replicate left c) h ≡ after_calls (replicate n c) h0
  pub results : out ++ given_back (replicate left c) h ≡ out0 ++ given_back (replicate n c) h0

pub turns-start : (c : Call) (left n : ℕ) (h : ManagerState) (out : List Done) → left ≡ n → Turns c left n h h out out
turns-start c left n h out e = record {
  state = ap (λ (k : ℕ). after_calls (replicate k c) h) e;
  results = ap (λ (k : ℕ). out ++ given_back (replicate k c) h) e;
}

-- a turn
pub turns-step : (c : Call) (left then n : ℕ) (h h1 h0 : ManagerState) (o : Option Done) (out out1 out0 : List Done) → left ≡ then + 1
    → o ≡ (called c h).0 → h1 ≡ (called c h).1 → out1 ≡ out ++ option_to_list o
    → Turns c left n h h0 out out0 → Turns c then n h1 h0 out1 out0
unfolding after_calls given_back
turns-step c left then n h h1 h0 o out out1 out0 e is_o is_h is_out t =
    let s : suc then ≡ left = omega (arith, e) in
    record {
      state = ap (after_calls (replicate then c)) is_h ∙ ap (λ (k : ℕ). after_calls (replicate k c) h) s ∙ t.state;
      results = ap₂ (λ (ds : List Done) (g : ManagerState). ds ++ given_back (replicate then c) g) (is_out ∙ ap (λ (o : Option Done). out ++ option_to_list o) is_o) is_h
          ∙ append_assoc out (option_to_list (called c h).0) (given_back (replicate then c) (called c h).1)
          ∙ ap (λ (k : ℕ). out ++ given_back (replicate k c) h) s ∙ t.results;
    }

-- the end
pub turns-end : (c : Call) (left n : ℕ) (h h0 : ManagerState) (out out0 : List Done) → left ≡ 0 → Turns c left n h h0 out out0
    → (h ≡ after_calls (replicate n c) h0) × (out ≡ out0 ++ given_back (replicate n c) h0)
unfolding after_calls given_back
turns-end c left n h h0 out out0 none t = (
  sym (ap (λ (k : ℕ). after_calls (replicate k c) h) none) ∙ t.state,
  sym (ap (λ (k : ℕ). out ++ given_back (replicate k c) h) none ∙ append-nil out) ∙ t.results,
)

-- a call that gives nothing back and changes nothing does so each time
idle-turns : (c : Call) (k : ℕ) (h : ManagerState) → (called c h).0 ≡ None → (called c h).1 ≡ h
    → (after_calls (replicate k c) h ≡ h) × (given_back (replicate k c) h ≡ [])
unfolding after_calls given_back
idle-turns c zero h none same = (refl, refl)
idle-turns c (suc k) h none same =
    let then = idle-turns c k h none same in (
      ap (after_calls (replicate k c)) same ∙ then.0,
      ap₂ (λ (o : Option Done) (g : ManagerState). option_to_list o ++ given_back (replicate k c) g) none same ∙ then.1,
    )

-- so the turns may end there
pub turns-idle : (c : Call) (left n : ℕ) (h h0 : ManagerState) (out out0 : List Done) → (called c h).0 ≡ None → (called c h).1 ≡ h → Turns c left n h h0 out out0
    → (h ≡ after_calls (replicate n c) h0) × (out ≡ out0 ++ given_back (replicate n c) h0)
turns-idle c left n h h0 out out0 none same t =
    let idle = idle-turns c left h none same in
    (sym idle.0 ∙ t.state, sym (ap (λ (ds : List Done). out ++ ds) idle.1 ∙ append-nil out) ∙ t.results)

-- flushes so far, each of which gave one of the results
pub record FlushedSo (h h0 : ManagerState) (out out0 : List Done) : Type 0 where
  pub given : List Done
  pub is : out ≡ out0 ++ given
  pub each : FlushesEach given h0 h

pub flushed-start : (h : ManagerState) (out : List Done) → FlushedSo h h out out
flushed-start h out = record { given = []; is = sym (append-nil out); each = refl }

one-more-flush : (ds : List Done) (h0 h h1 : ManagerState) (d : Done) → FlushesEach ds h0 h → (after_flush h).0 ≡ Some d → h1 ≡ (after_flush h).1
    → FlushesEach (ds ++ d ∷ []) h0 h1
one-more-flush [] h0 h h1 d same gave is = (sym (ap (λ (g : ManagerState). (after_flush g).0) same) ∙ gave, is ∙ ap (λ (g : ManagerState). (after_flush g).1) same)
one-more-flush (e ∷ ds) h0 h h1 d each gave is = (each.0, one-more-flush ds (after_flush h0).1 h h1 d each.1 gave is)

pub flushed-more : (h h1 h0 : ManagerState) (d : Done) (out out1 out0 : List Done) → FlushedSo h h0 out out0 → (after_flush h).0 ≡ Some d → h1 ≡ (after_flush h).1
    → out1 ≡ out ++ d ∷ [] → FlushedSo h1 h0 out1 out0
flushed-more h h1 h0 d out out1 out0 so gave is more = record {
  given = so.given ++ d ∷ [];
  is = more ∙ ap (λ (ds : List Done). ds ++ d ∷ []) so.is ∙ append_assoc out0 so.given (d ∷ []);
  each = one-more-flush so.given h0 h h1 d so.each gave is;
}

same-rest : (xs ys zs : List Done) → xs ++ ys ≡ xs ++ zs → ys ≡ zs
same-rest [] ys zs e = e
same-rest (x ∷ xs) ys zs e = same-rest xs ys zs (ap (λ (ds : List Done). drop 1 ds) e)

pub flushed-end : (h h1 h0 : ManagerState) (ds out out0 : List Done) → FlushedSo h h0 out out0 → out ≡ out0 ++ ds → h1 ≡ h → FlushesEach ds h0 h1
flushed-end h h1 h0 ds out out0 so is same =
    subst (λ (g : ManagerState). FlushesEach ds h0 g) (sym same) (subst (λ (es : List Done). FlushesEach es h0 h) (same-rest out0 so.given ds (sym so.is ∙ is)) so.each)

-- what a submission gives back if a job is open
pub submits : (os : List Job) (h : ManagerState) → 0 < length os → submitted_at false os h ≡ after_submit h
submits [] h some = absurd (omega (arith, some))
submits (j ∷ os) h some = refl

pub one-at-most : (o : Option Done) → length (option_to_list o) ≤ 1
one-at-most None = omega arith
one-at-most (Some d) = omega arith
