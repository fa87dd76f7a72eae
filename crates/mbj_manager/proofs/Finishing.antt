-- Who leaves a list, one after another.
use Rattle.std.proofs.Common.{◌≡◌, ◌≢◌, ℕ, ◌+◌, zero, suc, List, [], ◌∷◌, ◌++◌, length, map, Option, Some, None, true, false, eqb, refl, ap, sym, ◌∙◌, subst, arith, ◌⊎◌, inl, inr, add-one, append_assoc}
use Rattle.std.proofs.lemmas.Bool.{ne_eqb}
use Rattle.std.proofs.lemmas.List.{append-nil}
use Rattle.std.specs.Option.{option_map}
use Rattle.mbj_lane.specs.Rounds.{taken}
use Rattle.mbj_types.specs.declared.kind.Kind.{Kind}
use Rattle.mbj_stage.specs.CourseState.{CourseState}
use Rattle.mbj_stage.specs.Handing.{End, IsOut, taken_back}
use Rattle.mbj_manager.specs.Inside.PlacedQueue.{PlacedEntry, ended, advanced_entry, numbered, pair_rest, rounds_in}
use Rattle.mbj_manager.specs.Inside.Leaving.{At, finishers, others, numbers, IsAbsent}
use Rattle.mbj_manager.specs.Inside.QueueView.{Listed, queue_view, left_now}
use Rattle.mbj_manager.specs.Machine.Queues.{changed}
use Rattle.mbj_manager.proofs.Numbering.{numbered-taken, numbered_split}

pub at-changed : {A : Type 0} (P : A → Type 0) (f : A → A) (n m : ℕ) (xs : List A) → n ≢ m → At P n xs → At P n (changed f m xs)
at-changed P f n m [] h a = absurd a
at-changed P f zero zero (x ∷ xs) h a = absurd (h refl)
at-changed P f zero (suc m) (x ∷ xs) h a = a
at-changed P f (suc n) zero (x ∷ xs) h a = a
at-changed P f (suc n) (suc m) (x ∷ xs) h a = at-changed P f n m xs (λ e. h (ap suc e)) a

pub listed-changed : (k : Kind) (f : CourseState → CourseState) (m : ℕ) (cs : List CourseState) (ws : List PlacedEntry) → IsAbsent m ws → Listed k cs ws → Listed k (changed f m cs) ws
listed-changed k f m cs [] a r = tt
listed-changed k f m cs (w ∷ ws) a r = (at-changed _ f w.0 m cs a.0 r.0, r.1, listed-changed k f m cs ws a.1 r.2)

absent-advanced : (m n : ℕ) (ws : List PlacedEntry) → IsAbsent n ws → IsAbsent n (map (advanced_entry m) ws)
absent-advanced m n [] a = tt
absent-advanced m n (w ∷ ws) a = (a.0, absent-advanced m n ws a.1)

-- a run keeps the ends
pub listed-advanced : (k : Kind) (cs : List CourseState) (m : ℕ) (ws : List PlacedEntry) → Listed k cs ws → Listed k cs (map (advanced_entry m) ws)
listed-advanced k cs m [] r = tt
listed-advanced k cs m (w ∷ ws) r = (r.0, absent-advanced m w.0 ws r.1, listed-advanced k cs m ws r.2)

-- what `taken` tells of the finishers and the others
pub record Took (k : Kind) (cs : List CourseState) (ws : List PlacedEntry) (w : PlacedEntry) (vs : List PlacedEntry) : Type 0 where
  pub leave : finishers rounds_in ws ≡ w ∷ finishers rounds_in vs
  pub stay : others rounds_in ws ≡ others rounds_in vs
  pub out : At (IsOut k w.1.brings) w.0 cs
  pub absent : IsAbsent w.0 vs
  pub listed : Listed k cs vs
  pub shorter : length ws ≡ length vs + 1

pub zero-or : (n : ℕ) → ((n ≡ 0) × (eqb n 0 ≡ true)) ⊎ (eqb n 0 ≡ false)
zero-or zero = inl (refl, refl)
zero-or (suc n) = inr (ne_eqb (suc n) 0 (λ e. cc))

abbrev pub Split : Type 0
Split = PlacedEntry × List PlacedEntry

abbrev onto : PlacedEntry → Split → Split
onto x t = (t.0, x ∷ t.1)

abbrev mk : PlacedEntry → List PlacedEntry → Split
mk x xs = (x, xs)

some-inj : (a b : Split) → Some a ≡ Some b → a ≡ b
some-inj a b h = cc

unmap : (t : Option Split) (x w : PlacedEntry) (vs : List PlacedEntry) → option_map (onto x) t ≡ Some (w, vs)
    → (rs : List PlacedEntry) × ((t ≡ Some (w, rs)) × (x ∷ rs ≡ vs))
unmap None x w vs h = cc
unmap (Some t) x w vs h =
    let e : onto x t ≡ mk w vs = some-inj (onto x t) (mk w vs) h in
    let a = ap (λ (t : Split). t.0) e in let b = ap (λ (t : Split). t.1) e in (t.1, (ap (λ (r : PlacedEntry). Some (mk r t.1)) a, b))

absent-taken : (n : ℕ) (ws : List PlacedEntry) (w : PlacedEntry) (vs : List PlacedEntry) → taken (pair_rest rounds_in) ws ≡ Some (w, vs) → IsAbsent n ws → (w.0 ≢ n) × IsAbsent n vs
absent-taken n [] w vs h a = cc
absent-taken n (x ∷ ws) w vs h a =
    elim (zero-or x.1.rounds) [
      | inl z ↦ (let h' = rw z.1 at h in subst (λ (t : Split). (t.0.0 ≢ n) × IsAbsent n t.1) (some-inj (mk x ws) (mk w vs) h') (a.0, a.1))
      | inr z ↦ (let h' = rw z at h in let u = unmap (taken (pair_rest rounds_in) ws) x w vs h' in
          let i = absent-taken n ws w u.0 u.1.0 a.1 in
          let P : List PlacedEntry → Type 0 = λ t. (w.0 ≢ n) × IsAbsent n t in subst P u.1.1 (i.0, (a.0, i.1)))
    ]

took-here : (k : Kind) (cs : List CourseState) (x : PlacedEntry) (ws : List PlacedEntry) → eqb x.1.rounds 0 ≡ true → Listed k cs (x ∷ ws) → Took k cs (x ∷ ws) x ws
took-here k cs x ws b r = record {
  leave = rw b refl;
  stay = rw b refl;
  out = r.0;
  absent = r.1;
  listed = r.2;
  shorter = sym (add-one (length ws));
}

took-later : (k : Kind) (cs : List CourseState) (x : PlacedEntry) (ws : List PlacedEntry) (w : PlacedEntry) (rs : List PlacedEntry)
    → eqb x.1.rounds 0 ≡ false → taken (pair_rest rounds_in) ws ≡ Some (w, rs) → Listed k cs (x ∷ ws) → Took k cs ws w rs → Took k cs (x ∷ ws) w (x ∷ rs)
took-later k cs x ws w rs b h r i =
    let a = absent-taken x.0 ws w rs h r.1 in
    record {
      leave = rw b i.leave;
      stay = rw b (ap (λ (t : List PlacedEntry). x ∷ t) i.stay);
      out = i.out;
      absent = (λ e. a.0 (sym e), i.absent);
      listed = (r.0, a.1, i.listed);
      shorter = omega (arith, i.shorter);
    }

pub took : (k : Kind) (cs : List CourseState) (ws : List PlacedEntry) (w : PlacedEntry) (vs : List PlacedEntry)
    → taken (pair_rest rounds_in) ws ≡ Some (w, vs) → Listed k cs ws → Took k cs ws w vs
took k cs [] w vs h r = cc
took k cs (x ∷ ws) w vs h r =
    elim (zero-or x.1.rounds) [
      | inl z ↦ (let h' = rw z.1 at h in subst (λ (t : Split). Took k cs (x ∷ ws) t.0 t.1) (some-inj (mk x ws) (mk w vs) h') (took-here k cs x ws z.1 r))
      | inr z ↦ (let h' = rw z at h in let u = unmap (taken (pair_rest rounds_in) ws) x w vs h' in
          let P : List PlacedEntry → Type 0 = λ t. Took k cs (x ∷ ws) w t in
          subst P u.1.1 (took-later k cs x ws w u.0 z u.1.0 r (took k cs ws w u.0 u.1.0 r.2)))
    ]

-- the same by places
pub leaves : (k : Kind) (f : ℕ → ℕ) (cs : List CourseState) (ws vs : List PlacedEntry) (p : ℕ) (e : End) → taken (pair_rest rounds_in) ws ≡ Some ((p, ended e), vs)
    → Listed k cs (numbered f ws) → Took k cs (numbered f ws) (f p, ended e) (numbered f vs)
leaves k f cs ws vs p e h r =
    took k cs (numbered f ws) (f p, ended e) (numbered f vs) (numbered-taken f ws ∙ ap (option_map (numbered_split f)) h) r

-- those that leave from here on, too
pub took-left : (k : Kind) (cs : List CourseState) (agenda : List ℕ) (ws : List PlacedEntry) (w : PlacedEntry) (vs : List PlacedEntry) (rounds blocks runs : ℕ) → Took k cs ws w vs
    → left_now (queue_view (changed (taken_back w.1.brings) w.0 cs) (agenda ++ w.0 ∷ []) vs rounds blocks runs) ≡ left_now (queue_view cs agenda ws rounds blocks runs)
took-left k cs agenda ws w vs rounds blocks runs t =
    rw (t.leave, t.stay, append_assoc agenda (w.0 ∷ []) (numbers (finishers rounds_in vs))) refl

unmap-none : (t : Option Split) (x : PlacedEntry) → option_map (onto x) t ≡ None → t ≡ None
unmap-none None x h = refl
unmap-none (Some t) x h = cc

none-left : (ws : List PlacedEntry) → taken (pair_rest rounds_in) ws ≡ None → (finishers rounds_in ws ≡ []) × (others rounds_in ws ≡ ws)
none-left [] h = (refl, refl)
none-left (x ∷ ws) h =
    elim (zero-or x.1.rounds) [
      | inl z ↦ (let h' = rw z.1 at h in let f : ⊥ = cc in absurd f)
      | inr z ↦ (let h' = rw z at h in let i = none-left ws (unmap-none (taken (pair_rest rounds_in) ws) x h') in
          (rw z i.0, rw z (ap (λ (t : List PlacedEntry). x ∷ t) i.1)))
    ]

-- nobody leaves any more
pub none-left-now : (cs : List CourseState) (agenda : List ℕ) (ws : List PlacedEntry) (rounds blocks runs : ℕ) → taken (pair_rest rounds_in) ws ≡ None
    → left_now (queue_view cs agenda ws rounds blocks runs) ≡ queue_view cs agenda ws rounds blocks runs
none-left-now cs agenda ws rounds blocks runs h = let n = none-left ws h in rw (n.0, n.1, append-nil agenda) refl
