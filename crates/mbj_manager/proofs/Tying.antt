-- Lane queues, agenda and courses fit still: when an entry goes out, when a lane queue runs, and when what finishes at once is done.
use Rattle.std.proofs.Common.{◌≡◌, ◌≢◌, ℕ, ◌<◌, zero, suc, List, [], ◌∷◌, ◌++◌, length, map, cond, eqb, true, false, Option, Some, inl, inr, refl, ap, sym, ◌∙◌, subst, arith, append_assoc}
use Rattle.std.proofs.lemmas.Bool.{cases_eq, eq-eqb, ne_eqb}
use Rattle.std.proofs.lemmas.List.{append-nil}
use Rattle.std.proofs.lemmas.List.Elements.{All-push, All-weaker}
use Rattle.mbj_lane.specs.Rounds.{least}
use Rattle.mbj_types.specs.declared.kind.Kind.{Kind}
use Rattle.mbj_stage.specs.declared.stage.Stage.TheVariants as stage
use Rattle.mbj_stage.specs.CourseState.{CourseState}
use Rattle.mbj_stage.specs.Handing.{End, IsNext, IsOut, handed_out, taken_back}
use Rattle.mbj_manager.specs.Machine.Queues.{changed, put}
use Rattle.mbj_manager.specs.Inside.Courses.{Follows}
use Rattle.mbj_manager.specs.Inside.Leaving.{At, Gives, IsAbsent, finishers, numbers, others, returned}
use Rattle.mbj_manager.specs.Inside.QueueView.{Listed, advanced_all}
use Rattle.mbj_manager.specs.Inside.PlacedQueue.{PlacedQueue, PlacedEntry, brings_in, advanced_entry, placed_queue, pair_rest, rounds_in}
use Rattle.mbj_manager.specs.Inside.Held.{IsHere, IsTied, find_in, found, restored_from}
use Rattle.mbj_manager.proofs.Changing.{length-changed}
use Rattle.mbj_manager.proofs.Finishing.{at-changed, listed-changed, zero-or}
use Rattle.mbj_manager.proofs.Joining.{at-here}
use Rattle.mbj_manager.proofs.KindLines.{put-case, put-self}
use Rattle.mbj_manager.proofs.Listing.{absent-listed, joined-listed}
use Rattle.mbj_manager.proofs.Restoring.{back-out, restored-back, restored-enter, restored-same}
use Rattle.mbj_manager.proofs.RingCourses.{at-below}

-- ---- items

pub at-new : {A : Type 0} (P Q : A → Type 0) (f : A → A) (n : ℕ) (xs : List A) → ((x : A) → P x → Q (f x)) → At P n xs → At Q n (changed f n xs)
at-new P Q f n [] h a = a
at-new P Q f zero (x ∷ xs) h a = h x a
at-new P Q f (suc n) (x ∷ xs) h a = at-new P Q f n xs h a

at-both : {A : Type 0} (P Q : A → Type 0) (n : ℕ) (xs : List A) → At P n xs → At Q n xs → At (λ x. P x × Q x) n xs
at-both P Q n [] a b = a
at-both P Q zero (x ∷ xs) a b = (a, b)
at-both P Q (suc n) (x ∷ xs) a b = at-both P Q n xs a b

at-none : {A : Type 0} (P : A → Type 0) (n : ℕ) (xs : List A) → ((x : A) → P x → ⊥) → At P n xs → ⊥
at-none P n [] f a = a
at-none P zero (x ∷ xs) f a = f x a
at-none P (suc n) (x ∷ xs) f a = at-none P n xs f a

same-lane : (k j : Kind) → stage.Lane k ≡ stage.Lane j → j ≡ k
same-lane k j h = cc

other-kinds : (k j : Kind) (e d : End) (n : ℕ) (cs : List CourseState) → j ≢ k → At (IsOut k e) n cs → At (IsOut j d) n cs → ⊥
other-kinds k j e d n cs h a b =
    at-none (λ c. IsOut k e c × IsOut j d c) n cs (λ c p. h (same-lane k j (sym p.0.stage ∙ p.1.stage))) (at-both (IsOut k e) (IsOut j d) n cs a b)

absent-other : (k j : Kind) (e : End) (m : ℕ) (cs : List CourseState) (ws : List PlacedEntry) → j ≢ k → At (IsOut k e) m cs → Listed j cs ws → IsAbsent m ws
absent-other k j e m cs [] h o r = tt
absent-other k j e m cs (w ∷ ws) h o r =
    ((λ z. other-kinds k j e w.1.brings m cs h o (subst (λ (n : ℕ). At (IsOut j w.1.brings) n cs) z r.0)), absent-other k j e m cs ws h o r.2)

-- ---- one of the middle of a list

absent-middle : (m : ℕ) (front : List PlacedEntry) (w : PlacedEntry) (ws : List PlacedEntry) → IsAbsent m (front ++ w ∷ ws) → (w.0 ≢ m) × IsAbsent m (front ++ ws)
absent-middle m [] w ws a = (a.0, a.1)
absent-middle m (v ∷ front) w ws a = let i = absent-middle m front w ws a.1 in (i.0, (a.0, i.1))

absent-with : (m : ℕ) (front : List PlacedEntry) (w : PlacedEntry) (ws : List PlacedEntry) → w.0 ≢ m → IsAbsent m (front ++ ws) → IsAbsent m (front ++ w ∷ ws)
absent-with m [] w ws h a = (h, a)
absent-with m (v ∷ front) w ws h a = (a.0, absent-with m front w ws h a.1)

absent-front : (m : ℕ) (ws : List PlacedEntry) (w : PlacedEntry) → IsAbsent m (ws ++ w ∷ []) → (w.0 ≢ m) × IsAbsent m ws
absent-front m [] w a = (a.0, tt)
absent-front m (v ∷ ws) w a = let i = absent-front m ws w a.1 in (i.0, (a.0, i.1))

pub record Middle (k : Kind) (cs : List CourseState) (front : List PlacedEntry) (w : PlacedEntry) (ws : List PlacedEntry) : Type 0 where
  pub out : At (IsOut k w.1.brings) w.0 cs
  pub absent : IsAbsent w.0 (front ++ ws)
  pub rest : Listed k cs (front ++ ws)

pub middle : (k : Kind) (cs : List CourseState) (front : List PlacedEntry) (w : PlacedEntry) (ws : List PlacedEntry) → Listed k cs (front ++ w ∷ ws) → Middle k cs front w ws
middle k cs [] w ws r = record { out = r.0; absent = r.1; rest = r.2 }
middle k cs (v ∷ front) w ws r =
    let i = middle k cs front w ws r.2 in
    let a = absent-middle v.0 front w ws r.1 in
    record { out = i.out; absent = (λ z. a.0 (sym z), i.absent); rest = (r.0, a.1, i.rest) }

-- ---- what is found

pub found-here : (front : List PlacedEntry) (w : PlacedEntry) (ws : List PlacedEntry) → IsAbsent w.0 (front ++ ws) → found w.0 (front ++ w ∷ ws) ≡ Some w.1.brings
found-here [] w ws a = rw (eq-eqb w.0 w.0 refl) refl
found-here (v ∷ front) w ws a = rw (ne_eqb w.0 v.0 (λ z. a.0 (sym z))) (found-here front w ws a.1)

found-other : (front : List PlacedEntry) (w : PlacedEntry) (ws : List PlacedEntry) (m : ℕ) → m ≢ w.0 → found m (front ++ w ∷ ws) ≡ found m (front ++ ws)
found-other [] w ws m h = rw (ne_eqb m w.0 h) refl
found-other (v ∷ front) w ws m h = ap (λ (r : Option End). cond (eqb m v.0) (Some v.1.brings) r) (found-other front w ws m h)

find-put-self : (k : Kind) (m : ℕ) (l : PlacedQueue) (lines : Kind → PlacedQueue) → find_in (put k l lines) k m ≡ found m l.queued
find-put-self k m l lines = ap (λ (x : PlacedQueue). found m x.queued) (put-self k l lines)

find-put-other : (k j : Kind) (m : ℕ) (l : PlacedQueue) (lines : Kind → PlacedQueue) → found m (lines k).queued ≡ found m l.queued
    → find_in lines j m ≡ find_in (put k l lines) j m
find-put-other k j m l lines h = elim (put-case k j l lines) [
  | inl e ↦ subst (λ i. found m (lines i).queued ≡ found m l.queued) (sym e.0) h ∙ sym (ap (λ (x : PlacedQueue). found m x.queued) e.1)
  | inr e ↦ sym (ap (λ (x : PlacedQueue). found m x.queued) e.1)
]

-- ---- steps

-- lane queues with the same jobs in them
pub tied-same : (cs : List CourseState) (agenda : List ℕ) (lines lines' : Kind → PlacedQueue) → ((j : Kind) → (lines j).queued ≡ (lines' j).queued)
    → IsTied cs agenda lines → IsTied cs agenda lines'
tied-same cs agenda lines lines' h y = record {
  listed = λ j. subst (Listed j cs) (h j) (y.listed j);
  here = λ n lt a. y.here n lt (λ j. subst (IsAbsent n) (sym (h j)) (a j));
  below = y.below;
}

-- what finishes at once is done
pub tied-follow : (c : CourseState) (p : ℕ) (cs : List CourseState) (agenda : List ℕ) (lines : Kind → PlacedQueue) → At (Follows c) p cs → At IsHere p cs → IsTied cs agenda lines
    → IsTied (changed (λ _. c) p cs) agenda lines
tied-follow c p cs agenda lines f was y =
    let len = length-changed (λ (_ : CourseState). c) p cs in
    record {
      listed = λ j. listed-changed j (λ _. c) p cs (lines j).queued (absent-listed j p cs (lines j).queued was (y.listed j)) (y.listed j);
      here = λ n lt a. elim (cases_eq n p) [
        | inl e ↦ subst (λ (m : ℕ). At IsHere m (changed (λ _. c) p cs)) (sym e) (at-new (Follows c) IsHere (λ _. c) p cs (λ x h. h.here) f)
        | inr ne ↦ at-changed IsHere (λ _. c) n p cs ne (y.here n (omega arith) a)
      ];
      below = All-weaker (λ n. n < length cs) (λ n. n < length (changed (λ (_ : CourseState). c) p cs)) (λ n h. omega arith) agenda y.below;
    }

-- an entry goes out and joins the lane queue of its kind
pub tied-join : (k : Kind) (w : PlacedEntry) (r b : ℕ) (cs : List CourseState) (agenda : List ℕ) (lines : Kind → PlacedQueue) → At (IsNext k) w.0 cs
    → At (Gives k w.1.rounds w.1.brings) w.0 cs → IsTied cs agenda lines
    → IsTied (changed handed_out w.0 cs) agenda (put k (placed_queue ((lines k).queued ++ w ∷ []) r b) lines)
tied-join k w r b cs agenda lines next gives y =
    let p = w.0 in
    let cs' = changed handed_out p cs in
    let l = placed_queue ((lines k).queued ++ w ∷ []) r b in
    let len = length-changed handed_out p cs in
    let was = at-here k p cs next in
    record {
      listed = λ j. elim (put-case k j l lines) [
        | inl e ↦ rw (e.1, e.0) (joined-listed k w cs (lines k).queued next gives (y.listed k))
        | inr e ↦ rw e.1 (listed-changed j handed_out p cs (lines j).queued (absent-listed j p cs (lines j).queued was (y.listed j)) (y.listed j))
      ];
      here = λ n lt a.
          (let own = absent-front n (lines k).queued w (subst (λ (x : PlacedQueue). IsAbsent n x.queued) (put-self k l lines) (a k)) in
          at-changed IsHere handed_out n p cs (λ e. own.0 (sym e)) (y.here n (omega arith) (λ j. elim (put-case k j l lines) [
            | inl e ↦ subst (λ i. IsAbsent n (lines i).queued) (sym e.0) own.1
            | inr e ↦ subst (λ (x : PlacedQueue). IsAbsent n x.queued) e.1 (a j)
          ])));
      below = All-weaker (λ n. n < length cs) (λ n. n < length cs') (λ n h. omega arith) agenda y.below;
    }

-- an entry comes back, and its course joins the agenda
pub tied-give : (k : Kind) (front : List PlacedEntry) (w : PlacedEntry) (ws : List PlacedEntry) (cs : List CourseState) (agenda : List ℕ) (lines : Kind → PlacedQueue)
    → (lines k).queued ≡ front ++ w ∷ ws → IsTied cs agenda lines
    → IsTied (changed (taken_back w.1.brings) w.0 cs) (agenda ++ w.0 ∷ []) (put k (placed_queue (front ++ ws) 0 0) lines)
tied-give k front w ws cs agenda lines l y =
    let p = w.0 in
    let f : CourseState → CourseState = taken_back w.1.brings in
    let cs' = changed f p cs in
    let new = placed_queue (front ++ ws) 0 0 in
    let len = length-changed f p cs in
    let o = middle k cs front w ws (subst (Listed k cs) l (y.listed k)) in
    let lt = at-below (IsOut k w.1.brings) p cs o.out in
    record {
      listed = λ j. elim (put-case k j new lines) [
        | inl e ↦ rw (e.1, e.0) (listed-changed k f p cs (front ++ ws) o.absent o.rest)
        | inr e ↦ rw e.1 (listed-changed j f p cs (lines j).queued (absent-other k j w.1.brings p cs (lines j).queued e.0 o.out (y.listed j)) (y.listed j))
      ];
      here = λ n lt a. elim (cases_eq n p) [
        | inl e ↦ subst (λ (m : ℕ). At IsHere m cs') (sym e) (at-new (IsOut k w.1.brings) IsHere f p cs (λ c h. back-out k w.1.brings c h) o.out)
        | inr ne ↦ at-changed IsHere f n p cs ne (y.here n (omega arith) (λ j. elim (put-case k j new lines) [
          | inl e ↦ subst (λ i. IsAbsent n (lines i).queued) (sym e.0) (subst (IsAbsent n) (sym l)
              (absent-with n front w ws (λ e. ne (sym e)) (subst (λ (x : PlacedQueue). IsAbsent n x.queued) (put-self k new lines) (a k))))
          | inr e ↦ subst (λ (x : PlacedQueue). IsAbsent n x.queued) e.1 (a j)
        ]))
      ];
      below = All-push (λ n. n < length cs') agenda p (All-weaker (λ n. n < length cs) (λ n. n < length cs') (λ n h. omega arith) agenda y.below) (omega arith);
    }

-- the courses with their entries taken back are the same
restored-give : (k : Kind) (front : List PlacedEntry) (w : PlacedEntry) (ws : List PlacedEntry) (cs : List CourseState) (agenda : List ℕ) (lines : Kind → PlacedQueue)
    → (lines k).queued ≡ front ++ w ∷ ws → IsTied cs agenda lines
    → restored_from 0 (find_in lines) cs ≡ restored_from 0 (find_in (put k (placed_queue (front ++ ws) 0 0) lines)) (changed (taken_back w.1.brings) w.0 cs)
restored-give k front w ws cs agenda lines l y =
    let o = middle k cs front w ws (subst (Listed k cs) l (y.listed k)) in
    let new = placed_queue (front ++ ws) 0 0 in
    restored-back 0 w.0 w.0 (find_in lines) (find_in (put k new lines)) k w.1.brings cs (omega arith)
    (λ j m h. find-put-other k j m new lines (ap (found m) l ∙ found-other front w ws m h))
    (ap (found w.0) l ∙ found-here front w ws o.absent) o.out

pub restored-join : {X : Type 0} (f : CourseState → X) (k : Kind) (w : PlacedEntry) (r b : ℕ) (cs : List CourseState) (lines : Kind → PlacedQueue)
    → IsAbsent w.0 (lines k).queued → At (IsNext k) w.0 cs → At (λ c. f (taken_back w.1.brings (handed_out c)) ≡ f c) w.0 cs
    → map f (restored_from 0 (find_in lines) cs)
    ≡ map f (restored_from 0 (find_in (put k (placed_queue ((lines k).queued ++ w ∷ []) r b) lines)) (changed handed_out w.0 cs))
restored-join f k w r b cs lines a next gives =
    let ws = (lines k).queued in
    let new = placed_queue (ws ++ w ∷ []) r b in
    let n : ws ++ [] ≡ ws = append-nil ws in
    restored-enter f 0 w.0 w.0 (find_in lines) (find_in (put k new lines)) k w.1.brings cs (omega arith)
    (λ j m h. find-put-other k j m new lines (ap (found m) (sym n) ∙ sym (found-other ws w [] m h)))
    (find-put-self k w.0 new lines ∙ found-here ws w [] (subst (IsAbsent w.0) (sym n) a)) next gives

-- ---- all whose rounds are done leave

pub record Leaves (k : Kind) (cs : List CourseState) (agenda : List ℕ) (lines : Kind → PlacedQueue) (front ws : List PlacedEntry) : Type 0 where
  pub tied : IsTied (returned brings_in cs (finishers rounds_in ws)) (agenda ++ numbers (finishers rounds_in ws))
      (put k (placed_queue (front ++ others rounds_in ws) 0 0) lines)
  pub restored : restored_from 0 (find_in lines) cs
      ≡ restored_from 0 (find_in (put k (placed_queue (front ++ others rounds_in ws) 0 0) lines)) (returned brings_in cs (finishers rounds_in ws))

-- the lane queues of which the kind's has these jobs
put-waits : (k : Kind) (l : PlacedQueue) (lines : Kind → PlacedQueue) → (lines k).queued ≡ l.queued → (j : Kind) → (lines j).queued ≡ (put k l lines j).queued
put-waits k l lines h j = elim (put-case k j l lines) [
  | inl e ↦ subst (λ i. (lines i).queued ≡ l.queued) (sym e.0) h ∙ sym (ap (λ (x : PlacedQueue). x.queued) e.1)
  | inr e ↦ sym (ap (λ (x : PlacedQueue). x.queued) e.1)
]

pub put-twice : (k : Kind) (l m : PlacedQueue) (lines : Kind → PlacedQueue) (j : Kind) → (put k l (put k m lines) j).queued ≡ (put k l lines j).queued
put-twice k l m lines j = elim (put-case k j l lines) [
  | inl e ↦ ap (λ (x : PlacedQueue). x.queued) (subst (λ i. put k l (put k m lines) i ≡ l) (sym e.0) (put-self k l (put k m lines))) ∙ sym (ap (λ (x : PlacedQueue). x.queued) e.1)
  | inr e ↦ elim (put-case k j l (put k m lines)) [
    | inl d ↦ absurd (e.0 d.0)
    | inr d ↦ elim (put-case k j m lines) [
      | inl b ↦ absurd (e.0 b.0)
      | inr b ↦ ap (λ (x : PlacedQueue). x.queued) (d.1 ∙ b.1 ∙ sym e.1)
    ]
  ]
]

leaves-none : (k : Kind) (cs : List CourseState) (agenda : List ℕ) (lines : Kind → PlacedQueue) (front : List PlacedEntry) → (lines k).queued ≡ front ++ []
    → IsTied cs agenda lines → Leaves k cs agenda lines front []
leaves-none k cs agenda lines front l y =
    let same = put-waits k (placed_queue (front ++ []) 0 0) lines l in
    record {
      tied = subst (λ (a : List ℕ). IsTied cs a (put k (placed_queue (front ++ []) 0 0) lines)) (sym (append-nil agenda))
          (tied-same cs agenda lines (put k (placed_queue (front ++ []) 0 0) lines) same y);
      restored = restored-same 0 (find_in lines) (find_in (put k (placed_queue (front ++ []) 0 0) lines)) cs (λ j m h. ap (found m) (same j));
    }

leaves-first : (k : Kind) (cs : List CourseState) (agenda : List ℕ) (lines : Kind → PlacedQueue) (front : List PlacedEntry) (w : PlacedEntry) (ws : List PlacedEntry)
    → (lines k).queued ≡ front ++ w ∷ ws → IsTied cs agenda lines → eqb w.1.rounds 0 ≡ true
    → Leaves k (changed (taken_back w.1.brings) w.0 cs) (agenda ++ w.0 ∷ []) (put k (placed_queue (front ++ ws) 0 0) lines) front ws
    → Leaves k cs agenda lines front (w ∷ ws)
leaves-first k cs agenda lines front w ws l y z i =
    let f : CourseState → CourseState = taken_back w.1.brings in
    let cs' = changed f w.0 cs in
    let mid = placed_queue (front ++ ws) 0 0 in
    let end = placed_queue (front ++ others rounds_in ws) 0 0 in
    let cs2 = returned brings_in cs' (finishers rounds_in ws) in
    let same = put-twice k end mid lines in
    let tied = tied-same cs2 _ (put k end (put k mid lines)) (put k end lines) same i.tied in
    let tied' = subst (λ (a : List ℕ). IsTied cs2 a (put k end lines)) (append_assoc agenda (w.0 ∷ []) (numbers (finishers rounds_in ws))) tied in
    let ow = restored-give k front w ws cs agenda lines l y ∙ i.restored
    ∙ restored-same 0 (find_in (put k end (put k mid lines))) (find_in (put k end lines)) cs2 (λ j m h. ap (found m) (same j)) in
    record { tied = rw z tied'; restored = rw z ow }

leaves-later : (k : Kind) (cs : List CourseState) (agenda : List ℕ) (lines : Kind → PlacedQueue) (front : List PlacedEntry) (w : PlacedEntry) (ws : List PlacedEntry) → eqb w.1.rounds 0 ≡ false
    → Leaves k cs agenda lines (front ++ w ∷ []) ws → Leaves k cs agenda lines front (w ∷ ws)
leaves-later k cs agenda lines front w ws z i =
    let a = append_assoc front (w ∷ []) (others rounds_in ws) in
    let t = i.tied in
    let o = i.restored in
    record { tied = rw z (rw a at t); restored = rw z (rw a at o) }

pub leaves : (k : Kind) (cs : List CourseState) (agenda : List ℕ) (lines : Kind → PlacedQueue) (front ws : List PlacedEntry) → (lines k).queued ≡ front ++ ws → IsTied cs agenda lines
    → Leaves k cs agenda lines front ws
leaves k cs agenda lines front [] l y = leaves-none k cs agenda lines front l y
leaves k cs agenda lines front (w ∷ ws) l y = elim (zero-or w.1.rounds) [
  | inl z ↦ leaves-first k cs agenda lines front w ws l y z.1
      (leaves k (changed (taken_back w.1.brings) w.0 cs) (agenda ++ w.0 ∷ []) (put k (placed_queue (front ++ ws) 0 0) lines) front ws
      (ap (λ (x : PlacedQueue). x.queued) (put-self k (placed_queue (front ++ ws) 0 0) lines)) (tied-give k front w ws cs agenda lines l y))
  | inr z ↦ leaves-later k cs agenda lines front w ws z
      (leaves k cs agenda lines (front ++ w ∷ []) ws (l ∙ sym (append_assoc front (w ∷ []) ws)) y)
]

-- ---- a run lowers the rests alone

advanced-absent : (m n : ℕ) (ws : List PlacedEntry) → IsAbsent n ws → IsAbsent n (map (advanced_entry m) ws)
advanced-absent m n [] a = tt
advanced-absent m n (w ∷ ws) a = (a.0, advanced-absent m n ws a.1)

absent-advanced : (m n : ℕ) (ws : List PlacedEntry) → IsAbsent n (map (advanced_entry m) ws) → IsAbsent n ws
absent-advanced m n [] a = tt
absent-advanced m n (w ∷ ws) a = (a.0, absent-advanced m n ws a.1)

advanced-listed : (k : Kind) (cs : List CourseState) (m : ℕ) (ws : List PlacedEntry) → Listed k cs ws → Listed k cs (map (advanced_entry m) ws)
advanced-listed k cs m [] r = tt
advanced-listed k cs m (w ∷ ws) r = (r.0, advanced-absent m w.0 ws r.1, advanced-listed k cs m ws r.2)

advanced-found : (n m : ℕ) (ws : List PlacedEntry) → found n ws ≡ found n (map (advanced_entry m) ws)
advanced-found n m [] = refl
advanced-found n m (w ∷ ws) = ap (λ (r : Option End). cond (eqb n w.0) (Some w.1.brings) r) (advanced-found n m ws)

tied-advanced : (k : Kind) (m : ℕ) (cs : List CourseState) (agenda : List ℕ) (lines : Kind → PlacedQueue) → IsTied cs agenda lines
    → IsTied cs agenda (put k (placed_queue (map (advanced_entry m) (lines k).queued) 0 0) lines)
tied-advanced k m cs agenda lines y =
    let l = placed_queue (map (advanced_entry m) (lines k).queued) 0 0 in
    record {
      listed = λ j. elim (put-case k j l lines) [
        | inl e ↦ rw (e.1, e.0) (advanced-listed k cs m (lines k).queued (y.listed k))
        | inr e ↦ rw e.1 (y.listed j)
      ];
      here = λ n lt a. y.here n lt (λ j. elim (put-case k j l lines) [
        | inl e ↦ subst (λ i. IsAbsent n (lines i).queued) (sym e.0)
            (absent-advanced m n (lines k).queued (subst (λ (x : PlacedQueue). IsAbsent n x.queued) (put-self k l lines) (a k)))
        | inr e ↦ subst (λ (x : PlacedQueue). IsAbsent n x.queued) e.1 (a j)
      ]);
      below = y.below;
    }

-- the lane queue of a kind runs
pub record Ran (k : Kind) (cs : List CourseState) (agenda : List ℕ) (lines : Kind → PlacedQueue) : Type 0 where
  pub tied : IsTied (returned brings_in cs (finishers rounds_in (advanced_all (lines k).queued))) (agenda ++ numbers (finishers rounds_in (advanced_all (lines k).queued)))
      (put k (placed_queue (others rounds_in (advanced_all (lines k).queued)) 0 0) lines)
  pub restored : restored_from 0 (find_in lines) cs
      ≡ restored_from 0 (find_in (put k (placed_queue (others rounds_in (advanced_all (lines k).queued)) 0 0) lines))
      (returned brings_in cs (finishers rounds_in (advanced_all (lines k).queued)))

pub ran-list : (k : Kind) (cs : List CourseState) (agenda : List ℕ) (lines : Kind → PlacedQueue) → IsTied cs agenda lines → Ran k cs agenda lines
ran-list k cs agenda lines y =
    let m = least (pair_rest rounds_in) (lines k).queued in
    let ws = advanced_all (lines k).queued in
    let l = placed_queue ws 0 0 in
    let end = placed_queue (others rounds_in ws) 0 0 in
    let lines' = put k l lines in
    let i = leaves k cs agenda lines' [] ws (ap (λ (x : PlacedQueue). x.queued) (put-self k l lines)) (tied-advanced k m cs agenda lines y) in
    let same = put-twice k end l lines in
    let cs2 = returned brings_in cs (finishers rounds_in ws) in
    record {
      tied = tied-same cs2 _ (put k end lines') (put k end lines) same i.tied;
      restored = restored-same 0 (find_in lines) (find_in lines') cs (λ j n h. find-put-other k j n l lines (advanced-found n m (lines k).queued))
          ∙ i.restored ∙ restored-same 0 (find_in (put k end lines')) (find_in (put k end lines)) cs2 (λ j n h. ap (found n) (same j));
    }
