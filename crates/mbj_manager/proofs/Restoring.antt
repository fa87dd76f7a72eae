-- A course with its entry taken back: what it owes, and what is asked in it, stays as entries go out and come back.
use Rattle.std.proofs.Common.{◌≡◌, ◌≢◌, ℕ, ◌+◌, ◌≤◌, zero, suc, List, [], ◌∷◌, length, map, Option, Some, None, refl, ap, ap₂, sym, ◌∙◌, arith}
use Rattle.mbj_types.specs.declared.job.Job.{Job}
use Rattle.mbj_types.specs.declared.kind.Kind.{Kind}
use Rattle.mbj_stage.specs.declared.stage.Stage.{Stage}
use Rattle.mbj_stage.specs.declared.stage.Stage.TheVariants as stage
use Rattle.mbj_stage.specs.declared.stage.Step.{Step}
use Rattle.mbj_stage.specs.Steps.{stage_at}
use Rattle.mbj_stage.specs.CourseState.{CourseState, stage_of}
use Rattle.mbj_stage.specs.Handing.{End, IsNext, IsOut, handed_out, taken_back, taken_back_at}
use Rattle.mbj_stage.proofs.StagesOf.{stage-left_behind}
use Rattle.mbj_manager.specs.Machine.Queues.{changed}
use Rattle.mbj_manager.specs.Inside.Courses.{Follows}
use Rattle.mbj_manager.specs.Inside.Leaving.{At}
use Rattle.mbj_manager.specs.Inside.Held.{back_by, restored, restored_by, restored_from, restored_here}

-- ---- the same entries are found

by-same : (n : ℕ) (find find' : Kind → ℕ → Option End) (s : Stage) (c : CourseState) → ((j : Kind) → find j n ≡ find' j n)
    → restored_by s n find c ≡ restored_by s n find' c
by-same n find find' stage.Now c h = refl
by-same n find find' stage.Finished c h = refl
by-same n find find' (stage.Lane k) c h = ap (back_by c) (h k)

same-one : (n : ℕ) (find find' : Kind → ℕ → Option End) (c : CourseState) → ((j : Kind) → find j n ≡ find' j n) → restored n find c ≡ restored n find' c
same-one n find find' c h = ap (restored_here c.out c) (by-same n find find' (stage_of c) c h)

pub restored-same : (n : ℕ) (find find' : Kind → ℕ → Option End) (cs : List CourseState) → ((j : Kind) (m : ℕ) → n ≤ m → find j m ≡ find' j m)
    → restored_from n find cs ≡ restored_from n find' cs
restored-same n find find' [] h = refl
restored-same n find find' (c ∷ cs) h =
    ap₂ (λ (x : CourseState) (xs : List CourseState). x ∷ xs) (same-one n find find' c (λ j. h j n (omega arith)))
    (restored-same (suc n) find find' cs (λ j m l. h j m (omega arith)))

-- there is one for each course
pub restored-length : (n : ℕ) (find : Kind → ℕ → Option End) (cs : List CourseState) → length (restored_from n find cs) ≡ length cs
restored-length n find [] = refl
restored-length n find (c ∷ cs) = ap suc (restored-length (suc n) find cs)

-- ---- an entry that ended is taken back

-- a stage in lanes is left
some-left : (j : Job) (left : List Step) (k : Kind) → stage_at j left ≡ stage.Lane k → left ≢ []
some-left j [] k h = absurd (cc)
some-left j (s ∷ left) k h = λ e. cc

back-out-at : (left : List Step) (c : CourseState) (e : End) → left ≢ [] → (taken_back_at left e c).out ≡ None
back-out-at [] c e some = absurd (some refl)
back-out-at (s ∷ left) c e some = refl

-- the packet is here once it is taken back
pub back-out : (k : Kind) (e : End) (c : CourseState) → IsOut k e c → (taken_back e c).out ≡ None
back-out k e c o = back-out-at c.left c e (some-left c.job c.left k o.stage)

-- a course whose packet is here is what it is
here-restored : (n : ℕ) (find : Kind → ℕ → Option End) (c : CourseState) → c.out ≡ None → restored n find c ≡ c
here-restored n find c here = ap (λ o. restored_here o c (restored_by (stage_of c) n find c)) here

-- one whose entry is out has this entry taken back
pub out-restored : (n : ℕ) (find : Kind → ℕ → Option End) (k : Kind) (e : End) (c : CourseState) → IsOut k e c → find k n ≡ Some e
    → restored n find c ≡ taken_back e c
out-restored n find k e c o h =
    ap (λ x. restored_here x c (restored_by (stage_of c) n find c)) o.packet ∙ ap (λ x. restored_by x n find c) o.stage ∙ ap (back_by c) h

back-head : (n : ℕ) (find find' : Kind → ℕ → Option End) (k : Kind) (e : End) (c : CourseState) → IsOut k e c → find k n ≡ Some e
    → restored n find c ≡ restored n find' (taken_back e c)
back-head n find find' k e c o h = out-restored n find k e c o h ∙ sym (here-restored n find' (taken_back e c) (back-out k e c o))

pub restored-back : (n p q : ℕ) (find find' : Kind → ℕ → Option End) (k : Kind) (e : End) (cs : List CourseState) → p ≡ n + q
    → ((j : Kind) (m : ℕ) → m ≢ p → find j m ≡ find' j m) → find k p ≡ Some e → At (IsOut k e) q cs
    → restored_from n find cs ≡ restored_from n find' (changed (taken_back e) q cs)
restored-back n p q find find' k e [] i h s a = absurd a
restored-back n p zero find find' k e (c ∷ cs) i h s a =
    let i' : p ≡ n = omega arith in
    let s' : find k n ≡ Some e = rw i' at s in
    let x = back-head n find find' k e c a s' in
    let y : restored_from (suc n) find cs ≡ restored_from (suc n) find' cs = restored-same (suc n) find find' cs (λ j m l. h j m (λ z. omega arith)) in
    rw (x, y) refl
restored-back n p (suc q) find find' k e (c ∷ cs) i h s a =
    let x : restored n find c ≡ restored n find' c = same-one n find find' c (λ j. h j n (λ z. omega arith)) in
    let y = restored-back (suc n) p q find find' k e cs (omega arith) h s a in
    rw (x, y) refl

-- ---- an entry goes out, and what finishes at once is done: what f tells of the courses stays

module _ {X : Type 0} (f : CourseState → X) where
  enter-head : (n : ℕ) (find find' : Kind → ℕ → Option End) (k : Kind) (e : End) (c : CourseState) → IsNext k c
      → f (taken_back e (handed_out c)) ≡ f c → find' k n ≡ Some e → f (restored n find c) ≡ f (restored n find' (handed_out c))
  enter-head n find find' k e c next g h =
      ap f (here-restored n find c next.here) ∙ sym g
      ∙ sym (ap f (ap (λ x. restored_by x n find' (handed_out c)) (stage-left_behind c.job c.left ∙ next.stage) ∙ ap (back_by (handed_out c)) h))

  pub restored-enter : (n p q : ℕ) (find find' : Kind → ℕ → Option End) (k : Kind) (e : End) (cs : List CourseState) → p ≡ n + q
      → ((j : Kind) (m : ℕ) → m ≢ p → find j m ≡ find' j m) → find' k p ≡ Some e → At (IsNext k) q cs
      → At (λ c. f (taken_back e (handed_out c)) ≡ f c) q cs
      → map f (restored_from n find cs) ≡ map f (restored_from n find' (changed handed_out q cs))
  restored-enter n p q find find' k e [] i h s a g = absurd a
  restored-enter n p zero find find' k e (c ∷ cs) i h s a g =
      let i' : p ≡ n = omega arith in
      let s' : find' k n ≡ Some e = rw i' at s in
      ap₂ (λ (x : X) (xs : List X). x ∷ xs) (enter-head n find find' k e c a g s')
      (ap (map f) (restored-same (suc n) find find' cs (λ j m l. h j m (λ z. omega arith))))
  restored-enter n p (suc q) find find' k e (c ∷ cs) i h s a g =
      ap₂ (λ (x : X) (xs : List X). x ∷ xs) (ap f (same-one n find find' c (λ j. h j n (λ z. omega arith))))
      (restored-enter (suc n) p q find find' k e cs (omega arith) h s a g)

  follow-head : (n : ℕ) (find : Kind → ℕ → Option End) (c x : CourseState) → Follows c x → f c ≡ f x → f (restored n find x) ≡ f (restored n find c)
  follow-head n find c x follows same =
      ap f (here-restored n find x follows.was_here) ∙ sym same ∙ sym (ap f (here-restored n find c follows.here))

  pub restored-follow : (n : ℕ) (find : Kind → ℕ → Option End) (c : CourseState) (p : ℕ) (cs : List CourseState) → At (Follows c) p cs
      → ((x : CourseState) → Follows c x → f c ≡ f x) → map f (restored_from n find cs) ≡ map f (restored_from n find (changed (λ _. c) p cs))
  restored-follow n find c p [] follows same = absurd follows
  restored-follow n find c zero (x ∷ cs) follows same =
      ap (λ (y : X). y ∷ map f (restored_from (suc n) find cs)) (follow-head n find c x follows (same x follows))
  restored-follow n find c (suc p) (x ∷ cs) follows same =
      ap (λ (ys : List X). f (restored n find x) ∷ ys) (restored-follow (suc n) find c p cs follows same)
