-- The calls of a burst, one after another.
use Rattle.std.proofs.Common.{◌≡◌, ◌≢◌, ◌∙◌, ◌==◌, ◌++◌, ◌+◌, ◌<◌, ◌≤◌, ℕ, zero, suc, List, [], ◌∷◌, Bool, true, false, Option, None, Some, Result, Ok, Err, add-one, ap, arith, length, refl, set, slice_get, subst, sym, ⊎_elim, length-append}
use Rattle.std.specs.Prelude.{option_to_list, if◌then◌else◌}
use Rattle.std.proofs.lemmas.Bool.{cases_eq}
use Rattle.std.proofs.lemmas.List.{length-set}
use Rattle.std.proofs.lemmas.Option.{slice_get_past, slice_get_within}
use Rattle.mbj_c.specs.declared.bursts.RawBurst.{RawBurst}
use Rattle.mbj_c.specs.declared.giving.Call.{Call}
use Rattle.mbj_c.specs.Given.{Given}
use Rattle.mbj_c.specs.declared.giving.RawDone.{RawDone}
use Rattle.mbj_c.specs.declared.job.RawJob.{RawJob}
use Rattle.mbj_c.specs.declared.refusal.Refusal.{Refusal}
use Rattle.mbj_c.specs.declared.refusal.Refusal.TheVariants as refusal
use Rattle.mbj_c.specs.declared.refusal.Refusal.TheVariants.{Memory}
use Rattle.mbj_c.specs.Bursts.{GiveBurst, IsAnswer, IsBurstReturned, IsRoomOf, IsTurnReturned, TakeBurst, after_giving, after_taking, count_of, take_burst, taken_more, with_answer, with_call, with_returned}
use Rattle.mbj_c.specs.Calls.{given_in}
use Rattle.mbj_c.specs.Codes.{code_of, refusal_code}
use Rattle.mbj_c.specs.Giving.{answered}
use Rattle.mbj_c.specs.Inside.Answers.{IsDoneAs}
use Rattle.mbj_c.specs.State.{RangedState}

-- ---- lists

module _ {A : Type 0} where
  pub set-here : (xs : List A) (i : ℕ) (x : A) → i < length xs → slice_get (set xs i x) i ≡ Some x
  set-here [] i x few = absurd (omega arith)
  set-here (y ∷ ys) zero x few = refl
  set-here (y ∷ ys) (suc i) x few = set-here ys i x (omega arith)

  pub set-beside : (xs : List A) (i j : ℕ) (x : A) → j ≢ i → slice_get (set xs i x) j ≡ slice_get xs j
  set-beside [] i j x other = refl
  set-beside (y ∷ ys) zero zero x other = absurd (other refl)
  set-beside (y ∷ ys) zero (suc j) x other = refl
  set-beside (y ∷ ys) (suc i) zero x other = refl
  set-beside (y ∷ ys) (suc i) (suc j) x other = set-beside ys i j x (λ same. other (ap suc same))

  -- what joins a list at its end is its next element, and the elements before stay
  pub joined-here : (xs : List A) (o : Option A) → slice_get (xs ++ option_to_list o) (length xs) ≡ o
  joined-here [] None = refl
  joined-here [] (Some x) = refl
  joined-here (y ∷ ys) o = joined-here ys o

  pub joined-beside : (xs : List A) (o : Option A) (i : ℕ) → i ≢ length xs → slice_get (xs ++ option_to_list o) i ≡ slice_get xs i
  joined-beside [] None i other = refl
  joined-beside [] (Some x) zero other = absurd (other refl)
  joined-beside [] (Some x) (suc i) other = refl
  joined-beside (y ∷ ys) o zero other = refl
  joined-beside (y ∷ ys) o (suc i) other = joined-beside ys o i (λ same. other (ap suc same))

  pub at-most-one : (o : Option A) → length (option_to_list o) ≤ 1
  at-most-one None = omega arith
  at-most-one (Some x) = omega arith

-- ---- taking jobs

-- the code of want of memory is that of no other refusal
pub only-memory : (q : Refusal) → refusal_code q ≡ refusal_code Memory → q ≡ Memory
only-memory refusal.Full is = absurd (omega arith)
only-memory refusal.Word is = absurd (omega arith)
only-memory refusal.Memory is = refl
only-memory refusal.NoManager is = absurd (omega arith)
only-memory refusal.NoJob is = absurd (omega arith)
only-memory refusal.NoRoom is = absurd (omega arith)
only-memory refusal.HasManager is = absurd (omega arith)
only-memory refusal.TextLength is = absurd (omega arith)
only-memory refusal.KeyLength is = absurd (omega arith)
only-memory refusal.IvLength is = absurd (omega arith)
only-memory refusal.TagLength is = absurd (omega arith)
only-memory refusal.AadLength is = absurd (omega arith)
only-memory refusal.NoState is = absurd (omega arith)
only-memory refusal.HasKeys is = absurd (omega arith)
only-memory refusal.NoKeys is = absurd (omega arith)
only-memory refusal.TooManyKeys is = absurd (omega arith)
only-memory refusal.WrongTag is = absurd (omega arith)
only-memory refusal.NoSeat is = absurd (omega arith)
only-memory refusal.HasSeat is = absurd (omega arith)
only-memory refusal.SeatCount is = absurd (omega arith)
only-memory refusal.NotSubmitter is = absurd (omega arith)

-- a job that isn't taken changes nothing
pub untaken-kept : {S : Type 0} (want : Result Unit Refusal) (next before after : S) (reason : Refusal)
    → IsDoneAs want next before (Err reason) after → ((q : Refusal) → want ≡ Err q → next ≡ before) → after ≡ before
untaken-kept (Ok u) next before after reason done kept = done.1
untaken-kept (Err q) next before after reason done kept = done.1 ∙ kept q refl

-- and is returned why
pub untaken-answer : {S : Type 0} (want : Result Unit Refusal) (next before after : S) (reason : Refusal) (code : ℕ)
    → code ≡ refusal_code reason → IsDoneAs want next before (Err reason) after → want ≢ Err Memory
    → (code ≡ refusal_code Memory → want ≡ Ok tt) × (code ≢ refusal_code Memory → code ≡ code_of want)
untaken-answer (Ok u) next before after reason code is done another = ((λ memory. refl), (λ other. absurd (other (is ∙ ap refusal_code done.0))))
untaken-answer (Err q) next before after reason code is done another =
    let same : reason ≡ q = cc in
    ((λ memory. absurd (another (ap Err (only-memory q (sym (is ∙ ap refusal_code same) ∙ memory))))), (λ other. is ∙ ap refusal_code same))

either-way : {A : Type 0} (b : Bool) (x : A) → (if b then x else x) ≡ x
either-way true x = refl
either-way false x = refl

pub untaken-state : {S : Type 0} (i : ℕ) (want : Result Unit Refusal) (next before after : S) (reason : Refusal) (code : ℕ)
    → code ≡ refusal_code reason → IsDoneAs want next before (Err reason) after → ((q : Refusal) → want ≡ Err q → next ≡ before)
    → take_burst i after ≡ (if code == refusal_code Memory then take_burst i before else taken_more (want, next) (take_burst i before))
untaken-state i (Ok u) next before after reason code is done kept =
    ap (take_burst i) done.1
    ∙ ap (λ (n : ℕ). if n == refusal_code Memory then take_burst i before else taken_more (Ok u, next) (take_burst i before))
    (sym (is ∙ ap refusal_code done.0))
untaken-state i (Err q) next before after reason code is done kept =
    ap (take_burst i) (done.1 ∙ kept q refl) ∙ sym (either-way (code == refusal_code Memory) (take_burst i before))

module _ {S : Type 0} (call : ℕ → RawJob → S → Result Unit Refusal × S) where
  -- the first n jobs of a burst are taken or refused
  pub record AreTaken (n : ℕ) (jobs : List RawJob) (before codes : List ℕ) (s : S) (taken : ℕ) (now : S) : Type 0 where
    pub each : (i : ℕ) → i < n → IsAnswer call (slice_get jobs i) (slice_get codes i) (after_taking call i jobs codes s)
    pub others : (i : ℕ) → n ≤ i → slice_get codes i ≡ slice_get before i
    pub state : take_burst taken now ≡ after_taking call n jobs codes s
    pub size : length codes ≡ length before

  -- a code that is written later changes nothing
  taking-before : (n i : ℕ) (jobs : List RawJob) (codes : List ℕ) (code : ℕ) (s : S) → n ≤ i
      → after_taking call n jobs (set codes i code) s ≡ after_taking call n jobs codes s
  unfolding after_taking
  taking-before zero i jobs codes code s earlier = refl
  taking-before (suc n) i jobs codes code s earlier =
      let beside : n ≢ i = λ same. absurd (omega (arith, same)) in
      ap (λ (returned : Option ℕ). with_returned call (slice_get jobs n) returned (after_taking call n jobs (set codes i code) s)) (set-beside codes i n code beside)
      ∙ ap (with_returned call (slice_get jobs n) (slice_get codes n)) (taking-before n i jobs codes code s (omega arith))

  taking-next : (n : ℕ) (jobs : List RawJob) (codes : List ℕ) (s : S)
      → after_taking call (n + 1) jobs codes s ≡ with_returned call (slice_get jobs n) (slice_get codes n) (after_taking call n jobs codes s)
  unfolding after_taking
  taking-next n jobs codes s = ap (λ (k : ℕ). after_taking call k jobs codes s) (add-one n)

  pub taken-next : (n : ℕ) (jobs : List RawJob) (before codes : List ℕ) (s : S) (taken next : ℕ) (now after : S)
      (raw : RawJob) (code : ℕ) → AreTaken n jobs before codes s taken now → slice_get jobs n ≡ Some raw → n < length codes
      → IsAnswer call (Some raw) (Some code) (take_burst taken now)
      → take_burst next after ≡ with_returned call (Some raw) (Some code) (take_burst taken now)
      → AreTaken (n + 1) jobs before (set codes n code) s next after
  taken-next n jobs before codes s taken next now after raw code are job few answer state =
      let written : List ℕ = set codes n code in
      let returned : slice_get written n ≡ Some code = set-here codes n code few in
      let so_far : take_burst taken now ≡ after_taking call n jobs written s = are.state ∙ sym (taking-before n n jobs codes code s (omega arith)) in
      let last : IsAnswer call (slice_get jobs n) (slice_get written n) (after_taking call n jobs written s) =
      subst (λ (r : Option RawJob). IsAnswer call r (slice_get written n) (after_taking call n jobs written s)) (sym job)
      (subst (λ (c : Option ℕ). IsAnswer call (Some raw) c (after_taking call n jobs written s)) (sym returned)
      (subst (λ (b : TakeBurst S). IsAnswer call (Some raw) (Some code) b) so_far answer)) in
      record {
        each = λ i below. ⊎_elim (λ same. subst (λ (j : ℕ). IsAnswer call (slice_get jobs j) (slice_get written j) (after_taking call j jobs written s)) (sym same) last)
            (λ other. subst (λ (c : Option ℕ). IsAnswer call (slice_get jobs i) c (after_taking call i jobs written s)) (sym (set-beside codes n i code other))
            (subst (λ (b : TakeBurst S). IsAnswer call (slice_get jobs i) (slice_get codes i) b) (sym (taking-before i n jobs codes code s (omega arith)))
            (are.each i (omega (arith, other, below)))))
            (cases_eq i n);
        others = λ i past. set-beside codes n i code (λ same. absurd (omega (arith, same, past))) ∙ are.others i (omega arith);
        state = state
            ∙ ap (λ (b : TakeBurst S). with_returned call (Some raw) (Some code) b) so_far
            ∙ ap (λ (c : Option ℕ). with_returned call (Some raw) c (after_taking call n jobs written s)) (sym returned)
            ∙ ap (λ (r : Option RawJob). with_returned call r (slice_get written n) (after_taking call n jobs written s)) (sym job)
            ∙ sym (taking-next n jobs written s);
        size = length-set codes n code ∙ are.size;
      }

  pub none-taken : (jobs : List RawJob) (codes : List ℕ) (s : S) → AreTaken 0 jobs codes codes s 0 s
  unfolding after_taking
  none-taken jobs codes s = record {
    each = λ i below. absurd (omega (arith, below));
    others = λ i past. refl;
    state = refl;
    size = refl;
  }

-- ---- giving back

-- n calls of a burst are made
pub record AreGiven (n : ℕ) (c : Call) (before after : List RawDone) (m : Option RangedState) (returned : RawBurst) (now : Option RangedState) : Type 0 where
  pub state : now ≡ (after_giving n c before m).state
  pub is_returned : IsBurstReturned (after_giving n c before m) returned before after
  pub given : returned.given ≤ n
  pub made : returned.made ≤ n
  pub size : length after ≡ length before

giving-next : (n : ℕ) (c : Call) (outs : List RawDone) (m : Option RangedState)
    → after_giving (n + 1) c outs m ≡ with_call c (slice_get outs (length (after_giving n c outs m).given)) (after_giving n c outs m)
unfolding after_giving
giving-next n c outs m = ap (λ (k : ℕ). after_giving k c outs m) (add-one n)

pub one-made : (a : Result (Option Given) Refusal) → count_of a ≤ 1
one-made (Ok g) = omega arith
one-made (Err r) = omega arith

-- the room of the place that the next result has is as it was
pub next-room : {S : Type 0} (b : GiveBurst S) (returned : RawBurst) (before outs : List RawDone) → IsBurstReturned b returned before outs
    → slice_get outs returned.given ≡ slice_get before returned.given
next-room b returned before outs is =
    subst (λ (o : Option Given). IsRoomOf o (slice_get before returned.given) (slice_get outs returned.given))
    (slice_get_past b.given returned.given (omega (arith, is.given))) (is.rooms returned.given)

-- what is returned of one call more
pub with-turn : {S : Type 0} (b : GiveBurst S) (a : Result (Option Given) Refusal × S) (returned next : RawBurst) (before outs : List RawDone)
    (out after : RawDone) → IsBurstReturned b returned before outs → slice_get outs returned.given ≡ Some out
    → IsTurnReturned a.0 returned next out after → IsBurstReturned (with_answer a b) next before (set outs returned.given after)
with-turn b a returned next before outs out after is room turn =
    let g : Option Given = given_in a.0 in
    let place : returned.given ≡ length b.given = is.given in
    let few : returned.given < length outs = slice_get_within outs returned.given out room in
    let blank : slice_get outs returned.given ≡ slice_get before returned.given = next-room b returned before outs is in
    let here : IsRoomOf (slice_get (b.given ++ option_to_list g) returned.given) (slice_get before returned.given) (slice_get (set outs returned.given after) returned.given) =
    subst (λ (o : Option RawDone). IsRoomOf (slice_get (b.given ++ option_to_list g) returned.given) o (slice_get (set outs returned.given after) returned.given)) (sym room ∙ blank)
    (subst (λ (o : Option RawDone). IsRoomOf (slice_get (b.given ++ option_to_list g) returned.given) (Some out) o) (sym (set-here outs returned.given after few))
    (subst (λ (o : Option Given). IsRoomOf o (Some out) (Some after)) (sym (ap (slice_get (b.given ++ option_to_list g)) place ∙ joined-here b.given g)) turn.room)) in
    record {
      given = turn.given ∙ ap (λ i. i + length (option_to_list g)) place ∙ sym (length-append b.given (option_to_list g));
      made = turn.made ∙ ap (λ i. i + count_of a.0) is.made;
      refusal = turn.refusal;
      rooms = λ i. ⊎_elim
          (λ same. subst (λ (j : ℕ). IsRoomOf (slice_get (b.given ++ option_to_list g) j) (slice_get before j) (slice_get (set outs returned.given after) j)) (sym same) here)
          (λ other. subst (λ (o : Option RawDone). IsRoomOf (slice_get (b.given ++ option_to_list g) i) (slice_get before i) o) (sym (set-beside outs returned.given i after other))
          (subst (λ (o : Option Given). IsRoomOf o (slice_get before i) (slice_get outs i)) (sym (joined-beside b.given g i (λ same. other (same ∙ sym place)))) (is.rooms i)))
          (cases_eq i returned.given);
    }

pub given-next : (n : ℕ) (c : Call) (before outs : List RawDone) (m now after : Option RangedState) (returned next : RawBurst) (out room : RawDone)
    → AreGiven n c before outs m returned now → slice_get outs returned.given ≡ Some out → after ≡ (answered c now out).1
    → IsTurnReturned (answered c now out).0 returned next out room → AreGiven (n + 1) c before (set outs returned.given room) m next after
given-next n c before outs m now after returned next out room are there state turn =
    let b : GiveBurst (Option RangedState) = after_giving n c before m in
    let place : returned.given ≡ length b.given = are.is_returned.given in
    let blank : slice_get outs returned.given ≡ slice_get before returned.given = next-room b returned before outs are.is_returned in
    let same : with_answer (answered c now out) b ≡ after_giving (n + 1) c before m =
    ap (λ (k : Option RangedState). with_answer (answered c k out) b) are.state
    ∙ ap (λ (o : Option RawDone). with_call c o b) (sym there ∙ blank ∙ ap (slice_get before) place)
    ∙ sym (giving-next n c before m) in
    record {
      state = state ∙ ap (λ (d : GiveBurst (Option RangedState)). d.state) same;
      is_returned = subst (λ (d : GiveBurst (Option RangedState)). IsBurstReturned d next before (set outs returned.given room)) same
          (with-turn b (answered c now out) returned next before outs out room are.is_returned there turn);
      given = omega (arith, turn.given, are.given, at-most-one (given_in (answered c now out).0));
      made = omega (arith, turn.made, are.made, one-made (answered c now out).0);
      size = length-set outs returned.given room ∙ are.size;
    }

pub none-given : (c : Call) (outs : List RawDone) (m : Option RangedState) → AreGiven 0 c outs outs m (record { made = 0; given = 0; refusal = 0 }) m
unfolding after_giving
none-given c outs m = record {
  state = refl;
  is_returned = record { given = refl; made = refl; refusal = refl; rooms = λ i. refl };
  given = omega arith;
  made = omega arith;
  size = refl;
}
