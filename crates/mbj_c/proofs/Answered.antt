-- What an answer's code says, if memory may run out.
use Rattle.std.proofs.Common.{◌≡◌, ◌≢◌, ◌∙◌, Ok, Err, Result, Some, refl, ap}
use Rattle.mbj_c.specs.declared.refusal.Refusal.{Refusal}
use Rattle.mbj_c.specs.Codes.{code_of, refusal_code}
use Rattle.mbj_c.specs.Inside.Answers.{IsDoneAs}

-- if it isn't that of want of memory, it is the wanted one
pub code-wanted : {A : Type 0} (want : Result Unit Refusal) (next before : A) (answer : Result Unit Refusal) (after : A)
    → IsDoneAs want next before answer after → code_of answer ≢ 23 → code_of answer ≡ code_of want
code-wanted (Ok u) next before (Ok v) after is other = refl
code-wanted (Ok u) next before (Err r) after is other = absurd (other (ap refusal_code is.0))
code-wanted (Err q) next before answer after is other = ap code_of is.0

-- and so is the state
pub state-wanted : {A : Type 0} (want : Result Unit Refusal) (next before : A) (answer : Result Unit Refusal) (after : A)
    → IsDoneAs want next before answer after → code_of answer ≢ 23 → after ≡ next
state-wanted (Ok u) next before (Ok v) after is other = is
state-wanted (Ok u) next before (Err r) after is other = absurd (other (ap refusal_code is.0))
state-wanted (Err q) next before answer after is other = is.1

-- if it is that of want of memory, the state is the one before, as with each refusal that is wanted
pub state-kept : {A : Type 0} (want : Result Unit Refusal) (next before : A) (answer : Result Unit Refusal) (after : A)
    → IsDoneAs want next before answer after → ((q : Refusal) → want ≡ Err q → next ≡ before) → code_of answer ≡ 23 → after ≡ before
state-kept (Ok u) next before (Ok v) after is kept memory = absurd (cc)
state-kept (Ok u) next before (Err r) after is kept memory = is.1
state-kept (Err q) next before answer after is kept memory = is.1 ∙ kept q refl

-- what is done to a manager is done to the handle that has it
pub done-some : {A : Type 0} (want : Result Unit Refusal) (next before : A) (answer : Result Unit Refusal) (after : A)
    → IsDoneAs want next before answer after → IsDoneAs want (Some next) (Some before) answer (Some after)
done-some (Ok u) next before (Ok v) after is = ap Some is
done-some (Ok u) next before (Err r) after is = (is.0, ap Some is.1)
done-some (Err q) next before answer after is = (is.0, ap Some is.1)
