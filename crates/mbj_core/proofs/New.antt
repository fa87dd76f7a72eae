-- The new core stands for the new front.
use Rattle.std.proofs.Common.{◌≡◌, ℕ, zero, suc, ◌+◌, ◌*◌, ◌<◌, ◌≤◌, List, [], ◌∷◌, map, length, replicate, sym, refl, ap, ◌∙◌, subst, arith}
use Rattle.std.specs.Prelude.{Some, slice_get}
use Rattle.std.specs.List.{All}
use Rattle.std.proofs.lemmas.List.Elements.{All-replicate}
use Rattle.std.proofs.lemmas.List.{get_or-replicate, length-replicate}
use Rattle.std.proofs.lemmas.Option.{none-some, slice_get-get_or}
use Rattle.mbj_types.specs.Result.{result_of}
use Rattle.mbj_core.specs.declared.cells.TheConstants.{MAX_SUBMITTERS, MAX_WORKERS, SUBMITTER_CELLS}
use Rattle.mbj_core.specs.declared.cells.Slot.{Slot}
use Rattle.mbj_core.specs.declared.cells.Slot.TheVariants as slot
use Rattle.mbj_core.specs.declared.machine.Core.TheInside.{Inside}
use Rattle.mbj_core.specs.declared.machine.JobsOut.{JobsOut}
use Rattle.mbj_core.specs.Inside.Fields.{cell_shown, state_of, IsCore}
use Rattle.mbj_core.specs.Cells.{free}
use Rattle.mbj_core.specs.Parties.{new_front}
use Rattle.mbj_core.specs.CoreStates.{jobs_out, new_core}
use Rattle.mbj_core.specs.Stands.{StandsFor, IsBacked}
use Rattle.mbj_core.proofs.Calls.{outs_from}
use Rattle.mbj_core.proofs.RunLaws.{new_front_sound}

module _ {A : Type 0} where
  at_replicate : (n i : ℕ) (a : A) → i < n → slice_get (replicate n a) i ≡ Some a
  at_replicate n i a l = slice_get-get_or (replicate n a) i a (omega (arith, length-replicate n a)) ∙ ap Some (get_or-replicate n i a a l)

  pub map_replicate : {B : Type 0} (f : A → B) (n : ℕ) (a : A) → map f (replicate n a) ≡ replicate n (f a)
  map_replicate f zero a = refl
  map_replicate f (suc n) a = ap (λ t. f a ∷ t) (map_replicate f n a)

none_out : (submitters workers s : ℕ) → s < submitters → jobs_out (new_core submitters workers) s ≡ outs_from 0 0
none_out submitters workers s l = get_or-replicate submitters s (outs_from 0 0) (outs_from 0 0) l

pub new_stands : (submitters workers : ℕ) → StandsFor (new_core submitters workers) new_front
new_stands submitters workers = record {
  each_cell = λ c l. at_replicate (SUBMITTER_CELLS * submitters) c free l;
  at_rest = λ p. (refl, refl);
  each_hand = λ p l. at_replicate (submitters + workers) p [] l;
  hand_results = λ p k c d at. absurd (none-some (c, d) at);
  each_first = λ s l. ap (λ (o : JobsOut). o.first) (sym (none_out submitters workers s l));
  each_out = λ s l. let none = ap (λ (o : JobsOut). o.count) (none_out submitters workers s l) in omega arith;
  due_results = λ s n l lo hi. absurd (omega arith);
  posters = λ p l. (refl, refl);
  nobody = λ p l. refl;
}

pub new_backed : (submitters workers : ℕ) → IsBacked (new_core submitters workers)
new_backed submitters workers = ∣ (new_front, new_stands submitters workers, (new_front_sound result_of submitters workers).1) ∣₁

-- the fields of a core that was just made
module _ (a : Inside) (free_cells : a.cells.items ≡ replicate (SUBMITTER_CELLS * a.submitters) slot.Free) (empty_hands : a.hands.items ≡ replicate (a.submitters + a.workers) [])
    (outs : a.outs.items ≡ replicate a.submitters (outs_from 0 0)) where
  pub new_is : state_of a ≡ new_core a.submitters a.workers
  new_is = λ t. record {
    submitters = a.submitters;
    workers = a.workers;
    cells = (ap (map cell_shown) free_cells ∙ map_replicate cell_shown (SUBMITTER_CELLS * a.submitters) slot.Free) t;
    hands = empty_hands t;
    outs = outs t;
  }

  pub is_new : 1 ≤ a.submitters → a.submitters ≤ MAX_SUBMITTERS → a.workers ≤ MAX_WORKERS → IsCore a
  is_new some few_submitters few_workers = record {
    some_submitter = some;
    submitters = few_submitters;
    workers = few_workers;
    cells = a.cells.ok.0 ∙ ap (λ (l : List Slot). length l) free_cells ∙ length-replicate (SUBMITTER_CELLS * a.submitters) slot.Free;
    hands = a.hands.ok.0 ∙ ap (λ (l : List (List ℕ)). length l) empty_hands ∙ length-replicate (a.submitters + a.workers) [];
    outs = a.outs.ok.0 ∙ ap (λ (l : List JobsOut). length l) outs ∙ length-replicate a.submitters (outs_from 0 0);
    each_first = subst (All (λ (o : JobsOut). o.first < SUBMITTER_CELLS)) (sym outs)
        (All-replicate (λ (o : JobsOut). o.first < SUBMITTER_CELLS) a.submitters (outs_from 0 0) (omega arith));
    each_out = subst (All (λ (o : JobsOut). o.count ≤ SUBMITTER_CELLS)) (sym outs)
        (All-replicate (λ (o : JobsOut). o.count ≤ SUBMITTER_CELLS) a.submitters (outs_from 0 0) (omega arith));
    backed = subst IsBacked (sym new_is) (new_backed a.submitters a.workers);
  }
