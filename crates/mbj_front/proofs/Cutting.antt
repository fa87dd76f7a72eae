-- The table at the start, and how its seats are cut, each keeping the rule.
use Rattle.std.proofs.Common.{◌≡◌, ℕ, zero, suc, ◌+◌, ◌*◌, ◌<◌, List, [], ◌∷◌, ◌++◌, length, set, sym, refl, ap, ◌∙◌, subst, arith, add-one, length-set, length-append, replicate, map}
use mathlib.Core.Option.{some, some-injective}
use lib.ListN.{get_elem?, length-map, length-replicate, get_or-replicate}
use mathlib.Core.Logic.{dite}
use native.Mathlib.Decide.{ℕ_discrete}
use Rattle.atomic_table.specs.Table.{Splits, opening}
use Rattle.atomic_table.proofs.Lists.{at_longer, at_last, set_here, set_else}
use Rattle.mbj_core.specs.declared.cells.TheConstants.{SUBMITTER_CELLS}
use Rattle.mbj_core.specs.declared.party.View.{View}
use Rattle.mbj_core.specs.Parties.{new_party, new_front}
use Rattle.mbj_core.proofs.RunLaws.{new_front_sound}
use Rattle.mbj_front.specs.declared.slot.Slot.{Slot}
use Rattle.mbj_front.specs.declared.slot.Slot.TheVariants.{Blank}
use Rattle.mbj_front.specs.declared.place.Place.{Place}
use Rattle.mbj_front.specs.Rule.{place, root, Shows, Rule}
use Rattle.mbj_front.proofs.Shown.{table, inside, not_root}

module _ {J D : Type 0} where
  abbrev blank : Slot J D
  blank = Blank

module _ {J D : Type 0} (owed : J → D) (S W : ℕ) where
  -- the next party is cut from the root
  pub cuts : (id k : ℕ) → k < S + W → Splits (Rule owed S W) id (root S W k) (root S W (k + 1)) (place S W (new_party k))
  cuts id k few s rule at = (rule.0, shown (first id at), rule.2)
    where
      first : (id : ℕ) → get_elem? s.views id ≡ some (root S W k) → id ≡ 0
      first zero at = refl
      first (suc q) at = let h = rule.1 in let at' : get_elem? s.views (q + 1) ≡ some (root S W k) = subst (λ (i : ℕ). get_elem? s.views i ≡ some (root S W k)) (sym (add-one q)) at in
          let l = inside s.views (q + 1) (root S W k) at' in
          absurd (not_root (place S W (rule.0.seats q)) S W k (some-injective _ _ (sym (h.each_place q (omega (arith, l, h.place_count))) ∙ at')) refl)

      shown : id ≡ 0 → Shows S W (table s.words s.homes (set s.views id (root S W (k + 1)) ++ place S W (new_party k) ∷ [])) rule.0
      shown e = let f = rule.0 in let h = rule.1 in let r : Place D = root S W (k + 1) in
          let at0 : get_elem? s.views 0 ≡ some (root S W k) = subst (λ (i : ℕ). get_elem? s.views i ≡ some (root S W k)) e at in
          let same : k ≡ h.cut = ap (λ (x : Place D). x.view.number) (some-injective _ _ (sym at0 ∙ h.the_root)) in
          let long : length (set s.views 0 r) ≡ h.cut + 1 = length-set s.views 0 r ∙ h.place_count in let next : List (Place D) = place S W (new_party k) ∷ [] in
          subst (λ (i : ℕ). Shows S W (table s.words s.homes (set s.views i r ++ next)) f) (sym e) (record {
            cut = k + 1;
            few = omega arith;
            word_count = h.word_count;
            home_count = h.home_count;
            each_word = h.each_word;
            each_home = h.each_home;
            place_count = omega (arith, length-append (set s.views 0 r) next, long, same);
            the_root = at_longer (set s.views 0 r) next 0 r (set_here s.views 0 r (inside s.views 0 (root S W k) at0));
            each_place = λ q l. dite (ℕ_discrete q k)
                (λ e. subst (λ (j : ℕ). get_elem? (set s.views 0 r ++ next) (j + 1) ≡ some (place S W (f.seats j))) (sym e)
                (at_last (set s.views 0 r) (place S W (new_party k)) (k + 1) (long ∙ ap (λ (n : ℕ). n + 1) (sym same)) ∙ ap (λ (v : View D). some (place S W v)) (sym (h.uncut k (omega (arith, same))))))
                (λ ne. at_longer (set s.views 0 r) next (q + 1) (place S W (f.seats q)) (set_else s.views 0 (q + 1) r (λ z. omega arith) ∙ h.each_place q (omega (arith, same))));
            each_number = h.each_number;
            uncut = λ q l. h.uncut q (omega (arith, same));
          })

  all_blank : (n i : ℕ) → i < n → get_elem? (map some (replicate n (blank {J = J} {D = D}))) i ≡ some (some Blank)
  all_blank zero i l = absurd (omega arith)
  all_blank (suc n) zero l = refl
  all_blank (suc n) (suc i) l = all_blank n i (omega arith)

  -- every cell is free, and no party is cut
  pub starts : Rule owed S W (opening (replicate (SUBMITTER_CELLS * S) 0) (replicate (SUBMITTER_CELLS * S) Blank) (root S W 0))
  starts = (
    new_front,
    record {
      cut = 0;
      few = omega arith;
      word_count = length-replicate (SUBMITTER_CELLS * S) 0;
      home_count = length-map (replicate (SUBMITTER_CELLS * S) (blank {J = J} {D = D})) some ∙ length-replicate (SUBMITTER_CELLS * S) (blank {J = J} {D = D});
      each_word = λ c l. get_or-replicate (SUBMITTER_CELLS * S) c 0 0 l;
      each_home = λ c l. all_blank (SUBMITTER_CELLS * S) c l;
      place_count = omega arith;
      the_root = refl;
      each_place = λ q l. absurd (omega arith);
      each_number = λ q. refl;
      uncut = λ q _. refl;
    },
    (new_front_sound owed S W).1,
  )
