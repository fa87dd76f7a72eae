-- The part of a list from a place on, which is read and written.
use Rattle.std.proofs.Common.{◌≡◌, ℕ, ◌+◌, ◌-◌, ◌<◌, ◌≤◌, List, [], ◌++◌, length, take, drop, map, get_or, inl, inr, refl, sym, ap, ◌∙◌, arith, length-drop}
use Rattle.std.proofs.lemmas.Bool.{cases_lt}
use Rattle.std.proofs.lemmas.List.{same_lists, length-map, get_or-map, get_or_default, append-nil, drop_all, get_or_append_left, get_or-append_right, get_or-drop, get_or-take, length-take-le, take_rest}
use borrow.Rule.Slice.PartMut.{put_mid}

module _ {X : Type 0} (a : ℕ) (xs : List X) (d : X) where
  pub part_read : (n j i : ℕ) → n ≡ length xs - a → i ≡ a + j → get_or (take n (drop a xs)) j d ≡ get_or xs i d
  part_read n j i e f =
      ap (λ (n : ℕ). get_or (take n (drop a xs)) j d) e
      ∙ ap (λ zs. get_or zs j d) (take_rest xs a)
      ∙ get_or-drop a xs j d
      ∙ ap (λ (i : ℕ). get_or xs i d) (sym f)

  module _ (n : ℕ) (ys : List X) (inside : a ≤ length xs) where
    pub part_below : (i : ℕ) → i < a → get_or (put_mid a n xs ys) i d ≡ get_or xs i d
    part_below i h =
        get_or_append_left (take a xs) (ys ++ drop n (drop a xs)) d i (omega (arith, length-take-le a xs inside)) ∙ get_or-take a xs i d h

    pub part_written : (j i : ℕ) → n ≡ length xs - a → i ≡ a + j → get_or (put_mid a n xs ys) i d ≡ get_or ys j d
    part_written j i e f =
        let place : i - a ≡ j = omega arith in
        get_or-append_right (take a xs) (ys ++ drop n (drop a xs)) a i d (length-take-le a xs inside) (omega arith)
        ∙ ap (λ zs. get_or (ys ++ zs) (i - a) d) (drop_all n (drop a xs) (omega (arith, length-drop a xs)))
        ∙ ap (λ zs. get_or zs (i - a) d) (append-nil ys)
        ∙ ap (λ (i : ℕ). get_or ys i d) place

-- a list whose items are those of another one, each changed by f
pub changed_list : (f : List ℕ → List ℕ) (xs ys : List (List ℕ)) → length ys ≡ length xs
    → ((i : ℕ) → i < length xs → get_or ys i [] ≡ f (get_or xs i [])) → ys ≡ map f xs
changed_list f xs ys size each =
    same_lists ys (map f xs) (size ∙ sym (length-map xs f))
    (λ i d h.
    let inside : i < length xs = omega (arith, size) in
    get_or_default ys i d [] h ∙ each i inside ∙ sym (get_or-map f xs i [] d inside))

-- a list whose part from a on is written with ys, of which m items count
module _ (a m : ℕ) (xs ys : List (List ℕ)) (inside : a ≤ length xs) where
  pub changed_further : (f : List ℕ → List ℕ) (old : List (List ℕ)) → ((i : ℕ) → i < a → get_or xs i [] ≡ f (get_or old i []))
      → ((j : ℕ) → j < m → get_or ys j [] ≡ f (get_or old (a + j) []))
      → (i : ℕ) → i < a + m → get_or (put_mid a (length xs - a) xs ys) i [] ≡ f (get_or old i [])
  changed_further f old before here i h =
      elim (cases_lt i a) [
        | inl below ↦ part_below a xs [] (length xs - a) ys inside i below ∙ before i below
        | inr above ↦
            let place : i ≡ a + (i - a) = omega arith in
            part_written a xs [] (length xs - a) ys inside (i - a) i refl place
            ∙ here (i - a) (omega arith) ∙ ap (λ (i : ℕ). f (get_or old i [])) (sym place)
      ]

  pub same_further : ((j : ℕ) → m ≤ j → get_or ys j [] ≡ get_or (take (length xs - a) (drop a xs)) j [])
      → (i : ℕ) → a + m ≤ i → get_or (put_mid a (length xs - a) xs ys) i [] ≡ get_or xs i []
  same_further same i h =
      let place : i ≡ a + (i - a) = omega arith in
      part_written a xs [] (length xs - a) ys inside (i - a) i refl place
      ∙ same (i - a) (omega arith) ∙ part_read a xs [] (length xs - a) (i - a) i refl place
