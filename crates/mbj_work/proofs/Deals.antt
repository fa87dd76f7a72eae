-- Lists to which items are dealt by turns.
use Rattle.std.proofs.Common.{◌≡◌, ◌≢◌, ◌∙◌, ◌+◌, ◌-◌, ◌*◌, ◌/◌, ◌%◌, ◌<◌, ◌≤◌, ◌⊎◌, inl, inr, ℕ, zero, suc, List, [], ◌∷◌, ◌++◌, Some, None, All, Vec, Global, refl, ap, sym, subst, length, map, option_map, option_to_list, drop, slice_get, get_or, set, arith, vec_capacity, append-nil, append_assoc}
use Rattle.std.proofs.Math.Nat.{div-add-mod, div-lt_iff_lt-mul, div-eq_of_lt, div-eq-sub-div, mod-eq-sub-mod}
use Rattle.std.proofs.Math.ListN.{length-set, length-append}
use Rattle.std.proofs.lemmas.Nat.{mod_below}
use Rattle.std.proofs.lemmas.Bool.{cases_lt}
use Rattle.std.proofs.lemmas.Option.{slice_get_past, slice_get_within, slice_get-get_or, slice_get-map}
use Rattle.std.proofs.lemmas.List.{get_or-map, get_or-set_same, get_or-set_other, map-set, length-map}
use Rattle.std.proofs.lemmas.List.Elements.{All-set}
use Rattle.std.proofs.lemmas.Simd.{map-map}
use Rattle.std.proofs.lemmas.Grind.{div_ceil_times}
use Rattle.std.specs.Int.{div_ceil}
use Rattle.mbj_work.specs.Dealing.{AreDealt}
use Rattle.mbj_work.specs.Inside.Gathering.{gathered}

-- ---- one list

-- an item behind a list
snoc_same : {X : Type 0} (xs : List X) (x : X) → slice_get (xs ++ x ∷ []) (length xs) ≡ Some x
snoc_same [] x = refl
snoc_same (y ∷ xs) x = snoc_same xs x

-- the other places stay
snoc_other : {X : Type 0} (xs : List X) (x : X) (k : ℕ) → k ≢ length xs
    → slice_get (xs ++ x ∷ []) k ≡ slice_get xs k
snoc_other [] x zero other = absurd (other refl)
snoc_other [] x (suc k) other = refl
snoc_other (y ∷ xs) x zero other = refl
snoc_other (y ∷ xs) x (suc k) other = snoc_other xs x k (λ e. other (ap suc e))

-- a list is no longer than a place at which nothing stands
length_at_none : {X : Type 0} (xs : List X) (k : ℕ) → slice_get xs k ≡ None → length xs ≤ k
length_at_none [] k none = omega arith
length_at_none (x ∷ xs) zero none = let no : ⊥ = cc in absurd no
length_at_none (x ∷ xs) (suc k) none = let le : length xs ≤ k = length_at_none xs k none in omega arith

-- from a place on stands what is there, and then what is from the next place on
pub drop_next : {X : Type 0} (xs : List X) (n : ℕ) (x : X) → slice_get xs n ≡ Some x → drop n xs ≡ x ∷ drop (n + 1) xs
drop_next [] n x is = let no : ⊥ = cc in absurd no
drop_next (y ∷ xs) zero x is = cc
drop_next (y ∷ xs) (suc n) x is =
    let next : suc (n + 1) ≡ suc n + 1 = omega arith in
    drop_next xs n x is ∙ ap (λ k. x ∷ drop k (y ∷ xs)) next

-- nothing stands from the end on
drop-all : {X : Type 0} (xs : List X) (n : ℕ) → length xs ≤ n → drop n xs ≡ []
drop-all [] zero past = refl
drop-all [] (suc n) past = refl
drop-all (x ∷ xs) zero past = absurd (let no : ⊥ = omega arith in no)
drop-all (x ∷ xs) (suc n) past = drop-all xs n (omega arith)

-- ---- turns

equal_or_not : (i j : ℕ) → (i ≡ j) ⊎ (i ≢ j)
equal_or_not i j = elim (cases_lt i j) [
  | inl below ↦ inr (omega arith)
  | inr least ↦ elim (cases_lt j i) [ inl above ↦ inr (omega arith) | inr most ↦ inl (omega arith) ]
]

-- a turn and a place are those of one item
item_at : (i j n : ℕ) → i % n ≡ j % n → i / n ≡ j / n → i ≡ j
item_at i j n turn place =
    sym (div-add-mod i n) ∙ ap (λ q. n * q + i % n) place ∙ ap (λ r. n * (j / n) + r) turn ∙ div-add-mod j n

-- a list whose place i / n is the next has i / n items
place_is_next : {X : Type 0} (xs : List X) (n : ℕ) (lists : List (List X)) → 0 < n → AreDealt xs n lists
    → length (get_or lists (length xs % n) []) ≡ length xs / n
place_is_next {X} xs n lists some dealt =
    let list : List X = get_or lists (length xs % n) [] in
    let none : slice_get list (length xs / n) ≡ None = dealt.each (length xs) ∙ slice_get_past xs (length xs) (omega arith) in
    let most : length list ≤ length xs / n = length_at_none list (length xs / n) none in
    elim (cases_lt (length xs) n) [
      | inl below ↦ (let first : length xs / n ≡ 0 = div-eq_of_lt below in omega arith)
      | inr least ↦ (
          let before : ℕ = length xs - n in
          let inside : before < length xs = omega arith in
          let turn : length xs % n ≡ before % n = mod-eq-sub-mod least in
          let place : length xs / n ≡ before / n + 1 = div-eq-sub-div some least in
          let stands : slice_get list (before / n) ≡ slice_get xs before
          = ap (λ t. slice_get (get_or lists t []) (before / n)) turn ∙ dealt.each before in
          elim xs as (λ ys. 0 < length ys → length list ≡ length xs / n) [
            | [] ↦ λ no. absurd (let bad : ⊥ = omega arith in bad)
            | x ∷ rest ↦ λ _. (
                let is : slice_get xs before ≡ Some (get_or xs before x) = slice_get-get_or xs before x inside in
                let least_place : before / n < length list = slice_get_within list (before / n) _ (stands ∙ is) in
                omega arith
                )
          ] (omega arith)
          )
    ]

-- the next item goes behind the list whose turn it is
pub dealt_more : {X : Type 0} (xs : List X) (x : X) (n : ℕ) (lists : List (List X)) → 0 < n → AreDealt xs n lists
    → AreDealt (xs ++ x ∷ []) n (set lists (length xs % n) (get_or lists (length xs % n) [] ++ x ∷ []))
dealt_more {X} xs x n lists some dealt =
    let turn : ℕ = length xs % n in
    let list : List X = get_or lists turn [] in
    let more : List (List X) = set lists turn (list ++ x ∷ []) in
    let count : length lists ≡ n = dealt.count in
    let below : turn < length lists = (let b : turn < n = mod_below (length xs) n some in omega arith) in
    let place : length list ≡ length xs / n = place_is_next xs n lists some dealt in
    let here : get_or more turn [] ≡ list ++ x ∷ [] = get_or-set_same lists turn (list ++ x ∷ []) [] below in
    record {
      count = length-set lists turn (list ++ x ∷ []) ∙ count;
      each = λ i. elim (equal_or_not i (length xs)) [
        | inl last ↦ ap (λ j. slice_get (get_or more (j % n) []) (j / n)) last
            ∙ ap (λ l. slice_get l (length xs / n)) here
            ∙ ap (λ k. slice_get (list ++ x ∷ []) k) (sym place)
            ∙ snoc_same list x ∙ sym (snoc_same xs x) ∙ ap (λ j. slice_get (xs ++ x ∷ []) j) (sym last)
        | inr other ↦ elim (equal_or_not (i % n) turn) [
          | inl same ↦ (
              let away : i / n ≢ length list = λ e. other (item_at i (length xs) n same (e ∙ place)) in
              ap (λ t. slice_get (get_or more t []) (i / n)) same
              ∙ ap (λ l. slice_get l (i / n)) here
              ∙ snoc_other list x (i / n) away
              ∙ ap (λ t. slice_get (get_or lists t []) (i / n)) (sym same)
              ∙ dealt.each i ∙ sym (snoc_other xs x i other)
              )
          | inr apart ↦
              ap (λ l. slice_get l (i / n)) (get_or-set_other lists turn (i % n) (list ++ x ∷ []) [] apart)
              ∙ dealt.each i ∙ sym (snoc_other xs x i other)
        ]
      ];
    }

-- ---- as the lists are made

-- items are dealt up to those that are left
pub record IsDealing {X : Type 0} (items rest : List X) (i n : ℕ) (lists : List (List X)) : Type 0 where
  pub dealt : List X
  pub parts : dealt ++ rest ≡ items
  pub count : length dealt ≡ i
  pub by_turns : AreDealt dealt n lists

-- each of some empty lists is empty
empty_at : {X : Type 0} (lists : List (Vec X Global)) (k : ℕ) → All (λ l. l.items ≡ []) lists
    → get_or (map (λ l. l.items) lists) k [] ≡ []
empty_at [] k empty = refl
empty_at (l ∷ lists) zero empty = empty 0 l (omega arith)
empty_at (l ∷ lists) (suc k) empty = empty_at lists k (λ i d below. empty (suc i) d (omega arith))

-- nothing is dealt to empty lists
pub dealing_start : {X : Type 0} (items rest : List X) (n : ℕ) (lists : List (Vec X Global)) → rest ≡ items
    → length lists ≡ n → All (λ l. l.items ≡ []) lists
    → IsDealing items rest 0 n (map (λ l. l.items) lists)
dealing_start {X} items rest n lists is count empty = record {
  dealt = [];
  parts = is;
  count = refl;
  by_turns = record {
    count = length-map lists _ ∙ count;
    each = λ i. ap (λ l. slice_get l (i / n)) (empty_at lists (i % n) empty);
  };
}

nil_of_length : {X : Type 0} (xs : List X) → length xs ≡ 0 → xs ≡ []
nil_of_length [] none = refl
nil_of_length (x ∷ xs) none = absurd (let no : ⊥ = omega arith in no)

-- the items of a list that was taken from lists
list_items : {X : Type 0} (lists : List (Vec X Global)) (list : Vec X Global) (k : ℕ) → k < length lists
    → list ≡ get_or lists k list → list.items ≡ get_or (map (λ l. l.items) lists) k []
list_items lists list k inside is = ap (λ l. l.items) is ∙ sym (get_or-map (λ l. l.items) lists k list [] inside)

-- the list whose turn it is stands among the lists
pub turn_inside : {X : Type 0} {items rest : List X} {i n : ℕ} (lists : List (Vec X Global)) → 0 < n
    → IsDealing items rest i n (map (λ l. l.items) lists) → i % n < length lists
turn_inside {X} {items} {rest} {i} {n} lists some dealing =
    let count : length lists ≡ n = sym (length-map lists _) ∙ dealing.by_turns.count in
    let below : i % n < n = mod_below i n some in
    omega arith

-- a list that was taken from the lists has as many items as the place says
pub turn_place : {X : Type 0} {items rest : List X} {i n : ℕ} (lists : List (Vec X Global)) (list : Vec X Global) → 0 < n
    → IsDealing items rest i n (map (λ l. l.items) lists) → list ≡ get_or lists (i % n) list → length list.items ≡ i / n
turn_place {X} {items} {rest} {i} {n} lists list some dealing is =
    ap length (list_items lists list (i % n) (turn_inside lists some dealing) is)
    ∙ ap (λ j. length (get_or (map (λ l. l.items) lists) (j % n) [])) (sym dealing.count)
    ∙ place_is_next dealing.dealt n (map (λ l. l.items) lists) some dealing.by_turns
    ∙ ap (λ j. j / n) dealing.count

-- a place of an item is below the room of its list
pub place_inside : (i n count : ℕ) → 0 < n → i < count → i / n < div_ceil count n
place_inside i n count some below =
    let enough : count ≤ div_ceil count n * n = (div_ceil_times count n some).0 in
    (div-lt_iff_lt-mul {k = n} {x = i} {y = div_ceil count n} some).1 (omega arith)

-- one more job is dealt
pub dealing_more : {X : Type 0} {items rest left : List X} {i n : ℕ} (lists : List (Vec X Global)) (list new : Vec X Global) (x : X)
    → 0 < n → IsDealing items left i n (map (λ l. l.items) lists) → left ≡ x ∷ rest
    → list ≡ get_or lists (i % n) list → new.items ≡ list.items ++ x ∷ []
    → IsDealing items rest (i + 1) n (map (λ l. l.items) (set lists (i % n) new))
dealing_more {X} {items} {rest} {left} {i} {n} lists list new x some dealing first is more =
    let F : ℕ → Type 0 = λ j. AreDealt (dealing.dealt ++ x ∷ []) n
    (set (map (λ l. l.items) lists) (j % n) (get_or (map (λ l. l.items) lists) (j % n) [] ++ x ∷ [])) in
    let G : List (List X) → Type 0 = λ ls. AreDealt (dealing.dealt ++ x ∷ []) n ls in
    let old : list.items ≡ get_or (map (λ l. l.items) lists) (i % n) [] = list_items lists list (i % n) (turn_inside lists some dealing) is in
    let written : set (map (λ l. l.items) lists) (i % n) (get_or (map (λ l. l.items) lists) (i % n) [] ++ x ∷ [])
    ≡ map (λ l. l.items) (set lists (i % n) new)
    = ap (λ l. set (map (λ v. v.items) lists) (i % n) (l ++ x ∷ [])) (sym old)
    ∙ ap (λ l. set (map (λ v. v.items) lists) (i % n) l) (sym more)
    ∙ sym (map-set (λ l. l.items) lists (i % n) new) in
    record {
      dealt = dealing.dealt ++ x ∷ [];
      parts = append_assoc dealing.dealt (x ∷ []) rest ∙ ap (λ l. dealing.dealt ++ l) (sym first) ∙ dealing.parts;
      count = length-append dealing.dealt (x ∷ []) ∙ ap (λ j. j + 1) dealing.count;
      by_turns = subst G written (subst F dealing.count (dealt_more dealing.dealt x n (map (λ l. l.items) lists) some dealing.by_turns));
    }

-- if an item is left, its number is below that of all
pub number_inside : {X : Type 0} {items left rest : List X} {i n : ℕ} {lists : List (List X)} {x : X}
    → IsDealing items left i n lists → left ≡ x ∷ rest → i < length items
number_inside {X} {items} {left} {rest} {i} {n} {lists} {x} dealing first =
    let all : length dealing.dealt + length left ≡ length items = sym (length-append dealing.dealt left) ∙ ap length dealing.parts in
    let one : length left ≡ suc (length rest) = ap length first in
    let count : length dealing.dealt ≡ i = dealing.count in
    omega arith

-- if none is left, all are dealt
pub dealing_done : {X : Type 0} {items rest : List X} {i n : ℕ} {lists : List (List X)} → length rest ≡ 0
    → IsDealing items rest i n lists → AreDealt items n lists
dealing_done {X} {items} {rest} {i} {n} {lists} none dealing =
    let G : List X → Type 0 = λ l. AreDealt l n lists in
    let whole : dealing.dealt ≡ items = sym (append-nil dealing.dealt)
    ∙ ap (λ l. dealing.dealt ++ l) (sym (nil_of_length rest none)) ∙ dealing.parts in
    subst G whole dealing.by_turns

-- the number under another name
pub renumbered : {X : Type 0} {items rest : List X} {i n : ℕ} {lists : List (List X)} (j : ℕ) → i ≡ j
    → IsDealing items rest i n lists → IsDealing items rest j n lists
renumbered {X} {items} {rest} {i} {n} {lists} j is dealing =
    let F : ℕ → Type 0 = λ k. IsDealing items rest k n lists in
    subst F is dealing

-- the list whose turn it is has room for one more
pub turn_room : {X : Type 0} {items left rest : List X} {i n : ℕ} {x : X} (lists : List (Vec X Global)) (list : Vec X Global) → 0 < n
    → IsDealing items left i n (map (λ l. l.items) lists) → left ≡ x ∷ rest → list ≡ get_or lists (i % n) list
    → All (λ l. div_ceil (length items) n ≤ vec_capacity l) lists → length list.items < vec_capacity list
turn_room {X} {items} {left} {rest} {i} {n} {x} lists list some dealing first is room =
    let place : length list.items ≡ i / n = turn_place lists list some dealing is in
    let inside : i / n < div_ceil (length items) n = place_inside i n (length items) some (number_inside dealing first) in
    let P : Vec X Global → Type 0 = λ l. div_ceil (length items) n ≤ vec_capacity l in
    let enough : P list = subst P (sym is) (room (i % n) list (turn_inside lists some dealing)) in
    omega (arith, place, inside, enough)

-- the lists keep their room
pub room_more : {X : Type 0} (lists : List (Vec X Global)) (k room : ℕ) (list new : Vec X Global) → k < length lists
    → list ≡ get_or lists k list → vec_capacity new ≡ vec_capacity list
    → All (λ l. room ≤ vec_capacity l) lists → All (λ l. room ≤ vec_capacity l) (set lists k new)
room_more {X} lists k room list new inside is kept all =
    let P : Vec X Global → Type 0 = λ l. room ≤ vec_capacity l in
    let enough : P list = subst P (sym is) (all k list inside) in
    All-set P lists k new (omega (arith, enough, kept)) all

-- ---- results of what is dealt

list_each : {X Y : Type 0} (f : X → Y) (lists : List (List X)) (k : ℕ)
    → get_or (map (λ l. map f l) lists) k [] ≡ map f (get_or lists k [])
list_each f [] k = refl
list_each f (l ∷ lists) zero = refl
list_each f (l ∷ lists) (suc k) = list_each f lists k

-- what each item gives is dealt as the items are
pub dealt_each : {X Y : Type 0} (f : X → Y) (xs : List X) (n : ℕ) (lists : List (List X)) → AreDealt xs n lists
    → AreDealt (map f xs) n (map (λ l. map f l) lists)
dealt_each f xs n lists dealt = record {
  count = length-map lists _ ∙ dealt.count;
  each = λ i. ap (λ l. slice_get l (i / n)) (list_each f lists (i % n))
      ∙ slice_get-map f (get_or lists (i % n) []) (i / n)
      ∙ ap (option_map f) (dealt.each i) ∙ sym (slice_get-map f xs i);
}

-- the lists of what was done are the results of the lists that were dealt
pub dealt_done : {X Y V W : Type 0} (f : X → Y) (xs : List X) (n : ℕ) (given : V → List X) (done : W → List Y) (lists : List V) (results : List W)
    → AreDealt xs n (map given lists) → map done results ≡ map (λ l. map f (given l)) lists
    → AreDealt (map f xs) n (map done results)
dealt_done {X} {Y} f xs n given done lists results dealt are =
    let F : List (List Y) → Type 0 = λ ls. AreDealt (map f xs) n ls in
    subst F (map-map (λ l. map f l) given lists ∙ sym are) (dealt_each f xs n (map given lists) dealt)

-- ---- the lists by number

-- if an item is dealt, there is a list
pub some_list : {X : Type 0} (items : List X) (i : ℕ) (lists : List (Vec X Global))
    → AreDealt items (length lists) (map (λ l. l.items) lists) → i < length items → 0 < length lists
some_list [] i lists dealt inside = absurd (let no : ⊥ = omega arith in no)
some_list (x ∷ items) i [] dealt inside =
    let none : slice_get (x ∷ items) i ≡ None = sym (dealt.each i) in
    let some : slice_get (x ∷ items) i ≡ Some (get_or (x ∷ items) i x) = slice_get-get_or (x ∷ items) i x inside in
    let no : ⊥ = cc in absurd no
some_list (x ∷ items) i (l ∷ lists) dealt inside = omega arith

-- what stands at the place of item i in its list
at_place : {X : Type 0} (items : List X) (i : ℕ) (lists : List (Vec X Global)) (list : Vec X Global)
    → AreDealt items (length lists) (map (λ l. l.items) lists) → i < length items → list ≡ get_or lists (i % length lists) list
    → slice_get list.items (i / length lists) ≡ slice_get items i
at_place items i lists list dealt inside is =
    let below : i % length lists < length lists = mod_below i (length lists) (some_list items i lists dealt inside) in
    ap (λ l. slice_get l (i / length lists)) (list_items lists list (i % length lists) below is) ∙ dealt.each i

-- the place of an item is in its list
pub place_below : {X : Type 0} (items : List X) (i : ℕ) (lists : List (Vec X Global)) (list : Vec X Global)
    → AreDealt items (length lists) (map (λ l. l.items) lists) → i < length items → list ≡ get_or lists (i % length lists) list
    → i / length lists < length list.items
place_below [] i lists list dealt inside is = absurd (let no : ⊥ = omega arith in no)
place_below (x ∷ items) i lists list dealt inside is =
    slice_get_within list.items (i / length lists) (get_or (x ∷ items) i x)
    (at_place (x ∷ items) i lists list dealt inside is ∙ slice_get-get_or (x ∷ items) i x inside)

-- and the item stands there
pub item_is : {X : Type 0} (items : List X) (i : ℕ) (lists : List (Vec X Global)) (list : Vec X Global) (x : X)
    → AreDealt items (length lists) (map (λ l. l.items) lists) → i < length items → list ≡ get_or lists (i % length lists) list
    → x ≡ get_or list.items (i / length lists) x → slice_get items i ≡ Some x
item_is items i lists list x dealt inside is here =
    sym (at_place items i lists list dealt inside is)
    ∙ slice_get-get_or list.items (i / length lists) x (place_below items i lists list dealt inside is) ∙ ap Some (sym here)

-- ---- the items, gathered from their lists

-- those from number i on are gathered
gathered_from : {X : Type 0} (items : List X) (k i n : ℕ) (lists : List (List X)) → AreDealt items n lists
    → k + i ≡ length items → gathered k i n lists ≡ drop i items
unfolding gathered
gathered_from items zero i n lists dealt all = sym (drop-all items i (omega arith))
gathered_from {X} [] (suc k) i n lists dealt all = absurd (let no : ⊥ = omega arith in no)
gathered_from {X} (x ∷ items) (suc k) i n lists dealt all =
    let whole : List X = x ∷ items in
    let inside : i < length whole = omega arith in
    let item : slice_get whole i ≡ Some (get_or whole i x) = slice_get-get_or whole i x inside in
    let rest : gathered k (i + 1) n lists ≡ drop (i + 1) whole = gathered_from whole k (i + 1) n lists dealt (omega arith) in
    ap (λ o. option_to_list o ++ gathered k (i + 1) n lists) (dealt.each i ∙ item)
    ∙ ap (λ l. get_or whole i x ∷ l) rest ∙ sym (drop_next whole i (get_or whole i x) item)

-- what is gathered is what was dealt
pub gathered_all : {X Y : Type 0} (items : List Y) (count n : ℕ) (list_of : X → List Y) (lists : List X) → count ≡ length items
    → AreDealt items n (map list_of lists) → gathered count 0 (length lists) (map list_of lists) ≡ items
gathered_all {X} {Y} items count n list_of lists all dealt =
    let lengths : length lists ≡ n = sym (length-map lists list_of) ∙ dealt.count in
    ap (λ m. gathered count 0 m (map list_of lists)) lengths
    ∙ gathered_from items count 0 n (map list_of lists) dealt (omega arith)
