-- Entries in lanes, as the lanes go on.
use Rattle.std.proofs.Common.{◌≡◌, ◌∙◌, ℕ, zero, suc, ◌+◌, ◌-◌, ◌≤◌, ◌<◌, ◌&&◌, Bool, true, false, eqb, cond, inl, inr, List, [], ◌∷◌, ◌++◌, length, length-set, map, set, get_or, Option, Some, None, get_or-set_same, get_or-set_other, refl, sym, ap, ap₂, add-one, arith}
use Rattle.std.specs.Prelude.{nat_lt, if◌then◌else◌}
use Rattle.std.specs.Option.{option_map}
use Rattle.std.proofs.lemmas.Bool.{cases_eq, cases_lt, eq-eqb, ne_eqb, eqb-true, lt-ltb, le-ltb}
use Rattle.std.proofs.lemmas.List.{get_or_default, length-map}
use Rattle.std.proofs.lemmas.List.FromFn.{get_or-map-range_with_len}
use Rattle.mbj_types.specs.Lanes.{lane_at}
use Rattle.mbj_lane.specs.Rounds.{after}
use Rattle.mbj_lane.specs.Laws.{after-after}
use Rattle.mbj_lane.specs.Slots.{IsBusy, IsLeast, IsWritten}
use Rattle.mbj_lane.proofs.Halfway.{halfway, get_or-halfway, set-halfway}
use Rattle.mbj_hmac.specs.Rounds.{Hashing, HmacState, compressed_once, block_before, is_turn, outer_rounds, rest_of, round, turned}
use Rattle.mbj_hmac.specs.Laws.Tests.{not_both}
use Rattle.mbj_hmac.specs.Inside.InLanes.{AreReady, AreTied, IsReady, IsTied, blank, entry_in, idle, lowered, most_lanes, moved, never, reach_at, reach_of, seen_at, slot_at, turn_of, with_chains}
use Rattle.mbj_hmac.specs.Slots.{slot_in, slots_of}
use Rattle.mbj_hmac.proofs.Passes.{after_moved, chain_next, rounds_are_blocks}

-- ---- places

pub entry_in-past : (es : List HmacState) (i : ℕ) → length es ≤ i → entry_in es i ≡ blank
entry_in-past [] i h = refl
entry_in-past (e ∷ es) zero h = absurd (omega arith)
entry_in-past (e ∷ es) (suc i) h = let h' : length es ≤ i = omega arith in entry_in-past es i h'

pub entry_in-moved : (m : ℕ) (es : List HmacState) (i : ℕ) → entry_in (map (moved m) es) i ≡ moved m (entry_in es i)
entry_in-moved m [] i = let none : 0 - m ≡ 0 = omega arith in ap (λ n. record blank { rest = n }) (sym none)
entry_in-moved m (e ∷ es) zero = refl
entry_in-moved m (e ∷ es) (suc i) = entry_in-moved m es i

-- entry i is moved, after those before it
pub moved_next : (m i : ℕ) (es now : List HmacState) (d x : HmacState) → now ≡ halfway (moved m) i es → i < length es → x ≡ moved m (get_or now i d)
    → set now i x ≡ halfway (moved m) (i + 1) es
moved_next m i es now d x is lt move =
    let next : x ≡ moved m (get_or es i d) =
    move ∙ ap (λ (xs : List HmacState). moved m (get_or xs i d)) is ∙ ap (moved m) (get_or-halfway (moved m) i i es d (omega arith)) in
    rw (next, is, add-one i) (set-halfway (moved m) i es d lt)

-- entries that are those of another list, each changed
pub all_changed : (f : HmacState → HmacState) (es now : List HmacState) → length now ≡ length es
    → ((i : ℕ) → i < length es → entry_in now i ≡ f (entry_in es i)) → now ≡ map f es
all_changed f [] [] same is = refl
all_changed f [] (x ∷ now) same is = absurd (omega arith)
all_changed f (e ∷ es) [] same is = absurd (omega arith)
all_changed f (e ∷ es) (x ∷ now) same is =
    let same' : length now ≡ length es = omega arith in
    ap₂ (λ y ys. y ∷ ys) (is 0 (omega arith)) (all_changed f es now same' (λ i h. is (suc i) (omega arith)))

-- ---- rests

pub lowered_busy : (m r : ℕ) → r < idle → lowered m r ≡ r - m
lowered_busy m r h = let apart : r ≡ idle → ⊥ = λ s. absurd (omega arith) in rw (ne_eqb r idle apart) refl

-- a lane is busy after some rounds if it was, and only then
pub was_busy : (m r n : ℕ) → r ≤ idle → n ≡ lowered m r → n < idle → r < idle
was_busy m r n le is lt = elim (cases_eq r idle) [
  | inl same ↦ let q : n ≡ idle = is ∙ ap (lowered m) same in absurd (omega arith)
  | inr apart ↦ omega arith
]

-- rounds behind others
pub lowered_on : (k n r : ℕ) → r ≤ idle → lowered n (lowered k r) ≡ lowered (k + n) r
lowered_on k n r le = elim (cases_lt r idle) [
  | inl lt ↦
      let less : r - k < idle = omega arith in
      rw (lowered_busy k r lt, lowered_busy n (r - k) less, lowered_busy (k + n) r lt) (omega arith)
  | inr ge ↦ let same : r ≡ idle = omega arith in rw same refl
]

-- ---- ties

pub tied_le : (r t : ℕ) (e : HmacState) → IsTied r t e → r ≤ idle
tied_le r t e tied = elim tied [ inl p ↦ omega (arith, p.0) | inr p ↦ omega (arith, p.0) ]

pub tied_rest : (r t : ℕ) (e : HmacState) → IsTied r t e → r < idle → r ≡ e.rest
tied_rest r t e tied busy = elim tied [ inl p ↦ absurd (omega (arith, p.0)) | inr p ↦ p.1 ]

pub tied_turn : (r t : ℕ) (e : HmacState) → IsTied r t e → r < idle → t ≡ turn_of e
tied_turn r t e tied busy = elim tied [ inl p ↦ absurd (omega (arith, p.0)) | inr p ↦ p.2 ]

tied_moved : (m r t : ℕ) (e : HmacState) → IsTied r t e → IsTied (lowered m r) t (moved m e)
tied_moved m r t e tied = elim tied [
  | inl p ↦ inl (ap (lowered m) p.0, omega (arith, p.1))
  | inr p ↦ inr (rw (lowered_busy m r p.0) (omega (arith, p.0)), lowered_busy m r p.0 ∙ ap (λ n. n - m) p.1, p.2)
]

-- how far a tied lane goes
pub tied_reach : (r t : ℕ) (e : HmacState) → IsTied r t e → r < idle → reach_at r t ≡ reach_of e
tied_reach r t e tied busy =
    let rest : r ≡ e.rest = tied_rest r t e tied busy in
    let turn : t ≡ turn_of e = tied_turn r t e tied busy in
    let reach : (o n : ℕ) → n < idle → reach_at n (if nat_lt 0 o then o else never) ≡ (if nat_lt o n then n - o else n) = tied_reach_by in
    ap₂ reach_at rest turn ∙ reach (outer_rounds e) e.rest (omega (arith, rest))
  where
    tied_reach_by : (o n : ℕ) → n < idle → reach_at n (if nat_lt 0 o then o else never) ≡ (if nat_lt o n then n - o else n)
    tied_reach_by zero n h = rw (le-ltb never n (omega arith)) (elim (cases_lt 0 n) [ inl lt ↦ rw (lt-ltb 0 n lt) (omega arith) | inr le ↦ rw (le-ltb 0 n le) refl ])
    tied_reach_by (suc o) n h = rw (lt-ltb 0 (suc o) (omega arith)) refl

-- what goes no round is in no lane
pub reach_le : (r t : ℕ) → reach_at r t ≤ r
reach_le r t = elim (cases_lt t r) [ inl lt ↦ rw (lt-ltb t r lt) (omega arith) | inr le ↦ rw (le-ltb t r le) (omega arith) ]

module _ (rests turns : List ℕ) (es : List HmacState) (tied : AreTied rests turns es) where
  -- a busy lane has an entry
  pub has_entry : (i : ℕ) → i < most_lanes → lane_at 32 rests i < idle → i < length es
  has_entry i h busy = elim (cases_lt i (length es)) [ inl lt ↦ lt | inr le ↦ let none : lane_at 32 rests i ≡ idle = tied.past i h le in absurd (omega arith) ]

  pub all_moved : (m : ℕ) (rests' : List ℕ) → ((i : ℕ) → i < most_lanes → lane_at 32 rests' i ≡ lowered m (lane_at 32 rests i)) → AreTied rests' turns (map (moved m) es)
  all_moved m rests' is = record {
    tied = λ i h. rw (is i h, entry_in-moved m es i) (tied_moved m (lane_at 32 rests i) (lane_at 32 turns i) (entry_in es i) (tied.tied i h));
    past = λ i h le. is i h ∙ ap (lowered m) (tied.past i h (omega (arith, length-map es (moved m))));
  }

-- what is ready stays so, as the entries go on
pub all_ready : (h : Hashing) (m : ℕ) (starts : ℕ → List ℕ) (bits rests rests' turns : List ℕ) (es : List HmacState) → AreTied rests turns es
    → ((i : ℕ) → i < most_lanes → lane_at 32 rests' i ≡ lowered m (lane_at 32 rests i)) → AreReady h starts bits rests es
    → AreReady h starts bits rests' (map (moved m) es)
all_ready h m starts bits rests rests' turns es tied is ready i l busy =
    let r : ℕ = lane_at 32 rests i in
    let was : r < idle = was_busy m r (lane_at 32 rests' i) (tied_le r (lane_at 32 turns i) (entry_in es i) (tied.tied i l)) (is i l) busy in
    let one = ready i l was in
    rw (entry_in-moved m es i) (one.0, record { bits = one.1.bits; served = one.1.served; back = one.1.back })

-- ---- turns

-- if the outer hash's first block isn't next, nothing is turned
unturned : (h : Hashing) (e : HmacState) → (e.rest ≡ turn_of e → ⊥) → turned h e ≡ e
unturned h e apart = go (is_turn e) refl
  where
    at_turn : (o : ℕ) → (nat_lt 0 o && eqb e.rest o) ≡ true → e.rest ≡ (if nat_lt 0 o then o else never)
    at_turn o q = elim (cases_lt 0 o) [
      | inl lt ↦ let yes : nat_lt 0 o ≡ true = lt-ltb 0 o lt in let q' = rw yes at q in rw yes (eqb-true e.rest o q')
      | inr le ↦ let no : nat_lt 0 o ≡ false = le-ltb 0 o le in let q' = rw no at q in absurd (not_both q')
    ]

    go : (b : Bool) → is_turn e ≡ b → turned h e ≡ e
    go true q = absurd (apart (at_turn (outer_rounds e) q))
    go false q = rw q refl

both_true : (x y : Bool) → x ≡ true → y ≡ true → (x && y) ≡ true
both_true true true p q = refl
both_true true false p q = absurd (not_both q)
both_true false y p q = absurd (not_both p)

-- an entry that comes to its turn comes to its outer hash's first block
turns_now : (e : HmacState) → e.rest < idle → e.rest ≡ turn_of e → is_turn e ≡ true
turns_now e few same = elim (cases_lt 0 (outer_rounds e)) [
  | inl lt ↦
      let yes : nat_lt 0 (outer_rounds e) ≡ true = lt-ltb 0 (outer_rounds e) lt in
      let same' : e.rest ≡ outer_rounds e = rw yes at same in
      both_true (nat_lt 0 (outer_rounds e)) (eqb e.rest (outer_rounds e)) yes (eq-eqb e.rest (outer_rounds e) same')
  | inr le ↦
      let no : nat_lt 0 (outer_rounds e) ≡ false = le-ltb 0 (outer_rounds e) le in
      let same' : e.rest ≡ never = rw no at same in
      absurd (omega arith)
]

-- a busy lane after the turns: it has the start and the hash value in their places, or both as before
pub lane_turned : (h : Hashing) (r t : ℕ) (c n s : List ℕ) (e : HmacState) → IsTied r t e → r < idle → s ≡ e.start
    → with_chains (cond (eqb r t) s c) (cond (eqb r t) c n) e ≡ turned h (with_chains c n e)
lane_turned h r t c n s e tied busy start =
    let rest : r ≡ e.rest = tied_rest r t e tied busy in
    let turn : t ≡ turn_of e = tied_turn r t e tied busy in
    elim (cases_eq r t) [
      | inl same ↦
          let now : is_turn (with_chains c n e) ≡ true = turns_now (with_chains c n e) (omega (arith, rest)) (sym rest ∙ same ∙ turn) in
          rw (eq-eqb r t same, now, start) refl
      | inr apart ↦
          rw (ne_eqb r t apart) (sym (unturned h (with_chains c n e) (λ q. apart (rest ∙ q ∙ sym turn))))
    ]

-- ---- blocks

-- a pass advances the hash value of a lane by one block
pub pass_advanced : (h : Hashing) (d : ℕ) (c n now advanced : List ℕ) (e : HmacState)
    → now ≡ (after (compressed_once h) d (with_chains c n e)).chain → advanced ≡ h.compress now (block_before h (with_chains now n e) (e.rest - d))
    → advanced ≡ (after (compressed_once h) (d + 1) (with_chains c n e)).chain
pass_advanced h d c n now advanced e state next =
    next ∙ ap (λ s. h.compress s (block_before h (with_chains c n e) (e.rest - d))) state ∙ sym (chain_next h d (with_chains c n e))

-- an entry goes on by m blocks, with its lane
pub lane_advanced : (h : Hashing) (m : ℕ) (c n advanced : List ℕ) (e x : HmacState) → advanced ≡ (after (compressed_once h) m (with_chains c n e)).chain → x ≡ moved m e
    → with_chains advanced n x ≡ after (compressed_once h) m (with_chains c n e)
lane_advanced h m c n advanced e x is move = ap₂ (λ s y. with_chains s n y) is move ∙ sym (after_moved h m (with_chains c n e))

-- ---- a run by m rounds, of which `left` are left, in a lane that had r0 left and has r

pub lowered_none : (r : ℕ) → lowered 0 r ≡ r
lowered_none r = elim (cases_eq r idle) [ inl same ↦ rw same refl | inr apart ↦ rw (ne_eqb r idle apart) (omega arith) ]

module _ (m left r0 r : ℕ) (le : r0 ≤ idle) (within : left ≤ m) (is : r ≡ lowered (m - left) r0) (rest : r0 < idle → m ≤ r0) where
  pub lane_left : r < idle → left ≤ r
  lane_left busy =
      let was : r0 < idle = was_busy (m - left) r0 r le is busy in
      let now : r ≡ r0 - (m - left) = is ∙ lowered_busy (m - left) r0 was in
      omega (arith, rest was)

  pub lane_some : 0 < left → 0 < r
  lane_some some = elim (cases_lt r idle) [ inl lt ↦ omega (arith, lane_left lt) | inr ge ↦ omega arith ]

  pub still_busy : r0 < idle → r < idle
  still_busy was = let now : r ≡ r0 - (m - left) = is ∙ lowered_busy (m - left) r0 was in omega arith

  -- after len rounds more
  pub lowered_next : (len : ℕ) → len ≤ left → lowered len r ≡ lowered (m - (left - len)) r0
  lowered_next len h =
      let sum : (m - left) + len ≡ m - (left - len) = omega arith in
      ap (lowered len) is ∙ lowered_on (m - left) len r0 le ∙ ap (λ k. lowered k r0) sum

-- each lane goes on, as long as rounds are left
pub all_left : (m left : ℕ) (first now turns : List ℕ) (es : List HmacState) → AreTied first turns es → left ≤ m
    → ((i : ℕ) → i < most_lanes → lane_at 32 now i ≡ lowered (m - left) (lane_at 32 first i))
    → ((i : ℕ) → i < most_lanes → lane_at 32 first i < idle → m ≤ lane_at 32 first i) → 0 < left
    → (i : ℕ) → i < most_lanes → 0 < lane_at 32 now i
all_left m left first now turns es tied within is rest some i h =
    let r0 : ℕ = lane_at 32 first i in
    lane_some m left r0 (lane_at 32 now i) (tied_le r0 (lane_at 32 turns i) (entry_in es i) (tied.tied i h)) within (is i h) (rest i h) some

-- its entry after a stretch by len
pub advanced_on : (h : Hashing) (m left len : ℕ) (first now turns advanced : HmacState) → left ≤ m → 0 < len → len ≤ left
    → now ≡ after (round h) (m - left) first → turns ≡ turned h now → advanced ≡ after (compressed_once h) len turns → len ≤ reach_of now
    → advanced ≡ after (round h) (m - (left - len)) first
advanced_on h m left zero first now turns advanced within some le is turn blocks reach = absurd (omega arith)
advanced_on h m left (suc k) first now turns advanced within some le is turn blocks reach =
    let sum : (m - left) + suc k ≡ m - (left - suc k) = omega arith in
    blocks ∙ ap (after (compressed_once h) (suc k)) turn ∙ sym (rounds_are_blocks h k now reach)
    ∙ ap (after (round h) (suc k)) is ∙ after-after (round h) (m - left) (suc k) first ∙ ap (λ n. after (round h) n first) sum

-- ---- slots

pub slot_is : (n : ℕ) (f : ℕ → Option HmacState) (i : ℕ) → i < n → slot_in (slots_of n f) i ≡ f i
slot_is n f i lt = get_or-map-range_with_len f 0 n i i None lt (omega arith)

module _ (lane inner : ℕ → List ℕ) (rests : List ℕ) (es : List HmacState) (i : ℕ) where
  pub slot_idle : lane_at 32 rests i ≡ idle → slot_at lane inner rests es i ≡ None
  slot_idle is = rw (eq-eqb (lane_at 32 rests i) idle is) refl

  pub slot_busy : lane_at 32 rests i < idle → slot_at lane inner rests es i ≡ Some (seen_at lane inner es i)
  slot_busy lt = let apart : lane_at 32 rests i ≡ idle → ⊥ = λ s. absurd (omega arith) in rw (ne_eqb (lane_at 32 rests i) idle apart) refl

  -- what stands in a slot is its lane's entry
  pub slot_some : (t : ℕ) (e : HmacState) → IsTied (lane_at 32 rests i) t (entry_in es i) → slot_at lane inner rests es i ≡ Some e
      → (lane_at 32 rests i < idle) × (lane_at 32 rests i ≡ e.rest) × (seen_at lane inner es i ≡ e)
  slot_some t e tied is = elim tied [
    | inl p ↦ let none = slot_idle p.0 in absurd (cc)
    | inr p ↦
        let some = slot_busy p.0 in
        let same : seen_at lane inner es i ≡ e = cc in
        (p.0, p.1 ∙ ap (λ (x : HmacState). x.rest) same, same)
  ]

-- the vectors and entries are written at lane i alone
module _ (rests turns rests' turns' : List ℕ) (es : List HmacState) (i : ℕ) (x : HmacState) (lt : i < length es)
    (others : (j : ℕ) → j < most_lanes → (j ≡ i → ⊥) → lane_at 32 rests' j ≡ lane_at 32 rests j)
    (others' : (j : ℕ) → j < most_lanes → (j ≡ i → ⊥) → lane_at 32 turns' j ≡ lane_at 32 turns j) where
  pub tied_set : AreTied rests turns es → IsTied (lane_at 32 rests' i) (lane_at 32 turns' i) x → AreTied rests' turns' (set es i x)
  tied_set tied here = record {
    tied = λ j h. elim (cases_eq j i) [
      | inl same ↦ rw (same, get_or-set_same es i x blank lt) here
      | inr apart ↦ rw (others j h apart, others' j h apart, get_or-set_other es i j x blank apart) (tied.tied j h)
    ];
    past = λ j h le.
        let le' : length es ≤ j = omega (arith, length-set es i x) in
        others j h (λ same. absurd (omega arith)) ∙ tied.past j h le';
  }

-- so is what is ready
pub ready_set : (h : Hashing) (starts starts' : ℕ → List ℕ) (bits bits' rests rests' turns : List ℕ) (es : List HmacState) (i n : ℕ) (x : HmacState)
    → i < length es → length es ≤ n → AreTied rests turns es
    → ((j : ℕ) → j < most_lanes → (j ≡ i → ⊥) → lane_at 32 rests' j ≡ lane_at 32 rests j)
    → ((j : ℕ) → j < most_lanes → (j ≡ i → ⊥) → lane_at 32 bits' j ≡ lane_at 32 bits j)
    → ((j : ℕ) → j < n → (j ≡ i → ⊥) → starts' j ≡ starts j)
    → AreReady h starts bits rests es → (lane_at 32 rests' i < idle → IsReady h (starts' i) (lane_at 32 bits' i) x)
    → AreReady h starts' bits' rests' (set es i x)
ready_set h starts starts' bits bits' rests rests' turns es i n x lt few tied others counts values ready here j l busy = elim (cases_eq j i) [
  | inl same ↦ let busy' : lane_at 32 rests' i < idle = rw same at busy in rw (same, get_or-set_same es i x blank lt) (here busy')
  | inr apart ↦
      let was : lane_at 32 rests j < idle = rw (others j l apart) at busy in
      let inside : j < length es = has_entry rests turns es tied j l was in
      rw (counts j l apart, values j (omega arith) apart, get_or-set_other es i j x blank apart) (ready j l was)
]

-- slot j is as before
pub slot_same : (lane advanced inner done : ℕ → List ℕ) (rests rests' : List ℕ) (es : List HmacState) (x : HmacState) (i j : ℕ) → (j ≡ i → ⊥)
    → lane_at 32 rests' j ≡ lane_at 32 rests j → advanced j ≡ lane j → done j ≡ inner j
    → slot_at advanced done rests' (set es i x) j ≡ slot_at lane inner rests es j
slot_same lane advanced inner done rests rests' es x i j apart rest chain first = rw (rest, chain, first, get_or-set_other es i j x blank apart) refl

-- entries without a round left, and one more
pub idle_push : (es : List HmacState) (x : HmacState) → x.rest ≡ 0 → ((j : ℕ) → (entry_in es j).rest ≡ 0) → (j : ℕ) → (entry_in (es ++ x ∷ []) j).rest ≡ 0
idle_push [] x none all zero = none
idle_push [] x none all (suc j) = refl
idle_push (e ∷ es) x none all zero = all 0
idle_push (e ∷ es) x none all (suc j) = idle_push es x none (λ k. all (suc k)) j

-- what stands in slot i of n, by the list of them
module _ (n : ℕ) (lane inner : ℕ → List ℕ) (rests turns : List ℕ) (es : List HmacState) (s : List (Option HmacState)) (is : slots_of n (slot_at lane inner rests es) ≡ s)
    (tied : AreTied rests turns es) (size : length es ≡ n) (narrow : n ≤ most_lanes) where
  pub slot_here : (i : ℕ) → i < n → slot_in s i ≡ slot_at lane inner rests es i
  slot_here i lt = ap (λ x. slot_in x i) (sym is) ∙ slot_is n (slot_at lane inner rests es) i lt

  pub slot_entry : (i : ℕ) (e : HmacState) → i < n → slot_in s i ≡ Some e → (lane_at 32 rests i < idle) × (lane_at 32 rests i ≡ e.rest) × (seen_at lane inner es i ≡ e)
  slot_entry i e lt some = slot_some lane inner rests es i (lane_at 32 turns i) e (tied.tied i (omega arith)) (sym (slot_here i lt) ∙ some)

  -- the entry that was read at i is the one in the slot
  pub entry_read : (i : ℕ) (x e : HmacState) → i < n → x ≡ get_or es i x → slot_in s i ≡ Some e → (x ≡ entry_in es i) × (seen_at lane inner es i ≡ e)
  entry_read i x e lt at some = (at ∙ get_or_default es i x blank (omega arith), (slot_entry i e lt some).2)

  pub done_read : (i : ℕ) (x : HmacState) → i < n → x ≡ get_or es i x → IsBusy (slot_in s) i → ((e : HmacState) → slot_in s i ≡ Some e → e.rest ≡ 0) → x.rest ≡ 0
  done_read i x lt at busy done =
      let read = entry_read i x busy.0 lt at busy.1 in
      ap (λ (e : HmacState). e.rest) read.0 ∙ ap (λ (e : HmacState). e.rest) read.1 ∙ done busy.0 busy.1

  -- slot i is idle now, and the others are as they were
  pub slot_left : (advanced done : ℕ → List ℕ) (rests' : List ℕ) (i : ℕ) (x : HmacState) → i < n → lane_at 32 rests' i ≡ idle
      → ((j : ℕ) → j < most_lanes → (j ≡ i → ⊥) → lane_at 32 rests' j ≡ lane_at 32 rests j) → ((j : ℕ) → advanced j ≡ lane j) → ((j : ℕ) → done j ≡ inner j)
      → IsWritten n i None (slot_in s) (slot_in (slots_of n (slot_at advanced done rests' (set es i x))))
  slot_left advanced done rests' i x lt none rest chain first =
      let slots = slot_at advanced done rests' (set es i x) in
      record {
        here = slot_is n slots i lt ∙ slot_idle advanced done rests' (set es i x) i none;
        others = λ j l apart.
            slot_is n slots j l ∙ slot_same lane advanced inner done rests rests' es x i j apart (rest j (omega arith) apart) (chain j) (first j) ∙ sym (slot_here j l);
      }

  -- a busy lane is that of a slot with an entry
  pub entry_slot : (i : ℕ) → i < most_lanes → lane_at 32 rests i < idle
      → (i < n) × (slot_in s i ≡ Some (seen_at lane inner es i)) × (lane_at 32 rests i ≡ (entry_in es i).rest)
  entry_slot i h busy =
      let inside : i < length es = has_entry rests turns es tied i h busy in
      let lt : i < n = omega arith in
      (lt, slot_here i lt ∙ slot_busy lane inner rests es i busy, tied_rest (lane_at 32 rests i) (lane_at 32 turns i) (entry_in es i) (tied.tied i h) busy)

  pub least_slot : (least k j : ℕ) (e : HmacState) → ((i : ℕ) → i < most_lanes → least ≤ lane_at 32 rests i) → k < most_lanes → least ≡ lane_at 32 rests k
      → j < n → slot_in s j ≡ Some e → IsLeast rest_of n (slot_in s) least
  least_slot least k j e below h met lt some =
      let one = slot_entry j e lt some in
      let busy : lane_at 32 rests k < idle = omega (arith, below j (omega arith), one.0) in
      let at = entry_slot k h busy in
      record {
        below = λ i x l here. let this = slot_entry i x l here in omega (arith, below i (omega arith), this.1);
        met = (k, seen_at lane inner es k, at.0, at.1, met ∙ at.2);
      }

  -- the slots after m rounds
  pub slots_advanced : (f : HmacState → HmacState) (m : ℕ) (advanced done : ℕ → List ℕ) (rests' : List ℕ) (es' : List HmacState)
      → ((i : ℕ) → i < most_lanes → lane_at 32 rests i < idle → seen_at advanced done es' i ≡ f (seen_at lane inner es i))
      → ((i : ℕ) → i < most_lanes → lane_at 32 rests' i ≡ lowered m (lane_at 32 rests i))
      → (i : ℕ) → i < n → slot_in (slots_of n (slot_at advanced done rests' es')) i ≡ option_map f (slot_in s i)
  slots_advanced f m advanced done rests' es' moves falls i lt =
      let h : i < most_lanes = omega arith in
      let r : ℕ = lane_at 32 rests i in
      slot_is n (slot_at advanced done rests' es') i lt ∙ elim (cases_lt r idle) [
        | inl busy ↦
            let busy' : lane_at 32 rests' i < idle = let less : lane_at 32 rests' i ≡ r - m = falls i h ∙ lowered_busy m r busy in omega arith in
            slot_busy advanced done rests' es' i busy' ∙ ap Some (moves i h busy) ∙ sym (ap (option_map f) (slot_here i lt ∙ slot_busy lane inner rests es i busy))
        | inr ge ↦
            let at : r ≡ idle = omega (arith, tied_le r (lane_at 32 turns i) (entry_in es i) (tied.tied i h)) in
            slot_idle advanced done rests' es' i (falls i h ∙ ap (lowered m) at) ∙ sym (ap (option_map f) (slot_here i lt ∙ slot_idle lane inner rests es i at))
      ]
