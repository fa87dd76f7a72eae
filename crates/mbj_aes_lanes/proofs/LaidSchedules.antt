-- Schedules whose round keys are kept as the rounds take them.
use Rattle.std.proofs.Common.{◌≡◌, ℕ, zero, suc, ◌+◌, ◌*◌, ◌<◌, ◌≤◌, List, [], length, map, drop, slice_index, get_or, refl, sym, ap, ◌∙◌, arith, length-append}
use Rattle.std.specs.List.{range_with_len, concat}
use Rattle.std.proofs.Math.Seq.{drop-append-add}
use Rattle.std.proofs.lemmas.Bool.Decides.{nat_tests}
use Rattle.std.proofs.lemmas.List.{take_at, drop_all, drop-drop, take-append-drop}
use Rattle.mbj_types.specs.Aes.{round_key}
use Rattle.mbj_aes.specs.BlockWords.{block_with}
use Rattle.mbj_aes.proofs.BlockWords.{slice_index-block_with}
use Rattle.mbj_aes_lanes.specs.Inside.LaidKeys.{schedule_with, key_of_round, laid_schedule}

-- ---- joined round keys

module _ (key : ℕ → List ℕ) where
  -- the round keys from s on, m of them
  abbrev joined : ℕ → ℕ → List ℕ
  joined s m = concat (map key (range_with_len s m))

  length-joined : (s m : ℕ) → ((r : ℕ) → r < s + m → length (key r) ≡ 16) → length (joined s m) ≡ 16 * m
  length-joined s zero sizes = refl
  length-joined s (suc m) sizes =
      length-append (key s) (joined (s + 1) m)
      ∙ omega (arith, sizes s (omega arith), length-joined (s + 1) m (λ r h. sizes r (omega arith)))

  round_key-joined : (s m r : ℕ) → ((r : ℕ) → r < s + m → length (key r) ≡ 16) → r < m → round_key (joined s m) r ≡ key (s + r)
  round_key-joined s zero r sizes h = absurd (omega arith)
  round_key-joined s (suc m) zero sizes h =
      let here : s ≡ s + 0 = omega arith in
      take_at (key s) (joined (s + 1) m) 16 (sizes s (omega arith)) ∙ ap key here
  round_key-joined s (suc m) (suc r) sizes h =
      let size : length (key s) ≡ 16 = sizes s (omega arith) in
      let behind : 16 * suc r ≡ length (key s) + 16 * r = omega arith in
      let there : s + 1 + r ≡ s + suc r = omega arith in
      cc (drop-append-add (key s) (joined (s + 1) m) (16 * r), round_key-joined (s + 1) m r (λ r h. sizes r (omega arith)) (omega arith))

  joined-each : (s m : ℕ) (w : List ℕ) → length w ≡ 16 * (s + m) → ((r : ℕ) → r < m → key (s + r) ≡ round_key w (s + r))
      → joined s m ≡ drop (16 * s) w
  joined-each s zero w size each = sym (drop_all (16 * s) w (omega arith))
  joined-each s (suc m) w size each =
      let here : s + 0 ≡ s = omega arith in
      let behind : 16 * (s + 1) ≡ 16 * s + 16 = omega arith in
      let rest = joined-each (s + 1) m w (omega arith) (λ r h. let there : s + suc r ≡ s + 1 + r = omega arith in cc (each (suc r) (omega arith))) in
      cc (each 0 (omega arith), rest, drop-drop 16 (16 * s) w, take-append-drop 16 (drop (16 * s) w))

  module _ (n : ℕ) where
    pub length-schedule_with : ((r : ℕ) → r ≤ n → length (key r) ≡ 16) → length (schedule_with key n) ≡ 16 * (n + 1)
    unfolding schedule_with
    length-schedule_with sizes = length-joined 0 (n + 1) (λ r h. sizes r (omega arith))

    pub round_key-schedule_with : (r : ℕ) → ((r : ℕ) → r ≤ n → length (key r) ≡ 16) → r ≤ n → round_key (schedule_with key n) r ≡ key r
    unfolding schedule_with
    round_key-schedule_with r sizes h =
        let here : 0 + r ≡ r = omega arith in
        round_key-joined 0 (n + 1) r (λ r h. sizes r (omega arith)) (omega arith) ∙ ap key here

    -- the schedule that has these round keys
    pub schedule_with-each : (w : List ℕ) → length w ≡ 16 * (n + 1) → ((r : ℕ) → r ≤ n → key r ≡ round_key w r) → schedule_with key n ≡ w
    unfolding schedule_with
    schedule_with-each w size each =
        joined-each 0 (n + 1) w (omega arith)
        (λ r h.
        let here : 0 + r ≡ r = omega arith in
        ap key here ∙ each r (omega arith) ∙ ap (round_key w) (sym here))

-- ---- the key of a round

module _ (n r : ℕ) (x y z : List ℕ) where
  pub key_of_round-first : r ≡ 0 → key_of_round n r x y z ≡ x
  key_of_round-first h = grind (arith, nat_tests)

  pub key_of_round-last : 1 ≤ r → r ≡ n → key_of_round n r x y z ≡ y
  key_of_round-last h k = grind (arith, nat_tests)

  pub key_of_round-between : 1 ≤ r → r < n → key_of_round n r x y z ≡ z
  key_of_round-between h k = grind (arith, nat_tests)

-- ---- a schedule that is kept so

module _ (laid : ℕ → ℕ → (ℕ → ℕ) → List ℕ) (n : ℕ) where
  -- a key that was stored
  pub laid-stored : ((n r : ℕ) (f g : ℕ → ℕ) → ((j : ℕ) → j < 16 → f j ≡ g j) → laid n r f ≡ laid n r g)
      → (r : ℕ) (f : ℕ → ℕ) (block : List ℕ) → block ≡ block_with f → laid n r (slice_index block) ≡ laid n r f
  laid-stored same r f block e = same n r (slice_index block) f (λ j h. ap (λ b. slice_index b j) e ∙ slice_index-block_with f j h)

  module _ (sized : (n r : ℕ) (f : ℕ → ℕ) → length (laid n r f) ≡ 16) (keys : List (List ℕ)) (w : List ℕ) where
    abbrev kept : ℕ → List ℕ
    kept r = laid n r (slice_index (get_or keys r []))

    kept_sizes : (r : ℕ) → r ≤ n → length (kept r) ≡ 16
    kept_sizes r h = sized n r (slice_index (get_or keys r []))

    pub length-laid : laid_schedule laid n keys ≡ w → length w ≡ 16 * (n + 1)
    length-laid is = sym (ap length is) ∙ length-schedule_with kept n kept_sizes

    pub round_key-laid : (r : ℕ) → r ≤ n → laid_schedule laid n keys ≡ w → laid n r (slice_index (get_or keys r [])) ≡ round_key w r
    round_key-laid r h is = sym (round_key-schedule_with kept n r kept_sizes h) ∙ ap (λ w. round_key w r) is
