-- A schedule that is laid out for the rounds where it stands, round key by round key.
use Rattle.std.proofs.Common.{◌≡◌, ◌≢◌, ℕ, ◌+◌, ◌-◌, ◌*◌, ◌<◌, ◌≤◌, List, ◌++◌, length, map, take, drop, refl, sym, ap, ◌∙◌, arith, inl, inr, append_assoc, length-append, length-drop}
use Rattle.std.proofs.Math.Seq.{drop-append-add}
use Rattle.std.proofs.lemmas.Bool.{cases_eq, cases_lt}
use Rattle.std.proofs.lemmas.List.{drop-drop, drop-take, length-take-le, take_at, take-append-le, take-take}
use Rattle.mbj_types.specs.Aes.{round_key}
use Rattle.mbj_aes.specs.Tower.{from_tower}
use Rattle.mbj_aes_lanes.specs.Inside.WideKeys.{key_from}

-- ---- a round key that is written over another one

module _ (ys b : List ℕ) (r : ℕ) (size : length b ≡ 16) (room : 16 * r + 16 ≤ length ys) where
  abbrev before : List ℕ
  before = take (16 * r) ys

  abbrev behind : List ℕ
  behind = drop (16 * r + 16) ys

  short : length before ≡ 16 * r
  short = length-take-le (16 * r) ys (omega arith)

  length-put : length (before ++ b ++ behind) ≡ length ys
  length-put = omega (arith, length-append (before ++ b) behind, length-append before b, short, size, length-drop (16 * r + 16) ys)

  round_key-put : round_key (before ++ b ++ behind) r ≡ b
  round_key-put =
      let at : 16 * r ≡ length before + 0 = omega (arith, short) in
      ap (λ xs. take 16 (drop (16 * r) xs)) (append_assoc before b behind)
      ∙ ap (λ n. take 16 (drop n (before ++ (b ++ behind)))) at
      ∙ ap (take 16) (drop-append-add before (b ++ behind) 0)
      ∙ take_at b behind 16 size

  round_key-before : (k : ℕ) → k < r → round_key (before ++ b ++ behind) k ≡ round_key ys k
  round_key-before k h =
      let inside : 16 * k + 16 ≤ length before = omega (arith, short) in
      sym (drop-take (16 * k) 16 (before ++ b ++ behind))
      ∙ ap (drop (16 * k))
      (ap (take (16 * k + 16)) (append_assoc before b behind)
      ∙ take-append-le (16 * k + 16) before (b ++ behind) inside
      ∙ take-take (16 * k + 16) (16 * r) ys (omega arith))
      ∙ drop-take (16 * k) 16 ys

  round_key-behind : (k : ℕ) → r < k → round_key (before ++ b ++ behind) k ≡ round_key ys k
  round_key-behind k h =
      let j : ℕ = k - r - 1 in
      let long : length (before ++ b) ≡ 16 * r + 16 = omega (arith, length-append before b, short, size) in
      let at : 16 * k ≡ length (before ++ b) + 16 * j = omega (arith, long) in
      let there : 16 * r + 16 + 16 * j ≡ 16 * k = omega arith in
      ap (take 16)
      (ap (λ n. drop n (before ++ b ++ behind)) at
      ∙ drop-append-add (before ++ b) behind (16 * j)
      ∙ drop-drop (16 * j) (16 * r + 16) ys
      ∙ ap (λ (n : ℕ). drop n ys) there)

  round_key-other : (k : ℕ) → k ≢ r → round_key (before ++ b ++ behind) k ≡ round_key ys k
  round_key-other k ne =
      elim (cases_lt k r) [
        | inl lt ↦ round_key-before k lt
        | inr ge ↦ round_key-behind k (omega arith)
      ]

-- ---- the loop over the round keys

-- of a schedule `old` in the tower's basis the round keys before r are laid out, and the others are as they were
pub record AreLaid (n : ℕ) (old now : List ℕ) (r : ℕ) : Type 0 where
  pub size : length now ≡ length old
  pub done : (k : ℕ) → k < r → key_from n k (round_key now k) ≡ map from_tower (round_key old k)
  pub rest : (k : ℕ) → r ≤ k → round_key now k ≡ round_key old k

pub none_laid : (n r : ℕ) (ys : List ℕ) → r ≡ 0 → AreLaid n ys ys r
none_laid n r ys e = record { size = refl; done = λ k h. absurd (omega arith); rest = λ k h. refl }

-- round key r is laid out
pub one_more_laid : (n r : ℕ) (old now key new : List ℕ) → length key ≡ 16 → 16 * r + 16 ≤ length old
    → key_from n r key ≡ map from_tower (round_key now r) → new ≡ take (16 * r) now ++ key ++ drop (16 * r + 16) now
    → AreLaid n old now r → AreLaid n old new (r + 1)
one_more_laid n r old now key new size room is made so_far =
    let inside : 16 * r + 16 ≤ length now = omega (arith, so_far.size) in
    let other : (k : ℕ) → k ≢ r → round_key new k ≡ round_key now k = λ k ne.
    ap (λ ys. round_key ys k) made ∙ round_key-other now key r size inside k ne in
    record {
      size = ap length made ∙ length-put now key r size inside ∙ so_far.size;
      done = λ k h.
          elim (cases_eq k r) [
            | inl e ↦
                rw e
                (ap (λ ys. key_from n r (round_key ys r)) made
                ∙ ap (key_from n r) (round_key-put now key r size inside)
                ∙ is
                ∙ ap (map from_tower) (so_far.rest r (omega arith)))
            | inr ne ↦ ap (key_from n k) (other k ne) ∙ so_far.done k (omega arith)
          ];
      rest = λ k h. other k (omega arith) ∙ so_far.rest k (omega arith);
    }
