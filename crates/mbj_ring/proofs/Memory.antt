-- The cells of a block in memory. Assumes `Logic`.
--     times_capped, in_a_block_of, offset_fits, block_size, block_align      the sizes that the walks meet
--     cell_out, cell_in      one cell is taken out of the row, and put back with what it then holds
--     empty_cells, bare_room      room for an array is a row of empty cells, and the other way round
--     opens_cell, closes_cell      the steps that take one cell out of the cells behind a `&mut`, and put it back
use mathlib.Core.Path.{◌≡◌, refl, sym, ap, subst, ◌∙◌}
use Prim.Native.Nat.{ℕ, zero, suc, ◌+◌, ◌*◌, ◌/◌, ◌<◌, ◌≤◌, ◌^◌}
use native.Mathlib.Omega.{arith}
use native.Mathlib.Nat.{zero-mul, suc-mul, mul_comm, div-mul-le_self, div-le_self}
use mathlib.Core.List.{List, [], ◌∷◌}
use lib.ListN.{length, set, get_or, replicate, length-set, length-replicate}
use seplogic.Ra.Ura.{Ura}
use base.Fraction.{full_share}
use mir.Syntax.{ty_array}
use mir.Val.{Val, vptr, vstruct, vcons, vnil}
use base.Logic.{ent, sep, never, id⊢}
use base.Stored.{Gv}
use base.Fml.{Fml, Lft, Share, GName, ftrue, fsep, froom, flft, fobs, fauth, fbor, fobor}
use prog.Memory.{size, align, capped}
use prog.RawLaws.{size-raw, align-raw}
use prog.Capped.{capped_is, capped_small}
use types.Logic.{Logic, sem}
use types.Kit.{Item, Goal, Seq, Step, Soaks, step, ‵, ◌⊛◌, ◌$◌, ◌∵◌, !, qed, by, move, keep, use1, use2, split, rewrite, fsplit, fsplit3, fjoin, fjoin3, fpack, feq_i, flt_l, flt_i, done}
use types.SemTy.{Body}
use denote.RattleType.{RattleType, Valss}
use denote.Laws.{shows}
use denote.Memory.{mem, cell_at, part_of}
use denote.Param.Laws.{param_laws}
use denote.RawPtr.{Ptr, RawPtr, block_ptr, in_a_block}
use denote.Steps.{nothing, opens, closes, peeks}
use denote.Struct.Struct.{Struct, within}
use denote.Struct.Owning.{shape}
use Rattle.std.specs.Prelude.{Option, Some, None}
use Rattle.std.specs.Mem.{type_size}
use Rattle.std.proofs.ptr.Rows.{times_below, one_below}
use Rattle.std.proofs.mem.Param.{El, R, el_x, elτ}
use Rattle.std.specs.Allocator.{array_of}
use Rattle.mbj_ring.specs.Inside.Cells.{IsFilled}
use Rattle.mbj_ring.specs.Inside.Ownership.{cell, cells, cells_own, may_free}
use Rattle.mbj_ring.proofs.cells.Cells.TheLaws.{lowered, lowers}
use Rattle.mbj_ring.specs.contracts.cells.Cells as C

-- if the product fits a word, the count is zero or the size fits too
pub times_capped : (i k : ℕ) → i * k < 2 ^ 64 → i * capped k ≡ i * k
times_capped zero k fits = zero-mul (capped k) ∙ sym (zero-mul k)
times_capped (suc i) k fits = let step = suc-mul i k in ap (λ (j : ℕ). suc i * j) (capped_is k (omega arith))

-- cells whose size is at most the count-th part of max have at most max bytes
pub in_a_block_of : (max i k : ℕ) → max < 2 ^ 63 → capped k ≤ max / i → i * k < 2 ^ 63
in_a_block_of max i k low le =
    let d : max / i ≤ max = div-le_self max i in let small : k < 2 ^ 63 = capped_small k (omega arith) in let same = capped_is k (omega arith) in
    let most : max / i * i ≤ max = div-mul-le_self max i in
    subst (λ (j : ℕ). j < 2 ^ 63) (mul_comm k i) (times_below k (max / i) i (2 ^ 63) (omega arith) (omega arith))

-- the offset of a cell fits a word, and so does the size of one
pub offset_fits : (n i k : ℕ) → i < n → n * k < 2 ^ 63 → (k < 2 ^ 64) × (i * k < 2 ^ 64)
offset_fits n i k within small = (omega (arith, one_below n k (2 ^ 63) (omega arith) small), omega (arith, times_below i n k (2 ^ 63) (omega arith) small))

-- a cell that holds a value lies within the list
pub filled_within : {X : Type 0} (cs : List (Option X)) (i : ℕ) → IsFilled cs i → i < length cs
filled_within [] i f = cc
filled_within (c ∷ cs) zero f = omega arith
filled_within (c ∷ cs) (suc i) f = omega (arith, filled_within cs i f)

module _ (E : El) where
  abbrev pub Owner : RattleType
  Owner = C.the_row (R E)

  abbrev pub Held : Type 0
  Held = Option (el_x E)

  abbrev pub bytes : ℕ
  bytes = type_size (R E)

  abbrev pub all_empty : ℕ → List Held
  all_empty k = replicate k None

  -- the block for k cells has their size and alignment
  pub block_size : (k : ℕ) → k * bytes < 2 ^ 64 → capped (size (array_of (R E) k)) ≡ k * bytes
  block_size k fits = ap capped (size-raw (ty_array (elτ E) k)) ∙ capped_is (k * bytes) fits

  pub block_align : (k : ℕ) → capped (align (array_of (R E) k)) ≡ capped (align (elτ E))
  block_align k = ap capped (align-raw (ty_array (elτ E) k))

  -- all cells but the one at the place
  abbrev pub others : ℕ → ℕ → List Held → ℕ → Fml
  others b o [] i = ftrue
  others b o (c ∷ cs) zero = cells (R E) b (o + bytes) cs
  others b o (c ∷ cs) (suc i) = fsep (cell (R E) b o c) (others b (o + bytes) cs i)

module _ (E : El) {M : Type 1} {𝓤 : Ura M} {𝓛 : Logic 𝓤} {K : Type 0} {Γ : List (Item 𝓤)} {G : Goal 𝓤 𝓛.H} where
  -- room for a value is an empty cell, and the other way round
  pub as_empty : K → (b o : ℕ) → Step K 𝓛 (‵ (cell (R E) b o None) ∷ Γ) G (‵ (froom (elτ E) b o) ∷ Γ) G
  as_empty t b o = step (λ s. use1 𝓛 (‵ (cell (R E) b o None)) (𝓛.laws.room-raw (elτ E) b o) $ s)

  pub as_room : K → (b o : ℕ) → Step K 𝓛 (‵ (froom (elτ E) b o) ∷ Γ) G (‵ (cell (R E) b o None) ∷ Γ) G
  as_room t b o = step (λ s. use1 𝓛 (‵ (froom (elτ E) b o)) (𝓛.laws.raw-room (elτ E) b o) $ s)

module _ (E : El) {M : Type 1} {𝓤 : Ura M} (𝓛 : Logic 𝓤) (b : ℕ) where
  open 𝓛 use {H}

  abbrev n : ℕ
  n = bytes E

  pub cell_out : (cs : List (Held E)) (i o : ℕ) → i < length cs
      → ent 𝓤 (sem 𝓛 (cells (R E) b o cs)) (sep 𝓤 (sem 𝓛 (cell (R E) b (i * n + o) (get_or cs i None))) (sem 𝓛 (others E b o cs i)))
  cell_out [] i o lt = absurd (omega arith)
  cell_out (c ∷ cs) zero o lt = qed 𝓛 (‵ (cells (R E) b o (c ∷ cs)) ∷ []) ∵ fsplit ! $
      rewrite ! 0 (λ (k : ℕ). ‵ (cell (R E) b k c)) {x = zero * n + o} (omega (arith, zero-mul n)) refl $ done !
  cell_out (c ∷ cs) (suc i) o lt = qed 𝓛 (‵ (cells (R E) b o (c ∷ cs)) ∷ []) ∵ fsplit ! $ move ! (1 ∷ []) $
      use1 𝓛 (‵ (cell (R E) b (i * n + (o + n)) (get_or cs i None)) ⊛ ‵ (others E b (o + n) cs i)) (cell_out cs i (o + n) (omega arith)) $ split ! $
      rewrite ! 0 (λ (k : ℕ). ‵ (cell (R E) b k (get_or cs i None))) {x = suc i * n + o} (omega (arith, suc-mul i n)) refl $ move ! (2 ∷ 1 ∷ []) $ fjoin ! $ move ! (1 ∷ []) $ done !

  pub cell_in : (cs : List (Held E)) (i o : ℕ) (c : Held E) → i < length cs
      → ent 𝓤 (sep 𝓤 (sem 𝓛 (cell (R E) b (i * n + o) c)) (sem 𝓛 (others E b o cs i))) (sem 𝓛 (cells (R E) b o (set cs i c)))
  cell_in [] i o c lt = absurd (omega arith)
  cell_in (d ∷ cs) zero o c lt = qed 𝓛 (‵ (cell (R E) b (zero * n + o) c) ∷ ‵ (cells (R E) b (o + n) cs) ∷ []) ∵
      rewrite ! 0 (λ (k : ℕ). ‵ (cell (R E) b k c)) {x = o} (omega (arith, zero-mul n)) refl $ fjoin ! $ done !
  cell_in (d ∷ cs) (suc i) o c lt = qed 𝓛 (‵ (cell (R E) b (suc i * n + o) c) ∷ ‵ (fsep (cell (R E) b o d) (others E b (o + n) cs i)) ∷ []) ∵
      rewrite ! 0 (λ (k : ℕ). ‵ (cell (R E) b k c)) {x = i * n + (o + n)} (omega (arith, suc-mul i n)) refl $ move ! (1 ∷ []) $ fsplit ! $ move ! (2 ∷ 1 ∷ []) $
      use2 𝓛 (‵ (cells (R E) b (o + n) (set cs i c))) (cell_in cs i (o + n) c (omega arith)) $ move ! (1 ∷ 0 ∷ []) $ fjoin ! $ done !

  pub empty_cells : (k o : ℕ) → ent 𝓤 (H.room (ty_array (elτ E) k) b o) (sem 𝓛 (cells (R E) b o (replicate k None)))
  empty_cells zero o = qed 𝓛 (‵ (froom (ty_array (elτ E) 0) b o) ∷ []) ∵ keep ! [] $ done !
  empty_cells (suc k) o = qed 𝓛 (‵ (froom (ty_array (elτ E) (suc k)) b o) ∷ []) ∵
      use1 𝓛 (‵ (froom (elτ E) b o) ⊛ ‵ (froom (ty_array (elτ E) k) b (o + n))) (𝓛.laws.room_uncons (elτ E) k b o) $ split ! $ as_empty E ! b o $ move ! (1 ∷ []) $
      use1 𝓛 (‵ (cells (R E) b (o + n) (replicate k None))) (empty_cells k (o + n)) $ move ! (1 ∷ 0 ∷ []) $ fjoin ! $ done !

  pub bare_room : (k o : ℕ) → ent 𝓤 (sem 𝓛 (cells (R E) b o (replicate k None))) (H.room (ty_array (elτ E) k) b o)
  bare_room zero o = 𝓛.laws.room_nil (elτ E) b o
  bare_room (suc k) o = qed 𝓛 (‵ (cells (R E) b o (replicate (suc k) None)) ∷ []) ∵ fsplit ! $ as_room E ! b o $ move ! (1 ∷ []) $
      use1 𝓛 (‵ (froom (ty_array (elτ E) k) b (o + n))) (bare_room k (o + n)) $ move ! (1 ∷ []) $ by ! (𝓛.laws.room_cons (elτ E) k b o)

module _ (E : El) where
  abbrev pub with_held : (Owner E).Denot → ℕ → Held E → (Owner E).Denot
  with_held d i c = record { base = d.base; held = set d.held i c }

  -- how the owner of cells at (b', o') is stored
  abbrev pub stored : ℕ → ℕ → List Val
  stored b' o' = vstruct (vcons (vptr b' o') vnil) ∷ []

  -- what the owner has beside the cell at the place: the other cells, the right to free the block, and its fields
  abbrev pub Beside : (Owner E).Denot → ℕ → ℕ → ℕ → Fml
  Beside d i b' o' =
      fsep (others E b' o' d.held i) (fsep (may_free (array_of (R E) (length d.held)) (block_ptr b' o')) ((Struct (shape (C.the_type (R E)))).own_val (d.base, tt) (stored b' o')))

module _ (E : El) {M : Type 1} {𝓤 : Ura M} (𝓛 : Logic 𝓤) (k b o : ℕ) where
  open 𝓛 use {H}

  -- a new block is the owner's, with each cell empty
  pub fresh_cells : k * bytes E < 2 ^ 63 → ent 𝓤 (sep 𝓤 (H.room (array_of (R E) k) b o) (sem 𝓛 (may_free (array_of (R E) k) (block_ptr b o))))
      (sem 𝓛 ((Owner E).own_val (record { base = block_ptr b o; held = replicate k None }) (stored E b o)))
  fresh_cells small =
      let cs = replicate k None in let long : k ≡ length cs = sym (length-replicate k None) in let fields = shape (C.the_type (R E)) in
      qed 𝓛 (‵ (froom (array_of (R E) k) b o) ∷ ‵ (may_free (array_of (R E) k) (block_ptr b o)) ∷ []) ∵
      use1 𝓛 (‵ (froom (ty_array (elτ E) k) b o)) (𝓛.laws.raw-room (ty_array (elτ E) k) b o) $ use1 𝓛 (‵ (cells (R E) b o cs)) (empty_cells E 𝓛 b k o) $
      rewrite ! 1 (λ (j : ℕ). ‵ (may_free (array_of (R E) j) (block_ptr b o))) long refl $ fjoin ! $
      flt_i ! (length cs * bytes E) (2 ^ 63) (subst (λ j. j * bytes E < 2 ^ 63) long small) $ fjoin ! $
      nothing ! $ feq_i ! (List Val) (vptr b o ∷ []) (vptr b o ∷ []) refl $ fjoin ! $ feq_i ! (List Val) (stored E b o) (stored E b o) refl $ fjoin ! $
      fpack ! (Valss (RawPtr ∷ [])) (within fields (block_ptr b o, tt) (stored E b o)) (vptr b o ∷ [], tt) $ fjoin ! $ done !

  -- cells that are all empty are room for a block again, with the right to free it
  pub bare_block : ent 𝓤 (sep 𝓤 (sem 𝓛 (cells (R E) b o (replicate k None))) (sem 𝓛 (may_free (array_of (R E) (length (all_empty E k))) (block_ptr b o))))
      (sep 𝓤 (H.room (array_of (R E) k) b o) (sem 𝓛 (may_free (array_of (R E) k) (block_ptr b o))))
  bare_block =
      qed 𝓛 (‵ (cells (R E) b o (replicate k None)) ∷ ‵ (may_free (array_of (R E) (length (all_empty E k))) (block_ptr b o)) ∷ []) ∵
      use1 𝓛 (‵ (froom (ty_array (elτ E) k) b o)) (bare_room E 𝓛 b k o) $ use1 𝓛 (‵ (froom (array_of (R E) k) b o)) (𝓛.laws.room-raw (ty_array (elτ E) k) b o) $
      rewrite ! 1 (λ (j : ℕ). ‵ (may_free (array_of (R E) j) (block_ptr b o))) (length-replicate k None) refl $ done !

module _ (E : El) (d : (Owner E).Denot) (i b' o' : ℕ) (at : d.base ≡ block_ptr b' o') (within : i < length d.held) (small : length d.held * bytes E < 2 ^ 63) where
  pub owned_again : {M : Type 1} {𝓤 : Ura M} (𝓛 : Logic 𝓤) (c : Held E)
      → ent 𝓤 (sep 𝓤 (sem 𝓛 (cell (R E) b' (i * bytes E + o') c)) (sem 𝓛 (Beside E d i b' o'))) (sem 𝓛 ((Owner E).own_val (with_held E d i c) (stored E b' o')))
  owned_again 𝓛 c =
      let cs = set d.held i c in let long : length d.held ≡ length cs = sym (length-set d.held i c) in
      qed 𝓛 (‵ (cell (R E) b' (i * bytes E + o') c) ∷ ‵ (Beside E d i b' o') ∷ []) ∵ move ! (1 ∷ []) $ fsplit3 ! $ move ! (3 ∷ 0 ∷ []) $
      use2 𝓛 (‵ (cells (R E) b' o' cs)) (cell_in E 𝓛 b' d.held i o' c within) $
      rewrite ! 1 (λ (k : ℕ). ‵ (may_free (array_of (R E) k) (block_ptr b' o'))) long refl $ fjoin ! $
      flt_i ! (length cs * bytes E) (2 ^ 63) (subst (λ k. k * bytes E < 2 ^ 63) long small) $ fjoin ! $
      rewrite ! 0 (λ (p : Ptr). ‵ (cells_own (R E) p cs)) (sym at) refl $ move ! (1 ∷ []) $ fjoin ! $ done !

  -- a value in the cell makes the cells whole again, in memory at (b, o)
  pub lent_back : (b o : ℕ) {M : Type 1} {𝓤 : Ura M} (𝓛 : Logic 𝓤) (w : el_x E)
      → ent 𝓤 (sep 𝓤 (sem 𝓛 ((mem (R E)).own_at w b' (i * bytes E + o'))) (sem 𝓛 (fsep (cell_at full_share (Owner E).mir (stored E b' o') b o) (Beside E d i b' o'))))
      (sem 𝓛 ((mem (Owner E)).own_at (with_held E d i (Some w)) b o))
  unfolding part_of
  lent_back b o 𝓛 w =
      let in_memory = cell_at full_share (Owner E).mir (stored E b' o') b o in
      qed 𝓛 (‵ (cell (R E) b' (i * bytes E + o') (Some w)) ∷ ‵ (fsep in_memory (Beside E d i b' o')) ∷ []) ∵ move ! (1 ∷ []) $ fsplit ! $ move ! (2 ∷ 1 ∷ []) $
      use2 𝓛 (‵ ((Owner E).own_val (with_held E d i (Some w)) (stored E b' o'))) (owned_again 𝓛 (Some w)) $ move ! (1 ∷ 0 ∷ []) $ fjoin ! $
      fpack ! (List Val) (λ us. fsep (cell_at full_share (Owner E).mir us b o) ((Owner E).own_val (with_held E d i (Some w)) us)) (stored E b' o') $ done !

module _ (E : El) {M : Type 1} {𝓤 : Ura M} {𝓛 : Logic 𝓤} {K : Type 0} {Γ : List (Item 𝓤)} {G : Goal 𝓤 𝓛.H} where
  -- [the cell; where the owner is stored; what it has beside; the open borrow, in three entries]
  pub opens_cell : K → Soaks G → {κ : Lft} {q : Share} {γ : GName} (d : (Owner E).Denot) (i b o : ℕ) → i < length d.held
      → ((b' o' : ℕ) → d.base ≡ block_ptr b' o' → length d.held * bytes E < 2 ^ 63
      → Seq K 𝓛 (‵ (cell (R E) b' (i * bytes E + o') (get_or d.held i None)) ∷ ‵ (cell_at full_share (Owner E).mir (stored E b' o') b o) ∷ ‵ (Beside E d i b' o')
      ∷ ‵ (fobor κ q (Body (mem (Owner E)) b o γ)) ∷ ‵ (fobs γ ((Owner E).coded.code d)) ∷ ‵ (fauth γ ((Owner E).coded.code d)) ∷ Γ) G)
      → Seq K 𝓛 (‵ (fobs γ ((Owner E).coded.code d)) ∷ ‵ (fbor κ (Body (mem (Owner E)) b o γ)) ∷ ‵ (flft κ q) ∷ Γ) G
  opens_cell t z d i b o within next =
      let L = param_laws 0 E.row E.laws in let fields = Struct (shape (C.the_type (R E))) in
      opens t z (Owner E) {h = d} b o (λ us. move t (1 ∷ []) $ peeks t (Owner E) _ (shows 𝓛 (Owner E)) d us (λ is. fsplit t $ move t (1 ∷ []) $
      in_a_block t d.base (λ p. cells_own (R E) p d.held) (id⊢ 𝓤 (never 𝓤)) (λ b' o' e. fsplit t $ flt_l t (λ small. fsplit t $
      let word = (lowers (R E) L).val_is d us is ∙ ap (λ (p : Ptr). lowered (R E) L (record { base = p; held = d.held }) ∷ []) e in
      rewrite t 2 (λ (ws : List Val). ‵ (fields.own_val (d.base, tt) ws)) word refl $ rewrite t 3 (λ (ws : List Val). ‵ (cell_at full_share (Owner E).mir ws b o)) word refl $
      use1 𝓛 (‵ (cell (R E) b' (i * bytes E + o') (get_or d.held i None)) ⊛ ‵ (others E b' o' d.held i)) (cell_out E 𝓛 b' d.held i o' within) $ split t $
      move t (1 ∷ 2 ∷ 3 ∷ []) $ fjoin3 t $ move t (1 ∷ 2 ∷ 0 ∷ []) $ next b' o' e small))))

  pub closes_cell : K → Soaks G → {κ : Lft} {q : Share} {u v : Gv} {γ : GName} (d : (Owner E).Denot) (i b o b' o' : ℕ)
      → d.base ≡ block_ptr b' o' → i < length d.held → length d.held * bytes E < 2 ^ 63 → (c : Held E)
      → Step K 𝓛 (‵ (fobs γ ((Owner E).coded.code (with_held E d i c))) ∷ ‵ (fbor κ (Body (mem (Owner E)) b o γ)) ∷ ‵ (flft κ q) ∷ Γ) G
      (‵ (cell (R E) b' (i * bytes E + o') c) ∷ ‵ (cell_at full_share (Owner E).mir (stored E b' o') b o) ∷ ‵ (Beside E d i b' o')
      ∷ ‵ (fobor κ q (Body (mem (Owner E)) b o γ)) ∷ ‵ (fobs γ u) ∷ ‵ (fauth γ v) ∷ Γ) G
  closes_cell t z d i b o b' o' at within small c = step (λ s. move t (0 ∷ 2 ∷ []) $
      use2 𝓛 (‵ ((Owner E).own_val (with_held E d i c) (stored E b' o'))) (owned_again E d i b' o' at within small 𝓛 c) $ move t (1 ∷ 0 ∷ []) $
      closes t z (Owner E) (with_held E d i c) (stored E b' o') b o $ s)
