-- `allocate` cuts the new block into empty cells, and keeps the right to free it. Assumes `Logic`.
use mathlib.Core.Path.{◌≡◌, refl, sym, ap, subst}
use Prim.Native.Nat.{ℕ, ◌-◌, ◌*◌, ◌/◌, ◌<◌, ◌≤◌, ◌^◌}
use native.Mathlib.Nat.{div-le_self}
use native.Mathlib.Omega.{arith}
use mathlib.Core.List.{List, [], ◌∷◌, ◌++◌}
use lib.ListN.{replicate}
use lib.Dec.{lit<, nltb→le}
use mir.Syntax.{Ty, Fn, w64}
use mir.MapTy.{inst_fn}
use mir.Val.{Val, vptr, vint, vstruct, vcons, vnil}
use base.Logic.{SProp, emp, id⊢}
use base.Fml.{Lft, Share, ftrue, flft}
use prog.Wp.{Env, WpFn}
use contract.BorrowLft.{◌⊑◌}
use contract.Monad.{fact, fact_i}
use contract.Running.{tables}
use types.Kit.{‵, raw, some, later, await, split3, ◌⊛◌, prop, at_ret, Sq, ◌$◌, ◌∵◌, !, qed, by, move, keep, drop, use0, use1, use2, pick, split, join, regoal, fsplit, fjoin}
use types.Part.{whole, agg}
use types.Match.{live, vrt, in_variant}
use types.Run.{stop, fld, lit, size_word, align_word, of_opd, bin, and_then, no_more, switches_on, first, branches, skips, exec, returns, returns_within, enter}
use types.ByLocal.{alloc_all, pass_all, free_all, look_at, get, get_in, get_tag, is, lands_as, sets, sets_last, env}
use denote.Param.{layout}
use denote.RattleType.{RattleType, owns}
use denote.Laws.{Is}
use denote.Struct.Struct.{Struct, Struct-Makes}
use denote.Struct.Declared as Declared
use denote.RawPtr.{block_ptr}
use denote.Builtin.{usize, RefOf}
use denote.Triple.Call.{calls_at}
use denote.Triple.Table.{framed}
use prog.Memory.{align, capped}
use prog.Capped.{capped_fits}
use denote.Exit.{yes}
use denote.Signature.{plain, types_at}
use denote.Steps.{nothing, owned, heard}
use denote.Triple.Entry.{alive}
use denote.Triple.Walked.{Stays, stay_dropped, walk_of, Goes-dropped}
use Rattle.std.specs.Prelude.{None}
use Rattle.std.specs.Allocator.{array_of}
use Rattle.std.specs.contracts.alloc.Global as global
use Rattle.std.proofs.impls.GlobalAllocator.allocate.Met.{met}
use Rattle.std.specs.Prelude.{true, false, Ok, Err, IfOk}
use Rattle.std.specs.Allocator.{array_of, block_if_ok}
use Rattle.std.specs.contracts.result.Result as result
use Rattle.std.specs.contracts.alloc.AllocError as refusal
use Rattle.std.proofs.alloc.Calls.{Answer, Answer-typed}
use Rattle.std.proofs.RcSteps.{Good, first_Good}
use Rattle.std.proofs.ResultValues.{ok_of, err_of}
use Rattle.std.proofs.alloc.Shapes.{after, head, arm_body}
use Rattle.std.proofs.mem.Param.{El, R, args, elτ}
use Rattle.std.proofs.raw_atomic.Walks.{proved_at, leaves}
use Rattle.mbj_ring.specs.Inside.Ownership.{may_free}
use Rattle.mbj_ring.proofs.Memory.{Owner, bytes, times_capped, in_a_block_of, stored, block_size, block_align, fresh_cells}
use Rattle.mbj_ring.proofs.Steps.{then_runs, big_lit}
use Rattle.mbj_ring.proofs.Heap.{Takes, asked, takes_goes, takes_gives, answers}
use Rattle.mbj_ring.specs.contracts.cells.Cells.allocate as stated
use Rattle.mbj_ring.specs.contracts.cells.Cells.allocate.Key.{name as key}
use Rattle.mbj_ring.proofs.cells.Cells.allocate.Statement.{statement}
use Rattle.mbj_ring.proofs.cells.Cells.allocate.Code as code

pub allocate_spec : {M : Type 1} → statement M
allocate_spec 𝓤 𝓛 𝓜 𝓡 wired T L =
    let E : El = record { row = T; laws = L } in
    let H = 𝓛.H in let C = (tables 𝓤 H 𝓜 𝓡 𝓡.env).C in let Λ = (tables 𝓤 H 𝓜 𝓡 𝓡.env).Λ in
    let fn : Fn = inst_fn (args E) code.function in
    let ended = stated.ended T in let S = ended.signature in
    let stays : Stays S.params ended.kept = (stay_dropped _ _, (stay_dropped _ _, tt)) in
    let c = stated.clauses T 𝓛 𝓜.mem 𝓡.returns in
    proved_at 𝓛 ended stays c 𝓜 𝓡 (Goes-dropped 𝓛 2 (RefOf (0 ∷ []) tt (plain (λ _. global.the_row)) (λ _. tt)) yes (λ κs x f. refl), (Goes-dropped 𝓛 2 (plain (λ _. usize)) yes (λ κs x f. refl), tt))
    (key (args E)) fn (code.unfolded 𝓤 H 𝓜 𝓡 wired (T, tt)) (λ z are.
    let Post : Val → SProp 𝓤 = (walk_of 𝓛 ended stays c).post z in
    let κ : Lft = z.0.0.0 in let q : Share = z.0.1.0 in let a = z.0.3 in let vss = z.0.4 in
    let b = a.0.ref_ptr.0 in let o = a.0.ref_ptr.1 in let h = a.0.now in let count = a.1.0 in
    let Asked : Type 0 = 0 < count in
    let toks = ‵ (flft z.0.0.1.0 z.0.1.1.0) ⊛ ‵ ftrue in
    let Out : RattleType = result.the_row (Owner E) refusal.the_row in
    let Given : Out.Denot → Type 0 = λ r. IfOk r (λ c'. c'.held ≡ replicate count None) in
    let Refusal : RattleType = Struct (Declared.shape refusal.the_type) in
    let none : Val = live 1 (vcons (vstruct vnil) vnil) in let well_none : Good (layout Out) none = (tt, (record { fits = lit< tt }, (tt, tt))) in
    let refused : Sq 𝓛 (‵ (flft κ q) ∷ toks ∷ []) (prop (Post none)) =
    owned ! Refusal (Is Refusal) (Struct-Makes 𝓛 (Declared.shape refusal.the_type) tt) tt (vstruct vnil ∷ []) (tt, (refl, tt)) $
    use1 𝓛 (‵ (Out.own_val (Err (record {})) (none ∷ []))) (err_of 𝓛 (Owner E) refusal.the_row (record {}) (vstruct vnil)) $
    move ! (1 ∷ 2 ∷ []) $ join ! $ nothing ! $ nothing ! $ fjoin ! $ nothing ! $ fjoin ! $
    use0 𝓛 (raw (fact 𝓤 (Given (Err (record {}))))) (fact_i 𝓤 (Given (Err (record {}))) (emp 𝓤) tt) $ move ! (2 ∷ 1 ∷ 3 ∷ 0 ∷ []) $
    by ! (leaves 𝓛 ended stays c z none (Err (record {})) (tt, (tt, tt)) (tt, (tt, tt))) in
    qed 𝓛 ((raw (alive 𝓛 S z.0.0 z.0.1) ⊛ ‵ (owns (types_at S.params z.0.0) a vss)) ∷ (raw (fact 𝓤 (z.0.0.1.0 ⊑ T.lives)) ⊛ raw (fact 𝓤 Asked)) ∷ []) ∵
    move ! (1 ∷ []) $ split ! $ drop ! $ heard ! Asked (λ any. split ! $ use1 𝓛 (‵ (flft κ q) ⊛ toks) (id⊢ 𝓤 _) $ split ! $
    move ! (2 ∷ []) $ fsplit ! $ fsplit ! $ drop ! $ keep ! (0 ∷ 2 ∷ 3 ∷ []) $
    regoal ! (λ (us : List Val). prop (WpFn 𝓤 H C Λ fn us Post)) (λ j. are.0.0 j ++ (are.1.0.0 j ++ [])) refl $
    enter ! C Λ fn (vptr b o ∷ vint w64 count ∷ []) Post $
    alloc_all ! (λ l. pass_all ! refl ((tt, tt), ((tt, record { fits = are.1.0.1 }), tt)) $ let En : Env 𝓤 H = env fn.locals l in
    let max = 2 ^ 63 - 1 in let s = bytes E in
    let below : max / count < 2 ^ 64 = let d : max / count ≤ max = div-le_self max count in omega arith in
    sets ! (bin ! (big_lit 𝓛 ! (record { fits = lit< tt })) (get ! refl) any) refl (tt, record { fits = below }) $
    sets ! (bin ! (get ! refl) (size_word !) tt) refl (tt, tt) $
    first ! $ branches ! (get ! refl)
    (λ _. sets ! (agg ! (no_more !)) refl (tt, tt) $ sets ! (agg ! (and_then ! (lit ! tt) (and_then ! (get ! refl) (no_more !)))) refl well_none $
    returns_within ! Post refl (look_at ! 0 refl) $ free_all ! refl $ keep ! (1 ∷ 2 ∷ []) $ refused)
    (λ within. skips ! $ exec ! C Λ En (after 3 fn.body) (at_ret En Post) $
    let n = count * s in let al : ℕ = capped (align (elτ E)) in let τ : Ty = array_of (R E) count in
    let small : n < 2 ^ 63 = in_a_block_of max count s (omega arith) (nltb→le (max / count) (capped s) within) in let fits : n < 2 ^ 64 = omega arith in
    let y = asked 𝓛 𝓜.mem 𝓡.returns κ q a.0 n al τ in
    sets ! (is ! (bin ! (get ! refl) (size_word !) (record { fits = subst (λ (k : ℕ). k < 2 ^ 64) (sym (times_capped count s fits)) fits })) (ap (vint w64) (times_capped count s fits))) refl (tt, record { fits = fits }) $
    use2 𝓛 (raw ((Takes 𝓛 𝓜.mem 𝓡.returns).pre y)) (takes_goes 𝓛 𝓜.mem 𝓡.returns κ q a.0 n al τ (block_size E count fits) (block_align E count) fits (capped_fits (align (elτ E)))) $
    calls_at ! (framed 𝓤 H 𝓜 (tables 𝓤 H 𝓜 𝓡 𝓡.env)) (Takes 𝓛 𝓜.mem 𝓡.returns) (met 𝓤 𝓛 𝓜 𝓡 (code.calls-std::impls::GlobalAllocator::allocate 𝓡.env wired)) y
    (and_then ! (get ! refl) (and_then ! (get ! refl) (and_then ! (align_word !) (no_more !)))) (λ v.
    use1 𝓛 (later (some (λ (r : Answer.Denot). ‵ (Answer.own_val r (v ∷ [])) ⊛ ‵ (block_if_ok may_free τ r) ⊛ ‵ (flft κ q)))) (takes_gives 𝓛 𝓜.mem 𝓡.returns κ q a.0 n al τ v) $ await ! tt $ pick ! (λ r. split3 ! $
    let switch = head (after 5 fn.body) in let Then = then_runs 𝓛 C Λ En (after 6 fn.body) (at_ret En Post) in
    answers ! τ v r
    (λ b' o' _ e.
    let cells_val = vstruct (vcons (vptr b' o') vnil) in let well_stored : Good (layout (Owner E)) cells_val = (tt, (tt, tt)) in
    let ok = live 0 (vcons cells_val vnil) in let typed = first_Good (layout (Owner E)) cells_val well_stored in
    let new : (Owner E).Denot = record { base = block_ptr b' o'; held = replicate count None } in
    lands_as ! e refl (Answer-typed true b' o') $ first ! $ switches_on ! (get_tag ! (vrt ! refl (fld ! refl (stop !))) (whole !)) $ exec ! C Λ En (arm_body 0 switch) Then $
    sets ! (of_opd ! (get_in ! (vrt ! refl (fld ! refl (stop !))) (in_variant ! 0 0 refl refl (whole !)))) refl (tt, tt) $
    sets ! (of_opd ! (get ! refl)) refl (tt, tt) $
    sets ! (agg ! (and_then ! (get ! refl) (no_more !))) refl well_stored $
    sets_last ! (agg ! (and_then ! (lit ! tt) (and_then ! (get ! refl) (no_more !)))) refl typed $
    exec ! C Λ En (after 6 fn.body) (at_ret En Post) $ sets ! (of_opd ! (get ! refl)) refl typed $
    returns ! (look_at ! 0 refl) $ free_all ! refl $
    use2 𝓛 (‵ ((Owner E).own_val new (stored E b' o'))) (fresh_cells E 𝓛 count b' o' small) $
    use1 𝓛 (‵ (Out.own_val (Ok new) (ok ∷ []))) (ok_of 𝓛 (Owner E) refusal.the_row new cells_val) $
    move ! (1 ∷ 2 ∷ []) $ join ! $ nothing ! $ nothing ! $ fjoin ! $ nothing ! $ fjoin ! $
    use0 𝓛 (raw (fact 𝓤 (Given (Ok new)))) (fact_i 𝓤 (Given (Ok new)) (emp 𝓤) refl) $ move ! (2 ∷ 1 ∷ 3 ∷ 0 ∷ []) $
    by ! (leaves 𝓛 ended stays c z ok (Ok new) (tt, (tt, tt)) (tt, (tt, tt))))
    (λ e.
    lands_as ! e refl (Answer-typed false 0 0) $ first ! $ switches_on ! (get_tag ! (vrt ! refl (fld ! refl (stop !))) (whole !)) $ exec ! C Λ En (arm_body 1 switch) Then $
    sets ! (of_opd ! (get_in ! (vrt ! refl (fld ! refl (stop !))) (in_variant ! 1 0 refl refl (whole !)))) refl (tt, tt) $
    sets_last ! (agg ! (and_then ! (lit ! tt) (and_then ! (get ! refl) (no_more !)))) refl well_none $
    exec ! C Λ En (after 6 fn.body) (at_ret En Post) $ sets ! (of_opd ! (get ! refl)) refl well_none $
    returns ! (look_at ! 0 refl) $ free_all ! refl $ refused)))))))
