-- `deallocate` makes the block of its empty cells, and gives it back. Assumes `Logic`.
use mathlib.Core.Path.{◌≡◌, refl, sym, ap, subst, ◌∙◌}
use Prim.Native.Nat.{ℕ, ◌*◌, ◌<◌, ◌^◌}
use native.Mathlib.Omega.{arith}
use mathlib.Core.List.{List, [], ◌∷◌, ◌++◌}
use lib.ListN.{replicate, length-replicate}
use mir.Syntax.{Ty, Fn, w64, ty_unit}
use mir.MapTy.{inst_fn}
use mir.Val.{Val, vptr, vint, vunit, vstruct, vcons, vnil}
use base.Logic.{SProp, never, id⊢}
use base.Fml.{froom, Lft, Share, ftrue, flft}
use prog.Wp.{Env, WpFn}
use contract.BorrowLft.{◌⊑◌}
use contract.Monad.{fact}
use contract.Running.{tables}
use types.Kit.{‵, raw, given, later, await, learn, group, ◌⊛◌, prop, at_ret, ◌$◌, ◌∵◌, !, qed, by, move, keep, drop, use1, use2, learn, split, join, rewrite, regoal, fsplit, fjoin, feq_i, flt_l}
use types.Part.{whole, sub}
use types.Run.{stop, fld, unit_lit, size_word, align_word, of_opd, bin, and_then, no_more, first, blocks, exec, returns, enter}
use types.ByLocal.{alloc_all, pass_all, free_all, look_at, get, get_in, is, lands_last, sets, env}
use denote.RattleType.{owns}
use denote.RawPtr.{Ptr, block_ptr, in_a_block}
use denote.Builtin.{usize, RefOf}
use denote.Triple.Call.{calls_at_last}
use denote.Triple.Table.{framed}
use prog.Memory.{align, capped}
use prog.Capped.{capped_fits}
use denote.Exit.{yes, no}
use denote.Signature.{plain, types_at}
use denote.Steps.{nothing, heard}
use denote.Triple.Entry.{alive}
use denote.Triple.Walked.{Stays, stay_dropped, walk_of, Goes-dropped}
use denote.Param.Laws.{param_laws}
use Rattle.std.specs.Prelude.{None}
use Rattle.std.specs.Allocator.{array_of}
use Rattle.std.specs.contracts.alloc.Global as global
use Rattle.std.proofs.impls.GlobalAllocator.deallocate.Met.{met}
use Rattle.std.specs.Allocator.{array_of}
use Rattle.std.proofs.alloc.Calls.{Goes-blank}
use Rattle.std.proofs.RcSteps.{Good}
use Rattle.std.proofs.alloc.Shapes.{after}
use Rattle.std.proofs.mem.Param.{El, R, args, elτ}
use Rattle.std.proofs.raw_atomic.Walks.{proved_at, leaves}
use Rattle.mbj_ring.specs.Inside.Ownership.{cells_own, may_free}
use Rattle.mbj_ring.proofs.Memory.{Owner, Held, bytes, times_capped, stored, block_size, block_align, bare_block}
use Rattle.mbj_ring.proofs.cells.Cells.TheLaws.{lowered, lowers}
use Rattle.mbj_ring.proofs.Heap.{Gives, handed, gives_goes, gives_back}
use Rattle.mbj_ring.specs.contracts.cells.Cells.deallocate as stated
use Rattle.mbj_ring.specs.contracts.cells.Cells.deallocate.Key.{name as key}
use Rattle.mbj_ring.proofs.cells.Cells.deallocate.Statement.{statement}
use Rattle.mbj_ring.proofs.cells.Cells.deallocate.Code as code

pub deallocate_spec : {M : Type 1} → statement M
deallocate_spec 𝓤 𝓛 𝓜 𝓡 wired T L =
    let E : El = record { row = T; laws = L } in
    let H = 𝓛.H in let C = (tables 𝓤 H 𝓜 𝓡 𝓡.env).C in let Λ = (tables 𝓤 H 𝓜 𝓡 𝓡.env).Λ in
    let fn : Fn = inst_fn (args E) code.function in
    let ended = stated.ended T in let S = ended.signature in
    let stays : Stays S.params ended.kept = (stay_dropped _ _, (stay_dropped _ _, (stay_dropped _ _, tt))) in
    let c = stated.clauses T 𝓛 𝓜.mem 𝓡.returns in
    proved_at 𝓛 ended stays c 𝓜 𝓡 (
      Goes-blank 𝓛 2 (plain (λ _. Owner E)) no (λ κs x f. tt),
      (
        Goes-dropped 𝓛 2 (RefOf (0 ∷ []) tt (plain (λ _. global.the_row)) (λ _. tt)) yes (λ κs x f. refl),
        (Goes-dropped 𝓛 2 (plain (λ _. usize)) yes (λ κs x f. refl), tt),
      ),
    )
    (key (args E)) fn (code.unfolded 𝓤 H 𝓜 𝓡 wired (T, tt)) (λ z are.
    let Post : Val → SProp 𝓤 = (walk_of 𝓛 ended stays c).post z in
    let κ : Lft = z.0.0.0 in let q : Share = z.0.1.0 in let a = z.0.3 in let vss = z.0.4 in
    let d = a.0 in let heap = a.1.0 in let count = a.1.1.0 in
    let Asked : Type 0 = d.held ≡ replicate count None in
    qed 𝓛 ((raw (alive 𝓛 S z.0.0 z.0.1) ⊛ ‵ (owns (types_at S.params z.0.0) a vss)) ∷ (raw (fact 𝓤 (z.0.0.1.0 ⊑ T.lives)) ⊛ raw (fact 𝓤 Asked)) ∷ []) ∵
    move ! (1 ∷ []) $ split ! $ drop ! $ heard ! Asked (λ empty. split ! $ use1 𝓛 (‵ (flft κ q) ⊛ ‵ (flft z.0.0.1.0 z.0.1.1.0) ⊛ ‵ ftrue) (id⊢ 𝓤 _) $ split ! $
    move ! (2 ∷ []) $ fsplit ! $ fsplit ! $ drop ! $ move ! (1 ∷ []) $ fsplit ! $ fsplit ! $ keep ! (3 ∷ 1 ∷ 4 ∷ 5 ∷ []) $
    rewrite ! 0 (λ (cs : List (Held E)). ‵ (cells_own (R E) d.base cs)) empty refl $
    in_a_block ! d.base (λ p. cells_own (R E) p (replicate count None)) (id⊢ 𝓤 (never 𝓤)) (λ b o e.
    fsplit ! $ flt_l ! (λ many. fsplit ! $
    let n = count * bytes E in let al : ℕ = capped (align (elτ E)) in let τ : Ty = array_of (R E) count in
    let small : n < 2 ^ 63 = subst (λ k. k * bytes E < 2 ^ 63) (length-replicate count None) many in let fits : n < 2 ^ 64 = omega arith in
    let y = handed 𝓛 𝓜.mem 𝓡.returns κ q heap b o n al τ in let bh = heap.ref_ptr.0 in let oh = heap.ref_ptr.1 in let laws = param_laws 0 T L in
    let is_stored : vss.0 ≡ stored E b o = (lowers (R E) laws).val_is d vss.0 are.0 ∙ ap (λ (p : Ptr). lowered (R E) laws (record { base = p; held = d.held }) ∷ []) e in
    use2 𝓛 (‵ (froom τ b o) ⊛ ‵ (may_free τ (block_ptr b o))) (bare_block E 𝓛 count b o) $ split ! $
    regoal ! (λ (us : List Val). prop (WpFn 𝓤 H C Λ fn us Post)) (λ j. is_stored j ++ (are.1.0.0 j ++ (are.1.1.0.0 j ++ []))) refl $
    enter ! C Λ fn (vstruct (vcons (vptr b o) vnil) ∷ vptr bh oh ∷ vint w64 count ∷ []) Post $
    alloc_all ! (λ l. pass_all ! refl ((tt, (tt, tt)), ((tt, tt), ((tt, record { fits = are.1.1.0.1 }), tt))) $ let En : Env 𝓤 H = env fn.locals l in
    sets ! (of_opd ! (get_in ! (fld ! refl (stop !)) (sub ! 0 refl (whole !)))) refl (tt, tt) $
    first ! $ blocks ! $
    sets ! (of_opd ! (get ! refl)) refl (tt, tt) $
    sets ! (is ! (bin ! (get ! refl) (size_word !) (record { fits = subst (λ (k : ℕ). k < 2 ^ 64) (sym (times_capped count (bytes E) fits)) fits })) (ap (vint w64) (times_capped count (bytes E) fits))) refl (tt, record { fits = fits }) $
    group ! 4 $ use1 𝓛 (raw ((Gives 𝓛 𝓜.mem 𝓡.returns).pre y)) (gives_goes 𝓛 𝓜.mem 𝓡.returns κ q heap b o n al τ (block_size E count fits) (block_align E count) fits (capped_fits (align (elτ E)))) $
    calls_at_last ! (framed 𝓤 H 𝓜 (tables 𝓤 H 𝓜 𝓡 𝓡.env)) (Gives 𝓛 𝓜.mem 𝓡.returns) (met 𝓤 𝓛 𝓜 𝓡 (code.calls-std::impls::GlobalAllocator::deallocate 𝓡.env wired)) y
    (and_then ! (get ! refl) (and_then ! (get ! refl) (and_then ! (get ! refl) (and_then ! (align_word !) (no_more !))))) (λ v.
    use1 𝓛 (later (given (v ≡ vunit) (‵ (flft κ q)))) (gives_back 𝓛 𝓜.mem 𝓡.returns κ q heap b o n al τ v) $ await ! tt $ learn ! (λ is_unit.
    lands_last ! refl (subst (Good ty_unit) (sym is_unit) (tt, tt)) $
    exec ! C Λ En (after 2 fn.body) (at_ret En Post) $
    sets ! (of_opd ! (unit_lit !)) refl (tt, tt) $
    returns ! (look_at ! 0 refl) $ free_all ! refl $
    join ! $ feq_i ! (List Val) (vunit ∷ []) (vunit ∷ []) refl $
    nothing ! $ nothing ! $ fjoin ! $ nothing ! $ fjoin ! $ nothing ! $ fjoin ! $ nothing ! $ move ! (3 ∷ 1 ∷ 2 ∷ 0 ∷ []) $
    by ! (leaves 𝓛 ended stays c z vunit tt (tt, (tt, (tt, tt))) (tt, (tt, (tt, tt)))))))))))
