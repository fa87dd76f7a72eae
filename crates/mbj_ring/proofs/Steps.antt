-- Steps of a walk: what follows a part of a body, and a large constant. Assumes `Logic`.
use Prim.Native.Nat.{ℕ}
use mathlib.Core.List.{List}
use seplogic.Ra.Ura.{Ura}
use base.Logic.{via, guard_i}
use mir.Syntax.{Body, Width, int_big}
use mir.Val.{Fits, vint}
use prog.Wp.{Env, Calls, Loops, Wp, after_seq, after_block}
use types.Logic.{Logic}
use types.Kit.{Item, Post, any_q, post}
use types.Run.{Opd}

module _ {M : Type 1} {𝓤 : Ura M} (𝓛 : Logic 𝓤) where
  open 𝓛 use {H}

  -- the rest of the body runs next
  abbrev pub then_runs : Calls 𝓤 H → Loops 𝓤 H → Env 𝓤 H → Body → Post 𝓤 H → Post 𝓤 H
  then_runs C Λ E b q = any_q (after_seq 𝓤 H (Wp 𝓤 H C Λ E b (post 𝓤 H q)) (post 𝓤 H q))

  pub big_lit : {K : Type 0} {Γ : List (Item 𝓤)} {E : Env 𝓤 H} → K → {w : Width} {n : ℕ} → Fits w n → Opd K 𝓛 Γ E (int_big w n) (vint w n)
  big_lit t {w} {n} fits = record { go = λ Kt h. via 𝓤 (Kt (vint w n)) h (guard_i 𝓤 (Fits w n) (Kt (vint w n)) fits) }
