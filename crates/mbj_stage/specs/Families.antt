-- Which kernel serves a kind: the lanes of AES by the number of rounds, and what a kernel and its kind have in common.
use Rattle.std.specs.Prelude.{◌≡◌, ℕ, ◌==◌, if◌then◌else◌}
use Rattle.mbj_types.specs.Kinds.{lanes_of}
use Rattle.mbj_types.specs.Rounds.{rounds_of}
use Rattle.mbj_types.specs.declared.job.Job.{Job}
use Rattle.mbj_types.specs.declared.kind.Kind.{Kind}
use Rattle.mbj_types.specs.declared.kind.Kind.TheVariants as kind
use Rattle.mbj_stage.specs.declared.stage.Stage.{Stage}
use Rattle.mbj_stage.specs.declared.stage.Stage.TheVariants as stage

-- one of three by the rounds of a key: 10, 12 or 14
abbrev pub by_rounds : ℕ → Kind → Kind → Kind → Kind
by_rounds n k10 k12 k14 = if n == 10 then k10 else if n == 12 then k12 else k14

-- CBC encryption with keys of n rounds
abbrev pub cbc_lanes : ℕ → Kind
cbc_lanes n = by_rounds n kind.Cbc128 kind.Cbc192 kind.Cbc256

abbrev pub cbc_stage : ℕ → Stage
cbc_stage n = stage.Lane (cbc_lanes n)

-- CMAC with keys of n rounds
abbrev pub cmac_lanes : ℕ → Kind
cmac_lanes n = if n == 10 then kind.Cmac128 else kind.Cmac256

abbrev pub cmac_stage : ℕ → Stage
cmac_stage n = stage.Lane (cmac_lanes n)

-- CCM's MAC with keys of n rounds
abbrev pub ccm_lanes : ℕ → Kind
ccm_lanes n = by_rounds n kind.Ccm128 kind.Ccm192 kind.Ccm256

abbrev pub ccm_stage : ℕ → Stage
ccm_stage n = stage.Lane (ccm_lanes n)

-- the kind k is that of the kernel, with this many lanes, and these are the rounds of its jobs
pub record IsServed (k kernel_kind : Kind) (kernel_lanes : ℕ) (lanes : ℕ) (rounds : Job → ℕ) : Type 0 where
  pub kind : kernel_kind ≡ k
  pub kernel : kernel_lanes ≡ lanes
  pub lanes_are : lanes_of k ≡ lanes
  pub rounds_are : (j : Job) → rounds_of k j ≡ rounds j
