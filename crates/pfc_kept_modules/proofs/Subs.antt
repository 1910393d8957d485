-- The sub that a call names.
use Rattle.std.proofs.Common.{◌≡◌, ℕ, ◌<◌, List, length}
use Rattle.pfc_types.specs.Blocks.{sub_at}
use Rattle.pfc_types.specs.declared.heads.Formal.{Formal}
use Rattle.pfc_semantics.specs.Programs.{Program}

-- a sub of the program has this scope and these parameters
pub record IsSubOf (p : Program) (scope : ℕ) (formals : List Formal) : Type 0 where
  pub number : ℕ
  pub among : number < length p.state.blocks.subs
  pub own_scope : scope ≡ (sub_at p.state.blocks number).scope
  pub own_formals : formals ≡ (sub_at p.state.blocks number).formals
