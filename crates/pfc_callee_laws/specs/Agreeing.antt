-- Blocks that stand as the parts of a program say.
use Rattle.std.specs.Prelude.{ℕ, ◌+◌, ◌≡◌, Bool, true, false, is_some}
use Rattle.pfc_tree.specs.trees.Parts.{PartTree, PartTrees, SubTree, ModuleTree, ProcessTree, consts, types, vars, sub_part, monitor, resource, process_part}
use Rattle.pfc_tree.specs.trees.Parts.{no_parts, more_parts, sub, the_module, process}
use Rattle.pfc_types.specs.rules.Bodies.{is_guarded, part_scopes}
use Rattle.pfc_semantics.specs.Programs.{Block}

-- The scopes of main are told, and the block of each scope. In these parts of the scope i, whose next scope has this number, each sub and each process has a
-- block that stands where it is declared, which has a guard where the text has one, a process's in the program; and monitors and what declares processes
-- are main's.
module _ (mains : ℕ → Bool) (block : ℕ → Block) where
  abbrev mutual
    pub PartAgrees : ℕ → ℕ → PartTree → Type 0
    PartAgrees i next (consts items) = Unit {0}
    PartAgrees i next (types items) = Unit {0}
    PartAgrees i next (vars vs) = Unit {0}
    PartAgrees i next (sub_part b) = SubAgrees i next b
    PartAgrees i next (monitor m) = (mains next ≡ true) × ModuleAgrees next m
    PartAgrees i next (resource m) = ModuleAgrees next m
    PartAgrees i next (process_part q) = (mains i ≡ true) × ProcessAgrees next q

    pub PartsAgree : ℕ → ℕ → PartTrees → Type 0
    PartsAgree i next no_parts = Unit {0}
    PartsAgree i next (more_parts q qs) = PartAgrees i next q × PartsAgree i (next + part_scopes q) qs

    pub SubAgrees : ℕ → ℕ → SubTree → Type 0
    SubAgrees i next (sub x gs kind ps b p) =
        ((block next).outer ≡ i) × (is_some (block next).guard ≡ is_guarded kind) × PartsAgree next (next + 1) ps

    pub ModuleAgrees : ℕ → ModuleTree → Type 0
    ModuleAgrees next (the_module x exports ps b last p) = PartsAgree next (next + 1) ps

    pub ProcessAgrees : ℕ → ProcessTree → Type 0
    ProcessAgrees next (process many x gs es ps b p) =
        ((block next).outer ≡ 0) × (is_some (block next).guard ≡ false) × PartsAgree next (next + 1) ps
