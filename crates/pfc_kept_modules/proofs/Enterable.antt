-- Wherever the code of a checked program calls a procedure from outside its module, that can be called.
use Rattle.std.proofs.Common.{◌≡◌, ℕ, ◌<◌, List, length, sym, ap, ◌∙◌, subst}
use Rattle.pfc_tree.specs.trees.Parts.{ProgramTree}
use Rattle.pfc_types.specs.Blocks.{sub_at}
use Rattle.pfc_types.specs.declared.heads.Formal.{Formal}
use Rattle.pfc_types.specs.declared.heads.SubHead.{SubHead}
use Rattle.pfc_types.specs.rules.Routines.{is_function_sort}
use Rattle.pfc_semantics.specs.Configurations.{Config}
use Rattle.pfc_semantics.specs.Programs.{Block, Program, block_at, block_number, program_of}
use Rattle.pfc_semantics.specs.Remainders.{Context, Remainder, Argument, Action, calls, to_module}
use Rattle.pfc_machines.specs.declared.machine.Machine.{Machine}
use Rattle.pfc_standing_code.specs.Settings.{of_own, site_of, IsBeside}
use Rattle.pfc_standing_code.specs.Typed.{FromOutside, IsOfSub}
use Rattle.pfc_callee_laws.specs.Callees.{IsCalledFrom}
use Rattle.pfc_callee_laws.proofs.Calls.{called_at}
use Rattle.pfc_callee_laws.proofs.Modules.{called_of_module}
use Rattle.pfc_representation.specs.Levels.{Facts, LivingLevel, IsProgram}
use Rattle.pfc_representation.specs.Acting.{IsActing, HasArrived}
use Rattle.pfc_representation.specs.Actions.{AreKept}
use Rattle.pfc_kept_calls.proofs.Callable.{body_of, counted}
use Rattle.pfc_kept_modules.specs.Exported.{IsExported}
use Rattle.pfc_kept_modules.specs.Groups.{MayEnter, IsModuleEntry}
use Rattle.pfc_kept_modules.proofs.Exports.{same_head, exported_sub}
use Rattle.pfc_kept_modules.proofs.Entering.{modules_kept}

module _ (facts : Facts) (m : Machine) (c : Config) (p : ℕ) (level : LivingLevel) (action : Action) (acting : IsActing facts m c p level)
    (arrived : HasArrived facts m c p level action) (own : level.setting.trial ≡ of_own) (x : Context) (b : Block) (n scope : ℕ) (formals : List Formal)
    (beside : IsBeside level.setting level.setting.block b)
    (sub : IsOfSub (site_of level.setting b x) scope formals (FromOutside level.setting.program.state.blocks n)) where
  exported : (t : ProgramTree) (i : ℕ) → level.setting.program ≡ program_of t → IsProgram t → i < length (program_of t).state.blocks.subs
      → scope ≡ (sub_at (program_of t).state.blocks i).scope
      → IsExported t n (block_number (program_of t) scope) (block_at (program_of t) scope) (sub_at (program_of t).state.blocks i).formals
  exported t i same is among scope_is =
      let called : IsCalledFrom t b scope formals (FromOutside (program_of t).state.blocks n) =
      subst (λ (z : Program). IsCalledFrom t b scope formals (FromOutside z.state.blocks n)) same
      (called_at t is.lawful is.unbroken (site_of level.setting b x) scope formals (FromOutside level.setting.program.state.blocks n) same
      (body_of facts m c p level action acting arrived own t same b beside) sub) in
      let (low, outer, plain) = called.as_asked in
      exported_sub t is i among n scope scope_is
      (ap (λ (h : SubHead). is_function_sort h.sort) (sym (same_head t is i among b scope formals (FromOutside (program_of t).state.blocks n) scope_is called))
      ∙ plain)
      (called_of_module t is.lawful is.unbroken b n scope formals called)

  may_enter : MayEnter level n scope
  may_enter =
      record {
        exported = exported;
        counted = λ t b' same is beside'. counted facts m c p level action acting arrived own t same is b'
            (body_of facts m c p level action acting arrived own t same b' beside');
      }

-- ## Calls

pub module_may_be_entered : (facts : Facts) (m : Machine) (c : Config) (p : ℕ) (level : LivingLevel) (x : Context) (n scope : ℕ) (k : Remainder)
    (given : List Argument) → IsActing facts m c p level → HasArrived facts m c p level (calls x (to_module n scope k) given) → MayEnter level n scope
module_may_be_entered facts m c p level x n scope k given acting arrived =
    let (b, checked, (formals, below, held, (alone, (sub, takes, there, behind)), lends)) = arrived.arrived in
    may_enter facts m c p level (calls x (to_module n scope k) given) acting arrived alone.0 x b n scope formals checked.beside sub

pub module_entries_kept : AreKept IsModuleEntry
module_entries_kept facts m c p choice level (calls x (to_module n scope k) given) is acting arrived chosen =
    modules_kept facts m c p choice level (calls x (to_module n scope k) given)
    (module_may_be_entered facts m c p level x n scope k given acting arrived) acting arrived chosen
module_entries_kept facts m c p choice level n is acting arrived chosen = absurd is
