-- Wherever the code of a checked program requeues, what is told of requeues is so.
use Rattle.std.proofs.Common.{◌≡◌, ℕ, ℤ, zero, suc, true, false, List, [], ◌∷◌, slice_get, Some, sym, ap, ◌∙◌, subst}
use Rattle.pfc_tree.specs.trees.Parts.{ProgramTree}
use Rattle.pfc_types.specs.Blocks.{sub_at}
use Rattle.pfc_types.specs.declared.heads.Formal.{Formal}
use Rattle.pfc_types.specs.declared.heads.SubHead.{SubHead}
use Rattle.pfc_types.specs.rules.Routines.{is_function_sort}
use Rattle.pfc_world.specs.Tables.{Table}
use Rattle.pfc_semantics.specs.Layouts.{sub_with}
use Rattle.pfc_semantics.specs.Store.{Store}
use Rattle.pfc_semantics.specs.Configurations.{Activation, Config, activity_of}
use Rattle.pfc_semantics.specs.Programs.{Block, Program, block_at, program_of, layout_cells}
use Rattle.pfc_semantics.specs.Remainders.{Context, Argument, Action, calls, to_requeue}
use Rattle.pfc_translation.specs.Images.{end_of}
use Rattle.pfc_stacks.specs.Refs.{word_of}
use Rattle.pfc_stacks.specs.Stacks.{stack_of, last_activation}
use Rattle.pfc_cells.specs.Homes.{Homes}
use Rattle.pfc_cells.specs.Memory.{Entry, Entries}
use Rattle.pfc_machines.specs.declared.machine.Machine.{Machine}
use Rattle.pfc_machines.specs.Communications.{Communicating}
use Rattle.pfc_machines.specs.Descriptors.{descriptor_of}
use Rattle.pfc_standing_code.specs.Settings.{of_own, site_of, IsBeside, same_block, both_mains}
use Rattle.pfc_standing_code.specs.Typed.{ByRequeue, IsOfSub}
use Rattle.pfc_typed_programs.specs.Bodies.{of_block, of_main}
use Rattle.pfc_nesting_laws.proofs.Programs.{own_not_mains}
use Rattle.pfc_callee_laws.specs.Callees.{IsCalledFrom, IsRequeuedFrom}
use Rattle.pfc_callee_laws.proofs.Mains.{of_mains}
use Rattle.pfc_callee_laws.proofs.Calls.{called_at}
use Rattle.pfc_callee_laws.proofs.Requeues.{requeued_from}
use Rattle.pfc_representation.specs.Levels.{Facts, program_in, LivingLevel, IsProgram, block_of}
use Rattle.pfc_representation.specs.Callers.{AreCallers}
use Rattle.pfc_representation.specs.Acting.{IsActing, HasArrived}
use Rattle.pfc_representation.specs.Actions.{IsKept}
use Rattle.pfc_kept_own_actions.proofs.Arrived.{has_setting}
use Rattle.pfc_kept_calls.proofs.Callable.{at_hand, mains_at, body_of, counted}
use Rattle.pfc_kept_modules.specs.Requeued.{MayRequeue, AsksRequeue}
use Rattle.pfc_kept_modules.proofs.Requeueing.{requeued_kept}
use Rattle.pfc_kept_modules.proofs.Exports.{procedure_end, same_head, exported_sub}

module _ (facts : Facts) (m : Machine) (c : Config) (p : ℕ) (level : LivingLevel) (action : Action) (acting : IsActing facts m c p level)
    (arrived : HasArrived facts m c p level action) (own : level.setting.trial ≡ of_own) (x : Context) (b : Block) (scope : ℕ) (formals : List Formal)
    (beside : IsBeside level.setting level.setting.block b)
    (sub : IsOfSub (site_of level.setting b x) scope formals (ByRequeue b)) where
  abbrev b0 : Block
  b0 = level.setting.block

  called : (t : ProgramTree) → level.setting.program ≡ program_of t → IsProgram t → IsCalledFrom t b scope formals (ByRequeue b)
  called t same is =
      called_at t is.lawful is.unbroken (site_of level.setting b x) scope formals (ByRequeue b) same
      (body_of facts m c p level action acting arrived own t same b beside) sub

  -- it stands in the block at hand
  from_here : (t : ProgramTree) → level.setting.program ≡ program_of t → IsProgram t → IsRequeuedFrom t b0 (block_at (program_of t) scope)
  from_here t same is =
      by b beside
      (requeued_from t is.lawful is.unbroken b scope formals (body_of facts m c p level action acting arrived own t same b beside) (called t same is))
    where
      by : (d : Block) → IsBeside level.setting b0 d → IsRequeuedFrom t d (block_at (program_of t) scope)
          → IsRequeuedFrom t b0 (block_at (program_of t) scope)
      by d same_block r = r
      by d (both_mains _ one two) r =
          (let is_main = mains_at facts m c p level action acting arrived own t same d two in
          let both : true ≡ false = sym (of_mains t is.lawful is_main.0 d is_main.1).own ∙ own_not_mains t is.lawful r.k d r.there in absurd (cc))

  abbrev its : IsRequeuedFrom facts.tree b0 (block_at (program_in facts) scope)
  its = from_here facts.tree (has_setting facts m c p level acting).image.program acting.alike.program

  can_requeue : level.setting.last ≡ end_of (sub_with level.setting.program.state.blocks.subs (block_of level).scope) → MayRequeue level scope
  can_requeue ends =
      record {
        last = ends ∙ ap (λ (z : Program). end_of (sub_with z.state.blocks.subs (block_of level).scope)) (has_setting facts m c p level acting).image.program
            ∙ ap (λ (d : Block). end_of (sub_with (program_in facts).state.blocks.subs d.scope)) (at_hand facts m c p level action acting arrived own)
            ∙ ap end_of its.headed ∙ procedure_end its.head (ap is_function_sort its.sort);
        own = its.own;
        guarded = its.guarded;
        apart = λ t i same is at.
            (let r = from_here t same is in
            let both : true ≡ false = sym (of_mains t is.lawful i b0 at).own ∙ own_not_mains t is.lawful r.k b0 r.there in absurd (cc));
        exported = λ t i same is among scope_is.
            (let r = from_here t same is in
            let from = called t same is in
            let plain : is_function_sort (sub_at (program_of t).state.blocks i).sort ≡ false =
            ap (λ (h : SubHead). is_function_sort h.sort) (sym (same_head t is i among b scope formals (ByRequeue b) scope_is from))
            ∙ ap is_function_sort from.as_asked.0 in
            (r.to.n, exported_sub t is i among r.to.n scope scope_is plain r.to.of_module, r.inside));
        guard = λ t same is. (let r = from_here t same is in (r.to.guard, r.to.guarded));
        counted = cells;
        alone = its.alone;
      }
    where
      one : (x y : Block) → Some x ≡ Some y → x ≡ y
      one x y e = cc

      cells : (t : ProgramTree) (k : ℕ) (d : Block) → level.setting.program ≡ program_of t → IsProgram t
          → slice_get ((program_of t).main ∷ (program_of t).blocks) k ≡ Some d → d.cells ≡ layout_cells (program_of t).state.forms d.layout
      cells t zero d same is e =
          subst (λ (z : Block). z.cells ≡ layout_cells (program_of t).state.forms z.layout) (one (program_of t).main d e)
          (counted facts m c p level action acting arrived own t same is (program_of t).main of_main)
      cells t (suc k) d same is e = counted facts m c p level action acting arrived own t same is d (of_block k d e)

-- ## How the body of a level ends

ends_as : (facts : Facts) (homes : Homes) (entries : Entries) (store : Store) (table : Table) (p room : ℕ) (level : LivingLevel) (w : ℤ)
    (latest : Communicating) (xs : List Activation) (es : List Entry) → AreCallers facts homes entries store table p room level w latest xs es
    → level.setting.last ≡ end_of (sub_with level.setting.program.state.blocks.subs (block_of level).scope)
ends_as facts homes entries store table p room level w latest [] es is = absurd is
ends_as facts homes entries store table p room level w latest (a ∷ xs) [] is = absurd is
ends_as facts homes entries store table p room level w latest (a ∷ []) (e ∷ []) is = is.stands.of_block.last
ends_as facts homes entries store table p room level w latest (a ∷ []) (e ∷ f ∷ es) is = absurd is
ends_as facts homes entries store table p room level w latest (a ∷ b ∷ xs) (e ∷ []) is = absurd is
ends_as facts homes entries store table p room level w latest (a ∷ b ∷ xs) (e ∷ f ∷ es) (caller, v, earlier, called, within, others) =
    called.stands.of_block.last

pub requeue_can_be : (facts : Facts) (m : Machine) (c : Config) (p : ℕ) (level : LivingLevel) (x : Context) (scope : ℕ) (given : List Argument)
    → IsActing facts m c p level → HasArrived facts m c p level (calls x (to_requeue scope) given) → MayRequeue level scope
requeue_can_be facts m c p level x scope given acting arrived =
    let (b, checked, (formals, below, held, (alone, (over, sub, takes, there)), lent)) = arrived.arrived in
    can_requeue facts m c p level (calls x (to_requeue scope) given) acting arrived alone.0 x b scope formals checked.beside sub
    (ends_as facts acting.homes acting.entries c.store c.table p (stack_of m.stacks p).room level (word_of (last_activation m.stacks p))
    (descriptor_of m.descriptors p).communications (activity_of (program_in facts) c p).activations (acting.entries p) acting.actor.stands.callers)

pub every_requeue_kept : (facts : Facts) (m : Machine) (c : Config) (p choice : ℕ) (level : LivingLevel) (n : Action) → AsksRequeue n
    → IsActing facts m c p level → HasArrived facts m c p level n → IsKept facts m c p choice n
every_requeue_kept facts m c p choice level (calls x (to_requeue scope) given) is acting arrived =
    requeued_kept facts m c p choice level (calls x (to_requeue scope) given) (requeue_can_be facts m c p level x scope given acting arrived) acting arrived
every_requeue_kept facts m c p choice level n is acting arrived = absurd is
