-- Who requeues has entered something in its innermost activation.
use Rattle.std.proofs.Common.{◌≡◌, ◌≢◌, ℕ, ℤ, List, [], ◌∷◌, Some, sym, ap, ◌∙◌, subst}
use Rattle.pfc_world.specs.Tables.{Table}
use Rattle.pfc_semantics.specs.Store.{Store}
use Rattle.pfc_semantics.specs.Programs.{Guard}
use Rattle.pfc_semantics.specs.Remainders.{Action, to_requeue, calls}
use Rattle.pfc_semantics.specs.Configurations.{plain, of_resource, Mark, Activation, Config, activity_of}
use Rattle.pfc_semantics.specs.Steps.{next_of}
use Rattle.pfc_stacks.specs.Refs.{word_of}
use Rattle.pfc_stacks.specs.Stacks.{stack_of, last_activation}
use Rattle.pfc_cells.specs.Homes.{Homes}
use Rattle.pfc_cells.specs.Memory.{Entry, Entries}
use Rattle.pfc_machines.specs.declared.machine.Machine.{Machine}
use Rattle.pfc_machines.specs.Communications.{Communicating}
use Rattle.pfc_machines.specs.Descriptors.{descriptor_of}
use Rattle.pfc_standing_code.specs.Settings.{Trial}
use Rattle.pfc_standing_code.specs.Performs.{own_block}
use Rattle.pfc_representation.specs.Levels.{Facts, program_in, LivingLevel, block_of}
use Rattle.pfc_representation.specs.Callers.{AreCallers}
use Rattle.pfc_representation.specs.Acting.{IsActing, HasArrived}
use Rattle.pfc_kept_modules.proofs.Requeueable.{requeue_can_be}
use Rattle.pfc_accept_laws.specs.Displays.{RequeuesInside}

not_plain : (mark : Mark) (r : ℕ) → mark ≡ of_resource r → mark ≢ plain
not_plain mark r is same = (let both : of_resource r ≡ plain = sym is ∙ same in cc)

first_of : (a b : Activation) (xs ys : List Activation) → a ∷ xs ≡ b ∷ ys → a ≡ b
first_of a b xs ys same = cc

-- the innermost activation of a level whose block has a guard has entered its resource
guarded_inside : (facts : Facts) (homes : Homes) (entries : Entries) (store : Store) (table : Table) (p room : ℕ) (level : LivingLevel) (w : ℤ)
    (latest : Communicating) (xs : List Activation) (es : List Entry) → AreCallers facts homes entries store table p room level w latest xs es
    → (guard : Guard) → (block_of level).guard ≡ Some guard → (a : Activation) (below : List Activation) → xs ≡ a ∷ below → a.mark ≢ plain
guarded_inside facts homes entries store table p room level w latest [] es is guard there a below same = absurd is
guarded_inside facts homes entries store table p room level w latest (x ∷ xs) [] is guard there a below same = absurd is
guarded_inside facts homes entries store table p room level w latest (x ∷ []) (e ∷ []) is guard there a below same =
    not_plain a.mark _ (ap (λ (y : Activation). y.mark) (sym (first_of x a [] below same)) ∙ is.stands.guarded guard there)
guarded_inside facts homes entries store table p room level w latest (x ∷ []) (e ∷ f ∷ es) is guard there a below same = absurd is
guarded_inside facts homes entries store table p room level w latest (x ∷ y ∷ xs) (e ∷ []) is guard there a below same = absurd is
guarded_inside facts homes entries store table p room level w latest (x ∷ y ∷ xs) (e ∷ f ∷ es) (outer, v, earlier, called, within, others) guard there a
    below same =
    not_plain a.mark _ (ap (λ (z : Activation). z.mark) (sym (first_of x a (y ∷ xs) below same)) ∙ called.stands.guarded guard there)

pub requeues_inside : (facts : Facts) (m : Machine) (c : Config) (p : ℕ) (level : LivingLevel) → IsActing facts m c p level
    → HasArrived facts m c p level (next_of (program_in facts) c p) → RequeuesInside (program_in facts) c p
requeues_inside facts m c p level acting arrived x scope given a below next activations =
    let at : HasArrived facts m c p level (calls x (to_requeue scope) given) = subst (λ (n : Action). HasArrived facts m c p level n) next arrived in
    let (b, checked, by) = at.arrived in
    let (alone, rest) = by.3 in
    let may = requeue_can_be facts m c p level x scope given acting at in
    guarded_inside facts acting.homes acting.entries c.store c.table p (stack_of m.stacks p).room level (word_of (last_activation m.stacks p))
    (descriptor_of m.descriptors p).communications (activity_of (program_in facts) c p).activations (acting.entries p) acting.actor.stands.callers may.own
    (ap (λ (y : Trial). (own_block y level.setting.block).guard) alone.0 ∙ may.guarded) a below activations
