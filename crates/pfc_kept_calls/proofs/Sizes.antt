-- Sizes that a call asks for: the arguments are there, and both sides have the same limit for the cells of activations.
use Rattle.std.proofs.Common.{◌≡◌, ℕ, ◌+◌, ◌-◌, ◌*◌, ◌^◌, ◌<◌, ◌≤◌, ℤ, pos, List, ◌∷◌, length, take, drop}
use Rattle.std.proofs.Common.{slice_get, Option, Some, replicate, length-append, length-drop, refl, sym, ap, ap₂, ◌∙◌, subst}
use Rattle.std.proofs.Common.{arith}
use Rattle.std.specs.Prelude.{nat_le, min}
use Rattle.std.proofs.lemmas.List.{length-take, length-reverse, length-replicate}
use Rattle.std.proofs.lemmas.Option.{slice_get_within}
use Rattle.pfc_types.specs.declared.heads.Formal.{Formal}
use Rattle.pfc_code.specs.declared.images.Block.{Block as CodeBlock}
use Rattle.pfc_code.specs.Images.{PlainImage}
use Rattle.pfc_semantics.specs.Layouts.{Layout}
use Rattle.pfc_semantics.specs.Programs.{Block, layout_cells}
use Rattle.pfc_semantics.specs.Remainders.{Context, Argument}
use Rattle.pfc_semantics.specs.Configurations.{Config, activity_of, all_passed}
use Rattle.pfc_semantics.specs.Calls.{cells_below, cells_above, most_cells, new_values}
use Rattle.pfc_translation.specs.Images.{image_of}
use Rattle.pfc_stacks.specs.Stacks.{stack_of}
use Rattle.pfc_stacks.specs.Activations.{has_place, size_of, block_cells, arguments, params_of}
use Rattle.pfc_cells.specs.Memory.{Entry, AreCells, ProcessIs}
use Rattle.pfc_cells.proofs.Blocks.{block_length}
use Rattle.pfc_machines.specs.declared.machine.Machine.{Machine}
use Rattle.pfc_machines.specs.Descriptors.{descriptor_of}
use Rattle.pfc_call_actions.specs.Calls.{CanCall}
use Rattle.pfc_standing_code.specs.Settings.{of_own, site_of, IsBeside}
use Rattle.pfc_standing_code.specs.Words.{AreHeld, AreKnown}
use Rattle.pfc_standing_images.specs.Images.{IsOfImage}
use Rattle.pfc_standing_images.proofs.Wholes.{block_stands}
use Rattle.pfc_call_laws.specs.Blocks.{HasFirstValues, Takes}
use Rattle.pfc_call_laws.proofs.Passing.{filled, left}
use Rattle.pfc_type_laws.proofs.WalkBlocks.{types_built}
use Rattle.pfc_type_laws.proofs.SoundTables.{built_counted}
use Rattle.pfc_types.specs.rules.Whole.{types_of}
use Rattle.pfc_call_laws.proofs.FirstValues.{are_first}
use Rattle.pfc_call_laws.proofs.Layouts.{layout_joined}
use Rattle.pfc_representation.specs.Levels.{Facts, program_in, LivingLevel, block_of}
use Rattle.pfc_representation.specs.Acting.{IsActing}
use Rattle.pfc_kept_own_actions.proofs.Arrived.{has_setting}
use Rattle.pfc_kept_calls.proofs.Tops.{cells_of_all}
use Rattle.pfc_kept_calls.proofs.Caller.{w, outer, hold, top, hand, full_cells}

module _ (facts : Facts) (m : Machine) (c : Config) (p : ℕ) (level : LivingLevel) (acting : IsActing facts m c p level) where
  -- the activations of a process are few
  pub few_activations : (descriptor_of m.descriptors p).activations + 1 < 2 ^ 32
  few_activations =
      let is = top facts m c p level acting in
      let all = cells_of_all (program_in facts) acting.homes c.store p (is.entry ∷ is.below) (stack_of m.stacks p).cells
      (subst (λ (es : List Entry). ProcessIs (program_in facts) acting.homes c.store p es (stack_of m.stacks p).cells) is.entries
      (acting.alike.holds.memory p)) in
      let few : length (stack_of m.stacks p).cells < 2 ^ 32 = acting.alike.holds.few.cells p in
      let count = acting.actor.stands.count in
      let many : length (activity_of (program_in facts) c p).activations ≡ length (is.entry ∷ is.below) = is.count ∙ ap
      (λ (es : List Entry). length es) is.entries in
      bound (descriptor_of m.descriptors p).activations (length (activity_of (program_in facts) c p).activations) (length (is.entry ∷ is.below)) (length
      (stack_of m.stacks p).cells) count many all few
    where
      bound : (x y n cells : ℕ) → x ≡ y → y ≡ n → 8 * n ≤ cells → cells < 2 ^ 32 → x + 1 < 2 ^ 32
      bound x y n cells h k l few = omega (arith, h, k, l, few)

  abbrev image : PlainImage
  image = image_of facts.tree

  outer_image : IsOfImage facts.tree (outer facts m c p level acting)
  outer_image =
      let has = (has_setting facts m c p level acting).image in
      record { program = refl; code = has.code; lines = has.lines; texts = has.texts; arms = has.arms }

  pub first_values : HasFirstValues (program_in facts)
  first_values = are_first (program_in facts) (types_built facts.tree) (built_counted (types_of facts.tree) (types_built facts.tree)) refl

  module _ (own : level.setting.trial ≡ of_own) (b callee : Block) (k : ℕ) (code : CodeBlock) (formals : List Formal) (x : Context) (given : List Argument)
      (below : List ℤ)
      (beside : IsBeside level.setting level.setting.block b) (known : AreKnown (program_in facts) b level.setting.accepts x.env)
      (takes : Takes (program_in facts) callee formals code) (there : slice_get (program_in facts).blocks k ≡ Some callee)
      (is : slice_get (image_of facts.tree).blocks k ≡ Some code)
      (held : AreHeld level.setting.view (site_of (outer facts m c p level acting) b x) formals given (stack_of m.stacks p).operands below)
      (counted : (block_of level).cells ≡ layout_cells (program_in facts).state.forms (block_of level).layout) where
    abbrev ops : List ℤ
    ops = (stack_of m.stacks p).operands

    cells_hold : AreCells (program_in facts) acting.homes callee.layout (new_values (program_in facts) callee (all_passed (program_in facts) c p given))
        (block_cells (arguments code ops) (code.cells - code.params))
    cells_hold = filled (outer facts m c p level acting) acting.homes acting.entries c m.stacks b (w facts m c p level acting)
        (hand facts m c p level acting own b beside) p x (hold facts m c p level acting) refl known
        first_values callee code formals takes given ops below held

    pub held_below : drop code.params ops ≡ below
    held_below = left (outer facts m c p level acting) acting.homes acting.entries c m.stacks b (w facts m c p level acting)
        (hand facts m c p level acting own b beside) p x (hold facts m c p level acting) refl known
        first_values callee code formals takes given ops below held

    pub params_within : code.params ≤ code.cells
    params_within =
        let whole : code.cells ≡ layout_cells (program_in facts).state.forms takes.parameters + layout_cells
        (program_in facts).state.forms takes.others =
        takes.cells ∙ ap (λ (xs : Layout). layout_cells (program_in facts).state.forms xs) takes.layout ∙ layout_joined
        (program_in facts) takes.parameters takes.others in
        let some = takes.params in
        omega (arith, whole, some)

    pub arguments_there : code.params ≤ length ops
    arguments_there =
        let all : length (block_cells (arguments code ops) (code.cells - code.params)) ≡ code.cells =
        block_length (program_in facts) acting.alike.program.types.counted acting.homes callee.layout (new_values (program_in facts) callee (all_passed
        (program_in facts) c p given))
        (block_cells (arguments code ops) (code.cells - code.params)) cells_hold ∙ sym takes.cells in
        let parts : length (block_cells (arguments code ops) (code.cells - code.params)) ≡ min code.params (length ops) + (code.cells - code.params) =
        length-append (arguments code ops) (replicate (code.cells - code.params) (pos 0))
        ∙ ap₂ (λ i j. i + j) (length-reverse (take code.params ops) ∙ length-take code.params ops) (length-replicate (code.cells - code.params) (pos 0)) in
        let within = params_within in
        omega (arith, all, parts, within)

    pub short_below : length below ≤ length ops
    short_below = subst (λ (xs : List ℤ). length xs ≤ length ops) held_below (let e = length-drop code.params ops in omega (arith, e))

    -- both sides have the same limit
    pub same_limit : nat_le (cells_above (activity_of (program_in facts) c p).activations callee) (most_cells p) ≡ has_place p (length
        (stack_of m.stacks p).cells) code
    same_limit =
        ap (λ n. nat_le n (most_cells p))
        (summed (cells_below (activity_of (program_in facts) c p).activations) (length (stack_of m.stacks p).cells) (sym
        (full_cells facts m c p level acting counted)) callee.cells
        (sym (block_stands facts.tree (outer facts m c p level acting) outer_image k callee code there is).cells) params_within)
      where
        summed : (i j : ℕ) → i ≡ j → (n : ℕ) → n ≡ code.cells → code.params ≤ code.cells → i + (n + 8) ≡ j + size_of code
        summed i j h n same within = omega (arith, h, same, within)

    pub can_call : CanCall image.blocks k p m
    can_call = record {
      block = slice_get_within image.blocks k code is;
      arguments = subst (λ (o : Option CodeBlock). params_of o ≤ length ops) (sym is) arguments_there;
      few = few_activations;
    }
