-- Main's own body and the initialising bodies.
use Rattle.std.proofs.Common.{◌≡◌, ℕ, zero, suc, ◌+◌, ◌==◌, ◌&&◌, ◌||◌, nat_lt, if◌then◌else◌, Bool, true, false, List, [], ◌∷◌, Option, Some, None, refl, sym}
use Rattle.std.proofs.Common.{ap, ◌∙◌, subst, arith}
use Rattle.std.specs.Prelude.{nat_le}
use Rattle.std.specs.List.{All, slice_get}
use Rattle.std.proofs.lemmas.List.Elements.{All-nil, All-cons, All-append}
use Rattle.pfc_tree.specs.trees.Stmts.{BodyTree, body}
use Rattle.pfc_tree.specs.trees.Parts.{PartTree, PartTrees, ModuleTree, ProgramTree, consts, types, vars, sub_part, monitor, resource, process_part, no_parts}
use Rattle.pfc_tree.specs.trees.Parts.{more_parts, the_module}
use Rattle.pfc_tree.specs.forget.Parts.{forget_program}
use Rattle.pfc_tree.specs.lawful.Parts.{IsLawful}
use Rattle.pfc_types.specs.Scopes.{Level, scope_at}
use Rattle.pfc_types.specs.Blocks.{Blocks, State}
use Rattle.pfc_types.specs.rules.Expressions.{Env}
use Rattle.pfc_types.specs.rules.Bodies.{passed_part, part_scopes, parts_scopes}
use Rattle.pfc_types.specs.rules.Whole.{finished}
use Rattle.pfc_semantics.specs.Layouts.{Layout}
use Rattle.pfc_semantics.specs.Programs.{Block, Guard, block_of, env_of_main, init_block, module_inits, part_inits, parts_inits, layout_cells, program_of}
use Rattle.pfc_translation.specs.Sites.{is_mains, linked, is_accept}
use Rattle.pfc_image_laws.specs.Levels.{sees}
use Rattle.pfc_image_cells.proofs.Trees.{same_number, equal_number, IsInitial, initial_placed, main_cells_are}
use Rattle.pfc_call_laws.proofs.Places.{or_left}
use Rattle.pfc_typed_programs.proofs.Blocks.{each_of}
use Rattle.pfc_nesting_laws.proofs.Programs.{main_alone, main_has_none}
use Rattle.pfc_callee_laws.specs.Callees.{IsMainsBody}

one_block : (x y : Block) → Some x ≡ Some y → x ≡ y
one_block x y e = cc

-- ## Initialising bodies

-- it has no accepts, and the cells of its own layout, and is no guarded procedure's
abbrev IsSmall : State → Block → Type 0
IsSmall s b = (b.accepts ≡ 0) × (b.cells ≡ layout_cells s.forms b.layout) × (b.env.around.guarded ≡ false)

module _ (s : State) where
  init_small : (scope : ℕ) (view : List Level) (next : ℕ) (b : Option BodyTree) → All (IsSmall s) (init_block s scope view next b)
  init_small scope view next None = All-nil (IsSmall s)
  init_small scope view next (Some (body ss first last)) = All-cons (IsSmall s) _ [] (refl, refl, refl) (All-nil (IsSmall s))

  module_small : (n next : ℕ) (m : ModuleTree) → All (IsSmall s) (module_inits s n next m)
  module_small n next (the_module x exports ps b last p) = init_small next _ (next + 1 + parts_scopes ps) b

  part_small : (n next : ℕ) (q : PartTree) → All (IsSmall s) (part_inits s n next q)
  part_small n next (consts items) = All-nil (IsSmall s)
  part_small n next (types items) = All-nil (IsSmall s)
  part_small n next (vars vs) = All-nil (IsSmall s)
  part_small n next (sub_part b) = All-nil (IsSmall s)
  part_small n next (monitor m) = module_small n next m
  part_small n next (resource m) = module_small n next m
  part_small n next (process_part p) = All-nil (IsSmall s)

  parts_small : (n next : ℕ) (qs : PartTrees) → All (IsSmall s) (parts_inits s n next qs)
  parts_small n next no_parts = All-nil (IsSmall s)
  parts_small n next (more_parts q qs) =
      let further = passed_part (scope_at s.blocks.scopes 0) n q in
      All-append (IsSmall s) (part_inits s n next q) (parts_inits s further (next + part_scopes q) qs) (part_small n next q)
      (parts_small further (next + part_scopes q) qs)

no_accept_by : (b : Block) → b.accepts ≡ 0 → (i : ℕ) → is_accept b i ≡ false
no_accept_by b e i = ap (λ (n : ℕ). nat_le b.next i && nat_lt i (b.next + n)) e ∙ by (nat_le b.next i && nat_lt i (b.next + 0)) refl
  where
    by : (r : Bool) → (nat_le b.next i && nat_lt i (b.next + 0)) ≡ r → r ≡ false
    by true e = absurd (grind (arith, e))
    by false e = refl

-- nothing is around a body that sees main's scopes alone
nothing_linked : (blocks : Blocks) (view : List Level) → ((i : ℕ) → sees view i ≡ true → is_mains blocks i ≡ true) → linked blocks view ≡ []
nothing_linked blocks [] mains = refl
nothing_linked blocks (l ∷ view) mains =
    ap (λ (r : Bool). if r then [] else l.scope ∷ linked blocks view)
    (mains l.scope (or_left (l.scope == l.scope) (sees view l.scope) (same_number l.scope)))

-- ## Main's own

main_env_is : (scope outer : ℕ) (env : Env) (next : ℕ) (b : BodyTree) (layout : Layout) (accepts : ℕ) (guard : Option Guard)
    → (block_of scope outer env next b layout accepts guard).env ≡ env
main_env_is scope outer env next (body ss from to) layout accepts guard = refl

main_scope_is : (scope outer : ℕ) (env : Env) (next : ℕ) (b : BodyTree) (layout : Layout) (accepts : ℕ) (guard : Option Guard)
    → (block_of scope outer env next b layout accepts guard).scope ≡ scope
main_scope_is scope outer env next (body ss from to) layout accepts guard = refl

pub main_scope : (t : ProgramTree) → (program_of t).main.scope ≡ 0
main_scope t = main_scope_is 0 _ _ _ t.body _ _ _

main_sees : (t : ProgramTree) (i : ℕ) → sees (program_of t).main.env.view i ≡ true → is_mains (program_of t).state.blocks i ≡ true
main_sees t i h =
    by (0 == i) refl
    (subst (λ (e : Env). sees e.view i ≡ true) (main_env_is 0 0 (env_of_main (finished t)) (1 + parts_scopes t.parts) t.body _ 0 None) h)
  where
    by : (r : Bool) → (0 == i) ≡ r → (r || false) ≡ true → is_mains (program_of t).state.blocks i ≡ true
    by true e h = subst (λ (n : ℕ). is_mains (program_of t).state.blocks n ≡ true) (equal_number 0 i e) refl
    by false e h = absurd (cc)

pub of_mains : (t : ProgramTree) → IsLawful (forget_program t) → (i : ℕ) (b : Block)
    → slice_get ((program_of t).main ∷ (program_of t).modules) i ≡ Some b → IsMainsBody t b
of_mains t lawful zero b e =
    subst (IsMainsBody t) (one_block (program_of t).main b e) (record {
      own = subst (λ (i : ℕ). is_mains (program_of t).state.blocks i ≡ true) (sym (main_scope t)) refl;
      mains = main_sees t;
      alone = main_alone t lawful;
      unguarded = ap (λ (e : Env). e.around.guarded) (main_env_is 0 0 (env_of_main (finished t)) (1 + parts_scopes t.parts) t.body _ 0 None);
      no_accept = main_has_none t lawful;
      cells = main_cells_are t;
    })
of_mains t lawful (suc i) b e =
    let small = each_of (IsSmall (finished t)) (program_of t).modules i b (parts_small (finished t) 0 1 t.parts) e in
    let placed = each_of (IsInitial (program_of t)) (program_of t).modules i b (initial_placed t lawful) e in
    let mains = placed.2 in
    record {
      own = placed.1;
      mains = mains;
      alone = nothing_linked (program_of t).state.blocks b.env.view mains;
      unguarded = small.2;
      no_accept = no_accept_by b small.0;
      cells = small.1;
    }
