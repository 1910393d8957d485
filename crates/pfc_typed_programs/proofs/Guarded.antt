-- The body of a guarded procedure has its guard and no accepts, and sees its own names, those of its resource and the program's alone, its own first.
use Rattle.std.proofs.Common.{◌≡◌, ℕ, ◌+◌, ◌==◌, ◌||◌, ◌⊎◌, inl, inr, Bool, true, false, is_some, List, [], ◌∷◌, take, drop, None, refl, sym, subst}
use Rattle.std.specs.List.{All}
use Rattle.std.proofs.lemmas.Bool.{or_cases}
use Rattle.std.proofs.lemmas.List.Elements.{All-nil, All-cons, All-append}
use Rattle.pfc_tree.specs.trees.Stmts.{BodyTree, body}
use Rattle.pfc_tree.specs.trees.Parts.{KindTree, PartTree, PartTrees, SubTree, ModuleTree, procedure, function, guarded, consts, types, vars, sub_part, monitor}
use Rattle.pfc_tree.specs.trees.Parts.{resource, process_part, no_parts, more_parts, sub, the_module, process}
use Rattle.pfc_tree.specs.forget.Parts.{forget_kind, forget_part, forget_parts, forget_sub, forget_module}
use Rattle.pfc_tree.specs.lawful.Parts.{Home, of_program, of_resource, of_other, HoldsModules, HoldsGuarded, IsLawfulKind, IsLawfulPart, AreLawfulParts}
use Rattle.pfc_tree.specs.lawful.Parts.{IsLawfulSub, IsLawfulModule}
use Rattle.pfc_types.specs.Scopes.{Level, scope_at, here}
use Rattle.pfc_types.specs.Blocks.{State}
use Rattle.pfc_types.specs.rules.Expressions.{Env}
use Rattle.pfc_types.specs.rules.Statements.{body_scopes, innermost}
use Rattle.pfc_types.specs.rules.Bodies.{env_at, around_process, around_sub, around_guard, passed, passed_part, passed_groups, passed_entries, part_scopes}
use Rattle.pfc_types.specs.rules.Bodies.{parts_scopes, level}
use Rattle.pfc_semantics.specs.Layouts.{Layout, sub_layout_at, process_layout}
use Rattle.pfc_semantics.specs.Programs.{Block, block_of, guard_of, part_blocks, parts_blocks, sub_blocks, module_blocks}
use Rattle.pfc_image_laws.specs.Levels.{sees}
use Rattle.pfc_image_cells.proofs.Trees.{equal_number}

abbrev pub IsOfItsModule : Block → Type 0
IsOfItsModule b =
    b.env.around.guarded ≡ true
    → (is_some b.guard ≡ true) × (b.accepts ≡ 0) × ((j : ℕ) → sees b.env.view j ≡ true → (j ≡ b.scope) ⊎ ((j ≡ b.outer) ⊎ (j ≡ 0)))
    × (innermost b.env.view ≡ b.scope)

-- around a module stands the program
abbrev Inner : Home → List Level → Type 0
Inner h outer = HoldsGuarded h → (j : ℕ) → sees outer j ≡ true → j ≡ 0

in_view : (scope i j : ℕ) (outer : List Level) → ((k : ℕ) → sees outer k ≡ true → k ≡ 0) → (scope == j || (i == j || sees outer j)) ≡ true
    → (j ≡ scope) ⊎ ((j ≡ i) ⊎ (j ≡ 0))
in_view scope i j outer inner seen =
    elim (or_cases (scope == j) (i == j || sees outer j) seen) [
      | inl e ↦ inl (sym (equal_number scope j e))
      | inr rest ↦
          elim (or_cases (i == j) (sees outer j) rest) [
            | inl e ↦ inr (inl (sym (equal_number i j e)))
            | inr e ↦ inr (inr (inner j e))
          ]
    ]

kind_so : (h : Home) (s : State) (scope i : ℕ) (l around : Level) (outer : List Level) (inside : Bool) (inner : Env) (next : ℕ) (b : BodyTree)
    (layout : Layout) (kind : KindTree) → l.scope ≡ scope → around.scope ≡ i → IsLawfulKind h (forget_kind kind) → Inner h outer
    → IsOfItsModule (block_of scope i (env_at s (l ∷ around ∷ outer) (around_sub inside kind)) next b layout 0 (guard_of inner kind))
kind_so h s scope i l around outer inside inner next (body ss from to) layout procedure own there lawful all e = absurd (let both : false ≡ true = e in cc)
kind_so h s scope i l around outer inside inner next (body ss from to) layout (function x p) own there lawful all e =
    absurd (let both : false ≡ true = e in cc)
kind_so h s scope i l around outer inside inner next (body ss from to) layout (guarded w p) own there lawful all e = (
  refl,
  refl,
  λ j seen. subst (λ (k : ℕ). (j ≡ k) ⊎ ((j ≡ i) ⊎ (j ≡ 0))) own (subst (λ (k : ℕ). (j ≡ l.scope) ⊎ ((j ≡ k) ⊎ (j ≡ 0))) there
      (in_view l.scope around.scope j outer (all lawful.0) seen)),
  own,
)

process_so : (scope i : ℕ) (s : State) (view : List Level) (next : ℕ) (b : BodyTree) (layout : Layout) (accepts : ℕ)
    → IsOfItsModule (block_of scope i (env_at s view around_process) next b layout accepts None)
process_so scope i s view next (body ss from to) layout accepts e = absurd (let both : false ≡ true = e in cc)

mutual
  part_so : (h : Home) (s : State) (inside : Bool) (i n : ℕ) (outer : List Level) (next : ℕ) (q : PartTree) → (HoldsModules h → ⊥)
      → IsLawfulPart h (forget_part q) → Inner h outer → All IsOfItsModule (part_blocks s inside i n outer next q)
  part_so h s inside i n outer next (consts items) apart lawful all = All-nil IsOfItsModule
  part_so h s inside i n outer next (types items) apart lawful all = All-nil IsOfItsModule
  part_so h s inside i n outer next (vars vs) apart lawful all = All-nil IsOfItsModule
  part_so h s inside i n outer next (sub_part b) apart lawful all = sub_so h s inside i n outer next b lawful all
  part_so h s inside i n outer next (monitor m) apart lawful all = absurd (apart lawful.0)
  part_so h s inside i n outer next (resource m) apart lawful all = absurd (apart lawful.0)
  part_so h s inside i n outer next (process_part q) apart lawful all = absurd (apart lawful.0)

  parts_so : (h : Home) (s : State) (inside : Bool) (i n : ℕ) (outer : List Level) (next : ℕ) (qs : PartTrees) → (HoldsModules h → ⊥)
      → AreLawfulParts h (forget_parts qs) → Inner h outer → All IsOfItsModule (parts_blocks s inside i n outer next qs)
  parts_so h s inside i n outer next no_parts apart lawful all = All-nil IsOfItsModule
  parts_so h s inside i n outer next (more_parts q qs) apart lawful all =
      let further = passed_part (scope_at s.blocks.scopes i) n q in
      All-append IsOfItsModule (part_blocks s inside i n outer next q) (parts_blocks s inside i further outer (next + part_scopes q) qs)
      (part_so h s inside i n outer next q apart lawful.0 all) (parts_so h s inside i further outer (next + part_scopes q) qs apart lawful.1 all)

  sub_so : (h : Home) (s : State) (inside : Bool) (i n : ℕ) (outer : List Level) (next : ℕ) (b : SubTree) → IsLawfulSub h (forget_sub b) → Inner h outer
      → All IsOfItsModule (sub_blocks s inside i n outer next b)
  sub_so h s inside i n outer next (sub x gs kind ps b p) lawful all =
      let own = scope_at s.blocks.scopes next in
      let count = passed_groups own 0 gs in
      let around = level i (passed (scope_at s.blocks.scopes i) n x) ∷ outer in
      let inner = env_at s (level next count ∷ level i n ∷ outer) (around_guard i) in
      All-append IsOfItsModule (parts_blocks s inside next count around (next + 1) ps) (_ ∷ [])
      (parts_so of_other s inside next count around (next + 1) ps (λ x. x) lawful.2 (λ none. absurd none))
      (All-cons IsOfItsModule _ []
      (kind_so h s next i _ _ outer inside inner (next + 1 + parts_scopes ps) b (sub_layout_at s.blocks next) kind refl refl lawful.1 all)
      (All-nil IsOfItsModule))

-- those of a module
module_so : (h : Home) (s : State) (n next : ℕ) (m : ModuleTree) → (HoldsModules h → ⊥) → IsLawfulModule h (forget_module m)
    → All IsOfItsModule (module_blocks s 0 n [] next m)
module_so h s n next (the_module x exports ps b last p) apart lawful =
    parts_so h s false next 0 (level 0 n ∷ []) (next + 1) ps apart lawful.1 (λ holds j seen. of_program_scope j seen)
  where
    of_program_scope : (j : ℕ) → (0 == j || false) ≡ true → j ≡ 0
    of_program_scope j seen =
        elim (or_cases (0 == j) false seen) [
          | inl e ↦ sym (equal_number 0 j e)
          | inr e ↦ absurd (cc)
        ]

pub program_so : (s : State) (n next : ℕ) (qs : PartTrees) → AreLawfulParts of_program (forget_parts qs)
    → All IsOfItsModule (parts_blocks s false 0 n [] next qs)
program_so s n next no_parts lawful = All-nil IsOfItsModule
program_so s n next (more_parts q qs) lawful =
    let further = passed_part (scope_at s.blocks.scopes 0) n q in
    All-append IsOfItsModule (part_blocks s false 0 n [] next q) (parts_blocks s false 0 further [] (next + part_scopes q) qs) (one q lawful.0)
    (program_so s further (next + part_scopes q) qs lawful.1)
  where
    one : (q : PartTree) → IsLawfulPart of_program (forget_part q) → All IsOfItsModule (part_blocks s false 0 n [] next q)
    one (consts items) lawful = All-nil IsOfItsModule
    one (types items) lawful = All-nil IsOfItsModule
    one (vars vs) lawful = All-nil IsOfItsModule
    one (sub_part b) lawful = sub_so of_program s false 0 n [] next b lawful (λ none. absurd none)
    one (monitor m) lawful = module_so of_other s n next m (λ x. x) lawful.1
    one (resource m) lawful = module_so of_resource s n next m (λ x. x) lawful.1
    one (process_part (process many x gs es ps b p)) lawful =
        let own = scope_at s.blocks.scopes next in
        let count = passed_entries own (passed_groups own 0 gs) es in
        let around = level 0 (passed (scope_at s.blocks.scopes 0) n x) ∷ [] in
        let inner = next + 1 + parts_scopes ps in
        All-append IsOfItsModule (parts_blocks s true next count around (next + 1) ps) (_ ∷ [])
        (parts_so of_other s true next count around (next + 1) ps (λ x. x) lawful.1.2 (λ none. absurd none))
        (All-cons IsOfItsModule _ []
        (process_so next 0 s (here s.blocks.scopes next around) inner b
        (process_layout own (take (body_scopes b) (drop inner s.blocks.scopes))) (body_scopes b))
        (All-nil IsOfItsModule))
