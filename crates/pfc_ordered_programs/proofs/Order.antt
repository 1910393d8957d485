-- What is named in view in a body comes in the order of the parts of the program.
use Rattle.std.proofs.Common.{◌≡◌, ℕ, ◌+◌, ◌≤◌, ◌<◌, ◌⊎◌, inl, inr, Bool, true, false, nat_lt, if◌then◌else◌, List, [], ◌∷◌, length, Some, refl, sym}
use Rattle.std.proofs.Common.{ap, ◌∙◌, subst, arith}
use Rattle.std.proofs.lemmas.Bool.Decides.{nat_tests}
use Rattle.std.specs.List.{AllByRecursion}
use Rattle.pfc_tree.specs.Symbols.{Text}
use Rattle.pfc_tree.specs.trees.Parts.{PartTrees, ProgramTree, no_parts, more_parts}
use Rattle.pfc_tree.specs.forget.Parts.{forget_program}
use Rattle.pfc_tree.specs.lawful.Parts.{IsLawful}
use Rattle.pfc_types.specs.Scopes.{Level, scope_at, meaning_in, found_at, found_in, meaning_of}
use Rattle.pfc_types.specs.Blocks.{State, sub_at, module_at}
use Rattle.pfc_types.specs.declared.heads.SubSort.TheVariants.{Guarded}
use Rattle.pfc_types.specs.declared.scope.Meaning.{Meaning}
use Rattle.pfc_types.specs.declared.scope.Meaning.TheVariants.{Sub, Module}
use Rattle.pfc_types.specs.rules.Expressions.{Env, find}
use Rattle.pfc_types.specs.rules.Bodies.{level, part_scopes, parts_scopes}
use Rattle.pfc_types.specs.rules.Whole.{finished}
use Rattle.pfc_semantics.specs.Objects.{module_number}
use Rattle.pfc_semantics.specs.Programs.{Block, Program, program_of}
use Rattle.pfc_semantics.specs.Configurations.{plain}
use Rattle.pfc_guard_laws.specs.Tops.{Comes, Beside}
use Rattle.pfc_checked_guards.specs.Order.{scope_of_sub, marked, mark_of_module, InOrder}
use Rattle.pfc_declared_order.specs.Parts.{IsSeenAt, IsOfPart}
use Rattle.pfc_checked_order.specs.Order.{start_of, tops_of}
use Rattle.pfc_checked_order.proofs.Starts.{top_start, top_low}
use Rattle.pfc_checked_order.proofs.Names.{found_level, found_further}
use Rattle.pfc_checked_order.proofs.Modules.{mark_found, module_start}
use Rattle.pfc_ordered_programs.proofs.Found.{sub_found}
use Rattle.pfc_ordered_programs.proofs.Modules.{module_range}
use Rattle.pfc_ordered_programs.proofs.Named.{MayName}
use Rattle.pfc_ordered_programs.proofs.Naming.{top, Opens, named_sub, level_sub, level_module}

start_most : (next : ℕ) (qs : PartTrees) (j : ℕ) → start_of next qs j ≤ next + parts_scopes qs
start_most next no_parts j = omega arith
start_most next (more_parts q qs) j = by (nat_lt j (next + part_scopes q)) (start_most (next + part_scopes q) qs j)
  where
    by : (b : Bool) → start_of (next + part_scopes q) qs j ≤ next + part_scopes q + parts_scopes qs
        → (if b then next else start_of (next + part_scopes q) qs j) ≤ next + (part_scopes q + parts_scopes qs)
    by true rest = omega arith
    by false rest = omega (arith, rest)

-- all levels
any_level : (view : List Level) → AllByRecursion (λ (l : Level). Unit {0}) view
any_level [] = tt
any_level (l ∷ view) = (tt, any_level view)

module _ (t : ProgramTree) (lawful : IsLawful (forget_program t)) where
  abbrev fin : State
  fin = finished t

  abbrev g : Program
  g = program_of t

  top_most : (j : ℕ) → 1 ≤ j → top t j ≤ 1 + parts_scopes t.parts
  top_most j some = (let same = top_start t.parts j some in let most = start_most 1 t.parts j in omega (arith, same, most))

  -- ## Calls

  sub_comes : (n j : ℕ) → n < length fin.blocks.subs → top t (sub_at fin.blocks n).scope ≤ top t j
      → Comes (Some (tops_of t)) plain (scope_of_sub g fin.blocks n) j
  sub_comes n j low before = (tt, subst (λ (i : ℕ). top t i ≤ top t j) (sym (sub_found t n low)) before)

  marked_comes : (r : Bool) (m i j : ℕ) → (tops_of t).of_scope i ≡ (tops_of t).of_mark (marked r m) → (tops_of t).of_scope i < (tops_of t).of_scope j
      → Comes (Some (tops_of t)) (marked r m) i j
  marked_comes true m i j is less = (is, less)
  marked_comes false m i j is less = (is, less)

  -- what a module declares stands where the module does
  export_comes : (k n j : ℕ) (y : Text) → k < length fin.blocks.modules
      → meaning_in (scope_at fin.blocks.scopes (module_at fin.blocks k).scope) y ≡ Some (Sub n) → (module_at fin.blocks k).scope < top t j
      → Comes (Some (tops_of t)) (mark_of_module fin.blocks k) (scope_of_sub g fin.blocks n) j
  export_comes k n j y low e less =
      marked_comes (module_at fin.blocks k).resource (module_number fin.blocks k) (scope_of_sub g fin.blocks n) j (there ∙ sym (mark_found t k low))
      (omega (arith, there, less))
    where
      i : ℕ
      i = (module_at fin.blocks k).scope

      named : (n < length fin.blocks.subs) × MayName (top t) (Opens t) i (sub_at fin.blocks n)
      named = named_sub t lawful i y n e

      start : top t i ≡ i
      start = module_start t k lawful low

      by : (i ≡ 0) ⊎ (top t i ≡ top t (sub_at fin.blocks n).scope) → top t (sub_at fin.blocks n).scope ≡ i
      by (inl program) = absurd (let range = module_range t k lawful low in omega (arith, range.0, program))
      by (inr same) = sym same ∙ start

      there : top t (scope_of_sub g fin.blocks n) ≡ i
      there = ap (λ (j : ℕ). top t j) (sub_found t n named.0) ∙ by named.1.part

  -- ## Main

  pub in_main : (env : Env) → env.state ≡ fin → InOrder g (Some (tops_of t)) 0 env
  in_main env same =
      record {
        called = λ x n e.
            let found =
            found_level (λ (l : Level). Unit {0}) fin.blocks.scopes env.view x (Sub n) (any_level env.view) refl
            (subst (λ (s : State). meaning_of (found_in s.blocks.scopes env.view x) ≡ Some (Sub n)) same e) in
            let named = level_sub t lawful found.at x n found.found in
            subst (λ (s : State). Comes (Some (tops_of t)) plain (scope_of_sub g s.blocks n) 0) (sym same)
            (sub_comes n 0 named.0 (top_most (sub_at fin.blocks n).scope named.1.some));
        entered = λ x y k n e f.
            let found =
            found_level (λ (l : Level). Unit {0}) fin.blocks.scopes env.view x (Module k) (any_level env.view) refl
            (subst (λ (s : State). meaning_of (found_in s.blocks.scopes env.view x) ≡ Some (Module k)) same e) in
            let low = (level_module t lawful found.at x k found.found).0 in
            let range = module_range t k lawful low in
            subst (λ (s : State). Comes (Some (tops_of t)) (mark_of_module g.state.blocks k) (scope_of_sub g s.blocks n) 0) (sym same)
            (export_comes k n 0 y low
            (subst (λ (s : State). meaning_in (scope_at s.blocks.scopes (module_at s.blocks k).scope) y ≡ Some (Sub n)) same f) range.1);
      }

  -- ## A part

  -- the names of a block are in order, and what is guarded stands beside it
  pub record NamesInOrder (b : Block) : Type 0 where
    pub names : InOrder g (Some (tops_of t)) b.scope b.env
    pub requeues : (x : Text) (n : ℕ) → meaning_of (find b.env x) ≡ Some (Sub n) → (sub_at b.env.state.blocks n).sort ≡ Guarded
        → Beside (Some (tops_of t)) (scope_of_sub g b.env.state.blocks n) b.scope

  -- Of the program's names so many are in view in the part: their subs were declared before its end, and their modules before it.
  module _ (lo hi count : ℕ) (first : 1 ≤ lo) (same : (j : ℕ) → lo ≤ j → j < hi → top t j ≡ lo) where
    abbrev SubsBefore : Type 0
    SubsBefore = (x : Text) (n : ℕ) → meaning_of (found_at fin.blocks.scopes (level 0 count) x) ≡ Some (Sub n) → (sub_at fin.blocks n).scope < hi

    abbrev ModulesBefore : Type 0
    ModulesBefore = (x : Text) (n : ℕ) → meaning_of (found_at fin.blocks.scopes (level 0 count) x) ≡ Some (Module n) → (module_at fin.blocks n).scope < lo

    top_before : (j : ℕ) → 1 ≤ j → j < hi → top t j ≤ lo
    top_before j some high = by (nat_lt j lo) refl
      where
        by : (r : Bool) → nat_lt j lo ≡ r → top t j ≤ lo
        by true e =
            let less : j < lo = grind (arith, nat_tests) in
            let low = top_low t.parts j some in omega (arith, less, low)
        by false e =
            let over : lo ≤ j = grind (arith, nat_tests) in
            let is = same j over high in omega (arith, is)

    -- in a scope of the part
    stands_here : (l : Level) (n : ℕ) → lo ≤ l.scope → l.scope < hi → MayName (top t) (Opens t) l.scope (sub_at fin.blocks n)
        → top t (sub_at fin.blocks n).scope ≡ lo
    stands_here l n low high named = by named.part
      where
        by : (l.scope ≡ 0) ⊎ (top t l.scope ≡ top t (sub_at fin.blocks n).scope) → top t (sub_at fin.blocks n).scope ≡ lo
        by (inl program) = absurd (omega (arith, program, low, first))
        by (inr is) = sym is ∙ same l.scope low high

    sub_seen : SubsBefore → (l : Level) → IsSeenAt lo hi count l → (x : Text) (n : ℕ) → meaning_of (found_at fin.blocks.scopes l x) ≡ Some (Sub n)
        → (n < length fin.blocks.subs) × (top t (sub_at fin.blocks n).scope ≤ lo)
    sub_seen subs l (inl out) x n e =
        let named = level_sub t lawful l x n e in
        (named.0, top_before (sub_at fin.blocks n).scope named.1.some (subs x n (found_further fin.blocks.scopes l count x (Sub n) out.0 out.1 e)))
    sub_seen subs l (inr inside) x n e =
        let named = level_sub t lawful l x n e in
        let is = stands_here l n inside.0 inside.1 named.1 in (named.0, omega (arith, is))

    module_seen : ModulesBefore → (l : Level) → IsSeenAt lo hi count l → (x : Text) (n : ℕ) → meaning_of (found_at fin.blocks.scopes l x) ≡ Some (Module n)
        → (n < length fin.blocks.modules) × ((module_at fin.blocks n).scope < lo)
    module_seen modules l (inl out) x n e =
        ((level_module t lawful l x n e).0, modules x n (found_further fin.blocks.scopes l count x (Module n) out.0 out.1 e))
    module_seen modules l (inr inside) x n e =
        let program = (level_module t lawful l x n e).1 in let low = inside.0 in absurd (omega (arith, program, low, first))

    guarded_seen : (l : Level) → IsSeenAt lo hi count l → (x : Text) (n : ℕ) → meaning_of (found_at fin.blocks.scopes l x) ≡ Some (Sub n)
        → (sub_at fin.blocks n).sort ≡ Guarded → (n < length fin.blocks.subs) × (top t (sub_at fin.blocks n).scope ≡ lo)
    guarded_seen l (inl out) x n e sort = absurd ((level_sub t lawful l x n e).1.free out.0 sort)
    guarded_seen l (inr inside) x n e sort =
        let named = level_sub t lawful l x n e in (named.0, stands_here l n inside.0 inside.1 named.1)

    pub block_in_order : SubsBefore → ModulesBefore → (b : Block) → IsOfPart fin lo hi count b → NamesInOrder b
    block_in_order subs modules b is =
        record {
          names = record {
            called = λ x n e.
                let found = found_level (IsSeenAt lo hi count) fin.blocks.scopes b.env.view x (Sub n) is.view refl (moved x (Sub n) e) in
                let seen = sub_seen subs found.at found.is x n found.found in
                subst (λ (s : State). Comes (Some (tops_of t)) plain (scope_of_sub g s.blocks n) b.scope) (sym is.state)
                (sub_comes n b.scope seen.0 (let at = own in omega (arith, at, seen.1)));
            entered = λ x y k n e f.
                let found = found_level (IsSeenAt lo hi count) fin.blocks.scopes b.env.view x (Module k) is.view refl (moved x (Module k) e) in
                let seen = module_seen modules found.at found.is x k found.found in
                subst (λ (s : State). Comes (Some (tops_of t)) (mark_of_module g.state.blocks k) (scope_of_sub g s.blocks n) b.scope) (sym is.state)
                (export_comes k n b.scope y seen.0
                (subst (λ (s : State). meaning_in (scope_at s.blocks.scopes (module_at s.blocks k).scope) y ≡ Some (Sub n)) is.state f)
                (let at = own in omega (arith, at, seen.1)));
          };
          requeues = λ x n e sort.
              let found = found_level (IsSeenAt lo hi count) fin.blocks.scopes b.env.view x (Sub n) is.view refl (moved x (Sub n) e) in
              let seen =
              guarded_seen found.at found.is x n found.found (subst (λ (s : State). (sub_at s.blocks n).sort ≡ Guarded) is.state sort) in
              subst (λ (s : State). Beside (Some (tops_of t)) (scope_of_sub g s.blocks n) b.scope) (sym is.state)
              (ap (λ (j : ℕ). top t j) (sub_found t n seen.0) ∙ (seen.1 ∙ sym own));
        }
      where
        own : top t b.scope ≡ lo
        own = same b.scope is.low is.high

        moved : (x : Text) (m : Meaning) → meaning_of (find b.env x) ≡ Some m → meaning_of (found_in fin.blocks.scopes b.env.view x) ≡ Some m
        moved x m e = subst (λ (s : State). meaning_of (found_in s.blocks.scopes b.env.view x) ≡ Some m) is.state e
