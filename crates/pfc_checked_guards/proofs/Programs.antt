-- The bodies of a program in which no static rule is broken call what the rules ask.
use Rattle.std.proofs.Common.{◌≡◌, ℕ, ◌+◌, inl, inr, Bool, true, false, List, [], ◌∷◌, length, Option, Some, None, is_some, refl, ap, sym, ◌∙◌, subst}
use Rattle.std.specs.List.{AllByRecursion}
use Rattle.pfc_tree.specs.Symbols.{Text}
use Rattle.pfc_tree.specs.trees.Stmts.{BodyTree, StmtTrees, body}
use Rattle.pfc_tree.specs.trees.Parts.{KindTree, PartTree, PartTrees, SubTree, ModuleTree, ProcessTree, ProgramTree, procedure, function, guarded, consts}
use Rattle.pfc_tree.specs.trees.Parts.{types, vars, sub_part, monitor, resource, process_part, no_parts, more_parts, sub, the_module, process}
use Rattle.pfc_tree.specs.forget.Parts.{forget_parts, forget_part, forget_sub, forget_module, forget_process, forget_kind, forget_program}
use Rattle.pfc_tree.specs.lawful.Parts.{Home, of_program, of_resource as in_resource, of_other, HoldsModules, HoldsGuarded, IsLawfulKind, IsLawfulPart}
use Rattle.pfc_tree.specs.lawful.Parts.{AreLawfulParts, IsLawfulSub, IsLawfulModule, IsLawfulProcess, IsLawful}
use Rattle.pfc_types.specs.Scopes.{Level, meaning_of, meaning_in, scope_at, here}
use Rattle.pfc_types.specs.Blocks.{Blocks, State, sub_at, module_at}
use Rattle.pfc_types.specs.declared.heads.SubSort.TheVariants.{Guarded}
use Rattle.pfc_types.specs.declared.scope.Meaning.TheVariants.{Sub}
use Rattle.pfc_types.specs.declared.view.Around.{Around}
use Rattle.pfc_types.specs.rules.Expressions.{Env, find}
use Rattle.pfc_types.specs.rules.Statements.{within_accept, stmts_scopes, broken_stmts, broken_body}
use Rattle.pfc_types.specs.rules.Bodies.{env_at, around_main, around_nothing, around_process, around_sub, around_guard, passed, passed_part, passed_groups}
use Rattle.pfc_types.specs.rules.Bodies.{passed_entries, part_scopes, parts_scopes, level, broken_when, broken_init, broken_part, broken_parts, broken_sub}
use Rattle.pfc_types.specs.rules.Bodies.{broken_module, broken_process}
use Rattle.pfc_types.specs.rules.Whole.{finished, broken, faults_in}
use Rattle.pfc_semantics.specs.Layouts.{Layout, main_layout, sub_layout_at}
use Rattle.pfc_semantics.specs.Objects.{module_number}
use Rattle.pfc_semantics.specs.Programs.{Block, Guard, Program, block_at, block_of, guard_of, part_blocks, parts_blocks, sub_blocks, module_blocks}
use Rattle.pfc_semantics.specs.Programs.{process_blocks, init_block, module_inits, part_inits, parts_inits, env_of_main, program_of}
use Rattle.pfc_semantics.specs.Configurations.{Mark, plain, of_resource}
use Rattle.pfc_translation.specs.Sites.{module_of}
use Rattle.pfc_translation.specs.Calls.{number_or_none, resource_of}
use Rattle.pfc_translation.specs.Images.{site_in}
use Rattle.pfc_image_numbers.proofs.Rules.{IsClean, clean_of}
use Rattle.pfc_guard_laws.specs.Tops.{Tops, Standing, standing_at, Beside}
use Rattle.pfc_guard_laws.specs.Written.{IsInResource, RequeuesFrom, SuitsExpr, SuitStmts}
use Rattle.pfc_guard_laws.specs.Configurations.{SuitsBody, SuitsBlock, SuitsInOrder, SuitsProgram}
use Rattle.pfc_guard_laws.proofs.Lists.{all_append, all_push}
use Rattle.pfc_checked_guards.specs.Subs.{SubsStand, ModulesStand}
use Rattle.pfc_checked_guards.specs.Order.{scope_of_sub, InOrder, Along, IsInOrder, IsForParameters, ProgramInOrder}
use Rattle.pfc_checked_guards.proofs.Names.{IsNamed, sub_named, within_order}
use Rattle.pfc_checked_guards.proofs.Expressions.{expr_called}
use Rattle.pfc_checked_guards.proofs.Calls.{IsExported}
use Rattle.pfc_checked_guards.proofs.Statements.{IsPlace, stmts_called}

-- Guarded procedures stand in a scope in the program's.
abbrev stmts_in : BodyTree → StmtTrees
stmts_in (body ss first last) = ss

abbrev IsInMain : Home → List Level → Type 0
IsInMain h outer = HoldsGuarded h → (m : ℕ) × (outer ≡ level 0 m ∷ [])

-- and modules in the program's
abbrev IsTop : Home → ℕ → List Level → Type 0
IsTop h i outer = HoldsModules h → (i ≡ 0) × (outer ≡ [])

some_guard : (o : Option Guard) → is_some o ≡ true → (guard : Guard) × (o ≡ Some guard)
some_guard None e = absurd (cc)
some_guard (Some guard) e = (guard, refl)

none_some : (n : ℕ) → None ≡ Some n → ⊥
none_some n e = cc

false_true : false ≡ true → ⊥
false_true e = cc

none_there : (i : ℕ) → Some i ≡ None → ⊥
none_there i e = cc

module _ (t : ProgramTree) (subs : SubsStand (program_of t) (finished t).blocks) (modules : ModulesStand (program_of t) (finished t).blocks)
    (tops : Option Tops) (P : ℕ → Type 0)
    (within : (i : ℕ) (env : Env) (n : ℕ) → env.state ≡ finished t → InOrder (program_of t) tops i env → P n →
    InOrder (program_of t) tops i (within_accept env n)) where
  abbrev g : Program
  g = program_of t

  abbrev s : State
  s = finished t

  abbrev bs : Blocks
  bs = (finished t).blocks

  -- ## What modules export

  number_of : (callee i n : ℕ) → (block_at g callee).outer ≡ i → module_of bs i ≡ Some n → IsInResource g (module_number bs n) callee
  number_of callee i n outer there =
      sym (ap (λ (j : ℕ). number_or_none bs (module_of bs j)) outer ∙ ap (λ (o : Option ℕ). number_or_none bs o) there)

  exported : (n p : ℕ) (x : Text) → meaning_in (scope_at bs.scopes (module_at bs n).scope) x ≡ Some (Sub p)
      → IsExported g (module_at bs n).resource (module_number bs n) (sub_at bs p).scope
  exported n p x e = by (module_at bs n).resource refl
    where
      outer : (block_at g (sub_at bs p).scope).outer ≡ (module_at bs n).scope
      outer = subs.declared p (module_at bs n).scope x e

      unguarded : (o : Option Guard) → (block_at g (sub_at bs p).scope).guard ≡ o → (module_at bs n).resource ≡ false
          → (block_at g (sub_at bs p).scope).guard ≡ None
      unguarded None is kind = is
      unguarded (Some guard) is kind =
          let there = modules.guarded (sub_at bs p).scope guard is in
          let same = modules.modules n there.0 (ap (λ (j : ℕ). module_of bs j) (sym outer) ∙ there.1) in
          absurd (false_true (sym kind ∙ ap (λ (k : ℕ). (module_at bs k).resource) (sym same) ∙ there.2))

      by : (r : Bool) → (module_at bs n).resource ≡ r → IsExported g r (module_number bs n) (sub_at bs p).scope
      by true kind = number_of (sub_at bs p).scope (module_at bs n).scope n outer (modules.resources n kind)
      by false kind = unguarded (block_at g (sub_at bs p).scope).guard refl kind

  -- ## Requeues

  -- a guarded procedure that is named in a body of a resource is of the same resource
  same_resource :
      (own around main : Level) (x : Text) (n : ℕ) → module_of bs own.scope ≡ None → main.scope ≡ 0
      → IsNamed bs.scopes x n (own ∷ around ∷ main ∷ []) → (sub_at bs n).sort ≡ Guarded
      → RequeuesFrom g (of_resource (number_or_none bs (module_of bs around.scope))) (sub_at bs n).scope
  same_resource own around main x n apart program named sort = (by named, subs.guarded n sort)
    where
      callee : Block
      callee = block_at g (sub_at bs n).scope

      has : (guard : Guard) × (callee.guard ≡ Some guard)
      has = some_guard callee.guard (subs.guarded n sort)

      there : (m : ℕ) × (module_of bs callee.outer ≡ Some m) × ((module_at bs m).resource ≡ true)
      there = modules.guarded (sub_at bs n).scope has.0 has.1

      by : IsNamed bs.scopes x n (own ∷ around ∷ main ∷ []) → IsInResource g (number_or_none bs (module_of bs around.scope)) (sub_at bs n).scope
      by (inl e) =
          let outer = subs.declared n own.scope x e in
          absurd (none_some there.0 (sym apart ∙ ap (λ (j : ℕ). module_of bs j) (sym outer) ∙ there.1))
      by (inr (inl e)) = ap (λ (j : ℕ). number_or_none bs (module_of bs j)) (sym (subs.declared n around.scope x e))
      by (inr (inr (inl e))) =
          let outer = subs.declared n main.scope x e ∙ program in
          absurd (none_some there.0 (sym modules.program_scope ∙ ap (λ (j : ℕ). module_of bs j) (sym outer) ∙ there.1))
      by (inr (inr (inr none))) = absurd none

  -- ## Bodies

  -- no requeue stands where no guarded procedure is around
  free_place : (mark : Mark) (i : ℕ) (view : List Level) (a : Around) → a.guarded ≡ false → InOrder g tops i (env_at s view a)
      → IsPlace g (standing_at tops mark i) (env_at s view a) a
  free_place mark i view a free order =
      record {
        subs = subs;
        exported = exported;
        state = refl;
        order = order;
        guarded_sub = λ h. absurd (false_true (sym free ∙ h));
        requeues = λ h x n e sort. absurd (false_true (sym free ∙ h));
      }

  free_body :
      (mark : Mark) (i : ℕ) (view : List Level) (a : Around) (next : ℕ) (ss : StmtTrees) → a.guarded ≡ false → InOrder g tops i (env_at s view a)
      → Along P next (stmts_scopes ss) → IsClean (broken_stmts (env_at s view a) next ss)
      → SuitStmts g (standing_at tops mark i) (env_at s view a) next ss
  free_body mark i view a next ss free order own h =
      stmts_called g (standing_at tops mark i) P (within i) (env_at s view a) a (free_place mark i view a free order) next ss h own

  guarded_place :
      (own around main : Level) (i : ℕ) (view : List Level) (a : Around) → view ≡ own ∷ around ∷ main ∷ [] → module_of bs own.scope ≡ None → main.scope ≡ 0
      → a.sub ≡ true → InOrder g tops i (env_at s view a)
      → ((x : Text) (n : ℕ) → meaning_of (find (env_at s view a) x) ≡ Some (Sub n) → (sub_at bs n).sort ≡ Guarded → Beside tops (scope_of_sub g bs n) i)
      → IsPlace g (standing_at tops (of_resource (number_or_none bs (module_of bs around.scope))) i) (env_at s view a) a
  guarded_place own around main i view a is apart program inside order beside =
      record {
        subs = subs;
        exported = exported;
        state = refl;
        order = order;
        guarded_sub = λ h. inside;
        requeues = λ h x n e sort. (
          same_resource own around main x n apart program
              (subst (λ (v : List Level). IsNamed bs.scopes x n v) is (sub_named bs.scopes view x n e)) sort,
          beside x n e sort,
        );
      }

  -- a body, once it is known that its scope is that of no module
  abbrev HalfBody : Block → Option Guard → Type 0
  HalfBody b None = IsInOrder g tops P b.scope b → (mark : Mark) → SuitStmts g (standing_at tops mark b.scope) b.env b.next b.stmts
  HalfBody b (Some guard) =
      (IsInOrder g tops P b.scope b → module_of bs b.scope ≡ None
      → SuitStmts g (standing_at tops (of_resource (resource_of (site_in g b))) b.scope) b.env b.next b.stmts)
      × ((standing : Standing) → standing.tops ≡ tops → SuitsExpr g standing guard.env guard.test)

  abbrev Half : Block → Type 0
  Half b = HalfBody b b.guard

  sub_half :
      (h : Home) (in_process : Bool) (i n c next behind : ℕ) (around : Level) (outer : List Level) (kind : KindTree) (b : BodyTree) (layout : Layout)
      → around.scope ≡ i → IsInMain h outer → IsLawfulKind h (forget_kind kind)
      → IsClean (broken_when (env_at s (level next c ∷ level i n ∷ outer) (around_guard i)) kind)
      → IsClean (broken_stmts (env_at s (here bs.scopes next (around ∷ outer)) (around_sub in_process kind)) behind (stmts_in b))
      → Half (block_of next i (env_at s (here bs.scopes next (around ∷ outer)) (around_sub in_process kind)) behind b layout 0
      (guard_of (env_at s (level next c ∷ level i n ∷ outer) (around_guard i)) kind))
  sub_half h in_process i n c next behind around outer procedure (body ss first last) layout at main lawful guard clean =
      λ so mark. free_body mark next (here bs.scopes next (around ∷ outer)) (around_sub in_process procedure) behind ss refl so.names so.own clean
  sub_half h in_process i n c next behind around outer (function x p) (body ss first last) layout at main lawful guard clean =
      λ so mark. free_body mark next (here bs.scopes next (around ∷ outer)) (around_sub in_process (function x p)) behind ss refl so.names so.own clean
  sub_half h in_process i n c next behind around outer (guarded e p) (body ss first last) layout at main lawful guard clean = (
    λ so apart. by apart (main lawful.0) so.names so.own (λ x n e sort. so.requeues refl x n e sort),
    λ standing same.
        expr_called g standing (env_at s (level next c ∷ level i n ∷ outer) (around_guard i)) (around_guard i) subs
        (λ x k none named. absurd (none_there i none)) e guard.0,
  )
    where
      a : Around
      a = around_sub in_process (guarded e p)

      view : List Level
      view = here bs.scopes next (around ∷ outer)

      by : module_of bs next ≡ None → (m : ℕ) × (outer ≡ level 0 m ∷ []) → InOrder g tops next (env_at s view a) → Along P behind (stmts_scopes ss)
          → ((x : Text) (n : ℕ) → meaning_of (find (env_at s view a) x) ≡ Some (Sub n) → (sub_at bs n).sort ≡ Guarded → Beside tops (scope_of_sub g bs n) next)
          → SuitStmts g (standing_at tops (of_resource (number_or_none bs (module_of bs i))) next) (env_at s view a) behind ss
      by apart top order along beside =
          let own : Level = record { scope = next; count = length (scope_at bs.scopes next) } in
          let is : view ≡ own ∷ around ∷ level 0 top.0 ∷ [] = ap (λ (l : List Level). here bs.scopes next (around ∷ l)) top.1 in
          let place = guarded_place own around (level 0 top.0) next view a is apart refl refl order beside in
          subst (λ (j : ℕ). SuitStmts g (standing_at tops (of_resource (number_or_none bs (module_of bs j))) next) (env_at s view a) behind ss) at
          (stmts_called g (standing_at tops (of_resource (number_or_none bs (module_of bs around.scope))) next) P (within next) (env_at s view a) a place behind
          ss clean along)

  free_half :
      (at scope outer next : ℕ) (view : List Level) (a : Around) (b : BodyTree) (layout : Layout) (accepts : ℕ) → a.guarded ≡ false
      → IsClean (broken_stmts (env_at s view a) next (stmts_in b))
      → (let x = block_of scope outer (env_at s view a) next b layout accepts None in
      IsInOrder g tops P at x → (mark : Mark) → SuitStmts g (standing_at tops mark at) x.env x.next x.stmts)
  free_half at scope outer next view a (body ss first last) layout accepts free clean so mark =
      free_body mark at view a next ss free so.names so.own clean

  -- ## Declarations

  body_clean : (env : Env) (n : ℕ) (b : BodyTree) → IsClean (broken_body env n b) → IsClean (broken_stmts env n (stmts_in b))
  body_clean env n (body ss first last) h = h

  mutual
    part_half :
        (h : Home) (in_process : Bool) (i n : ℕ) (outer : List Level) (next : ℕ) (q : PartTree) → IsTop h i outer → IsInMain h outer
        → IsLawfulPart h (forget_part q) → IsClean (broken_part s in_process i n outer next q)
        → AllByRecursion Half (part_blocks s in_process i n outer next q)
    part_half h in_process i n outer next (consts items) top main lawful clean = tt
    part_half h in_process i n outer next (types items) top main lawful clean = tt
    part_half h in_process i n outer next (vars vs) top main lawful clean = tt
    part_half h in_process i n outer next (sub_part b) top main lawful clean = sub_blocks_half h in_process i n outer next b main lawful clean
    part_half h in_process i n outer next (monitor m) top main lawful clean = module_half of_other i n outer next m (λ x. x) (top lawful.0) lawful.1 clean
    part_half h in_process i n outer next (resource m) top main lawful clean = module_half in_resource i n outer next m (λ x. x) (top lawful.0) lawful.1 clean
    part_half h in_process i n outer next (process_part q) top main lawful clean = process_half i n outer next q lawful.1 clean

    parts_half :
        (h : Home) (in_process : Bool) (i n : ℕ) (outer : List Level) (next : ℕ) (qs : PartTrees) → IsTop h i outer → IsInMain h outer
        → AreLawfulParts h (forget_parts qs) → IsClean (broken_parts s in_process i n outer next qs)
        → AllByRecursion Half (parts_blocks s in_process i n outer next qs)
    parts_half h in_process i n outer next no_parts top main lawful clean = tt
    parts_half h in_process i n outer next (more_parts q qs) top main lawful clean =
        let further = passed_part (scope_at bs.scopes i) n q in
        all_append Half (part_blocks s in_process i n outer next q) (parts_blocks s in_process i further outer (next + part_scopes q) qs)
        (part_half h in_process i n outer next q top main lawful.0 clean.0)
        (parts_half h in_process i further outer (next + part_scopes q) qs top main lawful.1 clean.1)

    sub_blocks_half :
        (h : Home) (in_process : Bool) (i n : ℕ) (outer : List Level) (next : ℕ) (b : SubTree) → IsInMain h outer → IsLawfulSub h (forget_sub b)
        → IsClean (broken_sub s in_process i n outer next b) → AllByRecursion Half (sub_blocks s in_process i n outer next b)
    sub_blocks_half h in_process i n outer next (sub x gs kind ps (body ss from to) p) main lawful clean =
        let own = scope_at bs.scopes next in
        let count = passed_groups own 0 gs in
        let around = level i (passed (scope_at bs.scopes i) n x) in
        all_push Half (parts_blocks s in_process next count (around ∷ outer) (next + 1) ps) _
        (parts_half of_other in_process next count (around ∷ outer) (next + 1) ps (λ none. absurd none) (λ none. absurd none) lawful.2 clean.1.0)
        (sub_half h in_process i n count next (next + 1 + parts_scopes ps) around outer kind (body ss from to) (sub_layout_at bs next) refl main lawful.1
        clean.0 clean.1.1)

    module_half :
        (h : Home) (i n : ℕ) (outer : List Level) (next : ℕ) (m : ModuleTree) → (HoldsModules h → ⊥) → (i ≡ 0) × (outer ≡ [])
        → IsLawfulModule h (forget_module m) → IsClean (broken_module s i n outer next m) → AllByRecursion Half (module_blocks s i n outer next m)
    module_half h i n outer next (the_module x exports ps b last p) apart top lawful clean =
        parts_half h false next 0 (level i n ∷ outer) (next + 1) ps (λ some. absurd (apart some))
        (λ some. (n, ap (λ (j : ℕ). level j n ∷ outer) top.0 ∙ ap (λ (l : List Level). level 0 n ∷ l) top.1)) lawful.1 clean.0

    process_half :
        (i n : ℕ) (outer : List Level) (next : ℕ) (q : ProcessTree) → IsLawfulProcess (forget_process q)
        → IsClean (broken_process s i n outer next q) → AllByRecursion Half (process_blocks s i n outer next q)
    process_half i n outer next (process many x gs es ps (body ss from to) p) lawful clean =
        let own = scope_at bs.scopes next in
        let count = passed_entries own (passed_groups own 0 gs) es in
        let around = level i (passed (scope_at bs.scopes i) n x) ∷ outer in
        all_push Half (parts_blocks s true next count around (next + 1) ps) _
        (parts_half of_other true next count around (next + 1) ps (λ none. absurd none) (λ none. absurd none) lawful.2 clean.0)
        (λ so mark. free_body mark next (here bs.scopes next around) around_process (next + 1 + parts_scopes ps) ss refl so.names so.own clean.1)

  -- ## Initialising bodies

  abbrev Init : Block → Type 0
  Init b = IsInOrder g tops P 0 b → SuitStmts g (standing_at tops plain 0) b.env b.next b.stmts

  init_suits :
      (scope : ℕ) (view : List Level) (next : ℕ) (b : Option BodyTree) → IsClean (broken_init s view next b)
      → AllByRecursion Init (init_block s scope view next b)
  init_suits scope view next None clean = tt
  init_suits scope view next (Some (body ss first last)) clean = (λ so. free_body plain 0 view around_nothing next ss refl so.names so.own clean, tt)

  module_inits_suit :
      (n next : ℕ) (m : ModuleTree) → IsClean (broken_module s 0 n [] next m) → AllByRecursion Init (module_inits s n next m)
  module_inits_suit n next (the_module x exports ps b last p) clean =
      init_suits next (here bs.scopes next (level 0 n ∷ [])) (next + 1 + parts_scopes ps) b clean.1

  part_inits_suit : (n next : ℕ) (q : PartTree) → IsClean (broken_part s false 0 n [] next q) → AllByRecursion Init (part_inits s n next q)
  part_inits_suit n next (consts items) clean = tt
  part_inits_suit n next (types items) clean = tt
  part_inits_suit n next (vars vs) clean = tt
  part_inits_suit n next (sub_part b) clean = tt
  part_inits_suit n next (monitor m) clean = module_inits_suit n next m clean
  part_inits_suit n next (resource m) clean = module_inits_suit n next m clean
  part_inits_suit n next (process_part q) clean = tt

  inits_suit : (n next : ℕ) (qs : PartTrees) → IsClean (broken_parts s false 0 n [] next qs) → AllByRecursion Init (parts_inits s n next qs)
  inits_suit n next no_parts clean = tt
  inits_suit n next (more_parts q qs) clean =
      all_append Init (part_inits s n next q) (parts_inits s (passed_part (scope_at bs.scopes 0) n q) (next + part_scopes q) qs)
      (part_inits_suit n next q clean.0) (inits_suit (passed_part (scope_at bs.scopes 0) n q) (next + part_scopes q) qs clean.1)

  -- ## The whole

  whole_body : (b : Block) (o : Option Guard) → HalfBody b o → IsInOrder g tops P b.scope b → module_of bs b.scope ≡ None → SuitsBody g tops b o
  whole_body b None half so apart = half so
  whole_body b (Some guard) half so apart = (half.0 so apart, half.1)

  all_whole :
      (xs : List Block) → AllByRecursion Half xs → AllByRecursion (λ (x : Block). IsInOrder g tops P x.scope x) xs
      → AllByRecursion (λ (x : Block). module_of bs x.scope ≡ None) xs → AllByRecursion (SuitsBlock g tops) xs
  all_whole [] half so apart = tt
  all_whole (b ∷ xs) half so apart = (whole_body b b.guard half.0 so.0 apart.0, all_whole xs half.1 so.1 apart.1)

  all_inits :
      (xs : List Block) → AllByRecursion Init xs → AllByRecursion (λ (x : Block). IsInOrder g tops P 0 x) xs
      → AllByRecursion (λ (b : Block). SuitStmts g (standing_at tops plain 0) b.env b.next b.stmts) xs
  all_inits [] half so = tt
  all_inits (b ∷ xs) half so = (half.0 so.0, all_inits xs half.1 so.1)

  no_guard_in_main : (b : BodyTree)
      → (let x = block_of 0 0 (env_of_main s) (1 + parts_scopes t.parts) b (main_layout bs (scope_at bs.scopes 0)) 0 None in
      (x.guard ≡ None) × (x.scope ≡ 0))
  no_guard_in_main (body ss first last) = (refl, refl)

  pub program_whole :
      AllByRecursion (λ (x : Block). IsInOrder g tops P x.scope x) g.blocks → AllByRecursion (λ (x : Block). IsInOrder g tops P 0 x) g.modules
      → IsInOrder g tops P 0 g.main → IsLawful (forget_program t) → broken t ≡ [] → SuitsInOrder g tops
  program_whole blocks inits main lawful whole =
      let clean = (clean_of (faults_in (finished t) t) whole).1 in
      record {
        blocks =
            all_whole g.blocks (parts_half of_program false 0 0 [] 1 t.parts (λ top. (refl, refl)) (λ none. absurd none) lawful.0 clean.0) blocks
            modules.bodies;
        modules = all_inits g.modules (inits_suit 0 1 t.parts clean.0) inits;
        main = free_half 0 0 0 (1 + parts_scopes t.parts) (here bs.scopes 0 []) around_main t.body _ 0 refl
            (body_clean (env_of_main s) (1 + parts_scopes t.parts) t.body clean.1) main;
        main_unguarded = (no_guard_in_main t.body).0;
        main_scope = (no_guard_in_main t.body).1;
        processes_unguarded = modules.processes;
      }

-- where what is named comes in order
pub program_in_order :
    (t : ProgramTree) → SubsStand (program_of t) (finished t).blocks → ModulesStand (program_of t) (finished t).blocks → (tops : Option Tops)
    → ProgramInOrder (program_of t) tops → IsLawful (forget_program t) → broken t ≡ [] → SuitsInOrder (program_of t) tops
program_in_order t subs modules tops order lawful whole =
    program_whole t subs modules tops (IsForParameters (program_of t)) (λ i env n same so own. within_order (program_of t) tops i env n same so own)
    order.blocks order.modules order.main lawful whole

-- ## Without an order

module _ (g : Program) where
  names_alone : (i : ℕ) (env : Env) → InOrder g None i env
  names_alone i env = record { called = λ x n e. tt; entered = λ x y j n e f. tt }

  block_alone : (i : ℕ) (b : Block) → IsInOrder g None (λ n. Unit {0}) i b
  block_alone i b = record { names = names_alone i b.env; own = λ n low high. tt; requeues = λ some x n e sort. tt }

  all_alone : (at : Block → ℕ) (xs : List Block) → AllByRecursion (λ (x : Block). IsInOrder g None (λ n. Unit {0}) (at x) x) xs
  all_alone at [] = tt
  all_alone at (b ∷ xs) = (block_alone (at b) b, all_alone at xs)

pub program_suits :
    (t : ProgramTree) → SubsStand (program_of t) (finished t).blocks → ModulesStand (program_of t) (finished t).blocks → IsLawful (forget_program t)
    → broken t ≡ [] → SuitsProgram (program_of t)
program_suits t subs modules lawful whole =
    let g = program_of t in
    program_whole t subs modules None (λ n. Unit {0}) (λ i env n same so own. names_alone g i (within_accept env n)) (all_alone g (λ b. b.scope) g.blocks)
    (all_alone g (λ b. 0) g.modules) (block_alone g 0 g.main) lawful whole
