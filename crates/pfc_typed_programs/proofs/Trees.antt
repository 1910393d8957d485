-- Each body of a lawful tree in which no rule is broken, and each block that a heading names: by induction over the parts.
use Rattle.std.proofs.Common.{◌≡◌, ℕ, ◌+◌, ◌<◌, ◌≤◌, ◌==◌, ◌||◌, Bool, true, false, List, [], ◌∷◌, ◌++◌, map, Some, None, refl, ap, sym, ◌∙◌, subst, arith}
use Rattle.std.specs.List.{All}
use Rattle.std.specs.Option.{IfSome}
use Rattle.std.proofs.lemmas.List.{map-append}
use Rattle.std.proofs.lemmas.List.Elements.{All-nil, All-cons, All-append}
use Rattle.pfc_tree.specs.trees.Stmts.{BodyTree, body}
use Rattle.pfc_tree.specs.trees.Parts.{KindTree, PartTree, PartTrees, SubTree, ModuleTree, ProcessTree, ProgramTree, procedure, function, guarded, consts}
use Rattle.pfc_tree.specs.trees.Parts.{types, vars, sub_part, monitor, resource, process_part, no_parts, more_parts, sub, the_module, process}
use Rattle.pfc_tree.specs.forget.Stmts.{forget_body}
use Rattle.pfc_tree.specs.lawful.Stmts.{IsLawfulBody}
use Rattle.pfc_tree.specs.forget.Parts.{forget_part, forget_parts, forget_sub, forget_module, forget_process, forget_program}
use Rattle.pfc_tree.specs.lawful.Parts.{Home, of_program, of_resource, of_other, IsLawfulPart, AreLawfulParts, IsLawfulSub, IsLawfulModule, IsLawfulProcess}
use Rattle.pfc_tree.specs.lawful.Parts.{IsLawful}
use Rattle.pfc_types.specs.Scopes.{Level, scope_at}
use Rattle.pfc_types.specs.Blocks.{State}
use Rattle.pfc_types.specs.rules.Expressions.{Env}
use Rattle.pfc_types.specs.rules.Statements.{broken_guard}
use Rattle.pfc_types.specs.rules.Bodies.{env_at, around_guard, level, passed, passed_part, passed_groups, passed_entries, part_scopes, parts_scopes}
use Rattle.pfc_types.specs.rules.Bodies.{process_scopes, broken_when, broken_part, broken_parts, broken_sub, broken_module, broken_process}
use Rattle.pfc_types.specs.rules.Whole.{finished, broken_bodies}
use Rattle.pfc_semantics.specs.Layouts.{main_layout}
use Rattle.pfc_semantics.specs.Programs.{Block, block_of, guard_of, part_blocks, parts_blocks, sub_blocks, module_blocks, process_blocks, module_inits}
use Rattle.pfc_semantics.specs.Programs.{part_inits, parts_inits, env_of_main, program_of}
use Rattle.pfc_name_laws.specs.Processes.{processes_from}
use Rattle.pfc_image_laws.specs.Levels.{sees}
use Rattle.pfc_image_numbers.proofs.Rules.{IsClean}
use Rattle.pfc_image_cells.specs.Subs.{part_subs, parts_subs, sub_subs, module_subs, process_subs}
use Rattle.pfc_image_cells.proofs.Trees.{among, among_append, same_number, equal_number, part_out, parts_out}
use Rattle.pfc_typed_structures.specs.Inside.{AreLabelled}
use Rattle.pfc_typed_programs.proofs.Labels.{some_labelled}

-- ## Bodies

-- A body sees its own scope, and each `case` in it has a label. In its guard no rule is broken, and the rules know it as a guard.
pub record IsMade (b : Block) : Type 0 where
  pub own : sees b.env.view b.scope ≡ true
  pub labelled : AreLabelled b.stmts
  pub guard : IfSome b.guard (λ w. IsClean (broken_guard w.env (Some w.test)))
  pub around : IfSome b.guard (λ w. w.env.around ≡ around_guard b.outer)

guard_made : (env : Env) (kind : KindTree) → IsClean (broken_when env kind) → IfSome (guard_of env kind) (λ w. IsClean (broken_guard w.env (Some w.test)))
guard_made env procedure c = tt
guard_made env (function x p) c = tt
guard_made env (guarded e p) c = c

guard_around : (s : State) (view : List Level) (i : ℕ) (kind : KindTree) → IfSome (guard_of (env_at s view (around_guard i)) kind)
    (λ w. w.env.around ≡ around_guard i)
guard_around s view i procedure = tt
guard_around s view i (function x p) = tt
guard_around s view i (guarded e p) = refl

own_first : (next : ℕ) (rest : Bool) → (next == next || rest) ≡ true
own_first next rest = ap (λ (r : Bool). r || rest) (same_number next)

mutual
  part_made :
      (s : State) (h : Home) (in_process : Bool) (i n : ℕ) (outer : List Level) (next : ℕ) (q : PartTree) → IsLawfulPart h (forget_part q)
      → IsClean (broken_part s in_process i n outer next q) → All IsMade (part_blocks s in_process i n outer next q)
  part_made s h in_process i n outer next (consts items) lawful c = All-nil IsMade
  part_made s h in_process i n outer next (types items) lawful c = All-nil IsMade
  part_made s h in_process i n outer next (vars vs) lawful c = All-nil IsMade
  part_made s h in_process i n outer next (sub_part b) lawful c = sub_made s h in_process i n outer next b lawful c
  part_made s h in_process i n outer next (monitor m) lawful c = module_made s of_other i n outer next m lawful.1 c
  part_made s h in_process i n outer next (resource m) lawful c = module_made s of_resource i n outer next m lawful.1 c
  part_made s h in_process i n outer next (process_part p) lawful c = process_made s i n outer next p lawful.1 c

  pub parts_made :
      (s : State) (h : Home) (in_process : Bool) (i n : ℕ) (outer : List Level) (next : ℕ) (qs : PartTrees) → AreLawfulParts h (forget_parts qs)
      → IsClean (broken_parts s in_process i n outer next qs) → All IsMade (parts_blocks s in_process i n outer next qs)
  parts_made s h in_process i n outer next no_parts lawful c = All-nil IsMade
  parts_made s h in_process i n outer next (more_parts q qs) lawful c =
      let further = passed_part (scope_at s.blocks.scopes i) n q in
      All-append IsMade (part_blocks s in_process i n outer next q) (parts_blocks s in_process i further outer (next + part_scopes q) qs)
      (part_made s h in_process i n outer next q lawful.0 c.0)
      (parts_made s h in_process i further outer (next + part_scopes q) qs lawful.1 c.1)

  sub_made :
      (s : State) (h : Home) (in_process : Bool) (i n : ℕ) (outer : List Level) (next : ℕ) (b : SubTree) → IsLawfulSub h (forget_sub b)
      → IsClean (broken_sub s in_process i n outer next b) → All IsMade (sub_blocks s in_process i n outer next b)
  sub_made s h in_process i n outer next (sub x gs kind ps (body ss from to) p) lawful c =
      let own = scope_at s.blocks.scopes next in
      let count = passed_groups own 0 gs in
      let around = level i (passed (scope_at s.blocks.scopes i) n x) ∷ outer in
      All-append IsMade (parts_blocks s in_process next count around (next + 1) ps) _
      (parts_made s of_other in_process next count around (next + 1) ps lawful.2 c.1.0)
      (All-cons IsMade _ [] (record {
        own = own_first next (sees around next);
        labelled = some_labelled ss lawful.3;
        guard = guard_made (env_at s (level next count ∷ level i n ∷ outer) (around_guard i)) kind c.0;
        around = guard_around s (level next count ∷ level i n ∷ outer) i kind;
      }) (All-nil IsMade))

  module_made :
      (s : State) (h : Home) (i n : ℕ) (outer : List Level) (next : ℕ) (m : ModuleTree) → IsLawfulModule h (forget_module m)
      → IsClean (broken_module s i n outer next m) → All IsMade (module_blocks s i n outer next m)
  module_made s h i n outer next (the_module x exports ps b last p) lawful c =
      parts_made s h false next 0 (level i n ∷ outer) (next + 1) ps lawful.1 c.0

  process_made :
      (s : State) (i n : ℕ) (outer : List Level) (next : ℕ) (q : ProcessTree) → IsLawfulProcess (forget_process q)
      → IsClean (broken_process s i n outer next q) → All IsMade (process_blocks s i n outer next q)
  process_made s i n outer next (process many x gs es ps (body ss from to) p) lawful c =
      let own = scope_at s.blocks.scopes next in
      let count = passed_entries own (passed_groups own 0 gs) es in
      let around = level i (passed (scope_at s.blocks.scopes i) n x) ∷ outer in
      All-append IsMade (parts_blocks s true next count around (next + 1) ps) _
      (parts_made s of_other true next count around (next + 1) ps lawful.2 c.0)
      (All-cons IsMade _ [] (record { own = own_first next (sees around next); labelled = some_labelled ss lawful.3; guard = tt; around = tt })
      (All-nil IsMade))

-- ## Initialising bodies

module_inits_made :
    (s : State) (h : Home) (n next : ℕ) (m : ModuleTree) → IsLawfulModule h (forget_module m) → All IsMade (module_inits s n next m)
module_inits_made s h n next (the_module x exports ps None last p) lawful = All-nil IsMade
module_inits_made s h n next (the_module x exports ps (Some (body ss from to)) last p) lawful =
    All-cons IsMade _ [] (record { own = own_first next (sees (level 0 n ∷ []) next); labelled = some_labelled ss lawful.2; guard = tt; around = tt })
    (All-nil IsMade)

part_inits_made : (s : State) (h : Home) (n next : ℕ) (q : PartTree) → IsLawfulPart h (forget_part q) → All IsMade (part_inits s n next q)
part_inits_made s h n next (consts items) lawful = All-nil IsMade
part_inits_made s h n next (types items) lawful = All-nil IsMade
part_inits_made s h n next (vars vs) lawful = All-nil IsMade
part_inits_made s h n next (sub_part b) lawful = All-nil IsMade
part_inits_made s h n next (monitor m) lawful = module_inits_made s of_other n next m lawful.1
part_inits_made s h n next (resource m) lawful = module_inits_made s of_resource n next m lawful.1
part_inits_made s h n next (process_part p) lawful = All-nil IsMade

inits_made : (s : State) (n next : ℕ) (qs : PartTrees) → AreLawfulParts of_program (forget_parts qs) → All IsMade (parts_inits s n next qs)
inits_made s n next no_parts lawful = All-nil IsMade
inits_made s n next (more_parts q qs) lawful =
    let further = passed_part (scope_at s.blocks.scopes 0) n q in
    All-append IsMade (part_inits s n next q) (parts_inits s further (next + part_scopes q) qs) (part_inits_made s of_program n next q lawful.0)
    (inits_made s further (next + part_scopes q) qs lawful.1)

-- an initialising body is no process's
abbrev pub IsOutside : Block → Type 0
IsOutside b = (b.env.around.process ≡ false) × (b.env.around.guarded ≡ false)

module_inits_outside : (s : State) (n next : ℕ) (m : ModuleTree) → All IsOutside (module_inits s n next m)
module_inits_outside s n next (the_module x exports ps None last p) = All-nil IsOutside
module_inits_outside s n next (the_module x exports ps (Some (body ss from to)) last p) = All-cons IsOutside _ [] (refl, refl) (All-nil IsOutside)

part_inits_outside : (s : State) (n next : ℕ) (q : PartTree) → All IsOutside (part_inits s n next q)
part_inits_outside s n next (consts items) = All-nil IsOutside
part_inits_outside s n next (types items) = All-nil IsOutside
part_inits_outside s n next (vars vs) = All-nil IsOutside
part_inits_outside s n next (sub_part b) = All-nil IsOutside
part_inits_outside s n next (monitor m) = module_inits_outside s n next m
part_inits_outside s n next (resource m) = module_inits_outside s n next m
part_inits_outside s n next (process_part p) = All-nil IsOutside

pub inits_outside : (s : State) (n next : ℕ) (qs : PartTrees) → All IsOutside (parts_inits s n next qs)
inits_outside s n next no_parts = All-nil IsOutside
inits_outside s n next (more_parts q qs) =
    let further = passed_part (scope_at s.blocks.scopes 0) n q in
    All-append IsOutside (part_inits s n next q) (parts_inits s further (next + part_scopes q) qs) (part_inits_outside s n next q)
    (inits_outside s further (next + part_scopes q) qs)

-- ## The program

pub blocks_made : (t : ProgramTree) → IsLawful (forget_program t) → IsClean (broken_bodies (finished t) t) → All IsMade (program_of t).blocks
blocks_made t lawful c = parts_made (finished t) of_program false 0 0 [] 1 t.parts lawful.0 c.0

pub modules_made : (t : ProgramTree) → IsLawful (forget_program t) → All IsMade (program_of t).modules
modules_made t lawful = inits_made (finished t) 0 1 t.parts lawful.0

pub main_made : (t : ProgramTree) → IsLawful (forget_program t) → IsMade (program_of t).main
main_made t lawful = by t.body lawful.1
  where
    s : State
    s = finished t

    by : (b : BodyTree) → IsLawfulBody (forget_body b)
        → IsMade (block_of 0 0 (env_of_main s) (1 + parts_scopes t.parts) b (main_layout s.blocks (scope_at s.blocks.scopes 0)) 0 None)
    by (body ss from to) h = record { own = own_first 0 false; labelled = some_labelled ss h; guard = tt; around = tt }

pub main_outside : (t : ProgramTree) → IsOutside (program_of t).main
main_outside t = by t.body
  where
    s : State
    s = finished t

    by : (b : BodyTree)
        → IsOutside (block_of 0 0 (env_of_main s) (1 + parts_scopes t.parts) b (main_layout s.blocks (scope_at s.blocks.scopes 0)) 0 None)
    by (body ss from to) = (refl, refl)

-- ## Blocks that headings name

abbrev pub scopes_of : List Block → List ℕ
scopes_of bs = map (λ (b : Block). b.scope) bs

scopes_append : (j : ℕ) (a b : List Block) → among j (scopes_of (a ++ b)) ≡ (among j (scopes_of a) || among j (scopes_of b))
scopes_append j a b = ap (λ (l : List ℕ). among j l) (map-append (λ (x : Block). x.scope) a b) ∙ among_append j (scopes_of a) (scopes_of b)

either : (x y z w : Bool) → (x || y) ≡ true → (x ≡ true → z ≡ true) → (y ≡ true → w ≡ true) → (z || w) ≡ true
either true y z w e f g = ap (λ (r : Bool). r || w) (f refl)
either false true true w e f g = refl
either false true false w e f g = g refl
either false false z w e f g = absurd (cc)

join :
    (j : ℕ) (is js : List ℕ) (a b : List Block) → among j (is ++ js) ≡ true → (among j is ≡ true → among j (scopes_of a) ≡ true)
    → (among j js ≡ true → among j (scopes_of b) ≡ true) → among j (scopes_of (a ++ b)) ≡ true
join j is js a b e f g =
    scopes_append j a b ∙ either (among j is) (among j js) (among j (scopes_of a)) (among j (scopes_of b)) (sym (among_append j is js) ∙ e) f g

-- the block behind its inner ones
own_or_inner :
    (j next : ℕ) (is : List ℕ) (a : List Block) (b : Block) → b.scope ≡ next → (next == j || among j is) ≡ true
    → (among j is ≡ true → among j (scopes_of a) ≡ true) → among j (scopes_of (a ++ b ∷ [])) ≡ true
own_or_inner j next is a b scope e f =
    scopes_append j a (b ∷ []) ∙ by (among j (scopes_of a)) (next == j) (among j is) e f
    (λ same. ap (λ (k : ℕ). k == j || false) scope ∙ ap (λ (r : Bool). r || false) same)
  where
    by : (z x y : Bool) → (x || y) ≡ true → (y ≡ true → z ≡ true) → (x ≡ true → (b.scope == j || false) ≡ true) → (z || (b.scope == j || false)) ≡ true
    by true x y e f g = refl
    by false true y e f g = g refl
    by false false true e f g = let both : false ≡ true = f refl in absurd (cc)
    by false false false e f g = absurd (cc)

inner_there : (j : ℕ) (a : List Block) (b : Block) → among j (scopes_of a) ≡ true → among j (scopes_of (a ++ b ∷ [])) ≡ true
inner_there j a b h = scopes_append j a (b ∷ []) ∙ ap (λ (r : Bool). r || among j (scopes_of (b ∷ []))) h

mutual
  part_there :
      (s : State) (in_process : Bool) (i n : ℕ) (outer : List Level) (next : ℕ) (q : PartTree) (j : ℕ) → among j (part_subs next q) ≡ true
      → among j (scopes_of (part_blocks s in_process i n outer next q)) ≡ true
  part_there s in_process i n outer next (consts items) j e = e
  part_there s in_process i n outer next (types items) j e = e
  part_there s in_process i n outer next (vars vs) j e = e
  part_there s in_process i n outer next (sub_part b) j e = sub_there s in_process i n outer next b j e
  part_there s in_process i n outer next (monitor m) j e = module_there s i n outer next m j e
  part_there s in_process i n outer next (resource m) j e = module_there s i n outer next m j e
  part_there s in_process i n outer next (process_part p) j e = in_process_there s i n outer next p j e

  pub parts_there :
      (s : State) (in_process : Bool) (i n : ℕ) (outer : List Level) (next : ℕ) (qs : PartTrees) (j : ℕ) → among j (parts_subs next qs) ≡ true
      → among j (scopes_of (parts_blocks s in_process i n outer next qs)) ≡ true
  parts_there s in_process i n outer next no_parts j e = e
  parts_there s in_process i n outer next (more_parts q qs) j e =
      let further = passed_part (scope_at s.blocks.scopes i) n q in
      join j (part_subs next q) (parts_subs (next + part_scopes q) qs) (part_blocks s in_process i n outer next q)
      (parts_blocks s in_process i further outer (next + part_scopes q) qs) e (part_there s in_process i n outer next q j)
      (parts_there s in_process i further outer (next + part_scopes q) qs j)

  sub_there :
      (s : State) (in_process : Bool) (i n : ℕ) (outer : List Level) (next : ℕ) (b : SubTree) (j : ℕ) → among j (sub_subs next b) ≡ true
      → among j (scopes_of (sub_blocks s in_process i n outer next b)) ≡ true
  sub_there s in_process i n outer next (sub x gs kind ps (body ss from to) p) j e =
      let own = scope_at s.blocks.scopes next in
      let around = level i (passed (scope_at s.blocks.scopes i) n x) ∷ outer in
      own_or_inner j next (parts_subs (next + 1) ps) (parts_blocks s in_process next (passed_groups own 0 gs) around (next + 1) ps) _ refl e
      (parts_there s in_process next (passed_groups own 0 gs) around (next + 1) ps j)

  module_there :
      (s : State) (i n : ℕ) (outer : List Level) (next : ℕ) (m : ModuleTree) (j : ℕ) → among j (module_subs next m) ≡ true
      → among j (scopes_of (module_blocks s i n outer next m)) ≡ true
  module_there s i n outer next (the_module x exports ps b last p) j e = parts_there s false next 0 (level i n ∷ outer) (next + 1) ps j e

  in_process_there :
      (s : State) (i n : ℕ) (outer : List Level) (next : ℕ) (q : ProcessTree) (j : ℕ) → among j (process_subs next q) ≡ true
      → among j (scopes_of (process_blocks s i n outer next q)) ≡ true
  in_process_there s i n outer next (process many x gs es ps (body ss from to) p) j e =
      let own = scope_at s.blocks.scopes next in
      let count = passed_entries own (passed_groups own 0 gs) es in
      let around = level i (passed (scope_at s.blocks.scopes i) n x) ∷ outer in
      inner_there j (parts_blocks s true next count around (next + 1) ps) _ (parts_there s true next count around (next + 1) ps j e)

-- ## Processes

own_process : (s : State) (n next : ℕ) (p : ProcessTree) → among next (scopes_of (process_blocks s 0 n [] next p)) ≡ true
own_process s n next (process many x gs es ps (body ss from to) p) =
    let own = scope_at s.blocks.scopes next in
    let count = passed_entries own (passed_groups own 0 gs) es in
    let around = level 0 (passed (scope_at s.blocks.scopes 0) n x) ∷ [] in
    own_or_inner next next [] (parts_blocks s true next count around (next + 1) ps) _ refl (own_first next false) (λ e. absurd (cc))

-- a block that stands behind others
behind_there : (j : ℕ) (a b : List Block) → among j (scopes_of b) ≡ true → among j (scopes_of (a ++ b)) ≡ true
behind_there j a b h = scopes_append j a b ∙ by (among j (scopes_of a)) (among j (scopes_of b)) h
  where
    by : (x y : Bool) → y ≡ true → (x || y) ≡ true
    by true y e = refl
    by false y e = e

pub processes_there :
    (s : State) (n next : ℕ) (qs : PartTrees) (j : ℕ) → among j (processes_from next qs) ≡ true
    → among j (scopes_of (parts_blocks s false 0 n [] next qs)) ≡ true
processes_there s n next no_parts j e = e
processes_there s n next (more_parts (consts items) qs) j e =
    processes_there s (passed_part (scope_at s.blocks.scopes 0) n (consts items)) (next + 0) qs j e
processes_there s n next (more_parts (types items) qs) j e =
    processes_there s (passed_part (scope_at s.blocks.scopes 0) n (types items)) (next + 0) qs j e
processes_there s n next (more_parts (vars vs) qs) j e =
    processes_there s (passed_part (scope_at s.blocks.scopes 0) n (vars vs)) (next + 0) qs j e
processes_there s n next (more_parts (sub_part b) qs) j e =
    let q = sub_part b in
    let further = passed_part (scope_at s.blocks.scopes 0) n q in
    behind_there j (part_blocks s false 0 n [] next q) (parts_blocks s false 0 further [] (next + part_scopes q) qs)
    (processes_there s further (next + part_scopes q) qs j e)
processes_there s n next (more_parts (monitor m) qs) j e =
    let q = monitor m in
    let further = passed_part (scope_at s.blocks.scopes 0) n q in
    behind_there j (part_blocks s false 0 n [] next q) (parts_blocks s false 0 further [] (next + part_scopes q) qs)
    (processes_there s further (next + part_scopes q) qs j e)
processes_there s n next (more_parts (resource m) qs) j e =
    let q = resource m in
    let further = passed_part (scope_at s.blocks.scopes 0) n q in
    behind_there j (part_blocks s false 0 n [] next q) (parts_blocks s false 0 further [] (next + part_scopes q) qs)
    (processes_there s further (next + part_scopes q) qs j e)
processes_there s n next (more_parts (process_part p) qs) j e =
    let q = process_part p in
    let further = passed_part (scope_at s.blocks.scopes 0) n q in
    scopes_append j (part_blocks s false 0 n [] next q) (parts_blocks s false 0 further [] (next + part_scopes q) qs)
    ∙ either (next == j) (among j (processes_from (next + part_scopes q) qs)) (among j (scopes_of (part_blocks s false 0 n [] next q)))
    (among j (scopes_of (parts_blocks s false 0 further [] (next + part_scopes q) qs))) e
    (λ same. subst (λ (k : ℕ). among k (scopes_of (part_blocks s false 0 n [] next q)) ≡ true) (equal_number next j same) (own_process s n next p))
    (processes_there s further (next + part_scopes q) qs j)

pub processes_behind : (next : ℕ) (qs : PartTrees) (j : ℕ) → among j (processes_from next qs) ≡ true → next ≤ j
processes_behind next no_parts j e = absurd (cc)
processes_behind next (more_parts (consts items) qs) j e = let low = processes_behind (next + 0) qs j e in omega (arith, low)
processes_behind next (more_parts (types items) qs) j e = let low = processes_behind (next + 0) qs j e in omega (arith, low)
processes_behind next (more_parts (vars vs) qs) j e = let low = processes_behind (next + 0) qs j e in omega (arith, low)
processes_behind next (more_parts (sub_part b) qs) j e = let low = processes_behind (next + part_scopes (sub_part b)) qs j e in omega (arith, low)
processes_behind next (more_parts (monitor m) qs) j e = let low = processes_behind (next + part_scopes (monitor m)) qs j e in omega (arith, low)
processes_behind next (more_parts (resource m) qs) j e = let low = processes_behind (next + part_scopes (resource m)) qs j e in omega (arith, low)
processes_behind next (more_parts (process_part p) qs) j e =
    by (next == j) refl e (λ q. processes_behind (next + part_scopes (process_part p)) qs j q)
  where
    by : (r : Bool) → (next == j) ≡ r → (r || among j (processes_from (next + part_scopes (process_part p)) qs)) ≡ true
        → (among j (processes_from (next + part_scopes (process_part p)) qs) ≡ true → next + part_scopes (process_part p) ≤ j) → next ≤ j
    by true same q rest = let is = equal_number next j same in omega (arith, is)
    by false same q rest = let low = rest q in omega (arith, low)

-- a scope behind a part is that of no sub in it
behind_part :
    (s : State) (next : ℕ) (q : PartTree) (qs : PartTrees) (j : ℕ) → next + part_scopes q ≤ j → among j (parts_subs (next + part_scopes q) qs) ≡ false
    → among j (parts_subs next (more_parts q qs)) ≡ false
behind_part s next q qs j low rest =
    among_append j (part_subs next q) (parts_subs (next + part_scopes q) qs)
    ∙ ap (λ (r : Bool). r || among j (parts_subs (next + part_scopes q) qs)) (part_out s false 0 0 [] next q j (λ u v. omega (arith, low, v))).subs ∙ rest

no_sub_in : (s : State) (next : ℕ) (p : ProcessTree) → among next (process_subs next p) ≡ false
no_sub_in s next (process many x gs es ps b p) = (parts_out s false next 0 [] (next + 1) ps next (λ u v. omega (arith, u))).subs

pub process_opens : (p : ProcessTree) → 0 < process_scopes p
process_opens (process many x gs es ps b p) = omega arith

-- no sub has the scope of a process
pub processes_apart :
    (s : State) (next : ℕ) (qs : PartTrees) (j : ℕ) → among j (processes_from next qs) ≡ true → among j (parts_subs next qs) ≡ false
processes_apart s next no_parts j e = refl
processes_apart s next (more_parts (consts items) qs) j e =
    behind_part s next (consts items) qs j (processes_behind (next + 0) qs j e) (processes_apart s (next + 0) qs j e)
processes_apart s next (more_parts (types items) qs) j e =
    behind_part s next (types items) qs j (processes_behind (next + 0) qs j e) (processes_apart s (next + 0) qs j e)
processes_apart s next (more_parts (vars vs) qs) j e =
    behind_part s next (vars vs) qs j (processes_behind (next + 0) qs j e) (processes_apart s (next + 0) qs j e)
processes_apart s next (more_parts (sub_part b) qs) j e =
    behind_part s next (sub_part b) qs j (processes_behind (next + part_scopes (sub_part b)) qs j e)
    (processes_apart s (next + part_scopes (sub_part b)) qs j e)
processes_apart s next (more_parts (monitor m) qs) j e =
    behind_part s next (monitor m) qs j (processes_behind (next + part_scopes (monitor m)) qs j e)
    (processes_apart s (next + part_scopes (monitor m)) qs j e)
processes_apart s next (more_parts (resource m) qs) j e =
    behind_part s next (resource m) qs j (processes_behind (next + part_scopes (resource m)) qs j e)
    (processes_apart s (next + part_scopes (resource m)) qs j e)
processes_apart s next (more_parts (process_part p) qs) j e =
    by (next == j) refl e (λ q. processes_apart s (next + part_scopes (process_part p)) qs j q)
  where
    rest : ℕ
    rest = next + part_scopes (process_part p)

    mine : among next (parts_subs next (more_parts (process_part p) qs)) ≡ false
    mine =
        among_append next (process_subs next p) (parts_subs rest qs) ∙ ap (λ (r : Bool). r || among next (parts_subs rest qs)) (no_sub_in s next p)
        ∙ (let some = process_opens p in parts_out s false 0 0 [] rest qs next (λ u v. omega (arith, u, some))).subs

    by : (r : Bool) → (next == j) ≡ r → (r || among j (processes_from rest qs)) ≡ true
        → (among j (processes_from rest qs) ≡ true → among j (parts_subs rest qs) ≡ false) → among j (parts_subs next (more_parts (process_part p) qs)) ≡ false
    by true same q others = subst (λ (k : ℕ). among k (parts_subs next (more_parts (process_part p) qs)) ≡ false) (equal_number next j same) mine
    by false same q others = behind_part s next (process_part p) qs j (processes_behind rest qs j q) (others q)
