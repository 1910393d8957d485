-- In a lawful program a procedure with a guard is declared in a resource.
use Rattle.std.proofs.Common.{◌≡◌, ℕ, zero, suc, ◌+◌, ◌<◌, ◌≤◌, ◌⊎◌, inl, inr, ◌==◌, Bool, true, false, not, cond, nat_lt, List, [], ◌∷◌, ◌++◌, length, take}
use Rattle.std.proofs.Common.{drop, get_or, position, Option, Some, None, refl, ap, ◌∙◌, sym, subst, arith, length-append}
use Rattle.std.specs.Prelude.{slice_get}
use Rattle.std.specs.List.{position_or_len}
use Rattle.std.proofs.lemmas.Option.{none-some, same_Some, slice_get-get_or}
use Rattle.std.proofs.lemmas.List.Quantifiers.{position-Some}
use Rattle.std.proofs.lemmas.Bool.Decides.{nat_tests}
use Rattle.std.proofs.lemmas.List.{append_assoc}
use Rattle.pfc_code.specs.declared.images.Block.{Block as CodeBlock}
use Rattle.pfc_tree.specs.trees.Stmts.{BodyTree, body}
use Rattle.pfc_tree.specs.trees.Parts.{KindTree, PartTree, PartTrees, SubTree, ModuleTree, ProcessTree, ProgramTree, procedure, function, guarded, consts}
use Rattle.pfc_tree.specs.trees.Parts.{types, vars, sub_part, monitor, resource, process_part, no_parts, more_parts, sub, the_module, process}
use Rattle.pfc_tree.specs.forget.Parts.{forget_kind, forget_part, forget_parts, forget_sub, forget_module, forget_process, forget_program}
use Rattle.pfc_tree.specs.lawful.Parts.{Home, of_program, of_resource, of_other, HoldsModules, HoldsGuarded, IsLawfulKind, IsLawfulPart, AreLawfulParts}
use Rattle.pfc_tree.specs.lawful.Parts.{IsLawfulSub, IsLawfulModule, IsLawfulProcess, IsLawful}
use Rattle.pfc_types.specs.Scopes.{Level, scope_at, here}
use Rattle.pfc_types.specs.Blocks.{State, module_at, no_module}
use Rattle.pfc_types.specs.declared.heads.ModuleHead.{ModuleHead}
use Rattle.pfc_types.specs.rules.Expressions.{Env}
use Rattle.pfc_types.specs.rules.Statements.{body_scopes}
use Rattle.pfc_types.specs.rules.Bodies.{env_at, around_process, around_sub, around_guard, passed, passed_part, passed_groups, passed_entries, part_scopes}
use Rattle.pfc_types.specs.rules.Bodies.{parts_scopes, level}
use Rattle.pfc_semantics.specs.Layouts.{Layout, sub_layout_at, process_layout}
use Rattle.pfc_semantics.specs.Objects.{of_kind, module_number}
use Rattle.pfc_semantics.specs.Programs.{Block, Guard, block_of, guard_of, part_blocks, parts_blocks, sub_blocks, module_blocks, process_blocks, program_of}
use Rattle.pfc_translation.specs.Sites.{module_of}
use Rattle.pfc_translation.specs.Calls.{number_or_none, resource_of}
use Rattle.pfc_translation.specs.Images.{site_in, image_of}
use Rattle.pfc_standing_code.specs.Settings.{Setting}
use Rattle.pfc_image_laws.specs.Modules.{modules_from}
use Rattle.pfc_image_laws.proofs.Modules.{program_modules, module_numbered, image_scans}
use Rattle.pfc_standing_images.specs.Images.{IsOfImage}
use Rattle.pfc_standing_images.proofs.Scans.{turn_follows, AreBelow, with_more, headed_below}

-- ## Guards among the parts of a block

-- a block without a guard, or one that is declared in the scope i, where guarded procedures may stand
abbrev MayGuard : Home → ℕ → Block → Type 0
MayGuard h i b = (b.guard ≡ None) ⊎ (HoldsGuarded h × (b.outer ≡ i))

abbrev Guards : Home → ℕ → List Block → Type 0
Guards h i [] = Unit {0}
Guards h i (b ∷ bs) = MayGuard h i b × Guards h i bs

guards_append : (h : Home) (i : ℕ) (bs cs : List Block) → Guards h i bs → Guards h i cs → Guards h i (bs ++ cs)
guards_append h i [] cs g l = l
guards_append h i (b ∷ bs) cs g l = (g.0, guards_append h i bs cs g.1 l)

-- where none may stand there is none
unguarded : (h : Home) (i j : ℕ) (b : Block) → MayGuard of_other j b → MayGuard h i b
unguarded h i j b (inl none) = inl none
unguarded h i j b (inr some) = absurd some.0

all_unguarded : (h : Home) (i j : ℕ) (bs : List Block) → Guards of_other j bs → Guards h i bs
all_unguarded h i j [] g = tt
all_unguarded h i j (b ∷ bs) g = (unguarded h i j b g.0, all_unguarded h i j bs g.1)

block_guard : (scope i : ℕ) (env : Env) (next : ℕ) (b : BodyTree) (layout : Layout) (accepts : ℕ) (guard : Option Guard)
    → ((block_of scope i env next b layout accepts guard).guard ≡ guard) × ((block_of scope i env next b layout accepts guard).outer ≡ i)
block_guard scope i env next (body ss first last) layout accepts guard = (refl, refl)

kind_guards : (h : Home) (scope i : ℕ) (inner env : Env) (next : ℕ) (b : BodyTree) (layout : Layout) (kind : KindTree) → IsLawfulKind h (forget_kind kind)
    → MayGuard h i (block_of scope i env next b layout 0 (guard_of inner kind))
kind_guards h scope i inner env next b layout procedure lawful = inl (block_guard scope i env next b layout 0 None).0
kind_guards h scope i inner env next b layout (function x p) lawful = inl (block_guard scope i env next b layout 0 None).0
kind_guards h scope i inner env next b layout (guarded e p) lawful =
    inr (lawful.0, (block_guard scope i env next b layout 0 (guard_of inner (guarded e p))).1)

mutual
  parts_guards : (h : Home) (s : State) (inside : Bool) (i n : ℕ) (outer : List Level) (next : ℕ) (qs : PartTrees) → (HoldsModules h → ⊥)
      → AreLawfulParts h (forget_parts qs) → Guards h i (parts_blocks s inside i n outer next qs)
  parts_guards h s inside i n outer next no_parts apart lawful = tt
  parts_guards h s inside i n outer next (more_parts q qs) apart lawful =
      guards_append h i (part_blocks s inside i n outer next q)
      (parts_blocks s inside i (passed_part (scope_at s.blocks.scopes i) n q) outer (next + part_scopes q) qs)
      (part_guards h s inside i n outer next q apart lawful.0)
      (parts_guards h s inside i (passed_part (scope_at s.blocks.scopes i) n q) outer (next + part_scopes q) qs apart lawful.1)

  part_guards : (h : Home) (s : State) (inside : Bool) (i n : ℕ) (outer : List Level) (next : ℕ) (q : PartTree) → (HoldsModules h → ⊥)
      → IsLawfulPart h (forget_part q) → Guards h i (part_blocks s inside i n outer next q)
  part_guards h s inside i n outer next (consts items) apart lawful = tt
  part_guards h s inside i n outer next (types items) apart lawful = tt
  part_guards h s inside i n outer next (vars vs) apart lawful = tt
  part_guards h s inside i n outer next (sub_part b) apart lawful = sub_guards h s inside i n outer next b lawful
  part_guards h s inside i n outer next (monitor m) apart lawful = absurd (apart lawful.0)
  part_guards h s inside i n outer next (resource m) apart lawful = absurd (apart lawful.0)
  part_guards h s inside i n outer next (process_part q) apart lawful = absurd (apart lawful.0)

  sub_guards : (h : Home) (s : State) (inside : Bool) (i n : ℕ) (outer : List Level) (next : ℕ) (b : SubTree) → IsLawfulSub h (forget_sub b)
      → Guards h i (sub_blocks s inside i n outer next b)
  sub_guards h s inside i n outer next (sub x gs kind ps b p) lawful =
      let own = scope_at s.blocks.scopes next in
      let count = passed_groups own 0 gs in
      let around = level i (passed (scope_at s.blocks.scopes i) n x) ∷ outer in
      let inner = env_at s (level next count ∷ level i n ∷ outer) (around_guard i) in
      let env = env_at s (here s.blocks.scopes next around) (around_sub inside kind) in
      guards_append h i (parts_blocks s inside next count around (next + 1) ps)
      (block_of next i env (next + 1 + parts_scopes ps) b (sub_layout_at s.blocks next) 0 (guard_of inner kind) ∷ [])
      (all_unguarded h i next (parts_blocks s inside next count around (next + 1) ps)
      (parts_guards of_other s inside next count around (next + 1) ps (λ x. x) lawful.2))
      (kind_guards h next i inner env (next + 1 + parts_scopes ps) b (sub_layout_at s.blocks next) kind lawful.1, tt)

-- a module's parts have a home of their own
module_guards : (h : Home) (s : State) (i n : ℕ) (outer : List Level) (next : ℕ) (m : ModuleTree) → (HoldsModules h → ⊥)
    → IsLawfulModule h (forget_module m) → Guards h next (module_blocks s i n outer next m)
module_guards h s i n outer next (the_module x exports ps b last p) apart lawful =
    parts_guards h s false next 0 (level i n ∷ outer) (next + 1) ps apart lawful.1

process_guards : (s : State) (i n : ℕ) (outer : List Level) (next : ℕ) (q : ProcessTree) → IsLawfulProcess (forget_process q)
    → Guards of_other 0 (process_blocks s i n outer next q)
process_guards s i n outer next (process many x gs es ps b p) lawful =
    let own = scope_at s.blocks.scopes next in
    let count = passed_entries own (passed_groups own 0 gs) es in
    let around = level i (passed (scope_at s.blocks.scopes i) n x) ∷ outer in
    let inner = next + 1 + parts_scopes ps in
    let env = env_at s (here s.blocks.scopes next around) around_process in
    let layout = process_layout own (take (body_scopes b) (drop inner s.blocks.scopes)) in
    guards_append of_other 0 (parts_blocks s true next count around (next + 1) ps) (block_of next i env inner b layout (body_scopes b) None ∷ [])
    (all_unguarded of_other 0 next (parts_blocks s true next count around (next + 1) ps)
    (parts_guards of_other s true next count around (next + 1) ps (λ x. x) lawful.2))
    (inl (block_guard next i env inner b layout (body_scopes b) None).0, tt)

-- ## Modules of a program

-- a block without a guard, or one in a resource among these modules
abbrev InResource : List ModuleHead → Block → Type 0
InResource ms b =
    (b.guard ≡ None) ⊎ ((m : ℕ) × (position (λ x. x.scope == b.outer) ms ≡ Some m) × ((get_or ms m no_module).resource ≡ true))

abbrev AllIn : List ModuleHead → List Block → Type 0
AllIn ms [] = Unit {0}
AllIn ms (b ∷ bs) = InResource ms b × AllIn ms bs

in_append : (ms : List ModuleHead) (bs cs : List Block) → AllIn ms bs → AllIn ms cs → AllIn ms (bs ++ cs)
in_append ms [] cs h l = l
in_append ms (b ∷ bs) cs h l = (h.0, in_append ms bs cs h.1 l)

none_guarded : (h : Home) (ms : List ModuleHead) (i : ℕ) (b : Block) → (HoldsGuarded h → ⊥) → MayGuard h i b → InResource ms b
none_guarded h ms i b apart (inl none) = inl none
none_guarded h ms i b apart (inr some) = absurd (apart some.0)

none_in : (h : Home) (ms : List ModuleHead) (i : ℕ) (bs : List Block) → (HoldsGuarded h → ⊥) → Guards h i bs → AllIn ms bs
none_in h ms i [] apart g = tt
none_in h ms i (b ∷ bs) apart g = (none_guarded h ms i b apart g.0, none_in h ms i bs apart g.1)

module _ (ms : List ModuleHead) (next m : ℕ) (at : position (λ x. x.scope == next) ms ≡ Some m) (kind : (get_or ms m no_module).resource ≡ true) where
  one_in : (b : Block) → MayGuard of_resource next b → InResource ms b
  one_in b (inl none) = inl none
  one_in b (inr some) = inr (m, subst (λ i. position (λ x. x.scope == i) ms ≡ Some m) (sym some.1) at, kind)

  all_in : (bs : List Block) → Guards of_resource next bs → AllIn ms bs
  all_in [] g = tt
  all_in (b ∷ bs) g = (one_in b g.0, all_in bs g.1)

same_number : (n : ℕ) → (n == n) ≡ true
same_number n = grind (arith, nat_tests)

other_number : (i n : ℕ) → i < n → (i == n) ≡ false
other_number i n h = grind (arith, nat_tests)

-- a module is found by its scope, which is that of none before it
place_behind : (next : ℕ) (before rest : List ModuleHead) (r : Bool) → AreBelow next before
    → position_or_len (λ x. x.scope == next) (before ++ record { scope = next; resource = r } ∷ rest) ≡ length before
place_behind next [] rest r below =
    ap (λ (b : Bool). cond (not b) (1 + position_or_len (λ x. x.scope == next) rest) 0) (same_number next)
place_behind next (x ∷ before) rest r below =
    let inner = place_behind next before rest r below.2 in
    let behind = before ++ record { scope = next; resource = r } ∷ rest in
    ap (λ (b : Bool). cond (not b) (1 + position_or_len (λ y. y.scope == next) behind) 0) (other_number x.scope next below.1)
    ∙ omega (arith, inner)

found_behind : (next : ℕ) (before rest : List ModuleHead) (r : Bool) → AreBelow next before
    → position (λ x. x.scope == next) (before ++ record { scope = next; resource = r } ∷ rest) ≡ Some (length before)
found_behind next before rest r below =
    let all = before ++ record { scope = next; resource = r } ∷ rest in
    let at = position_or_len (λ (x : ModuleHead). x.scope == next) all in
    let is : at ≡ length before = place_behind next before rest r below in
    let within : at < length all = omega (arith, is, length-append before (record { scope = next; resource = r } ∷ rest)) in
    let test : nat_lt at (length all) ≡ true = grind (arith, nat_tests) in
    ap (λ (b : Bool). cond b (Some at) None) test ∙ ap Some is

head_behind : (before rest : List ModuleHead) (head : ModuleHead) → get_or (before ++ head ∷ rest) (length before) no_module ≡ head
head_behind [] rest head = refl
head_behind (x ∷ before) rest head = head_behind before rest head

-- the parts of a program, whatever modules stand before them
abbrev ProgramIn : State → PartTrees → Type 0
ProgramIn s qs =
    (n next : ℕ) (before : List ModuleHead) → AreBelow next before → 0 < next
    → AllIn (before ++ modules_from next qs) (parts_blocks s false 0 n [] next qs)

-- those behind a module
headed_in : (s : State) (n next further : ℕ) (before : List ModuleHead) (r : Bool) (qs : PartTrees)
    → AllIn ((before ++ record { scope = next; resource = r } ∷ []) ++ modules_from further qs) (parts_blocks s false 0 n [] further qs)
    → AllIn (before ++ (record { scope = next; resource = r } ∷ modules_from further qs)) (parts_blocks s false 0 n [] further qs)
headed_in s n next further before r qs h =
    subst (λ ms. AllIn ms (parts_blocks s false 0 n [] further qs))
    (append_assoc before (record { scope = next; resource = r } ∷ []) (modules_from further qs)) h

part_in : (s : State) (n next : ℕ) (before : List ModuleHead) (q : PartTree) (qs : PartTrees) → AreBelow next before → 0 < next
    → IsLawfulPart of_program (forget_part q) → ProgramIn s qs
    → AllIn (before ++ modules_from next (more_parts q qs)) (parts_blocks s false 0 n [] next (more_parts q qs))
part_in s n next before (consts items) qs below some lawful rest =
    rest (passed_part (scope_at s.blocks.scopes 0) n (consts items)) (next + 0) before (with_more next before below 0) (omega (arith, some))
part_in s n next before (types items) qs below some lawful rest =
    rest (passed_part (scope_at s.blocks.scopes 0) n (types items)) (next + 0) before (with_more next before below 0) (omega (arith, some))
part_in s n next before (vars vs) qs below some lawful rest =
    rest (passed_part (scope_at s.blocks.scopes 0) n (vars vs)) (next + 0) before (with_more next before below 0) (omega (arith, some))
part_in s n next before (sub_part b) qs below some lawful rest =
    let q = sub_part b in
    let k = part_scopes q in
    let n_then = passed_part (scope_at s.blocks.scopes 0) n q in
    let ms = before ++ modules_from next (more_parts q qs) in
    in_append ms (sub_blocks s false 0 n [] next b) (parts_blocks s false 0 n_then [] (next + k) qs)
    (none_in of_program ms 0 (sub_blocks s false 0 n [] next b) (λ x. x) (sub_guards of_program s false 0 n [] next b lawful))
    (rest n_then (next + k) before (with_more next before below k) (omega (arith, some)))
part_in s n next before (process_part p) qs below some lawful rest =
    let q = process_part p in
    let k = part_scopes q in
    let n_then = passed_part (scope_at s.blocks.scopes 0) n q in
    let ms = before ++ modules_from next (more_parts q qs) in
    in_append ms (process_blocks s 0 n [] next p) (parts_blocks s false 0 n_then [] (next + k) qs)
    (none_in of_other ms 0 (process_blocks s 0 n [] next p) (λ x. x) (process_guards s 0 n [] next p lawful.1))
    (rest n_then (next + k) before (with_more next before below k) (omega (arith, some)))
part_in s n next before (monitor m) qs below some lawful rest =
    let q = monitor m in
    let k = part_scopes q in
    let n_then = passed_part (scope_at s.blocks.scopes 0) n q in
    let ms = before ++ modules_from next (more_parts q qs) in
    in_append ms (module_blocks s 0 n [] next m) (parts_blocks s false 0 n_then [] (next + k) qs)
    (none_in of_other ms next (module_blocks s 0 n [] next m) (λ x. x) (module_guards of_other s 0 n [] next m (λ x. x) lawful.1))
    (headed_in s n_then next (next + k) before false qs
    (rest n_then (next + k) (before ++ record { scope = next; resource = false } ∷ []) (headed_below next before below m false some) (omega (arith, some))))
part_in s n next before (resource m) qs below some lawful rest =
    let q = resource m in
    let k = part_scopes q in
    let n_then = passed_part (scope_at s.blocks.scopes 0) n q in
    let behind = modules_from (next + k) qs in
    let head : ModuleHead = record { scope = next; resource = true } in
    in_append (before ++ head ∷ behind) (module_blocks s 0 n [] next m) (parts_blocks s false 0 n_then [] (next + k) qs)
    (all_in (before ++ head ∷ behind) next (length before) (found_behind next before behind true below)
    (ap (λ (x : ModuleHead). x.resource) (head_behind before behind head)) (module_blocks s 0 n [] next m)
    (module_guards of_resource s 0 n [] next m (λ x. x) lawful.1))
    (headed_in s n_then next (next + k) before true qs
    (rest n_then (next + k) (before ++ head ∷ []) (headed_below next before below m true some) (omega (arith, some))))

program_in : (s : State) (n next : ℕ) (before : List ModuleHead) (qs : PartTrees) → AreBelow next before → 0 < next
    → AreLawfulParts of_program (forget_parts qs) → AllIn (before ++ modules_from next qs) (parts_blocks s false 0 n [] next qs)
program_in s n next before no_parts below some lawful = tt
program_in s n next before (more_parts q qs) below some lawful =
    part_in s n next before q qs below some lawful.0 (λ m further all fewer more. program_in s m further all qs fewer more lawful.1)

-- ## One block

one_of : (ms : List ModuleHead) (bs : List Block) (k : ℕ) (b : Block) → AllIn ms bs → slice_get bs k ≡ Some b → InResource ms b
one_of ms [] k b all is = absurd (none-some b is)
one_of ms (x ∷ bs) zero b all is = subst (λ y. InResource ms y) (same_Some x b is) all.0
one_of ms (x ∷ bs) (suc k) b all is = one_of ms bs k b all.1 is

a_resource_there : (ms : List ModuleHead) (b : Block) (guard : Guard) → b.guard ≡ Some guard → InResource ms b
    → (m : ℕ) × (position (λ x. x.scope == b.outer) ms ≡ Some m) × ((get_or ms m no_module).resource ≡ true)
a_resource_there ms b guard is (inl none) = absurd (none-some guard (sym none ∙ is))
a_resource_there ms b guard is (inr there) = there

pub guarded_in_resource : (t : ProgramTree) (k : ℕ) (b : Block) (guard : Guard) → IsLawful (forget_program t)
    → slice_get (program_of t).blocks k ≡ Some b → b.guard ≡ Some guard
    → (m : ℕ) × (module_of (program_of t).state.blocks b.outer ≡ Some m) × ((module_at (program_of t).state.blocks m).resource ≡ true)
guarded_in_resource t k b guard lawful is has =
    let p = program_of t in
    let all = program_in p.state 0 1 [] t.parts tt (omega arith) lawful.0 in
    a_resource_there p.state.blocks.modules b guard has
    (subst (λ ms. InResource ms b) (sym (program_modules t lawful)) (one_of (modules_from 1 t.parts) p.blocks k b all is))

-- the turn of its resource's scan, which stands behind its guard
pub turn_there : (t : ProgramTree) (g : Setting) (k : ℕ) (b : Block) (guard : Guard) → IsLawful (forget_program t) → IsOfImage t g
    → slice_get g.program.blocks k ≡ Some b → b.guard ≡ Some guard
    → (turn : ℕ) × (slice_get (image_of t).scans (resource_of (site_in g.program b)) ≡ Some turn)
    × ((c : CodeBlock) → slice_get (image_of t).blocks k ≡ Some c → c.body ≤ turn)
turn_there t g k b guard lawful h is has =
    let there = guarded_in_resource t k b guard lawful (subst (λ p. slice_get p.blocks k ≡ Some b) h.program is) has in
    let m = there.0 in
    let blocks = (program_of t).state.blocks in
    let r = resource_of (site_in g.program b) in
    let around : module_of g.program.state.blocks b.outer ≡ Some m
    = subst (λ p. module_of p.state.blocks b.outer ≡ Some m) (sym h.program) there.1 in
    let kind : (module_at g.program.state.blocks m).resource ≡ true
    = subst (λ p. (module_at p.state.blocks m).resource ≡ true) (sym h.program) there.2 in
    let number : r ≡ module_number blocks m
    = ap (λ (o : Option ℕ). number_or_none g.program.state.blocks o) around ∙ ap (λ p. module_number p.state.blocks m) h.program in
    let found = position-Some (λ (x : ModuleHead). x.scope == b.outer) blocks.modules m no_module there.1 in
    let below : module_number blocks m < of_kind true blocks.modules
    = subst (λ x. module_number blocks m < of_kind x blocks.modules) there.2 (module_numbered blocks m found.0) in
    let count : length (image_of t).scans ≡ of_kind true blocks.modules = image_scans t lawful in
    let at : slice_get (image_of t).scans r ≡ Some (get_or (image_of t).scans r 0)
    = slice_get-get_or (image_of t).scans r 0 (omega (arith, number, below, count)) in
    (get_or (image_of t).scans r 0, at, λ c placed. turn_follows t g k m (get_or (image_of t).scans r 0) b c lawful h is placed around kind at)
