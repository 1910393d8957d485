-- The turn of a resource's scan stands behind the guards of its procedures: no more resources end before a body than before its module.
use Rattle.std.proofs.Common.{◌≡◌, ℕ, zero, suc, ◌+◌, ◌<◌, ◌≤◌, ◌⊎◌, inl, inr, ◌==◌, Bool, true, false, if◌then◌else◌, List, [], ◌∷◌, ◌++◌, length, map, take}
use Rattle.std.proofs.Common.{drop, Option, Some, None, refl, ap, ◌∙◌, sym, subst, arith}
use Rattle.std.specs.Prelude.{slice_get}
use Rattle.std.proofs.lemmas.Option.{none-some, same_Some, slice_get-get_or}
use Rattle.std.proofs.lemmas.Bool.Decides.{nat_tests}
use Rattle.std.proofs.lemmas.List.{append_assoc}
use Rattle.std.proofs.lemmas.List.Quantifiers.{position-Some}
use Rattle.pfc_code.specs.declared.images.Block.{Block as CodeBlock}
use Rattle.pfc_tree.specs.trees.Stmts.{BodyTree, body}
use Rattle.pfc_tree.specs.trees.Parts.{PartTree, PartTrees, SubTree, ModuleTree, ProcessTree, ProgramTree, consts, types, vars, sub_part, monitor, resource}
use Rattle.pfc_tree.specs.trees.Parts.{process_part, no_parts, more_parts, sub, the_module, process}
use Rattle.pfc_tree.specs.forget.Parts.{forget_program}
use Rattle.pfc_tree.specs.lawful.Parts.{IsLawful}
use Rattle.pfc_types.specs.Scopes.{Level, scope_at, here}
use Rattle.pfc_types.specs.Blocks.{State, module_at, no_module}
use Rattle.pfc_types.specs.declared.heads.ModuleHead.{ModuleHead}
use Rattle.pfc_types.specs.rules.Expressions.{Env}
use Rattle.pfc_types.specs.rules.Statements.{body_scopes}
use Rattle.pfc_types.specs.rules.Bodies.{env_at, around_process, around_sub, around_guard, passed, passed_part, passed_groups, passed_entries, part_scopes}
use Rattle.pfc_types.specs.rules.Bodies.{parts_scopes, module_scopes, level}
use Rattle.pfc_semantics.specs.Layouts.{Layout, sub_layout_at, process_layout}
use Rattle.pfc_semantics.specs.Objects.{of_kind, module_number}
use Rattle.pfc_semantics.specs.Programs.{Block, Guard, Program, block_of, guard_of, part_blocks, parts_blocks, sub_blocks, module_blocks, process_blocks}
use Rattle.pfc_semantics.specs.Programs.{part_inits, program_of}
use Rattle.pfc_translation.specs.Sites.{module_of}
use Rattle.pfc_translation.specs.Calls.{number_or_none, resource_of}
use Rattle.pfc_translation.specs.Images.{site_in, guard_code, statements_code, body_code, Piece, a_body, an_initial, a_resource, resource_end, pieces, coded}
use Rattle.pfc_translation.specs.Images.{before_main, blocks_from, scans_from, image_of}
use Rattle.pfc_standing_code.specs.Settings.{Setting}
use Rattle.pfc_image_laws.specs.Modules.{modules_from}
use Rattle.pfc_image_laws.proofs.Modules.{program_modules}
use Rattle.pfc_standing_images.specs.Images.{IsOfImage}
use Rattle.pfc_standing_images.proofs.Pieces.{bodies_in, bodies_of_parts}

-- ## The scopes around blocks

-- around the program's own blocks is its scope, 0, and around the others one from here on
abbrev IsFrom : ℕ → ℕ → Type 0
IsFrom low i = (i ≡ 0) ⊎ (low ≤ i)

abbrev AreFrom : ℕ → List Block → Type 0
AreFrom low [] = Unit {0}
AreFrom low (b ∷ bs) = IsFrom low b.outer × AreFrom low bs

from_append : (low : ℕ) (bs cs : List Block) → AreFrom low bs → AreFrom low cs → AreFrom low (bs ++ cs)
from_append low [] cs h l = l
from_append low (b ∷ bs) cs h l = (h.0, from_append low bs cs h.1 l)

around_block : (low scope i : ℕ) (env : Env) (next : ℕ) (b : BodyTree) (layout : Layout) (accepts : ℕ) (guard : Option Guard) → IsFrom low i
    → IsFrom low (block_of scope i env next b layout accepts guard).outer
around_block low scope i env next (body ss first last) layout accepts guard h = h

mutual
  parts_from : (low : ℕ) (s : State) (inside : Bool) (i n : ℕ) (outer : List Level) (next : ℕ) (qs : PartTrees) → IsFrom low i → low ≤ next
      → AreFrom low (parts_blocks s inside i n outer next qs)
  parts_from low s inside i n outer next no_parts h l = tt
  parts_from low s inside i n outer next (more_parts q qs) h l =
      from_append low (part_blocks s inside i n outer next q)
      (parts_blocks s inside i (passed_part (scope_at s.blocks.scopes i) n q) outer (next + part_scopes q) qs)
      (part_from low s inside i n outer next q h l)
      (parts_from low s inside i (passed_part (scope_at s.blocks.scopes i) n q) outer (next + part_scopes q) qs h (omega (arith, l)))

  part_from : (low : ℕ) (s : State) (inside : Bool) (i n : ℕ) (outer : List Level) (next : ℕ) (q : PartTree) → IsFrom low i → low ≤ next
      → AreFrom low (part_blocks s inside i n outer next q)
  part_from low s inside i n outer next (consts items) h l = tt
  part_from low s inside i n outer next (types items) h l = tt
  part_from low s inside i n outer next (vars vs) h l = tt
  part_from low s inside i n outer next (sub_part b) h l = sub_from low s inside i n outer next b h l
  part_from low s inside i n outer next (monitor m) h l = module_from low s i n outer next m h l
  part_from low s inside i n outer next (resource m) h l = module_from low s i n outer next m h l
  part_from low s inside i n outer next (process_part q) h l = process_from low s i n outer next q h l

  sub_from : (low : ℕ) (s : State) (inside : Bool) (i n : ℕ) (outer : List Level) (next : ℕ) (b : SubTree) → IsFrom low i → low ≤ next
      → AreFrom low (sub_blocks s inside i n outer next b)
  sub_from low s inside i n outer next (sub x gs kind ps b p) h l =
      let own = scope_at s.blocks.scopes next in
      let count = passed_groups own 0 gs in
      let around = level i (passed (scope_at s.blocks.scopes i) n x) ∷ outer in
      let guard = guard_of (env_at s (level next count ∷ level i n ∷ outer) (around_guard i)) kind in
      let env = env_at s (here s.blocks.scopes next around) (around_sub inside kind) in
      from_append low (parts_blocks s inside next count around (next + 1) ps)
      (block_of next i env (next + 1 + parts_scopes ps) b (sub_layout_at s.blocks next) 0 guard ∷ [])
      (parts_from low s inside next count around (next + 1) ps (inr l) (omega (arith, l)))
      (around_block low next i env (next + 1 + parts_scopes ps) b (sub_layout_at s.blocks next) 0 guard h, tt)

  module_from : (low : ℕ) (s : State) (i n : ℕ) (outer : List Level) (next : ℕ) (m : ModuleTree) → IsFrom low i → low ≤ next
      → AreFrom low (module_blocks s i n outer next m)
  module_from low s i n outer next (the_module x exports ps b last p) h l =
      parts_from low s false next 0 (level i n ∷ outer) (next + 1) ps (inr l) (omega (arith, l))

  process_from : (low : ℕ) (s : State) (i n : ℕ) (outer : List Level) (next : ℕ) (q : ProcessTree) → IsFrom low i → low ≤ next
      → AreFrom low (process_blocks s i n outer next q)
  process_from low s i n outer next (process many x gs es ps b p) h l =
      let own = scope_at s.blocks.scopes next in
      let count = passed_entries own (passed_groups own 0 gs) es in
      let around = level i (passed (scope_at s.blocks.scopes i) n x) ∷ outer in
      let inner = next + 1 + parts_scopes ps in
      let env = env_at s (here s.blocks.scopes next around) around_process in
      let layout = process_layout own (take (body_scopes b) (drop inner s.blocks.scopes)) in
      from_append low (parts_blocks s true next count around (next + 1) ps) (block_of next i env inner b layout (body_scopes b) None ∷ [])
      (parts_from low s true next count around (next + 1) ps (inr l) (omega (arith, l)))
      (around_block low next i env inner b layout (body_scopes b) None h, tt)

-- ## Resources before a body

-- of the modules ms no fewer resources stand before that around the block than j
abbrev Comes : List ModuleHead → ℕ → Block → Type 0
Comes ms j b = (m : ℕ) (head : ModuleHead) → slice_get ms m ≡ Some head → head.scope ≡ b.outer → j ≤ of_kind true (take m ms)

-- so with each body, where so many resources end before what stands in the text
abbrev AllCome : List ModuleHead → ℕ → List Piece → Type 0
AllCome ms j [] = Unit {0}
AllCome ms j (a_body b ∷ ps) = Comes ms j b × AllCome ms j ps
AllCome ms j (an_initial b ∷ ps) = AllCome ms j ps
AllCome ms j (a_resource line ∷ ps) = AllCome ms (j + 1) ps

-- the scopes of modules are none of the program's own, and below this one, or from it on
abbrev pub AreBelow : ℕ → List ModuleHead → Type 0
AreBelow next [] = Unit {0}
AreBelow next (m ∷ ms) = (0 < m.scope) × (m.scope < next) × AreBelow next ms

below_more : (a b : ℕ) (ms : List ModuleHead) → a ≤ b → AreBelow a ms → AreBelow b ms
below_more a b [] h l = tt
below_more a b (m ∷ ms) h l = (l.0, omega (arith, l.1, h), below_more a b ms h l.2)

below_append : (a : ℕ) (ms ns : List ModuleHead) → AreBelow a ms → AreBelow a ns → AreBelow a (ms ++ ns)
below_append a [] ns h l = l
below_append a (m ∷ ms) ns h l = (h.0, h.1, below_append a ms ns h.2 l)

-- a module whose scope is not below stands behind those before it, with as many resources before it or more
not_before : (next : ℕ) (before rest : List ModuleHead) (m : ℕ) (head : ModuleHead) → AreBelow next before
    → slice_get (before ++ rest) m ≡ Some head → next ≤ head.scope → of_kind true before ≤ of_kind true (take m (before ++ rest))
not_before next [] rest m head below is from = omega arith
not_before next (x ∷ before) rest zero head below is from =
    let same : x.scope ≡ head.scope = ap (λ (y : ModuleHead). y.scope) (same_Some x head is) in absurd (omega (arith, same, below.1, from))
not_before next (x ∷ before) rest (suc m) head below is from = by x.resource (not_before next before rest m head below.2 is from)
  where
    by : (r : Bool) → of_kind true before ≤ of_kind true (take m (before ++ rest))
        → of_kind true (record { scope = x.scope; resource = r } ∷ before) ≤ of_kind true (record { scope = x.scope; resource = r } ∷ take m (before ++ rest))
    by true h = omega (arith, h)
    by false h = h

-- the modules of a program have scopes of their own
some_scope : (next : ℕ) (qs : PartTrees) (m : ℕ) (head : ModuleHead) → 0 < next → slice_get (modules_from next qs) m ≡ Some head → 0 < head.scope
some_scope next no_parts m head some is = absurd (none-some head is)
some_scope next (more_parts (consts items) qs) m head some is = some_scope (next + part_scopes (consts items)) qs m head (omega (arith, some)) is
some_scope next (more_parts (types items) qs) m head some is = some_scope (next + part_scopes (types items)) qs m head (omega (arith, some)) is
some_scope next (more_parts (vars vs) qs) m head some is = some_scope (next + part_scopes (vars vs)) qs m head (omega (arith, some)) is
some_scope next (more_parts (sub_part b) qs) m head some is = some_scope (next + part_scopes (sub_part b)) qs m head (omega (arith, some)) is
some_scope next (more_parts (process_part q) qs) m head some is = some_scope (next + part_scopes (process_part q)) qs m head (omega (arith, some)) is
some_scope next (more_parts (monitor x) qs) zero head some is =
    let same : next ≡ head.scope = ap (λ (y : ModuleHead). y.scope) (same_Some (record { scope = next; resource = false }) head is) in omega (arith, same, some)
some_scope next (more_parts (monitor x) qs) (suc m) head some is = some_scope (next + part_scopes (monitor x)) qs m head (omega (arith, some)) is
some_scope next (more_parts (resource x) qs) zero head some is =
    let same : next ≡ head.scope = ap (λ (y : ModuleHead). y.scope) (same_Some (record { scope = next; resource = true }) head is) in omega (arith, same, some)
some_scope next (more_parts (resource x) qs) (suc m) head some is = some_scope (next + part_scopes (resource x)) qs m head (omega (arith, some)) is

scope_there : (next : ℕ) (before : List ModuleHead) (qs : PartTrees) (m : ℕ) (head : ModuleHead) → AreBelow next before → 0 < next
    → slice_get (before ++ modules_from next qs) m ≡ Some head → 0 < head.scope
scope_there next [] qs m head below some is = some_scope next qs m head some is
scope_there next (x ∷ before) qs zero head below some is = subst (λ (y : ModuleHead). 0 < y.scope) (same_Some x head is) below.0
scope_there next (x ∷ before) qs (suc m) head below some is = scope_there next before qs m head below.2 some is

-- the module around a body of the parts from here on does not stand before them
comes : (next : ℕ) (before : List ModuleHead) (qs : PartTrees) (b : Block) → AreBelow next before → 0 < next → IsFrom next b.outer
    → Comes (before ++ modules_from next qs) (of_kind true before) b
comes next before qs b below some (inl none) =
    λ m head is around. let there = scope_there next before qs m head below some is in absurd (omega (arith, there, around, none))
comes next before qs b below some (inr from) =
    λ m head is around. not_before next before (modules_from next qs) m head below is (omega (arith, from, around))

bodies_come : (next : ℕ) (before : List ModuleHead) (qs : PartTrees) (own : List Block) (ps : List Piece) → AreBelow next before → 0 < next
    → AreFrom next own → AllCome (before ++ modules_from next qs) (of_kind true before) ps
    → AllCome (before ++ modules_from next qs) (of_kind true before) (map a_body own ++ ps)
bodies_come next before qs [] ps below some from rest = rest
bodies_come next before qs (b ∷ own) ps below some from rest =
    (comes next before qs b below some from.0, bodies_come next before qs own ps below some from.1 rest)

initials_come : (ms : List ModuleHead) (j : ℕ) (inits : List Block) (ps : List Piece) → AllCome ms j ps → AllCome ms j (map an_initial inits ++ ps)
initials_come ms j [] ps rest = rest
initials_come ms j (b ∷ inits) ps rest = initials_come ms j inits ps rest

kinds_append : (ms : List ModuleHead) (scope : ℕ) (r : Bool)
    → of_kind true (ms ++ record { scope = scope; resource = r } ∷ []) ≡ of_kind true ms + (if r then 1 else 0)
kinds_append [] scope true = refl
kinds_append [] scope false = refl
kinds_append (m ∷ ms) scope r = by m.resource (kinds_append ms scope r)
  where
    by : (q : Bool) → of_kind true (ms ++ record { scope = scope; resource = r } ∷ []) ≡ of_kind true ms + (if r then 1 else 0)
        → of_kind true (record { scope = m.scope; resource = q } ∷ (ms ++ record { scope = scope; resource = r } ∷ []))
        ≡ of_kind true (record { scope = m.scope; resource = q } ∷ ms) + (if r then 1 else 0)
    by true h = omega (arith, h)
    by false h = h

-- the parts behind a module, with its heading before them
headed_come : (s : State) (n next further : ℕ) (before : List ModuleHead) (r : Bool) (qs : PartTrees) (j : ℕ)
    → of_kind true before + (if r then 1 else 0) ≡ j
    → AllCome ((before ++ record { scope = next; resource = r } ∷ []) ++ modules_from further qs)
    (of_kind true (before ++ record { scope = next; resource = r } ∷ [])) (pieces s n further qs)
    → AllCome (before ++ (record { scope = next; resource = r } ∷ modules_from further qs)) j (pieces s n further qs)
headed_come s n next further before r qs j count h =
    subst (λ ms. AllCome ms j (pieces s n further qs)) (append_assoc before (record { scope = next; resource = r } ∷ []) (modules_from further qs))
    (subst (λ x. AllCome ((before ++ record { scope = next; resource = r } ∷ []) ++ modules_from further qs) x (pieces s n further qs))
    (kinds_append before next r ∙ count) h)

module_some : (m : ModuleTree) → 0 < module_scopes m
module_some (the_module x exports ps b last p) = omega arith

module _ (next : ℕ) (before : List ModuleHead) (below : AreBelow next before) where
  pub with_more : (k : ℕ) → AreBelow (next + k) before
  with_more k = below_more next (next + k) before (omega arith) below

  pub headed_below : (m : ModuleTree) (r : Bool) → 0 < next → AreBelow (next + module_scopes m) (before ++ record { scope = next; resource = r } ∷ [])
  headed_below m r some =
      below_append (next + module_scopes m) before (record { scope = next; resource = r } ∷ []) (with_more (module_scopes m))
      (some, omega (arith, module_some m), tt)

-- what stands behind the bodies of a part
abbrev Behind : State → ℕ → ℕ → List ModuleHead → PartTree → PartTrees → Type 0
Behind s n next before q qs =
    AllCome (before ++ modules_from next (more_parts q qs)) (of_kind true before)
    (resource_end q ++ (map an_initial (part_inits s n next q) ++ pieces s (passed_part (scope_at s.blocks.scopes 0) n q) (next + part_scopes q) qs))

-- so with the parts behind, whatever stands before them
abbrev Come : State → PartTrees → Type 0
Come s qs =
    (n next : ℕ) (before : List ModuleHead) → AreBelow next before → 0 < next
    → AllCome (before ++ modules_from next qs) (of_kind true before) (pieces s n next qs)

behind_come : (s : State) (n next : ℕ) (before : List ModuleHead) (q : PartTree) (qs : PartTrees) → AreBelow next before → 0 < next → Come s qs
    → Behind s n next before q qs
behind_come s n next before (consts items) qs below some rest =
    rest (passed_part (scope_at s.blocks.scopes 0) n (consts items)) (next + 0) before (with_more next before below 0) (omega (arith, some))
behind_come s n next before (types items) qs below some rest =
    rest (passed_part (scope_at s.blocks.scopes 0) n (types items)) (next + 0) before (with_more next before below 0) (omega (arith, some))
behind_come s n next before (vars vs) qs below some rest =
    rest (passed_part (scope_at s.blocks.scopes 0) n (vars vs)) (next + 0) before (with_more next before below 0) (omega (arith, some))
behind_come s n next before (sub_part b) qs below some rest =
    let k = part_scopes (sub_part b) in
    rest (passed_part (scope_at s.blocks.scopes 0) n (sub_part b)) (next + k) before (with_more next before below k) (omega (arith, some))
behind_come s n next before (process_part p) qs below some rest =
    let k = part_scopes (process_part p) in
    rest (passed_part (scope_at s.blocks.scopes 0) n (process_part p)) (next + k) before (with_more next before below k) (omega (arith, some))
behind_come s n next before (monitor m) qs below some rest =
    let k = part_scopes (monitor m) in
    let n_then = passed_part (scope_at s.blocks.scopes 0) n (monitor m) in
    initials_come (before ++ modules_from next (more_parts (monitor m) qs)) (of_kind true before) (part_inits s n next (monitor m))
    (pieces s n_then (next + k) qs)
    (headed_come s n_then next (next + k) before false qs (of_kind true before) (omega arith)
    (rest n_then (next + k) (before ++ record { scope = next; resource = false } ∷ []) (headed_below next before below m false some)
    (omega (arith, some))))
behind_come s n next before (resource m) qs below some rest =
    let k = part_scopes (resource m) in
    let n_then = passed_part (scope_at s.blocks.scopes 0) n (resource m) in
    initials_come (before ++ modules_from next (more_parts (resource m) qs)) (of_kind true before + 1) (part_inits s n next (resource m))
    (pieces s n_then (next + k) qs)
    (headed_come s n_then next (next + k) before true qs (of_kind true before + 1) refl
    (rest n_then (next + k) (before ++ record { scope = next; resource = true } ∷ []) (headed_below next before below m true some)
    (omega (arith, some))))

all_come : (s : State) (n next : ℕ) (before : List ModuleHead) (qs : PartTrees) → AreBelow next before → 0 < next
    → AllCome (before ++ modules_from next qs) (of_kind true before) (pieces s n next qs)
all_come s n next before no_parts below some = tt
all_come s n next before (more_parts q qs) below some =
    bodies_come next before (more_parts q qs) (part_blocks s false 0 n [] next q)
    (resource_end q ++ (map an_initial (part_inits s n next q) ++ pieces s (passed_part (scope_at s.blocks.scopes 0) n q) (next + part_scopes q) qs))
    below some (part_from next s false 0 n [] next q (inl refl) (omega arith))
    (behind_come s n next before q qs below some (λ m further all fewer more. all_come s m further all qs fewer more))

-- ## Addresses

-- no scan of later code stands before it
scans_least : (p : Program) (ps : List Piece) (at number strings r a : ℕ)
    → slice_get (scans_from at (before_main (coded p number strings ps))) r ≡ Some a → at ≤ a
scans_least p [] at number strings r a e = absurd (none-some a e)
scans_least p (a_body b ∷ ps) at number strings r a e =
    let rest = scans_least p ps (at + (body_code p b).size) (number + 0) (strings + length (body_code p b).texts) r a e in omega (arith, rest)
scans_least p (an_initial b ∷ ps) at number strings r a e = scans_least p ps at (number + 0) (strings + length (statements_code p b).texts) r a e
scans_least p (a_resource line ∷ ps) at number strings zero a e = let same : at ≡ a = same_Some at a e in omega (arith, same)
scans_least p (a_resource line ∷ ps) at number strings (suc r) a e =
    let rest = scans_least p ps (at + 1) (number + 1) (strings + 0) r a e in omega (arith, rest)

-- each body comes behind so many resources
come_later : (ms : List ModuleHead) (ps : List Piece) (j k m : ℕ) (b : Block) (head : ModuleHead) → AllCome ms j ps → slice_get (bodies_in ps) k ≡ Some b
    → slice_get ms m ≡ Some head → head.scope ≡ b.outer → j ≤ of_kind true (take m ms)
come_later ms [] j k m b head all is there around = absurd (none-some b is)
come_later ms (a_body x ∷ ps) j zero m b head all is there around =
    let same : x.outer ≡ b.outer = ap (λ (y : Block). y.outer) (same_Some x b is) in all.0 m head there (around ∙ sym same)
come_later ms (a_body x ∷ ps) j (suc k) m b head all is there around = come_later ms ps j k m b head all.1 is there around
come_later ms (an_initial x ∷ ps) j k m b head all is there around = come_later ms ps j k m b head all is there around
come_later ms (a_resource line ∷ ps) j k m b head all is there around =
    let rest = come_later ms ps (j + 1) k m b head all is there around in omega (arith, rest)

scan_behind : (p : Program) (ms : List ModuleHead) (ps : List Piece) (others : List CodeBlock) (at number strings j k m r a : ℕ) (b : Block) (c : CodeBlock)
    (head : ModuleHead) → AllCome ms j ps → slice_get (bodies_in ps) k ≡ Some b
    → slice_get (blocks_from p at (before_main (coded p number strings ps)) ++ others) k ≡ Some c → slice_get ms m ≡ Some head → head.scope ≡ b.outer
    → of_kind true (take m ms) ≡ j + r → slice_get (scans_from at (before_main (coded p number strings ps))) r ≡ Some a → c.body ≤ a
scan_behind p ms [] others at number strings j k m r a b c head all is placed there around count scan = absurd (none-some b is)
scan_behind p ms (a_body x ∷ ps) others at number strings j zero m r a b c head all is placed there around count scan =
    let code = body_code p x in
    let guard = guard_code p x x.guard in
    let least : at + code.size ≤ a = scans_least p ps (at + code.size) (number + 0) (strings + length code.texts) r a scan in
    let same : at + guard.size ≡ c.body = ap (λ (y : CodeBlock). y.body) (same_Some _ c placed) in
    omega (arith, least, same)
scan_behind p ms (a_body x ∷ ps) others at number strings j (suc k) m r a b c head all is placed there around count scan =
    scan_behind p ms ps others (at + (body_code p x).size) (number + 0) (strings + length (body_code p x).texts) j k m r a b c head all.1 is placed there around
    count scan
scan_behind p ms (an_initial x ∷ ps) others at number strings j k m r a b c head all is placed there around count scan =
    scan_behind p ms ps others at (number + 0) (strings + length (statements_code p x).texts) j k m r a b c head all is placed there around count scan
scan_behind p ms (a_resource line ∷ ps) others at number strings j k m zero a b c head all is placed there around count scan =
    let later = come_later ms ps (j + 1) k m b head all is there around in absurd (omega (arith, later, count))
scan_behind p ms (a_resource line ∷ ps) others at number strings j k m (suc r) a b c head all is placed there around count scan =
    scan_behind p ms ps others (at + 1) (number + 1) (strings + 0) (j + 1) k m r a b c head all is placed there around (omega (arith, count)) scan

-- ## The image

same_scope : (i j : ℕ) → (i == j) ≡ true → i ≡ j
same_scope i j e = grind (arith, nat_tests)

-- the modules of a lawful program, for each body of its text
program_come : (t : ProgramTree) → IsLawful (forget_program t) → AllCome (program_of t).state.blocks.modules 0 (pieces (program_of t).state 0 1 t.parts)
program_come t lawful =
    subst (λ ms. AllCome ms 0 (pieces (program_of t).state 0 1 t.parts)) (sym (program_modules t lawful))
    (all_come (program_of t).state 0 1 [] t.parts tt (omega arith))

scan_follows : (t : ProgramTree) (k m at : ℕ) (b : Block) (c : CodeBlock) → IsLawful (forget_program t)
    → slice_get (program_of t).blocks k ≡ Some b → slice_get (image_of t).blocks k ≡ Some c
    → module_of (program_of t).state.blocks b.outer ≡ Some m → (module_at (program_of t).state.blocks m).resource ≡ true
    → slice_get (image_of t).scans (module_number (program_of t).state.blocks m) ≡ Some at → c.body ≤ at
scan_follows t k m at b c lawful is placed around kind scan =
    let p = program_of t in
    let ms = p.state.blocks.modules in
    let ps = pieces p.state 0 1 t.parts in
    let found = position-Some (λ (x : ModuleHead). x.scope == b.outer) ms m no_module around in
    let head = module_at p.state.blocks m in
    let there : slice_get ms m ≡ Some head = slice_get-get_or ms m no_module found.0 in
    let scope : head.scope ≡ b.outer = same_scope head.scope b.outer found.1 in
    let count : of_kind true (take m ms) ≡ 0 + module_number p.state.blocks m = ap (λ (x : Bool). of_kind x (take m ms)) (sym kind) ∙ omega arith in
    scan_behind p ms ps _ 0 0 0 0 k m (module_number p.state.blocks m) at b c head (program_come t lawful)
    (ap (λ (bs : List Block). slice_get bs k) (bodies_of_parts p.state 0 1 t.parts) ∙ is) placed there scope count scan

-- the same of a setting of the image, with the number of the resource as the code has it
pub turn_follows : (t : ProgramTree) (g : Setting) (k m turn : ℕ) (b : Block) (c : CodeBlock) → IsLawful (forget_program t) → IsOfImage t g
    → slice_get g.program.blocks k ≡ Some b → slice_get (image_of t).blocks k ≡ Some c
    → module_of g.program.state.blocks b.outer ≡ Some m → (module_at g.program.state.blocks m).resource ≡ true
    → slice_get (image_of t).scans (resource_of (site_in g.program b)) ≡ Some turn → c.body ≤ turn
turn_follows t g k m turn b c lawful h is placed around kind scan =
    let number : resource_of (site_in g.program b) ≡ module_number g.program.state.blocks m
    = ap (λ (o : Option ℕ). number_or_none g.program.state.blocks o) around in
    scan_follows t k m turn b c lawful (subst (λ p. slice_get p.blocks k ≡ Some b) h.program is) placed
    (subst (λ p. module_of p.state.blocks b.outer ≡ Some m) h.program around) (subst (λ p. (module_at p.state.blocks m).resource ≡ true) h.program kind)
    (subst (λ p. slice_get (image_of t).scans (module_number p.state.blocks m) ≡ Some turn) h.program
    (subst (λ r. slice_get (image_of t).scans r ≡ Some turn) number scan))
