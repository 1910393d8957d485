-- The scopes of modules are not the program's, nor those of bodies; and guarded procedures stand in resources.
use Rattle.std.proofs.Common.{◌≡◌, ℕ, zero, suc, ◌+◌, ◌<◌, ◌||◌, ◌==◌, Bool, true, false, List, [], ◌∷◌, length, get_or, Option, Some, None, is_some, refl, sym}
use Rattle.std.proofs.Common.{subst, arith}
use Rattle.std.proofs.lemmas.Bool.Decides.{nat_tests}
use Rattle.std.proofs.lemmas.List.Quantifiers.{position-Some}
use Rattle.std.specs.List.{AllByRecursion}
use Rattle.pfc_tree.specs.trees.Stmts.{BodyTree, body}
use Rattle.pfc_tree.specs.trees.Parts.{PartTrees, ProgramTree, consts, types, vars, sub_part, monitor, resource, process_part, no_parts, more_parts}
use Rattle.pfc_tree.specs.forget.Parts.{forget_program}
use Rattle.pfc_tree.specs.lawful.Parts.{IsLawful}
use Rattle.pfc_types.specs.Scopes.{scope_at}
use Rattle.pfc_types.specs.Blocks.{Blocks, no_module, module_at}
use Rattle.pfc_types.specs.declared.heads.ModuleHead.{ModuleHead}
use Rattle.pfc_types.specs.rules.Bodies.{part_scopes, parts_scopes}
use Rattle.pfc_types.specs.rules.Whole.{finished}
use Rattle.pfc_semantics.specs.Layouts.{main_layout}
use Rattle.pfc_semantics.specs.Programs.{Block, Guard, block_at, block_number, block_of, env_of_main, program_of}
use Rattle.pfc_translation.specs.Sites.{module_of}
use Rattle.pfc_image_laws.specs.Modules.{modules_from}
use Rattle.pfc_image_laws.proofs.Modules.{program_modules}
use Rattle.pfc_nesting_laws.proofs.Numbered.{Every, Numbered, parts_numbered}
use Rattle.pfc_nesting_laws.proofs.Apart.{IsClear, parts_clear, not_mains}
use Rattle.pfc_standing_images.proofs.Guards.{guarded_in_resource}
use Rattle.pfc_guard_laws.proofs.Found.{guarded_there}

-- the scopes of modules begin behind the program's
module _ (d : ModuleHead) where
  first_or_later : (head : ModuleHead) (rest : List ModuleHead) (m : ℕ) → 0 < head.scope → m < length (head ∷ rest)
      → ((k : ℕ) → k < length rest → 0 < (get_or rest k d).scope) → 0 < (get_or (head ∷ rest) m d).scope
  first_or_later head rest zero some low later = some
  first_or_later head rest (suc m) some low later = later m (omega (arith, low))

  some_scope : (next : ℕ) (qs : PartTrees) (m : ℕ) → 0 < next → m < length (modules_from next qs) → 0 < (get_or (modules_from next qs) m d).scope
  some_scope next no_parts m some low = absurd (omega (arith, low))
  some_scope next (more_parts (consts items) qs) m some low = some_scope (next + 0) qs m (omega (arith, some)) low
  some_scope next (more_parts (types items) qs) m some low = some_scope (next + 0) qs m (omega (arith, some)) low
  some_scope next (more_parts (vars vs) qs) m some low = some_scope (next + 0) qs m (omega (arith, some)) low
  some_scope next (more_parts (sub_part b) qs) m some low = some_scope (next + part_scopes (sub_part b)) qs m (omega (arith, some)) low
  some_scope next (more_parts (process_part p) qs) m some low = some_scope (next + part_scopes (process_part p)) qs m (omega (arith, some)) low
  some_scope next (more_parts (monitor x) qs) m some low =
      first_or_later (record { scope = next; resource = false }) (modules_from (next + part_scopes (monitor x)) qs) m some low
      (λ k less. some_scope (next + part_scopes (monitor x)) qs k (omega (arith, some)) less)
  some_scope next (more_parts (resource x) qs) m some low =
      first_or_later (record { scope = next; resource = true }) (modules_from (next + part_scopes (resource x)) qs) m some low
      (λ k less. some_scope (next + part_scopes (resource x)) qs k (omega (arith, some)) less)

-- among modules of the program none has the program's scope
none_first : (ms : List ModuleHead) (qs : PartTrees) → ms ≡ modules_from 1 qs → (m : ℕ) → m < length ms → ((get_or ms m no_module).scope == 0) ≡ true → ⊥
none_first ms qs is m low e =
    let some = subst (λ (l : List ModuleHead). 0 < (get_or l m no_module).scope) (sym is)
    (some_scope no_module 1 qs m (omega arith) (subst (λ (l : List ModuleHead). m < length l) is low)) in
    positive (get_or ms m no_module).scope some e
  where
    positive : (n : ℕ) → 0 < n → (n == 0) ≡ true → ⊥
    positive n some e = grind (arith, nat_tests)

pub program_scope : (t : ProgramTree) → IsLawful (forget_program t) → module_of (finished t).blocks 0 ≡ None
program_scope t lawful = by (module_of (finished t).blocks 0) refl
  where
    by : (o : Option ℕ) → module_of (finished t).blocks 0 ≡ o → o ≡ None
    by None e = refl
    by (Some m) e =
        let found = position-Some (λ (x : ModuleHead). x.scope == 0) (finished t).blocks.modules m no_module e in
        absurd (none_first (finished t).blocks.modules t.parts (program_modules t lawful) m found.0 found.1)

-- ## Bodies

right_false : (a b : Bool) → (a || b) ≡ false → b ≡ false
right_false true b e = absurd (cc)
right_false false b e = e

none_there : (o : Option ℕ) → is_some o ≡ false → o ≡ None
none_there None e = refl
none_there (Some n) e = absurd (cc)

apart : (bs : Blocks) (qs : PartTrees) → bs.modules ≡ modules_from 1 qs → (xs : List Block) → Every (IsClear (modules_from 1 qs)) xs
    → (from to : ℕ) → 0 < from → Every (Numbered from to) xs → AllByRecursion (λ (x : Block). module_of bs x.scope ≡ None) xs
apart bs qs is [] clear from to some numbered = tt
apart bs qs is (b ∷ xs) clear from to some numbered = (
  none_there (module_of bs b.scope)
      (right_false (b.scope == 0) (is_some (module_of bs b.scope))
      (not_mains bs (modules_from 1 qs) b.scope is clear.0.own (let low = numbered.0.low in omega (arith, low, some)))),
  apart bs qs is xs clear.1 from to some numbered.1,
)

pub bodies_apart : (t : ProgramTree) → IsLawful (forget_program t)
    → AllByRecursion (λ (x : Block). module_of (finished t).blocks x.scope ≡ None) (program_of t).blocks
bodies_apart t lawful =
    apart (finished t).blocks t.parts (program_modules t lawful) (program_of t).blocks
    (parts_clear (finished t) false 0 0 [] 1 t.parts (omega arith) tt) 1 (1 + parts_scopes t.parts) (omega arith)
    (parts_numbered (finished t) false 0 0 [] 1 t.parts (omega arith) tt)

-- ## Guards

pub main_unguarded : (t : ProgramTree) → (program_of t).main.guard ≡ None
main_unguarded t = by t.body
  where
    by : (b : BodyTree)
        → (let layout = main_layout (finished t).blocks (scope_at (finished t).blocks.scopes 0) in
        block_of 0 0 (env_of_main (finished t)) (1 + parts_scopes t.parts) b layout 0 None).guard ≡ None
    by (body ss first last) = refl

pub guards_in_resources : (t : ProgramTree) → IsLawful (forget_program t) → (scope : ℕ) (guard : Guard) → (block_at (program_of t) scope).guard ≡ Some guard
    → (m : ℕ) × (module_of (finished t).blocks (block_at (program_of t) scope).outer ≡ Some m) × ((module_at (finished t).blocks m).resource ≡ true)
guards_in_resources t lawful scope guard e =
    let g = program_of t in
    guarded_in_resource t (block_number g (block_at g scope).scope) (block_at g scope) guard lawful (guarded_there g scope guard (main_unguarded t) e) e
