-- Each module is found by its scope; and what is called from outside stands in its module.
use Rattle.std.proofs.Common.{◌≡◌, ℕ, zero, suc, ◌+◌, ◌<◌, ◌≤◌, ◌==◌, nat_lt, not, cond, ◌||◌, is_some, Bool, true, false, List, [], ◌∷◌, length, slice_get}
use Rattle.std.proofs.Common.{Option, Some, None, refl, sym, ap, ◌∙◌, subst, arith}
use Rattle.std.specs.List.{position_or_len}
use Rattle.std.proofs.lemmas.Bool.Decides.{nat_tests}
use Rattle.std.proofs.lemmas.Option.{slice_get-get_or}
use Rattle.pfc_tree.specs.trees.Parts.{PartTrees, ProgramTree, consts, types, vars, sub_part, monitor, resource, process_part, no_parts, more_parts}
use Rattle.pfc_tree.specs.forget.Parts.{forget_program}
use Rattle.pfc_tree.specs.lawful.Parts.{IsLawful}
use Rattle.pfc_types.specs.Blocks.{Blocks, module_at, no_module}
use Rattle.pfc_types.specs.declared.heads.ModuleHead.{ModuleHead}
use Rattle.pfc_types.specs.rules.Bodies.{part_scopes}
use Rattle.pfc_types.specs.rules.Whole.{finished, broken}
use Rattle.pfc_types.specs.declared.heads.Formal.{Formal}
use Rattle.pfc_types.specs.declared.heads.SubSort.{SubSort}
use Rattle.pfc_semantics.specs.Programs.{Block, Guard, Program, block_at, block_number, program_of}
use Rattle.pfc_translation.specs.Sites.{module_of, is_mains}
use Rattle.pfc_image_laws.specs.Modules.{modules_from}
use Rattle.pfc_image_laws.proofs.Modules.{program_modules}
use Rattle.pfc_image_cells.proofs.Trees.{module_opens}
use Rattle.pfc_standing_code.specs.Typed.{FromOutside}
use Rattle.pfc_call_laws.proofs.Places.{or_right}
use Rattle.pfc_callee_laws.specs.Callees.{IsCalledFrom, IsOfModule}
use Rattle.pfc_callee_laws.proofs.Calls.{nested_in_main}

one_module : (x y : ModuleHead) → Some x ≡ Some y → x ≡ y
one_module x y e = cc

abbrev found_at : List ModuleHead → ℕ → ℕ
found_at ms i = position_or_len (λ (m : ModuleHead). m.scope == i) ms

-- the scopes of the modules begin here
below_head : (next more : ℕ) (rest : List ModuleHead) (h m : ModuleHead) (n : ℕ) → h.scope ≡ next → slice_get (h ∷ rest) n ≡ Some m
    → ((j : ℕ) → slice_get rest j ≡ Some m → next + more ≤ m.scope) → next ≤ m.scope
below_head next more rest h m zero own e further = let is = ap (λ (x : ModuleHead). x.scope) (one_module h m e) in omega (arith, is, own)
below_head next more rest h m (suc j) own e further = let low = further j e in omega (arith, low)

pub begins : (next : ℕ) (qs : PartTrees) (n : ℕ) (m : ModuleHead) → slice_get (modules_from next qs) n ≡ Some m → next ≤ m.scope
begins next no_parts n m e = absurd (cc)
begins next (more_parts (consts items) qs) n m e = let low = begins (next + 0) qs n m e in omega (arith, low)
begins next (more_parts (types items) qs) n m e = let low = begins (next + 0) qs n m e in omega (arith, low)
begins next (more_parts (vars vs) qs) n m e = let low = begins (next + 0) qs n m e in omega (arith, low)
begins next (more_parts (sub_part b) qs) n m e = let low = begins (next + part_scopes (sub_part b)) qs n m e in omega (arith, low)
begins next (more_parts (process_part p) qs) n m e = let low = begins (next + part_scopes (process_part p)) qs n m e in omega (arith, low)
begins next (more_parts (monitor x) qs) n m e =
    let k = part_scopes (monitor x) in
    below_head next k (modules_from (next + k) qs) (record { scope = next; resource = false }) m n refl e (λ j f. begins (next + k) qs j m f)
begins next (more_parts (resource x) qs) n m e =
    let k = part_scopes (resource x) in
    below_head next k (modules_from (next + k) qs) (record { scope = next; resource = true }) m n refl e (λ j f. begins (next + k) qs j m f)

-- the first with a scope is the only one
behind_head : (h m : ModuleHead) (rest : List ModuleHead) (n : ℕ) → slice_get (h ∷ rest) n ≡ Some m
    → ((j : ℕ) → slice_get rest j ≡ Some m → (h.scope < m.scope) × (found_at rest m.scope ≡ j)) → found_at (h ∷ rest) m.scope ≡ n
behind_head h m rest zero e further =
    let is = ap (λ (x : ModuleHead). x.scope) (one_module h m e) in
    let same : (h.scope == m.scope) ≡ true = grind (arith, nat_tests) in
    ap (λ (r : Bool). cond (not r) (1 + found_at rest m.scope) 0) same
behind_head h m rest (suc j) e further =
    let (less, found) = further j e in
    let other : (h.scope == m.scope) ≡ false = grind (arith, nat_tests) in
    ap (λ (r : Bool). cond (not r) (1 + found_at rest m.scope) 0) other ∙ omega (arith, found)

first_at : (next : ℕ) (qs : PartTrees) (n : ℕ) (m : ModuleHead) → slice_get (modules_from next qs) n ≡ Some m
    → found_at (modules_from next qs) m.scope ≡ n
first_at next no_parts n m e = absurd (cc)
first_at next (more_parts (consts items) qs) n m e = first_at (next + 0) qs n m e
first_at next (more_parts (types items) qs) n m e = first_at (next + 0) qs n m e
first_at next (more_parts (vars vs) qs) n m e = first_at (next + 0) qs n m e
first_at next (more_parts (sub_part b) qs) n m e = first_at (next + part_scopes (sub_part b)) qs n m e
first_at next (more_parts (process_part p) qs) n m e = first_at (next + part_scopes (process_part p)) qs n m e
first_at next (more_parts (monitor x) qs) n m e =
    let k = part_scopes (monitor x) in
    behind_head (record { scope = next; resource = false }) m (modules_from (next + k) qs) n e
    (λ j f. (let low = begins (next + k) qs j m f in let some = module_opens x in omega (arith, low, some), first_at (next + k) qs j m f))
first_at next (more_parts (resource x) qs) n m e =
    let k = part_scopes (resource x) in
    behind_head (record { scope = next; resource = true }) m (modules_from (next + k) qs) n e
    (λ j f. (let low = begins (next + k) qs j m f in let some = module_opens x in omega (arith, low, some), first_at (next + k) qs j m f))

pub module_found : (t : ProgramTree) → IsLawful (forget_program t) → (n : ℕ) → n < length (finished t).blocks.modules
    → module_of (finished t).blocks (module_at (finished t).blocks n).scope ≡ Some n
module_found t lawful n low =
    let bs : Blocks = (finished t).blocks in
    let m : ModuleHead = module_at bs n in
    let all : bs.modules ≡ modules_from 1 t.parts = program_modules t lawful in
    let there : slice_get bs.modules n ≡ Some m = slice_get-get_or bs.modules n no_module low in
    let first : found_at bs.modules m.scope ≡ n =
    subst (λ (ms : List ModuleHead). found_at ms m.scope ≡ n) (sym all) (first_at 1 t.parts n m (subst (λ (ms : List ModuleHead). slice_get ms n ≡ Some m) all
    there)) in
    let inside : nat_lt (found_at bs.modules m.scope) (length bs.modules) ≡ true = grind (arith, nat_tests) in
    ap (λ (r : Bool). cond r (Some (found_at bs.modules m.scope)) None) inside ∙ ap (λ (i : ℕ). Some i) first

pub guard_there : (o : Option Guard) → is_some o ≡ true → (guard : Guard) × (o ≡ Some guard)
guard_there None e = absurd (cc)
guard_there (Some guard) e = (guard, refl)

module _ (t : ProgramTree) (lawful : IsLawful (forget_program t)) (clean : broken t ≡ []) where
  abbrev g : Program
  g = program_of t

  abbrev bs : Blocks
  bs = (finished t).blocks

  pub mains_of : (i n : ℕ) → module_of bs i ≡ Some n → is_mains bs i ≡ true
  mains_of i n e = ap (λ (o : Option ℕ). (i == 0) || is_some o) e ∙ or_right (i == 0) true refl

  pub of_module : (k n : ℕ) (b : Block) → slice_get g.blocks k ≡ Some b → n < length bs.modules → module_of bs b.outer ≡ Some n → IsOfModule t n b
  of_module k n b at low inside =
      record { among = low; inside = inside; nested = nested_in_main t lawful clean k b at (mains_of b.outer n inside) }

  pub callee_there : (b : Block) (scope : ℕ) (formals : List Formal) (asked : ℕ → SubSort → Type 0) → IsCalledFrom t b scope formals asked
      → slice_get g.blocks (block_number g scope) ≡ Some (block_at g scope)
  callee_there b scope formals asked is =
      subst (λ (i : ℕ). slice_get g.blocks (block_number g i) ≡ Some (block_at g i)) (sym is.own_scope) is.sub.activated.there

  pub called_of_module : (b : Block) (n scope : ℕ) (formals : List Formal) → IsCalledFrom t b scope formals (FromOutside bs n)
      → IsOfModule t n (block_at g scope)
  called_of_module b n scope formals is =
      let (low, outer, plain) = is.as_asked in
      of_module (block_number g scope) n (block_at g scope) (callee_there b scope formals (FromOutside bs n) is) low
      (ap (λ (i : ℕ). module_of bs i) outer ∙ module_found t lawful n low)
