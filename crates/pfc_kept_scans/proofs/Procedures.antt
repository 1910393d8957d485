-- Guarded procedures: their numbers, the room for their guards, and that no body of main has a guard.
use Rattle.std.proofs.Common.{◌≡◌, ℕ, zero, suc, ◌+◌, ◌<◌, ◌≤◌, ◌==◌, max, not, if◌then◌else◌, Bool, true, false, List, [], ◌∷◌, ◌++◌, length, slice_get}
use Rattle.std.proofs.Common.{position}
use Rattle.std.proofs.Common.{Option, Some, None, unwrap_or, refl, sym, ap, ◌∙◌, subst, arith, ◌⊎◌, inl, inr}
use Rattle.std.proofs.lemmas.Option.{slice_get_within}
use Rattle.pfc_code.specs.declared.images.Block.{Block as CodeBlock}
use Rattle.pfc_tree.specs.trees.Stmts.{BodyTree, body}
use Rattle.pfc_tree.specs.trees.Parts.{PartTree, PartTrees, ModuleTree, ProgramTree, consts, types, vars, sub_part, monitor, resource, process_part, no_parts}
use Rattle.pfc_tree.specs.trees.Parts.{more_parts, the_module}
use Rattle.pfc_types.specs.Scopes.{Level, scope_at}
use Rattle.pfc_types.specs.Blocks.{State}
use Rattle.pfc_types.specs.rules.Expressions.{Env}
use Rattle.pfc_types.specs.rules.Bodies.{passed_part, part_scopes}
use Rattle.pfc_semantics.specs.Layouts.{Layout}
use Rattle.pfc_semantics.specs.Programs.{Guard, Block, Program, block_of, init_block, module_inits, part_inits, parts_inits, program_of, block_number}
use Rattle.pfc_stacks.specs.Starts.{is_guarded, guard_room}
use Rattle.pfc_standing_code.specs.Settings.{Setting, IsBeside, same_block, both_mains}
use Rattle.pfc_representation.specs.Levels.{number_in, IsBlockAt}

-- ## Numbers

-- by which code names a block, where it is one of those that are called
pub one_number : (p : Program) (b : Block) (k : ℕ) → slice_get p.blocks k ≡ Some b → k ≡ number_in p b → k ≡ block_number p b.scope
one_number p b k there is = by_place (position (λ (c : Block). c.scope == b.scope) p.blocks) is
  where
    apart : (n : ℕ) → k < n → k ≡ n → ⊥
    apart n less same = grind (arith, less, same)

    by_place : (o : Option ℕ) → k ≡ unwrap_or o (length p.blocks) → k ≡ unwrap_or o 0
    by_place (Some j) same = same
    by_place None same = absurd (apart (length p.blocks) (slice_get_within p.blocks k b there) same)

-- ## Bodies of main

unguarded_block : (scope outer : ℕ) (env : Env) (next : ℕ) (b : BodyTree) (layout : Layout) (accepts : ℕ) (guard : Option Guard)
    → (block_of scope outer env next b layout accepts guard).guard ≡ guard
unguarded_block scope outer env next (body ss first last) layout accepts guard = refl

-- no block of a list has a guard
abbrev AreUnguarded : List Block → Type 0
AreUnguarded bs = (i : ℕ) (b : Block) → slice_get bs i ≡ Some b → b.guard ≡ None

none_there : AreUnguarded []
none_there i b there = (let no : None ≡ Some b = there in cc)

one_there : (x : Block) → x.guard ≡ None → AreUnguarded (x ∷ [])
one_there x none zero b there = (let same : x ≡ b = (let both : Some x ≡ Some b = there in cc) in ap (λ (y : Block). y.guard) (sym same) ∙ none)
one_there x none (suc i) b there = (let no : None ≡ Some b = there in cc)

both_there : (xs ys : List Block) → AreUnguarded xs → AreUnguarded ys → AreUnguarded (xs ++ ys)
both_there [] ys left right i b there = right i b there
both_there (x ∷ xs) ys left right zero b there = left zero b there
both_there (x ∷ xs) ys left right (suc i) b there = both_there xs ys (λ j c is. left (suc j) c is) right i b there

of_init : (s : State) (scope : ℕ) (view : List Level) (next : ℕ) (o : Option BodyTree) → AreUnguarded (init_block s scope view next o)
of_init s scope view next None = none_there
of_init s scope view next (Some b) = one_there _ (unguarded_block scope 0 _ next b [] 0 None)

of_module : (s : State) (n next : ℕ) (m : ModuleTree) → AreUnguarded (module_inits s n next m)
of_module s n next (the_module x exports ps b last p) = of_init s next _ _ b

of_part : (s : State) (n next : ℕ) (q : PartTree) → AreUnguarded (part_inits s n next q)
of_part s n next (consts items) = none_there
of_part s n next (types items) = none_there
of_part s n next (vars vs) = none_there
of_part s n next (sub_part b) = none_there
of_part s n next (monitor m) = of_module s n next m
of_part s n next (resource m) = of_module s n next m
of_part s n next (process_part q) = none_there

of_parts : (s : State) (n next : ℕ) (qs : PartTrees) → AreUnguarded (parts_inits s n next qs)
of_parts s n next no_parts = none_there
of_parts s n next (more_parts q qs) =
    both_there (part_inits s n next q) (parts_inits s (passed_part (scope_at s.blocks.scopes 0) n q) (next + part_scopes q) qs) (of_part s n next q)
    (of_parts s (passed_part (scope_at s.blocks.scopes 0) n q) (next + part_scopes q) qs)

mains_unguarded : (t : ProgramTree) → AreUnguarded ((program_of t).main ∷ (program_of t).modules)
mains_unguarded t zero b there =
    let same : (program_of t).main ≡ b = (let both : Some (program_of t).main ≡ Some b = there in cc) in
    ap (λ (y : Block). y.guard) (sym same) ∙ unguarded_block 0 0 _ _ t.body _ 0 None
mains_unguarded t (suc i) b there = of_parts (program_of t).state 0 1 t.parts i b there

-- so a block with a guard has none beside it
pub guarded_alone : (t : ProgramTree) (g : Setting) (a b : Block) (guard : Guard) → g.program ≡ program_of t → IsBeside g a b → b.guard ≡ Some guard → b ≡ a
guarded_alone t g a b guard same beside has = by_place beside has
  where
    by_place : {c : Block} → IsBeside g a c → c.guard ≡ Some guard → c ≡ a
    by_place same_block is = refl
    by_place (both_mains c one (i, two)) is =
        let there : slice_get ((program_of t).main ∷ (program_of t).modules) i ≡ Some c =
        ap (λ (p : Program). slice_get (p.main ∷ p.modules) i) (sym same) ∙ two in
        absurd (let no : None ≡ Some guard = sym (mains_unguarded t i c there) ∙ is in cc)

-- and is one of those that are called
pub guarded_there : (t : ProgramTree) (blocks : List CodeBlock) (k : ℕ) (b : Block) (code : CodeBlock) (guard : Guard)
    → IsBlockAt (program_of t) blocks k b code → b.guard ≡ Some guard → slice_get (program_of t).blocks k ≡ Some b
guarded_there t blocks k b code guard is has = by_place is.2
  where
    by_place : (slice_get (program_of t).blocks k ≡ Some b) ⊎ ((k ≡ length (program_of t).blocks) × (b ≡ (program_of t).main))
        → slice_get (program_of t).blocks k ≡ Some b
    by_place (inl there) = there
    by_place (inr (last, main)) =
        let none : b.guard ≡ None = mains_unguarded t 0 b (ap (λ (y : Block). Some y) (sym main)) in
        absurd (let no : None ≡ Some guard = sym none ∙ has in cc)

-- ## Room

most_left : (a b : ℕ) → a ≤ max a b
most_left a b = grind arith

most_right : (n a b : ℕ) → n ≤ b → n ≤ max a b
most_right n a b h = grind (arith, h)

-- the operands of a procedure with a guard are among those for which there is room
pub guard_fits : (blocks : List CodeBlock) (k : ℕ) (c : CodeBlock) → slice_get blocks k ≡ Some c → is_guarded c ≡ true → c.operands ≤ guard_room blocks
guard_fits [] k c there guarded = (let no : None ≡ Some c = there in cc)
guard_fits (b ∷ blocks) zero c there guarded =
    let same : b ≡ c = (let both : Some b ≡ Some c = there in cc) in
    subst (λ (x : CodeBlock). c.operands ≤ guard_room (x ∷ blocks)) (sym same)
    (subst (λ (y : Bool). c.operands ≤ (if y then max c.operands (guard_room blocks) else guard_room blocks)) (sym guarded)
    (most_left c.operands (guard_room blocks)))
guard_fits (b ∷ blocks) (suc k) c there guarded = by_first (is_guarded b) (guard_fits blocks k c there guarded)
  where
    by_first : (y : Bool) → c.operands ≤ guard_room blocks → c.operands ≤ (if y then max b.operands (guard_room blocks) else guard_room blocks)
    by_first true less = most_right c.operands b.operands (guard_room blocks) less
    by_first false less = less

pub body_apart : (c : CodeBlock) (n : ℕ) → c.body ≡ c.entry + (n + 1) → is_guarded c ≡ true
body_apart c n behind = ap not (let h : (c.entry == c.body) ≡ false = grind (arith, behind) in h)
