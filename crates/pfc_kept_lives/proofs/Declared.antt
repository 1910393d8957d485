-- What the text tells of the block of a process: it stands in the program, has no guard, and sees its own names and the program's.
use Rattle.std.proofs.Common.{◌≡◌, ℕ, suc, ◌+◌, ◌==◌, ◌||◌, Bool, true, false, if◌then◌else◌, List, [], ◌∷◌, ◌++◌, length, slice_get, Some, None, refl}
use Rattle.std.proofs.Common.{sym, ap, ◌∙◌, subst, arith}
use Rattle.std.specs.List.{list_any}
use Rattle.std.proofs.lemmas.Option.{slice_get_within}
use Rattle.pfc_tree.specs.trees.Stmts.{body}
use Rattle.pfc_tree.specs.trees.Parts.{PartTrees, ProcessTree, consts, types, vars, sub_part, monitor, resource, process_part, no_parts, more_parts, process}
use Rattle.pfc_types.specs.Scopes.{Level, scope_at, all_names}
use Rattle.pfc_types.specs.Blocks.{State}
use Rattle.pfc_types.specs.rules.Bodies.{level, passed, passed_part, passed_groups, passed_entries, part_scopes}
use Rattle.pfc_semantics.specs.Programs.{Block, Program, part_blocks, parts_blocks, process_blocks}
use Rattle.pfc_name_laws.specs.Processes.{processes_from}
use Rattle.pfc_translation.specs.Sites.{is_mains, linked}
use Rattle.pfc_image_cells.proofs.Trees.{among}
use Rattle.pfc_standing_code.specs.Words.{is_known, AreKnown}
use Rattle.pfc_call_laws.proofs.Lists.{slice_front}

pub record IsDeclared (b : Block) : Type 0 where
  pub outer : b.outer ≡ 0
  pub unguarded : b.guard ≡ None
  pub own : Level
  pub program : Level
  pub view : b.env.view ≡ own ∷ (program ∷ [])
  pub own_scope : own.scope ≡ b.scope
  pub program_scope : program.scope ≡ 0

-- one with this scope is among some blocks
pub record IsThere (j : ℕ) (bs : List Block) : Type 0 where
  pub k : ℕ
  pub block : Block
  pub there : slice_get bs k ≡ Some block
  pub scope : block.scope ≡ j
  pub is : IsDeclared block

-- ## Lists

slice_behind : (xs ys : List Block) (k : ℕ) → slice_get (xs ++ ys) (length xs + k) ≡ slice_get ys k
slice_behind [] ys k = ap (λ j. slice_get ys j) (none k)
  where
    none : (j : ℕ) → 0 + j ≡ j
    none j = grind arith
slice_behind (x ∷ xs) ys k = ap (λ j. slice_get (x ∷ (xs ++ ys)) j) (one (length xs) k) ∙ slice_behind xs ys k
  where
    one : (i j : ℕ) → suc i + j ≡ suc (i + j)
    one i j = grind arith

behind : (j : ℕ) (xs ys : List Block) → IsThere j ys → IsThere j (xs ++ ys)
behind j xs ys is =
    record { k = length xs + is.k; block = is.block; there = slice_behind xs ys is.k ∙ is.there; scope = is.scope; is = is.is }

before : (j : ℕ) (xs ys : List Block) → IsThere j xs → IsThere j (xs ++ ys)
before j xs ys is =
    record {
      k = is.k;
      block = is.block;
      there = slice_front xs ys is.k (slice_get_within xs is.k is.block is.there) ∙ is.there;
      scope = is.scope;
      is = is.is;
    }

equal_number : (i j : ℕ) → (i == j) ≡ true → i ≡ j
equal_number i j h = grind (arith, h)

-- ## The parts of a program

own_block : (s : State) (n next : ℕ) (p : ProcessTree) → IsThere next (process_blocks s 0 n [] next p)
own_block s n next (process many x gs es ps (body ss from to) place) =
    let own = scope_at s.blocks.scopes next in
    let around = level 0 (passed (scope_at s.blocks.scopes 0) n x) ∷ [] in
    behind next (parts_blocks s true next (passed_entries own (passed_groups own 0 gs) es) around (next + 1) ps) _
    (record {
      k = 0;
      block = _;
      there = refl;
      scope = refl;
      is = record {
        outer = refl;
        unguarded = refl;
        own = all_names s.blocks.scopes next;
        program = level 0 (passed (scope_at s.blocks.scopes 0) n x);
        view = refl;
        own_scope = refl;
        program_scope = refl;
      };
    })

pub declared_there : (s : State) (n next : ℕ) (qs : PartTrees) (j : ℕ) → among j (processes_from next qs) ≡ true
    → IsThere j (parts_blocks s false 0 n [] next qs)
declared_there s n next no_parts j e = absurd (let no : false ≡ true = e in cc)
declared_there s n next (more_parts (consts items) qs) j e =
    declared_there s (passed_part (scope_at s.blocks.scopes 0) n (consts items)) (next + 0) qs j e
declared_there s n next (more_parts (types items) qs) j e =
    declared_there s (passed_part (scope_at s.blocks.scopes 0) n (types items)) (next + 0) qs j e
declared_there s n next (more_parts (vars vs) qs) j e =
    declared_there s (passed_part (scope_at s.blocks.scopes 0) n (vars vs)) (next + 0) qs j e
declared_there s n next (more_parts (sub_part b) qs) j e =
    let q = sub_part b in
    let further = passed_part (scope_at s.blocks.scopes 0) n q in
    behind j (part_blocks s false 0 n [] next q) (parts_blocks s false 0 further [] (next + part_scopes q) qs)
    (declared_there s further (next + part_scopes q) qs j e)
declared_there s n next (more_parts (monitor m) qs) j e =
    let q = monitor m in
    let further = passed_part (scope_at s.blocks.scopes 0) n q in
    behind j (part_blocks s false 0 n [] next q) (parts_blocks s false 0 further [] (next + part_scopes q) qs)
    (declared_there s further (next + part_scopes q) qs j e)
declared_there s n next (more_parts (resource m) qs) j e =
    let q = resource m in
    let further = passed_part (scope_at s.blocks.scopes 0) n q in
    behind j (part_blocks s false 0 n [] next q) (parts_blocks s false 0 further [] (next + part_scopes q) qs)
    (declared_there s further (next + part_scopes q) qs j e)
declared_there s n next (more_parts (process_part p) qs) j e =
    by (next == j) refl e
    (λ rest. declared_there s (passed_part (scope_at s.blocks.scopes 0) n (process_part p)) (next + part_scopes (process_part p)) qs j rest)
  where
    by : (r : Bool) → (next == j) ≡ r → (r || among j (processes_from (next + part_scopes (process_part p)) qs)) ≡ true
        → (among j (processes_from (next + part_scopes (process_part p)) qs) ≡ true
        → IsThere j (parts_blocks s false 0 (passed_part (scope_at s.blocks.scopes 0) n (process_part p)) [] (next + part_scopes (process_part p)) qs))
        → IsThere j (parts_blocks s false 0 n [] next (more_parts (process_part p) qs))
    by true same h rest =
        before j (part_blocks s false 0 n [] next (process_part p))
        (parts_blocks s false 0 (passed_part (scope_at s.blocks.scopes 0) n (process_part p)) [] (next + part_scopes (process_part p)) qs)
        (subst (λ i. IsThere i (part_blocks s false 0 n [] next (process_part p))) (equal_number next j same) (own_block s n next p))
    by false same h rest =
        behind j (part_blocks s false 0 n [] next (process_part p))
        (parts_blocks s false 0 (passed_part (scope_at s.blocks.scopes 0) n (process_part p)) [] (next + part_scopes (process_part p)) qs) (rest h)

-- ## What is known

or_true : (u : Bool) → (u || true) ≡ true
or_true true = refl
or_true false = refl

or_nothing : (u : Bool) → (u || false) ≡ true → u ≡ true
or_nothing true h = refl
or_nothing false h = absurd (let no : false ≡ true = h in cc)

-- its own names and the program's
pub known_in : (g : Program) (b : Block) → IsDeclared b → is_mains g.state.blocks b.scope ≡ false → AreKnown g b [] b.env
known_in g b is apart i seen = by (is_mains g.state.blocks i) refl (is.own.scope == i) refl
  where
    by : (u : Bool) → is_mains g.state.blocks i ≡ u → (v : Bool) → (is.own.scope == i) ≡ v → is_known g.state.blocks b [] i ≡ true
    by true h v e = ap (λ (u : Bool). u || (list_any (λ j. j == i) (linked g.state.blocks b.env.view) || list_any (λ j. j == i) [])) h
    by false h true e =
        ap (λ (view : List Level). is_mains g.state.blocks i || (list_any (λ j. j == i) (linked g.state.blocks view) || list_any (λ j. j == i) [])) is.view
        ∙ ap (λ (u : Bool). is_mains g.state.blocks i || (list_any (λ j. j == i)
        (if u then [] else is.own.scope ∷ linked g.state.blocks (is.program ∷ [])) || list_any (λ j. j == i) []))
        (ap (λ k. is_mains g.state.blocks k) is.own_scope ∙ apart)
        ∙ ap (λ (u : Bool). is_mains g.state.blocks i || ((u || list_any (λ j. j == i) (linked g.state.blocks (is.program ∷ [])))
        || list_any (λ j. j == i) [])) e
        ∙ or_true (is_mains g.state.blocks i)
    by false h false e =
        let shown : (is_mains g.state.blocks i || ((is.own.scope == i) || ((is.program.scope == i) || false))) ≡ true =
        sym (ap (λ (view : List Level). is_mains g.state.blocks i || list_any (λ (l : Level). l.scope == i) view) is.view) ∙ seen in
        let last : ((is.program.scope == i) || false) ≡ true =
        sym (ap (λ (u : Bool). u || ((is.own.scope == i) || ((is.program.scope == i) || false))) h
        ∙ ap (λ (u : Bool). u || ((is.program.scope == i) || false)) e) ∙ shown in
        let zeroth : 0 ≡ i = sym is.program_scope ∙ equal_number is.program.scope i (or_nothing (is.program.scope == i) last) in
        let both : true ≡ false = ap (λ k. is_mains g.state.blocks k) zeroth ∙ h in
        cc
