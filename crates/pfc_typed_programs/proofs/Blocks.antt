-- The blocks that headings name: each is there, its parameters take the cells of the arguments, and a function's leaves its value.
use Rattle.std.proofs.Common.{◌≡◌, ℕ, ◌+◌, ◌<◌, zero, suc, ◌==◌, ◌||◌, Bool, true, false, List, [], ◌∷◌, ◌++◌, length, map, take, drop, get_or, slice_get}
use Rattle.std.proofs.Common.{is_some, if◌then◌else◌, Option, Some, None, refl, ap, sym, ◌∙◌, subst, arith}
use Rattle.std.specs.List.{All}
use Rattle.std.proofs.lemmas.List.{append_assoc, length-map}
use Rattle.std.proofs.lemmas.List.Sums.{sum_by-cons}
use Rattle.std.proofs.lemmas.Option.{slice_get_within, get_or_from_slice_get}
use Rattle.std.proofs.Math.Seq.{take-append_seam}
use Rattle.pfc_tree.specs.trees.Parts.{PartTrees, ProgramTree, consts, types, vars, sub_part, monitor, resource, process_part, no_parts, more_parts}
use Rattle.pfc_tree.specs.forget.Parts.{forget_program}
use Rattle.pfc_tree.specs.lawful.Parts.{IsLawful}
use Rattle.pfc_types.specs.Types.{Forms}
use Rattle.pfc_types.specs.Scopes.{scope_at}
use Rattle.pfc_types.specs.Blocks.{Blocks, no_sub, no_process, sub_at, process_at}
use Rattle.pfc_types.specs.declared.types.TypeId.{TypeId}
use Rattle.pfc_types.specs.declared.heads.Formal.{Formal}
use Rattle.pfc_types.specs.declared.heads.SubHead.{SubHead}
use Rattle.pfc_types.specs.declared.heads.ProcessHead.{ProcessHead}
use Rattle.pfc_types.specs.declared.heads.SubSort.{SubSort}
use Rattle.pfc_types.specs.declared.heads.SubSort.TheVariants.{Procedure, Guarded, Function}
use Rattle.pfc_types.specs.declared.scope.Meaning.{Meaning}
use Rattle.pfc_types.specs.rules.Bodies.{part_scopes}
use Rattle.pfc_types.specs.rules.Declarations.{name_cells}
use Rattle.pfc_types.specs.rules.FaultyNames.{all_typed}
use Rattle.pfc_types.specs.rules.Whole.{finished, broken, faults_in}
use Rattle.pfc_semantics.specs.Layouts.{Layout, laid_names, sub_layout, accepts_laid, sub_with}
use Rattle.pfc_semantics.specs.Programs.{Block, Program, layout_cells, found_block, block_at, block_number, program_of}
use Rattle.pfc_translation.specs.Sites.{is_mains}
use Rattle.pfc_translation.specs.Calls.{formal_cells, formals_cells}
use Rattle.pfc_translation.specs.Operands.{process_with, process_formals, formals_of, params_of, result_of, block_numbered, arguments, results}
use Rattle.pfc_name_laws.specs.Processes.{processes_from}
use Rattle.pfc_name_laws.specs.Reached.{formal_meaning}
use Rattle.pfc_name_laws.specs.Numbers.{AreNumbered}
use Rattle.pfc_name_laws.specs.Headings.{AreHeaded}
use Rattle.pfc_name_laws.proofs.Numbers.{numbered, none_noted}
use Rattle.pfc_name_laws.proofs.Headings.{all_headed}
use Rattle.pfc_name_laws.proofs.Parts.{finished_reached}
use Rattle.pfc_name_laws.proofs.Processes.{program_processes}
use Rattle.pfc_image_laws.specs.Levels.{sees}
use Rattle.pfc_image_numbers.proofs.Rules.{IsClean, clean_of, and_left, and_right}
use Rattle.pfc_image_cells.proofs.Subs.{program_subs}
use Rattle.pfc_image_cells.proofs.Layouts.{laid_parts}
use Rattle.pfc_image_cells.proofs.Formals.{formals_laid}
use Rattle.pfc_image_cells.proofs.Trees.{among, same_number, other_number, equal_number, Fine, Placed, IsLaidOut, mods, mods_behind, module_opens}
use Rattle.pfc_image_cells.proofs.Trees.{blocks_placed, program_mods, mains_no_sub, own_sub, sub_none}
use Rattle.pfc_standing_images.proofs.Numbers.{block_there}
use Rattle.pfc_typed_phrases.specs.Names.{left_behind}
use Rattle.pfc_typed_programs.specs.Bodies.{IsCallee}
use Rattle.pfc_typed_programs.proofs.Trees.{IsMade, scopes_of, blocks_made, parts_there, processes_there, processes_behind, processes_apart, process_opens}

-- ## Lists

pub each_of : {X : Type 0} (P : X → Type 0) (xs : List X) (k : ℕ) (x : X) → All P xs → slice_get xs k ≡ Some x → P x
each_of P xs k x h e = subst P (get_or_from_slice_get xs k x x e) (h k x (slice_get_within xs k x e))

pub among_mapped : {X : Type 0} (f : X → ℕ) (xs : List X) (n : ℕ) (d : X) → n < length xs → among (f (get_or xs n d)) (map f xs) ≡ true
among_mapped f [] n d below = absurd (omega (arith, below))
among_mapped f (x ∷ xs) zero d below = ap (λ (r : Bool). r || among (f x) (map f xs)) (same_number (f x))
among_mapped f (x ∷ xs) (suc n) d below = later (f x == f (get_or xs n d)) (among_mapped f xs n d (omega (arith, below)))
  where
    later : (r : Bool) → among (f (get_or xs n d)) (map f xs) ≡ true → (r || among (f (get_or xs n d)) (map f xs)) ≡ true
    later true e = refl
    later false e = e

-- a block with a scope, where there is one
block_with : (bs : List Block) (i : ℕ) (other : Block) → among i (scopes_of bs) ≡ true
    → (k : ℕ) × (slice_get bs k ≡ Some (found_block bs i other)) × ((found_block bs i other).scope ≡ i)
block_with [] i other e = absurd (cc)
block_with (b ∷ bs) i other e = by (b.scope == i) refl e (λ q. block_with bs i other q)
  where
    by : (r : Bool) → (b.scope == i) ≡ r → (r || among i (scopes_of bs)) ≡ true
        → (among i (scopes_of bs) ≡ true
        → (k : ℕ) × (slice_get bs k ≡ Some (found_block bs i other)) × ((found_block bs i other).scope ≡ i))
        → (k : ℕ) × (slice_get (b ∷ bs) k ≡ Some (if r then b else found_block bs i other))
        × ((if r then b else found_block bs i other).scope ≡ i)
    by true same q rest = (0, refl, equal_number b.scope i same)
    by false same q rest = let found = rest q in (suc found.0, found.1, found.2)

-- ## Parameters

cells_of : (forms : Forms) (formals : List Formal) → all_typed formals ≡ true → layout_cells forms (map formal_meaning formals) ≡ formals_cells forms formals
cells_of forms [] h = refl
cells_of forms (f ∷ formals) h =
    let first = one f.reference f.t (and_left (is_some f.t) (all_typed formals) h) in
    let rest = cells_of forms formals (and_right (is_some f.t) (all_typed formals) h) in
    let all = sum_by-cons (λ (m : Meaning). name_cells forms m) (formal_meaning f) (map formal_meaning formals) in
    let both = sum_by-cons (λ (x : Formal). formal_cells forms x) f formals in
    omega (arith, first, rest, all, both)
  where
    one : (r : Bool) (o : Option TypeId) → is_some o ≡ true
        → name_cells forms (formal_meaning (record { t = o; reference = r })) ≡ formal_cells forms (record { t = o; reference = r })
    one r None e = absurd (cc)
    one r (Some t) e = refl

-- the parameters stand first
first_are : (first rest : Layout) (formals : List Formal) → first ≡ map formal_meaning formals
    → take (length formals) (first ++ rest) ≡ map formal_meaning formals
first_are first rest formals e =
    let are = map formal_meaning formals in
    let count : length formals ≡ length are = sym (length-map formals formal_meaning) in
    ap (λ (l : Layout). take (length formals) (l ++ rest)) e ∙ ap (λ n. take n (are ++ rest)) count ∙ take-append_seam are rest

left_same : (head : SubHead) → result_of (Some head) ≡ left_behind head.sort
left_same head = by head.sort
  where
    by : (sort : SubSort) → result_of (Some (record head { sort = sort })) ≡ left_behind sort
    by Procedure = refl
    by Guarded = refl
    by (Function t) = refl

-- each process has a scope of its own
pub process_own :
    (heads : List ProcessHead) (n : ℕ)
    → ((m k : ℕ) → m < k → k < length heads → (get_or heads m no_process).scope < (get_or heads k no_process).scope) → n < length heads
    → process_with heads (get_or heads n no_process).scope ≡ Some (get_or heads n no_process)
process_own [] n apart below = absurd (omega (arith, below))
process_own (h ∷ heads) zero apart below = ap (λ (r : Bool). if r then Some h else process_with heads h.scope) (same_number h.scope)
process_own (h ∷ heads) (suc n) apart below =
    let less = apart 0 (suc n) (omega arith) below in
    let other : (h.scope == (get_or heads n no_process).scope) ≡ false =
    other_number h.scope (get_or heads n no_process).scope (λ e. omega (arith, e, less)) in
    ap (λ (r : Bool). if r then Some h else process_with heads (get_or heads n no_process).scope) other
    ∙ process_own heads n (λ m k a b. apart (suc m) (suc k) (omega (arith, a)) (omega (arith, b))) (omega (arith, below))

-- ## Modules and processes

-- a scope behind a module is not its own
not_own : (next j : ℕ) (others : Bool) → next < j → others ≡ false → (next == j || others) ≡ false
not_own next j others low h = ap (λ (r : Bool). r || others) (other_number next j (λ e. omega (arith, e, low))) ∙ h

no_process_of_module : (next : ℕ) (qs : PartTrees) (j : ℕ) → among j (processes_from next qs) ≡ true → among j (mods next qs) ≡ false
no_process_of_module next no_parts j e = refl
no_process_of_module next (more_parts (consts items) qs) j e = no_process_of_module (next + 0) qs j e
no_process_of_module next (more_parts (types items) qs) j e = no_process_of_module (next + 0) qs j e
no_process_of_module next (more_parts (vars vs) qs) j e = no_process_of_module (next + 0) qs j e
no_process_of_module next (more_parts (sub_part b) qs) j e = no_process_of_module (next + part_scopes (sub_part b)) qs j e
no_process_of_module next (more_parts (monitor m) qs) j e =
    let behind = next + part_scopes (monitor m) in
    let low = processes_behind behind qs j e in
    let some = module_opens m in
    not_own next j (among j (mods behind qs)) (omega (arith, low, some)) (no_process_of_module behind qs j e)
no_process_of_module next (more_parts (resource m) qs) j e =
    let behind = next + part_scopes (resource m) in
    let low = processes_behind behind qs j e in
    let some = module_opens m in
    not_own next j (among j (mods behind qs)) (omega (arith, low, some)) (no_process_of_module behind qs j e)
no_process_of_module next (more_parts (process_part p) qs) j e = by (next == j) refl e (λ q. no_process_of_module behind qs j q)
  where
    behind : ℕ
    behind = next + part_scopes (process_part p)

    by : (r : Bool) → (next == j) ≡ r → (r || among j (processes_from behind qs)) ≡ true
        → (among j (processes_from behind qs) ≡ true → among j (mods behind qs) ≡ false) → among j (mods behind qs) ≡ false
    by true same q rest =
        let some = process_opens p in
        let is = equal_number next j same in
        mods_behind behind qs j (omega (arith, is, some))
    by false same q rest = rest q

-- ## A program in which no rule is broken

module _ (t : ProgramTree) (lawful : IsLawful (forget_program t)) (clean : broken t ≡ []) where
  abbrev g : Program
  g = program_of t

  abbrev bs : Blocks
  bs = (finished t).blocks

  whole : bs.noted ≡ []
  whole = none_noted t clean

  pub headed : AreHeaded (finished t)
  headed = all_headed (finished t) (finished_reached t)

  pub known : AreNumbered (finished t)
  known = numbered (finished t) (finished_reached t)

  rules : IsClean (faults_in (finished t) t)
  rules = clean_of (faults_in (finished t) t) clean

  pub all_made : All IsMade g.blocks
  all_made = blocks_made t lawful rules.1

  -- the block of a scope
  pub record HasScope (i : ℕ) : Type 0 where
    pub there : slice_get g.blocks (block_number g i) ≡ Some (block_at g i)
    pub scope : (block_at g i).scope ≡ i
    pub fine : Fine g i

  scope_there : (i : ℕ) → among i (scopes_of g.blocks) ≡ true → HasScope i
  scope_there i e =
      let found = block_with g.blocks i g.main e in
      let b = block_at g i in
      let placed : Placed g b = each_of (Placed g) g.blocks found.0 b (blocks_placed t lawful) found.1 in
      let made : IsMade b = each_of IsMade g.blocks found.0 b all_made found.1 in
      record {
        there = block_there g i found.0 b found.1 found.2;
        scope = found.2;
        fine = (placed.seen i (subst (λ (j : ℕ). sees b.env.view j ≡ true) found.2 made.own)).0;
      }

  at_number : (i : ℕ) → HasScope i → block_numbered g (block_number g i) ≡ block_at g i
  at_number i h = get_or_from_slice_get g.blocks (block_number g i) (block_at g i) g.main h.there

  -- ## Subs

  pub sub_has_block : (n : ℕ) → n < length bs.subs → HasScope (sub_at bs n).scope
  sub_has_block n below =
      let i = (sub_at bs n).scope in
      scope_there i (parts_there (finished t) false 0 0 [] 1 t.parts i
      (ap (λ (l : List ℕ). among i l) (sym (program_subs t)) ∙ among_mapped (λ (h : SubHead). h.scope) bs.subs n no_sub below))

  pub sub_apart : (n : ℕ) → n < length bs.subs → is_mains bs (sub_at bs n).scope ≡ false
  sub_apart n below = by (is_mains bs (sub_at bs n).scope) refl
    where
      by : (r : Bool) → is_mains bs (sub_at bs n).scope ≡ r → r ≡ false
      by true e = let both : None ≡ Some (sub_at bs n) = sym (mains_no_sub t lawful (sub_at bs n).scope e) ∙ own_sub t n below in absurd (cc)
      by false e = refl

  pub sub_laid : (n : ℕ) → n < length bs.subs → (block_at g (sub_at bs n).scope).layout ≡ sub_layout bs (sub_at bs n)
  sub_laid n below =
      let i = (sub_at bs n).scope in
      subst (λ (o : Option SubHead). IsLaidOut g i o (block_at g i).layout) (own_sub t n below)
      ((sub_has_block n below).fine (sub_apart n below)).2

  sub_first : (n : ℕ) → n < length bs.subs
      → take (length (sub_at bs n).formals) (block_at g (sub_at bs n).scope).layout ≡ map formal_meaning (sub_at bs n).formals
  sub_first n below =
      let head = sub_at bs n in
      let is = (headed.subs n below).heading in
      let k = length head.formals in
      ap (λ (l : Layout). take k l) (sub_laid n below)
      ∙ first_are (laid_names (take k (scope_at bs.scopes head.scope))) _ head.formals (formals_laid bs head.scope head.formals whole is)

  pub sub_takes : (n : ℕ) → n < length bs.subs
      → arguments g (block_number g (sub_at bs n).scope) ≡ formals_cells (finished t).forms (sub_at bs n).formals
  sub_takes n below =
      let head = sub_at bs n in
      let b = block_at g head.scope in
      let h = sub_has_block n below in
      let forms = (finished t).forms in
      ap (λ (x : Block). params_of g x) (at_number head.scope h)
      ∙ ap (λ (j : ℕ). layout_cells forms (take (formals_of bs j (sub_with bs.subs j)) b.layout)) h.scope
      ∙ ap (λ (o : Option SubHead). layout_cells forms (take (formals_of bs head.scope o) b.layout)) (own_sub t n below)
      ∙ ap (λ (l : Layout). layout_cells forms l) (sub_first n below) ∙ cells_of forms head.formals ((headed.subs n below).heading.typed whole)

  pub sub_leaves : (n : ℕ) → n < length bs.subs → results g (block_number g (sub_at bs n).scope) ≡ left_behind (sub_at bs n).sort
  sub_leaves n below =
      let head = sub_at bs n in
      let h = sub_has_block n below in
      ap (λ (x : Block). result_of (sub_with bs.subs x.scope)) (at_number head.scope h)
      ∙ ap (λ (j : ℕ). result_of (sub_with bs.subs j)) h.scope ∙ ap result_of (own_sub t n below) ∙ left_same head

  pub sub_called : (n : ℕ) → n < length bs.subs → IsCallee g (sub_at bs n).scope (sub_at bs n).formals (left_behind (sub_at bs n).sort)
  sub_called n below =
      let h = sub_has_block n below in
      record { there = h.there; own = h.scope; first = sub_first n below; takes = sub_takes n below; leaves = sub_leaves n below }

  -- ## Processes

  pub process_among : (n : ℕ) → n < length bs.processes → among (process_at bs n).scope (processes_from 1 t.parts) ≡ true
  process_among n below =
      let i = (process_at bs n).scope in
      ap (λ (l : List ℕ). among i l) (sym (program_processes t lawful)) ∙ among_mapped (λ (h : ProcessHead). h.scope) bs.processes n no_process below

  pub process_has_block : (n : ℕ) → n < length bs.processes → HasScope (process_at bs n).scope
  process_has_block n below =
      let i = (process_at bs n).scope in scope_there i (processes_there (finished t) 0 1 t.parts i (process_among n below))

  pub process_apart : (n : ℕ) → n < length bs.processes → is_mains bs (process_at bs n).scope ≡ false
  process_apart n below =
      let i = (process_at bs n).scope in
      let some = known.own n below in
      program_mods t lawful i (omega (arith, some)) ∙ no_process_of_module 1 t.parts i (process_among n below)

  pub process_no_sub : (n : ℕ) → n < length bs.processes → sub_with bs.subs (process_at bs n).scope ≡ None
  process_no_sub n below =
      let i = (process_at bs n).scope in
      sub_none bs.subs i (ap (λ (l : List ℕ). among i l) (program_subs t) ∙ processes_apart (finished t) 1 t.parts i (process_among n below))

  process_first : (n : ℕ) → n < length bs.processes
      → take (length (process_at bs n).formals) (block_at g (process_at bs n).scope).layout ≡ map formal_meaning (process_at bs n).formals
  process_first n below =
      let head = process_at bs n in
      let b = block_at g head.scope in
      let names = scope_at bs.scopes head.scope in
      let k = length head.formals in
      let laid = subst (λ (o : Option SubHead). IsLaidOut g head.scope o b.layout) (process_no_sub n below)
      ((process_has_block n below).fine (process_apart n below)).2 in
      let own : laid_names names ++ accepts_laid laid.0 ≡ laid_names (take k names) ++ (laid_names (drop k names) ++ accepts_laid laid.0) =
      ap (λ (l : Layout). l ++ accepts_laid laid.0) (laid_parts k names)
      ∙ append_assoc (laid_names (take k names)) (laid_names (drop k names)) (accepts_laid laid.0) in
      ap (λ (l : Layout). take k l) (laid.1 ∙ own)
      ∙ first_are (laid_names (take k names)) _ head.formals (formals_laid bs head.scope head.formals whole (headed.processes n below))

  pub process_takes : (n : ℕ) → n < length bs.processes
      → arguments g (block_number g (process_at bs n).scope) ≡ formals_cells (finished t).forms (process_at bs n).formals
  process_takes n below =
      let head = process_at bs n in
      let b = block_at g head.scope in
      let h = process_has_block n below in
      let forms = (finished t).forms in
      ap (λ (x : Block). params_of g x) (at_number head.scope h)
      ∙ ap (λ (j : ℕ). layout_cells forms (take (formals_of bs j (sub_with bs.subs j)) b.layout)) h.scope
      ∙ ap (λ (o : Option SubHead). layout_cells forms (take (formals_of bs head.scope o) b.layout)) (process_no_sub n below)
      ∙ ap (λ (o : Option ProcessHead). layout_cells forms (take (process_formals o) b.layout)) (process_own bs.processes n known.apart below)
      ∙ ap (λ (l : Layout). layout_cells forms l) (process_first n below) ∙ cells_of forms head.formals ((headed.processes n below).typed whole)

  pub process_called : (n : ℕ) → n < length bs.processes → IsCallee g (process_at bs n).scope (process_at bs n).formals 0
  process_called n below =
      let head = process_at bs n in
      let h = process_has_block n below in
      record {
        there = h.there;
        own = h.scope;
        first = process_first n below;
        takes = process_takes n below;
        leaves = ap (λ (x : Block). result_of (sub_with bs.subs x.scope)) (at_number head.scope h)
            ∙ ap (λ (j : ℕ). result_of (sub_with bs.subs j)) h.scope ∙ ap result_of (process_no_sub n below);
      }
