-- The stacks hold the store before the first action, and objects have their numbers.
use Rattle.std.proofs.Common.{◌≡◌, ℕ, zero, suc, ◌+◌, ◌-◌, ◌*◌, ◌^◌, ◌<◌, ◌≤◌, ◌==◌, if◌then◌else◌, ℤ, pos, Bool, true, false, List, [], ◌∷◌, ◌++◌, length, map}
use Rattle.std.proofs.Common.{get_or, replicate, slice_get, Option, Some, None, refl, sym, ap, ap₂, ◌∙◌, subst, arith, length-append, inl}
use Rattle.std.proofs.lemmas.Bool.Decides.{nat_tests}
use Rattle.pfc_code.specs.declared.images.Block.{Block as CodeBlock}
use Rattle.pfc_code.specs.declared.images.ProcessInfo.{ProcessInfo}
use Rattle.pfc_tree.specs.trees.Parts.{ProgramTree}
use Rattle.pfc_types.specs.Types.{Forms}
use Rattle.pfc_types.specs.declared.types.TypeId.{TypeId}
use Rattle.pfc_types.specs.declared.scope.Meaning.{Meaning}
use Rattle.pfc_types.specs.rules.Whole.{finished}
use Rattle.pfc_semantics.specs.Values.{Value, Selector, Location, ordinal, part, path_of}
use Rattle.pfc_semantics.specs.Store.{Store, with_room, values_in, value_at}
use Rattle.pfc_semantics.specs.Layouts.{Layout}
use Rattle.pfc_semantics.specs.Programs.{Block, Program, block_at, program_of}
use Rattle.pfc_translation.specs.Images.{image_of}
use Rattle.pfc_stacks.specs.declared.refs.Ref.{Ref}
use Rattle.pfc_stacks.specs.Refs.{word_of}
use Rattle.pfc_stacks.specs.Stacks.{Stack, Stacks, idle_stack, no_stack, stack_of, cells_of}
use Rattle.pfc_stacks.specs.Activations.{own_words, first_own}
use Rattle.pfc_stacks.specs.Starts.{numbered, guard_room, main_entered, begun, started, start_stacks}
use Rattle.pfc_cells.specs.Shapes.{IsPath}
use Rattle.pfc_cells.specs.Homes.{Home, layout_at, cells_before, laid_type, Lies}
use Rattle.pfc_cells.specs.Memory.{AreCells, CellsAre, ProcessIs, MemoryIs}
use Rattle.pfc_standing_code.specs.Shapes.{is_object_type}
use Rattle.pfc_views.specs.Views.{IsObjectAt, AreObjects, AreFew}
use Rattle.pfc_call_laws.specs.Calls.{first_home}
use Rattle.pfc_object_laws.specs.Objects.{all_words, number_at}
use Rattle.pfc_object_laws.specs.Kinds.{HasKind}
use Rattle.pfc_object_laws.specs.Mains.{AreOfMain}
use Rattle.pfc_object_laws.proofs.Mains.{own_variables, cells_hold, words_count, words_are, found, only, all_kinds, kind_there}
use Rattle.pfc_represented_start.specs.Starts.{start_homes, main_number, main_entry, start_entries}
use Rattle.pfc_represented_start.proofs.Setting.{the_main_block}

same_some : {A : Type 0} (x y : A) → Some x ≡ Some y → x ≡ y
same_some x y h = cc

pub is_zero : (q : ℕ) → (q == 0) ≡ true → q ≡ 0
is_zero q h = grind (arith, nat_tests)

pub not_zero : (q : ℕ) → 0 < q → (q == 0) ≡ false
not_zero q h = by (q == 0) refl
  where
    by : (r : Bool) → (q == 0) ≡ r → r ≡ false
    by true e = absurd (let is = is_zero q e in omega (arith, is, h))
    by false e = refl

-- ## The stacks

idle_or : (n k : ℕ) (x d : Stack) (P : Stack → Type 0) → P x → P d → P (get_or (replicate n x) k d)
idle_or zero k x d P one other = other
idle_or (suc n) zero x d P one other = one
idle_or (suc n) (suc k) x d P one other = idle_or n k x d P one other

replicate_length : {A : Type 0} (n : ℕ) (x : A) → length (replicate n x) ≡ n
replicate_length zero x = refl
replicate_length (suc n) x = ap suc (replicate_length n x)

module _ (t : ProgramTree) where
  abbrev pub block : CodeBlock
  block = (the_main_block t).code

  abbrev pub spare : ℕ
  spare = guard_room (image_of t).blocks

  abbrev pub main_stack : Stack
  main_stack = main_entered (main_number t) block (image_of t).objects spare

  abbrev pub start_of : Stacks
  start_of = begun (length (image_of t).processes) main_stack spare

  -- the stacks: main's, and idle ones
  pub stacks_are : start_stacks (image_of t) ≡ start_of
  stacks_are =
      ap (λ (o : Option CodeBlock). started (image_of t) (let p : ProcessInfo = record { block = main_number t; label = t.name.0 } in p) o)
      (the_main_block t).there

  pub others_idle : (q : ℕ) (P : Stack → Type 0) → P (idle_stack spare) → P no_stack → P (stack_of start_of (suc q))
  others_idle q P one other = idle_or (length (image_of t).processes - 1) q (idle_stack spare) no_stack P one other

-- ## The store

module _ (t : ProgramTree) (mains : AreOfMain (finished t)) (found_main : block_at (program_of t) 0 ≡ (program_of t).main) where
  abbrev p : Program
  p = program_of t

  abbrev types : Forms
  types = (finished t).forms

  abbrev pub store : Store
  store = with_room [] 0 p.variables

  home_layout : layout_at p (first_home 0 0) ≡ p.main.layout
  home_layout = ap (λ (b : Block). b.layout) found_main

  -- main's cells are its own, and the words of its variables
  pub main_words : (main_stack t).cells ≡ own_words (first_own (main_number t)) ++ all_words p.variables
  main_words =
      let own = own_words (first_own (main_number t)) in
      ap (λ (n : ℕ). numbered (image_of t).objects (own ++ replicate n (pos 0))) (the_main_block t).cells ∙ words_are t mains own refl

  stands_first : CellsAre p start_homes store 0 (main_entry t ∷ []) (main_stack t).cells
  stands_first = (
    [],
    refl,
    record {
      home = first_home 0 0;
      at = refl;
      process = refl;
      place = refl;
      size = refl;
      block = all_words p.variables;
      holds = subst (λ (l : Layout). AreCells p start_homes l p.variables (all_words p.variables)) (sym home_layout) (cells_hold t mains start_homes);
      is = main_words;
    },
  )

  pub memory_of : MemoryIs p start_homes (start_entries t) store (start_of t)
  memory_of zero = stands_first
  memory_of (suc q) = by (suc q == 0) (not_zero (suc q) (omega arith))
    where
      by : (r : Bool) → r ≡ false → ProcessIs p start_homes store (suc q) (if r then main_entry t ∷ [] else []) (cells_of (start_of t) (suc q))
      by true e = absurd (let both : true ≡ false = e in cc)
      by false e = tt

  pub memory_is : MemoryIs p start_homes (start_entries t) store (start_stacks (image_of t))
  memory_is = subst (λ (s : Stacks). MemoryIs p start_homes (start_entries t) store s) (sym (stacks_are t)) memory_of

  -- ## Sizes

  module _ (few : length (image_of t).processes ≤ 1024) (small : 8 + p.main.cells < 2 ^ 32) where
    few_of : AreFew (start_of t)
    few_of =
        record {
          cells = few_cells;
          processes = let n = replicate_length (length (image_of t).processes - 1) (idle_stack (spare t)) in omega (arith, few, n, some);
        }
      where
        some : 0 < length (image_of t).processes
        some = omega arith

        few_cells : (q : ℕ) → length (cells_of (start_of t) q) < 2 ^ 32
        few_cells zero =
            let own = own_words (first_own (main_number t)) in
            let size : length (main_stack t).cells ≡ length own + length (all_words p.variables) =
            ap length main_words ∙ length-append own (all_words p.variables) in
            let count = words_count t mains in
            omega (arith, size, count, small)
        few_cells (suc q) = others_idle t q (λ (s : Stack). length s.cells < 2 ^ 32) (omega arith) (omega arith)

    pub few_is : AreFew (start_stacks (image_of t))
    few_is = subst (λ (s : Stacks). AreFew s) (sym (stacks_are t)) few_of

  -- ## Locations

  -- the only home is main's
  pub only_home : (a : ℕ) (home : Home) → start_homes a ≡ Some home → (a ≡ 0) × (first_home 0 0 ≡ home)
  only_home a home e = by (a == 0) refl e
    where
      by : (r : Bool) → (a == 0) ≡ r → (if r then Some (first_home 0 0) else None) ≡ Some home → (a ≡ 0) × (first_home 0 0 ≡ home)
      by true is e = (is_zero a is, same_some (first_home 0 0) home e)
      by false is e = absurd (cc)

  -- Where a location lies: it is one of main's variables, or a part of one.
  record OfMain (l : Location) (u : Option TypeId) (r : Ref) : Type 0 where
    meaning : Meaning
    laid : slice_get p.main.layout l.variable ≡ Some meaning
    behind : ℕ
    path : IsPath types (laid_type meaning) (path_of l.selectors) u behind
    word : word_of r ≡ pos (8 + (cells_before types p.main.layout l.variable + behind))
    value : value_at store l ≡ part (path_of l.selectors) (get_or p.variables l.variable (ordinal (pos 0)))

  of_main : (l : Location) (u : Option TypeId) (r : Ref) → Lies p start_homes l u r → OfMain l u r
  of_main l u r h =
      let at = only_home l.activation h.home h.is.at in
      let layout : layout_at p h.home ≡ p.main.layout = ap (λ (x : Home). layout_at p x) (sym at.1) ∙ home_layout in
      record {
        meaning = h.is.meaning;
        laid = ap (λ (x : Layout). slice_get x l.variable) (sym layout) ∙ h.is.laid;
        behind = h.behind;
        path = h.is.path;
        word = ap word_of h.place
            ∙ ap₂ (λ (x : Home) (y : Layout). pos (x.process * 2 ^ 32 + (x.cell + 8 + cells_before types y l.variable + h.behind))) (sym at.1) layout
            ∙ ap pos (regroup (cells_before types p.main.layout l.variable) h.behind);
        value = ap (λ (a : ℕ). part (path_of l.selectors) (get_or (values_in store a) l.variable (ordinal (pos 0)))) at.0;
      }
    where
      regroup : (a b : ℕ) → 0 * 2 ^ 32 + (0 + 8 + a + b) ≡ 8 + (a + b)
      regroup a b = omega arith

  -- ## Objects

  abbrev steps : List ℕ → List Selector
  steps path = map (λ (i : ℕ). (let s : Selector = record { place = i; index = pos 0 } in s)) path

  steps_lead : (path : List ℕ) → path_of (steps path) ≡ path
  steps_lead [] = refl
  steps_lead (i ∷ path) = ap (λ (q : List ℕ). i ∷ q) (steps_lead path)

  known : (l : Location) (u : Option TypeId) (r : Ref) → Lies p start_homes l u r → is_object_type types u ≡ true
      → (n : ℤ) × (number_at (image_of t).objects (word_of r) ≡ Some n) × (value_at store l ≡ ordinal n)
  known l u r lies object =
      let at = of_main l u r lies in
      let is = found t mains l.variable at.meaning (path_of l.selectors) u at.behind at.laid at.path object in
      (is.0, ap (λ (w : ℤ). number_at (image_of t).objects w) at.word ∙ is.1, at.value ∙ is.2)

  known_only : (w n : ℤ) → number_at (image_of t).objects w ≡ Some n → IsObjectAt p start_homes (start_entries t) w
  known_only w n e =
      let its = only t mains w n e in
      let laid = own_variables t mains its.variable its.meaning its.laid in
      record {
        location = record { activation = 0; variable = its.variable; selectors = steps its.path };
        t = its.t;
        place = record { process = 0; cell = 0 + 8 + cells_before types (layout_at p (first_home 0 0)) its.variable + its.behind };
        lies = record {
          home = first_home 0 0;
          behind = its.behind;
          is = record {
            at = refl;
            meaning = its.meaning;
            laid = ap (λ (x : Layout). slice_get x its.variable) home_layout ∙ its.laid;
            variable = laid.0;
            own = laid.1;
            path = subst (λ (q : List ℕ). IsPath types (laid_type its.meaning) q its.t its.behind) (sym (steps_lead its.path)) its.leads;
          };
          place = refl;
        };
        object = its.object;
        word = its.word
            ∙ ap (λ (x : Layout). pos (8 + (cells_before types x its.variable + its.behind))) (sym home_layout)
            ∙ ap pos (regroup (cells_before types (layout_at p (first_home 0 0)) its.variable) its.behind);
        lives = (0, inl refl);
      }
    where
      regroup : (a b : ℕ) → 8 + (a + b) ≡ 0 * 2 ^ 32 + (0 + 8 + a + b)
      regroup a b = omega arith

  pub objects_are : AreObjects p start_homes (start_entries t) store (λ w. number_at (image_of t).objects w)
  objects_are = record { known = known; only = known_only }

  -- an object at a location has its kind
  pub kind_at : (l : Location) (u : TypeId) (r : Ref) → Lies p start_homes l (Some u) r → HasKind types (all_kinds t mains) u (value_at store l)
  kind_at l u r lies =
      let at = of_main l (Some u) r lies in
      subst (λ (v : Value). HasKind types (all_kinds t mains) u v) (sym at.value)
      (kind_there t mains l.variable at.meaning (path_of l.selectors) u at.behind at.laid at.path)
