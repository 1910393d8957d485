-- What a call or a creation asks of a block: of each sub and of each process.
use Rattle.std.proofs.Common.{◌≡◌, ℕ, zero, suc, ◌+◌, ◌<◌, ◌⊎◌, inl, inr, Bool, true, false, if◌then◌else◌, is_some, List, [], ◌∷◌, ◌++◌, length, length-append}
use Rattle.std.proofs.Common.{map, take, drop, get_or, Option, Some, None, refl, sym, ap, ◌∙◌, subst, arith}
use Rattle.std.specs.List.{All, slice_get}
use Rattle.std.proofs.lemmas.List.{length-map, append_assoc}
use Rattle.std.proofs.lemmas.Option.{slice_get_within}
use Rattle.pfc_code.specs.declared.images.Block.{Block as CodeBlock}
use Rattle.pfc_tree.specs.Symbols.{Text}
use Rattle.pfc_tree.specs.trees.Parts.{ProgramTree}
use Rattle.pfc_tree.specs.forget.Parts.{forget_program}
use Rattle.pfc_tree.specs.lawful.Parts.{IsLawful}
use Rattle.pfc_types.specs.Types.{is_simple}
use Rattle.pfc_types.specs.Scopes.{Names, scope_at}
use Rattle.pfc_types.specs.Blocks.{Blocks, sub_at, process_at}
use Rattle.pfc_types.specs.declared.types.TypeId.{TypeId}
use Rattle.pfc_types.specs.declared.heads.Formal.{Formal}
use Rattle.pfc_types.specs.declared.heads.SubHead.{SubHead}
use Rattle.pfc_types.specs.declared.heads.SubSort.{SubSort}
use Rattle.pfc_types.specs.declared.heads.SubSort.TheVariants.{Procedure, Guarded, Function}
use Rattle.pfc_types.specs.declared.heads.ProcessHead.{ProcessHead}
use Rattle.pfc_types.specs.declared.scope.Meaning.{Meaning}
use Rattle.pfc_types.specs.declared.scope.Meaning.TheVariants.{Variable}
use Rattle.pfc_types.specs.rules.Routines.{is_function_sort}
use Rattle.pfc_types.specs.rules.Whole.{finished, broken}
use Rattle.pfc_name_laws.specs.Reached.{formal_meaning, GivesSimple}
use Rattle.pfc_name_laws.proofs.Numbers.{none_noted}
use Rattle.pfc_type_laws.proofs.WalkBlocks.{types_built}
use Rattle.pfc_semantics.specs.Layouts.{Layout, is_laid, laid_names, result_laid, sub_layout_at, layout_by, accepts_laid, process_layout, sub_with}
use Rattle.pfc_semantics.specs.Programs.{Block, Guard, Program, block_at, block_number, layout_cells, program_of}
use Rattle.pfc_translation.specs.Sites.{is_mains, is_accept, is_reference, layout_with}
use Rattle.pfc_translation.specs.Operands.{formals_of, params_of, process_formals}
use Rattle.pfc_image_cells.proofs.Layouts.{AreLaid, laid_parts}
use Rattle.pfc_image_cells.proofs.Formals.{formals_laid, result_stands}
use Rattle.pfc_image_cells.proofs.Trees.{Placed, IsLaidOut, blocks_placed, own_sub}
use Rattle.pfc_standing_code.specs.Typed.{variables_by}
use Rattle.pfc_views.specs.Views.{block_site}
use Rattle.pfc_call_laws.specs.Blocks.{Takes, own_variables}
use Rattle.pfc_typed_programs.specs.Bodies.{of_block}
use Rattle.pfc_typed_programs.proofs.Blocks.{each_of, headed, known, HasScope, sub_has_block, sub_apart, sub_laid, sub_called, process_has_block, process_apart}
use Rattle.pfc_typed_programs.proofs.Blocks.{process_no_sub, process_called, process_own}
use Rattle.pfc_typed_programs.proofs.Bodies.{body_state}
use Rattle.pfc_nesting_laws.proofs.Programs.{has_scopes, own_not_mains, no_accept, reached, main_alone, main_has_none, nested_in_mains}
use Rattle.pfc_callee_laws.specs.Callees.{IsActivated, IsSubBlock, IsProcessBlock, HasResultAt}
use Rattle.pfc_callee_laws.proofs.Fine.{IsOwn}
use Rattle.pfc_callee_laws.proofs.Known.{are_known, own_is_known}
use Rattle.pfc_callee_laws.proofs.Mains.{of_mains}
use Rattle.pfc_callee_laws.proofs.Values.{simple_part_plain}
use Rattle.pfc_callee_laws.proofs.Images.{block_in_image}
use Rattle.pfc_callee_laws.proofs.Laid.{all_take, all_drop, laid_true, laid_at, in_two, behind_two, accepts_true, are_laid_as}
use Rattle.pfc_callee_laws.proofs.Program.{HoldsNone, IsPlainName, own_plain, names_plain, of_sub, of_process, its_numbers, its_layout, accept_plain}

one_block : (x y : Block) → Some x ≡ Some y → x ≡ y
one_block x y e = cc

module _ (t : ProgramTree) (lawful : IsLawful (forget_program t)) (clean : broken t ≡ []) where
  abbrev g : Program
  g = program_of t

  abbrev bs : Blocks
  bs = (finished t).blocks

  -- ## Whatever block it is

  -- none of main's bodies has its scope
  not_main : (k : ℕ) (b : Block) → slice_get g.blocks k ≡ Some b → (i : ℕ) → slice_get (g.main ∷ g.modules) i ≡ Some b → ⊥
  not_main k b at i e = let both : true ≡ false = sym (of_mains t lawful i b e).own ∙ own_not_mains t lawful k b at in absurd (cc)

  abbrev IsPlainLayout : Layout → Type 0
  IsPlainLayout l = (j : ℕ) (m : Meaning) → slice_get l j ≡ Some m → HoldsNone (finished t).forms m

  -- what is told of a block beside its parameters
  activated : (scope : ℕ) (formals : List Formal) → HasScope t lawful clean scope → is_mains bs scope ≡ false
      → ((code : CodeBlock) → code.params ≡ params_of g (block_at g scope)
      → code.cells ≡ layout_cells (finished t).forms (block_at g scope).layout → Takes g (block_at g scope) formals code)
      → IsPlainLayout (block_at g scope).layout → IsActivated t scope formals
  activated scope formals h apart takes plain =
      let b = block_at g scope in
      let k = block_number g scope in
      let image = block_in_image t k b h.there in
      let cells = (h.fine apart).1 in
      record {
        there = h.there;
        own_scope = h.scope;
        code = image.code;
        is = image.is;
        takes = takes image.code image.params (image.cells ∙ cells);
        cells = cells;
        scopes = has_scopes t lawful k b h.there;
        objects = λ j m path u o there value is. plain j m there path u o value is;
        known = are_known g b (reached t lawful k b h.there) (own_not_mains t lawful k b h.there) (its_numbers t lawful k b h.there).below
            (its_layout t lawful k b h.there).sees_own;
        state = body_state t lawful clean b (of_block k b h.there);
        not_mains = own_not_mains t lawful k b h.there;
        apart = not_main k b h.there;
      }

  -- ## Subs

  module _ (n : ℕ) (below : n < length bs.subs) where
    abbrev head : SubHead
    head = sub_at bs n

    abbrev b : Block
    b = block_at g head.scope

    abbrev names : Names
    names = scope_at bs.scopes head.scope

    abbrev count : ℕ
    count = length head.formals

    abbrev others : Layout
    others = result_laid head.sort ++ laid_names (drop count names)

    h : HasScope t lawful clean head.scope
    h = sub_has_block t lawful clean n below

    laid_first : b.layout ≡ map formal_meaning head.formals ++ others
    laid_first =
        sub_laid t lawful clean n below
        ∙ ap (λ (l : Layout). l ++ others) (formals_laid bs head.scope head.formals (none_noted t clean) ((headed t lawful clean).subs n below).heading)

    all_laid : AreLaid b.layout
    all_laid = (each_of (Placed g) g.blocks (block_number g head.scope) b (blocks_placed t lawful) h.there).laid

    size : length (map formal_meaning head.formals) ≡ count
    size = length-map head.formals formal_meaning

    result_plain : (sort : SubSort) (j : ℕ) (m : Meaning) → slice_get (result_laid sort) j ≡ Some m
        → (u : TypeId) × (m ≡ Variable u false) × (sort ≡ Function (Some u))
    result_plain Procedure j m e = absurd (cc)
    result_plain Guarded j m e = absurd (cc)
    result_plain (Function None) j m e = absurd (cc)
    result_plain (Function (Some u)) zero m e = (u, (let same : Variable u false ≡ m = cc in sym same), refl)
    result_plain (Function (Some u)) (suc j) m e = absurd (cc)

    other_own : (j : ℕ) (m : Meaning) → slice_get others j ≡ Some m → is_reference m ≡ false
    other_own j m e = by (in_two (result_laid head.sort) (laid_names (drop count names)) j m e)
      where
        by : (slice_get (result_laid head.sort) j ≡ Some m)
            ⊎ ((i : ℕ) × (j ≡ length (result_laid head.sort) + i) × (slice_get (laid_names (drop count names)) i ≡ Some m)) → is_reference m ≡ false
        by (inl e) = ap is_reference (result_plain head.sort j m e).1
        by (inr e) = own_plain m (laid_true IsOwn (drop count names) e.0 m (of_sub t lawful n below).own e.2)

    sub_takes : (code : CodeBlock) → code.params ≡ params_of g b → code.cells ≡ layout_cells (finished t).forms b.layout → Takes g b head.formals code
    sub_takes code params cells =
        record {
          parameters = map formal_meaning head.formals;
          others = others;
          layout = laid_first;
          laid = are_laid_as head.formals (((headed t lawful clean).subs n below).heading.typed (none_noted t clean));
          variables = λ j m e. laid_at b.layout (length (map formal_meaning head.formals) + j) m all_laid
              (subst (λ (l : Layout). slice_get l (length (map formal_meaning head.formals) + j) ≡ Some m) (sym laid_first)
              (behind_two (map formal_meaning head.formals) others j m e));
          own = λ j m e few. other_own j m e;
          params = params ∙ ap (λ (i : ℕ). layout_cells (finished t).forms (take (formals_of bs i (sub_with bs.subs i)) b.layout)) h.scope
              ∙ ap (λ (o : Option SubHead). layout_cells (finished t).forms (take (formals_of bs head.scope o) b.layout)) (own_sub t n below)
              ∙ ap (λ (l : Layout). layout_cells (finished t).forms l) (sub_called t lawful clean n below).first;
          cells = cells;
        }

    simple_plain : (u : TypeId) → is_simple u ≡ true → HoldsNone (finished t).forms (Variable u false)
    simple_plain u simple path v o value is = simple_part_plain (finished t).forms (types_built t) u v path o simple is

    sub_plain : IsPlainLayout b.layout
    sub_plain j m e =
        let whole = subst (λ (l : Layout). slice_get l j ≡ Some m) (sub_laid t lawful clean n below) e in
        by (in_two (laid_names (take count names)) others j m whole)
      where
        plain : All (λ (x : Text × Meaning). IsPlainName (finished t).forms x.1) names
        plain = names_plain t lawful head.scope (sub_apart t lawful clean n below)

        is_variable : is_laid m ≡ true
        is_variable = laid_at b.layout j m all_laid e

        of_result : (u : TypeId) → m ≡ Variable u false → head.sort ≡ Function (Some u) → HoldsNone (finished t).forms m
        of_result u is sort =
            let gives = subst GivesSimple sort (((headed t lawful clean).subs n below).gives (none_noted t clean)) in
            let same : u ≡ gives.0 = (let both = gives.1 in cc) in
            subst (HoldsNone (finished t).forms) (sym is) (simple_plain u (ap is_simple same ∙ gives.2))

        others_by : (i : ℕ) → (slice_get (result_laid head.sort) i ≡ Some m)
            ⊎ ((k : ℕ) × (i ≡ length (result_laid head.sort) + k) × (slice_get (laid_names (drop count names)) k ≡ Some m))
            → HoldsNone (finished t).forms m
        others_by i (inl e) = let is = result_plain head.sort i m e in of_result is.0 is.1 is.2
        others_by i (inr e) =
            laid_true (IsPlainName (finished t).forms) (drop count names) e.0 m
            (all_drop (λ (x : Text × Meaning). IsPlainName (finished t).forms x.1) count names plain) e.2 is_variable

        by : (slice_get (laid_names (take count names)) j ≡ Some m)
            ⊎ ((i : ℕ) × (j ≡ length (laid_names (take count names)) + i) × (slice_get others i ≡ Some m)) → HoldsNone (finished t).forms m
        by (inl e) =
            laid_true (IsPlainName (finished t).forms) (take count names) j m
            (all_take (λ (x : Text × Meaning). IsPlainName (finished t).forms x.1) count names plain) e is_variable
        by (inr e) = others_by e.0 (in_two (result_laid head.sort) (laid_names (drop count names)) e.0 m e.2)

    sub_own : (j : ℕ) (m : Meaning) → slice_get b.layout j ≡ Some m → j < own_variables g b
    sub_own j m e =
        let within = slice_get_within b.layout j m e in
        let scopes = has_scopes t lawful (block_number g head.scope) b h.there in
        let mains : is_mains bs b.scope ≡ false = own_not_mains t lawful (block_number g head.scope) b h.there in
        let headed_by : sub_with bs.subs b.scope ≡ Some head = ap (λ (i : ℕ). sub_with bs.subs i) h.scope ∙ own_sub t n below in
        let none : is_accept b b.scope ≡ false = (no_accept t lawful (block_number g head.scope) b h.there b.scope
        (own_is_known g b (own_not_mains t lawful (block_number g head.scope) b h.there)
        (its_numbers t lawful (block_number g head.scope) b h.there).below (its_layout t lawful (block_number g head.scope) b h.there).sees_own)) in
        let own : own_variables g b ≡ length b.layout =
        ap (λ (r : Bool). if r then length (layout_with (block_site g b) b.scope) else variables_by (block_site g b) b.scope (sub_with bs.subs b.scope)) mains
        ∙ (ap (λ (o : Option SubHead). variables_by (block_site g b) b.scope o) headed_by
        ∙ (ap (λ (r : Bool). length (if r then b.layout else if is_mains bs b.scope then g.main.layout else (block_at g b.scope).layout)) none
        ∙ (ap (λ (r : Bool). length (if r then g.main.layout else (block_at g b.scope).layout)) mains
        ∙ ap (λ (x : Block). length x.layout) scopes.by_scope))) in
        omega (arith, within, own)

    pub sub_block : IsSubBlock t head
    sub_block =
        record {
          activated = activated head.scope head.formals h (sub_apart t lawful clean n below) sub_takes sub_plain;
          headed = own_sub t n below;
          own = sub_own;
          guarded = (of_sub t lawful n below).guard;
        }

    pub has_result : is_function_sort head.sort ≡ true → HasResultAt t head
    has_result function = by head.sort refl function (((headed t lawful clean).subs n below).gives (none_noted t clean))
      where
        by : (sort : SubSort) → head.sort ≡ sort → is_function_sort sort ≡ true → GivesSimple sort → HasResultAt t head
        by Procedure e is gives = absurd (cc)
        by Guarded e is gives = absurd (cc)
        by (Function o) e is gives =
            let some : head.sort ≡ Function (Some gives.0) = e ∙ ap (λ (x : Option TypeId). Function x) gives.1 in
            record {
              of_type = gives.0;
              simple = gives.2;
              laid = ap (λ (l : Layout). slice_get l count) (sub_laid t lawful clean n below)
                  ∙ result_stands bs head gives.0 (none_noted t clean) ((headed t lawful clean).subs n below).heading some;
            }

  -- ## Processes

  module _ (n : ℕ) (below : n < length bs.processes) where
    abbrev its : ProcessHead
    its = process_at bs n

    abbrev p : Block
    p = block_at g its.scope

    abbrev own_names : Names
    own_names = scope_at bs.scopes its.scope

    abbrev some : ℕ
    some = length its.formals

    there : HasScope t lawful clean its.scope
    there = process_has_block t lawful clean n below

    no_sub : sub_with bs.subs its.scope ≡ None
    no_sub = process_no_sub t lawful clean n below

    -- its names, and behind them those of its accepts
    record IsProcessLaid : Type 0 where
      accepts : List Names
      layout : p.layout ≡ laid_names own_names ++ accepts_laid accepts
      plain : (j : ℕ) → j < length accepts → All (λ (x : Text × Meaning). IsPlainName (finished t).forms x.1) (get_or accepts j [])

    nothing_first : (l k : Layout) → l ++ k ≡ [] → l ≡ []
    nothing_first [] k e = refl
    nothing_first (m ∷ l) k e = absurd (cc)

    process_laid : IsProcessLaid
    process_laid = by (its_layout t lawful (block_number g its.scope) p there.there).layout
      where
        by : (p.layout ≡ sub_layout_at bs p.scope)
            ⊎ (p.layout ≡ process_layout (scope_at bs.scopes p.scope) (take p.accepts (drop p.next bs.scopes))) → IsProcessLaid
        by (inl e) =
            let whole = subst (λ (o : Option SubHead). IsLaidOut g its.scope o p.layout) no_sub (there.fine (process_apart t lawful clean n below)).2 in
            let none : p.layout ≡ [] = e ∙ ap (λ (i : ℕ). layout_by bs (sub_with bs.subs i)) there.scope ∙ ap (layout_by bs) no_sub in
            let first : laid_names own_names ≡ [] = nothing_first (laid_names own_names) (accepts_laid whole.0) (sym whole.1 ∙ none) in
            record {
              accepts = [];
              layout = none ∙ ap (λ (l : Layout). l ++ []) (sym first);
              plain = λ j less. absurd (omega (arith, less));
            }
        by (inr e) =
            record {
              accepts = take p.accepts (drop p.next bs.scopes);
              layout = e ∙ ap (λ (i : ℕ). process_layout (scope_at bs.scopes i) (take p.accepts (drop p.next bs.scopes))) there.scope;
              plain = accept_plain t lawful (block_number g its.scope) p there.there;
            }

    laid_before : p.layout ≡ map formal_meaning its.formals ++ (laid_names (drop some own_names) ++ accepts_laid process_laid.accepts)
    laid_before =
        process_laid.layout
        ∙ ap (λ (l : Layout). l ++ accepts_laid process_laid.accepts) (laid_parts some own_names)
        ∙ append_assoc (laid_names (take some own_names)) (laid_names (drop some own_names)) (accepts_laid process_laid.accepts)
        ∙ ap (λ (l : Layout). l ++ (laid_names (drop some own_names) ++ accepts_laid process_laid.accepts))
        (formals_laid bs its.scope its.formals (none_noted t clean) ((headed t lawful clean).processes n below))

    all_variables : AreLaid p.layout
    all_variables = (each_of (Placed g) g.blocks (block_number g its.scope) p (blocks_placed t lawful) there.there).laid

    -- only the parameters are references, and those of accepts
    process_own_variables : (j : ℕ) (m : Meaning) → slice_get (laid_names (drop some own_names) ++ accepts_laid process_laid.accepts) j ≡ Some m
        → length (map formal_meaning its.formals) + j < own_variables g p → is_reference m ≡ false
    process_own_variables j m e few = by (in_two (laid_names (drop some own_names)) (accepts_laid process_laid.accepts) j m e)
      where
        mains : is_mains bs p.scope ≡ false
        mains = own_not_mains t lawful (block_number g its.scope) p there.there

        count_is : own_variables g p ≡ length (laid_names own_names)
        count_is =
            ap (λ (r : Bool). if r then length (layout_with (block_site g p) p.scope) else variables_by (block_site g p) p.scope (sub_with bs.subs p.scope))
            mains
            ∙ ap (λ (i : ℕ). variables_by (block_site g p) i (sub_with bs.subs i)) there.scope
            ∙ ap (λ (o : Option SubHead). variables_by (block_site g p) its.scope o) no_sub

        two : length (laid_names own_names) ≡ length (map formal_meaning its.formals) + length (laid_names (drop some own_names))
        two =
            ap (λ (l : Layout). length l) (laid_parts some own_names)
            ∙ length-append (laid_names (take some own_names)) (laid_names (drop some own_names))
            ∙ ap (λ (l : Layout). length l + length (laid_names (drop some own_names)))
            (formals_laid bs its.scope its.formals (none_noted t clean) ((headed t lawful clean).processes n below))

        by : (slice_get (laid_names (drop some own_names)) j ≡ Some m)
            ⊎ ((i : ℕ) × (j ≡ length (laid_names (drop some own_names)) + i) × (slice_get (accepts_laid process_laid.accepts) i ≡ Some m))
            → is_reference m ≡ false
        by (inl e) = own_plain m (laid_true IsOwn (drop some own_names) j m (of_process t lawful n below).own e)
        by (inr e) = let at = e.1 in absurd (omega (arith, at, few, count_is, two))

    process_takes : (code : CodeBlock) → code.params ≡ params_of g p → code.cells ≡ layout_cells (finished t).forms p.layout → Takes g p its.formals code
    process_takes code params cells =
        record {
          parameters = map formal_meaning its.formals;
          others = laid_names (drop some own_names) ++ accepts_laid process_laid.accepts;
          layout = laid_before;
          laid = are_laid_as its.formals (((headed t lawful clean).processes n below).typed (none_noted t clean));
          variables = λ j m e. laid_at p.layout (length (map formal_meaning its.formals) + j) m all_variables
              (subst (λ (l : Layout). slice_get l (length (map formal_meaning its.formals) + j) ≡ Some m) (sym laid_before)
              (behind_two (map formal_meaning its.formals) (laid_names (drop some own_names) ++ accepts_laid process_laid.accepts) j m e));
          own = process_own_variables;
          params = params ∙ ap (λ (i : ℕ). layout_cells (finished t).forms (take (formals_of bs i (sub_with bs.subs i)) p.layout)) there.scope
              ∙ ap (λ (o : Option SubHead). layout_cells (finished t).forms (take (formals_of bs its.scope o) p.layout)) no_sub
              ∙ ap (λ (o : Option ProcessHead). layout_cells (finished t).forms (take (process_formals o) p.layout))
              (process_own bs.processes n (known t lawful clean).apart below)
              ∙ ap (λ (l : Layout). layout_cells (finished t).forms l) (process_called t lawful clean n below).first;
          cells = cells;
        }

    process_plain : IsPlainLayout p.layout
    process_plain j m e =
        by (in_two (laid_names own_names) (accepts_laid process_laid.accepts) j m
        (subst (λ (l : Layout). slice_get l j ≡ Some m) process_laid.layout e)) (laid_at p.layout j m all_variables e)
      where
        by : (slice_get (laid_names own_names) j ≡ Some m)
            ⊎ ((i : ℕ) × (j ≡ length (laid_names own_names) + i) × (slice_get (accepts_laid process_laid.accepts) i ≡ Some m)) → is_laid m ≡ true
            → HoldsNone (finished t).forms m
        by (inl e) is =
            laid_true (IsPlainName (finished t).forms) own_names j m (names_plain t lawful its.scope (process_apart t lawful clean n below)) e is
        by (inr e) is = accepts_true (IsPlainName (finished t).forms) process_laid.accepts e.0 m process_laid.plain e.2 is

    none_some : (o : Option Guard) → is_some o ≡ false → o ≡ None
    none_some None e = refl
    none_some (Some w) e = absurd (cc)

    pub process_block : IsProcessBlock t its
    process_block =
        record {
          activated = activated its.scope its.formals there (process_apart t lawful clean n below) process_takes process_plain;
          outer = (of_process t lawful n below).outer;
          unguarded = none_some p.guard (of_process t lawful n below).guard;
          nested = nested_in_mains t lawful g.main (main_alone t lawful) (main_has_none t lawful) (block_number g its.scope) p there.there
              (subst (λ (i : ℕ). is_mains bs i ≡ true) (sym (of_process t lawful n below).outer) refl);
        }
