-- A sub that is called: whatever the way, it is nested in the block from which it is called.
use Rattle.std.proofs.Common.{◌≡◌, ℕ, suc, ◌==◌, ◌||◌, inl, inr, if◌then◌else◌, Bool, true, false, is_some, List, [], ◌∷◌, length, Some, refl, sym, ap, ◌∙◌}
use Rattle.std.proofs.Common.{subst}
use Rattle.std.specs.Prelude.{position, unwrap_or}
use Rattle.std.specs.List.{slice_get, list_any}
use Rattle.pfc_tree.specs.trees.Parts.{ProgramTree}
use Rattle.pfc_tree.specs.forget.Parts.{forget_program}
use Rattle.pfc_tree.specs.lawful.Parts.{IsLawful}
use Rattle.pfc_types.specs.Scopes.{Level}
use Rattle.pfc_types.specs.Blocks.{Blocks, sub_at}
use Rattle.pfc_types.specs.rules.Expressions.{Env}
use Rattle.pfc_types.specs.rules.Whole.{finished, broken}
use Rattle.pfc_types.specs.declared.heads.Formal.{Formal}
use Rattle.pfc_types.specs.declared.heads.SubSort.{SubSort}
use Rattle.pfc_semantics.specs.Programs.{Block, Program, block_at, block_number, program_of}
use Rattle.pfc_translation.specs.Sites.{Site, is_mains, is_accept, level_of, linked, links_from}
use Rattle.pfc_image_laws.specs.Levels.{sees}
use Rattle.pfc_standing_code.specs.Typed.{is_in_block, IsOfSub}
use Rattle.pfc_call_laws.specs.Around.{IsNested}
use Rattle.pfc_call_laws.proofs.Places.{or_cases, or_left, or_right}
use Rattle.pfc_typed_programs.specs.Bodies.{IsBody, of_block, of_module, of_main}
use Rattle.pfc_nesting_laws.proofs.Programs.{nested_in, nested_in_mains}
use Rattle.pfc_callee_laws.specs.Callees.{is_guarded_sort, IsCalledFrom, IsMainsBody}
use Rattle.pfc_callee_laws.proofs.Known.{any_sees}
use Rattle.pfc_callee_laws.proofs.Mains.{of_mains}
use Rattle.pfc_callee_laws.proofs.Program.{declared_in, of_sub, outside_accepts}
use Rattle.pfc_callee_laws.proofs.Blocks.{sub_block}

module _ (t : ProgramTree) (lawful : IsLawful (forget_program t)) (clean : broken t ≡ []) where
  abbrev g : Program
  g = program_of t

  abbrev bs : Blocks
  bs = (finished t).blocks

  abbrev site : Block → Env → ℕ → Site
  site b env line = record { program = program_of t; block = b; env = env; line = line }

  -- ## From main's code

  -- no static link leads from there to what stands in a scope of main's
  mains_nested : (b : Block) → IsMainsBody t b → (k : ℕ) (callee : Block) → slice_get g.blocks k ≡ Some callee → is_mains bs callee.outer ≡ true
      → IsNested g b callee (links_from bs b callee.outer)
  mains_nested b is k callee at mains =
      let none : links_from bs b callee.outer ≡ 0 =
      ap (λ (r : Bool). if r then level_of bs b else unwrap_or (position (λ j. j == callee.outer) (linked bs b.env.view)) 0) mains ∙ ap length is.alone in
      subst (λ n. IsNested g b callee n) (sym none) (nested_in_mains t lawful b is.alone is.no_accept k callee at mains)

  mains_seen : (b : Block) → IsMainsBody t b → (env : Env) (line i : ℕ) → is_in_block (site b env line) i ≡ true → is_mains bs i ≡ true
  mains_seen b is env line i seen =
      elim (or_cases (is_mains bs i) (list_any (λ (level : Level). level.scope == i) b.env.view || is_accept b i) seen) [
        | inl m ↦ m
        | inr rest ↦
            elim (or_cases (list_any (λ (level : Level). level.scope == i) b.env.view) (is_accept b i) rest) [
              | inl e ↦ is.mains i (any_sees b.env.view i e)
              | inr e ↦ absurd (let both : true ≡ false = sym e ∙ is.no_accept i in cc)
            ]
      ]

  -- ## From any body

  block_seen : (j k : ℕ) (b callee : Block) → slice_get g.blocks j ≡ Some b → slice_get g.blocks k ≡ Some callee → (env : Env) (line i : ℕ)
      → callee.outer ≡ i → is_in_block (site b env line) i ≡ true → (is_mains bs i || sees b.env.view i) ≡ true
  block_seen j k b callee at at_callee env line i is seen =
      elim (or_cases (is_mains bs i) (list_any (λ (level : Level). level.scope == i) b.env.view || is_accept b i) seen) [
        | inl m ↦ or_left (is_mains bs i) (sees b.env.view i) m
        | inr rest ↦
            elim (or_cases (list_any (λ (level : Level). level.scope == i) b.env.view) (is_accept b i) rest) [
              | inl e ↦ or_right (is_mains bs i) (sees b.env.view i) (any_sees b.env.view i e)
              | inr e ↦ absurd (outside_accepts t lawful j k b callee at at_callee (subst (λ (n : ℕ). is_accept b n ≡ true) (sym is) e))
            ]
      ]

  -- where the block that is called is nested
  record IsInside (b callee : Block) : Type 0 where
    seen : (is_mains bs callee.outer || sees b.env.view callee.outer) ≡ true
    nested : IsNested g b callee (links_from bs b callee.outer)

  of_main_code : (b : Block) → IsMainsBody t b → (k : ℕ) (callee : Block) → slice_get g.blocks k ≡ Some callee → (env : Env) (line i : ℕ) → callee.outer ≡ i
      → is_in_block (site b env line) i ≡ true → IsInside b callee
  of_main_code b is k callee at env line i outer seen =
      let mains : is_mains bs callee.outer ≡ true = subst (λ (n : ℕ). is_mains bs n ≡ true) (sym outer) (mains_seen b is env line i seen) in
      record { seen = or_left (is_mains bs callee.outer) (sees b.env.view callee.outer) mains; nested = mains_nested b is k callee at mains }

  inside : (b : Block) → IsBody t b → (k : ℕ) (callee : Block) → slice_get g.blocks k ≡ Some callee → (env : Env) (line i : ℕ) → callee.outer ≡ i
      → is_in_block (site b env line) i ≡ true → IsInside b callee
  inside b (of_block j c at) k callee at_callee env line i outer seen =
      let in_view : (is_mains bs callee.outer || sees b.env.view callee.outer) ≡ true =
      subst (λ (n : ℕ). (is_mains bs n || sees b.env.view n) ≡ true) (sym outer) (block_seen j k b callee at at_callee env line i outer seen) in
      record { seen = in_view; nested = nested_in t lawful (suc j) k b callee at at_callee in_view }
  inside b (of_module j c at) k callee at_callee env line i outer seen =
      of_main_code b (of_mains t lawful (suc j) b at) k callee at_callee env line i outer seen
  inside b of_main k callee at_callee env line i outer seen =
      of_main_code b (of_mains t lawful 0 b refl) k callee at_callee env line i outer seen

  -- ## The call

  pub called_from : (b : Block) (env : Env) (line scope : ℕ) (formals : List Formal) (asked : ℕ → SubSort → Type 0) → IsBody t b
      → IsOfSub (site b env line) scope formals asked → IsCalledFrom t b scope formals asked
  called_from b env line scope formals asked body is =
      let n = is.number in
      let head = sub_at bs n in
      let sub = sub_block t lawful clean n is.among in
      let k = block_number g head.scope in
      let callee = block_at g head.scope in
      let outer : callee.outer ≡ is.within = declared_in t lawful n is.within is.name is.declared in
      let called = inside b body k callee sub.activated.there env line is.within outer is.seen in
      let same : head.scope ≡ scope = sym is.own_scope in
      record {
        head = head;
        own_scope = is.own_scope;
        own_formals = is.own_formals;
        sub = sub;
        as_asked = subst (λ (i : ℕ). asked i head.sort) (sym outer ∙ ap (λ (i : ℕ). (block_at g i).outer) same) is.as_asked;
        guarded = subst (λ (i : ℕ). is_some (block_at g i).guard ≡ is_guarded_sort (sub_at bs is.number).sort) same (of_sub t lawful n is.among).guard;
        seen = subst (λ (i : ℕ). (is_mains bs (block_at g i).outer || sees b.env.view (block_at g i).outer) ≡ true) same called.seen;
        nested = subst (λ (i : ℕ). IsNested g b (block_at g i) (links_from bs b (block_at g i).outer)) same called.nested;
      }

  pub called_at : (s : Site) (scope : ℕ) (formals : List Formal) (asked : ℕ → SubSort → Type 0) → s.program ≡ program_of t → IsBody t s.block
      → IsOfSub s scope formals asked → IsCalledFrom t s.block scope formals asked
  called_at s scope formals asked same body is =
      called_from s.block s.env s.line scope formals asked body
      (subst (λ (z : Program). IsOfSub (record s { program = z }) scope formals asked) same is)

  -- a sub that stands in a scope of main's is nested in each of main's bodies
  pub nested_in_main_code : (i k : ℕ) (b callee : Block) → slice_get (g.main ∷ g.modules) i ≡ Some b → slice_get g.blocks k ≡ Some callee
      → is_mains bs callee.outer ≡ true → IsNested g b callee (links_from bs b callee.outer)
  nested_in_main_code i k b callee at at_callee mains = mains_nested b (of_mains t lawful i b at) k callee at_callee mains

  pub nested_in_main : (k : ℕ) (callee : Block) → slice_get g.blocks k ≡ Some callee → is_mains bs callee.outer ≡ true → IsNested g g.main callee 0
  nested_in_main k callee at mains =
      let main = of_mains t lawful 0 g.main refl in nested_in_mains t lawful g.main main.alone main.no_accept k callee at mains
