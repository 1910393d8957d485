-- The blocks of processes, and their code in the image.
use Rattle.std.proofs.Common.{◌≡◌, ℕ, zero, suc, ◌+◌, ◌-◌, ◌<◌, ◌==◌, nat_lt, not, cond, Bool, true, false, List, [], ◌∷◌, length, position, unwrap_or}
use Rattle.std.proofs.Common.{slice_get, Option, Some, None, refl, sym, ap, ◌∙◌, subst, arith}
use Rattle.std.specs.List.{position_or_len}
use Rattle.pfc_code.specs.declared.images.Block.{Block as CodeBlock}
use Rattle.pfc_tree.specs.Symbols.{Text}
use Rattle.pfc_tree.specs.trees.Parts.{ProgramTree}
use Rattle.pfc_tree.specs.forget.Parts.{forget_program}
use Rattle.pfc_tree.specs.lawful.Parts.{IsLawful}
use Rattle.pfc_types.specs.Blocks.{process_at}
use Rattle.pfc_types.specs.declared.heads.Formal.{Formal}
use Rattle.pfc_types.specs.rules.Whole.{finished, broken}
use Rattle.pfc_semantics.specs.Layouts.{sub_with}
use Rattle.pfc_semantics.specs.Programs.{Block, Program, block_at, block_number, program_of}
use Rattle.pfc_semantics.specs.Processes.{declaration_of, process_block}
use Rattle.pfc_semantics.specs.Configurations.{declared_block}
use Rattle.pfc_translation.specs.Sites.{is_mains}
use Rattle.pfc_translation.specs.Images.{image_of}
use Rattle.pfc_image_cells.proofs.Trees.{IsInitial, initial_placed}
use Rattle.pfc_standing_code.specs.Words.{AreKnown}
use Rattle.pfc_call_laws.specs.Blocks.{Takes}
use Rattle.pfc_call_laws.specs.Calls.{HasNoObjects}
use Rattle.pfc_object_laws.specs.Mains.{AreOfMain}
use Rattle.pfc_main_names.proofs.Mains.{are_of_main}
use Rattle.pfc_typed_programs.specs.Bodies.{IsCallee}
use Rattle.pfc_typed_programs.proofs.Blocks.{process_called, process_among, process_apart, process_no_sub}
use Rattle.pfc_typed_programs.proofs.Called.{called_stands}
use Rattle.pfc_representation.specs.Levels.{number_in}
use Rattle.pfc_represented_start.specs.Starts.{main_setting}
use Rattle.pfc_represented_start.proofs.Setting.{main_scope, main_of_image, the_main_block}
use Rattle.pfc_represented_start.proofs.Processes.{each, get_there, there_below, declared, count_is, labels, labelled_there}
use Rattle.pfc_nesting_laws.proofs.Programs.{has_scopes}
use Rattle.pfc_kept_lives.specs.Creatable.{IsCreatable}
use Rattle.pfc_kept_lives.proofs.Declared.{IsDeclared, IsThere, declared_there, known_in}

-- ## One block

-- The block of a process, which is number k of the image: it is no sub's, and none of main's bodies.
pub record IsProcessBlock (t : ProgramTree) (callee : Block) (k : ℕ) (formals : List Formal) : Type 0 where
  pub there : slice_get (program_of t).blocks k ≡ Some callee
  pub code : CodeBlock
  pub is : slice_get (image_of t).blocks k ≡ Some code
  pub number : k ≡ number_in (program_of t) callee
  pub takes : Takes (program_of t) callee formals code
  pub outer : is_mains (program_of t).state.blocks callee.outer ≡ true
  pub objects : HasNoObjects (program_of t) callee
  pub unguarded : callee.guard ≡ None
  pub no_sub : sub_with (program_of t).state.blocks.subs callee.scope ≡ None
  pub apart : (i : ℕ) → slice_get ((program_of t).main ∷ (program_of t).modules) i ≡ Some callee → ⊥
  pub known : AreKnown (program_of t) callee [] callee.env

some_same : {A : Type 0} (x y : A) → Some x ≡ Some y → x ≡ y
some_same x y h = cc

-- a block that stands first with this scope has a place
not_nowhere : (scope : ℕ) (bs : List Block) (b : Block) → slice_get bs 0 ≡ Some b → b.scope ≡ scope
    → position (λ (c : Block). c.scope == scope) bs ≡ None → ⊥
not_nowhere scope [] b there its none = (let no : None ≡ Some b = there in cc)
not_nowhere scope (y ∷ ys) b there its none =
    let one : y ≡ b = some_same y b there in
    let found : (y.scope == scope) ≡ true = same y.scope (ap (λ (z : Block). z.scope) one ∙ its) in
    let place : ℕ = position_or_len (λ (c : Block). c.scope == scope) ys in
    let first : position (λ (c : Block). c.scope == scope) (y ∷ ys) ≡ Some 0 =
    ap (λ (r : Bool). cond (nat_lt (cond (not r) (1 + place) 0) (suc (length ys))) (Some (cond (not r) (1 + place) 0)) None) found
    ∙ ap (λ (r : Bool). cond r (Some 0) None) (less (length ys)) in
    first_not_none (position (λ (c : Block). c.scope == scope) (y ∷ ys)) first none
  where
    first_not_none : (o : Option ℕ) → o ≡ Some 0 → o ≡ None → ⊥
    first_not_none None h k = absurd (cc)
    first_not_none (Some i) h k = absurd (cc)

    same : (i : ℕ) → i ≡ scope → (i == scope) ≡ true
    same i h = grind (arith, h)

    less : (i : ℕ) → nat_lt 0 (suc i) ≡ true
    less i = grind arith

module _ (t : ProgramTree) (lawful : IsLawful (forget_program t)) (unbroken : broken t ≡ []) where
  abbrev g : Program
  g = program_of t

  module _ (n : ℕ) (among : n < length g.state.blocks.processes) where
    abbrev scope : ℕ
    scope = (process_at g.state.blocks n).scope

    abbrev callee : Block
    callee = block_at g scope

    called : IsCallee g scope (process_at g.state.blocks n).formals 0
    called = process_called t lawful unbroken n among

    not_mains : is_mains g.state.blocks callee.scope ≡ false
    not_mains = ap (λ i. is_mains g.state.blocks i) called.own ∙ process_apart t lawful unbroken n among

    pub not_main : callee ≡ g.main → ⊥
    not_main same =
        let both : true ≡ false = ap (λ i. is_mains g.state.blocks i) (sym (ap (λ (b : Block). b.scope) same ∙ main_scope t)) ∙ not_mains in
        cc

    no_module : (k : ℕ) → slice_get g.modules k ≡ Some callee → ⊥
    no_module k there =
        let initial = each (IsInitial g) g.modules k callee (initial_placed t lawful) there in
        let both : true ≡ false = sym initial.1 ∙ not_mains in
        cc

    none_of_main : (i : ℕ) → slice_get (g.main ∷ g.modules) i ≡ Some callee → ⊥
    none_of_main zero there = not_main (sym (some_same g.main callee there))
    none_of_main (suc k) there = no_module k there

    its_text : IsThere scope g.blocks
    its_text = declared_there (finished t) 0 1 t.parts scope (process_among t lawful unbroken n among)

    declared_so : IsDeclared callee
    declared_so =
        let found = its_text in
        subst (λ (b : Block). IsDeclared b)
        (sym (ap (λ i. block_at g i) (sym found.scope) ∙ (has_scopes t lawful found.k found.block found.there).by_scope)) found.is

    abbrev place : Option ℕ
    place = position (λ (c : Block). c.scope == scope) g.blocks

    numbered : block_number g scope ≡ number_in g callee
    numbered =
        by place refl ∙ sym (ap (λ i. unwrap_or (position (λ (c : Block). c.scope == i) g.blocks) (length g.blocks)) called.own)
      where
        by : (o : Option ℕ) → place ≡ o → unwrap_or place 0 ≡ unwrap_or place (length g.blocks)
        by (Some j) is = ap (λ (o : Option ℕ). unwrap_or o 0) is ∙ sym (ap (λ (o : Option ℕ). unwrap_or o (length g.blocks)) is)
        by None is =
            absurd (not_nowhere scope g.blocks callee
            (ap (λ (o : Option ℕ). slice_get g.blocks (unwrap_or o 0)) (sym is) ∙ called.there) called.own is)

    pub is_process_block : IsCreatable t callee (process_at g.state.blocks n).formals
        → IsProcessBlock t callee (block_number g scope) (process_at g.state.blocks n).formals
    is_process_block can =
        let main = (the_main_block t).code in
        let at = called_stands t (main_setting t main) scope 0 (process_at g.state.blocks n).formals lawful unbroken (main_of_image t main) called in
        record {
          there = called.there;
          code = at.0;
          is = at.1.there;
          number = numbered;
          takes = can.takes at.0 (ap (λ k. slice_get (image_of t).blocks k) (sym numbered) ∙ at.1.there);
          outer = ap (λ i. is_mains g.state.blocks i) declared_so.outer;
          objects = can.objects;
          unguarded = declared_so.unguarded;
          no_sub = ap (λ i. sub_with g.state.blocks.subs i) called.own ∙ process_no_sub t lawful unbroken n among;
          apart = none_of_main;
          known = known_in g callee declared_so not_mains;
        }

  -- ## All processes

  mains : AreOfMain (finished t)
  mains = are_of_main t lawful

  -- none has main's block
  pub process_is_not_main : (q : ℕ) → 0 < q → q < length (image_of t).processes → process_block g q ≡ g.main → ⊥
  process_is_not_main q some less same =
      let count = count_is t mains in
      let (n, at) = there_below g.objects.processes (q - 1) (omega (arith, some, less, count)) in
      let (label, there, is) = labelled_there t mains (q - 1) n at in
      let below : label.0 < length g.state.blocks.processes =
      each (λ (x : ℕ × Text). x.0 < length g.state.blocks.processes) (labels t) (q - 1) label (declared t) there in
      let declaration : declaration_of g q ≡ n = get_there g.objects.processes (q - 1) n 0 at in
      not_main n (subst (λ i. i < length g.state.blocks.processes) is below) (ap (λ i. declared_block g i) (sym declaration) ∙ same)
