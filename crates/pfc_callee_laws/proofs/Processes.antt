-- What is told of the processes of a program: of their scopes, of their numbers and of their entries.
use Rattle.std.proofs.Common.{◌≡◌, ℕ, ◌+◌, ◌-◌, ◌<◌, ◌≤◌, nat_lt, Bool, true, false, List, [], length, get_or, slice_get, Some, refl, sym, ap, ◌∙◌, subst}
use Rattle.std.proofs.Common.{arith}
use Rattle.std.proofs.lemmas.Bool.Decides.{nat_tests}
use Rattle.std.proofs.lemmas.Option.{slice_get-get_or}
use Rattle.pfc_tree.specs.Symbols.{Text}
use Rattle.pfc_tree.specs.trees.Parts.{ProgramTree}
use Rattle.pfc_tree.specs.forget.Parts.{forget_program}
use Rattle.pfc_tree.specs.lawful.Parts.{IsLawful}
use Rattle.pfc_types.specs.Blocks.{Blocks, process_at, entry_at}
use Rattle.pfc_types.specs.declared.heads.Formal.{Formal}
use Rattle.pfc_types.specs.declared.scope.Meaning.{Meaning}
use Rattle.pfc_types.specs.declared.scope.Meaning.TheVariants.{Constant, Named, Variable, Sub, Module, Process, Entry, Predeclared, Faulty}
use Rattle.pfc_types.specs.rules.Declarations.{name_cells}
use Rattle.pfc_types.specs.rules.FaultyNames.{all_typed}
use Rattle.pfc_types.specs.rules.Whole.{finished, broken}
use Rattle.pfc_name_laws.proofs.Numbers.{get_or-beyond, none_noted}
use Rattle.pfc_type_laws.proofs.Filled.{types_filled}
use Rattle.pfc_semantics.specs.Layouts.{is_laid}
use Rattle.pfc_semantics.specs.Programs.{Program, block_at, block_number, program_of}
use Rattle.pfc_semantics.specs.Processes.{declaration_of}
use Rattle.pfc_translation.specs.Sites.{is_mains}
use Rattle.pfc_translation.specs.Images.{image_of}
use Rattle.pfc_image_cells.proofs.Trees.{Placed, blocks_placed}
use Rattle.pfc_main_names.proofs.Mains.{are_of_main}
use Rattle.pfc_typed_programs.proofs.Blocks.{each_of, headed, known, process_no_sub}
use Rattle.pfc_represented_start.proofs.Processes.{labels, declared, count_is, labelled_there}
use Rattle.pfc_callee_laws.specs.Callees.{IsApart}
use Rattle.pfc_callee_laws.proofs.Mains.{of_mains}
use Rattle.pfc_callee_laws.proofs.Blocks.{process_block}

module _ (t : ProgramTree) (lawful : IsLawful (forget_program t)) where
  abbrev g : Program
  g = program_of t

  abbrev bs : Blocks
  bs = (finished t).blocks

  -- each takes a cell
  takes_cells : (m : Meaning) → is_laid m ≡ true → 0 < name_cells (finished t).forms m
  takes_cells (Variable u true) is = omega arith
  takes_cells (Variable u false) is = types_filled t lawful u
  takes_cells (Process n) is = omega arith
  takes_cells (Constant u n) is = absurd (cc)
  takes_cells (Named u) is = absurd (cc)
  takes_cells (Sub n) is = absurd (cc)
  takes_cells (Module n) is = absurd (cc)
  takes_cells (Entry n) is = absurd (cc)
  takes_cells (Predeclared n) is = absurd (cc)
  takes_cells Faulty is = absurd (cc)

  -- each process of the image has its declaration
  pub process_declared : (q : ℕ) → 0 < q → q < length (image_of t).processes → declaration_of g q < length bs.processes
  process_declared q some few =
      let mains = are_of_main t lawful in
      let count = count_is t mains in
      let n = declaration_of g q in
      let there : slice_get g.objects.processes (q - 1) ≡ Some n = slice_get-get_or g.objects.processes (q - 1) 0 (omega (arith, some, few, count)) in
      let labelled = labelled_there t mains (q - 1) n there in
      subst (λ (k : ℕ). k < length bs.processes) labelled.2
      (each_of (λ (p : ℕ × Text). p.0 < length bs.processes) (labels t) (q - 1) labelled.0 (declared t) labelled.1)

  module _ (clean : broken t ≡ []) where
    pub process_apart : (n : ℕ) → n < length bs.processes → IsApart t (process_at bs n)
    process_apart n below =
        let its = process_at bs n in
        let b = block_at g its.scope in
        let block = process_block t lawful clean n below in
        let whole = block.activated in
        record {
          no_sub = process_no_sub t lawful clean n below;
          no_body = λ i c at e.
              (let both : true ≡ false = sym (of_mains t lawful i c at).own ∙ ap (λ (j : ℕ). is_mains bs j) (e ∙ sym whole.own_scope) ∙ whole.not_mains in
              absurd (cc));
          accepts = λ i h. ((each_of (Placed g) g.blocks (block_number g its.scope) b (blocks_placed t lawful) whole.there).accept i h).none;
          sized = λ k m at is. takes_cells m is;
        }

    -- the scopes of processes differ
    pub process_once : (n k : ℕ) → n < length bs.processes → k < length bs.processes → (process_at bs n).scope ≡ (process_at bs k).scope → n ≡ k
    process_once n k below_n below_k e = by (nat_lt n k) (nat_lt k n) refl refl
      where
        by : (p q : Bool) → nat_lt n k ≡ p → nat_lt k n ≡ q → n ≡ k
        by true q h i =
            let less : n < k = grind (arith, nat_tests) in let apart = (known t lawful clean).apart n k less below_k in absurd (omega (arith, apart, e))
        by false true h i =
            let less : k < n = grind (arith, nat_tests) in let apart = (known t lawful clean).apart k n less below_n in absurd (omega (arith, apart, e))
        by false false h i = grind (arith, nat_tests)

    -- each parameter of an entry has a type
    pub entry_typed : (n entry : ℕ) → all_typed (entry_at bs n entry) ≡ true
    entry_typed n entry = by (nat_lt e (length bs.entries)) refl
      where
        e : ℕ
        e = (process_at bs n).entries + entry

        by : (r : Bool) → nat_lt e (length bs.entries) ≡ r → all_typed (get_or bs.entries e []) ≡ true
        by true q = let below : e < length bs.entries = grind (arith, nat_tests) in (headed t lawful clean).entries e below (none_noted t clean)
        by false q =
            let beyond : length bs.entries ≤ e = grind (arith, nat_tests) in ap (λ (x : List Formal). all_typed x) (get_or-beyond bs.entries e [] beyond)
