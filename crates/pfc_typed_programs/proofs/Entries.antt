-- The accepts of each process, by its number.
use Rattle.std.proofs.Common.{◌≡◌, ℕ, ◌<◌, ◌≤◌, ◌⊎◌, inl, inr, Bool, true, false, nat_lt, [], length, refl, sym, ◌∙◌, subst, arith}
use Rattle.std.proofs.lemmas.Bool.Decides.{nat_tests}
use Rattle.pfc_tree.specs.trees.Parts.{ProgramTree}
use Rattle.pfc_tree.specs.forget.Parts.{forget_program}
use Rattle.pfc_tree.specs.lawful.Parts.{IsLawful}
use Rattle.pfc_types.specs.Blocks.{Blocks, process_at}
use Rattle.pfc_types.specs.rules.Whole.{finished, broken}
use Rattle.pfc_semantics.specs.Programs.{Block, Program, block_at, block_number, program_of}
use Rattle.pfc_image_cells.specs.Subs.{parts_subs}
use Rattle.pfc_image_cells.proofs.Trees.{among}
use Rattle.pfc_typed_structures.specs.Accepts.{AllFit}
use Rattle.pfc_typed_programs.specs.Accepts.{HasEntries}
use Rattle.pfc_typed_programs.proofs.Trees.{processes_apart}
use Rattle.pfc_typed_programs.proofs.Blocks.{each_of, known, HasScope, process_among, process_has_block}
use Rattle.pfc_typed_programs.proofs.AcceptTrees.{IsSubs, program_fits}

pub process_accepts : (t : ProgramTree) (n : ℕ) → IsLawful (forget_program t) → broken t ≡ [] → n < length (finished t).blocks.processes
    → (let b = block_at (program_of t) (process_at (finished t).blocks n).scope in AllFit (finished t).blocks n b.env.view b.next b.stmts)
process_accepts t n lawful clean below =
    by (each_of (λ (x : Block). IsSubs (parts_subs 1 t.parts) x ⊎ HasEntries bs x) p.blocks (block_number p i) b (program_fits t lawful clean) h.there)
  where
    p : Program
    p = program_of t

    bs : Blocks
    bs = (finished t).blocks

    i : ℕ
    i = (process_at bs n).scope

    b : Block
    b = block_at p i

    h : HasScope t lawful clean i
    h = process_has_block t lawful clean n below

    apart : (m k : ℕ) → m < k → k < length bs.processes → (process_at bs m).scope < (process_at bs k).scope
    apart = (known t lawful clean).apart

    same : (m : ℕ) → m < length bs.processes → (process_at bs m).scope ≡ i → m ≡ n
    same m inside e = by_less (nat_lt m n) (nat_lt n m) refl refl
      where
        by_less : (x y : Bool) → nat_lt m n ≡ x → nat_lt n m ≡ y → m ≡ n
        by_less true y f g = let less : m < n = grind (arith, nat_tests) in let two = apart m n less below in absurd (omega (arith, two, e))
        by_less false true f g = let less : n < m = grind (arith, nat_tests) in let two = apart n m less inside in absurd (omega (arith, two, e))
        by_less false false f g =
            let one : n ≤ m = grind (arith, nat_tests) in let two : m ≤ n = grind (arith, nat_tests) in omega (arith, one, two)

    by : IsSubs (parts_subs 1 t.parts) b ⊎ HasEntries bs b → AllFit bs n b.env.view b.next b.stmts
    by (inl e) =
        let there : among i (parts_subs 1 t.parts) ≡ true = subst (λ j. among j (parts_subs 1 t.parts) ≡ true) h.scope e.0 in
        let both : true ≡ false = sym there ∙ processes_apart (finished t) 1 t.parts i (process_among t lawful clean n below) in
        absurd (cc)
    by (inr is) = subst (λ m. AllFit bs m b.env.view b.next b.stmts) (same is.process is.is (is.own ∙ h.scope)) is.fits
