-- Subs, processes and modules stand as is asked, those that a program does not have among them.
use Rattle.std.proofs.Common.{◌≡◌, ◌≢◌, ℕ, zero, suc, ◌≤◌, Bool, true, false, nat_lt, List, [], ◌∷◌, length, get_or, Option, Some, None, is_some, refl, ap, sym}
use Rattle.std.proofs.Common.{◌∙◌, arith}
use Rattle.std.proofs.lemmas.Bool.Decides.{nat_tests}
use Rattle.pfc_tree.specs.trees.Parts.{ProgramTree}
use Rattle.pfc_tree.specs.forget.Parts.{forget_program}
use Rattle.pfc_tree.specs.lawful.Parts.{IsLawful}
use Rattle.pfc_types.specs.Blocks.{Blocks, no_sub, no_module, no_process, sub_at, module_at, process_at}
use Rattle.pfc_types.specs.declared.heads.SubHead.{SubHead}
use Rattle.pfc_types.specs.declared.heads.ModuleHead.{ModuleHead}
use Rattle.pfc_types.specs.declared.heads.ProcessHead.{ProcessHead}
use Rattle.pfc_types.specs.declared.heads.SubSort.TheVariants.{Procedure, Guarded}
use Rattle.pfc_types.specs.rules.Whole.{finished, broken}
use Rattle.pfc_semantics.specs.Programs.{Block, Program, block_at, program_of}
use Rattle.pfc_translation.specs.Sites.{module_of}
use Rattle.pfc_nesting_laws.proofs.Programs.{main_found}
use Rattle.pfc_guard_laws.specs.Tops.{Tops}
use Rattle.pfc_guard_laws.specs.Configurations.{SuitsInOrder, SuitsProgram}
use Rattle.pfc_checked_guards.proofs.Programs.{program_suits, program_in_order}
use Rattle.pfc_checked_guards.specs.Subs.{SubsStand, ModulesStand}
use Rattle.pfc_checked_guards.specs.Order.{ProgramInOrder}
use Rattle.pfc_run_guards.specs.Headings.{HeadingsStand}
use Rattle.pfc_run_guards.proofs.Scopes.{program_scope, bodies_apart, main_unguarded, guards_in_resources}

beyond : {X : Type 0} (xs : List X) (n : ℕ) (d : X) → length xs ≤ n → get_or xs n d ≡ d
beyond [] n d h = refl
beyond (x ∷ xs) zero d h = absurd (omega (arith, h))
beyond (x ∷ xs) (suc n) d h = beyond xs n d (omega (arith, h))

module _ (t : ProgramTree) (lawful : IsLawful (forget_program t)) (headings : HeadingsStand t) where
  abbrev g : Program
  g = program_of t

  abbrev bs : Blocks
  bs = (finished t).blocks

  -- the program's own scope is main's
  no_block : (block_at g 0).guard ≡ None
  no_block = ap (λ (b : Block). b.guard) (main_found t lawful) ∙ main_unguarded t

  pub subs_stand : SubsStand g bs
  subs_stand = record { unguarded = unguarded; guarded = guarded; declared = headings.declared }
    where
      unguarded : (n : ℕ) → (sub_at bs n).sort ≢ Guarded → (block_at g (sub_at bs n).scope).guard ≡ None
      unguarded n sort = by (nat_lt n (length bs.subs)) refl
        where
          by : (r : Bool) → nat_lt n (length bs.subs) ≡ r → (block_at g (sub_at bs n).scope).guard ≡ None
          by true e = headings.unguarded n (grind (arith, nat_tests)) sort
          by false e =
              ap (λ (h : SubHead). (block_at g h.scope).guard) (beyond bs.subs n no_sub (grind (arith, nat_tests))) ∙ no_block

      not_guarded : Procedure ≡ Guarded → ⊥
      not_guarded e = cc

      guarded : (n : ℕ) → (sub_at bs n).sort ≡ Guarded → is_some (block_at g (sub_at bs n).scope).guard ≡ true
      guarded n sort = by (nat_lt n (length bs.subs)) refl
        where
          by : (r : Bool) → nat_lt n (length bs.subs) ≡ r → is_some (block_at g (sub_at bs n).scope).guard ≡ true
          by true e = headings.guarded n (grind (arith, nat_tests)) sort
          by false e =
              let none = ap (λ (h : SubHead). h.sort) (beyond bs.subs n no_sub (grind (arith, nat_tests))) in absurd (not_guarded (sym none ∙ sort))

  pub modules_stand : ModulesStand g bs
  modules_stand =
      record {
        modules = modules;
        resources = resources;
        guarded = λ scope guard e. guards_in_resources t lawful scope guard e;
        program_scope = program_scope t lawful;
        bodies = bodies_apart t lawful;
        processes = processes;
      }
    where
      same_number : (m n : ℕ) → Some m ≡ Some n → n ≡ m
      same_number m n e = cc

      none_some : (n : ℕ) → None ≡ Some n → ⊥
      none_some n e = cc

      modules : (n m : ℕ) → module_of bs (module_at bs n).scope ≡ Some m → m ≡ n
      modules n m is = by (nat_lt n (length bs.modules)) refl
        where
          by : (r : Bool) → nat_lt n (length bs.modules) ≡ r → m ≡ n
          by true e = same_number n m (sym (headings.modules n (grind (arith, nat_tests))) ∙ is)
          by false e =
              let none = ap (λ (h : ModuleHead). module_of bs h.scope) (beyond bs.modules n no_module (grind (arith, nat_tests))) in
              absurd (none_some m (sym (none ∙ program_scope t lawful) ∙ is))

      no_resource : false ≡ true → ⊥
      no_resource e = cc

      resources : (n : ℕ) → (module_at bs n).resource ≡ true → module_of bs (module_at bs n).scope ≡ Some n
      resources n kind = by (nat_lt n (length bs.modules)) refl
        where
          by : (r : Bool) → nat_lt n (length bs.modules) ≡ r → module_of bs (module_at bs n).scope ≡ Some n
          by true e = headings.modules n (grind (arith, nat_tests))
          by false e =
              let none = ap (λ (h : ModuleHead). h.resource) (beyond bs.modules n no_module (grind (arith, nat_tests))) in
              absurd (no_resource (sym none ∙ kind))

      processes : (n : ℕ) → (block_at g (process_at bs n).scope).guard ≡ None
      processes n = by (nat_lt n (length bs.processes)) refl
        where
          by : (r : Bool) → nat_lt n (length bs.processes) ≡ r → (block_at g (process_at bs n).scope).guard ≡ None
          by true e = headings.processes n (grind (arith, nat_tests))
          by false e =
              ap (λ (h : ProcessHead). (block_at g h.scope).guard) (beyond bs.processes n no_process (grind (arith, nat_tests))) ∙ no_block

-- So the program calls what the rules ask.
pub checked_program : (t : ProgramTree) → IsLawful (forget_program t) → broken t ≡ [] → HeadingsStand t → SuitsProgram (program_of t)
checked_program t lawful whole headings = program_suits t (subs_stand t lawful headings) (modules_stand t lawful headings) lawful whole

-- And it calls in order where what is named there is in order.
pub checked_in_order :
    (t : ProgramTree) → IsLawful (forget_program t) → broken t ≡ [] → HeadingsStand t → (tops : Option Tops) → ProgramInOrder (program_of t) tops
    → SuitsInOrder (program_of t) tops
checked_in_order t lawful whole headings tops order =
    program_in_order t (subs_stand t lawful headings) (modules_stand t lawful headings) tops order lawful whole
