-- A requeue: it stands in the body of a guarded procedure, and names another of the same resource.
use Rattle.std.proofs.Common.{◌≡◌, ℕ, suc, ◌<◌, ◌==◌, ◌||◌, ◌⊎◌, inl, inr, if◌then◌else◌, Bool, true, false, is_some, List, [], ◌∷◌, length, map, get_or}
use Rattle.std.proofs.Common.{slice_get, Some, refl, sym, ap, ◌∙◌, subst, arith}
use Rattle.std.specs.List.{list_any}
use Rattle.std.proofs.lemmas.Option.{slice_get-get_or}
use Rattle.std.proofs.lemmas.List.Quantifiers.{position-Some}
use Rattle.pfc_tree.specs.trees.Parts.{ProgramTree}
use Rattle.pfc_tree.specs.forget.Parts.{forget_program}
use Rattle.pfc_tree.specs.lawful.Parts.{IsLawful}
use Rattle.pfc_types.specs.Scopes.{Level}
use Rattle.pfc_types.specs.Blocks.{Blocks, sub_at, module_at, process_at, no_sub, no_module}
use Rattle.pfc_types.specs.declared.heads.Formal.{Formal}
use Rattle.pfc_types.specs.declared.heads.SubHead.{SubHead}
use Rattle.pfc_types.specs.declared.heads.SubSort.{SubSort}
use Rattle.pfc_types.specs.declared.heads.SubSort.TheVariants.{Procedure, Guarded, Function}
use Rattle.pfc_types.specs.declared.heads.ModuleHead.{ModuleHead}
use Rattle.pfc_types.specs.rules.Statements.{innermost}
use Rattle.pfc_types.specs.rules.Whole.{finished, broken}
use Rattle.pfc_semantics.specs.Layouts.{sub_with}
use Rattle.pfc_semantics.specs.Programs.{Block, Program, block_at, block_number, program_of}
use Rattle.pfc_translation.specs.Sites.{module_of, is_mains, is_accept}
use Rattle.pfc_image_laws.proofs.Modules.{program_modules}
use Rattle.pfc_image_laws.specs.Levels.{sees}
use Rattle.pfc_image_cells.specs.Subs.{parts_subs}
use Rattle.pfc_image_cells.proofs.Subs.{program_subs}
use Rattle.pfc_image_cells.proofs.Trees.{among, equal_number}
use Rattle.pfc_standing_code.specs.Typed.{is_near, ByRequeue}
use Rattle.pfc_standing_images.proofs.Guards.{guarded_in_resource}
use Rattle.pfc_call_laws.proofs.Places.{or_cases}
use Rattle.pfc_typed_programs.specs.Bodies.{IsBody, of_block, of_module as of_initial, of_main}
use Rattle.pfc_typed_programs.specs.Accepts.{HasEntries}
use Rattle.pfc_typed_programs.proofs.AcceptTrees.{IsSubs, program_fits}
use Rattle.pfc_typed_programs.proofs.Blocks.{each_of}
use Rattle.pfc_typed_programs.proofs.Guarded.{IsOfItsModule, program_so}
use Rattle.pfc_nesting_laws.proofs.Programs.{by_scope, own_not_mains}
use Rattle.pfc_callee_laws.specs.Callees.{is_guarded_sort, IsCalledFrom, IsGuardedBlock, IsRequeuedFrom}
use Rattle.pfc_callee_laws.proofs.Known.{any_sees}
use Rattle.pfc_callee_laws.proofs.Program.{of_sub, of_process, outside_accepts}
use Rattle.pfc_callee_laws.proofs.Mains.{of_mains}
use Rattle.pfc_callee_laws.proofs.Modules.{begins, guard_there, mains_of, of_module, callee_there}

-- ## Headings by their scopes

one_head : (x y : SubHead) → Some x ≡ Some y → x ≡ y
one_head x y e = cc

-- a sub that is found by its scope is one of them
pub sub_number : (heads : List SubHead) (i : ℕ) (head : SubHead) → sub_with heads i ≡ Some head
    → (n : ℕ) × (n < length heads) × (get_or heads n no_sub ≡ head) × (head.scope ≡ i)
sub_number [] i head e = absurd (cc)
sub_number (h ∷ heads) i head e = by (h.scope == i) refl e (λ q. sub_number heads i head q)
  where
    by : (r : Bool) → (h.scope == i) ≡ r → (if r then Some h else sub_with heads i) ≡ Some head
        → (sub_with heads i ≡ Some head → (n : ℕ) × (n < length heads) × (get_or heads n no_sub ≡ head) × (head.scope ≡ i))
        → (n : ℕ) × (n < suc (length heads)) × (get_or (h ∷ heads) n no_sub ≡ head) × (head.scope ≡ i)
    by true same q rest =
        let is = one_head h head q in
        (0, omega arith, is, sym (ap (λ (x : SubHead). x.scope) is) ∙ equal_number h.scope i same)
    by false other q rest = let found = rest q in let low = found.1 in (suc found.0, omega (arith, low), found.2, found.3)

-- and one is found for the scope of each
sub_there : (heads : List SubHead) (i : ℕ) → among i (map (λ (h : SubHead). h.scope) heads) ≡ true → (head : SubHead) × (sub_with heads i ≡ Some head)
sub_there [] i e = absurd (cc)
sub_there (h ∷ heads) i e = by (h.scope == i) e (λ q. sub_there heads i q)
  where
    by : (r : Bool) → (r || among i (map (λ (x : SubHead). x.scope) heads)) ≡ true
        → (among i (map (λ (x : SubHead). x.scope) heads) ≡ true → (head : SubHead) × (sub_with heads i ≡ Some head))
        → (head : SubHead) × ((if r then Some h else sub_with heads i) ≡ Some head)
    by true e rest = (h, refl)
    by false e rest = rest e

sort_guarded : (sort : SubSort) → is_guarded_sort sort ≡ true → sort ≡ Guarded
sort_guarded Procedure e = absurd (cc)
sort_guarded Guarded e = refl
sort_guarded (Function t) e = absurd (cc)

module _ (t : ProgramTree) (lawful : IsLawful (forget_program t)) (clean : broken t ≡ []) where
  abbrev g : Program
  g = program_of t

  abbrev bs : Blocks
  bs = (finished t).blocks

  -- no module has the program's scope
  no_program_module : (n : ℕ) → module_of bs 0 ≡ Some n → ⊥
  no_program_module n e =
      let found = position-Some (λ (m : ModuleHead). m.scope == 0) bs.modules n no_module e in
      let there : slice_get bs.modules n ≡ Some (module_at bs n) = slice_get-get_or bs.modules n no_module found.0 in
      let low = begins 1 t.parts n (module_at bs n)
      (subst (λ (ms : List ModuleHead). slice_get ms n ≡ Some (module_at bs n)) (program_modules t lawful) there) in
      let none : (module_at bs n).scope ≡ 0 = equal_number (module_at bs n).scope 0 found.1 in
      omega (arith, low, none)

  -- ## What is named

  pub requeued_in_resource : (b : Block) (scope : ℕ) (formals : List Formal) → IsCalledFrom t b scope formals (ByRequeue b)
      → IsGuardedBlock t (block_at g scope)
  requeued_in_resource b scope formals is =
      let callee = block_at g scope in
      let at = callee_there t lawful clean b scope formals (ByRequeue b) is in
      let (sort, inside, near) = is.as_asked in
      let (guard, has) = guard_there callee.guard (is.guarded ∙ ap is_guarded_sort sort) in
      let there = guarded_in_resource t (block_number g scope) callee guard lawful at has in
      let found = position-Some (λ (m : ModuleHead). m.scope == callee.outer) bs.modules there.0 no_module there.1 in
      record {
        guard = guard;
        guarded = has;
        n = there.0;
        of_module = of_module t lawful clean (block_number g scope) there.0 callee at found.0 there.1;
        resource = there.2;
      }

  -- ## Where it stands

  module _ (k : ℕ) (b : Block) (at : slice_get g.blocks k ≡ Some b) (inside : b.env.around.guarded ≡ true) where
    its_module : (is_some b.guard ≡ true) × (b.accepts ≡ 0) × ((j : ℕ) → sees b.env.view j ≡ true → (j ≡ b.scope) ⊎ ((j ≡ b.outer) ⊎ (j ≡ 0)))
        × (innermost b.env.view ≡ b.scope)
    its_module = each_of IsOfItsModule g.blocks k b (program_so (finished t) 0 1 t.parts lawful.0) at inside

    -- it is that of a guarded procedure
    its_head : (head : SubHead) × (sub_with bs.subs b.scope ≡ Some head) × (head.sort ≡ Guarded)
    its_head = by (each_of (λ (x : Block). IsSubs (parts_subs 1 t.parts) x ⊎ HasEntries bs x) g.blocks k b (program_fits t lawful clean) at)
      where
        of_scope : (i : ℕ) → i ≡ b.scope → block_at g i ≡ b
        of_scope i e = ap (λ (j : ℕ). block_at g j) e ∙ by_scope t lawful k b at

        by : IsSubs (parts_subs 1 t.parts) b ⊎ HasEntries bs b → (head : SubHead) × (sub_with bs.subs b.scope ≡ Some head) × (head.sort ≡ Guarded)
        by (inl sub) =
            let there = sub_there bs.subs b.scope (subst (λ (l : List ℕ). among b.scope l ≡ true) (sym (program_subs t)) sub.0) in
            let found = sub_number bs.subs b.scope there.0 there.1 in
            let n = found.0 in
            let scope : (sub_at bs n).scope ≡ b.scope = ap (λ (h : SubHead). h.scope) found.2 ∙ found.3 in
            let guard : is_some b.guard ≡ is_guarded_sort (sub_at bs n).sort =
            sym (ap (λ (x : Block). is_some x.guard) (of_scope (sub_at bs n).scope scope)) ∙ (of_sub t lawful n found.1).guard in (
              there.0,
              there.1,
              sort_guarded there.0.sort (ap (λ (h : SubHead). is_guarded_sort h.sort) (sym found.2) ∙ sym guard ∙ its_module.0),
            )
        by (inr process) =
            let scope : (process_at bs process.process).scope ≡ b.scope = process.own in
            let none : is_some b.guard ≡ false =
            sym (ap (λ (x : Block). is_some x.guard) (of_scope (process_at bs process.process).scope scope))
            ∙ (of_process t lawful process.process process.is).guard in
            absurd (let some = its_module.0 in let both : true ≡ false = sym some ∙ none in cc)

    -- of main's scopes it sees its module's and the program's alone
    its_outer : (j : ℕ) (callee : Block) (n : ℕ) → slice_get g.blocks j ≡ Some callee → module_of bs callee.outer ≡ Some n
        → is_near b callee.outer ≡ true → b.outer ≡ callee.outer
    its_outer j callee n at_callee found near =
        elim (or_cases (list_any (λ (level : Level). level.scope == callee.outer) b.env.view) (is_accept b callee.outer) near) [
          | inl e ↦
              elim (its_module.2 callee.outer (any_sees b.env.view callee.outer e)) [
                | inl own ↦
                    absurd (let both : true ≡ false = sym (mains_of t lawful clean callee.outer n found) ∙ ap (λ (i : ℕ). is_mains bs i) own
                    ∙ own_not_mains t lawful k b at in cc)
                | inr rest ↦
                    elim rest [
                      | inl e ↦ sym e
                      | inr zero ↦ absurd (no_program_module n (sym (ap (λ (i : ℕ). module_of bs i) zero) ∙ found))
                    ]
              ]
          | inr e ↦ absurd (outside_accepts t lawful k j b callee at at_callee e)
        ]

  pub requeued_from : (b : Block) (scope : ℕ) (formals : List Formal) → IsBody t b → IsCalledFrom t b scope formals (ByRequeue b)
      → IsRequeuedFrom t b (block_at g scope)
  requeued_from b scope formals (of_block k c at) is =
      let (sort, inside, near) = is.as_asked in
      let to = requeued_in_resource b scope formals is in
      let (own, guarded) = guard_there b.guard (its_module k b at inside).0 in
      let head = its_head k b at inside in
      let outer = its_outer k b at inside (block_number g scope) (block_at g scope) to.n (callee_there t lawful clean b scope formals (ByRequeue b) is)
      to.of_module.inside near in
      record {
        k = k;
        there = at;
        own = own;
        guarded = guarded;
        alone = (its_module k b at inside).1;
        head = head.0;
        headed = head.1;
        sort = head.2;
        to = to;
        inside = ap (λ (i : ℕ). module_of bs i) outer ∙ to.of_module.inside;
      }
  requeued_from b scope formals (of_initial i c at) is =
      absurd (let (sort, inside, near) = is.as_asked in
      let both : true ≡ false = sym inside ∙ (of_mains t lawful (suc i) b at).unguarded in cc)
  requeued_from b scope formals of_main is =
      absurd (let (sort, inside, near) = is.as_asked in
      let both : true ≡ false = sym inside ∙ (of_mains t lawful 0 b refl).unguarded in cc)
