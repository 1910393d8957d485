-- Each body has the shapes that its code needs, and is ready where its names are seen.
use Rattle.std.proofs.Common.{◌≡◌, ℕ, ◌<◌, ◌==◌, ◌⊎◌, inl, inr, ◌&&◌, ◌||◌, Bool, true, false, List, [], ◌∷◌, length, Option, Some, None, is_some}
use Rattle.std.proofs.Common.{refl, ap, ap₂, sym, ◌∙◌, subst, arith}
use Rattle.std.specs.List.{All, slice_get, list_any}
use Rattle.std.specs.Option.{IfSome}
use Rattle.std.proofs.Math.Bool.{or-true}
use Rattle.std.proofs.lemmas.List.Elements.{All-head, All-tail}
use Rattle.pfc_tree.specs.trees.Parts.{ProgramTree}
use Rattle.pfc_tree.specs.forget.Parts.{forget_program}
use Rattle.pfc_tree.specs.lawful.Parts.{IsLawful}
use Rattle.pfc_types.specs.Faults.{Faults, none, one, ◌⨾◌}
use Rattle.pfc_types.specs.Blocks.{Blocks, State, process_at}
use Rattle.pfc_types.specs.rules.Expressions.{Env, broken_expr}
use Rattle.pfc_types.specs.rules.Statements.{broken_guard, broken_stmts}
use Rattle.pfc_types.specs.rules.Bodies.{around_guard}
use Rattle.pfc_types.specs.declared.view.Around.{Around}
use Rattle.pfc_types.specs.rules.Whole.{finished, broken, broken_bodies, faults_in, types_of}
use Rattle.pfc_types.proofs.Clean.{clean}
use Rattle.pfc_semantics.specs.Programs.{Block, Guard, Program, program_of}
use Rattle.pfc_translation.specs.Sites.{is_mains}
use Rattle.pfc_translation.specs.Images.{site_in}
use Rattle.pfc_image_laws.specs.Levels.{sees}
use Rattle.pfc_image_numbers.proofs.Rules.{IsClean, clean_of}
use Rattle.pfc_image_numbers.proofs.Bodies.{IsOfResource, IsRuled, program_blocks, program_pieces, main_ruled}
use Rattle.pfc_image_cells.proofs.Trees.{Placed, IsInitial, blocks_placed, main_placed, initial_placed}
use Rattle.pfc_image_cells.proofs.Cells.{inits_ruled}
use Rattle.pfc_image_cells.specs.Subs.{parts_subs}
use Rattle.pfc_type_laws.proofs.WalkBlocks.{types_built}
use Rattle.pfc_type_laws.proofs.SoundTables.{built_sound}
use Rattle.pfc_type_laws.proofs.Filled.{types_filled}
use Rattle.pfc_standing_code.specs.Shapes.{IsSound, a_number}
use Rattle.pfc_standing_code.specs.Settings.{Setting, of_own, is_of_mains, IsInTrial}
use Rattle.pfc_standing_code.specs.Typed.{HasShape}
use Rattle.pfc_standing_code.specs.TypedStatements.{AreTyped}
use Rattle.pfc_standing_code.specs.Words.{AreOwnNames, IsChecked}
use Rattle.pfc_standing_code.proofs.Trials.{own_tried, guard_tried}
use Rattle.pfc_standing_images.specs.Images.{IsOfImage}
use Rattle.pfc_standing_images.proofs.Guards.{guarded_in_resource}
use Rattle.pfc_standing_images.specs.Bodies.{IsReady, AreReady, IsGuardReady, EachGuardReady}
use Rattle.pfc_typed_phrases.specs.Names.{AreKnown}
use Rattle.pfc_typed_structures.specs.Inside.{itself, AreMet}
use Rattle.pfc_typed_structures.specs.Accepts.{AllFit, AcceptEntries}
use Rattle.pfc_typed_programs.specs.Accepts.{HasEntries}
use Rattle.pfc_typed_programs.proofs.AcceptTrees.{IsSubs, program_fits}
use Rattle.pfc_typed_structures.proofs.Leaves.{guard_typed}
use Rattle.pfc_typed_structures.proofs.Structures.{stmts_typed}
use Rattle.pfc_typed_programs.specs.Bodies.{guard_site, IsBody, of_block, of_module, of_main, IsSeen, AreSeen, EachGuardSeen}
use Rattle.pfc_typed_programs.proofs.Trees.{IsMade, IsOutside, blocks_made, modules_made, inits_outside, main_made, main_outside}
use Rattle.pfc_typed_programs.proofs.Blocks.{each_of}
use Rattle.pfc_typed_programs.proofs.Guarded.{IsOfItsModule, program_so}
use Rattle.pfc_typed_programs.proofs.Places.{HasOwnView, met, guard_known}
use Rattle.pfc_typed_programs.proofs.GuardViews.{guard_of_mains, guard_own}

is_clean : (fs : Faults) → IsClean fs → clean fs ≡ true
is_clean none h = refl
is_clean (one f) h = absurd h
is_clean (fs ⨾ gs) h = ap₂ (λ x y. x && y) (is_clean fs h.0) (is_clean gs h.1)

-- whoever sees what is in view has all that is asked of the names there
pub seen_checked : (t : ProgramTree) (g : Setting) (b : Block) (env : Env) → IsOfImage t g → env.state ≡ finished t → IsInTrial g.trial env → IsSeen g b env
    → IsChecked g b env
seen_checked t g b env of_image state tried h =
    record {
      sound = subst (λ (z : Program). IsSound z.state.forms) (sym of_image.program) (built_sound (types_of t) (types_built t));
      known = h.known;
      seen = h.seen;
      placed = h.placed;
      objects = h.objects;
      beside = h.beside;
      state = state ∙ sym (ap (λ (z : Program). z.state) of_image.program);
      tried = tried;
    }

module _ (t : ProgramTree) (lawful : IsLawful (forget_program t)) (whole : broken t ≡ []) where
  abbrev p : Program
  p = program_of t

  rules : IsClean (broken_bodies (finished t) t)
  rules = (clean_of (faults_in (finished t) t) whole).1

  -- ## What is known of each body

  record IsKnown (b : Block) : Type 0 where
    placed : Placed p b
    ruled : IsRuled (Unit {0}) (finished t) b
    made : IsMade b
    entries : (q : ℕ) × AcceptEntries (site_in p b) q b.next b.stmts
    own_view : HasOwnView p b

  -- ## Accepts

  abbrev bs : Blocks
  bs = (finished t).blocks

  no_entries : (b : Block) → (b.env.around.process ≡ true → b.env.around.sub ≡ false → ⊥)
      → (q : ℕ) × AcceptEntries (site_in p b) q b.next b.stmts
  no_entries b apart = (0, λ a c. absurd (apart a c))

  outside_entries : (b : Block) → b.env.around.process ≡ false → (q : ℕ) × AcceptEntries (site_in p b) q b.next b.stmts
  outside_entries b e = no_entries b (λ a c. apart (sym a ∙ e))
    where
      apart : true ≡ false → ⊥
      apart e = cc

  block_entries : (b : Block) → b.env.state ≡ finished t → IsSubs (parts_subs 1 t.parts) b ⊎ HasEntries bs b
      → (q : ℕ) × AcceptEntries (site_in p b) q b.next b.stmts
  block_entries b state (inl e) = no_entries b (λ a c. apart (sym e.1 ∙ c))
    where
      apart : true ≡ false → ⊥
      apart e = cc
  block_entries b state (inr h) =
      let same = ap (λ (z : State). z.blocks) (sym state) in
      let q = h.process in (
        q,
        λ a c. (
          record {
            among = subst (λ (z : Blocks). q < length z.processes) same h.is;
            own = subst (λ (z : Blocks). (process_at z q).scope ≡ b.scope) same h.own;
          },
          subst (λ (z : Blocks). AllFit z q b.env.view b.next b.stmts) same h.fits,
        ),
      )

  outside_view : (b : Block) → b.env.around.guarded ≡ false → HasOwnView p b
  outside_view b e inside = absurd (let both : true ≡ false = sym inside ∙ e in cc)

  -- around a guarded procedure is its resource
  block_view : (k : ℕ) (b : Block) → slice_get p.blocks k ≡ Some b → HasOwnView p b
  block_view k b e inside =
      let its = each_of IsOfItsModule p.blocks k b (program_so (finished t) 0 1 t.parts lawful.0) e inside in (
        its.1,
        its.3,
        λ i seen.
            elim (its.2 i seen) [
              | inl own ↦ inr own
              | inr (inl outer) ↦ inl (subst (λ (j : ℕ). is_mains bs j ≡ true) (sym outer) (outer_mains b.guard refl its.0))
              | inr (inr main) ↦ inl (subst (λ (j : ℕ). is_mains bs j ≡ true) (sym main) refl)
            ],
      )
    where
      outer_mains : (o : Option Guard) → b.guard ≡ o → is_some o ≡ true → is_mains bs b.outer ≡ true
      outer_mains None at some = absurd (cc)
      outer_mains (Some w) at some =
          ap (λ (r : Bool). (b.outer == 0) || r) (ap (λ (m : Option ℕ). is_some m) (guarded_in_resource t k b w lawful e at).1) ∙ or-true (b.outer == 0)

  module_known : (b : Block) → IsInitial p b → IsRuled (Unit {0}) (finished t) b → IsMade b → IsOutside b → IsKnown b
  module_known b i r m o = record { placed = i.0; ruled = r; made = m; entries = outside_entries b o.0; own_view = outside_view b o.1 }

  initials_ruled : All (IsRuled (Unit {0}) (finished t)) p.modules
  initials_ruled = inits_ruled (Unit {0}) (finished t) 0 1 t.parts (program_pieces (Unit {0}) t lawful (λ q. rules))

  modules_known : All IsKnown p.modules
  modules_known k d below =
      module_known _ (initial_placed t lawful k d below) (initials_ruled k d below) (modules_made t lawful k d below)
      (inits_outside (finished t) 0 1 t.parts k d below)

  body_known : (b : Block) → IsBody t b → IsKnown b
  body_known b (of_block k d e) =
      record {
        placed = each_of (Placed p) p.blocks k b (blocks_placed t lawful) e;
        ruled = each_of (IsRuled (Unit {0}) (finished t)) p.blocks k b (program_blocks (Unit {0}) t lawful (λ q. rules)) e;
        made = each_of IsMade p.blocks k b (blocks_made t lawful rules) e;
        entries = block_entries b (each_of (IsRuled (Unit {0}) (finished t)) p.blocks k b (program_blocks (Unit {0}) t lawful (λ q. rules)) e).state
            (each_of (λ (x : Block). IsSubs (parts_subs 1 t.parts) x ⊎ HasEntries bs x) p.blocks k b (program_fits t lawful whole) e);
        own_view = block_view k b e;
      }
  body_known b (of_module k d e) = each_of IsKnown p.modules k b modules_known e
  body_known b of_main =
      record {
        placed = main_placed t;
        ruled = main_ruled (Unit {0}) t (λ q. rules);
        made = main_made t lawful;
        entries = outside_entries p.main (main_outside t).0;
        own_view = outside_view p.main (main_outside t).1;
      }

  -- ## Shapes

  known_met : (b : Block) → IsKnown b → AreMet (site_in p b)
  known_met b k = met t lawful whole (types_filled t lawful) b k.placed k.own_view k.ruled.state

  known_typed : (b : Block) → IsKnown b → AreTyped (site_in p b) b.next b.stmts
  known_typed b k =
      let entries = k.entries.1 in
      stmts_typed (site_in p b) (known_met b k) k.entries.0 (λ a c. (entries a c).0) b.stmts (site_in p b) itself b.next
      (λ a c. let few = k.ruled.range a c in (omega arith, omega (arith, few))) (λ a c. (entries a c).1) k.made.labelled
      (is_clean (broken_stmts b.env b.next b.stmts) (k.ruled.clean tt))

  known_guard_state : (b : Block) (w : Guard) → IsKnown b → b.guard ≡ Some w → w.env.state ≡ finished t
  known_guard_state b w k e =
      (subst (λ (o : Option Guard). IfSome o (λ z. (z.env.state ≡ finished t) × IsOfResource (finished t).blocks b.outer
      × (Unit {0} → IsClean (broken_expr z.env z.test)))) e k.ruled.guard).0

  known_guard_met : (b : Block) (w : Guard) → IsKnown b → b.guard ≡ Some w → AreKnown (guard_site p b w)
  known_guard_met b w k e =
      guard_known t lawful whole (types_filled t lawful) b k.placed k.own_view w w.line (known_guard_state b w k e)
      (subst (λ (o : Option Guard). IfSome o (λ z. (i : ℕ) → sees z.env.view i ≡ true → sees b.env.view i ≡ true)) e k.placed.guard)

  known_guard : (b : Block) (w : Guard) → IsKnown b → b.guard ≡ Some w → HasShape (guard_site p b w) w.test a_number
  known_guard b w k e =
      guard_typed (guard_site p b w) (known_guard_met b w k e) (Some w.test)
      (is_clean (broken_guard w.env (Some w.test)) (subst (λ (o : Option Guard). IfSome o (λ z. IsClean (broken_guard z.env (Some z.test)))) e k.made.guard))

  pub body_met : (b : Block) → IsBody t b → AreMet (site_in p b)
  body_met b h = known_met b (body_known b h)

  pub guard_met : (b : Block) (w : Guard) → IsBody t b → b.guard ≡ Some w → AreKnown (guard_site p b w)
  guard_met b w h e = known_guard_met b w (body_known b h) e

  pub body_typed : (b : Block) → IsBody t b → AreTyped (site_in p b) b.next b.stmts
  body_typed b h = known_typed b (body_known b h)

  pub guard_shaped : (b : Block) (w : Guard) → IsBody t b → b.guard ≡ Some w
      → HasShape (guard_site p b w) w.test a_number
  guard_shaped b w h e = known_guard b w (body_known b h) e

  -- ## Names

  pub body_state : (b : Block) → IsBody t b → b.env.state ≡ finished t
  body_state b h = (body_known b h).ruled.state

  pub guard_state : (b : Block) (w : Guard) → IsBody t b → b.guard ≡ Some w → w.env.state ≡ finished t
  guard_state b w h e = known_guard_state b w (body_known b h) e

  pub guard_place : (b : Block) (w : Guard) → IsBody t b → b.guard ≡ Some w → w.env.around ≡ around_guard b.outer
  guard_place b w h e = subst (λ (o : Option Guard). IfSome o (λ z. z.env.around ≡ around_guard b.outer)) e (body_known b h).made.around

  -- ## What its code asks

  known_ready : (g : Setting) (b : Block) → IsOfImage t g → g.trial ≡ of_own → g.accepts ≡ [] → IsKnown b → IsSeen g b b.env → IsReady g b
  known_ready g b of_image own shut k seen =
      record {
        names = seen_checked t g b b.env of_image k.ruled.state (own_tried g.trial b.env own) seen;
        statements = subst (λ (z : Program). AreTyped (site_in z b) b.next b.stmts) (sym of_image.program) (known_typed b k);
        accepts = λ i is. absurd (let some : list_any (λ j. j == i) [] ≡ true = subst (λ (l : List ℕ). list_any (λ j. j == i) l ≡ true) shut is in
            let both : false ≡ true = some in cc);
      }

  pub body_ready : (g : Setting) (b : Block) → IsOfImage t g → g.trial ≡ of_own → g.accepts ≡ [] → IsBody t b → IsSeen g b b.env → IsReady g b
  body_ready g b of_image own shut h seen = known_ready g b of_image own shut (body_known b h) seen

  pub guard_ready : (g : Setting) (k : ℕ) (b : Block) (w : Guard) → IsOfImage t g → slice_get p.blocks k ≡ Some b → b.guard ≡ Some w → IsSeen g b w.env
      → IsGuardReady g b w
  guard_ready g k b w of_image there e seen =
      let h = of_block k b there in
      let mains : is_of_mains (finished t).blocks w.env.around.guard ≡ true =
      ap (λ (z : Around). is_of_mains (finished t).blocks z.guard) (guard_place b w h e) ∙ guard_of_mains t lawful k b w there e in
      record {
        own = subst (λ (z : Program). AreOwnNames z b w.env) (sym of_image.program) (guard_own t lawful k b w there e);
        names = seen_checked t g b w.env of_image (guard_state b w h e)
            (guard_tried g.trial w.env (subst (λ (z : State). is_of_mains z.blocks w.env.around.guard ≡ true) (sym (guard_state b w h e)) mains)) seen;
        test = subst (λ (z : Program). HasShape (guard_site z b w) w.test a_number) (sym of_image.program)
            (guard_shaped b w h e);
      }

  pub each_guard_ready : (g : Setting) (k : ℕ) (b : Block) → IsOfImage t g → slice_get p.blocks k ≡ Some b → EachGuardSeen g b b.guard
      → EachGuardReady g b b.guard
  each_guard_ready g k b of_image there = by b.guard refl
    where
      by : (o : Option Guard) → b.guard ≡ o → EachGuardSeen g b o → EachGuardReady g b o
      by None e seen = tt
      by (Some w) e seen = guard_ready g k b w of_image there e seen

  all_ready : (g : Setting) (bs : List Block) → IsOfImage t g → g.trial ≡ of_own → g.accepts ≡ [] → All IsKnown bs → AreSeen g bs → AreReady g bs
  all_ready g [] of_image own shut known seen = tt
  all_ready g (b ∷ bs) of_image own shut known seen = (
    known_ready g b of_image own shut (All-head IsKnown b bs known) seen.0,
    all_ready g bs of_image own shut (All-tail IsKnown b bs known) seen.1,
  )

  pub modules_ready : (g : Setting) → IsOfImage t g → g.trial ≡ of_own → g.accepts ≡ [] → AreSeen g g.program.modules → AreReady g g.program.modules
  modules_ready g of_image own shut seen =
      all_ready g g.program.modules of_image own shut (subst (λ (z : Program). All IsKnown z.modules) (sym of_image.program) modules_known) seen
