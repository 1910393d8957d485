-- The names in view in the guard of the own procedure are known to a process that is at it.
use Rattle.std.proofs.Common.{◌≡◌, ℕ, ◌==◌, Bool, true, false, ◌||◌, List, [], ◌∷◌, slice_get, Option, Some, refl, sym, ap, ◌∙◌, subst}
use Rattle.std.specs.Prelude.{is_some}
use Rattle.std.specs.List.{list_any}
use Rattle.pfc_types.specs.Blocks.{Blocks}
use Rattle.pfc_types.specs.Scopes.{Level}
use Rattle.pfc_types.specs.rules.Expressions.{Env}
use Rattle.pfc_semantics.specs.Programs.{Block, Program}
use Rattle.pfc_semantics.specs.Remainders.{Bar}
use Rattle.pfc_semantics.specs.Configurations.{Config}
use Rattle.pfc_translation.specs.Sites.{is_mains, linked}
use Rattle.pfc_stacks.specs.Refs.{word_of}
use Rattle.pfc_stacks.specs.Stacks.{last_activation}
use Rattle.pfc_machines.specs.declared.machine.Machine.{Machine}
use Rattle.pfc_standing_code.specs.Settings.{Trial, of_own, IsBeside, IsInTrial}
use Rattle.pfc_standing_code.specs.Words.{is_known, AreKnown, AreOwnNames, IsChecked}
use Rattle.pfc_standing_code.specs.Performs.{IsOwnBar}
use Rattle.pfc_standing_images.proofs.Guards.{guarded_in_resource}
use Rattle.pfc_views.proofs.Checked.{names_checked}
use Rattle.pfc_stack_laws.specs.Standing.{HoldStore, IsAtHand}
use Rattle.pfc_call_laws.specs.Around.{scopes_around, IsNested}
use Rattle.pfc_nesting_laws.proofs.Programs.{nested_in_mains, main_alone, main_has_none}
use Rattle.pfc_typed_programs.specs.Bodies.{of_block}
use Rattle.pfc_typed_programs.proofs.Bodies.{guard_state}
use Rattle.pfc_representation.specs.Levels.{Facts, program_in, LivingLevel, block_of}
use Rattle.pfc_representation.specs.Acting.{IsActing}
use Rattle.pfc_kept_own_actions.proofs.Arrived.{has_setting, hold_store, at_hand}
use Rattle.pfc_kept_scans.proofs.Own.{block_there}
use Rattle.pfc_kept_scans.proofs.Own as mine

-- ## Scopes

or_true : (x : Bool) → (x || true) ≡ true
or_true true = refl
or_true false = refl

-- a scope that is main's, or the own one
either_known : (blocks : Blocks) (b : Block) (accepts : List ℕ) (i : ℕ) → linked blocks b.env.view ≡ b.scope ∷ []
    → (is_mains blocks i || (b.scope == i)) ≡ true → is_known blocks b accepts i ≡ true
either_known blocks b accepts i around own = by_kind (is_mains blocks i) own
  where
    by_kind : (mains : Bool) → (mains || (b.scope == i)) ≡ true
        → (mains || (list_any (λ j. j == i) (linked blocks b.env.view) || list_any (λ j. j == i) accepts)) ≡ true
    by_kind true h = refl
    by_kind false h =
        ap (λ (js : List ℕ). list_any (λ j. j == i) js || list_any (λ j. j == i) accepts) around
        ∙ ap (λ (y : Bool). (y || false) || list_any (λ j. j == i) accepts) h

module _ (facts : Facts) (m : Machine) (c : Config) (p : ℕ) (level : LivingLevel) (acting : IsActing facts m c p level) (own : level.setting.trial ≡ of_own)
    (bar : Bar) (guard : IsOwnBar level.setting (block_of level) bar) (beside : IsBeside level.setting level.setting.block (block_of level)) where
  abbrev b : Block
  b = block_of level

  abbrev env : Env
  env = guard.0.env

  abbrev g : Program
  g = program_in facts

  same_program : level.setting.program ≡ g
  same_program = (has_setting facts m c p level acting).image.program

  there : slice_get g.blocks (mine.top facts m c p level acting).own.block ≡ Some b
  there = block_there facts m c p level acting guard.0 guard.1

  outer_mains : is_mains g.state.blocks b.outer ≡ true
  outer_mains =
      let inside =
      guarded_in_resource facts.tree (mine.top facts m c p level acting).own.block b guard.0 acting.alike.program.lawful there guard.1 in
      ap (λ (r : Bool). (b.outer == 0) || r) (ap (λ (o : Option ℕ). is_some o) inside.1) ∙ or_true (b.outer == 0)

  -- nothing but main's code is around it
  around : scopes_around g b ≡ b.scope ∷ []
  around =
      let nested : IsNested g g.main b 0 =
      nested_in_mains facts.tree acting.alike.program.lawful g.main (main_alone facts.tree acting.alike.program.lawful)
      (main_has_none facts.tree acting.alike.program.lawful) (mine.top facts m c p level acting).own.block b there outer_mains in
      nested.around ∙ ap (λ (is : List ℕ). b.scope ∷ is) (main_alone facts.tree acting.alike.program.lawful)

  known_there : AreKnown g b level.setting.accepts env
  known_there i seen = by_kind (is_mains g.state.blocks i) refl
    where
      own_names : AreOwnNames g b env
      own_names = subst (λ (y : Program). AreOwnNames y b env) same_program guard.3

      by_kind : (mains : Bool) → is_mains g.state.blocks i ≡ mains → is_known g.state.blocks b level.setting.accepts i ≡ true
      by_kind true is =
          either_known g.state.blocks b level.setting.accepts i around (ap (λ (y : Bool). y || (b.scope == i)) is)
      by_kind false is =
          either_known g.state.blocks b level.setting.accepts i around
          (own_names i (ap (λ (y : Bool). y || list_any (λ (l : Level). l.scope == i) env.view) (sym is) ∙ seen))

  pub guard_checked : IsChecked level.setting b bar.context.env
  guard_checked =
      let hold : HoldStore level.setting acting.homes acting.entries c.store m.stacks = hold_store facts m c p level acting in
      let hand : IsAtHand level.setting acting.homes acting.entries c.store b (word_of (last_activation m.stacks p)) =
      at_hand facts m c p level acting own b beside in
      let state = guard_state facts.tree acting.alike.program.lawful acting.alike.program.unbroken b guard.0
      (of_block (mine.top facts m c p level acting).own.block b there) guard.1 in
      subst (λ (y : Env). IsChecked level.setting b y) (ap (λ (y : Bar). y.context.env) (sym guard.2))
      (names_checked level.setting acting.homes acting.entries c.store hand.keeps hand.display b (word_of (last_activation m.stacks p)) hand.chain m.stacks
      hold.types.counted hold.types.sound hold.memory hold.few hold.objects hand.sees env
      (subst (λ (y : Program). AreKnown y b level.setting.accepts env) (sym same_program) known_there)
      (state ∙ ap (λ (y : Program). y.state) (sym same_program)) beside
      (subst (λ (t : Trial). IsInTrial t env) (sym own) tt))
