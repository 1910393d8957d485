-- What main sees before the first action, and that its code does what is to do.
use Rattle.std.proofs.Common.{◌≡◌, ℕ, zero, suc, ◌+◌, ◌^◌, ◌<◌, ◌≤◌, ◌==◌, ◌||◌, ◌&&◌, nat_le, nat_lt, if◌then◌else◌, Bool, true, false, List, [], ◌∷◌, length}
use Rattle.std.proofs.Common.{slice_get, Option, Some, None, refl, sym, ap, ◌∙◌, subst, arith}
use Rattle.std.specs.List.{list_any, All}
use Rattle.std.proofs.lemmas.Bool.Decides.{nat_tests}
use Rattle.std.proofs.lemmas.List.Elements.{All-nil, All-cons, All-head, All-tail, All-append}
use Rattle.pfc_code.specs.declared.images.Block.{Block as CodeBlock}
use Rattle.pfc_tree.specs.trees.Stmts.{BodyTree, body}
use Rattle.pfc_tree.specs.trees.Parts.{PartTree, PartTrees, ModuleTree, ProgramTree, consts, types, vars, sub_part, monitor, resource, process_part, no_parts}
use Rattle.pfc_tree.specs.trees.Parts.{more_parts, the_module}
use Rattle.pfc_tree.specs.forget.Parts.{forget_program}
use Rattle.pfc_tree.specs.lawful.Parts.{IsLawful}
use Rattle.pfc_types.specs.Scopes.{Level, scope_at}
use Rattle.pfc_types.specs.Blocks.{State}
use Rattle.pfc_types.specs.rules.Expressions.{Env}
use Rattle.pfc_types.specs.rules.Bodies.{passed_part, part_scopes}
use Rattle.pfc_types.specs.rules.Whole.{finished, broken, types_of}
use Rattle.pfc_semantics.specs.Layouts.{Layout}
use Rattle.pfc_semantics.specs.Programs.{Block, Guard, Program, block_of, block_at, init_block, module_inits, part_inits, parts_inits, env_of_main, program_of}
use Rattle.pfc_semantics.specs.Configurations.{main_remainder}
use Rattle.pfc_translation.specs.Sites.{is_mains, linked, is_accept}
use Rattle.pfc_translation.specs.Images.{image_of}
use Rattle.pfc_image_laws.specs.Levels.{sees}
use Rattle.pfc_image_cells.proofs.Trees.{IsInitial, same_number, initial_placed}
use Rattle.pfc_stacks.specs.Activations.{main_link}
use Rattle.pfc_stacks.specs.Starts.{start_stacks}
use Rattle.pfc_standing_code.specs.Settings.{Setting, IsMains, IsBeside, same_block, both_mains}
use Rattle.pfc_standing_code.specs.Words.{AreKnown, IsChecked}
use Rattle.pfc_standing_code.specs.Performs.{Performs}
use Rattle.pfc_standing_images.proofs.Wholes.{main_stands}
use Rattle.pfc_standing_images.proofs.Bodies.{main_performs}
use Rattle.pfc_views.specs.Views.{Sees, latest}
use Rattle.pfc_views.proofs.Checked.{names_checked}
use Rattle.pfc_call_laws.specs.Around.{scopes_around, IsMainsCode, ShowsAround, main_alone}
use Rattle.pfc_call_laws.proofs.Mains.{main_sees, shows_none}
use Rattle.pfc_nesting_laws.proofs.Programs.{main_alone as nothing_around, main_found, main_has_none}
use Rattle.pfc_type_laws.proofs.WalkBlocks.{types_built}
use Rattle.pfc_type_laws.proofs.SoundTables.{built_sound, built_counted}
use Rattle.pfc_typed_programs.specs.Bodies.{of_module, of_main, IsSeen, AreSeen}
use Rattle.pfc_typed_programs.proofs.Bodies.{body_state, body_ready, modules_ready}
use Rattle.pfc_object_laws.specs.Mains.{AreOfMain}
use Rattle.pfc_object_laws.specs.Objects.{all_words}
use Rattle.pfc_object_laws.proofs.Mains.{own_variables, cells_hold, words_count}
use Rattle.pfc_represented_start.specs.Starts.{start_homes, main_entry, start_entries, main_view, main_setting}
use Rattle.pfc_represented_start.proofs.Setting.{main_of_image, main_of_block, the_main_block}
use Rattle.pfc_represented_start.proofs.Memory.{store, memory_is, few_is, objects_are}

-- ## Initialising bodies have no accepts

abbrev HasNoAccepts : Block → Type 0
HasNoAccepts b = b.accepts ≡ 0

init_none : (s : State) (scope : ℕ) (view : List Level) (next : ℕ) (b : Option BodyTree) → All HasNoAccepts (init_block s scope view next b)
init_none s scope view next None = All-nil HasNoAccepts
init_none s scope view next (Some (body ss from to)) = All-cons HasNoAccepts _ [] refl (All-nil HasNoAccepts)

module_none : (s : State) (n next : ℕ) (m : ModuleTree) → All HasNoAccepts (module_inits s n next m)
module_none s n next (the_module x exports ps b last p) = init_none s next _ _ b

part_none : (s : State) (n next : ℕ) (q : PartTree) → All HasNoAccepts (part_inits s n next q)
part_none s n next (consts items) = All-nil HasNoAccepts
part_none s n next (types items) = All-nil HasNoAccepts
part_none s n next (vars vs) = All-nil HasNoAccepts
part_none s n next (sub_part b) = All-nil HasNoAccepts
part_none s n next (monitor m) = module_none s n next m
part_none s n next (resource m) = module_none s n next m
part_none s n next (process_part p) = All-nil HasNoAccepts

parts_none : (s : State) (n next : ℕ) (qs : PartTrees) → All HasNoAccepts (parts_inits s n next qs)
parts_none s n next no_parts = All-nil HasNoAccepts
parts_none s n next (more_parts q qs) =
    All-append HasNoAccepts (part_inits s n next q) (parts_inits s (passed_part (scope_at s.blocks.scopes 0) n q) (next + part_scopes q) qs)
    (part_none s n next q) (parts_none s (passed_part (scope_at s.blocks.scopes 0) n q) (next + part_scopes q) qs)

no_accept_by : (b : Block) → b.accepts ≡ 0 → (i : ℕ) → is_accept b i ≡ false
no_accept_by b e i = ap (λ (n : ℕ). nat_le b.next i && nat_lt i (b.next + n)) e ∙ by (nat_le b.next i) (nat_lt i (b.next + 0)) refl refl
  where
    by : (r q : Bool) → nat_le b.next i ≡ r → nat_lt i (b.next + 0) ≡ q → (r && q) ≡ false
    by true true e f =
        let low : b.next ≤ i = grind (arith, nat_tests) in let high : i < b.next + 0 = grind (arith, nat_tests) in absurd (omega (arith, low, high))
    by true false e f = refl
    by false q e f = refl

-- what stands in a list whose elements are all so
each : {A : Type 0} (P : A → Type 0) (xs : List A) (k : ℕ) (x : A) → All P xs → slice_get xs k ≡ Some x → P x
each P [] k x all there = absurd (cc)
each P (y ∷ xs) zero x all there = subst P (same y x there) (All-head P y xs all)
  where
    same : {A : Type 0} (a b : A) → Some a ≡ Some b → a ≡ b
    same a b h = cc
each P (y ∷ xs) (suc k) x all there = each P xs k x (All-tail P y xs all) there

-- ## Names in view in main's code

or_cases : {A : Type 0} (a b : Bool) → (a || b) ≡ true → (a ≡ true → A) → (b ≡ true → A) → A
or_cases true b h one two = one refl
or_cases false b h one two = two h

or_left : (a b : Bool) → a ≡ true → (a || b) ≡ true
or_left true b h = refl
or_left false b h = absurd (cc)

is_sees : (i : ℕ) (view : List Level) → list_any (λ (l : Level). l.scope == i) view ≡ true → sees view i ≡ true
is_sees i [] e = e
is_sees i (l ∷ view) e = by (l.scope == i) e (is_sees i view)
  where
    by : (r : Bool) → (r || list_any (λ (l : Level). l.scope == i) view) ≡ true → (list_any (λ (l : Level). l.scope == i) view ≡ true → sees view i ≡ true)
        → (r || sees view i) ≡ true
    by true e rest = refl
    by false e rest = rest e

-- whoever sees main's scopes alone knows them
all_known : (g : Program) (b : Block) (env : Env) → ((i : ℕ) → sees env.view i ≡ true → is_mains g.state.blocks i ≡ true) → AreKnown g b [] env
all_known g b env mains i seen =
    or_left (is_mains g.state.blocks i) _
    (or_cases (is_mains g.state.blocks i) (list_any (λ (l : Level). l.scope == i) env.view) seen (λ e. e) (λ e. mains i (is_sees i env.view e)))

-- nothing is around a body that sees main's scopes alone
alone_by : (g : Program) (b : Block) → ((i : ℕ) → sees b.env.view i ≡ true → is_mains g.state.blocks i ≡ true) → scopes_around g b ≡ []
alone_by g b mains = by b.env.view mains
  where
    by : (view : List Level) → ((i : ℕ) → sees view i ≡ true → is_mains g.state.blocks i ≡ true) → linked g.state.blocks view ≡ []
    by [] mains = refl
    by (l ∷ view) mains =
        ap (λ (r : Bool). if r then [] else l.scope ∷ linked g.state.blocks view)
        (mains l.scope (or_left (l.scope == l.scope) (sees view l.scope) (same_number l.scope)))

block_env : (scope outer : ℕ) (env : Env) (next : ℕ) (b : BodyTree) (layout : Layout) (accepts : ℕ) (guard : Option Guard)
    → (block_of scope outer env next b layout accepts guard).env ≡ env
block_env scope outer env next (body ss first last) layout accepts guard = refl

-- ## What is seen

module _ (t : ProgramTree) (lawful : IsLawful (forget_program t)) (whole : broken t ≡ []) (mains : AreOfMain (finished t))
    (few : length (image_of t).processes ≤ 1024) (small : 8 + (program_of t).main.cells < 2 ^ 32) where
  abbrev p : Program
  p = program_of t

  pub found : block_at p 0 ≡ p.main
  found = main_found t lawful

  abbrev pub code : CodeBlock
  code = (the_main_block t).code

  abbrev pub setting : Setting
  setting = main_setting t code

  main_env_is : p.main.env ≡ env_of_main (finished t)
  main_env_is = block_env 0 0 (env_of_main (finished t)) _ t.body _ 0 None

  main_sees_mains : (i : ℕ) → sees p.main.env.view i ≡ true → is_mains p.state.blocks i ≡ true
  main_sees_mains i e = by (0 == i) refl (ap (λ (x : Env). sees x.view i) (sym main_env_is) ∙ e)
    where
      by : (r : Bool) → (0 == i) ≡ r → (r || false) ≡ true → is_mains p.state.blocks i ≡ true
      by true is h = subst (λ (k : ℕ). is_mains p.state.blocks k ≡ true) (let same : 0 ≡ i = grind (arith, nat_tests) in same) refl
      by false is h = absurd (cc)

  -- main's own body is main's code
  pub main_code : IsMainsCode p p.main
  main_code =
      record {
        by_scope = found;
        alone = nothing_around t lawful;
        no_accept = λ i known. main_has_none t lawful i;
        own = λ k m there. (own_variables t mains k m there).1;
      }

  -- so is each initialising body
  initial : (k : ℕ) (b : Block) → slice_get p.modules k ≡ Some b → IsInitial p b
  initial k b there = each (IsInitial p) p.modules k b (initial_placed t lawful) there

  initial_code : (k : ℕ) (b : Block) → slice_get p.modules k ≡ Some b → IsMainsCode p b
  initial_code k b there =
      record {
        by_scope = found;
        alone = alone_by p b (initial k b there).2;
        no_accept = λ i known. no_accept_by b (each HasNoAccepts p.modules k b (parts_none (finished t) 0 1 t.parts) there) i;
        own = λ k m there. (own_variables t mains k m there).1;
      }

  -- and so what stands beside main's own body
  code_in : (b : Block) → IsMains setting b → IsMainsCode p b
  code_in b (zero, there) = subst (λ (c : Block). IsMainsCode p c) (same p.main b there) main_code
    where
      same : {A : Type 0} (a b : A) → Some a ≡ Some b → a ≡ b
      same a b h = cc
  code_in b (suc k, there) = initial_code k b there

  pub beside_code : {b c : Block} → IsBeside setting b c → IsMainsCode p b → IsMainsCode p c
  beside_code same_block own = own
  beside_code (both_mains c one two) own = code_in c two

  few_words : 8 + length (all_words p.variables) < 2 ^ 32
  few_words = let count = words_count t mains in omega (arith, count, small)

  pub code_sees : (b : Block) → IsMainsCode p b
      → Sees p start_homes (start_entries t) (store t mains found) main_alone [] b [] main_link (0 ∷ []) (main_view p)
  code_sees b own =
      main_sees p (built_counted (types_of t) (types_built t)) start_homes (start_entries t) (store t mains found) b own refl (main_entry t) (latest []) refl
      (all_words p.variables) (cells_hold t mains start_homes) few_words

  pub code_shows : (b : Block) → IsMainsCode p b → ShowsAround p b []
  code_shows b own =
      shows_none p (built_counted (types_of t) (types_built t)) start_homes (start_entries t) (store t mains found) b own refl (main_entry t) (latest []) refl
      (all_words p.variables) (cells_hold t mains start_homes) few_words

  -- ## Names

  checked : (b : Block) → IsMainsCode p b → ((i : ℕ) → sees b.env.view i ≡ true → is_mains p.state.blocks i ≡ true) → b.env.state ≡ finished t
      → IsBeside setting setting.block b → IsChecked setting b b.env
  checked b own view state beside =
      names_checked setting start_homes (start_entries t) (store t mains found) main_alone [] b main_link (0 ∷ []) (start_stacks (image_of t))
      (built_counted (types_of t) (types_built t)) (built_sound (types_of t) (types_built t)) (memory_is t mains found) (few_is t mains found few small)
      (objects_are t mains found) (code_sees b own) b.env (all_known p b b.env view) state beside tt

  seen_by : (b : Block) → IsChecked setting b b.env → IsSeen setting b b.env
  seen_by b h = record { known = h.known; seen = h.seen; placed = h.placed; objects = h.objects; beside = h.beside }

  main_is_mains : IsMains setting p.main
  main_is_mains = (0, refl)

  pub main_seen : IsSeen setting p.main p.main.env
  main_seen = seen_by p.main (checked p.main main_code main_sees_mains (body_state t lawful whole p.main of_main) same_block)

  initial_seen : (k : ℕ) (b : Block) → slice_get p.modules k ≡ Some b → IsSeen setting b b.env
  initial_seen k b there =
      seen_by b (checked b (initial_code k b there) (initial k b there).2 (body_state t lawful whole b (of_module k b there))
      (both_mains b main_is_mains (suc k, there)))

  all_seen : (bs : List Block) (n : ℕ) → ((k : ℕ) (b : Block) → slice_get bs k ≡ Some b → slice_get p.modules (n + k) ≡ Some b) → AreSeen setting bs
  all_seen [] n there = tt
  all_seen (b ∷ bs) n there = (
    initial_seen (n + 0) b (there 0 b refl),
    all_seen bs (suc n) (λ k c e. ap (λ (i : ℕ). slice_get p.modules i) (omega arith) ∙ there (suc k) c e),
  )

  initials_seen : AreSeen setting p.modules
  initials_seen = all_seen p.modules 0 (λ k b e. ap (λ (i : ℕ). slice_get p.modules i) (omega arith) ∙ e)

  -- ## What its code does

  pub main_does : Performs setting p.main p.main.env code.entry [] [] (main_remainder p)
  main_does =
      main_performs setting code (main_of_block t code).room p.main p.main.env refl refl main_is_mains (main_of_block t code)
      (main_stands t setting (main_of_image t code) code (the_main_block t).there)
      (modules_ready t lawful whole setting (main_of_image t code) refl refl initials_seen)
      (body_ready t lawful whole setting p.main (main_of_image t code) refl refl of_main main_seen)
