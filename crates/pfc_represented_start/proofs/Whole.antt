-- The machine before its first instruction represents the start of the source text.
use Rattle.std.proofs.Common.{◌≡◌, ℕ, zero, suc, ◌+◌, ◌-◌, ◌^◌, ◌<◌, ◌≤◌, if◌then◌else◌, pos, Bool, true, List, [], ◌∷◌, length, map, get_or, replicate}
use Rattle.std.proofs.Common.{slice_get, Some, None, refl, sym, ap, ◌∙◌, subst, arith}
use Rattle.std.proofs.lemmas.List.{length-map}
use Rattle.pfc_code.specs.declared.images.ProcessInfo.{ProcessInfo}
use Rattle.pfc_tree.specs.Symbols.{Text}
use Rattle.pfc_tree.specs.trees.Parts.{ProgramTree}
use Rattle.pfc_tree.specs.forget.Parts.{forget_program}
use Rattle.pfc_tree.specs.lawful.Parts.{IsLawful}
use Rattle.pfc_types.specs.Types.{semaphore, condition}
use Rattle.pfc_types.specs.Blocks.{process_at}
use Rattle.pfc_types.specs.declared.types.TypeId.{TypeId}
use Rattle.pfc_types.specs.rules.Whole.{finished, broken, types_of}
use Rattle.pfc_state.specs.Stands.{Stand, Is_ready, Is_idle, is_unfinished, due_of, ticket_of}
use Rattle.pfc_world.specs.Tables.{at, start_table}
use Rattle.pfc_semantics.specs.Values.{Location, ordinal}
use Rattle.pfc_semantics.specs.Store.{value_at}
use Rattle.pfc_semantics.specs.Programs.{Program, block_at, block_number, program_of}
use Rattle.pfc_semantics.specs.Configurations.{Activity, Config, activity_of, idle_activity, main_activity, start}
use Rattle.pfc_translation.specs.Objects.{process_info, processes_of}
use Rattle.pfc_translation.specs.Images.{image_of}
use Rattle.pfc_image_laws.proofs.Modules.{image_scans}
use Rattle.pfc_stacks.specs.declared.refs.Ref.{Ref}
use Rattle.pfc_stacks.specs.Stacks.{Stack, Stacks, idle_stack}
use Rattle.pfc_cells.specs.Homes.{Lies}
use Rattle.pfc_machines.specs.declared.descriptors.Descriptor.{Descriptor}
use Rattle.pfc_machines.specs.declared.machine.Machine.{Machine}
use Rattle.pfc_machines.specs.Descriptors.{descriptor_by, descriptor_of, line_in, line_of_block}
use Rattle.pfc_machines.specs.Machines.{start_machine}
use Rattle.pfc_standing_images.proofs.Wholes.{main_stands}
use Rattle.pfc_type_laws.proofs.WalkBlocks.{types_built}
use Rattle.pfc_type_laws.proofs.SoundTables.{built_sound, built_counted}
use Rattle.pfc_object_laws.specs.Kinds.{HasKind}
use Rattle.pfc_object_laws.specs.Mains.{AreOfMain}
use Rattle.pfc_object_laws.proofs.Tables.{predeclared_none}
use Rattle.pfc_object_laws.proofs.Mains.{all_kinds, carried_count}
use Rattle.pfc_main_names.proofs.Conditions.{few_objects}
use Rattle.pfc_representation.specs.Levels.{Facts, IsProgram}
use Rattle.pfc_representation.specs.Processes.{RepresentsProcess}
use Rattle.pfc_representation.specs.Holding.{holders_in, is_quiet}
use Rattle.pfc_representation.specs.Objects.{AreOfKinds}
use Rattle.pfc_representation.specs.Machines.{SharesWords, HoldsStore, IsBetweenActions, AreAlike, Represents}
use Rattle.pfc_represented_start.specs.Starts.{start_homes, main_entry, start_entries, main_setting, start_facts, main_descriptor}
use Rattle.pfc_represented_start.proofs.Setting.{main_of_image, the_main_block}
use Rattle.pfc_represented_start.proofs.Memory.{not_zero, spare, start_of, stacks_are, memory_is, few_is, only_home, objects_are, kind_at}
use Rattle.pfc_represented_start.proofs.Main.{found}
use Rattle.pfc_represented_start.proofs.Level.{main_is_under_way}
use Rattle.pfc_represented_start.proofs.Processes.{each, map_there, get_there, there_below, labels, declared, line_is, count_is, labelled_there}

-- ## Lists of one element

same_length : {A : Type 0} (n : ℕ) (x : A) → length (replicate n x) ≡ n
same_length zero x = refl
same_length (suc n) x = ap suc (same_length n x)

same_there : {A : Type 0} (n k : ℕ) (x d : A) → k < n → get_or (replicate n x) k d ≡ x
same_there zero k x d h = absurd (omega (arith, h))
same_there (suc n) zero x d h = refl
same_there (suc n) (suc k) x d h = same_there n k x d (omega (arith, h))

-- each standing but main's is idle
all_idle : (n k : ℕ) → at (replicate n Is_idle) k ≡ Is_idle
all_idle zero k = refl
all_idle (suc n) zero = refl
all_idle (suc n) (suc k) = all_idle n k

-- ## The start

module _ (t : ProgramTree) (lawful : IsLawful (forget_program t)) (whole : broken t ≡ []) (mains : AreOfMain (finished t))
    (few : length (image_of t).processes ≤ 1024) (small : 8 + (program_of t).main.cells < 2 ^ 32) (short : length (image_of t).code < 4294967296)
    (input : List ℕ) (seed : ℕ) where
  abbrev g : Program
  g = program_of t

  abbrev facts : Facts
  facts = start_facts t

  abbrev m : Machine
  m = start_machine (image_of t) input seed

  abbrev c : Config
  c = start g input seed

  abbrev count : ℕ
  count = length g.objects.processes

  counts : length (image_of t).processes ≡ 1 + count
  counts = count_is t mains

  activities : length c.activities ≡ 1 + count
  activities = ap suc (length-map g.objects.processes (λ (n : ℕ). idle_activity g n)) ∙ omega arith

  rows_idle : (q : ℕ) → at c.table.rows (suc q) ≡ Is_idle
  rows_idle q = all_idle _ q

  -- whatever is so of main's standing and of idle ones is so of all
  each_row : (P : Stand → Type 0) → P Is_ready → P Is_idle → (q : ℕ) → P (at c.table.rows q)
  each_row P ready idle zero = ready
  each_row P ready idle (suc q) = subst P (sym (rows_idle q)) idle

  -- ## All that is alike

  is_program : IsProgram t
  is_program =
      record {
        lawful = lawful;
        unbroken = whole;
        types = record {
          counted = built_counted (types_of t) (types_built t);
          sound = built_sound (types_of t) (types_built t);
          predeclared = predeclared_none (types_of t) (types_built t).predeclared;
        };
        short = short;
        numbered =
            (let taken = few_objects t lawful in
            record { semaphores = omega (arith, taken, small); channels = omega (arith, taken, small); conditions = omega (arith, taken, small) });
      }

  shares : SharesWords facts m c
  shares =
      record {
        processes = activities ∙ sym counts;
        stacks =
            ap length (stacks_are t) ∙ (let n = same_length (length (image_of t).processes - 1) (idle_stack (spare t)) in omega (arith, n, counts, activities));
        descriptors = ap suc (length-map (processes_of g) (λ (p : ProcessInfo). descriptor_by (line_of_block (image_of t).blocks p.block)))
            ∙ (let n : length (image_of t).processes ≡ suc (length (processes_of g)) = refl in omega (arith, n, counts, activities));
        rows = (let n = same_length (1 + count - 1) Is_idle in omega (arith, n, activities));
        semaphores = refl;
        monitors = refl;
        owners = refl;
        resources = ap (λ (n : ℕ). replicate n None) (image_scans t lawful);
        input = refl;
        draws = refl;
        in_line = refl;
      }

  found_main : block_at g 0 ≡ g.main
  found_main = found t lawful whole mains few small

  holds : HoldsStore facts start_homes (start_entries t) c.store m.stacks 0
  holds =
      record {
        memory = memory_is t mains (found t lawful whole mains few small);
        few = few_is t mains (found t lawful whole mains few small) few small;
        objects = objects_are t mains (found t lawful whole mains few small);
        main = refl;
        mains = λ l u r lies object. (only_home t mains (found t lawful whole mains few small) l.activation lies.home lies.is.at).0;
        numbers = λ a home e. (let is = (only_home t mains (found t lawful whole mains few small) a home e).0 in omega (arith, is));
      }

  same_number : (a b : ℕ) → ordinal (pos a) ≡ ordinal (pos b) → a ≡ b
  same_number a b e = cc

  same_some : {A : Type 0} (a b : A) → Some a ≡ Some b → a ≡ b
  same_some a b e = cc

  kind : (l : Location) (u : TypeId) (r : Ref) → Lies g start_homes l (Some u) r → HasKind (types_of t) (all_kinds t mains) u (value_at c.store l)
  kind l u r lies = kind_at t mains (found t lawful whole mains few small) l u r lies

  of_kinds : AreOfKinds facts start_homes c
  of_kinds =
      record {
        semaphores = λ l r lies. (let k = (kind l semaphore r lies).semaphore refl in
            (k.0, k.1, (let size = same_length {A = ℕ} g.objects.semaphores 0 in let low = k.2 in omega (arith, size, low))));
        conditions = λ l r lies. (kind l condition r lies).condition refl;
        processes = λ l u k r lies form. (let its = (kind l u r lies).process k form in
            (its.0, its.1, its.2, within its.0 k its.2 its.3, get_there g.objects.processes (its.0 - 1) k 0 its.3));
        channel_numbers = λ l u v r lies form. (let its = (kind l u r lies).channel v form in
            (its.0, its.1, (let low = there_within (all_kinds t mains).carried its.0 v its.2 in omega (arith, low, carried_count t mains))));
        channels = λ l o u v w x r s one two form_one form_two same.
            (let a = (kind l u r one).channel w form_one in
            let b = (kind o v s two).channel x form_two in
            let number : a.0 ≡ b.0 = same_number a.0 b.0 (sym a.1 ∙ same ∙ b.1) in
            same_some w x (sym a.2 ∙ ap (λ (n : ℕ). slice_get (all_kinds t mains).carried n) number ∙ b.2));
      }
    where
      there_within : {A : Type 0} (xs : List A) (n : ℕ) (x : A) → slice_get xs n ≡ Some x → n < length xs
      there_within [] n x e = absurd (cc)
      there_within (y ∷ xs) zero x e = omega arith
      there_within (y ∷ xs) (suc n) x e = let rest = there_within xs n x e in omega (arith, rest)

      within : (n k : ℕ) → 1 ≤ n → slice_get g.objects.processes (n - 1) ≡ Some k → n < length c.activities
      within n k some e = let low = there_within g.objects.processes (n - 1) k e in omega (arith, low, some, activities)

  between : IsBetweenActions c.table
  between =
      record {
        acting = refl;
        tickets = λ p ticket e. absurd (each_row (λ (s : Stand). ticket_of s ≡ Some ticket → ⊥) (λ h. cc) (λ h. cc) p e);
        moment = omega arith;
        due = λ p due e. absurd (each_row (λ (s : Stand). due_of s ≡ Some due → ⊥) (λ h. cc) (λ h. cc) p e);
        done = omega arith;
      }

  alike : AreAlike facts start_homes (start_entries t) m c
  alike =
      record {
        program = is_program;
        words = shares;
        holds = holds;
        kinds = of_kinds;
        children = children;
        main = refl;
        between = between;
        counts = same_length {A = ℕ} g.objects.semaphores 0;
        monitor_count = same_length _ None;
        resource_count = same_length _ None;
        rooms = refl;
        fault = refl;
      }
    where
      children : {A : Type 0} → A → (p : ℕ) → 0 < p → is_quiet (at c.table.rows p) ≡ true
      children a zero some = absurd (omega (arith, some))
      children a (suc q) some = ap is_quiet (rows_idle q)

  -- ## The processes

  abbrev Stands : Stacks → ℕ → Activity → Descriptor → Type 0
  Stands stacks p a d = RepresentsProcess facts start_homes (start_entries t) c.store stacks c.table (holders_in facts c) p a d

  main_stands_so : Stands (start_of t) 0 (main_activity g) (main_descriptor t)
  main_stands_so =
      record {
        line = ap line_in (the_main_block t).there
            ∙ (main_stands t (main_setting t (the_main_block t).code) (main_of_image t (the_main_block t).code) (the_main_block t).code
            (the_main_block t).there).line;
        spare = refl;
        activations = main_is_under_way t lawful whole mains few small input seed (holders_in facts c);
      }

  no_entries : (q : ℕ) → start_entries t (suc q) ≡ []
  no_entries q = ap (λ (r : Bool). if r then main_entry t ∷ [] else []) (not_zero (suc q) (omega arith))

  idle_stands : (q n : ℕ) → slice_get g.objects.processes q ≡ Some n
      → Stands (start_of t) (suc q) (idle_activity g n) (descriptor_by (line_of_block (image_of t).blocks
      (block_number g (process_at (finished t).blocks n).scope)))
  idle_stands q n there =
      record {
        line = line_is t lawful whole n (below (labelled_there t mains q n there));
        spare = ap (λ (s : Stack). s.spare) (same_there (length (image_of t).processes - 1) q (idle_stack (spare t)) _ few_enough);
        activations = record {
          none = no_entries q;
          scan = refl;
          finished = ap is_unfinished (rows_idle q);
        };
      }
    where
      below : (p : ℕ × Text) × (slice_get (labels t) q ≡ Some p) × (p.0 ≡ n) → n < length (finished t).blocks.processes
      below (p, at_label, is) =
          subst (λ (k : ℕ). k < length (finished t).blocks.processes) is
          (each (λ (x : ℕ × Text). x.0 < length (finished t).blocks.processes) (labels t) q p (declared t) at_label)

      few_enough : q < length (image_of t).processes - 1
      few_enough = let low = there_within g.objects.processes q n there in omega (arith, low, counts)
        where
          there_within : {A : Type 0} (xs : List A) (n : ℕ) (x : A) → slice_get xs n ≡ Some x → n < length xs
          there_within [] n x e = absurd (cc)
          there_within (y ∷ xs) zero x e = omega arith
          there_within (y ∷ xs) (suc n) x e = let rest = there_within xs n x e in omega (arith, rest)

  stands : (p : ℕ) → p < length c.activities → Stands (start_of t) p (activity_of g c p) (descriptor_of m.descriptors p)
  stands zero h = main_stands_so
  stands (suc q) h =
      let n = there_below g.objects.processes q (omega (arith, h, activities)) in
      let label = labelled_there t mains q n.0 n.1 in
      let activity : activity_of g c (suc q) ≡ idle_activity g n.0 =
      get_there (map (λ (k : ℕ). idle_activity g k) g.objects.processes) q (idle_activity g n.0) _
      (map_there (λ (k : ℕ). idle_activity g k) g.objects.processes q n.0 n.1) in
      let by_label : ProcessInfo → Descriptor = λ (p : ProcessInfo). descriptor_by (line_of_block (image_of t).blocks p.block) in
      let descriptor : descriptor_of m.descriptors (suc q)
      ≡ descriptor_by (line_of_block (image_of t).blocks (block_number g (process_at (finished t).blocks n.0).scope)) =
      get_there (map by_label (processes_of g)) q (by_label (process_info g label.0)) _
      (map_there by_label (processes_of g) q (process_info g label.0) (map_there (λ (p : ℕ × Text). process_info g p) (labels t) q label.0 label.1))
      ∙ ap (λ (k : ℕ). descriptor_by (line_of_block (image_of t).blocks (block_number g (process_at (finished t).blocks k).scope))) label.2 in
      subst (λ (a : Activity). Stands (start_of t) (suc q) a (descriptor_of m.descriptors (suc q))) (sym activity)
      (subst (λ (d : Descriptor). Stands (start_of t) (suc q) (idle_activity g n.0) d) (sym descriptor) (idle_stands q n.0 n.1))

  pub start_represented : Represents facts m c
  start_represented =
      record {
        homes = start_homes;
        entries = start_entries t;
        alike = alike;
        world = ap (λ (n : ℕ). start_table n (image_of t).arms) counts;
        processes = λ p below. subst (λ (s : Stacks). Stands s p (activity_of g c p) (descriptor_of m.descriptors p)) (sym (stacks_are t)) (stands p below);
      }
