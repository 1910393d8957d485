-- Main's level before the first action.
use Rattle.std.proofs.Common.{◌≡◌, ℕ, zero, suc, ◌+◌, ◌^◌, ◌<◌, ◌≤◌, ◌==◌, nat_lt, not, cond, Bool, true, false, List, [], ◌∷◌, length, drop, get_or, slice_get}
use Rattle.std.proofs.Common.{unwrap_or, position, Some, None, refl, sym, ap, ◌∙◌, subst, arith, inr, inl}
use Rattle.std.specs.List.{position_or_len}
use Rattle.std.proofs.lemmas.Bool.Decides.{nat_tests}
use Rattle.std.proofs.lemmas.List.Elements.{All-nil, All-cons}
use Rattle.std.proofs.lemmas.Option.{slice_get_within}
use Rattle.std.proofs.lemmas.List.{length-map}
use Rattle.pfc_image_laws.proofs.Layouts.{image_count}
use Rattle.pfc_code.specs.declared.images.Block.{Block as CodeBlock}
use Rattle.pfc_code.specs.declared.instructions.Instr.{Instr}
use Rattle.pfc_tree.specs.trees.Parts.{ProgramTree}
use Rattle.pfc_tree.specs.forget.Parts.{forget_program}
use Rattle.pfc_tree.specs.lawful.Parts.{IsLawful}
use Rattle.pfc_types.specs.declared.types.TypeId.{TypeId}
use Rattle.pfc_types.specs.declared.scope.Meaning.TheVariants.{Variable}
use Rattle.pfc_types.specs.rules.Expressions.{Env}
use Rattle.pfc_types.specs.rules.Whole.{finished, broken}
use Rattle.pfc_state.specs.Stands.{Is_ready}
use Rattle.pfc_world.specs.Tables.{Table, at}
use Rattle.pfc_semantics.specs.Values.{Location}
use Rattle.pfc_semantics.specs.Store.{Store}
use Rattle.pfc_semantics.specs.Programs.{Block, Guard, Program, program_of}
use Rattle.pfc_semantics.specs.Remainders.{Remainder, in_names}
use Rattle.pfc_semantics.specs.Rewriting.{going}
use Rattle.pfc_semantics.specs.Configurations.{Activation, body_of, initialising, main_remainder, main_activation, main_activity, start}
use Rattle.pfc_translation.specs.Images.{statements_code, image_of}
use Rattle.pfc_stacks.specs.declared.marks.Mark.TheVariants.{Plain}
use Rattle.pfc_stacks.specs.Refs.{word_of}
use Rattle.pfc_stacks.specs.Stacks.{stack_of, last_activation}
use Rattle.pfc_stacks.specs.Activations.{main_link}
use Rattle.pfc_machines.specs.declared.rooms.Room.{Room}
use Rattle.pfc_machines.specs.Communications.{Communicating, no_communications, with_room_above}
use Rattle.pfc_machines.specs.Rooms.{no_room, room_of_all, rooms_of, stretch, end_of}
use Rattle.pfc_standing_code.specs.Settings.{Setting, of_own, same_block}
use Rattle.pfc_standing_code.specs.Performs.{AskedOf}
use Rattle.pfc_standing_code.specs.Words.{IsChecked}
use Rattle.pfc_standing_images.specs.Images.{HasBody, StatementsThen}
use Rattle.pfc_standing_images.proofs.Wholes.{main_stands}
use Rattle.pfc_call_laws.specs.Around.{main_alone}
use Rattle.pfc_call_laws.specs.Calls.{first_home}
use Rattle.pfc_nesting_laws.proofs.Numbered.{Every, Numbered, parts_numbered}
use Rattle.pfc_object_laws.specs.Mains.{AreOfMain}
use Rattle.pfc_representation.specs.Levels.{Facts, is_met_by, number_in, IsBlockAt, LivingLevel, HasSetting, DoesOn, MayKeep, of_main, IsSeenBy}
use Rattle.pfc_representation.specs.Rooms.{room_in, end_in, HasRoomFor}
use Rattle.pfc_representation.specs.Callers.{StandsFor, is_unmade, IsFirst, IsWithin}
use Rattle.pfc_representation.specs.Alternatives.{none_made}
use Rattle.pfc_representation.specs.Processes.{AreMet, IsUnderWay}
use Rattle.pfc_representation.specs.Holding.{Holders, HoldsFor, Holds}
use Rattle.pfc_represented_start.specs.Starts.{start_homes, main_number, main_entry, start_entries, main_setting, start_facts, main_level, main_descriptor}
use Rattle.pfc_represented_start.proofs.Setting.{main_scope, main_guard, main_of_image, main_of_block, the_main_block}
use Rattle.pfc_represented_start.proofs.Memory.{store, start_of, is_zero}
use Rattle.pfc_represented_start.proofs.Main.{found, main_code, beside_code, code_sees, code_shows, main_does}

-- ## Main's place among the blocks of the image

none_there : (from to : ℕ) (bs : List Block) → 1 ≤ from → Every (Numbered from to) bs → position_or_len (λ (c : Block). c.scope == 0) bs ≡ length bs
none_there from to [] some h = refl
none_there from to (b ∷ bs) some h = by (b.scope == 0) refl (none_there from to bs some h.1)
  where
    low : from ≤ b.scope
    low = h.0.low

    by : (r : Bool) → (b.scope == 0) ≡ r → position_or_len (λ (c : Block). c.scope == 0) bs ≡ length bs
        → cond (not r) (1 + position_or_len (λ (c : Block). c.scope == 0) bs) 0 ≡ suc (length bs)
    by true e rest = absurd (let is = is_zero b.scope e in omega (arith, is, low, some))
    by false e rest = omega (arith, rest)

main_last : (t : ProgramTree) → length (program_of t).blocks ≡ number_in (program_of t) (program_of t).main
main_last t =
    sym (ap (λ (i : ℕ). unwrap_or (position (λ (c : Block). c.scope == i) (program_of t).blocks) (length (program_of t).blocks)) (main_scope t)
    ∙ ap (λ (r : Bool). unwrap_or (cond r (Some (position_or_len (λ (c : Block). c.scope == 0) (program_of t).blocks)) None)
    (length (program_of t).blocks)) none)
  where
    place : ℕ
    place = position_or_len (λ (c : Block). c.scope == 0) (program_of t).blocks

    none : nat_lt (position_or_len (λ (c : Block). c.scope == 0) (program_of t).blocks) (length (program_of t).blocks) ≡ false
    none =
        let last = none_there 1 _ (program_of t).blocks (omega arith) (parts_numbered (finished t) false 0 0 [] 1 t.parts (omega arith) tt) in
        grind (arith, nat_tests)

-- ## The end of main's code

-- the bodies before the last begin no later than what stands behind them
behind_bodies : (g : Setting) (c : CodeBlock) (from : ℕ) (bs : List Block) (P : ℕ → Type 0) → StatementsThen g c from bs P → (to : ℕ) × (from ≤ to) × P to
behind_bodies g c from [] P h = (from, omega arith, h)
behind_bodies g c from (b ∷ bs) P h = further (behind_bodies g c (from + (statements_code g.program b).size) bs P h.1)
  where
    further : (to : ℕ) × (from + (statements_code g.program b).size ≤ to) × P to → (to : ℕ) × (from ≤ to) × P to
    further (to, low, there) = (to, less from (statements_code g.program b).size to low, there)
      where
        less : (a n to : ℕ) → a + n ≤ to → a ≤ to
        less a n to low = omega arith

rooms_at : (n : ℕ) (code : List Instr) (blocks : List CodeBlock) (k : ℕ) (c : CodeBlock) → slice_get blocks k ≡ Some c
    → get_or (rooms_of n code blocks) k no_room ≡ room_of_all n (stretch c.entry (end_of code (drop (k + 1) blocks)) code)
rooms_at n code [] k c there = absurd (cc)
rooms_at n code (b ∷ blocks) zero c there =
    let same : b ≡ c = cc in ap (λ (x : CodeBlock). room_of_all n (stretch x.entry (end_of code blocks) code)) same
rooms_at n code (b ∷ blocks) (suc k) c there =
    rooms_at n code blocks k c there
    ∙ ap (λ (j : ℕ). room_of_all n (stretch c.entry (end_of code (drop j (b ∷ blocks))) code)) (one_more k)
  where
    one_more : (j : ℕ) → suc (j + 1) ≡ suc j + 1
    one_more j = omega arith

drop_past : {A : Type 0} (xs : List A) (k : ℕ) → length xs ≤ k → drop k xs ≡ []
drop_past [] zero h = refl
drop_past [] (suc k) h = refl
drop_past (x ∷ xs) zero h = absurd (omega (arith, h))
drop_past (x ∷ xs) (suc k) h = drop_past xs k (omega (arith, h))

-- nothing is asked of the names in view where names of its own come first
nothing_asked : (P : Env → Type 0) (e : Env) (bs : List Block) (inner : Env) (k : Remainder) → AskedOf P e (initialising bs (in_names inner k))
nothing_asked P e [] inner k = tt
nothing_asked P e (b ∷ bs) inner k = tt

-- ## The level

module _ (t : ProgramTree) (lawful : IsLawful (forget_program t)) (whole : broken t ≡ []) (mains : AreOfMain (finished t))
    (few : length (image_of t).processes ≤ 1024) (small : 8 + (program_of t).main.cells < 2 ^ 32) where
  abbrev g : Program
  g = program_of t

  abbrev facts : Facts
  facts = start_facts t

  abbrev c : CodeBlock
  c = (the_main_block t).code

  abbrev own_setting : Setting
  own_setting = main_setting t c

  abbrev level : LivingLevel
  level = main_level t c

  abbrev room : Room
  room = room_in facts (main_number t)

  abbrev made : Communicating
  made = with_room_above no_communications room

  abbrev held : Store
  held = store t mains (found t lawful whole mains few small)

  has_setting : HasSetting facts level
  has_setting = record { image = main_of_image t c; arms = refl; number = refl }

  block_there : IsBlockAt g (image_of t).blocks (main_number t) g.main c
  block_there = ((the_main_block t).there, main_last t, inr (refl, refl))

  no_reference : (k : ℕ) (u : TypeId) (l : Location) → slice_get g.main.layout k ≡ Some (Variable u true) → ⊥
  no_reference k u l there =
      let own : true ≡ false = (main_code t lawful whole mains few small).own k (Variable u true) there in cc

  no_guard : (guard : Guard) → g.main.guard ≡ Some guard → ⊥
  no_guard guard e = let both : None ≡ Some guard = sym (main_guard t) ∙ e in cc

  room_fits : HasRoomFor (is_unmade made) room
  room_fits = (omega arith, omega arith, omega arith)

  -- ## Its activation

  pub stands_for : StandsFor facts start_homes held 0 (main_activation g) (main_entry t) (word_of (last_activation (start_of t) 0))
      (record { address = 0; block = main_number t; mark = Plain; link = main_link; caller = 0; under = 0 }) level
  stands_for =
      record {
        number = refl;
        home = first_home 0 0;
        at = refl;
        process = refl;
        scope = refl;
        block = main_scope t;
        word = refl;
        cells = omega arith;
        words = refl;
        mark = refl;
        link = tt;
        under = refl;
        code = c;
        is = block_there;
        of_block = record { last = (main_of_block t c).last; room = (main_of_block t c).room };
        last = refl;
        setting = has_setting;
        laid = ap (λ (b : Block). b.layout) (found t lawful whole mains few small);
        apart = λ k u l there holds. absurd (no_reference k u l there);
        guarded = λ guard e. absurd (no_guard guard e);
        accepts = λ i none. absurd (let both : false ≡ true = none in cc);
      }

  is_first : IsFirst facts start_homes held 0 (stack_of (start_of t) 0).room level (word_of (last_activation (start_of t) 0)) made (main_activation g)
      (main_entry t)
  is_first =
      record {
        own = record { address = 0; block = main_number t; mark = Plain; link = main_link; caller = 0; under = 0 };
        stands = stands_for;
        fits = record { operands = omega arith; made = room_fits; branches = tt };
        made = (refl, refl, none_made);
        block = refl;
        number = λ e. refl;
        waits = refl;
        mark = refl;
        under = refl;
        caller = refl;
        link = refl;
      }

  -- ## What it sees

  may_keep : (table : Table) (a : ℕ) → main_alone a ≡ true → MayKeep table (start_entries t) 0 [] (start_entries t 0) a
  may_keep table a e =
      let is : a ≡ 0 = is_zero a e in
      subst (λ (n : ℕ). MayKeep table (start_entries t) 0 [] (start_entries t 0) n) (sym is) (of_main 0 [] (start_entries t 0))

  seen_by : (table : Table)
      → IsSeenBy facts start_homes (start_entries t) held table 0 [] (start_entries t 0) (word_of (last_activation (start_of t) 0)) [] level
  seen_by table =
      record {
        others = [];
        met = refl;
        sees = record {
          keeps = main_alone;
          chain = 0 ∷ [];
          sees = λ b beside. code_sees t lawful whole mains few small b
              (beside_code t lawful whole mains few small beside (main_code t lawful whole mains few small));
          keeps_these = may_keep table;
        };
        around = λ b beside. code_shows t lawful whole mains few small b
            (beside_code t lawful whole mains few small beside (main_code t lawful whole mains few small));
      }

  -- ## Where its code goes on

  main_ends : (to : ℕ) × (c.entry ≤ to) × ((n : ℕ) × HasBody own_setting c g.main to n)
  main_ends =
      behind_bodies own_setting c c.entry g.modules (λ to. (n : ℕ) × HasBody own_setting c g.main to n)
      (main_stands t own_setting (main_of_image t c) c (the_main_block t).there).bodies

  code_length : length own_setting.code ≡ length (image_of t).code
  code_length = sym (length-map own_setting.code (λ (i : Instr × ℕ). i.0)) ∙ ap length (main_of_image t c).code

  ends_with_code : end_in facts (main_number t) ≡ length (image_of t).code
  ends_with_code =
      ap (λ (bs : List CodeBlock). end_of (image_of t).code bs)
      (drop_past (image_of t).blocks (main_number t + 1) (let count = image_count t in omega (arith, count)))

  within_code : IsWithin facts level c.entry made
  within_code = (
    main_number t,
    c,
    block_there,
    record {
      entry = omega arith;
      before = (let end = slice_get_within own_setting.code _ _ main_ends.2.1.end in
          let low = main_ends.1 in
          omega (arith, end, low, code_length, ends_with_code));
      rest = subst (λ (r : Room). HasRoomFor made r)
          (rooms_at (length (image_of t).processes) (image_of t).code (image_of t).blocks (main_number t) c (the_main_block t).there) room_fits;
    },
  )

  -- ## The whole

  does : DoesOn level c.entry [] (going g.main.env (main_remainder g))
  does = (
    omega arith,
    omega arith,
    inl (
      g.main,
      same_block,
      (nothing_asked (λ (e : Env). IsChecked own_setting g.main e) g.main.env g.modules g.main.env (body_of g.main), main_does t lawful whole mains few small),
    ),
  )

  no_meeting : (table : Table) → AreMet table 0 []
  no_meeting table = record { waiting = All-nil (λ (q : ℕ). is_met_by (at table.rows q) 0); once = λ j k q there other. absurd (none j q there) }
    where
      none : (j q : ℕ) → slice_get [] j ≡ Some q → ⊥
      none j q there = cc

  holds_nothing : (h : Holders) → Holds h 0 Is_ready of_own (main_activation g ∷ [])
  holds_nothing h =
      record {
        entered =
            All-cons (λ (a : Activation). HoldsFor h 0 Is_ready a.mark) (main_activation g) [] tt (All-nil (λ (a : Activation). HoldsFor h 0 Is_ready a.mark));
        scanned = tt;
      }

  -- main is at its level, before its first action
  pub main_is_under_way : (input : List ℕ) (seed : ℕ) (h : Holders)
      → IsUnderWay facts start_homes (start_entries t) held (start_of t) (start g input seed).table h 0 (main_activity g) (main_descriptor t)
  main_is_under_way input seed h =
      let table = (start g input seed).table in
      record {
        unfinished = refl;
        level = level;
        stands = record {
          count = refl;
          seen = seen_by table;
          callers = is_first;
          room = omega arith;
          accepts = tt;
          met = no_meeting table;
          holds = holds_nothing h;
        };
        within = within_code;
        hand = (refl, refl, does);
        trial = (refl, refl);
      }
