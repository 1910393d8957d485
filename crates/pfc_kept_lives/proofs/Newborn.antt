-- The clause of a process that was created, and has not yet begun.
use Rattle.std.proofs.Common.{◌≡◌, ℕ, zero, suc, ◌+◌, ◌<◌, ◌≤◌, ℤ, true, false, List, [], ◌∷◌, length, set, get_or, All, Some, None, drop, ◌-◌}
use Rattle.std.proofs.Common.{refl, sym, ap, ◌∙◌, subst, arith}
use Rattle.std.proofs.lemmas.List.{get_or-set_same, length-set}
use Rattle.pfc_code.specs.declared.images.Block.{Block as CodeBlock}
use Rattle.pfc_types.specs.declared.heads.Formal.{Formal}
use Rattle.pfc_state.specs.Stands.{Is_created, is_unfinished}
use Rattle.pfc_world.specs.Tables.{Table, at}
use Rattle.pfc_semantics.specs.Displays.{Display}
use Rattle.pfc_semantics.specs.Store.{Store}
use Rattle.pfc_semantics.specs.Programs.{Block, Program}
use Rattle.pfc_semantics.specs.Remainders.{Context, Argument}
use Rattle.pfc_semantics.specs.Rewriting.{going}
use Rattle.pfc_semantics.specs.Configurations.{plain, of_nobody, Activation, Activity, Config, activity_of, at_work, body_of}
use Rattle.pfc_semantics.specs.Calls.{new_activation}
use Rattle.pfc_semantics.specs.Processes.{process_block}
use Rattle.pfc_stacks.specs.declared.marks.Mark.TheVariants.{Plain}
use Rattle.pfc_stacks.specs.Refs.{word_of}
use Rattle.pfc_stacks.specs.Stacks.{Stack, Stacks, no_stack, stack_of, last_activation}
use Rattle.pfc_stacks.specs.Activations.{main_link, entered, arguments}
use Rattle.pfc_cells.specs.Homes.{Home, Homes}
use Rattle.pfc_cells.specs.Memory.{Entry, Entries}
use Rattle.pfc_machines.specs.declared.machine.Machine.{Machine}
use Rattle.pfc_machines.specs.declared.rooms.Room.{Room}
use Rattle.pfc_machines.specs.declared.descriptors.Descriptor.{Descriptor}
use Rattle.pfc_machines.specs.Communications.{Communicating}
use Rattle.pfc_machines.specs.Descriptors.{descriptor_of, begun}
use Rattle.pfc_machines.specs.Rooms.{no_room}
use Rattle.pfc_views.specs.Views.{own_place}
use Rattle.pfc_nesting_laws.proofs.Programs.{has_scopes}
use Rattle.pfc_representation.specs.Levels.{Facts, program_in, LivingLevel, DoesOn, IsSeenBy}
use Rattle.pfc_representation.specs.Rooms.{room_in, guards_room, HasRoomFor}
use Rattle.pfc_representation.specs.Alternatives.{none_made}
use Rattle.pfc_representation.specs.Callers.{Linkage, StandsFor, first_block, IsFirst, IsWithin, AreCallers}
use Rattle.pfc_representation.specs.Hands.{shows_nothing}
use Rattle.pfc_representation.specs.Holding.{Holders, holders_in, HoldsFor}
use Rattle.pfc_representation.specs.Processes.{IsAtLevel, IsUnderWay, RepresentsProcess}
use Rattle.pfc_representation.specs.Acting.{IsActing}
use Rattle.pfc_kept_object_actions.proofs.Change.{row_here}
use Rattle.pfc_kept_calls.proofs.Beginnings.{entry_before, room_from_entry}
use Rattle.pfc_kept_calls.proofs.Caller.{entries_here, home_here}
use Rattle.pfc_kept_lives.proofs.Begun.{IsCreation, code, number, new_entry, home, homes, entries, store, stacks, display, table}
use Rattle.pfc_kept_lives.proofs.Begun.{inner_level, other, idle, inner_seen, inner_setting, inner_block, does, is_block, references_apart}

first_is : (g : Program) (n : ℕ) → 1 ≤ n → first_block g n ≡ process_block g n
first_is g zero some = absurd (let no : 1 ≤ 0 = some in omega (arith, no))
first_is g (suc n) some = refl

module _ (facts : Facts) (m : Machine) (c : Config) (p : ℕ) (level : LivingLevel) (acting : IsActing facts m c p level) (n k : ℕ) (callee : Block)
    (formals : List Formal) (x : Context) (given : List Argument) (below : List ℤ)
    (new : IsCreation facts m c p level acting n k callee formals x given below) where
  abbrev q : Program
  q = program_in facts

  abbrev block : CodeBlock
  block = code facts m c p level acting n k callee formals x given below new

  abbrev its_home : Home
  its_home = home facts m c p level acting n k callee formals x given below new

  abbrev its_homes : Homes
  its_homes = homes facts m c p level acting n k callee formals x given below new

  abbrev its_entry : Entry
  its_entry = new_entry facts m c p level acting n k callee formals x given below new

  abbrev all_entries : Entries
  all_entries = entries facts m c p level acting n k callee formals x given below new

  abbrev its_store : Store
  its_store = store facts m c p level acting n k callee formals x given below new

  abbrev all_stacks : Stacks
  all_stacks = stacks facts m c p level acting n k callee formals x given below new

  abbrev its_table : Table
  its_table = table facts m c p level acting n k callee formals x given below new

  abbrev its_level : LivingLevel
  its_level = inner_level facts m c p level acting n k callee formals x given below new

  abbrev its_display : Display
  its_display = display facts m c p level acting n k callee formals x given below new

  abbrev h : Holders
  h = holders_in facts c

  abbrev a : Activity
  a = activity_of q c n

  abbrev d : Descriptor
  d = descriptor_of m.descriptors n

  abbrev room : Room
  room = get_or m.rooms k no_room

  abbrev pub d' : Descriptor
  d' = begun d room

  abbrev latest : Communicating
  latest = d'.communications

  abbrev activation : Activation
  activation = new_activation c a [] callee plain of_nobody []

  abbrev pub a' : Activity
  a' = record (at_work a (going callee.env (body_of callee))) { display = its_display; activations = activation ∷ [] }

  abbrev pub stack : Stack
  stack = entered k block (arguments block (stack_of m.stacks p).operands) (block.cells - block.params) (stack_of m.stacks n).spare

  -- ## Its stack, and its place in the table

  stack_there : n < length m.stacks
  stack_there = subst (λ i. n < i) (sym acting.alike.words.stacks) new.there

  pub is_stack : stack_of all_stacks n ≡ stack
  is_stack =
      let on : Stack = record (stack_of m.stacks p) {
        at = (stack_of m.stacks p).at + 1;
        operands = drop (block.params + 1) (stack_of m.stacks p).operands;
      } in
      get_or-set_same (set m.stacks p on) n stack no_stack (subst (λ i. n < i) (sym (length-set m.stacks p on)) stack_there)

  pub row_is : at its_table.rows n ≡ Is_created
  row_is = row_here c.table.rows n Is_created (subst (λ i. n < i) (sym acting.alike.words.rows) new.there)

  entries_are : all_entries n ≡ its_entry ∷ []
  entries_are =
      entries_here acting.entries n (its_entry ∷ acting.entries n)
      ∙ ap (λ (es : List Entry). its_entry ∷ es) (idle facts m c p level acting n k callee formals x given below new)

  spare_is : (stack_of m.stacks n).spare ≡ guards_room facts
  spare_is = (acting.others n new.there (other facts m c p level acting n k callee formals x given below new)).spare

  -- ## Its room

  made_fits : HasRoomFor latest (room_in facts k)
  made_fits = subst (λ (r : Room). HasRoomFor latest r) (ap (λ (rooms : List Room). get_or rooms k no_room) acting.alike.rooms) (
    omega arith,
    omega arith,
    omega arith,
  )

  goes_within : IsWithin facts its_level block.entry latest
  goes_within = (
    k,
    block,
    is_block facts m c p level acting n k callee formals x given below new,
    record {
      entry = omega arith;
      before = entry_before facts k block new.can.is;
      rest = subst (λ (r : Room). HasRoomFor latest r) (room_from_entry facts k block new.can.is) made_fits;
    },
  )

  -- ## Its activation

  abbrev linkage : Linkage
  linkage = record { address = 0; block = k; mark = Plain; link = main_link; caller = 0; under = 0 }

  stands : StandsFor facts its_homes its_store n activation its_entry (word_of (own_place its_home)) linkage its_level
  stands = record {
    number = refl;
    home = its_home;
    at = home_here acting.homes (number facts m c p level acting n k callee formals x given below new) its_home;
    process = refl;
    scope = refl;
    block = refl;
    word = refl;
    cells = refl;
    words = refl;
    mark = refl;
    link = tt;
    under = refl;
    code = block;
    is = is_block facts m c p level acting n k callee formals x given below new;
    of_block = inner_block facts m c p level acting n k callee formals x given below new;
    last = refl;
    setting = inner_setting facts m c p level acting n k callee formals x given below new;
    laid = ap (λ (b : Block). b.layout) (has_scopes facts.tree acting.alike.program.lawful k callee new.can.there).by_scope;
    apart = references_apart facts m c p level acting n k callee formals x given below new;
    guarded = λ guard is. (let none : None ≡ Some guard = sym new.can.unguarded ∙ is in absurd (cc));
    accepts = λ i none. absurd (let both : false ≡ true = none in cc);
  }

  is_first : (room' : ℕ) → block.operands + guards_room facts ≤ room'
      → IsFirst facts its_homes its_store n room' its_level (word_of (own_place its_home)) latest activation its_entry
  is_first room' fits = record {
    own = linkage;
    stands = stands;
    fits = record { operands = fits; made = made_fits; branches = tt };
    made = (refl, refl, none_made);
    block = new.process ∙ sym (first_is q n new.some);
    number = λ zeroth. absurd (none n zeroth new.some);
    waits = refl;
    mark = refl;
    under = refl;
    caller = refl;
    link = refl;
  }
    where
      none : (i : ℕ) → i ≡ 0 → 1 ≤ i → ⊥
      none i h k = omega (arith, h, k)

  -- ## Its level

  room_is : (stack_of all_stacks n).room ≡ block.operands + guards_room facts
  room_is = ap (λ (s : Stack). s.room) is_stack ∙ ap (λ i. block.operands + i) spare_is

  place_is : word_of (last_activation all_stacks n) ≡ word_of (own_place its_home)
  place_is = ap (λ (s : Stack). word_of (record { process = n; cell = s.base })) is_stack

  callers : AreCallers facts its_homes all_entries its_store its_table n (stack_of all_stacks n).room its_level (word_of (last_activation all_stacks n)) latest
      (activation ∷ []) (all_entries n)
  callers =
      subst (λ (es : List Entry). AreCallers facts its_homes all_entries its_store its_table n (stack_of all_stacks n).room its_level
      (word_of (last_activation all_stacks n)) latest (activation ∷ []) es) (sym entries_are)
      (subst (λ (v : ℤ). IsFirst facts its_homes its_store n (stack_of all_stacks n).room its_level v latest activation its_entry) (sym place_is)
      (is_first (stack_of all_stacks n).room (let is = room_is in omega (arith, is))))

  seen : IsSeenBy facts its_homes all_entries its_store its_table n [] (all_entries n) (word_of (last_activation all_stacks n)) its_display its_level
  seen =
      subst (λ (es : List Entry). IsSeenBy facts its_homes all_entries its_store its_table n [] es (word_of (last_activation all_stacks n)) its_display
      its_level)
      (sym (entries_here acting.entries n (its_entry ∷ acting.entries n)))
      (subst (λ (v : ℤ). IsSeenBy facts its_homes all_entries its_store its_table n [] (its_entry ∷ acting.entries n) v its_display its_level) (sym place_is)
      (inner_seen facts m c p level acting n k callee formals x given below new))

  at_level : IsAtLevel facts its_homes all_entries its_store all_stacks its_table h n a' d' its_level
  at_level = record {
    count = refl;
    seen = seen;
    callers = callers;
    room = (let is = room_is in omega (arith, is));
    accepts = tt;
    met = record { waiting = λ j r less. absurd (nobody j less); once = λ i j r one two. (let no : None ≡ Some r = one in absurd (cc)) };
    holds = record { entered = marked; scanned = tt };
  }
    where
      nobody : (j : ℕ) → j < 0 → ⊥
      nobody j less = omega (arith, less)

      marked : All (λ (y : Activation). HoldsFor h n (at its_table.rows n) y.mark) (activation ∷ [])
      marked zero y less = tt
      marked (suc j) y less = absurd (behind j less)
        where
          behind : (j : ℕ) → suc j < 1 → ⊥
          behind j less = omega (arith, less)

  -- ## All of it

  under_way : IsUnderWay facts its_homes all_entries its_store all_stacks its_table h n a' d'
  under_way = record {
    unfinished = ap is_unfinished row_is;
    level = its_level;
    stands = at_level;
    within = subst (λ i. IsWithin facts its_level i latest) (sym (ap (λ (s : Stack). s.at) is_stack)) goes_within;
    hand = (
      refl,
      ap shows_nothing row_is,
      subst (λ (s : Stack). DoesOn its_level s.at s.operands (going callee.env (body_of callee))) (sym is_stack)
          (does facts m c p level acting n k callee formals x given below new),
    );
    trial = (ap (λ (s : Stack). s.looks_from) is_stack, refl);
  }

  pub newborn : RepresentsProcess facts its_homes all_entries its_store all_stacks its_table h n a' d'
  newborn =
      let before = acting.others n new.there (other facts m c p level acting n k callee formals x given below new) in
      record { line = before.line; spare = ap (λ (s : Stack). s.spare) is_stack ∙ spare_is; activations = under_way }
