-- A process that offers nothing begins a meeting with a caller that waits, and goes on at the accept's statement: both sides come to the same.
use Rattle.std.proofs.Common.{◌≡◌, ℕ, ◌≤◌, ℤ, true, List, [], length, reverse, set, Option, Some, Ok, sym, ap, ap₂, ◌∙◌, subst}
use Rattle.std.proofs.lemmas.List.{reverse-reverse}
use Rattle.pfc_world.specs.Partners.{caller}
use Rattle.pfc_world.specs.Rendezvous as table
use Rattle.pfc_world.specs.Tables.{Table}
use Rattle.pfc_world.specs.Transitions.{rested}
use Rattle.pfc_semantics.specs.Displays.{Frame, frame_of}
use Rattle.pfc_semantics.specs.Values.{Value}
use Rattle.pfc_semantics.specs.Programs.{Block, Program}
use Rattle.pfc_semantics.specs.Remainders.{Context, Accepting, Open, Remainder}
use Rattle.pfc_semantics.specs.Rendezvous.{taken_from, asked, accepts_from}
use Rattle.pfc_semantics.specs.Store.{Store, values_in, with_values}
use Rattle.pfc_semantics.specs.Configurations.{Config, Hand, activity_of, with_table}
use Rattle.pfc_translation.specs.Sites.{is_accept}
use Rattle.pfc_translation.specs.Selects.{accept_cell, accept_cells}
use Rattle.pfc_stacks.specs.Stacks.{Stacks, stack_of, operands_of, written}
use Rattle.pfc_machines.specs.declared.machine.Machine.{Machine}
use Rattle.pfc_machines.specs.declared.descriptors.Descriptor.{Descriptor}
use Rattle.pfc_machines.specs.Descriptors.{descriptor_of, meeting}
use Rattle.pfc_meeting_actions.specs.Meetings.{parameter_cell, arguments_taken}
use Rattle.pfc_machine_acts.specs.Performing.{silent}
use Rattle.pfc_standing_code.specs.Settings.{of_own, site_of}
use Rattle.pfc_standing_code.specs.TypedStatements.{AcceptsEntry}
use Rattle.pfc_standing_code.specs.Words.{IsChecked}
use Rattle.pfc_standing_code.specs.Performs.{Performs}
use Rattle.pfc_following_source.specs.Behind.{BehindAccept}
use Rattle.pfc_representation.specs.Levels.{Facts, program_in, LivingLevel}
use Rattle.pfc_representation.specs.Callers.{IsWithin}
use Rattle.pfc_representation.specs.Machines.{machine_table}
use Rattle.pfc_representation.specs.Acting.{IsActing}
use Rattle.pfc_representation.specs.Actions.{ComeToSame}
use Rattle.pfc_kept_messages.proofs.Whole.{comes_then}
use Rattle.pfc_kept_meetings.specs.Owners.{HasTypedEntries}
use Rattle.pfc_kept_meetings.specs.Accepts.{HasProcesses, KeepsAccepts}
use Rattle.pfc_kept_meetings.proofs.Apart.{AreApart}
use Rattle.pfc_kept_meetings.proofs.Giving as giving
use Rattle.pfc_kept_meetings.proofs.Meets as meets
use Rattle.pfc_kept_meetings.proofs.Together as together
use Rattle.pfc_kept_meetings.proofs.Together.{begins_behind}
use Rattle.pfc_kept_meetings.proofs.entries.Orders.{stacks_same}

module _ (facts : Facts) (m : Machine) (c : Config) (p : ℕ) (level : LivingLevel) (acting : IsActing facts m c p level) (own : level.setting.trial ≡ of_own)
    (b : Block) (x : Context) (checked : IsChecked level.setting b x.env) (acc : Accepting)
    (accepts : AcceptsEntry level.setting.program.state.blocks b.scope acc.entry acc.scope) (processes : HasProcesses facts.tree)
    (typed : HasTypedEntries facts.tree) (runs : KeepsAccepts facts c) (of_block : is_accept b acc.scope ≡ true)
    (apart : AreApart b acc.scope level.setting.accepts) (q : ℕ) (is_first : caller c.table.rows p acc.entry ≡ Some q) (to : ℕ)
    (o : Open) (k : Remainder) (line end : ℕ) (rest : Performs level.setting b x.env end (operands_of m.stacks p) [] k)
    (behind : BehindAccept level.setting b to (operands_of m.stacks p) x acc o k) (few : length (operands_of m.stacks p) ≤ level.setting.room)
    (arms : length level.arms ≤ level.setting.arms) (none : level.arms ≡ [])
    (within : IsWithin facts level to (descriptor_of m.descriptors p).communications) where
  abbrev g : Program
  g = program_in facts

  abbrev d : Descriptor
  d = descriptor_of m.descriptors p

  abbrev ops : List ℤ
  ops = operands_of m.stacks p

  abbrev cell : ℕ
  cell = accept_cell (site_of level.setting b x) acc.scope

  abbrev size : ℕ
  size = accept_cells (site_of level.setting b x) acc.scope

  abbrev words : List ℤ
  words = meets.words facts m c p level acting own b x checked acc accepts processes typed runs of_block apart q is_first to ops

  abbrev below : List ℤ
  below = meets.below facts m c p level acting own b x checked acc accepts processes typed runs of_block apart q is_first to ops

  abbrev new_stacks : Stacks
  new_stacks = meets.stacks' facts m c p level acting own b x checked acc accepts processes typed runs of_block apart q is_first to ops

  abbrev new_store : Store
  new_store = meets.new_store facts m c p level acting own b x checked acc accepts processes typed runs of_block apart q is_first to ops

  -- ## The stacks

  abbrev goes_to : Stacks → Stacks
  goes_to stacks = set stacks p (record (stack_of stacks p) { at = to })

  taken_are : arguments_taken m.stacks p cell size q
      ≡ (let wrote = written m.stacks (parameter_cell p cell) words in set wrote q (record (stack_of wrote q) { operands = below }))
  taken_are =
      ap₂
      (λ (ws left : List ℤ). set (written m.stacks (parameter_cell p cell) ws) q
      (record (stack_of (written m.stacks (parameter_cell p cell) ws) q) { operands = left }))
      (ap (λ (ws : List ℤ). reverse ws) (meets.over facts m c p level acting own b x checked acc accepts processes typed runs of_block apart q is_first to
      ops).top ∙ reverse-reverse words) (meets.over facts m c p level acting own b x checked acc accepts processes typed runs of_block apart q is_first to
      ops).rest

  stacks_are : goes_to (arguments_taken m.stacks p cell size q) ≡ new_stacks
  stacks_are =
      ap (λ (ss : Stacks). goes_to ss) taken_are
      ∙ stacks_same m.stacks p q to (parameter_cell p cell).cell words below (meets.off facts m c p level acting own b x checked acc accepts processes typed
      runs of_block apart q is_first to ops) (meets.p_there facts m c p level acting own b x checked acc accepts processes typed runs of_block apart q is_first
      to ops)

  -- ## The store and the table

  abbrev store_then : Store
  store_then =
      let f = frame_of (activity_of g c p).display acc.scope in
      with_values c.store f.activation (taken_from f.first (asked (activity_of g c q).hand) (values_in c.store f.activation))

  store_is : store_then ≡ new_store
  store_is =
      ap₂ (λ (f : Frame) (args : List Value). with_values c.store f.activation (taken_from f.first args (values_in c.store f.activation)))
      (giving.frame_is facts m c acting.homes acting.entries acting.alike p level acting.actor.stands own acting.actor.process processes b x checked acc
      accepts typed runs of_block) (ap (λ (h : Hand). asked h) (meets.asking_so facts m c p level acting own b x checked acc accepts processes typed runs
      of_block apart q is_first to ops).hand)

  world_is : rested (table.taken m.world p q) ≡ machine_table facts (table.taken c.table p q)
  world_is =
      ap (λ (y : Table). rested (table.taken y p q)) acting.world
      ∙ ap (λ (who : Option ℕ). record (machine_table facts (table.taken c.table p q)) { acting = who }) (sym acting.alike.between.acting)

  -- ## Both sides

  abbrev machine_then : Stacks → Machine
  machine_then stacks = record m { stacks = stacks; descriptors = set m.descriptors p (meeting q d); world = rested (table.taken m.world p q) }

  abbrev source_then : Store → Config
  source_then store =
      record c {
        activities = together.activities facts m c p level acting own b x checked acc accepts processes typed runs of_block apart q is_first to ops o k line
            end rest behind few arms none within;
        store = store;
        table = table.taken c.table p q;
      }

  both : ComeToSame facts m c p line (silent (Ok (machine_then new_stacks))) (Ok (source_then new_store))
  both =
      comes_then facts m c p level acting line (together.activities facts m c p level acting own b x checked acc accepts processes typed runs of_block apart q
      is_first to ops o k line end rest behind few arms none within) (together.descriptors facts m c p level acting own b x checked acc accepts processes
      typed runs of_block apart q is_first to ops o k line end rest behind few arms none within) new_store new_stacks (table.taken c.table p q)
      (begins_behind facts m c p level acting own b x checked acc accepts processes typed runs of_block apart q is_first to ops o k line end rest behind few
      arms none within) (rested (table.taken m.world p q)) world_is

  -- the owner takes the arguments, and then goes to the branch
  pub begun_same : ComeToSame facts m c p line (silent (Ok (machine_then (goes_to (arguments_taken m.stacks p cell size q)))))
      (Ok (with_table (accepts_from g c p x acc o q k) (table.taken c.table p q)))
  begun_same =
      subst
      (λ (ss : Stacks). ComeToSame facts m c p line (silent (Ok (machine_then ss)))
      (Ok (with_table (accepts_from g c p x acc o q k) (table.taken c.table p q))))
      (sym stacks_are)
      (subst (λ (s : Store). ComeToSame facts m c p line (silent (Ok (machine_then new_stacks))) (Ok (source_then s))) (sym store_is) both)
