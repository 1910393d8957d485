-- A message is written, and the process that decides and its partner both go on.
use Rattle.std.proofs.Common.{◌≡◌, ℕ, ◌<◌, ℤ, true, List, [], length, set, Ok, refl, sym, ap, ◌∙◌, subst}
use Rattle.std.proofs.lemmas.List.{length-set}
use Rattle.pfc_state.specs.Stands.{Is_ready}
use Rattle.pfc_world.specs.Tables.{Table, at}
use Rattle.pfc_world.specs.Transitions.{rested, placed, ticked}
use Rattle.pfc_semantics.specs.Rewriting.{Doing}
use Rattle.pfc_semantics.specs.Store.{Store}
use Rattle.pfc_semantics.specs.Configurations.{empty_hand, Activity, Config, activity_of, at_work}
use Rattle.pfc_stacks.specs.declared.refs.Ref.{Ref}
use Rattle.pfc_stacks.specs.Stacks.{Stack, Stacks, stack_of, operands_of, written}
use Rattle.pfc_machines.specs.declared.machine.Machine.{Machine}
use Rattle.pfc_machines.specs.Communications.{Communicating}
use Rattle.pfc_machines.specs.Descriptors.{descriptor_of, withdrawn}
use Rattle.pfc_machine_acts.specs.Performing.{silent}
use Rattle.pfc_standing_code.specs.Settings.{of_own}
use Rattle.pfc_representation.specs.Levels.{Facts, program_in, LivingLevel}
use Rattle.pfc_representation.specs.Holding.{holders_in}
use Rattle.pfc_representation.specs.Keeping.{IsSameStack}
use Rattle.pfc_representation.specs.Processes.{RepresentsProcess}
use Rattle.pfc_representation.specs.Machines.{machine_table}
use Rattle.pfc_representation.specs.Acting.{IsActing}
use Rattle.pfc_representation.specs.Actions.{ComeToSame}
use Rattle.pfc_kept_own_actions.proofs.Arrived.{stack_there}
use Rattle.pfc_kept_messages.proofs.Sight.{StillHolds}
use Rattle.pfc_kept_messages.proofs.Stacks.{written_same, changed_alike, put_alike, changed_cells, holds_alike}
use Rattle.pfc_kept_messages.proofs.Partner.{is_open_stand}
use Rattle.pfc_kept_messages.proofs.Meeting.{q_there, base}
use Rattle.pfc_kept_messages.proofs.Whole.{comes_then}
use Rattle.pfc_kept_meetings.proofs.selects.Alone.{DecidesAlone}
use Rattle.pfc_kept_meetings.proofs.selects.Meets as both
use Rattle.pfc_kept_meetings.proofs.selects.Meets.{meets_behind}

module _ (facts : Facts) (m : Machine) (c : Config) (p : ℕ) (level : LivingLevel) (acting : IsActing facts m c p level) (own : level.setting.trial ≡ of_own)
    (q : ℕ) (waits : is_open_stand (at c.table.rows q) ≡ true) (latest : Communicating) (to : ℕ) (doing : Doing) (line : ℕ)
    (alone : DecidesAlone facts m c p level acting own [] latest (descriptor_of m.descriptors p).offered c.table to doing empty_hand line) (branch : ℕ)
    (r : Ref) (words : List ℤ) (store' : Store) (passes : StillHolds facts acting.homes acting.entries c.store store' (written m.stacks r words))
    (doing_q : Doing)
    (behind : RepresentsProcess facts acting.homes acting.entries c.store (set m.stacks q (record (stack_of m.stacks q) { at = branch }))
    (ticked (placed c.table q Is_ready)) (holders_in facts c) q (at_work (activity_of (program_in facts) c q) doing_q)
    (withdrawn (descriptor_of m.descriptors q))) where
  abbrev left : List ℤ
  left = operands_of m.stacks p

  abbrev wrote : Stacks
  wrote = written m.stacks r words

  abbrev decided_on : Stacks → Stacks
  decided_on stacks = set stacks p (record (stack_of stacks p) { at = to })

  abbrev pub stacks' : Stacks
  stacks' = let gone = decided_on wrote in set gone q (record (stack_of gone q) { at = branch })

  p_there : p < length m.stacks
  p_there = stack_there facts m c p level acting

  q_in : q < length m.stacks
  q_in = q_there facts m c p level acting own q waits to left branch

  wrote_size : length wrote ≡ length m.stacks
  wrote_size = length-set m.stacks r.process _

  decided_size : (stacks : Stacks) → length (decided_on stacks) ≡ length stacks
  decided_size stacks = length-set stacks p (record (stack_of stacks p) { at = to })

  pub size : length stacks' ≡ length m.stacks
  size = length-set (decided_on wrote) q _ ∙ decided_size wrote ∙ wrote_size

  pub same_places : (i : ℕ) → IsSameStack (stack_of (base facts m c p level acting own q waits to left branch) i) (stack_of stacks' i)
  same_places i =
      changed_alike (decided_on m.stacks) (decided_on wrote) q (λ (s : Stack). record s { at = branch }) (put_alike branch)
      (subst (λ n. q < n) (sym (decided_size m.stacks)) q_in) (subst (λ n. q < n) (sym (decided_size wrote ∙ wrote_size)) q_in)
      (changed_alike m.stacks wrote p (λ (s : Stack). record s { at = to }) (put_alike to) p_there
      (subst (λ n. p < n) (sym wrote_size) p_there)
      (written_same m.stacks r words)) i

  pub holds : StillHolds facts acting.homes acting.entries c.store store' stacks'
  holds =
      holds_alike facts acting.homes acting.entries c.store store' wrote stacks'
      (λ i. changed_cells (decided_on wrote) q (λ (s : Stack). record s { at = branch }) (λ s. refl)
      (subst (λ n. q < n) (sym (decided_size wrote ∙ wrote_size)) q_in) i
      ∙ changed_cells wrote p (λ (s : Stack). record s { at = to }) (λ s. refl) (subst (λ n. p < n) (sym wrote_size) p_there) i)
      (length-set (decided_on wrote) q _ ∙ decided_size wrote) passes

  abbrev pub activities : List Activity
  activities =
      both.activities facts m c p level acting own q waits latest to doing line alone branch store' stacks' size same_places holds doing_q behind

  abbrev table : Table
  table = placed c.table q Is_ready

  pub both_go : ComeToSame facts m c p line
      (silent (Ok (record m {
        stacks = stacks';
        descriptors =
            both.descriptors facts m c p level acting own q waits latest to doing line alone branch store' stacks' size same_places holds doing_q behind;
        world = rested (placed m.world q Is_ready);
      })))
      (Ok (record c { activities = activities; store = store'; table = table }))
  both_go =
      comes_then facts m c p level acting line activities
      (both.descriptors facts m c p level acting own q waits latest to doing line alone branch store' stacks' size same_places holds doing_q behind)
      store' stacks' table
      (meets_behind facts m c p level acting own q waits latest to doing line alone branch store' stacks' size same_places holds doing_q behind)
      (rested (placed m.world q Is_ready))
      (ap (λ (y : Table). rested (placed y q Is_ready)) acting.world
      ∙ ap (λ who. record (machine_table facts table) { acting = who }) (sym acting.alike.between.acting))
