-- A process that waits for what another does: both sides find its alternative, and it can go on behind it.
use Rattle.std.proofs.Common.{◌≡◌, ℕ, suc, ◌+◌, ◌≤◌, ℤ, true, List, [], ◌∷◌, ◌++◌, length, take, Some, refl, sym, ap, ◌∙◌, subst, arith, length-append}
use Rattle.std.specs.Prelude.{is_some}
use Rattle.pfc_state.specs.Waits.{has_arm}
use Rattle.pfc_state.specs.declared.waits.Arm.{Arm as WaitArm}
use Rattle.pfc_world.specs.Partners.{ticket_open_to}
use Rattle.pfc_world.specs.Tables.{Table, at}
use Rattle.pfc_semantics.specs.Programs.{Program}
use Rattle.pfc_semantics.specs.Remainders.{Open}
use Rattle.pfc_semantics.specs.Store.{Store}
use Rattle.pfc_semantics.specs.Configurations.{Hand, Activation, Config, activity_of}
use Rattle.pfc_semantics.specs.Channels.{side_in, side_of}
use Rattle.pfc_stacks.specs.Refs.{word_of}
use Rattle.pfc_stacks.specs.Stacks.{stack_of, last_activation}
use Rattle.pfc_cells.specs.Homes.{Homes}
use Rattle.pfc_cells.specs.Memory.{Entry, Entries}
use Rattle.pfc_machines.specs.declared.machine.Machine.{Machine}
use Rattle.pfc_machines.specs.declared.descriptors.Descriptor.{Descriptor}
use Rattle.pfc_machines.specs.declared.alternatives.Alternative.{Alternative}
use Rattle.pfc_machines.specs.declared.alternatives.KeptAlternative.{KeptAlternative}
use Rattle.pfc_machines.specs.Communications.{Communicating}
use Rattle.pfc_machines.specs.Descriptors.{descriptor_of}
use Rattle.pfc_machines.specs.Offers.{arms_of, kept_under}
use Rattle.pfc_machines.specs.Partners.{open_to, IsOffering}
use Rattle.pfc_standing_code.specs.Effects.{Arm}
use Rattle.pfc_standing_code.specs.Settings.{Setting, of_own, site_of}
use Rattle.pfc_standing_code.specs.Performs.{AreOpen}
use Rattle.pfc_representation.specs.Levels.{Facts, program_in, LivingLevel}
use Rattle.pfc_representation.specs.Callers.{AreCallers}
use Rattle.pfc_representation.specs.Alternatives.{AreMade, none_made, one_made}
use Rattle.pfc_representation.specs.Holding.{holders_in}
use Rattle.pfc_representation.specs.Processes.{RepresentsProcess}
use Rattle.pfc_representation.specs.Acting.{IsActing}
use Rattle.pfc_kept_messages.proofs.Made.{AreKeptArms, kept_arms, arms_kept}
use Rattle.pfc_kept_messages.proofs.Sight.{channel_number}
use Rattle.pfc_kept_messages.proofs.Found.{offered_has, Found, found}
use Rattle.pfc_kept_messages.proofs.Partner.{is_open_stand, open_stand, IsShowing, showing_it}
use Rattle.pfc_kept_messages.proofs.Meeting.{apart, is_process}

-- ## What it has made

pub record Makes (level : LivingLevel) (latest : Communicating) : Type 0 where
  pub depth : ℕ
  pub alternatives : List Alternative
  pub words : List ℤ
  pub made : AreMade depth alternatives words level.arms latest.alternatives latest.words

makes_all : (facts : Facts) (homes : Homes) (entries : Entries) (store : Store) (table : Table) (q room : ℕ) (level : LivingLevel) (w : ℤ)
    (latest : Communicating) (xs : List Activation) (es : List Entry)
    → AreCallers facts homes entries store table q room level w latest xs es → Makes level latest
makes_all facts homes entries store table q room level w latest [] es is = absurd is
makes_all facts homes entries store table q room level w latest (a ∷ xs) [] is = absurd is
makes_all facts homes entries store table q room level w latest (a ∷ []) (e ∷ []) is = record { depth = 1; alternatives = []; words = []; made = is.made.2 }
makes_all facts homes entries store table q room level w latest (a ∷ []) (e ∷ f ∷ es) is = absurd is
makes_all facts homes entries store table q room level w latest (a ∷ b ∷ xs) (e ∷ []) is = absurd is
makes_all facts homes entries store table q room level w latest (a ∷ b ∷ xs) (e ∷ f ∷ es) (outer, v, earlier, called, within, others) =
    record { depth = length (a ∷ b ∷ xs); alternatives = earlier.alternatives; words = earlier.words; made = called.made.2 }

-- as many as the machine has at the least
made_count : (depth : ℕ) (alternatives : List Alternative) (words : List ℤ) (arms : List Arm) (latest : List Alternative) (ws : List ℤ)
    → AreMade depth alternatives words arms latest ws → length arms ≤ length latest
made_count depth alternatives words _ _ _ none_made = least (length alternatives)
  where
    least : (n : ℕ) → 0 ≤ n
    least n = grind arith
made_count depth alternatives words _ _ _ (one_made arms before ws arm a message made is) =
    more (length arms) (length before) (length (arms ++ arm ∷ [])) (length-append arms (arm ∷ [])) (made_count depth alternatives words arms before ws made)
  where
    more : (n k j : ℕ) → j ≡ n + 1 → n ≤ k → j ≤ suc k
    more n k j same h = grind (arith, same, h)

open_length : (g : Setting) (s : _) (held : ℕ) (os : List Open) (arms : List Arm) (behind : ℕ → Type 0) → AreOpen g s held os arms behind
    → length os ≡ length arms
open_length g s held [] [] behind is = refl
open_length g s held [] (arm ∷ arms) behind is = absurd is
open_length g s held (o ∷ os) [] behind is = absurd is
open_length g s held (o ∷ os) (arm ∷ arms) behind is = ap (λ n. suc n) (open_length g s held os arms behind is.1)

-- ## Both sides

module _ (facts : Facts) (m : Machine) (c : Config) (p : ℕ) (level : LivingLevel) (acting : IsActing facts m c p level) (own : level.setting.trial ≡ of_own)
    (q : ℕ) (want : WaitArm)
    (ticket : is_some (ticket_open_to want (at c.table.rows q)) ≡ true) where
  abbrev pub g : Program
  g = program_in facts

  abbrev pub d : Descriptor
  d = descriptor_of m.descriptors q

  pub waits : is_open_stand (at c.table.rows q) ≡ true
  waits = open_stand want (at c.table.rows q) ticket

  pub process : RepresentsProcess facts acting.homes acting.entries c.store m.stacks c.table (holders_in facts c) q (activity_of g c q) d
  process = acting.others q (is_process facts m c p level acting own q waits) (apart facts m c p level acting own q waits)

  pub shows : IsShowing facts acting.homes acting.entries c.store m.stacks c.table (holders_in facts c) q (activity_of g c q) d waits
  shows = showing_it facts acting.homes acting.entries c.store m.stacks c.table (holders_in facts c) q (activity_of g c q) d waits process

  abbrev pub its_level : LivingLevel
  its_level = shows.under_way.level

  abbrev pub its_operands : List ℤ
  its_operands = (stack_of m.stacks q).operands

  abbrev pub kept_ones : List KeptAlternative
  kept_ones = kept_under 0 (take d.offered d.communications.alternatives)

  pub makes : Makes its_level d.communications
  makes =
      makes_all facts acting.homes acting.entries c.store c.table q (stack_of m.stacks q).room its_level (word_of (last_activation m.stacks q)) d.communications
      (activity_of g c q).activations (acting.entries q) shows.under_way.stands.callers

  -- all that it has made it offers
  pub offers_all : d.offered ≡ length its_level.arms
  offers_all =
      shows.offers.count
      ∙ open_length its_level.setting (site_of its_level.setting shows.offers.block shows.context)
      (length its_operands) shows.opened its_level.arms _ shows.offers.open_ones

  pub is_offering : IsOffering m q
  is_offering =
      subst (λ n. n ≤ length d.communications.alternatives) (sym offers_all)
      (made_count makes.depth makes.alternatives makes.words its_level.arms d.communications.alternatives d.communications.words makes.made)

  abbrev pub FoundThere : Type 0
  FoundThere =
      Found c q g its_level.setting shows.offers.block shows.context
      (λ v t u n is object. let k =
      channel_number facts m c acting.homes acting.entries acting.alike q d its_level shows.under_way.stands shows.offers.own shows.offers.block
      shows.context v t u n
      shows.offers.checked is object in k.word ∙ sym k.spot)
      facts makes.depth d.communications.words its_operands shows.left want shows.opened its_level.arms kept_ones

  pub found_there : FoundThere
  found_there =
      found c q g its_level.setting shows.offers.block shows.context
      (λ v t u n is object. let k =
      channel_number facts m c acting.homes acting.entries acting.alike q d its_level shows.under_way.stands shows.offers.own shows.offers.block
      shows.context v t u n
      shows.offers.checked is object in k.word ∙ sym k.spot)
      facts makes.depth d.communications.words its_operands shows.left want shows.opened its_level.arms kept_ones shows.offers.open_ones
      (subst (λ n. AreKeptArms makes.depth d.communications.words its_level.arms (kept_under 0 (take n d.communications.alternatives))) (sym offers_all)
      (kept_arms makes.depth makes.alternatives makes.words its_level.arms d.communications.alternatives d.communications.words makes.made 0
      d.communications.words refl (grind arith)))
      shows.offers.behind
      (ap (λ (ws : List WaitArm). has_arm want ws) (sym (arms_kept 0 (take d.offered d.communications.alternatives)))
      ∙ offered_has want (at c.table.rows q) shows.opened (arms_of (take d.offered d.communications.alternatives)) shows.offers.offered ticket)

  pub in_machine : open_to m q want ≡ Some found_there.kept
  in_machine = found_there.in_machine

  pub in_text : side_of g c q want ≡ Some (record { context = shows.context; at = found_there.o; left = shows.left })
  in_text = ap (λ (hand : Hand). side_in g c q want hand) shows.hand ∙ found_there.in_text
