-- The instruction of a select may be performed, and is its decision.
use Rattle.std.proofs.Common.{◌≡◌, ℕ, ◌^◌, ◌<◌, ◌≤◌, ℤ, Bool, true, false, if◌then◌else◌, List, [], length, refl, sym, ap, ◌∙◌, subst, arith}
use Rattle.pfc_code.specs.declared.instructions.Instr.TheVariants.{SEL}
use Rattle.pfc_world.specs.Tables.{Table}
use Rattle.pfc_semantics.specs.Programs.{Block, Program}
use Rattle.pfc_semantics.specs.Remainders.{Context, Selecting, Remainder, decides}
use Rattle.pfc_semantics.specs.Configurations.{Config}
use Rattle.pfc_semantics.specs.Selects as text
use Rattle.pfc_semantics.specs.Selects.{decides_at}
use Rattle.pfc_translation.specs.Images.{image_of}
use Rattle.pfc_image_alternatives.proofs.Images.{few_in_image}
use Rattle.pfc_stacks.specs.Stacks.{stack_of, operands_of}
use Rattle.pfc_machines.specs.declared.machine.Machine.{Machine}
use Rattle.pfc_select_actions.specs.Conditions.{CanOffer, CanTakeAt}
use Rattle.pfc_select_actions.specs.Selects as machine
use Rattle.pfc_select_actions.specs.Selects.{open_count, open_arms, matched_places}
use Rattle.pfc_machine_acts.specs.Performing.{silent}
use Rattle.pfc_standing_code.specs.Settings.{of_own}
use Rattle.pfc_standing_code.specs.Words.{IsChecked}
use Rattle.pfc_standing_code.specs.Following.{ArrivedBy}
use Rattle.pfc_following_source.specs.Behind.{BehindElse, BehindAll}
use Rattle.pfc_following_source.proofs.Behind.{leads_on}
use Rattle.pfc_representation.specs.Levels.{Facts, program_in, LivingLevel}
use Rattle.pfc_representation.specs.Acting.{IsActing, HasArrived}
use Rattle.pfc_representation.specs.Actions.{ComeToSame, IsKept}
use Rattle.pfc_kept_own_actions.proofs.Alone.{can_go}
use Rattle.pfc_kept_own_actions.proofs.Arrived.{has_setting, stack_there, code_there, code_line, acts_now}
use Rattle.pfc_kept_meetings.proofs.selects.Both as both
use Rattle.pfc_kept_meetings.proofs.selects.Otherwise.{Decides, decides_so}

module _ (facts : Facts) (m : Machine) (c : Config) (p choice : ℕ) (level : LivingLevel) (x : Context) (sel : Selecting) (k : Remainder)
    (acting : IsActing facts m c p level) (arrived : HasArrived facts m c p level (decides x sel k)) (own : level.setting.trial ≡ of_own) (b : Block)
    (checked : IsChecked level.setting b x.env)
    (by : ArrivedBy level.setting b (stack_of m.stacks p).at (operands_of m.stacks p) level.arms (decides x sel k)) where
  abbrev here : ℕ
  here = (stack_of m.stacks p).at

  abbrev ops : List ℤ
  ops = operands_of m.stacks p

  abbrev g : Program
  g = program_in facts

  pub leads : BehindElse level.setting b here ops x sel.otherwise k × BehindAll level.setting b ops x sel.offered level.arms k
  leads = leads_on level.setting b here (decides x sel k) ops level.arms arrived.room checked by

  pub its : Decides facts m c p level acting own b x checked sel k by.1.1 leads.1 arrived.arms arrived.within arrived.room
  its = decides_so facts m c p level acting own b x checked sel k by.1.1 leads.1 arrived.arms arrived.within arrived.room by.1.0 leads.0

  pub matched_same : matched_places m p ≡ text.matched_places g c p sel
  matched_same = both.matched_are facts m c p level acting own b x checked sel.offered k by.1.1

  choices_same : machine.choices its.mark p m ≡ (if sel.pri then 0 else length (text.matched_places g c p sel))
  choices_same = ap (λ n. machine.choices n p m) its.mark_is ∙ by_mark sel.pri
    where
      by_mark : (pri : Bool) → machine.choices (if pri then 1 else 0) p m ≡ (if pri then 0 else length (text.matched_places g c p sel))
      by_mark true = refl
      by_mark false = ap (λ (places : List ℕ). length places) matched_same

  -- a static rule has each select have few alternatives
  few : (image_of facts.tree).arms < 2 ^ 32
  few = below (image_of facts.tree).arms (few_in_image facts.tree acting.alike.program.lawful acting.alike.program.unbroken)
    where
      below : (n : ℕ) → n ≤ 1024 → n < 2 ^ 32
      below n h = omega (arith, h)

  -- it may offer all that it has made
  fits : length (open_arms m p) ≤ (image_of facts.tree).arms
  fits = both.few_open facts m c p level acting own b x checked sel.offered k by.1.1 arrived.arms

  pub may_offer : CanOffer p m
  may_offer =
      let now = acts_now facts m c p level acting (SEL its.mark its.other) x.line its.there in
      record {
        acts = now.acts;
        fresh = now.fresh;
        moment = now.moment;
        arms = less (length (open_arms m p)) (image_of facts.tree).arms fits few;
        room = subst (λ (w : Table). length (open_arms m p) ≤ w.room) (sym acting.world) fits;
      }
    where
      less : (i j : ℕ) → i ≤ j → j < 2 ^ 32 → i < 2 ^ 32
      less i j h l = omega (arith, h, l)

  count_few : open_count m p < 2 ^ 32
  count_few =
      subst (λ n. n < 2 ^ 32) (sym (both.count_is facts m c p level acting own b x checked sel.offered k))
      (less (length level.arms) level.setting.arms arrived.arms (subst (λ n. n < 2 ^ 32) (sym (has_setting facts m c p level acting).arms) few))
    where
      less : (i j : ℕ) → i ≤ j → j < 2 ^ 32 → i < 2 ^ 32
      less i j h l = omega (arith, h, l)

  -- where both sides come to the same
  pub decides_kept : (0 < length (matched_places m p) → CanTakeAt (machine.place_taken its.mark choice) p m)
      → ComeToSame facts m c p x.line (silent (machine.decides its.mark its.other choice p m)) (decides_at g c p x sel k choice)
      → IsKept facts m c p choice (decides x sel k)
  decides_kept taken same =
      record {
        instr = SEL its.mark its.other;
        is = code_there facts m c p level acting here (SEL its.mark its.other) x.line its.there;
        can_step = record {
          stack = stack_there facts m c p level acting;
          performed = record { held = grind arith; room = grind arith; reach = tt };
          goes = λ outward. can_go facts m c p level acting (SEL its.mark its.other) x.line its.there refl (least (length ops)) arrived.within;
        };
        no_move = tt;
        can_do = record {
          acting = acts_now facts m c p level acting (SEL its.mark its.other) x.line its.there;
          can = record { offer = may_offer; few = count_few; taken = taken };
        };
        line = code_line facts m c p level acting here (SEL its.mark its.other) x.line its.there;
        choices = choices_same;
        same = same;
      }
    where
      least : (n : ℕ) → 0 ≤ n
      least n = grind arith

  -- ## Nothing is matched

  pub unmatched_kept : text.matched_places g c p sel ≡ [] → IsKept facts m c p choice (decides x sel k)
  unmatched_kept none =
      let nobody : matched_places m p ≡ [] = matched_same ∙ none in
      decides_kept (λ some. absurd (no_place (length (matched_places m p)) (ap (λ (places : List ℕ). length places) nobody) some))
      (subst (λ (places : List ℕ). ComeToSame facts m c p x.line (silent (machine.decides_by places its.mark its.other choice p m))
      (decides_at g c p x sel k choice)) (sym nobody)
      (subst (λ (places : List ℕ). ComeToSame facts m c p x.line (silent (machine.decides_by [] its.mark its.other choice p m))
      (text.decides_by g c p x sel k choice places)) (sym none) (its.same by.1.2)))
    where
      no_place : (n : ℕ) → n ≡ 0 → 0 < n → ⊥
      no_place n h less = grind (arith, h, less)

-- where no alternative is matched
pub unmatched_are_kept : (facts : Facts) (m : Machine) (c : Config) (p choice : ℕ) (level : LivingLevel) (x : Context) (sel : Selecting) (k : Remainder)
    → text.matched_places (program_in facts) c p sel ≡ []
    → IsActing facts m c p level → HasArrived facts m c p level (decides x sel k) → IsKept facts m c p choice (decides x sel k)
unmatched_are_kept facts m c p choice level x sel k none acting arrived =
    let (b, checked, by) = arrived.arrived in unmatched_kept facts m c p choice level x sel k acting arrived by.0 b checked by none
