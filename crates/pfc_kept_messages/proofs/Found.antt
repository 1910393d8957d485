-- What both sides find of a process that waits: the first of its alternatives that is open to another's communication.
use Rattle.std.proofs.Common.{◌≡◌, ℕ, zero, suc, ◌<◌, ◌==◌, cond, ℤ, Bool, true, false, ◌||◌, if◌then◌else◌, List, [], ◌∷◌, ◌++◌, length, reverse, Option, Some}
use Rattle.std.proofs.Common.{None, refl, sym, ap, ◌∙◌, subst, arith}
use Rattle.std.proofs.lemmas.List.{same_from_push}
use Rattle.std.specs.Prelude.{is_some}
use Rattle.pfc_code.specs.declared.instructions.Instr.{Instr}
use Rattle.pfc_code.specs.declared.instructions.Instr.TheVariants.{ARMS, ARMR}
use Rattle.pfc_state.specs.Stands.{Stand, Waits}
use Rattle.pfc_state.specs.Waits.{has_arm}
use Rattle.pfc_state.specs.declared.waits.Why.TheVariants.{Select}
use Rattle.pfc_state.specs.declared.waits.Arm.{Arm as WaitArm}
use Rattle.pfc_state.specs.declared.waits.Arm.TheVariants.{Send as To, Receive as From, Accept as Entered}
use Rattle.pfc_world.specs.Partners.{plain_wait, or_else, ticket_open_to}
use Rattle.pfc_types.specs.declared.types.TypeId.{TypeId}
use Rattle.pfc_semantics.specs.Displays.{Spot}
use Rattle.pfc_semantics.specs.Values.{Value}
use Rattle.pfc_semantics.specs.Programs.{Block, Program}
use Rattle.pfc_semantics.specs.Remainders.{Context, Offer, Open, Remainder, to_send, to_receive, to_accept, to_wait, to_end}
use Rattle.pfc_semantics.specs.Configurations.{Config, number_for}
use Rattle.pfc_semantics.specs.Channels as text
use Rattle.pfc_semantics.specs.Channels.{first_open}
use Rattle.pfc_stacks.specs.Refs.{number_of}
use Rattle.pfc_machines.specs.declared.alternatives.Alternative.{Alternative}
use Rattle.pfc_machines.specs.declared.alternatives.KeptAlternative.{KeptAlternative}
use Rattle.pfc_machines.specs.declared.alternatives.Sought.TheVariants.{OpenTo}
use Rattle.pfc_machines.specs.Offers.{arm_of, listed_arm, is_arm, first_sought}
use Rattle.pfc_cells.specs.Shapes.{words_of}
use Rattle.pfc_standing_code.specs.Effects.{Arm}
use Rattle.pfc_standing_code.specs.Settings.{Setting, site_of}
use Rattle.pfc_standing_code.specs.Performs.{IsSent, of_message, of_signal, IsReceived, into_variable, into_nothing, IsOpen, AreOpen, Performs}
use Rattle.pfc_standing_code.specs.TypedStatements.{IsChannel}
use Rattle.pfc_standing_code.specs.Words.{IsObject}
use Rattle.pfc_following_source.specs.Behind.{branch_of, BehindOpen, BehindAll}
use Rattle.pfc_representation.specs.Levels.{Facts}
use Rattle.pfc_representation.specs.Rooms.{LeadsWithin, LeadWithin}
use Rattle.pfc_representation.specs.Alternatives.{IsMadeBy}
use Rattle.pfc_representation.specs.Hands.{IsOffered, is_woken, waits_plainly, waits_selecting}
use Rattle.pfc_kept_messages.proofs.Made.{IsKeptArm, AreKeptArms, arms_in}

-- ## That there is one

found_plainly : (b : Bool) (t : ℕ) → is_some (or_else (if b then Some t else None) None) ≡ true → (b || false) ≡ true
found_plainly true t h = refl
found_plainly false t h = h

found_selecting : (b : Bool) (t : ℕ) → is_some (or_else None (if b then Some t else None)) ≡ true → b ≡ true
found_selecting true t h = refl
found_selecting false t h = h

plainly_has : (want w : WaitArm) (t : ℕ) → is_some (ticket_open_to want (Waits (plain_wait w) t [])) ≡ true → has_arm want (w ∷ []) ≡ true
plainly_has (To c) (To e) t h = found_plainly (e == c) t h
plainly_has (To c) (From e) t h = h
plainly_has (To c) (Entered e) t h = h
plainly_has (From c) (To e) t h = h
plainly_has (From c) (From e) t h = found_plainly (e == c) t h
plainly_has (From c) (Entered e) t h = h
plainly_has (Entered c) (To e) t h = h
plainly_has (Entered c) (From e) t h = h
plainly_has (Entered c) (Entered e) t h = found_plainly (e == c) t h

selecting_has : (want : WaitArm) (due : Option ℕ) (ends : Bool) (t : ℕ) (arms : List WaitArm)
    → is_some (ticket_open_to want (Waits (Select due ends) t arms)) ≡ true
    → has_arm want arms ≡ true
selecting_has (To c) due ends t arms h = found_selecting (has_arm (To c) arms) t h
selecting_has (From c) due ends t arms h = found_selecting (has_arm (From c) arms) t h
selecting_has (Entered c) due ends t arms h = found_selecting (has_arm (Entered c) arms) t h

-- who waits so that it is met offers what the other wants
pub offered_has : (want : WaitArm) (s : Stand) (os : List Open) (arms : List WaitArm) → IsOffered s os arms → is_some (ticket_open_to want s) ≡ true
    → has_arm want arms ≡ true
offered_has want _ _ _ (is_woken os arms) h = absurd (let no : false ≡ true = h in cc)
offered_has want _ _ _ (waits_plainly o w t) h = plainly_has want w t h
offered_has want _ _ _ (waits_selecting os arms due t) h = selecting_has want due _ t arms h

-- ## One by one

snoc_same : (xs ys : List ℤ) (n k : ℤ) → xs ++ n ∷ [] ≡ ys ++ k ∷ [] → n ≡ k
snoc_same xs ys n k h = (same_from_push xs ys n k h).1

module _ (c : Config) (q : ℕ) (program : Program) (g : Setting) (b : Block) (x : Context)
    (number : (v : Spot) (t : Option TypeId) (u : TypeId) (n : ℤ) → IsChannel g.program.state.forms t u → IsObject g (site_of g b x) v t n
    → number_of n ≡ number_for program c q v) where
  sent_arm : (depth z to : ℕ) (ops words : List ℤ) (a : Alternative) (channel : Spot) (v : Value) → IsSent g (site_of g b x) channel v z ops
      → IsMadeBy depth (ARMS z to) ops a words
      → Some (To (number_for program c q channel)) ≡ arm_of a.offer
  sent_arm depth z to ops words a channel v (of_message t u n is object carried typed size held) by =
      let same : by.0 ≡ n = snoc_same words (reverse (words_of v)) by.0 n (sym by.1 ∙ held) in
      ap (λ j. Some (To j)) (sym (ap number_of same ∙ number channel t u n is object)) ∙ ap (λ (y : Alternative). arm_of y.offer) (sym by.3)
  sent_arm depth z to ops words a channel v (of_signal t u n is object signal value size held) by =
      let same : by.0 ≡ n = snoc_same words [] by.0 n (sym by.1 ∙ held) in
      ap (λ j. Some (To j)) (sym (ap number_of same ∙ number channel t u n is object)) ∙ ap (λ (y : Alternative). arm_of y.offer) (sym by.3)

  received_arm : (depth z to : ℕ) (ops words : List ℤ) (a : Alternative) (channel : Spot) (target : Option Spot)
      → IsReceived g (site_of g b x) channel z ops target
      → IsMadeBy depth (ARMR z to) ops a words → Some (From (number_for program c q channel)) ≡ arm_of a.offer
  received_arm depth zero to ops words a channel _ (into_variable t u n w target is object carried lies size held) by = absurd (no_cells _ size carried.0)
    where
      no_cells : (z : ℕ) → 0 ≡ z → 0 < z → ⊥
      no_cells z same less = grind (arith, same, less)
  received_arm depth (suc z) to ops words a channel _ (into_variable t u n w target is object carried lies size held) by =
      let made = by.1 in
      let both : made.1 ∷ made.0 ∷ [] ≡ w ∷ n ∷ [] = sym made.2 ∙ held in
      let same : made.0 ≡ n = cc in
      ap (λ j. Some (From j)) (sym (ap number_of same ∙ number channel t u n is object)) ∙ ap (λ (y : Alternative). arm_of y.offer) (sym made.3)
  received_arm depth zero to ops words a channel _ (into_nothing t u n is object signal size held) by =
      let made = by.1 in
      let both : made.0 ∷ [] ≡ n ∷ [] = sym made.1 ∙ held in
      let same : made.0 ≡ n = cc in
      ap (λ j. Some (From j)) (sym (ap number_of same ∙ number channel t u n is object)) ∙ ap (λ (y : Alternative). arm_of y.offer) (sym made.2)
  received_arm depth (suc z) to ops words a channel _ (into_nothing t u n is object signal size held) by = absurd (some_cells size)
    where
      some_cells : suc z ≡ 0 → ⊥
      some_cells same = grind (arith, same)

  -- the alternative of the machine is that of the source text, also as the table has it
  pub arm_same : (depth held : ℕ) (all : List ℤ) (behind : ℕ → Type 0) (o : Open) (offer : Offer) (arm : Arm) (k : KeptAlternative)
      → IsOpen g (site_of g b x) held o offer arm behind → IsKeptArm depth all arm k → text.arm_of program c q offer ≡ arm_of k.alternative.offer
  arm_same depth held all behind o (to_send channel v) arm k is kept =
      sent_arm depth is.1 is.0 arm.operands kept.words k.alternative channel v is.3
      (subst (λ (i : Instr). IsMadeBy depth i arm.operands k.alternative kept.words) is.2 kept.made)
  arm_same depth held all behind o (to_receive channel target) arm k is kept =
      received_arm depth is.1 is.0 arm.operands kept.words k.alternative channel target is.3
      (subst (λ (i : Instr). IsMadeBy depth i arm.operands k.alternative kept.words) is.2 kept.made)
  arm_same depth held all behind o (to_accept a) arm k is kept =
      let made = subst (λ (i : Instr). IsMadeBy depth i arm.operands k.alternative kept.words) is.1 kept.made in ap (λ (y : Alternative). arm_of y.offer)
      (sym made.1)
  arm_same depth held all behind o (to_wait n) arm k is kept =
      let made = subst (λ (i : Instr). IsMadeBy depth i arm.operands k.alternative kept.words) is.1 kept.made in ap (λ (y : Alternative). arm_of y.offer)
      (sym made.3)
  arm_same depth held all behind o to_end arm k is kept =
      let made = subst (λ (i : Instr). IsMadeBy depth i arm.operands k.alternative kept.words) is.0 kept.made in ap (λ (y : Alternative). arm_of y.offer)
      (sym made.1)

  -- ## The first

  same_test : (want : WaitArm) (o : Option WaitArm) → text.is_arm want o ≡ is_arm want o
  same_test want None = refl
  same_test want (Some w) = refl

  later_has : (want : WaitArm) (o : Option WaitArm) (rest : List WaitArm) → is_arm want o ≡ false → has_arm want (listed_arm o ++ rest) ≡ true
      → has_arm want rest ≡ true
  later_has want None rest other h = h
  later_has want (Some w) rest other h = ap (λ (y : Bool). y || has_arm want rest) (sym other) ∙ h

  module _ (facts : Facts) (depth : ℕ) (all : List ℤ) (ops : List ℤ) (left : Remainder) (want : WaitArm) where
    abbrev behind : ℕ → Type 0
    behind = λ end. Performs g b x.env end ops [] left

    -- both sides find the same alternative
    pub record Found (os : List Open) (arms : List Arm) (ks : List KeptAlternative) : Type 0 where
      pub o : Open
      pub arm : Arm
      pub kept : KeptAlternative
      pub open_one : IsOpen g (site_of g b x) (length ops) o o.offer arm behind
      pub is_kept : IsKeptArm depth all arm kept
      pub left_behind : BehindOpen g b ops x o o.offer (branch_of arm.by) left
      pub leads : (j : ℕ) → LeadWithin facts j arms → LeadsWithin facts j arm.by
      pub in_text : first_open program c q want x os left ≡ Some (record { context = x; at = o; left = left })
      pub in_machine : first_sought (OpenTo want) ks ≡ Some kept
      pub matches : text.is_arm want (text.arm_of program c q o.offer) ≡ true

    by_test : (o : Open) (os : List Open) (arm : Arm) (arms : List Arm) (k : KeptAlternative) (ks : List KeptAlternative)
        → AreOpen g (site_of g b x) (length ops) (o ∷ os) (arm ∷ arms) behind → AreKeptArms depth all (arm ∷ arms) (k ∷ ks)
        → BehindAll g b ops x (o ∷ os) (arm ∷ arms) left → has_arm want (arms_in (k ∷ ks)) ≡ true → (has_arm want (arms_in ks) ≡ true → Found os arms ks)
        → (test : Bool) → is_arm want (arm_of k.alternative.offer) ≡ test
        → Found (o ∷ os) (arm ∷ arms) (k ∷ ks)
    by_test o os arm arms k ks are kept behind_all has others true is =
        let tested : text.is_arm want (text.arm_of program c q o.offer) ≡ true =
        same_test want (text.arm_of program c q o.offer)
        ∙ ap (λ (y : Option WaitArm). is_arm want y) (arm_same depth (length ops) all behind o o.offer arm k are.0 kept.0) ∙ is in
        record {
          o = o;
          arm = arm;
          kept = k;
          open_one = are.0;
          is_kept = kept.0;
          left_behind = behind_all.0;
          leads = λ j lead. lead.0;
          in_text = ap (λ (y : Bool). if y then Some (record { context = x; at = o; left = left }) else first_open program c q want x os left) tested;
          in_machine = ap (λ (y : Bool). cond y (Some k) (first_sought (OpenTo want) ks)) is;
          matches = tested;
        }
    by_test o os arm arms k ks are kept behind_all has others false is =
        let tested : text.is_arm want (text.arm_of program c q o.offer) ≡ false =
        same_test want (text.arm_of program c q o.offer)
        ∙ ap (λ (y : Option WaitArm). is_arm want y) (arm_same depth (length ops) all behind o o.offer arm k are.0 kept.0) ∙ is in
        let rest = others (later_has want (arm_of k.alternative.offer) (arms_in ks) is has) in
        record {
          o = rest.o;
          arm = rest.arm;
          kept = rest.kept;
          open_one = rest.open_one;
          is_kept = rest.is_kept;
          left_behind = rest.left_behind;
          leads = λ j lead. rest.leads j lead.1;
          in_text = ap (λ (y : Bool). if y then Some (record { context = x; at = o; left = left }) else first_open program c q want x os left) tested
              ∙ rest.in_text;
          in_machine = ap (λ (y : Bool). cond y (Some k) (first_sought (OpenTo want) ks)) is ∙ rest.in_machine;
          matches = rest.matches;
        }

    pub found : (os : List Open) (arms : List Arm) (ks : List KeptAlternative) → AreOpen g (site_of g b x) (length ops) os arms behind
        → AreKeptArms depth all arms ks
        → BehindAll g b ops x os arms left → has_arm want (arms_in ks) ≡ true → Found os arms ks
    found [] [] [] are kept behind_all has = absurd (let no : false ≡ true = has in cc)
    found [] [] (k ∷ ks) are kept behind_all has = absurd kept
    found [] (arm ∷ arms) ks are kept behind_all has = absurd are
    found (o ∷ os) [] ks are kept behind_all has = absurd are
    found (o ∷ os) (arm ∷ arms) [] are kept behind_all has = absurd kept
    found (o ∷ os) (arm ∷ arms) (k ∷ ks) are kept behind_all has = by_test o os arm arms k ks are kept behind_all has
        (λ later. found os arms ks are.1 kept.1 behind_all.1 later) (is_arm want (arm_of k.alternative.offer)) refl
