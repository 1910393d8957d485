-- Quiet instructions.
use Rattle.std.proofs.Common.{◌≡◌, ℕ, zero, suc, ◌+◌, ◌-◌, ◌^◌, ◌<◌, ◌≤◌, ℤ, pos, true, List, ◌∷◌, length, drop, Option, Some, None, refl, sym, ap, ap₂, ◌∙◌}
use Rattle.std.proofs.Common.{subst, arith}
use Rattle.pfc_base.specs.declared.faults.RunFault.{RunFault}
use Rattle.pfc_code.specs.declared.images.Block.{Block as ImageBlock}
use Rattle.pfc_code.specs.declared.instructions.Instr.{Instr}
use Rattle.pfc_code.specs.declared.instructions.Instr.TheVariants.{LIT, ADDR, REF, IDX, FLD, OBJ, NEG, ADD, SUB, MUL, DIV, MOD, ABS, SQR, ODD, CHR, SUCC, PRED}
use Rattle.pfc_code.specs.declared.instructions.Instr.TheVariants.{NOT, AND, OR, EQ, NE, LT, LE, GT, GE, JMP, JF, FORB, FORT, CEQ, CERR, GRD, ARMS, ARMR, ARMA}
use Rattle.pfc_code.specs.declared.instructions.Instr.TheVariants.{ARMT, ARMX}
use Rattle.pfc_code.specs.Operands as table
use Rattle.pfc_semantics.specs.Programs.{Block}
use Rattle.pfc_semantics.specs.Store.{Store}
use Rattle.pfc_translation.specs.Operands.{reads}
use Rattle.pfc_stacks.specs.Refs.{ref_of, IsAddress}
use Rattle.pfc_stacks.specs.Stacks.{Stacks, stack_of, operand, operands_of, cell_at, cell_word}
use Rattle.pfc_stacks.specs.Conditions.{count_in, adds, Leads, Reckons, Reaches, CanPerform as CanPerformOnStacks}
use Rattle.pfc_stacks.specs.Effects.{OwnEffect, quiet, action, fault, more, own_effect, goes, within, moved, passed, effect as effect_on_stacks}
use Rattle.pfc_cells.specs.Homes.{Homes}
use Rattle.pfc_cells.specs.Memory.{Entries}
use Rattle.pfc_standing_code.specs.Settings.{Setting}
use Rattle.pfc_standing_code.specs.Effects.{Arm, onward, refuses, of_own_effect, numbered, effect_of, CanPerform}
use Rattle.pfc_views.specs.Views.{Sees}
use Rattle.pfc_stack_laws.specs.Standing.{StandsAt, HoldStore, IsAtHand}
use Rattle.pfc_stack_laws.specs.Instructions.{IsOfStacks, Goes, EndsIn}
use Rattle.pfc_stack_laws.proofs.Objects.{number_lies}
use Rattle.pfc_stack_laws.proofs.Seen.{word_reached, within as within_address, word_held}

-- ## What an effect tells

leads : (o : OwnEffect) (arms : List Arm) (to : ℕ) (left : List ℤ) (new : List Arm) →
    of_own_effect o arms ≡ onward to left new → (o ≡ quiet to left) × (new ≡ arms)
leads (quiet at ops) arms to left new h = (cc, cc)
leads (action at ops) arms to left new h = absurd (cc)
leads (fault f) arms to left new h = absurd (cc)
leads more arms to left new h = absurd (cc)

faults : (o : OwnEffect) (arms : List Arm) (f : RunFault) → of_own_effect o arms ≡ refuses f → o ≡ fault f
faults (quiet at ops) arms f h = absurd (cc)
faults (action at ops) arms f h = absurd (cc)
faults (fault e) arms f h = cc
faults more arms f h = absurd (cc)

module _ (g : Setting) (homes : Homes) (entries : Entries) (store : Store) (b : Block) (blocks : List ImageBlock) (stacks : Stacks) (p at : ℕ)
    (ops : List ℤ) (arms : List Arm) (w : ℤ)
    (hold : HoldStore g homes entries store stacks) (hand : IsAtHand g homes entries store b w) (stands : StandsAt stacks p at ops g.room w) where
  -- an instruction that needs no more than the address and the operands
  own_is : (i : Instr) → effect_on_stacks blocks i p stacks ≡ within stacks p (own_effect i (stack_of stacks p).at (operands_of stacks p)) →
      effect_on_stacks blocks i p stacks ≡ within stacks p (own_effect i at ops)
  own_is i is = is ∙ ap₂ (λ a l. within stacks p (own_effect i a l)) stands.address stands.operands

  reckoned : (i : Instr) → Reckons i ops → Reckons i (operands_of stacks p)
  reckoned i h = subst (λ (l : List ℤ). Reckons i l) (sym stands.operands) h

  plain_can : (i : Instr) → reads g.program i ≡ count_in blocks (table.operands_of i).reads → adds i ≡ 0 → (Reckons i ops → Reaches blocks i p stacks) →
      CanPerform g i ops → CanPerformOnStacks blocks i p stacks
  plain_can i same none reaches can =
      record {
        held = subst (λ (l : List ℤ). count_in blocks (table.operands_of i).reads ≤ length l) (sym stands.operands) (subst (λ n. n ≤ length ops) same can.held);
        room = omega (arith, none);
        reach = reaches can.reckons;
      }

  plain_goes : (i : Instr) (to : ℕ) (left : List ℤ) (new : List Arm) →
      effect_on_stacks blocks i p stacks ≡ within stacks p (own_effect i (stack_of stacks p).at (operands_of stacks p))
      → reads g.program i ≡ count_in blocks (table.operands_of i).reads → adds i ≡ 0 → (Reckons i ops → Reaches blocks i p stacks) → CanPerform g i ops
      → of_own_effect (own_effect i at ops) arms ≡ onward to left new → Goes blocks i p stacks to left × (new ≡ arms)
  plain_goes i to left new is same none reaches can h =
      let told = leads (own_effect i at ops) arms to left new h in
      (record { can = plain_can i same none reaches can; effect = own_is i is ∙ ap (λ o. within stacks p o) told.0 }, told.1)

  plain_ends : (i : Instr) (f : RunFault) → effect_on_stacks blocks i p stacks ≡ within stacks p (own_effect i (stack_of stacks p).at (operands_of stacks p))
      → reads g.program i ≡ count_in blocks (table.operands_of i).reads → adds i ≡ 0 → (Reckons i ops → Reaches blocks i p stacks) → CanPerform g i ops
      → of_own_effect (own_effect i at ops) arms ≡ refuses f → EndsIn blocks i p stacks f
  plain_ends i f is same none reaches can h =
      record { can = plain_can i same none reaches can; effect = own_is i is ∙ ap (λ o. within stacks p o) (faults (own_effect i at ops) arms f h) }

  -- one more operand has room
  one_fits : (n : ℤ) → length (n ∷ ops) ≤ g.room → 1 ≤ (stack_of stacks p).room - length (operands_of stacks p)
  one_fits n fit = (let held : length (operands_of stacks p) ≡ length ops = ap length stands.operands in omega (arith, fit, held, stands.has_room))

  pushed : (n : ℤ) → passed stacks p (n ∷ operands_of stacks p) ≡ moved stacks p (at + 1) (n ∷ ops)
  pushed n = ap₂ (λ a l. moved stacks p (a + 1) (n ∷ l)) stands.address stands.operands

  no_operand : 0 ≤ length (operands_of stacks p)
  no_operand = omega arith

  -- an instruction that pushes a word
  pushing : (i : Instr) (n : ℤ) (to : ℕ) (left : List ℤ) (new : List Arm) → reads g.program i ≡ 0 → count_in blocks (table.operands_of i).reads ≡ 0 →
      adds i ≡ 1 → (Reckons i ops → Reaches blocks i p stacks) → CanPerform g i ops
      → effect_on_stacks blocks i p stacks ≡ goes (passed stacks p (n ∷ operands_of stacks p)) →
      onward (at + 1) (n ∷ ops) arms ≡ onward to left new → length left ≤ g.room
      → Goes blocks i p stacks to left × (new ≡ arms)
  pushing i n to left new none nothing one reaches can is h fit =
      let to_is : at + 1 ≡ to = cc in
      let left_is : n ∷ ops ≡ left = cc in
      let fits : 1 ≤ (stack_of stacks p).room - length (operands_of stacks p) = one_fits n (subst (λ (l : List ℤ). length l ≤ g.room) (sym left_is) fit) in (
        record {
          can = record { held = omega (arith, nothing); room = omega (arith, one, fits); reach = reaches can.reckons };
          effect = is ∙ ap goes (pushed n ∙ ap₂ (λ a l. moved stacks p a l) to_is left_is);
        },
        cc,
      )

  sees_at : Sees g.program homes entries store hand.keeps hand.display b g.accepts w hand.chain g.view
  sees_at = hand.sees

  reached_word : (l d : ℕ) → g.view.reaches l d ≡ true → cell_word stacks p l d ≡ pos (g.view.first l + d)
  reached_word l d reached =
      word_reached g.program hold.types.counted homes entries store hand.keeps hand.display b g.accepts w hand.chain g.view stacks hold.memory
      hold.few hand.sees p l d stands.from reached

  held_word : (l d : ℕ) → g.view.reaches l d ≡ true → g.view.refers l d ≡ true → cell_at stacks (ref_of (cell_word stacks p l d)) ≡ pos (g.view.held l d)
  held_word l d reached refers =
      ap (λ x. cell_at stacks (ref_of x)) (reached_word l d reached)
      ∙ word_held g.program hold.types.counted homes entries store hand.keeps hand.display b g.accepts w hand.chain g.view stacks
      hold.memory hold.few hand.sees l d reached refers

  links_reach : (l d : ℕ) → g.view.reaches l d ≡ true → Leads l d p stacks
  links_reach zero d reached = tt
  links_reach (suc l) d reached =
      let there : g.view.first (suc l) + d < 2 ^ 42 =
      within_address g.program hold.types.counted homes entries store hand.keeps hand.display b g.accepts w hand.chain g.view stacks hold.memory
      hold.few hand.sees (suc l) d reached in
      let fits : IsAddress (pos (g.view.first (suc l) + d)) = (grind (arith), grind (arith, there)) in
      subst (λ (x : ℤ). IsAddress x) (sym (reached_word (suc l) d reached)) fits

  object_is : (to : ℕ) (left : List ℤ) (new : List Arm) (found : Option ℤ) → g.number (operand ops 0) ≡ found → CanPerform g OBJ ops →
      numbered at (drop 1 ops) arms found ≡ onward to left new → Goes blocks OBJ p stacks to left × (new ≡ arms)
  object_is to left new None is can h = absurd (cc)
  object_is to left new (Some n) is can h =
      let to_is : at + 1 ≡ to = cc in
      let left_is : n ∷ drop 1 ops ≡ left = cc in
      let there : cell_at stacks (ref_of (operand ops 0)) ≡ n = number_lies g homes entries store stacks hold (operand ops 0) n is in (
        record {
          can = plain_can OBJ refl refl (λ e. tt) can;
          effect = ap goes (
              ap₂ (λ a l. moved stacks p (a + 1) (cell_at stacks (ref_of (operand l 0)) ∷ drop 1 l)) stands.address stands.operands
              ∙ ap (λ x. moved stacks p (at + 1) (x ∷ drop 1 ops)) there ∙ ap₂ (λ a l. moved stacks p a l) to_is left_is);
        },
        cc,
      )

  no_object : (f : RunFault) (found : Option ℤ) → numbered at (drop 1 ops) arms found ≡ refuses f → EndsIn blocks OBJ p stacks f
  no_object f None h = absurd (cc)
  no_object f (Some n) h = absurd (cc)

  pub lead_on : (i : Instr) (to : ℕ) (left : List ℤ) (new : List Arm) → IsOfStacks i → CanPerform g i ops → effect_of g i at ops arms ≡ onward to left new →
      length left ≤ g.room → Goes blocks i p stacks to left × (new ≡ arms)
  lead_on (LIT n) to left new is can h fit = pushing (LIT n) n to left new refl refl refl (λ e. tt) can refl h fit
  lead_on (ADDR l d) to left new is can h fit =
      pushing (ADDR l d) (pos (g.view.first l + d)) to left new refl refl refl (λ e. links_reach l d can.sight) can
      (ap (λ x. goes (passed stacks p (x ∷ operands_of stacks p))) (reached_word l d can.sight)) h fit
  lead_on (REF l d) to left new is can h fit =
      pushing (REF l d) (pos (g.view.held l d)) to left new refl refl refl (λ e. links_reach l d can.sight.0) can
      (ap (λ x. goes (passed stacks p (x ∷ operands_of stacks p))) (held_word l d can.sight.0 can.sight.1)) h fit
  lead_on OBJ to left new is can h fit = object_is to left new (g.number (operand ops 0)) refl can h
  lead_on (IDX low high z) to left new is can h fit = plain_goes (IDX low high z) to left new refl refl refl (λ e. reckoned (IDX low high z) e) can h
  lead_on (FLD k) to left new is can h fit = plain_goes (FLD k) to left new refl refl refl (λ e. reckoned (FLD k) e) can h
  lead_on NEG to left new is can h fit = plain_goes NEG to left new refl refl refl (λ e. tt) can h
  lead_on ADD to left new is can h fit = plain_goes ADD to left new refl refl refl (λ e. tt) can h
  lead_on SUB to left new is can h fit = plain_goes SUB to left new refl refl refl (λ e. tt) can h
  lead_on MUL to left new is can h fit = plain_goes MUL to left new refl refl refl (λ e. tt) can h
  lead_on DIV to left new is can h fit = plain_goes DIV to left new refl refl refl (λ e. tt) can h
  lead_on MOD to left new is can h fit = plain_goes MOD to left new refl refl refl (λ e. tt) can h
  lead_on ABS to left new is can h fit = plain_goes ABS to left new refl refl refl (λ e. tt) can h
  lead_on SQR to left new is can h fit = plain_goes SQR to left new refl refl refl (λ e. tt) can h
  lead_on ODD to left new is can h fit = plain_goes ODD to left new refl refl refl (λ e. tt) can h
  lead_on CHR to left new is can h fit = plain_goes CHR to left new refl refl refl (λ e. tt) can h
  lead_on (SUCC k) to left new is can h fit = plain_goes (SUCC k) to left new refl refl refl (λ e. tt) can h
  lead_on (PRED k) to left new is can h fit = plain_goes (PRED k) to left new refl refl refl (λ e. tt) can h
  lead_on NOT to left new is can h fit = plain_goes NOT to left new refl refl refl (λ e. tt) can h
  lead_on AND to left new is can h fit = plain_goes AND to left new refl refl refl (λ e. tt) can h
  lead_on OR to left new is can h fit = plain_goes OR to left new refl refl refl (λ e. tt) can h
  lead_on EQ to left new is can h fit = plain_goes EQ to left new refl refl refl (λ e. tt) can h
  lead_on NE to left new is can h fit = plain_goes NE to left new refl refl refl (λ e. tt) can h
  lead_on LT to left new is can h fit = plain_goes LT to left new refl refl refl (λ e. tt) can h
  lead_on LE to left new is can h fit = plain_goes LE to left new refl refl refl (λ e. tt) can h
  lead_on GT to left new is can h fit = plain_goes GT to left new refl refl refl (λ e. tt) can h
  lead_on GE to left new is can h fit = plain_goes GE to left new refl refl refl (λ e. tt) can h
  lead_on (JMP a) to left new is can h fit = plain_goes (JMP a) to left new refl refl refl (λ e. tt) can h
  lead_on (JF a) to left new is can h fit = plain_goes (JF a) to left new refl refl refl (λ e. tt) can h
  lead_on (FORB d a) to left new is can h fit = plain_goes (FORB d a) to left new refl refl refl (λ e. tt) can h
  lead_on (FORT d a) to left new is can h fit = plain_goes (FORT d a) to left new refl refl refl (λ e. tt) can h
  lead_on (CEQ n a) to left new is can h fit = plain_goes (CEQ n a) to left new refl refl refl (λ e. tt) can h
  lead_on CERR to left new is can h fit = plain_goes CERR to left new refl refl refl (λ e. tt) can h
  lead_on (GRD r) to left new is can h fit = absurd is
  lead_on (ARMS z a) to left new is can h fit = absurd is
  lead_on (ARMR z a) to left new is can h fit = absurd is
  lead_on (ARMA e d z a) to left new is can h fit = absurd is
  lead_on (ARMT a) to left new is can h fit = absurd is
  lead_on ARMX to left new is can h fit = absurd is
  lead_on i to left new is can h fit = absurd (cc)

  pub end_in : (i : Instr) (f : RunFault) → IsOfStacks i → CanPerform g i ops → effect_of g i at ops arms ≡ refuses f → EndsIn blocks i p stacks f
  end_in (LIT n) f is can h = absurd (cc)
  end_in (ADDR l d) f is can h = absurd (cc)
  end_in (REF l d) f is can h = absurd (cc)
  end_in OBJ f is can h = no_object f (g.number (operand ops 0)) h
  end_in (IDX low high z) f is can h = plain_ends (IDX low high z) f refl refl refl (λ e. reckoned (IDX low high z) e) can h
  end_in (FLD k) f is can h = plain_ends (FLD k) f refl refl refl (λ e. reckoned (FLD k) e) can h
  end_in NEG f is can h = plain_ends NEG f refl refl refl (λ e. tt) can h
  end_in ADD f is can h = plain_ends ADD f refl refl refl (λ e. tt) can h
  end_in SUB f is can h = plain_ends SUB f refl refl refl (λ e. tt) can h
  end_in MUL f is can h = plain_ends MUL f refl refl refl (λ e. tt) can h
  end_in DIV f is can h = plain_ends DIV f refl refl refl (λ e. tt) can h
  end_in MOD f is can h = plain_ends MOD f refl refl refl (λ e. tt) can h
  end_in ABS f is can h = plain_ends ABS f refl refl refl (λ e. tt) can h
  end_in SQR f is can h = plain_ends SQR f refl refl refl (λ e. tt) can h
  end_in ODD f is can h = plain_ends ODD f refl refl refl (λ e. tt) can h
  end_in CHR f is can h = plain_ends CHR f refl refl refl (λ e. tt) can h
  end_in (SUCC k) f is can h = plain_ends (SUCC k) f refl refl refl (λ e. tt) can h
  end_in (PRED k) f is can h = plain_ends (PRED k) f refl refl refl (λ e. tt) can h
  end_in NOT f is can h = plain_ends NOT f refl refl refl (λ e. tt) can h
  end_in AND f is can h = plain_ends AND f refl refl refl (λ e. tt) can h
  end_in OR f is can h = plain_ends OR f refl refl refl (λ e. tt) can h
  end_in EQ f is can h = plain_ends EQ f refl refl refl (λ e. tt) can h
  end_in NE f is can h = plain_ends NE f refl refl refl (λ e. tt) can h
  end_in LT f is can h = plain_ends LT f refl refl refl (λ e. tt) can h
  end_in LE f is can h = plain_ends LE f refl refl refl (λ e. tt) can h
  end_in GT f is can h = plain_ends GT f refl refl refl (λ e. tt) can h
  end_in GE f is can h = plain_ends GE f refl refl refl (λ e. tt) can h
  end_in (JMP a) f is can h = plain_ends (JMP a) f refl refl refl (λ e. tt) can h
  end_in (JF a) f is can h = plain_ends (JF a) f refl refl refl (λ e. tt) can h
  end_in (FORB d a) f is can h = plain_ends (FORB d a) f refl refl refl (λ e. tt) can h
  end_in (FORT d a) f is can h = plain_ends (FORT d a) f refl refl refl (λ e. tt) can h
  end_in (CEQ n a) f is can h = plain_ends (CEQ n a) f refl refl refl (λ e. tt) can h
  end_in CERR f is can h = plain_ends CERR f refl refl refl (λ e. tt) can h
  end_in (GRD r) f is can h = absurd is
  end_in (ARMS z a) f is can h = absurd is
  end_in (ARMR z a) f is can h = absurd is
  end_in (ARMA e d z a) f is can h = absurd is
  end_in (ARMT a) f is can h = absurd is
  end_in ARMX f is can h = absurd is
  end_in i f is can h = absurd (cc)
