-- Quiet instructions: each leads to what follows behind it.
use Rattle.std.proofs.Common.{◌≡◌, ℕ, suc, ◌+◌, ◌<◌, ◌≤◌, ℤ, Bool, true, false, if◌then◌else◌, List, ◌∷◌, length, Ok, Err, refl, ap, subst, arith, inr}
use Rattle.pfc_base.specs.declared.faults.RunFault.{RunFault}
use Rattle.pfc_code.specs.declared.instructions.Instr.{Instr}
use Rattle.pfc_code.specs.declared.instructions.Instr.TheVariants.{ADD, SUB, MUL, DIV, MOD, AND, OR, EQ, NE, LT, LE, GT, GE, JMP, JF}
use Rattle.pfc_tree.specs.declared.tree.Relation.{Relation}
use Rattle.pfc_tree.specs.declared.tree.Relation.TheVariants.{Eq, Ne, Lt, Le, Gt, Ge}
use Rattle.pfc_tree.specs.declared.tree.AddOp.{AddOp}
use Rattle.pfc_tree.specs.declared.tree.AddOp.TheVariants.{Add, Sub, Or}
use Rattle.pfc_tree.specs.declared.tree.MulOp.{MulOp}
use Rattle.pfc_tree.specs.declared.tree.MulOp.TheVariants.{Mul, Div, Mod, And}
use Rattle.pfc_values.specs.Numbers.{Outcome, is_true}
use Rattle.pfc_stacks.specs.Conditions.{Reckons}
use Rattle.pfc_stacks.specs.Effects.{with_outcome}
use Rattle.pfc_semantics.specs.Values.{Value, ordinal}
use Rattle.pfc_semantics.specs.Operators.{added, multiplied, compared}
use Rattle.pfc_semantics.specs.Remainders.{Context, Action, faults}
use Rattle.pfc_semantics.specs.Expressions.{with_number}
use Rattle.pfc_semantics.specs.Programs.{Block}
use Rattle.pfc_translation.specs.Expressions.{relation_instr, add_instr, multiply_instr}
use Rattle.pfc_translation.specs.Operands.{reads}
use Rattle.pfc_standing_code.specs.Settings.{Setting, IsAt, Leads, arrived, jump}
use Rattle.pfc_standing_code.specs.Effects.{Arm, onward, refuses, of_own_effect, effect_of, InSight, CanPerform, is_timeout, MayRefuse}
use Rattle.pfc_standing_code.specs.Following.{of_operands, Follows, arrives, moves}

module _ (g : Setting) (arms : List Arm) where
  -- ## Effects

  pub add_effect : (op : AddOp) (at : ℕ) (a b : ℤ) (ops : List ℤ) →
      effect_of g (add_instr op) at (b ∷ a ∷ ops) arms ≡ of_own_effect (with_outcome at ops (added op a b)) arms
  add_effect Add at a b ops = refl
  add_effect Sub at a b ops = refl
  add_effect Or at a b ops = refl

  pub multiply_effect : (op : MulOp) (at : ℕ) (a b : ℤ) (ops : List ℤ) →
      effect_of g (multiply_instr op) at (b ∷ a ∷ ops) arms ≡ of_own_effect (with_outcome at ops (multiplied op a b)) arms
  multiply_effect Mul at a b ops = refl
  multiply_effect Div at a b ops = refl
  multiply_effect Mod at a b ops = refl
  multiply_effect And at a b ops = refl

  pub relation_effect : (r : Relation) (at : ℕ) (a b : ℤ) (ops : List ℤ) →
      effect_of g (relation_instr r) at (b ∷ a ∷ ops) arms ≡ onward (at + 1) (compared r a b ∷ ops) arms
  relation_effect Eq at a b ops = refl
  relation_effect Ne at a b ops = refl
  relation_effect Lt at a b ops = refl
  relation_effect Le at a b ops = refl
  relation_effect Gt at a b ops = refl
  relation_effect Ge at a b ops = refl

  -- no operator waits
  pub add_waits : (op : AddOp) → is_timeout (add_instr op) ≡ false
  add_waits Add = refl
  add_waits Sub = refl
  add_waits Or = refl

  pub multiply_waits : (op : MulOp) → is_timeout (multiply_instr op) ≡ false
  multiply_waits Mul = refl
  multiply_waits Div = refl
  multiply_waits Mod = refl
  multiply_waits And = refl

  -- ## Operands that are there

  pub fits : (i : Instr) (ops : List ℤ) → reads g.program i ≤ length ops → Reckons i ops → InSight g.view i → CanPerform g i ops
  fits i ops held reckons sight = record { held = held; reckons = reckons; sight = sight }

  pub add_fit : (op : AddOp) (a b : ℤ) (ops : List ℤ) → CanPerform g (add_instr op) (b ∷ a ∷ ops)
  add_fit Add a b ops = fits ADD (b ∷ a ∷ ops) (omega arith) tt tt
  add_fit Sub a b ops = fits SUB (b ∷ a ∷ ops) (omega arith) tt tt
  add_fit Or a b ops = fits OR (b ∷ a ∷ ops) (omega arith) tt tt

  pub multiply_fit : (op : MulOp) (a b : ℤ) (ops : List ℤ) → CanPerform g (multiply_instr op) (b ∷ a ∷ ops)
  multiply_fit Mul a b ops = fits MUL (b ∷ a ∷ ops) (omega arith) tt tt
  multiply_fit Div a b ops = fits DIV (b ∷ a ∷ ops) (omega arith) tt tt
  multiply_fit Mod a b ops = fits MOD (b ∷ a ∷ ops) (omega arith) tt tt
  multiply_fit And a b ops = fits AND (b ∷ a ∷ ops) (omega arith) tt tt

  pub relation_fit : (r : Relation) (a b : ℤ) (ops : List ℤ) → CanPerform g (relation_instr r) (b ∷ a ∷ ops)
  relation_fit Eq a b ops = fits EQ (b ∷ a ∷ ops) (omega arith) tt tt
  relation_fit Ne a b ops = fits NE (b ∷ a ∷ ops) (omega arith) tt tt
  relation_fit Lt a b ops = fits LT (b ∷ a ∷ ops) (omega arith) tt tt
  relation_fit Le a b ops = fits LE (b ∷ a ∷ ops) (omega arith) tt tt
  relation_fit Gt a b ops = fits GT (b ∷ a ∷ ops) (omega arith) tt tt
  relation_fit Ge a b ops = fits GE (b ∷ a ∷ ops) (omega arith) tt tt

-- where the alternatives that are held stay
module _ (g : Setting) (arms : List Arm) (few : length arms ≤ g.arms) where
  -- ## Moves

  pub move :
      {n : Action} (at : ℕ) (ops : List ℤ) (i : Instr) (line to : ℕ) (left : List ℤ)
      → IsAt g at i line → CanPerform g i ops → effect_of g i at ops arms ≡ onward to left arms → at < to → length left ≤ g.room →
      Follows g n to left arms → Follows g n at ops arms
  move at ops i line to left is can effect up room on = moves at ops arms i line to left arms is can effect up room few on

  -- to the next instruction
  pub next_move :
      {n : Action} (at : ℕ) (ops : List ℤ) (i : Instr) (line : ℕ) (left : List ℤ)
      → IsAt g at i line → CanPerform g i ops → effect_of g i at ops arms ≡ onward (at + 1) left arms → length left ≤ g.room →
      Follows g n (at + 1) left arms → Follows g n at ops arms
  next_move at ops i line left is can effect room on = move at ops i line (at + 1) left is can effect (omega arith) room on

  -- a fault
  pub fault_at : (b : Block) (x : Context) (f : RunFault) (at : ℕ) (ops : List ℤ) (i : Instr) → IsAt g at i x.line → CanPerform g i ops →
      effect_of g i at ops arms ≡ refuses f → MayRefuse g i → Follows g (faults x f) at ops arms
  fault_at b x f at ops i is can effect may = arrives at ops arms (b, tt, of_operands i is can effect may)

  -- an instruction that leaves a number, or ends in a fault
  pub outcome_move :
      (b : Block) (x : Context) (o : Outcome) (go : Value → Action) (at : ℕ) (ops below : List ℤ) (i : Instr)
      → IsAt g at i x.line → CanPerform g i ops → effect_of g i at ops arms ≡ of_own_effect (with_outcome at below o) arms → is_timeout i ≡ false
      → suc (length below) ≤ g.room
      → ((v : ℤ) → Follows g (go (ordinal v)) (at + 1) (v ∷ below) arms) → Follows g (with_number x o go) at ops arms
  outcome_move b x (Ok v) go at ops below i is can effect none room on = next_move at ops i x.line (v ∷ below) is can effect room (on v)
  outcome_move b x (Err f) go at ops below i is can effect none room on = fault_at b x f at ops i is can effect (inr none)

  pub add_move :
      (b : Block) (x : Context) (op : AddOp) (a c : ℤ) (go : Value → Action) (at : ℕ) (ops : List ℤ)
      → IsAt g at (add_instr op) x.line → suc (length ops) ≤ g.room
      → ((v : ℤ) → Follows g (go (ordinal v)) (at + 1) (v ∷ ops) arms) → Follows g (with_number x (added op a c) go) at (c ∷ a ∷ ops) arms
  add_move b x op a c go at ops is room on =
      outcome_move b x (added op a c) go at (c ∷ a ∷ ops) ops (add_instr op) is (add_fit g arms op a c ops) (add_effect g arms op at a c ops)
      (add_waits g arms op) room on

  pub multiply_move :
      (b : Block) (x : Context) (op : MulOp) (a c : ℤ) (go : Value → Action) (at : ℕ) (ops : List ℤ)
      → IsAt g at (multiply_instr op) x.line → suc (length ops) ≤ g.room
      → ((v : ℤ) → Follows g (go (ordinal v)) (at + 1) (v ∷ ops) arms) → Follows g (with_number x (multiplied op a c) go) at (c ∷ a ∷ ops) arms
  multiply_move b x op a c go at ops is room on =
      outcome_move b x (multiplied op a c) go at (c ∷ a ∷ ops) ops (multiply_instr op) is (multiply_fit g arms op a c ops)
      (multiply_effect g arms op at a c ops) (multiply_waits g arms op) room on

  pub relation_move :
      {n : Action} (r : Relation) (a c : ℤ) (at : ℕ) (ops : List ℤ) (line : ℕ)
      → IsAt g at (relation_instr r) line → suc (length ops) ≤ g.room
      → Follows g n (at + 1) (compared r a c ∷ ops) arms → Follows g n at (c ∷ a ∷ ops) arms
  relation_move r a c at ops line is room on =
      next_move at (c ∷ a ∷ ops) (relation_instr r) line (compared r a c ∷ ops) is (relation_fit g arms r a c ops) (relation_effect g arms r at a c ops) room on

  -- ## Jumps

  -- a test leads to the next instruction, or by a jump
  pub test_move :
      (v : ℤ) (yes_next no_next : Action) (at : ℕ) (ops : List ℤ) (x line : ℕ)
      → IsAt g at (JF x) line → at < x → length ops ≤ g.room
      → Follows g yes_next (at + 1) ops arms → Follows g no_next x ops arms → Follows g (if is_true v then yes_next else no_next) at (v ∷ ops) arms
  test_move v yes_next no_next at ops x line is up room so otherwise = by (is_true v) refl
    where
      by : (b : Bool) → is_true v ≡ b → Follows g (if b then yes_next else no_next) at (v ∷ ops) arms
      by true e = move at (v ∷ ops) (JF x) line (at + 1) ops is (fits g arms (JF x) (v ∷ ops) (omega arith) tt tt)
          (ap (λ (b : Bool). onward (if b then at + 1 else x) ops arms) e) (omega arith) room so
      by false e = move at (v ∷ ops) (JF x) line x ops is (fits g arms (JF x) (v ∷ ops) (omega arith) tt tt)
          (ap (λ (b : Bool). onward (if b then at + 1 else x) ops arms) e) up room otherwise

  pub jump_move : {n : Action} (at to : ℕ) (ops : List ℤ) (line : ℕ) → IsAt g at (JMP to) line → at < to → length ops ≤ g.room →
      Follows g n to ops arms → Follows g n at ops arms
  jump_move at to ops line is up room on = move at ops (JMP to) line to ops is (fits g arms (JMP to) ops (omega arith) tt tt) refl up room on

  pub through : {n : Action} (at to : ℕ) (ops : List ℤ) → Leads g at to → length ops ≤ g.room → Follows g n to ops arms → Follows g n at ops arms
  through _ _ ops (arrived at) room on = on
  through _ _ ops (jump at to end line is up leads) room on = jump_move at to ops line is up room (through to end ops leads room on)

  pub follows_moved : {n : Action} {ops : List ℤ} (at to : ℕ) → at ≡ to → Follows g n at ops arms → Follows g n to ops arms
  follows_moved {n} {ops} at to e h = subst (λ x. Follows g n x ops arms) e h
