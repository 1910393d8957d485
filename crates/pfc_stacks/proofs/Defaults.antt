-- Instructions that a table does not name.
use Rattle.std.proofs.Common.{◌≡◌, ◌≤◌, ℕ, ℤ, List, [], refl, arith}
use Rattle.pfc_code.specs.declared.images.Block.{Block}
use Rattle.pfc_code.specs.declared.instructions.Instr.{Instr}
use Rattle.pfc_code.specs.declared.instructions.Instr.TheVariants.{LIT, ADDR, REF, OBJ, IDX, FLD, LOAD, STORE, FORW, CALL, RET, RETF, NEG, ABS, SQR}
use Rattle.pfc_code.specs.declared.instructions.Instr.TheVariants.{ODD, CHR, SUCC, PRED, NOT, ADD, SUB, MUL, DIV, MOD, AND, OR, EQ, NE, LT, LE, GT, GE}
use Rattle.pfc_code.specs.declared.instructions.Instr.TheVariants.{JMP, JF, TURN, FORB, FORT, CEQ, CERR}
use Rattle.pfc_code.specs.declared.counts.Count.{Count}
use Rattle.pfc_code.specs.declared.counts.Count.TheVariants.{Exactly, OfParameters, OneAndParameters, OfResult}
use Rattle.pfc_code.specs.Operands as table
use Rattle.pfc_stacks.specs.Conditions.{CanPerform, CanPerformInside, count_in}
use Rattle.pfc_stacks.specs.Effects.{effect, effect_inside, outward}
use Rattle.pfc_stacks.specs.Stacks.{Stacks}

-- what is not of the stacks alone, or begins or ends an activation
pub record IsOutside (i : Instr) : Type 0 where
  pub not-ADDR : (l d : ℕ) → i ≡ ADDR l d → ⊥
  pub not-REF : (l d : ℕ) → i ≡ REF l d → ⊥
  pub not-OBJ : i ≡ OBJ → ⊥
  pub not-LOAD : (z : ℕ) → i ≡ LOAD z → ⊥
  pub not-STORE : (z : ℕ) → i ≡ STORE z → ⊥
  pub not-FORW : i ≡ FORW → ⊥
  pub not-LIT : (n : ℤ) → i ≡ LIT n → ⊥
  pub not-IDX : (low high : ℤ) (z : ℕ) → i ≡ IDX low high z → ⊥
  pub not-FLD : (k : ℕ) → i ≡ FLD k → ⊥
  pub not-JMP : (a : ℕ) → i ≡ JMP a → ⊥
  pub not-JF : (a : ℕ) → i ≡ JF a → ⊥
  pub not-TURN : (a : ℕ) → i ≡ TURN a → ⊥
  pub not-FORB : (d a : ℕ) → i ≡ FORB d a → ⊥
  pub not-FORT : (d a : ℕ) → i ≡ FORT d a → ⊥
  pub not-CEQ : (n : ℤ) (a : ℕ) → i ≡ CEQ n a → ⊥
  pub not-CERR : i ≡ CERR → ⊥
  pub not-NEG : i ≡ NEG → ⊥
  pub not-ABS : i ≡ ABS → ⊥
  pub not-SQR : i ≡ SQR → ⊥
  pub not-ODD : i ≡ ODD → ⊥
  pub not-CHR : i ≡ CHR → ⊥
  pub not-SUCC : (k : ℕ) → i ≡ SUCC k → ⊥
  pub not-PRED : (k : ℕ) → i ≡ PRED k → ⊥
  pub not-NOT : i ≡ NOT → ⊥
  pub not-ADD : i ≡ ADD → ⊥
  pub not-SUB : i ≡ SUB → ⊥
  pub not-MUL : i ≡ MUL → ⊥
  pub not-DIV : i ≡ DIV → ⊥
  pub not-MOD : i ≡ MOD → ⊥
  pub not-AND : i ≡ AND → ⊥
  pub not-OR : i ≡ OR → ⊥
  pub not-EQ : i ≡ EQ → ⊥
  pub not-NE : i ≡ NE → ⊥
  pub not-LT : i ≡ LT → ⊥
  pub not-LE : i ≡ LE → ⊥
  pub not-GT : i ≡ GT → ⊥
  pub not-GE : i ≡ GE → ⊥

pub effect_inside-none : (i : Instr) (p : ℕ) (stacks : Stacks) → IsOutside i → effect_inside i p stacks ≡ outward
effect_inside-none (ADDR l d) p stacks none = absurd (none.not-ADDR l d refl)
effect_inside-none (REF l d) p stacks none = absurd (none.not-REF l d refl)
effect_inside-none OBJ p stacks none = absurd (none.not-OBJ refl)
effect_inside-none (LOAD z) p stacks none = absurd (none.not-LOAD z refl)
effect_inside-none (STORE z) p stacks none = absurd (none.not-STORE z refl)
effect_inside-none FORW p stacks none = absurd (none.not-FORW refl)
effect_inside-none (LIT n) p stacks none = absurd (none.not-LIT n refl)
effect_inside-none (IDX low high z) p stacks none = absurd (none.not-IDX low high z refl)
effect_inside-none (FLD k) p stacks none = absurd (none.not-FLD k refl)
effect_inside-none (JMP a) p stacks none = absurd (none.not-JMP a refl)
effect_inside-none (JF a) p stacks none = absurd (none.not-JF a refl)
effect_inside-none (TURN a) p stacks none = absurd (none.not-TURN a refl)
effect_inside-none (FORB d a) p stacks none = absurd (none.not-FORB d a refl)
effect_inside-none (FORT d a) p stacks none = absurd (none.not-FORT d a refl)
effect_inside-none (CEQ n a) p stacks none = absurd (none.not-CEQ n a refl)
effect_inside-none CERR p stacks none = absurd (none.not-CERR refl)
effect_inside-none NEG p stacks none = absurd (none.not-NEG refl)
effect_inside-none ABS p stacks none = absurd (none.not-ABS refl)
effect_inside-none SQR p stacks none = absurd (none.not-SQR refl)
effect_inside-none ODD p stacks none = absurd (none.not-ODD refl)
effect_inside-none CHR p stacks none = absurd (none.not-CHR refl)
effect_inside-none (SUCC k) p stacks none = absurd (none.not-SUCC k refl)
effect_inside-none (PRED k) p stacks none = absurd (none.not-PRED k refl)
effect_inside-none NOT p stacks none = absurd (none.not-NOT refl)
effect_inside-none ADD p stacks none = absurd (none.not-ADD refl)
effect_inside-none SUB p stacks none = absurd (none.not-SUB refl)
effect_inside-none MUL p stacks none = absurd (none.not-MUL refl)
effect_inside-none DIV p stacks none = absurd (none.not-DIV refl)
effect_inside-none MOD p stacks none = absurd (none.not-MOD refl)
effect_inside-none AND p stacks none = absurd (none.not-AND refl)
effect_inside-none OR p stacks none = absurd (none.not-OR refl)
effect_inside-none EQ p stacks none = absurd (none.not-EQ refl)
effect_inside-none NE p stacks none = absurd (none.not-NE refl)
effect_inside-none LT p stacks none = absurd (none.not-LT refl)
effect_inside-none LE p stacks none = absurd (none.not-LE refl)
effect_inside-none GT p stacks none = absurd (none.not-GT refl)
effect_inside-none GE p stacks none = absurd (none.not-GE refl)
effect_inside-none i p stacks none = refl

-- what neither begins nor ends an activation
pub record IsInside (i : Instr) : Type 0 where
  pub call : (k l : ℕ) → i ≡ CALL k l → ⊥
  pub ret : i ≡ RET → ⊥
  pub retf : i ≡ RETF → ⊥

pub effect-inside : (blocks : List Block) (i : Instr) (p : ℕ) (stacks : Stacks) → IsInside i → effect blocks i p stacks ≡ effect_inside i p stacks
effect-inside blocks (CALL k l) p stacks inside = absurd (inside.call k l refl)
effect-inside blocks RET p stacks inside = absurd (inside.ret refl)
effect-inside blocks RETF p stacks inside = absurd (inside.retf refl)
effect-inside blocks i p stacks inside = refl

-- what it asks does not rest on blocks
least_count : (blocks : List Block) (c : Count) → count_in [] c ≤ count_in blocks c
least_count blocks (Exactly n) = omega arith
least_count blocks (OfParameters b) = omega arith
least_count blocks (OneAndParameters b) = omega arith
least_count blocks (OfResult b) = omega arith

pub asks_inside : (blocks : List Block) (i : Instr) (p : ℕ) (stacks : Stacks) → IsInside i → CanPerform blocks i p stacks → CanPerformInside i p stacks
asks_inside blocks (CALL k l) p stacks inside can = tt
asks_inside blocks RET p stacks inside can = tt
asks_inside blocks RETF p stacks inside can = tt
asks_inside blocks i p stacks inside can = record {
  held = (let least = least_count blocks (table.operands_of i).reads in let all = can.held in omega (arith, least, all));
  room = can.room;
  reach = can.reach;
}
