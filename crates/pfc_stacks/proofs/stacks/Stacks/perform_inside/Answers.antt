use Rattle.std.proofs.Common.{refl}
use Rattle.pfc_stacks.proofs.Defaults.{IsOutside, effect_inside-none}
use Rattle.pfc_stacks.proofs.stacks.Stacks.perform_inside.Goals as goal

pub returns-in_default : goal.returns-in_default
returns-in_default c =
    let d = c.in_default in
    let none : IsOutside c.args.i =
    record {
      not-ADDR = d.not-ADDR;
      not-REF = d.not-REF;
      not-OBJ = d.not-OBJ;
      not-LOAD = d.not-LOAD;
      not-STORE = d.not-STORE;
      not-FORW = d.not-FORW;
      not-LIT = d.not-LIT;
      not-IDX = d.not-IDX;
      not-FLD = d.not-FLD;
      not-JMP = d.not-JMP;
      not-JF = d.not-JF;
      not-TURN = d.not-TURN;
      not-FORB = d.not-FORB;
      not-FORT = d.not-FORT;
      not-CEQ = d.not-CEQ;
      not-CERR = d.not-CERR;
      not-NEG = d.not-NEG;
      not-ABS = d.not-ABS;
      not-SQR = d.not-SQR;
      not-ODD = d.not-ODD;
      not-CHR = d.not-CHR;
      not-SUCC = d.not-SUCC;
      not-PRED = d.not-PRED;
      not-NOT = d.not-NOT;
      not-ADD = d.not-ADD;
      not-SUB = d.not-SUB;
      not-MUL = d.not-MUL;
      not-DIV = d.not-DIV;
      not-MOD = d.not-MOD;
      not-AND = d.not-AND;
      not-OR = d.not-OR;
      not-EQ = d.not-EQ;
      not-NE = d.not-NE;
      not-LT = d.not-LT;
      not-LE = d.not-LE;
      not-GT = d.not-GT;
      not-GE = d.not-GE;
    } in
    (effect_inside-none c.args.i c.args.p c.args.self.now none, refl)
