-- The code of expressions, of variables and of arguments.
use Rattle.std.specs.Prelude.{ℕ, if◌then◌else◌, List, [], ◌∷◌, Option, Some, None}
use Rattle.pfc_base.specs.declared.places.Place.{Place}
use Rattle.pfc_code.specs.declared.instructions.Instr.{Instr}
use Rattle.pfc_code.specs.declared.instructions.Instr.TheVariants.{LIT, FLD, LOAD, OBJ, NEG, ADD, SUB, MUL, DIV, MOD, ABS, SQR, ODD, CHR, SUCC, PRED, NOT, AND}
use Rattle.pfc_code.specs.declared.instructions.Instr.TheVariants.{OR, EQ, NE, LT, LE, GT, GE, CALL, EMPTY, CLOCK, RAND, EOF, EOLN}
use Rattle.pfc_tree.specs.declared.tree.Sign.{Sign}
use Rattle.pfc_tree.specs.declared.tree.Sign.TheVariants.{Plus, Minus}
use Rattle.pfc_tree.specs.declared.tree.Relation.{Relation}
use Rattle.pfc_tree.specs.declared.tree.Relation.TheVariants.{Eq, Ne, Lt, Le, Gt, Ge}
use Rattle.pfc_tree.specs.declared.tree.AddOp.{AddOp}
use Rattle.pfc_tree.specs.declared.tree.AddOp.TheVariants.{Add, Sub, Or}
use Rattle.pfc_tree.specs.declared.tree.MulOp.{MulOp}
use Rattle.pfc_tree.specs.declared.tree.MulOp.TheVariants.{Mul, Div, Mod, And}
use Rattle.pfc_tree.specs.trees.Exprs.{ExprTree, SimpleTree, SummandTrees, TermTree, MultiplierTrees, FactorTree, DesigTree, SelectorTrees, ExprTrees}
use Rattle.pfc_tree.specs.trees.Exprs.{ActualTree, ActualTrees, plain, related, sum, no_summands, more_summands, product, no_multipliers, more_multipliers}
use Rattle.pfc_tree.specs.trees.Exprs.{number, literal, negation, paren, applied as used, desig, index, field, no_selectors, more_selectors, no_exprs}
use Rattle.pfc_tree.specs.trees.Exprs.{more_exprs, actual, actual_width, no_actuals, more_actuals}
use Rattle.pfc_types.specs.Scopes.{meaning_of}
use Rattle.pfc_types.specs.Blocks.{sub_at}
use Rattle.pfc_types.specs.rules.Expressions.{find, first_type, field_type, selected}
use Rattle.pfc_types.specs.declared.types.TypeId.{TypeId}
use Rattle.pfc_types.specs.declared.scope.Meaning.{Meaning}
use Rattle.pfc_types.specs.declared.scope.Meaning.TheVariants.{Constant, Variable, Sub as ASub, Predeclared}
use Rattle.pfc_types.specs.declared.heads.Formal.{Formal}
use Rattle.pfc_types.specs.declared.heads.SubHead.{SubHead}
use Rattle.pfc_types.specs.declared.view.Found.{Found}
use Rattle.pfc_values.specs.declared.simple.Simple.{Simple}
use Rattle.pfc_values.specs.declared.simple.Simple.TheVariants.{Integer, Boolean, Char}
use Rattle.pfc_semantics.specs.Predeclared.{Function, abs, sqr, odd, ord, chr, succ, pred, eof, eoln, empty, clock, random, no_function, function_of}
use Rattle.pfc_semantics.specs.Operators.{simple_of}
use Rattle.pfc_semantics.specs.Programs.{block_at, block_number}
use Rattle.pfc_semantics.specs.Expressions.{char_in, form_in, spot_of}
use Rattle.pfc_translation.specs.Sites.{Site, forms_of, blocks_of, type_cells, links_to}
use Rattle.pfc_translation.specs.Codes.{Code, nothing, ◌⨾◌, one}
use Rattle.pfc_translation.specs.Addresses.{base_code, element_in, type_behind, index_instr, field_cell}

-- ## Instructions of operators and functions

abbrev pub relation_instr : Relation → Instr
relation_instr Eq = EQ
relation_instr Ne = NE
relation_instr Lt = LT
relation_instr Le = LE
relation_instr Gt = GT
relation_instr Ge = GE

abbrev pub add_instr : AddOp → Instr
add_instr Add = ADD
add_instr Sub = SUB
add_instr Or = OR

abbrev pub multiply_instr : MulOp → Instr
multiply_instr Mul = MUL
multiply_instr Div = DIV
multiply_instr Mod = MOD
multiply_instr And = AND

-- `-t`: t, NEG; `+t`: t
abbrev pub sign_code : Site → Option (Sign × Place) → Code
sign_code s None = nothing
sign_code s (Some (Plus, p)) = nothing
sign_code s (Some (Minus, p)) = one s NEG

-- the number by which an instruction names a simple type
abbrev pub simple_number : Simple → ℕ
simple_number Integer = 0
simple_number Boolean = 1
simple_number Char = 2

-- A predeclared function: its argument, and the instruction. `ord(e)` is e; `eof`, `eoln` and `clock` have no argument; that of `empty` is
-- a condition, as an object. The code of the argument as a value and as an address is given.
abbrev pub function_code : Site → Function → Option TypeId → Code → Code → Code
function_code s abs t value address = value ⨾ one s ABS
function_code s sqr t value address = value ⨾ one s SQR
function_code s odd t value address = value ⨾ one s ODD
function_code s ord t value address = value
function_code s chr t value address = value ⨾ one s CHR
function_code s succ t value address = value ⨾ one s (SUCC (simple_number (simple_of t)))
function_code s pred t value address = value ⨾ one s (PRED (simple_number (simple_of t)))
function_code s eof t value address = one s EOF
function_code s eoln t value address = one s EOLN
function_code s empty t value address = address ⨾ one s OBJ ⨾ one s EMPTY
function_code s clock t value address = one s CLOCK
function_code s random t value address = value ⨾ one s RAND
function_code s no_function t value address = nothing

-- the call of a sub: its block, and the static links from here to the activation around it
abbrev pub call_instr : Site → SubHead → Instr
call_instr s head = CALL (block_number s.program head.scope) (links_to s (block_at s.program head.scope).outer)

-- A name with its selectors or arguments: a constant is LIT n; a variable as a value its address, LOAD z; a function call its arguments,
-- CALL b l. The code of the address, of the arguments by their parameters, and of a predeclared function is given.
abbrev pub name_code : Site → Option Meaning → SelectorTrees → Code → (List Formal → Code) → (Function → Code) → Code
name_code s (Some (Constant t n)) ss address args predeclared = one s (LIT n)
name_code s (Some (Variable t reference)) ss address args predeclared =
    address ⨾ one s (LOAD (type_cells (forms_of s) (selected s.env (Some t) ss)))
name_code s (Some (ASub n)) ss address args predeclared = let head = sub_at (blocks_of s) n in args head.formals ⨾ one s (call_instr s head)
name_code s (Some (Predeclared k)) ss address args predeclared = predeclared (function_of k)
name_code s m ss address args predeclared = nothing

-- ## Expressions

abbrev mutual
  -- a op b: a, b, op
  pub expr_code : Site → ExprTree → Code
  expr_code s (plain a p) = simple_code s a
  expr_code s (related a r b p) = simple_code s a ⨾ simple_code s b ⨾ one s (relation_instr r.0)

  pub simple_code : Site → SimpleTree → Code
  simple_code s (sum sign first rest) = term_code s first ⨾ sign_code s sign ⨾ summands_code s rest

  pub summands_code : Site → SummandTrees → Code
  summands_code s no_summands = nothing
  summands_code s (more_summands op t rest) = term_code s t ⨾ one s (add_instr op.0) ⨾ summands_code s rest

  pub term_code : Site → TermTree → Code
  term_code s (product f rest) = factor_code s f ⨾ multipliers_code s rest

  pub multipliers_code : Site → MultiplierTrees → Code
  multipliers_code s no_multipliers = nothing
  multipliers_code s (more_multipliers op f rest) = factor_code s f ⨾ one s (multiply_instr op.0) ⨾ multipliers_code s rest

  -- a number, a char: LIT n; `not a`: a, NOT; parentheses give nothing
  pub factor_code : Site → FactorTree → Code
  factor_code s (number n p) = one s (LIT n)
  factor_code s (literal x p) = one s (LIT (char_in x))
  factor_code s (negation f p) = factor_code s f ⨾ one s NOT
  factor_code s (paren e p) = expr_code s e
  factor_code s (used (desig x ss q) args p) =
      let found = find s.env x in
      let v = spot_of s.env found in
      name_code s (meaning_of found) ss (base_code s v.spot ⨾ selectors_code s v.t ss)
      (λ formals. args_code s formals args)
      (λ f. function_code s f (first_type s.env args) (first_value s args) (first_address s args))

  -- the first argument, as a value and as an address
  pub first_value : Site → ActualTrees → Code
  first_value s no_actuals = nothing
  first_value s (more_actuals a rest) = actual_code s a

  pub first_address : Site → ActualTrees → Code
  first_address s no_actuals = nothing
  first_address s (more_actuals a rest) = lent_code s a

  pub actual_code : Site → ActualTree → Code
  actual_code s (actual e) = expr_code s e
  actual_code s (actual_width e w) = expr_code s e

  -- an argument for a reference: the address
  pub lent_code : Site → ActualTree → Code
  lent_code s (actual e) = variable_code s e
  lent_code s (actual_width e w) = variable_code s e

  pub variable_code : Site → ExprTree → Code
  variable_code s (plain (sum None (product (used (desig x ss q) no_actuals p) no_multipliers) no_summands) r) =
      let v = spot_of s.env (find s.env x) in base_code s v.spot ⨾ selectors_code s v.t ss
  variable_code s e = nothing

  -- each argument: its value, or its address for a reference
  pub args_code : Site → List Formal → ActualTrees → Code
  args_code s formals no_actuals = nothing
  args_code s [] (more_actuals a rest) = nothing
  args_code s (f ∷ formals) (more_actuals a rest) = (if f.reference then lent_code s a else actual_code s a) ⨾ args_code s formals rest

  -- behind a variable's address, for each selector: the index expression and IDX lo hi z, or FLD k
  pub selectors_code : Site → Option TypeId → SelectorTrees → Code
  selectors_code s t no_selectors = nothing
  selectors_code s t (more_selectors (index es p) ss) = indices_code s t es ⨾ selectors_code s (type_behind (forms_of s) t es) ss
  selectors_code s t (more_selectors (field x p) ss) =
      one s (FLD (field_cell (forms_of s) (form_in (forms_of s) t) x)) ⨾ selectors_code s (field_type (forms_of s) t x) ss

  pub indices_code : Site → Option TypeId → ExprTrees → Code
  indices_code s t no_exprs = nothing
  indices_code s t (more_exprs e es) =
      expr_code s e ⨾ one s (index_instr (forms_of s) (form_in (forms_of s) t)) ⨾ indices_code s (element_in (forms_of s) t) es

-- the address of a variable with its selectors
abbrev pub address_code : Site → Option Found → SelectorTrees → Code
address_code s found ss = let v = spot_of s.env found in base_code s v.spot ⨾ selectors_code s v.t ss

abbrev pub desig_code : Site → DesigTree → Code
desig_code s (desig x ss p) = address_code s (find s.env x) ss

-- an object: its address, OBJ
abbrev pub object_code : Site → DesigTree → Code
object_code s d = desig_code s d ⨾ one s OBJ
