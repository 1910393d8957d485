-- The code of expressions, of variables and of arguments as lists of instructions with their lines: it has no jump, so it is the same
-- wherever it stands.
use Rattle.std.specs.Prelude.{ℕ, Bool, true, false, ◌&&◌, is_none, if◌then◌else◌, List, [], ◌∷◌, ◌++◌, Option, Some, None}
use Rattle.pfc_base.specs.declared.places.Place.{Place}
use Rattle.pfc_code.specs.declared.instructions.Instr.{Instr}
use Rattle.pfc_code.specs.declared.instructions.Instr.TheVariants.{LIT, FLD, LOAD, OBJ, NEG, ABS, SQR, ODD, CHR, SUCC, PRED, NOT, EMPTY, CLOCK, RAND, EOF, EOLN}
use Rattle.pfc_tree.specs.declared.tree.Sign.{Sign}
use Rattle.pfc_tree.specs.declared.tree.Sign.TheVariants.{Plus, Minus}
use Rattle.pfc_tree.specs.trees.Exprs.{ExprTree, SimpleTree, SummandTrees, TermTree, MultiplierTrees, FactorTree, DesigTree, SelectorTrees, ExprTrees}
use Rattle.pfc_tree.specs.trees.Exprs.{ActualTree, ActualTrees, plain, related, sum, no_summands, more_summands, product, no_multipliers, more_multipliers}
use Rattle.pfc_tree.specs.trees.Exprs.{number, literal, negation, paren, applied as used, desig, index, field, no_selectors, more_selectors, no_exprs}
use Rattle.pfc_tree.specs.trees.Exprs.{more_exprs, actual, actual_width, no_actuals, more_actuals}
use Rattle.pfc_types.specs.Scopes.{meaning_of}
use Rattle.pfc_types.specs.Types.{Forms}
use Rattle.pfc_types.specs.Blocks.{Blocks, sub_at}
use Rattle.pfc_types.specs.declared.heads.SubHead.{SubHead}
use Rattle.pfc_types.specs.rules.Expressions.{Env, find, first_type, field_type, selected}
use Rattle.pfc_types.specs.declared.types.TypeId.{TypeId}
use Rattle.pfc_types.specs.declared.scope.Meaning.{Meaning}
use Rattle.pfc_types.specs.declared.scope.Meaning.TheVariants.{Constant, Variable, Sub as ASub, Predeclared}
use Rattle.pfc_types.specs.declared.heads.Formal.{Formal}
use Rattle.pfc_semantics.specs.Displays.{Spot, TypedSpot}
use Rattle.pfc_semantics.specs.Predeclared.{Function, abs, sqr, odd, ord, chr, succ, pred, eof, eoln, empty, clock, random, no_function, function_of}
use Rattle.pfc_semantics.specs.Operators.{simple_of}
use Rattle.pfc_semantics.specs.Expressions.{char_in, form_in, spot_of}
use Rattle.pfc_translation.specs.Sites.{Site, forms_of, blocks_of, type_cells}
use Rattle.pfc_translation.specs.Codes.{Lined}
use Rattle.pfc_addresses.specs.Instructions.{base_instr}
use Rattle.pfc_addresses.specs.Sites.{site_view}
use Rattle.pfc_addresses.specs.declared.sites.Site as addresses
use Rattle.pfc_translation.specs.Addresses.{element_in, type_behind, index_instr, field_cell}
use Rattle.pfc_translation.specs.Expressions.{relation_instr, add_instr, multiply_instr, simple_number, call_instr}

-- what the code of an expression asks of the place where it stands
pub record Ways : Type 0 where
  pub env : Env
  pub forms : Forms
  pub blocks : Blocks
  pub line : ℕ
  -- the address of a variable, and the call of a sub
  pub base : Spot → Instr
  pub call : SubHead → Instr

abbrev pub ways_of : Site → Ways
ways_of s =
    record {
      env = s.env;
      forms = forms_of s;
      blocks = blocks_of s;
      line = s.line;
      base = λ v. base_instr s v;
      call = λ head. call_instr s head;
    }

unfoldable pub ways_in : addresses.Site → Ways
ways_in site = ways_of (site_view site)

-- one instruction
abbrev pub single : Ways → Instr → Lined
single s i = (i, s.line) ∷ []

abbrev pub sign_list : Ways → Option (Sign × Place) → Lined
sign_list s None = []
sign_list s (Some (Plus, p)) = []
sign_list s (Some (Minus, p)) = single s NEG

-- loads a part of a variable of type t
abbrev pub load_instr : Ways → TypeId → SelectorTrees → Instr
load_instr s t ss = LOAD (type_cells s.forms (selected s.env (Some t) ss))

-- the number by which an instruction names the type of the first argument
abbrev pub first_number : Ways → ActualTrees → ℕ
first_number s args = simple_number (simple_of (first_type s.env args))

-- the code of the argument as a value and as an address is given
abbrev pub function_list : Ways → Function → Option TypeId → Lined → Lined → Lined
function_list s abs t value address = value ++ single s ABS
function_list s sqr t value address = value ++ single s SQR
function_list s odd t value address = value ++ single s ODD
function_list s ord t value address = value
function_list s chr t value address = value ++ single s CHR
function_list s succ t value address = value ++ single s (SUCC (simple_number (simple_of t)))
function_list s pred t value address = value ++ single s (PRED (simple_number (simple_of t)))
function_list s eof t value address = single s EOF
function_list s eoln t value address = single s EOLN
function_list s empty t value address = address ++ (single s OBJ ++ single s EMPTY)
function_list s clock t value address = single s CLOCK
function_list s random t value address = value ++ single s RAND
function_list s no_function t value address = []

abbrev pub name_list : Ways → Option Meaning → SelectorTrees → Lined → (List Formal → Lined) → (Function → Lined) → Lined
name_list s (Some (Constant t n)) ss address args predeclared = single s (LIT n)
name_list s (Some (Variable t reference)) ss address args predeclared =
    address ++ single s (load_instr s t ss)
name_list s (Some (ASub n)) ss address args predeclared = let head = sub_at s.blocks n in args head.formals ++ single s (s.call head)
name_list s (Some (Predeclared k)) ss address args predeclared = predeclared (function_of k)
name_list s m ss address args predeclared = []

-- these where no arguments are behind a name
abbrev pub lone_list : ActualTrees → Lined → Lined
lone_list no_actuals l = l
lone_list (more_actuals a rest) l = []

-- whether a sum is one factor alone, without sign and operators
abbrev pub no_summand : SummandTrees → Bool
no_summand no_summands = true
no_summand (more_summands op t rest) = false

abbrev pub no_multiplier : MultiplierTrees → Bool
no_multiplier no_multipliers = true
no_multiplier (more_multipliers op f rest) = false

abbrev pub is_lone_term : TermTree → Bool
is_lone_term (product f rest) = no_multiplier rest

abbrev pub is_lone_simple : SimpleTree → Bool
is_lone_simple (sum sign first rest) = (is_none sign && no_summand rest) && is_lone_term first

abbrev mutual
  pub expr_list : Ways → ExprTree → Lined
  expr_list s (plain a p) = simple_list s a
  expr_list s (related a r b p) = simple_list s a ++ (simple_list s b ++ single s (relation_instr r.0))

  pub simple_list : Ways → SimpleTree → Lined
  simple_list s (sum sign first rest) = term_list s first ++ (sign_list s sign ++ summands_list s rest)

  pub summands_list : Ways → SummandTrees → Lined
  summands_list s no_summands = []
  summands_list s (more_summands op t rest) = term_list s t ++ (single s (add_instr op.0) ++ summands_list s rest)

  pub term_list : Ways → TermTree → Lined
  term_list s (product f rest) = factor_list s f ++ multipliers_list s rest

  pub multipliers_list : Ways → MultiplierTrees → Lined
  multipliers_list s no_multipliers = []
  multipliers_list s (more_multipliers op f rest) = factor_list s f ++ (single s (multiply_instr op.0) ++ multipliers_list s rest)

  pub factor_list : Ways → FactorTree → Lined
  factor_list s (number n p) = single s (LIT n)
  factor_list s (literal x p) = single s (LIT (char_in x))
  factor_list s (negation f p) = factor_list s f ++ single s NOT
  factor_list s (paren e p) = expr_list s e
  factor_list s (used (desig x ss q) args p) =
      let found = find s.env x in
      let v = spot_of s.env found in
      name_list s (meaning_of found) ss (single s (s.base v.spot) ++ selectors_list s v.t ss)
      (λ formals. args_list s formals args)
      (λ f. function_list s f (first_type s.env args) (first_value_list s args) (first_address_list s args))

  -- the first argument, as a value and as an address
  pub first_value_list : Ways → ActualTrees → Lined
  first_value_list s no_actuals = []
  first_value_list s (more_actuals a rest) = actual_list s a

  pub first_address_list : Ways → ActualTrees → Lined
  first_address_list s no_actuals = []
  first_address_list s (more_actuals a rest) = lent_list s a

  pub actual_list : Ways → ActualTree → Lined
  actual_list s (actual e) = expr_list s e
  actual_list s (actual_width e w) = expr_list s e

  -- an argument for a reference: the address
  pub lent_list : Ways → ActualTree → Lined
  lent_list s (actual e) = variable_list s e
  lent_list s (actual_width e w) = variable_list s e

  -- a variable alone, without sign, operators, relation and arguments
  pub variable_list : Ways → ExprTree → Lined
  variable_list s (plain x p) = lone_simple_list s x
  variable_list s (related x r y p) = []

  pub lone_simple_list : Ways → SimpleTree → Lined
  lone_simple_list s (sum None t no_summands) = lone_term_list s t
  lone_simple_list s e = []

  pub lone_term_list : Ways → TermTree → Lined
  lone_term_list s (product f no_multipliers) = lone_factor_list s f
  lone_term_list s (product f (more_multipliers op g rest)) = []

  pub lone_factor_list : Ways → FactorTree → Lined
  lone_factor_list s (used (desig x ss q) args p) =
      let v = spot_of s.env (find s.env x) in lone_list args (single s (s.base v.spot) ++ selectors_list s v.t ss)
  lone_factor_list s f = []

  pub args_list : Ways → List Formal → ActualTrees → Lined
  args_list s formals no_actuals = []
  args_list s [] (more_actuals a rest) = []
  args_list s (f ∷ formals) (more_actuals a rest) = (if f.reference then lent_list s a else actual_list s a) ++ args_list s formals rest

  pub selectors_list : Ways → Option TypeId → SelectorTrees → Lined
  selectors_list s t no_selectors = []
  selectors_list s t (more_selectors (index es p) ss) = indices_list s t es ++ selectors_list s (type_behind s.forms t es) ss
  selectors_list s t (more_selectors (field x p) ss) =
      single s (FLD (field_cell s.forms (form_in s.forms t) x)) ++ selectors_list s (field_type s.forms t x) ss

  pub indices_list : Ways → Option TypeId → ExprTrees → Lined
  indices_list s t no_exprs = []
  indices_list s t (more_exprs e es) =
      expr_list s e ++ (single s (index_instr s.forms (form_in s.forms t)) ++ indices_list s (element_in s.forms t) es)

-- a variable with its selectors
abbrev pub part_list : Ways → TypedSpot → SelectorTrees → Lined
part_list s v ss = single s (s.base v.spot) ++ selectors_list s v.t ss

abbrev pub desig_list : Ways → DesigTree → Lined
desig_list s (desig x ss p) = part_list s (spot_of s.env (find s.env x)) ss

-- an object: its address, OBJ
abbrev pub object_list : Ways → DesigTree → Lined
object_list s d = desig_list s d ++ single s OBJ

-- the value of a part of a variable of type t
abbrev pub loaded_list : Ways → TypeId → DesigTree → Lined
loaded_list s t (desig x ss p) = desig_list s (desig x ss p) ++ single s (load_instr s t ss)

-- a call of the n-th sub
abbrev pub called_list : Ways → ℕ → ActualTrees → Lined
called_list s n args = let head = sub_at s.blocks n in args_list s head.formals args ++ single s (s.call head)
