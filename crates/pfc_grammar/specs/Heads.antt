-- What one symbol says: a word, a sign, a name, a number, a literal or an operator.
use Rattle.std.specs.Prelude.{ℕ, ℤ, pos, negsuc, Bool, true, false, ◌||◌, Option, Some, None, nat_eq}
use Rattle.pfc_base.specs.declared.tokens.Kind.TheVariants.{Word, Sign, Name, Number, Literal}
use Rattle.pfc_base.specs.declared.word.TheConstants.{ACCEPT, AND, ARRAY, BEGIN, CASE, CHANNEL, COBEGIN, CONST, DIV, DOWNTO, FOR, FUNCTION, GUARDED, IF, MOD}
use Rattle.pfc_base.specs.declared.word.TheConstants.{MONITOR, NOT, NULL, OR, PRI, PROCEDURE, PROCESS, RECORD, REPEAT, REQUEUE, RESOURCE, SELECT, TO, TYPE, VAR}
use Rattle.pfc_base.specs.declared.word.TheConstants.{WHILE}
use Rattle.pfc_base.specs.declared.sign.TheConstants.{PLUS, MINUS, STAR, EQUAL, NOT_EQUAL, LESS, LESS_EQUAL, GREATER, GREATER_EQUAL, OPEN_PAREN, OPEN_BRACKET}
use Rattle.pfc_base.specs.declared.sign.TheConstants.{DOT}
use Rattle.pfc_tree.specs.declared.tree.Sign as plus_or_minus
use Rattle.pfc_tree.specs.declared.tree.Sign.TheVariants.{Plus, Minus}
use Rattle.pfc_tree.specs.declared.tree.Relation.{Relation}
use Rattle.pfc_tree.specs.declared.tree.Relation.TheVariants.{Eq, Ne, Lt, Le, Gt, Ge}
use Rattle.pfc_tree.specs.declared.tree.AddOp.{AddOp}
use Rattle.pfc_tree.specs.declared.tree.AddOp.TheVariants.{Add, Sub, Or}
use Rattle.pfc_tree.specs.declared.tree.MulOp.{MulOp}
use Rattle.pfc_tree.specs.declared.tree.MulOp.TheVariants.{Mul, Div, Mod, And}
use Rattle.pfc_tree.specs.Symbols.{Symbol, Text}
use Rattle.pfc_tree.specs.lawful.Parts.{Home, of_program, of_resource, of_other}

-- x where the numbers are equal, or else what is said otherwise
abbrev pub if_equal : {O : Type 0} → ℕ → ℕ → O → Option O → Option O
if_equal n w x other = elim (nat_eq n w) [ true ↦ Some x | false ↦ other ]

-- the word w
abbrev pub as_word : ℕ → Symbol → Option (Unit {0})
as_word w (Word n) = if_equal n w tt None
as_word w (Sign n) = None
as_word w (Name x) = None
as_word w (Number n) = None
as_word w (Literal x) = None

-- the sign g
abbrev pub as_sign : ℕ → Symbol → Option (Unit {0})
as_sign g (Word n) = None
as_sign g (Sign n) = if_equal n g tt None
as_sign g (Name x) = None
as_sign g (Number n) = None
as_sign g (Literal x) = None

-- a name
abbrev pub as_name : Symbol → Option Text
as_name (Word n) = None
as_name (Sign n) = None
as_name (Name x) = Some x
as_name (Number n) = None
as_name (Literal x) = None

-- a number, which a text has without a sign
abbrev pub as_number : Symbol → Option ℤ
as_number (Word n) = None
as_number (Sign n) = None
as_number (Name x) = None
as_number (Number (pos n)) = Some (pos n)
as_number (Number (negsuc n)) = None
as_number (Literal x) = None

-- a literal
abbrev pub as_literal : Symbol → Option Text
as_literal (Word n) = None
as_literal (Sign n) = None
as_literal (Name x) = None
as_literal (Number n) = None
as_literal (Literal x) = Some x

-- `+` or `-` before a constant or a sum
abbrev pub as_plus_minus : Symbol → Option plus_or_minus.Sign
as_plus_minus (Word n) = None
as_plus_minus (Sign n) = if_equal n PLUS Plus (if_equal n MINUS Minus None)
as_plus_minus (Name x) = None
as_plus_minus (Number n) = None
as_plus_minus (Literal x) = None

-- an operator between two sums
abbrev pub as_relation : Symbol → Option Relation
as_relation (Word n) = None
as_relation (Sign n) =
    if_equal n EQUAL Eq (if_equal n NOT_EQUAL Ne (if_equal n LESS Lt (if_equal n LESS_EQUAL Le (if_equal n GREATER Gt (if_equal n GREATER_EQUAL Ge None)))))
as_relation (Name x) = None
as_relation (Number n) = None
as_relation (Literal x) = None

-- an operator between two terms
abbrev pub as_add_op : Symbol → Option AddOp
as_add_op (Word n) = if_equal n OR Or None
as_add_op (Sign n) = if_equal n PLUS Add (if_equal n MINUS Sub None)
as_add_op (Name x) = None
as_add_op (Number n) = None
as_add_op (Literal x) = None

-- an operator between two factors
abbrev pub as_mul_op : Symbol → Option MulOp
as_mul_op (Word n) = if_equal n DIV Div (if_equal n MOD Mod (if_equal n AND And None))
as_mul_op (Sign n) = if_equal n STAR Mul None
as_mul_op (Name x) = None
as_mul_op (Number n) = None
as_mul_op (Literal x) = None

-- what begins a selector: `[`, which is true, or `.`
abbrev pub as_selector : Symbol → Option Bool
as_selector (Word n) = None
as_selector (Sign n) = if_equal n OPEN_BRACKET true (if_equal n DOT false None)
as_selector (Name x) = None
as_selector (Number n) = None
as_selector (Literal x) = None

-- the direction of a `for`: `downto` is true, `to` is false
abbrev pub as_direction : Symbol → Option Bool
as_direction (Word n) = if_equal n TO false (if_equal n DOWNTO true None)
as_direction (Sign n) = None
as_direction (Name x) = None
as_direction (Number n) = None
as_direction (Literal x) = None

-- the word w, where a resource's parts stand
abbrev pub as_word_of_resource : Home → ℕ → Symbol → Option (Unit {0})
as_word_of_resource of_program w s = None
as_word_of_resource of_resource w s = as_word w s
as_word_of_resource of_other w s = None

-- the word w, where a program's parts stand
abbrev pub as_word_of_program : Home → ℕ → Symbol → Option (Unit {0})
as_word_of_program of_program w s = as_word w s
as_word_of_program of_resource w s = None
as_word_of_program of_other w s = None

-- whether a symbol is taken
abbrev pub takes : {O : Type 0} → Option O → Bool
takes (Some o) = true
takes None = false

-- the word w
abbrev pub is_word : ℕ → Symbol → Bool
is_word w s = takes (as_word w s)

-- the first symbol of a factor
abbrev pub begins_factor : Symbol → Bool
begins_factor s = takes (as_number s) || takes (as_literal s) || is_word NOT s || takes (as_sign OPEN_PAREN s) || takes (as_name s)

-- the first symbol of an expression
abbrev pub begins_expr : Symbol → Bool
begins_expr s = takes (as_plus_minus s) || begins_factor s

-- the first symbol of a type
abbrev pub begins_type : Symbol → Bool
begins_type s = takes (as_name s) || is_word CHANNEL s || is_word ARRAY s || is_word RECORD s

-- the first symbol of a statement that is not empty
abbrev pub begins_stmt : Symbol → Bool
begins_stmt s = takes (as_name s) || is_word NULL s || is_word BEGIN s || is_word IF s || is_word CASE s || is_word WHILE s || is_word REPEAT s ||
    is_word FOR s || is_word COBEGIN s || is_word ACCEPT s || is_word REQUEUE s || is_word PRI s || is_word SELECT s

-- the first symbol of a part that is a block
abbrev pub begins_block : Home → Symbol → Bool
begins_block h s = is_word PROCEDURE s || is_word FUNCTION s || takes (as_word_of_resource h GUARDED s) || takes (as_word_of_program h MONITOR s) || takes
    (as_word_of_program h RESOURCE s) || takes (as_word_of_program h PROCESS s)

-- the first symbol of a part
abbrev pub begins_part : Home → Symbol → Bool
begins_part h s = is_word CONST s || is_word TYPE s || is_word VAR s || begins_block h s
