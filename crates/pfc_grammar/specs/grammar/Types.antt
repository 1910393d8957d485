-- The readers of constants, types and groups of parameters. Each is a line of the grammar, which stands above it; `t`
-- reads a type one level deeper.
use Rattle.std.specs.Prelude.{ℕ, zero, suc, List, [], ◌∷◌, Bool, true, false, Option, Some, None}
use Rattle.pfc_base.specs.declared.word.TheConstants.{ARRAY, CHANNEL, END, OF, RECORD, VAR}
use Rattle.pfc_base.specs.declared.sign.TheConstants.{EQUAL, OPEN_PAREN, CLOSE_PAREN, OPEN_BRACKET, CLOSE_BRACKET, DOT_DOT, COMMA, SEMICOLON, COLON}
use Rattle.pfc_tree.specs.declared.tree.Sign as plus_or_minus
use Rattle.pfc_tree.specs.Symbols.{Text}
use Rattle.pfc_tree.specs.shapes.Types.{ConstantShape, RangeShape, ConstItemShape, TypeItemShape, GroupShape, TypeShape, VarShape, VarShapes, number, constant}
use Rattle.pfc_tree.specs.shapes.Types.{literal, named, channel, array, fields, var_item, no_vars, more_vars}
use Rattle.pfc_grammar.specs.Reading.{Reader, pure, ◌>>=◌, stop, stop_deep, branch, choose, take_as, many_onto, some_of, list_of, list_end}
use Rattle.pfc_grammar.specs.Heads.{as_word, as_sign, as_name, as_number, as_literal, as_plus_minus, is_word, begins_type}

abbrev pub vars_of : List VarShape → VarShapes
vars_of [] = no_vars
vars_of (v ∷ vs) = more_vars v (vars_of vs)

-- behind the first name x: {"," name}
unfoldable pub names_behind : Text → Reader (List Text)
names_behind x = many_onto (x ∷ []) (as_sign COMMA) (λ t. take_as as_name)

-- name {"," name}
unfoldable pub names : Reader (List Text)
names = do
  x ← take_as as_name
  names_behind x

-- behind its sign: number | name
unfoldable pub constant_behind : Option plus_or_minus.Sign → Reader ConstantShape
constant_behind sign = branch as_number (λ n. pure (number sign n)) (branch as_name (λ x. pure (constant sign x)) stop)

-- constant = ["+" | "-"] (number | name) | literal
unfoldable pub constant_reader : Reader ConstantShape
constant_reader = branch as_literal (λ x. pure (literal x)) (branch as_plus_minus (λ s. constant_behind (Some s)) (constant_behind None))

-- range = constant ".." constant
unfoldable pub range : Reader RangeShape
range = do
  low ← constant_reader
  t ← take_as (as_sign DOT_DOT)
  high ← constant_reader
  pure (record { low = low; high = high })

-- behind the first name x: {"," name} ":" type
unfoldable pub var_behind : Reader TypeShape → Text → Reader VarShape
var_behind t x = do
  xs ← names_behind x
  u ← take_as (as_sign COLON)
  form ← t
  pure (var_item xs form)

-- fields = name {"," name} ":" type
unfoldable pub var_with : Reader TypeShape → Reader VarShape
var_with t = do
  x ← take_as as_name
  var_behind t x

-- behind `channel`: "of" type
unfoldable pub channel_behind : Reader TypeShape → Reader TypeShape
channel_behind t = do
  u ← take_as (as_word OF)
  form ← t
  pure (channel form)

-- behind `array`: "[" range {"," range} "]" "of" type
unfoldable pub array_behind : Reader TypeShape → Reader TypeShape
array_behind t = do
  u ← take_as (as_sign OPEN_BRACKET)
  rs ← list_of (as_sign COMMA) range
  v ← take_as (as_sign CLOSE_BRACKET)
  w ← take_as (as_word OF)
  form ← t
  pure (array rs form)

-- behind `record`: fields {";" fields} [";"] "end"
unfoldable pub record_behind : Reader TypeShape → Reader TypeShape
record_behind t = do
  vs ← list_end (as_sign SEMICOLON) (is_word END) (var_with t)
  u ← take_as (as_word END)
  pure (fields (vars_of vs.0) vs.1)

-- type = name | "channel" "of" type | "array" "[" range {"," range} "]" "of" type
--      | "record" fields {";" fields} [";"] "end"
unfoldable pub type_with : Reader TypeShape → Reader TypeShape
type_with t = branch as_name (λ x. pure (named x)) (branch (as_word CHANNEL) (λ u. channel_behind t) (branch (as_word ARRAY) (λ u. array_behind t)
    (branch (as_word RECORD) (λ u. record_behind t) stop)))

-- a type where n levels are left, of which it takes one
unfoldable pub type_at : ℕ → Reader TypeShape
type_at zero = choose begins_type stop_deep stop
type_at (suc n) = type_with (type_at n)

-- behind its name x: "=" constant ";"
unfoldable pub const_item_behind : Text → Reader ConstItemShape
const_item_behind x = do
  t ← take_as (as_sign EQUAL)
  value ← constant_reader
  u ← take_as (as_sign SEMICOLON)
  pure (record { name = x; value = value })

-- (name "=" constant ";")+
unfoldable pub const_items : Reader (List ConstItemShape)
const_items = some_of as_name const_item_behind

-- behind its name x: "=" type ";"
unfoldable pub type_item_behind : Reader TypeShape → Text → Reader TypeItemShape
type_item_behind t x = do
  u ← take_as (as_sign EQUAL)
  form ← t
  v ← take_as (as_sign SEMICOLON)
  pure (record { name = x; form = form })

-- (name "=" type ";")+
unfoldable pub type_items : Reader TypeShape → Reader (List TypeItemShape)
type_items t = some_of as_name (type_item_behind t)

-- behind the first name x: {"," name} ":" type ";"
unfoldable pub var_item_behind : Reader TypeShape → Text → Reader VarShape
var_item_behind t x = do
  v ← var_behind t x
  u ← take_as (as_sign SEMICOLON)
  pure v

-- (name {"," name} ":" type ";")+
unfoldable pub var_items : Reader TypeShape → Reader (List VarShape)
var_items t = some_of as_name (var_item_behind t)

-- behind its `var`: name {"," name} ":" name
unfoldable pub group_behind : Bool → Reader GroupShape
group_behind reference = do
  xs ← names
  t ← take_as (as_sign COLON)
  form ← take_as as_name
  pure (record { reference = reference; names = xs; form = form })

-- group = ["var"] name {"," name} ":" name
unfoldable pub group : Reader GroupShape
group = branch (as_word VAR) (λ t. group_behind true) (group_behind false)

-- [formals], where formals = "(" group {";" group} ")"
unfoldable pub formals : Reader (List GroupShape)
formals = branch (as_sign OPEN_PAREN) (λ t. do
  gs ← list_of (as_sign SEMICOLON) group
  u ← take_as (as_sign CLOSE_PAREN)
  pure gs) (pure [])
