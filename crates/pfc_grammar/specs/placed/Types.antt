-- The readers of constants, types and groups of parameters from tokens, with their places; `t` reads a type one level deeper.
use Rattle.std.specs.Prelude.{ℕ, zero, suc, List, [], ◌∷◌, Bool, true, false, Option, Some, None}
use Rattle.pfc_base.specs.declared.places.Place.{Place}
use Rattle.pfc_base.specs.declared.word.TheConstants.{ARRAY, CHANNEL, END, OF, RECORD, VAR}
use Rattle.pfc_base.specs.declared.sign.TheConstants.{EQUAL, OPEN_PAREN, CLOSE_PAREN, OPEN_BRACKET, CLOSE_BRACKET, DOT_DOT, COMMA, SEMICOLON, COLON}
use Rattle.pfc_tree.specs.declared.tree.Sign as plus_or_minus
use Rattle.pfc_tree.specs.declared.tree.Constant.{Constant}
use Rattle.pfc_tree.specs.declared.tree.Constant.TheVariants.{Number, Named, Literal}
use Rattle.pfc_tree.specs.declared.tree.Range.{Range}
use Rattle.pfc_tree.specs.declared.tree.ConstItem.{ConstItem}
use Rattle.pfc_tree.specs.Symbols.{Text}
use Rattle.pfc_tree.specs.trees.Types.{TypeTree, VarTree, TypeItemTree, GroupTree, named, channel, array, fields, var_item}
use Rattle.pfc_tree.specs.views.Types.{vars_of}
use Rattle.pfc_grammar.specs.Heads.{as_word, as_sign, as_name, as_number, as_literal, as_plus_minus, is_word, begins_type}
use Rattle.pfc_grammar.specs.placed.Reading.{Reader, pure, ◌>>=◌, stop, stop_deep, branch, choose, take_as, many_onto, some_of, list_of, list_end}

-- behind the first name x: {"," name}
unfoldable pub names_behind : Text × Place → Reader (List (Text × Place))
names_behind x = many_onto (x ∷ []) (as_sign COMMA) (λ t. take_as as_name)

-- name {"," name}
unfoldable pub names : Reader (List (Text × Place))
names = do
  x ← take_as as_name
  names_behind x

-- behind its sign: number | name
unfoldable pub constant_behind : Option (plus_or_minus.Sign × Place) → Reader Constant
constant_behind sign = branch as_number (λ n. pure (Number sign n.0 n.1)) (branch as_name (λ x. pure (Named sign x.0 x.1)) stop)

-- constant = ["+" | "-"] (number | name) | literal
unfoldable pub constant_reader : Reader Constant
constant_reader = branch as_literal (λ x. pure (Literal x.0 x.1)) (branch as_plus_minus (λ s. constant_behind (Some s)) (constant_behind None))

-- range = constant ".." constant
unfoldable pub range : Reader Range
range = do
  low ← constant_reader
  t ← take_as (as_sign DOT_DOT)
  high ← constant_reader
  pure (record { low = low; high = high })

-- behind the first name x: {"," name} ":" type
unfoldable pub var_behind : Reader TypeTree → Text × Place → Reader VarTree
var_behind t x = do
  xs ← names_behind x
  u ← take_as (as_sign COLON)
  form ← t
  pure (var_item xs form)

-- fields = name {"," name} ":" type
unfoldable pub var_with : Reader TypeTree → Reader VarTree
var_with t = do
  x ← take_as as_name
  var_behind t x

-- behind `channel`, which stands at p: "of" type
unfoldable pub channel_behind : Reader TypeTree → Place → Reader TypeTree
channel_behind t p = do
  u ← take_as (as_word OF)
  form ← t
  pure (channel form p)

-- behind `array`, which stands at p: "[" range {"," range} "]" "of" type
unfoldable pub array_behind : Reader TypeTree → Place → Reader TypeTree
array_behind t p = do
  u ← take_as (as_sign OPEN_BRACKET)
  rs ← list_of (as_sign COMMA) range
  v ← take_as (as_sign CLOSE_BRACKET)
  w ← take_as (as_word OF)
  form ← t
  pure (array rs form p)

-- behind `record`, which stands at p: fields {";" fields} [";"] "end"
unfoldable pub record_behind : Reader TypeTree → Place → Reader TypeTree
record_behind t p = do
  vs ← list_end (as_sign SEMICOLON) (is_word END) (var_with t)
  u ← take_as (as_word END)
  pure (fields (vars_of vs.0) vs.1 p)

-- type = name | "channel" "of" type | "array" "[" range {"," range} "]" "of" type
--      | "record" fields {";" fields} [";"] "end"
unfoldable pub type_with : Reader TypeTree → Reader TypeTree
type_with t = branch as_name (λ x. pure (named x.0 x.1)) (branch (as_word CHANNEL) (λ u. channel_behind t u.1) (branch (as_word ARRAY) (λ u. array_behind t u.1)
    (branch (as_word RECORD) (λ u. record_behind t u.1) stop)))

-- a type where n levels are left, of which it takes one
unfoldable pub type_at : ℕ → Reader TypeTree
type_at zero = choose begins_type stop_deep stop
type_at (suc n) = type_with (type_at n)

-- behind its name x: "=" constant ";"
unfoldable pub const_item_behind : Text × Place → Reader ConstItem
const_item_behind x = do
  t ← take_as (as_sign EQUAL)
  value ← constant_reader
  u ← take_as (as_sign SEMICOLON)
  pure (record { name = x.0; value = value; place = x.1 })

-- (name "=" constant ";")+
unfoldable pub const_items : Reader (List ConstItem)
const_items = some_of as_name const_item_behind

-- behind its name x: "=" type ";"
unfoldable pub type_item_behind : Reader TypeTree → Text × Place → Reader TypeItemTree
type_item_behind t x = do
  u ← take_as (as_sign EQUAL)
  form ← t
  v ← take_as (as_sign SEMICOLON)
  pure (record { name = x.0; form = form; place = x.1 })

-- (name "=" type ";")+
unfoldable pub type_items : Reader TypeTree → Reader (List TypeItemTree)
type_items t = some_of as_name (type_item_behind t)

-- behind the first name x: {"," name} ":" type ";"
unfoldable pub var_item_behind : Reader TypeTree → Text × Place → Reader VarTree
var_item_behind t x = do
  v ← var_behind t x
  u ← take_as (as_sign SEMICOLON)
  pure v

-- (name {"," name} ":" type ";")+
unfoldable pub var_items : Reader TypeTree → Reader (List VarTree)
var_items t = some_of as_name (var_item_behind t)

-- behind its `var`: name {"," name} ":" name
unfoldable pub group_behind : Bool → Reader GroupTree
group_behind reference = do
  xs ← names
  t ← take_as (as_sign COLON)
  form ← take_as as_name
  pure (record { reference = reference; names = xs; form = form })

-- group = ["var"] name {"," name} ":" name
unfoldable pub group : Reader GroupTree
group = branch (as_word VAR) (λ t. group_behind true) (group_behind false)

-- [formals], where formals = "(" group {";" group} ")"
unfoldable pub formals : Reader (List GroupTree)
formals = branch (as_sign OPEN_PAREN) (λ t. do
  gs ← list_of (as_sign SEMICOLON) group
  u ← take_as (as_sign CLOSE_PAREN)
  pure gs) (pure [])
