-- What constants, types and groups of parameters write. Each clause is one line of the grammar, which stands above it.
use Rattle.std.specs.Prelude.{Bool, true, false, List, [], ◌∷◌, ◌++◌}
use Rattle.pfc_base.specs.declared.tokens.Kind.TheVariants.{Word, Sign, Name, Number, Literal}
use Rattle.pfc_base.specs.declared.word.TheConstants.{ARRAY, CHANNEL, END, OF, RECORD, VAR}
use Rattle.pfc_base.specs.declared.sign.TheConstants.{EQUAL, OPEN_PAREN, CLOSE_PAREN, OPEN_BRACKET, CLOSE_BRACKET, DOT_DOT, COMMA, SEMICOLON, COLON}
use Rattle.pfc_tree.specs.Symbols.{Symbol, Text}
use Rattle.pfc_tree.specs.shapes.Types.{ConstantShape, RangeShape, ConstItemShape, TypeItemShape, GroupShape, TypeShape, VarShape, VarShapes, number, constant}
use Rattle.pfc_tree.specs.shapes.Types.{literal, named, channel, array, fields, var_item, no_vars, more_vars}
use Rattle.pfc_tree.specs.tokens.Exprs.{sign_tokens}

-- name {"," name}
abbrev pub comma_names_tokens : List Text → List Symbol
comma_names_tokens [] = []
comma_names_tokens (x ∷ xs) = Sign COMMA ∷ Name x ∷ comma_names_tokens xs

abbrev pub names_tokens : List Text → List Symbol
names_tokens [] = []
names_tokens (x ∷ xs) = Name x ∷ comma_names_tokens xs

-- constant = ["+" | "-"] (number | name) | literal
abbrev pub constant_tokens : ConstantShape → List Symbol
constant_tokens (number sign n) = sign_tokens sign ++ Number n ∷ []
constant_tokens (constant sign x) = sign_tokens sign ++ Name x ∷ []
constant_tokens (literal x) = Literal x ∷ []

-- constant {"," constant}
abbrev pub comma_constants_tokens : List ConstantShape → List Symbol
comma_constants_tokens [] = []
comma_constants_tokens (c ∷ cs) = Sign COMMA ∷ constant_tokens c ++ comma_constants_tokens cs

abbrev pub constants_tokens : List ConstantShape → List Symbol
constants_tokens [] = []
constants_tokens (c ∷ cs) = constant_tokens c ++ comma_constants_tokens cs

-- range = constant ".." constant
abbrev pub range_tokens : RangeShape → List Symbol
range_tokens r = constant_tokens r.low ++ Sign DOT_DOT ∷ constant_tokens r.high

-- range {"," range}
abbrev pub comma_ranges_tokens : List RangeShape → List Symbol
comma_ranges_tokens [] = []
comma_ranges_tokens (r ∷ rs) = Sign COMMA ∷ range_tokens r ++ comma_ranges_tokens rs

abbrev pub ranges_tokens : List RangeShape → List Symbol
ranges_tokens [] = []
ranges_tokens (r ∷ rs) = range_tokens r ++ comma_ranges_tokens rs

-- [";"]
abbrev pub last_tokens : Bool → List Symbol
last_tokens false = []
last_tokens true = Sign SEMICOLON ∷ []

abbrev mutual
  -- type = name | "channel" "of" type
  --      | "array" "[" range {"," range} "]" "of" type
  --      | "record" fields {";" fields} [";"] "end"
  pub type_tokens : TypeShape → List Symbol
  type_tokens (named x) = Name x ∷ []
  type_tokens (channel t) = Word CHANNEL ∷ Word OF ∷ type_tokens t
  type_tokens (array rs t) = Word ARRAY ∷ Sign OPEN_BRACKET ∷ ranges_tokens rs ++ Sign CLOSE_BRACKET ∷ Word OF ∷ type_tokens t
  type_tokens (fields vs last) = Word RECORD ∷ fields_tokens vs ++ last_tokens last ++ Word END ∷ []

  -- fields = name {"," name} ":" type
  pub var_tokens : VarShape → List Symbol
  var_tokens (var_item xs t) = names_tokens xs ++ Sign COLON ∷ type_tokens t

  -- fields {";" fields}
  pub fields_tokens : VarShapes → List Symbol
  fields_tokens no_vars = []
  fields_tokens (more_vars v vs) = var_tokens v ++ semicolon_fields_tokens vs

  pub semicolon_fields_tokens : VarShapes → List Symbol
  semicolon_fields_tokens no_vars = []
  semicolon_fields_tokens (more_vars v vs) = Sign SEMICOLON ∷ var_tokens v ++ semicolon_fields_tokens vs

-- (name {"," name} ":" type ";")+
abbrev pub vars_tokens : VarShapes → List Symbol
vars_tokens no_vars = []
vars_tokens (more_vars v vs) = var_tokens v ++ Sign SEMICOLON ∷ vars_tokens vs

-- (name "=" constant ";")+
abbrev pub const_items_tokens : List ConstItemShape → List Symbol
const_items_tokens [] = []
const_items_tokens (i ∷ items) = Name i.name ∷ Sign EQUAL ∷ constant_tokens i.value ++ Sign SEMICOLON ∷ const_items_tokens items

-- (name "=" type ";")+
abbrev pub type_items_tokens : List TypeItemShape → List Symbol
type_items_tokens [] = []
type_items_tokens (i ∷ items) = Name i.name ∷ Sign EQUAL ∷ type_tokens i.form ++ Sign SEMICOLON ∷ type_items_tokens items

-- ["var"]
abbrev pub reference_tokens : Bool → List Symbol
reference_tokens false = []
reference_tokens true = Word VAR ∷ []

-- group = ["var"] name {"," name} ":" name
abbrev pub group_tokens : GroupShape → List Symbol
group_tokens g = reference_tokens g.reference ++ names_tokens g.names ++ Sign COLON ∷ Name g.form ∷ []

-- formals = "(" group {";" group} ")"
abbrev pub semicolon_groups_tokens : List GroupShape → List Symbol
semicolon_groups_tokens [] = Sign CLOSE_PAREN ∷ []
semicolon_groups_tokens (g ∷ gs) = Sign SEMICOLON ∷ group_tokens g ++ semicolon_groups_tokens gs

abbrev pub formals_tokens : List GroupShape → List Symbol
formals_tokens [] = []
formals_tokens (g ∷ gs) = Sign OPEN_PAREN ∷ group_tokens g ++ semicolon_groups_tokens gs
