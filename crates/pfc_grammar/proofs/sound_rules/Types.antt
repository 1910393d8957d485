-- The readers of constants, types and groups of parameters read lawful ones.
use Rattle.std.proofs.Common.{◌≡◌, ℕ, zero, suc, List, [], ◌∷◌, ◌++◌, Bool, true, false, ◌||◌, Option, Some, None, ◌⊎◌, inl, inr, refl, sym, ap, subst, ◌∙◌}
use Rattle.std.proofs.Common.{append_assoc}
use Rattle.pfc_base.specs.declared.tokens.Kind.TheVariants.{Word, Sign, Name, Literal}
use Rattle.pfc_base.specs.declared.word.TheConstants.{ARRAY, CHANNEL, END, OF, RECORD, VAR}
use Rattle.pfc_base.specs.declared.sign.TheConstants.{EQUAL, OPEN_PAREN, CLOSE_PAREN, OPEN_BRACKET, CLOSE_BRACKET, DOT_DOT, COMMA, SEMICOLON, COLON}
use Rattle.pfc_tree.specs.declared.tree.Sign as plus_or_minus
use Rattle.pfc_tree.specs.Symbols.{Symbol, Text}
use Rattle.pfc_tree.specs.shapes.Types.{ConstantShape, RangeShape, ConstItemShape, TypeItemShape, GroupShape, TypeShape, VarShape, number, constant, literal}
use Rattle.pfc_tree.specs.shapes.Types.{named, channel, array, fields, var_item, no_vars, more_vars}
use Rattle.pfc_tree.specs.tokens.Exprs.{sign_symbol, sign_tokens}
use Rattle.pfc_tree.specs.tokens.Types.{comma_names_tokens, names_tokens, constant_tokens, comma_constants_tokens, constants_tokens, range_tokens}
use Rattle.pfc_tree.specs.tokens.Types.{comma_ranges_tokens, ranges_tokens, last_tokens, type_tokens, var_tokens, fields_tokens, semicolon_fields_tokens}
use Rattle.pfc_tree.specs.tokens.Types.{vars_tokens, const_items_tokens, type_items_tokens, reference_tokens, group_tokens, semicolon_groups_tokens}
use Rattle.pfc_tree.specs.tokens.Types.{formals_tokens}
use Rattle.pfc_tree.specs.lawful.Types.{IsFilled, IsLawfulConstant, AreLawfulConstants, IsLawfulRange, AreLawfulRanges, IsLawfulType, IsLawfulVar}
use Rattle.pfc_tree.specs.lawful.Types.{AreLawfulFields, AreLawfulVars, AreLawfulConstItems, AreLawfulTypeItems, AreLawfulFormals}
use Rattle.pfc_grammar.specs.Reading.{Reader, take_as}
use Rattle.pfc_grammar.specs.Heads.{as_sign, as_name, takes, is_word, begins_type}
use Rattle.pfc_grammar.specs.grammar.Types.{vars_of, names_behind, names, constant_behind, constant_reader, range, var_behind, var_with, channel_behind}
use Rattle.pfc_grammar.specs.grammar.Types.{array_behind, record_behind, type_with, type_at, const_item_behind, const_items, type_item_behind, type_items}
use Rattle.pfc_grammar.specs.grammar.Types.{var_item_behind, var_items, group_behind, group, formals}
use Rattle.pfc_grammar.proofs.Lists.{none, or_cases, flat, flat-snoc, separated, Each}
use Rattle.pfc_grammar.proofs.Sound.{Sound, Goes, here, sound_pure, sound_stop, sound_any, sound_less, sound_bind, sound_last, sound_branch, sound_level}
use Rattle.pfc_grammar.proofs.SoundLoops.{sound_behind, sound_bind_behind, sound_many_onto, sound_some_each, sound_separated, sound_ended, last_of, Filled}
use Rattle.pfc_grammar.proofs.Heads.{sign_is, name_is, number_is, literal_is, plus_minus_is, taken, word_was, sound_on, sound_symbol, sound_word, sound_sign}
use Rattle.pfc_grammar.proofs.Heads.{sound_name, sound_on_word, sound_on_sign}
use Rattle.pfc_grammar.proofs.sound_rules.Exprs.{chain_filled, free}

-- What lists write, and when they are lawful.
abbrev pub name_tokens : Text → List Symbol
name_tokens x = Name x ∷ []

comma_names_written : (xs : List Text) → comma_names_tokens xs ≡ flat (λ x. Sign COMMA ∷ name_tokens x) xs
comma_names_written [] = refl
comma_names_written (x ∷ xs) = ap (λ z. Sign COMMA ∷ Name x ∷ z) (comma_names_written xs)

names_more : (xs : List Text) → IsFilled xs → (x : Text) → names_tokens (xs ++ x ∷ []) ≡ names_tokens xs ++ (Sign COMMA ∷ Name x ∷ [])
names_more [] h x = absurd h
names_more (y ∷ xs) h x = ap (λ z. Name y ∷ z) (comma_names_written (xs ++ x ∷ []) ∙ flat-snoc (λ z. Sign COMMA ∷ name_tokens z) xs x ∙
    ap (λ z. z ++ (Sign COMMA ∷ Name x ∷ [])) (sym (comma_names_written xs)))

filled_more : {A : Type 0} (xs : List A) (x : A) → IsFilled (xs ++ x ∷ [])
filled_more [] x = tt
filled_more (y ∷ xs) x = tt

-- what is one or more is filled
pub filled : {A : Type 0} (L : A → Type 0) (xs : List A) → Filled L xs → IsFilled xs
filled L [] h = absurd h
filled L (x ∷ xs) h = tt

comma_constants_written : (cs : List ConstantShape) → comma_constants_tokens cs ≡ flat (λ c. Sign COMMA ∷ constant_tokens c) cs
comma_constants_written [] = refl
comma_constants_written (c ∷ cs) = ap (λ z. (Sign COMMA ∷ constant_tokens c) ++ z) (comma_constants_written cs)

pub constants_written : (cs : List ConstantShape) → constants_tokens cs ≡ separated (Sign COMMA) constant_tokens cs
constants_written [] = refl
constants_written (c ∷ cs) = ap (λ z. constant_tokens c ++ z) (comma_constants_written cs)

each_constant : (cs : List ConstantShape) → Each IsLawfulConstant cs → AreLawfulConstants cs
each_constant [] l = tt
each_constant (c ∷ cs) l = (l.0, each_constant cs l.1)

pub constants_lawful : (cs : List ConstantShape) → Filled IsLawfulConstant cs → AreLawfulConstants cs
constants_lawful [] l = absurd l
constants_lawful (c ∷ cs) l = (l.0, each_constant cs l.1)

comma_ranges_written : (rs : List RangeShape) → comma_ranges_tokens rs ≡ flat (λ r. Sign COMMA ∷ range_tokens r) rs
comma_ranges_written [] = refl
comma_ranges_written (r ∷ rs) = ap (λ z. (Sign COMMA ∷ range_tokens r) ++ z) (comma_ranges_written rs)

ranges_written : (rs : List RangeShape) → ranges_tokens rs ≡ separated (Sign COMMA) range_tokens rs
ranges_written [] = refl
ranges_written (r ∷ rs) = ap (λ z. range_tokens r ++ z) (comma_ranges_written rs)

each_range : (rs : List RangeShape) → Each IsLawfulRange rs → AreLawfulRanges rs
each_range [] l = tt
each_range (r ∷ rs) l = (l.0, each_range rs l.1)

ranges_lawful : (rs : List RangeShape) → Filled IsLawfulRange rs → AreLawfulRanges rs
ranges_lawful [] l = absurd l
ranges_lawful (r ∷ rs) l = (l.0, each_range rs l.1)

semicolon_fields_written : (vs : List VarShape) → semicolon_fields_tokens (vars_of vs) ≡ flat (λ v. Sign SEMICOLON ∷ var_tokens v) vs
semicolon_fields_written [] = refl
semicolon_fields_written (v ∷ vs) = ap (λ z. (Sign SEMICOLON ∷ var_tokens v) ++ z) (semicolon_fields_written vs)

fields_written : (vs : List VarShape) → fields_tokens (vars_of vs) ≡ separated (Sign SEMICOLON) var_tokens vs
fields_written [] = refl
fields_written (v ∷ vs) = ap (λ z. var_tokens v ++ z) (semicolon_fields_written vs)

last_written : (b : Bool) → last_tokens b ≡ last_of (Sign SEMICOLON) b
last_written false = refl
last_written true = refl

each_var : (vs : List VarShape) → Each IsLawfulVar vs → AreLawfulVars (vars_of vs)
each_var [] l = tt
each_var (v ∷ vs) l = (l.0, each_var vs l.1)

pub fields_lawful : (vs : List VarShape) → Filled IsLawfulVar vs → AreLawfulFields (vars_of vs)
fields_lawful [] l = absurd l
fields_lawful (v ∷ vs) l = (l.0, each_var vs l.1)

-- What items write, each with its last sign.
abbrev pub var_item_tokens : VarShape → List Symbol
var_item_tokens v = var_tokens v ++ (Sign SEMICOLON ∷ [])

pub vars_written : (vs : List VarShape) → vars_tokens (vars_of vs) ≡ flat var_item_tokens vs
vars_written [] = refl
vars_written (v ∷ vs) = ap (λ z. var_tokens v ++ (Sign SEMICOLON ∷ z)) (vars_written vs) ∙
    sym (append_assoc (var_tokens v) (Sign SEMICOLON ∷ []) (flat var_item_tokens vs))

abbrev pub const_item_tokens : ConstItemShape → List Symbol
const_item_tokens i = Name i.name ∷ Sign EQUAL ∷ (constant_tokens i.value ++ (Sign SEMICOLON ∷ []))

pub const_items_written : (is : List ConstItemShape) → const_items_tokens is ≡ flat const_item_tokens is
const_items_written [] = refl
const_items_written (i ∷ is) = ap (λ z. Name i.name ∷ Sign EQUAL ∷ (constant_tokens i.value ++ (Sign SEMICOLON ∷ z))) (const_items_written is) ∙
    ap (λ z. Name i.name ∷ Sign EQUAL ∷ z) (sym (append_assoc (constant_tokens i.value) (Sign SEMICOLON ∷ []) (flat const_item_tokens is)))

each_const_item : (is : List ConstItemShape) → Each (λ i. IsLawfulConstant i.value) is → AreLawfulConstItems is
each_const_item [] l = tt
each_const_item (i ∷ is) l = (l.0, each_const_item is l.1)

pub const_items_lawful : (is : List ConstItemShape) → Filled (λ i. IsLawfulConstant i.value) is → IsFilled is × AreLawfulConstItems is
const_items_lawful [] l = absurd l
const_items_lawful (i ∷ is) l = (tt, (l.0, each_const_item is l.1))

abbrev pub type_item_tokens : TypeItemShape → List Symbol
type_item_tokens i = Name i.name ∷ Sign EQUAL ∷ (type_tokens i.form ++ (Sign SEMICOLON ∷ []))

pub type_items_written : (is : List TypeItemShape) → type_items_tokens is ≡ flat type_item_tokens is
type_items_written [] = refl
type_items_written (i ∷ is) = ap (λ z. Name i.name ∷ Sign EQUAL ∷ (type_tokens i.form ++ (Sign SEMICOLON ∷ z))) (type_items_written is) ∙
    ap (λ z. Name i.name ∷ Sign EQUAL ∷ z) (sym (append_assoc (type_tokens i.form) (Sign SEMICOLON ∷ []) (flat type_item_tokens is)))

each_type_item : (is : List TypeItemShape) → Each (λ i. IsLawfulType i.form) is → AreLawfulTypeItems is
each_type_item [] l = tt
each_type_item (i ∷ is) l = (l.0, each_type_item is l.1)

pub type_items_lawful : (is : List TypeItemShape) → Filled (λ i. IsLawfulType i.form) is → IsFilled is × AreLawfulTypeItems is
type_items_lawful [] l = absurd l
type_items_lawful (i ∷ is) l = (tt, (l.0, each_type_item is l.1))

-- with the sign that closes them
semicolon_groups_written : (gs : List GroupShape) → semicolon_groups_tokens gs ≡ flat (λ g. Sign SEMICOLON ∷ group_tokens g) gs ++ (Sign CLOSE_PAREN ∷ [])
semicolon_groups_written [] = refl
semicolon_groups_written (g ∷ gs) = ap (λ z. (Sign SEMICOLON ∷ group_tokens g) ++ z) (semicolon_groups_written gs) ∙
    sym (append_assoc (Sign SEMICOLON ∷ group_tokens g) (flat (λ g'. Sign SEMICOLON ∷ group_tokens g') gs) (Sign CLOSE_PAREN ∷ []))

abbrev IsLawfulGroup : GroupShape → Type 0
IsLawfulGroup g = IsFilled g.names

formals_written : (gs : List GroupShape) → Filled IsLawfulGroup gs →
    formals_tokens gs ≡ Sign OPEN_PAREN ∷ (separated (Sign SEMICOLON) group_tokens gs ++ (Sign CLOSE_PAREN ∷ []))
formals_written [] l = absurd l
formals_written (g ∷ gs) l = ap (λ z. Sign OPEN_PAREN ∷ (group_tokens g ++ z)) (semicolon_groups_written gs) ∙
    ap (λ z. Sign OPEN_PAREN ∷ z) (sym (append_assoc (group_tokens g) (flat (λ g'. Sign SEMICOLON ∷ group_tokens g') gs) (Sign CLOSE_PAREN ∷ [])))

each_group : (gs : List GroupShape) → Each IsLawfulGroup gs → AreLawfulFormals gs
each_group [] l = tt
each_group (g ∷ gs) l = (l.0, each_group gs l.1)

filled_groups : (gs : List GroupShape) → Filled IsLawfulGroup gs → AreLawfulFormals gs
filled_groups [] l = absurd l
filled_groups (g ∷ gs) l = (l.0, each_group gs l.1)

-- Names and constants.
sound_comma_name : (s : Symbol) (o : Unit {0}) → as_sign COMMA s ≡ Some o →
    Sound (λ x. Sign COMMA ∷ Name x ∷ []) (λ x. Unit {0}) free none (λ k. s ∷ k) (take_as as_name)
sound_comma_name s o e = subst (λ z. Sound (λ x. Sign COMMA ∷ Name x ∷ []) (λ x. Unit {0}) free none (λ k. z ∷ k) (take_as as_name)) (sym (sign_is COMMA s o e))
    (sound_behind (Sign COMMA) (sound_symbol Name name_is []))

pub sound_names_behind : {t : Symbol → Bool} (x : Text) → Sound names_tokens IsFilled free t (λ k. Name x ∷ k) (names_behind x)
unfolding names_behind
sound_names_behind {t = t} x = sound_any t (sound_less (λ xs l. l) (λ xs s q. refl)
    (sound_many_onto names_tokens IsFilled free (λ y. Sign COMMA ∷ Name y ∷ []) (λ y. Unit {0}) free (as_sign COMMA)
    (λ u. take_as as_name) sound_comma_name names_more (λ xs i s o b e y l. filled_more xs y) (λ xs y s q. refl) (x ∷ []) tt))

pub sound_names : {t : Symbol → Bool} → Sound names_tokens IsFilled free t here names
unfolding names
sound_names = sound_name (λ x. sound_names_behind x)

sound_constant_behind : {t : Symbol → Bool} (sign : Option plus_or_minus.Sign) →
    Sound constant_tokens IsLawfulConstant free t (λ k. sign_tokens sign ++ k) (constant_behind sign)
unfolding constant_behind
sound_constant_behind sign =
    sound_branch (λ s n m q. sound_pure (number sign n) (ap (λ z. sign_tokens sign ++ (z ∷ [])) (sym (number_is s n q).0)) (number_is s n q).1 (λ s' q'. refl))
    (sound_on Name name_is (λ x n. sound_pure (constant sign x) refl tt (λ s q. refl)) (sound_stop (record {
      whole = constant sign [];
      more =
          Name [] ∷ [];
      lawful = tt;
      writes = refl;
    })))

pub sound_constant : {t : Symbol → Bool} → Sound constant_tokens IsLawfulConstant free t here constant_reader
unfolding constant_reader
sound_constant = sound_on Literal literal_is (λ x n. sound_pure (literal x) refl tt (λ s q. refl))
    (sound_on sign_symbol plus_minus_is (λ o n. sound_constant_behind (Some o)) (sound_constant_behind None))

sound_range : Sound range_tokens IsLawfulRange free none here range
unfolding range
sound_range = sound_bind sound_constant (λ low l. sound_sign DOT_DOT (λ u. sound_last (λ high. record { low = low; high = high }) sound_constant
    (λ high m. refl) (λ high m. (l, m)) (λ high m s q. refl)))

-- With a reader of types.
module _ (t : Reader TypeShape) (ht : Sound type_tokens IsLawfulType free none here t) where
  sound_var_behind : (x : Text) → Sound var_tokens IsLawfulVar free none (λ k. Name x ∷ k) (var_behind t x)
  unfolding var_behind
  sound_var_behind x = sound_bind_behind (Name x) here (sound_names_behind x)
      (λ xs l. sound_sign COLON (λ u. sound_last (λ form. var_item xs form) ht (λ form m. refl) (λ form m. (l, m)) (λ form m s q. refl)))

  sound_var : Sound var_tokens IsLawfulVar free none here (var_with t)
  unfolding var_with
  sound_var = sound_name sound_var_behind

  sound_channel : Sound type_tokens IsLawfulType free none (λ k. Word CHANNEL ∷ k) (channel_behind t)
  unfolding channel_behind
  sound_channel = sound_word OF (λ u. sound_last (λ form. channel form) ht (λ form m. refl) (λ form m. m) (λ form m s q. refl))

  sound_array : Sound type_tokens IsLawfulType free none (λ k. Word ARRAY ∷ k) (array_behind t)
  unfolding array_behind
  sound_array = sound_sign OPEN_BRACKET (λ u. sound_bind (sound_separated (Sign COMMA) (as_sign COMMA) sound_range (sign_is COMMA))
      (λ rs l. sound_sign CLOSE_BRACKET (λ v. sound_word OF (λ w. sound_last (λ form. array rs form) ht
      (λ form m. ap (λ z. Word ARRAY ∷ Sign OPEN_BRACKET ∷ (z ++ (Sign CLOSE_BRACKET ∷ Word OF ∷ type_tokens form))) (ranges_written rs))
      (λ form m. (
        filled IsLawfulRange rs (chain_filled (Sign COMMA) free IsLawfulRange rs l),
        ranges_lawful rs
            (chain_filled (Sign COMMA) free IsLawfulRange rs l),
        m,
      )) (λ form m s q. refl)))))

  sound_record : Sound type_tokens IsLawfulType free none (λ k. Word RECORD ∷ k) (record_behind t)
  unfolding record_behind
  sound_record = sound_bind (sound_ended (Sign SEMICOLON) (as_sign SEMICOLON) (is_word END) sound_var (sign_is SEMICOLON))
      (λ vs l. sound_word END (λ u. sound_pure (fields (vars_of vs.0) vs.1)
      (ap (λ z. Word RECORD ∷ ((z ++ last_tokens vs.1) ++ (Word END ∷ []))) (fields_written vs.0) ∙
      ap (λ z. Word RECORD ∷ ((separated (Sign SEMICOLON) var_tokens vs.0 ++ z) ++ (Word END ∷ [])))
      (last_written vs.1)) (fields_lawful vs.0 l) (λ s q. refl)))

  pub sound_type_with : {u : Symbol → Bool} → Sound type_tokens IsLawfulType free u here (type_with t)
  unfolding type_with
  sound_type_with = sound_on Name name_is (λ x n. sound_pure (named x) refl tt (λ s q. refl)) (sound_on_word CHANNEL (λ u n. sound_channel)
      (sound_on_word ARRAY (λ u n. sound_array) (sound_on_word RECORD (λ u n. sound_record)
      (sound_stop (record { whole = named []; more = Name [] ∷ []; lawful = tt; writes = refl })))))

  sound_type_item : (x : Text) → Sound type_item_tokens (λ i. IsLawfulType i.form) free none (λ k. Name x ∷ k) (type_item_behind t x)
  unfolding type_item_behind
  sound_type_item x = sound_sign EQUAL
      (λ u. sound_bind ht (λ form l. sound_sign SEMICOLON (λ v. sound_pure (record { name = x; form = form }) refl l (λ s q. refl))))

  pub sound_type_items : Sound (flat type_item_tokens) (Filled (λ i. IsLawfulType i.form)) free none here (type_items t)
  unfolding type_items
  sound_type_items = sound_less (λ is l. l) (λ is s q. refl)
      (sound_some_each (λ s x q. subst (λ z. Sound type_item_tokens (λ i. IsLawfulType i.form) free none (λ k. z ∷ k) (type_item_behind t x))
      (sym (name_is s x q)) (sound_type_item x))
      (record { name = []; form = named [] }) tt)

  sound_var_item : (x : Text) → Sound var_item_tokens IsLawfulVar free none (λ k. Name x ∷ k) (var_item_behind t x)
  unfolding var_item_behind
  sound_var_item x = sound_bind_behind (Name x) here (sound_var_behind x) (λ v l. sound_sign SEMICOLON (λ u. sound_pure v refl l (λ s q. refl)))

  pub sound_var_items : Sound (flat var_item_tokens) (Filled IsLawfulVar) free none here (var_items t)
  unfolding var_items
  sound_var_items = sound_less (λ vs l. l) (λ vs s q. refl)
      (sound_some_each (λ s x q. subst (λ z. Sound var_item_tokens IsLawfulVar free none (λ k. z ∷ k) (var_item_behind t x))
      (sym (name_is s x q)) (sound_var_item x))
      (var_item ([] ∷ []) (named [])) (tt, tt))

sound_const_item : (x : Text) → Sound const_item_tokens (λ i. IsLawfulConstant i.value) free none (λ k. Name x ∷ k) (const_item_behind x)
unfolding const_item_behind
sound_const_item x = sound_sign EQUAL
    (λ u. sound_bind sound_constant (λ c l. sound_sign SEMICOLON (λ v. sound_pure (record { name = x; value = c }) refl l (λ s q. refl))))

pub sound_const_items : Sound (flat const_item_tokens) (Filled (λ i. IsLawfulConstant i.value)) free none here const_items
unfolding const_items
sound_const_items = sound_less (λ is l. l) (λ is s q. refl)
    (sound_some_each (λ s x q. subst (λ z. Sound const_item_tokens (λ i. IsLawfulConstant i.value) free none (λ k. z ∷ k) (const_item_behind x))
    (sym (name_is s x q)) (sound_const_item x))
    (record { name = []; value = literal [] }) tt)

-- Groups of parameters.
sound_group_behind : {t : Symbol → Bool} (b : Bool) → Sound group_tokens IsLawfulGroup free t (λ k. reference_tokens b ++ k) (group_behind b)
unfolding group_behind
sound_group_behind b =
    sound_bind sound_names (λ xs l. sound_sign COLON (λ u. sound_last (λ form. record { reference = b; names = xs; form = form }) (sound_symbol Name name_is [])
    (λ x m. append_assoc (reference_tokens b) (names_tokens xs) (Sign COLON ∷ Name x ∷ [])) (λ x m. l) (λ x m s q. refl)))

sound_group : Sound group_tokens IsLawfulGroup free none here group
unfolding group
sound_group = sound_on_word VAR (λ u n. sound_group_behind true) (sound_group_behind false)

pub sound_formals : {t : Symbol → Bool} → Sound formals_tokens AreLawfulFormals free t here formals
unfolding formals
sound_formals = sound_on_sign OPEN_PAREN (λ u n. sound_bind (sound_separated (Sign SEMICOLON) (as_sign SEMICOLON) sound_group (sign_is SEMICOLON))
    (λ gs l. sound_sign CLOSE_PAREN (λ v. sound_pure gs
    (formals_written gs (chain_filled (Sign SEMICOLON) free IsLawfulGroup gs l)) (filled_groups gs (chain_filled (Sign SEMICOLON) free IsLawfulGroup gs l))
    (λ s q. refl)))) (sound_pure [] refl tt (λ s q. refl))

-- Each symbol that begins a type does begin a lawful one.
begun_type : (s : Symbol) → begins_type s ≡ true → Goes type_tokens IsLawfulType (λ k. s ∷ k)
begun_type s e = three (or_cases _ _ e)
  where
    one : (takes (as_name s) ≡ true) ⊎ (is_word CHANNEL s ≡ true) → Goes type_tokens IsLawfulType (λ k. s ∷ k)
    one (inl h) = record {
      whole = named (taken (as_name s) h).0;
      more = [];
      lawful = tt;
      writes =
          ap (λ z. z ∷ []) (sym (name_is s (taken (as_name s) h).0 (taken (as_name s) h).1));
    }
    one (inr h) = record {
      whole = channel (named []);
      more = Word OF ∷ Name [] ∷ [];
      lawful = tt;
      writes =
          ap (λ z. z ∷ Word OF ∷ Name [] ∷ []) (sym (word_was CHANNEL s h));
    }

    two : ((takes (as_name s) || is_word CHANNEL s) ≡ true) ⊎ (is_word ARRAY s ≡ true) → Goes type_tokens IsLawfulType (λ k. s ∷ k)
    two (inl h) = one (or_cases _ _ h)
    two (inr h) = record {
      whole = array (record { low = literal []; high = literal [] } ∷ []) (named []);
      more = Sign OPEN_BRACKET ∷ Literal [] ∷ Sign DOT_DOT ∷ Literal [] ∷ Sign CLOSE_BRACKET ∷ Word OF ∷ Name [] ∷ [];
      lawful = (tt, ((tt, tt), tt), tt);
      writes = ap (λ z. z ∷ Sign OPEN_BRACKET ∷ Literal [] ∷ Sign DOT_DOT ∷ Literal
          [] ∷ Sign CLOSE_BRACKET ∷ Word OF ∷ Name [] ∷ []) (sym (word_was ARRAY s h));
    }

    three : ((takes (as_name s) || is_word CHANNEL s || is_word ARRAY s) ≡ true) ⊎ (is_word RECORD s ≡ true) → Goes type_tokens IsLawfulType (λ k. s ∷ k)
    three (inl h) = two (or_cases _ _ h)
    three (inr h) = record {
      whole = fields (more_vars (var_item ([] ∷ []) (named [])) no_vars) false;
      more = Name [] ∷ Sign COLON ∷ Name [] ∷ Word END ∷ [];
      lawful = ((tt, tt), tt);
      writes = ap (λ z. z ∷ Name [] ∷ Sign COLON ∷ Name [] ∷ Word END ∷ []) (sym (word_was RECORD s h));
    }

pub sound_type_at : (n : ℕ) → Sound type_tokens IsLawfulType free none here (type_at n)
unfolding type_at
sound_type_at zero = sound_level begun_type (sound_stop (record { whole = named []; more = Name [] ∷ []; lawful = tt; writes = refl }))
sound_type_at (suc n) = sound_type_with (type_at n) (sound_type_at n)
