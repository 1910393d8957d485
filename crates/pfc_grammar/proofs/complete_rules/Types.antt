-- What lawful constants, types and groups of parameters write is read back.
use Rattle.std.proofs.Common.{◌≡◌, ℕ, zero, suc, ℤ, pos, negsuc, List, [], ◌∷◌, ◌++◌, Bool, true, false, Option, Some, None, refl, sym, ap, subst, ◌∙◌}
use Rattle.std.proofs.Common.{append_assoc, arith}
use Rattle.std.proofs.lemmas.Int.{ints}
use Rattle.pfc_base.specs.declared.tokens.Kind.TheVariants.{Word, Sign, Name, Number}
use Rattle.pfc_base.specs.declared.word.TheConstants.{END, VAR}
use Rattle.pfc_base.specs.declared.sign.TheConstants.{EQUAL, OPEN_PAREN, CLOSE_PAREN, COMMA, SEMICOLON, COLON}
use Rattle.pfc_tree.specs.declared.tree.Sign as plus_or_minus
use Rattle.pfc_tree.specs.declared.tree.Sign.TheVariants.{Plus, Minus}
use Rattle.pfc_tree.specs.Symbols.{Symbol, Text}
use Rattle.pfc_tree.specs.shapes.Types.{ConstantShape, RangeShape, ConstItemShape, TypeItemShape, GroupShape, TypeShape, VarShape, VarShapes, number, constant}
use Rattle.pfc_tree.specs.shapes.Types.{literal, named, channel, array, fields, var_item, no_vars, more_vars}
use Rattle.pfc_tree.specs.tokens.Exprs.{sign_symbol}
use Rattle.pfc_tree.specs.tokens.Types.{comma_names_tokens, names_tokens, constant_tokens, comma_constants_tokens, constants_tokens, range_tokens}
use Rattle.pfc_tree.specs.tokens.Types.{comma_ranges_tokens, ranges_tokens, last_tokens, type_tokens, var_tokens, fields_tokens, semicolon_fields_tokens}
use Rattle.pfc_tree.specs.tokens.Types.{vars_tokens, const_items_tokens, type_items_tokens, reference_tokens, group_tokens, semicolon_groups_tokens}
use Rattle.pfc_tree.specs.tokens.Types.{formals_tokens}
use Rattle.pfc_tree.specs.lawful.Exprs.{IsWritten}
use Rattle.pfc_tree.specs.lawful.Types.{IsFilled, IsLawfulConstant, AreLawfulConstants, IsLawfulRange, AreLawfulRanges, IsLawfulType, IsLawfulVar}
use Rattle.pfc_tree.specs.lawful.Types.{AreLawfulFields, AreLawfulVars, AreLawfulConstItems, AreLawfulTypeItems, AreLawfulFormals}
use Rattle.pfc_tree.specs.depths.Exprs.{level}
use Rattle.pfc_tree.specs.depths.Types.{type_depths, var_depths, fields_depths, semicolon_fields_depths, vars_depths, const_items_depths, type_items_depths}
use Rattle.pfc_tree.proofs.depths.Types.{type_even}
use Rattle.pfc_grammar.specs.Reading.{Reader, stop, take_as, list_of}
use Rattle.pfc_grammar.specs.Heads.{as_word, as_sign, as_name, as_literal, as_plus_minus, takes, is_word, begins_type}
use Rattle.pfc_grammar.specs.grammar.Types.{vars_of, names_behind, names, constant_behind, constant_reader, range, var_behind, var_with, channel_behind}
use Rattle.pfc_grammar.specs.grammar.Types.{array_behind, record_behind, type_with, type_at, const_item_behind, const_items, type_item_behind, type_items}
use Rattle.pfc_grammar.specs.grammar.Types.{var_item_behind, var_items, group_behind, group, formals}
use Rattle.pfc_grammar.proofs.Lists.{flat}
use Rattle.pfc_grammar.proofs.Complete.{Complete, Skips, Lacks, Heads, Any, complete_pure, complete_bind, complete_last, complete_take, complete_skip}
use Rattle.pfc_grammar.proofs.Complete.{complete_symbol, complete_next, complete_up, complete_same, skips}
use Rattle.pfc_grammar.proofs.CompleteLoops.{Run, run_end, run_item, EndRun, end_none, end_last, end_item, complete_onto, complete_list, complete_some}
use Rattle.pfc_grammar.proofs.CompleteLoops.{complete_list_end}
use Rattle.pfc_grammar.proofs.sound_rules.Types.{const_item_tokens, const_items_written, type_item_tokens, type_items_written, var_item_tokens}
use Rattle.pfc_grammar.proofs.complete_rules.Levels.{level-append, flat_bind, flat_item, AtWord, at_word}
use Rattle.pfc_grammar.proofs.complete_rules.Exprs.{starts, complete_none}

abbrev pub vars_list : VarShapes → List VarShape
vars_list no_vars = []
vars_list (more_vars v vs) = v ∷ vars_list vs

pub vars_same : (vs : VarShapes) → vars_of (vars_list vs) ≡ vs
vars_same no_vars = refl
vars_same (more_vars v vs) = ap (λ z. more_vars v z) (vars_same vs)

abbrev pub no_comma : List Symbol → Type 0
no_comma rest = Lacks (λ s. takes (as_sign COMMA s)) rest

-- Names.
run_names : (n : ℕ) (xs : List Text) → Run n (as_sign COMMA) (λ o. take_as as_name) no_comma (comma_names_tokens xs) (level (comma_names_tokens xs)) xs
run_names n [] = run_end (λ rest c. skips (as_sign COMMA) _ (λ s q. q) rest c)
run_names n (x ∷ xs) = flat_item tt {ta = Name x ∷ []} refl (complete_symbol as_name refl) (λ rest c. tt) (run_names n xs)

pub complete_names_behind : (n : ℕ) (x : Text) (xs : List Text) →
    Complete n (names_behind x) (comma_names_tokens xs) (level (comma_names_tokens xs)) (x ∷ xs) no_comma
unfolding names_behind
complete_names_behind n x xs = complete_onto (x ∷ []) (run_names n xs)

pub complete_names : (n : ℕ) (xs : List Text) → IsFilled xs → Complete n names (names_tokens xs) (level (names_tokens xs)) xs no_comma
unfolding names
complete_names n [] h = absurd h
complete_names n (x ∷ xs) h = complete_next _ _ x refl (complete_names_behind n x xs)

-- Constants.
taken_sign : (s : plus_or_minus.Sign) → as_plus_minus (sign_symbol s) ≡ Some s
taken_sign Plus = refl
taken_sign Minus = refl

unliteral : (s : plus_or_minus.Sign) → as_literal (sign_symbol s) ≡ None
unliteral Plus = refl
unliteral Minus = refl

complete_number : (n : ℕ) (sign : Option plus_or_minus.Sign) (z : ℤ) → IsWritten z →
    Complete n (constant_behind sign) (Number z ∷ []) (0 ∷ []) (number sign z) Any
unfolding constant_behind
complete_number n sign (pos k) l = complete_take _ _ _ (pos k) refl complete_pure
complete_number n sign (negsuc k) l = absurd (omega (arith, ints, l))

complete_named : (n : ℕ) (sign : Option plus_or_minus.Sign) (x : Text) → Complete n (constant_behind sign) (Name x ∷ []) (0 ∷ []) (constant sign x) Any
unfolding constant_behind
complete_named n sign x = complete_skip _ _ (λ rest c. refl) (complete_take _ _ _ x refl complete_pure)

pub complete_constant : (n : ℕ) (c : ConstantShape) → IsLawfulConstant c → Complete n constant_reader (constant_tokens c) (level (constant_tokens c)) c Any
unfolding constant_reader
complete_constant n (number None z) l = complete_skip _ _ (λ rest c. refl) (complete_skip _ _ (λ rest c. refl) (complete_number n None z l))
complete_constant n (number (Some s) z) l = complete_skip _ _ (λ rest c. unliteral s) (complete_take _ _ _ s (taken_sign s) (complete_number n (Some s) z l))
complete_constant n (constant None x) l = complete_skip _ _ (λ rest c. refl) (complete_skip _ _ (λ rest c. refl) (complete_named n None x))
complete_constant n (constant (Some s) x) l = complete_skip _ _ (λ rest c. unliteral s) (complete_take _ _ _ s (taken_sign s) (complete_named n (Some s) x))
complete_constant n (literal x) l = complete_take _ _ _ x refl complete_pure

run_constants : (n : ℕ) (cs : List ConstantShape) → AreLawfulConstants cs →
    Run n (as_sign COMMA) (λ o. constant_reader) no_comma (comma_constants_tokens cs) (level (comma_constants_tokens cs)) cs
run_constants n [] l = run_end (λ rest c. skips (as_sign COMMA) _ (λ s q. q) rest c)
run_constants n (c ∷ cs) l = flat_item tt refl (complete_constant n c l.0) (λ rest c. tt) (run_constants n cs l.1)

pub complete_constants : (n : ℕ) (cs : List ConstantShape) → IsFilled cs → AreLawfulConstants cs →
    Complete n (list_of (as_sign COMMA) constant_reader) (constants_tokens cs) (level (constants_tokens cs)) cs no_comma
complete_constants n [] h l = absurd h
complete_constants n (c ∷ cs) h l = complete_same refl (sym (level-append (constant_tokens c) (comma_constants_tokens cs))) refl
    (complete_list (as_sign COMMA) (complete_constant n c l.0) (λ rest c. tt) (run_constants n cs l.1))

complete_range : (n : ℕ) (r : RangeShape) → IsLawfulRange r → Complete n range (range_tokens r) (level (range_tokens r)) r Any
unfolding range
complete_range n r l =
    flat_bind _ (complete_constant n r.low l.0) (λ rest c. tt) (complete_next _ _ tt refl (complete_last (λ high. record { low = r.low; high = high })
    (complete_constant n r.high l.1) (λ rest c. c)))

run_ranges : (n : ℕ) (rs : List RangeShape) → AreLawfulRanges rs →
    Run n (as_sign COMMA) (λ o. range) no_comma (comma_ranges_tokens rs) (level (comma_ranges_tokens rs)) rs
run_ranges n [] l = run_end (λ rest c. skips (as_sign COMMA) _ (λ s q. q) rest c)
run_ranges n (r ∷ rs) l = flat_item tt refl (complete_range n r l.0) (λ rest c. tt) (run_ranges n rs l.1)

complete_ranges : (n : ℕ) (rs : List RangeShape) → IsFilled rs → AreLawfulRanges rs →
    Complete n (list_of (as_sign COMMA) range) (ranges_tokens rs) (level (ranges_tokens rs)) rs no_comma
complete_ranges n [] h l = absurd h
complete_ranges n (r ∷ rs) h l = complete_same refl (sym (level-append (range_tokens r) (comma_ranges_tokens rs))) refl
    (complete_list (as_sign COMMA) (complete_range n r l.0) (λ rest c. tt) (run_ranges n rs l.1))

-- With a reader of types.
abbrev pub ReadsTypes : ℕ → Reader TypeShape → Type 0
ReadsTypes n t = (x : TypeShape) → IsLawfulType x → Complete n t (type_tokens x) (type_depths x) x Any

-- the fields behind the first, with the last `;`
abbrev field_ends : VarShapes → Bool → List Symbol
field_ends no_vars b = last_tokens b
field_ends (more_vars v vs) b = Sign SEMICOLON ∷ (var_tokens v ++ field_ends vs b)

abbrev field_end_depths : VarShapes → Bool → List ℕ
field_end_depths no_vars b = level (last_tokens b)
field_end_depths (more_vars v vs) b = 0 ∷ (var_depths v ++ field_end_depths vs b)

field_ends_same : (vs : VarShapes) (b : Bool) → semicolon_fields_tokens vs ++ last_tokens b ≡ field_ends vs b
field_ends_same no_vars b = refl
field_ends_same (more_vars v vs) b = ap (λ z. Sign SEMICOLON ∷ z) (append_assoc (var_tokens v) (semicolon_fields_tokens vs) (last_tokens b) ∙
    ap (λ z. var_tokens v ++ z) (field_ends_same vs b))

field_end_depths_same : (vs : VarShapes) (b : Bool) → semicolon_fields_depths vs ++ level (last_tokens b) ≡ field_end_depths vs b
field_end_depths_same no_vars b = refl
field_end_depths_same (more_vars v vs) b = ap (λ z. 0 ∷ z) (append_assoc (var_depths v) (semicolon_fields_depths vs) (level (last_tokens b)) ∙
    ap (λ z. var_depths v ++ z) (field_end_depths_same vs b))

-- a group of fields does not begin with `end`
var_lacks : (v : VarShape) → IsLawfulVar v → (l : List Symbol) → Lacks (is_word END) (var_tokens v ++ l)
var_lacks (var_item [] t) h l = absurd h.0
var_lacks (var_item (x ∷ xs) t) h l = refl

pub at_end : (rest : List Symbol) → AtWord END rest → Skips (as_sign SEMICOLON) rest
at_end [] h = elim h [ ]
at_end (s ∷ rest) at_word = refl

pub heads_end : (rest : List Symbol) → AtWord END rest → Heads (is_word END) rest
heads_end [] h = elim h [ ]
heads_end (s ∷ rest) at_word = refl

module _ (n : ℕ) (t : Reader TypeShape) (ht : ReadsTypes n t) where
  complete_var_behind : (x : Text) (xs : List Text) (f : TypeShape) → IsLawfulType f →
      Complete n (var_behind t x) (comma_names_tokens xs ++ (Sign COLON ∷ type_tokens f))
      (level (comma_names_tokens xs) ++ (0 ∷ type_depths f)) (var_item (x ∷ xs) f) Any
  unfolding var_behind
  complete_var_behind x xs f l =
      complete_bind _ (complete_names_behind n x xs) (λ rest c. refl)
      (complete_next _ _ tt refl (complete_last (λ z. var_item (x ∷ xs) z) (ht f l) (λ rest c. c)))

  complete_var : (v : VarShape) → IsLawfulVar v → Complete n (var_with t) (var_tokens v) (var_depths v) v Any
  unfolding var_with
  complete_var (var_item [] f) l = absurd l.0
  complete_var (var_item (x ∷ xs) f) l = complete_next _ _ x refl (complete_var_behind x xs f l.1)

  run_fields : (vs : VarShapes) (b : Bool) → AreLawfulVars vs → EndRun n (as_sign SEMICOLON) (is_word END) (var_with t) (AtWord END) (field_ends vs b)
      (field_end_depths vs b) (vars_list vs) b
  run_fields no_vars false l = end_none at_end
  run_fields no_vars true l = end_last tt refl heads_end
  run_fields (more_vars v vs) b l = end_item tt refl (λ rest c. var_lacks v l.0 (field_ends vs b ++ rest))
      (complete_var v l.0) (λ rest c. tt) (run_fields vs b l.1)

  complete_record : (vs : VarShapes) (b : Bool) → AreLawfulFields vs → Complete n (record_behind t) ((fields_tokens vs ++ last_tokens b) ++ (Word END ∷ []))
      ((fields_depths vs ++ level (last_tokens b)) ++ (0 ∷ [])) (fields vs b) Any
  unfolding record_behind
  complete_record no_vars b l = absurd l
  complete_record (more_vars v vs) b l = complete_same
      (ap (λ z. z ++ (Word END ∷ [])) (sym (append_assoc (var_tokens v) (semicolon_fields_tokens vs) (last_tokens b) ∙
      ap (λ z. var_tokens v ++ z) (field_ends_same vs b))))
      (ap (λ z. z ++ (0 ∷ [])) (sym (append_assoc (var_depths v) (semicolon_fields_depths vs) (level (last_tokens b)) ∙
      ap (λ z. var_depths v ++ z) (field_end_depths_same vs b))))
      (ap (λ z. fields (more_vars v z) b) (vars_same vs))
      (complete_bind _ (complete_list_end (complete_var v l.0) (λ rest c. tt) (run_fields vs b l.1)) (λ rest c. at_word)
      (complete_next _ _ tt refl complete_pure))

  -- one level deeper
  pub complete_type_with : (x : TypeShape) → IsLawfulType x → Complete (suc n) (type_with t) (type_tokens x) (type_depths x) x Any
  unfolding type_with channel_behind array_behind
  complete_type_with (named x) l = complete_up (complete_take _ _ _ x refl complete_pure)
  complete_type_with (channel f) l =
      complete_up (complete_skip _ _ (λ rest c. refl)
      (complete_take _ _ _ tt refl (complete_next _ _ tt refl (complete_last (λ z. channel z) (ht f l) (λ rest c. c)))))
  complete_type_with (array rs f) l =
      complete_up (complete_skip _ _ (λ rest c. refl) (complete_skip _ _ (λ rest c. refl) (complete_take _ _ _ tt refl (complete_next _ _ tt refl
      (complete_bind _ (complete_ranges n rs l.0 l.1) (λ rest c. refl)
      (complete_next _ _ tt refl (complete_next _ _ tt refl (complete_last (λ z. array rs z) (ht f l.2) (λ rest c. c)))))))))
  complete_type_with (fields vs b) l =
      complete_up (complete_skip _ _ (λ rest c. refl)
      (complete_skip _ _ (λ rest c. refl) (complete_skip _ _ (λ rest c. refl) (complete_take _ _ _ tt refl (complete_record vs b l)))))

  -- Items, where no name follows.
  abbrev no_name : List Symbol → Type 0
  no_name rest = Lacks (λ s. takes (as_name s)) rest

  abbrev type_item_depths : TypeItemShape → List ℕ
  type_item_depths i = 0 ∷ 0 ∷ (type_depths i.form ++ (0 ∷ []))

  abbrev all_type_items : List TypeItemShape → List ℕ
  all_type_items [] = []
  all_type_items (i ∷ is) = type_item_depths i ++ all_type_items is

  type_items_level : (is : List TypeItemShape) → all_type_items is ≡ type_items_depths is
  type_items_level [] = refl
  type_items_level (i ∷ is) = ap (λ z. 0 ∷ 0 ∷ z) (append_assoc (type_depths i.form) (0 ∷ []) (all_type_items is) ∙
      ap (λ z. type_depths i.form ++ (0 ∷ z)) (type_items_level is))

  complete_type_item : (x : Text) (f : TypeShape) → IsLawfulType f → Complete n (type_item_behind t x) (Sign EQUAL ∷ (type_tokens f ++ (Sign SEMICOLON ∷ [])))
      (0 ∷ (type_depths f ++ (0 ∷ []))) (record { name = x; form = f }) Any
  unfolding type_item_behind
  complete_type_item x f l = complete_next _ _ tt refl (complete_bind _ (ht f l) (λ rest c. tt) (complete_next _ _ tt refl complete_pure))

  run_type_items : (is : List TypeItemShape) → AreLawfulTypeItems is →
      Run n as_name (type_item_behind t) no_name (flat type_item_tokens is) (all_type_items is) is
  run_type_items [] l = run_end (λ rest c. skips as_name _ (λ s q. q) rest c)
  run_type_items (i ∷ is) l = run_item i.name refl (complete_type_item i.name i.form l.0) (λ rest c. tt) (run_type_items is l.1)

  pub complete_type_items : (is : List TypeItemShape) → IsFilled is → AreLawfulTypeItems is →
      Complete n (type_items t) (type_items_tokens is) (type_items_depths is) is no_name
  unfolding type_items
  complete_type_items [] h l = absurd h
  complete_type_items (i ∷ is) h l = complete_same (sym (type_items_written (i ∷ is))) (type_items_level (i ∷ is)) refl
      (complete_some i.name refl (complete_type_item i.name i.form l.0) (λ rest c. tt) (run_type_items is l.1))

  abbrev all_vars : VarShapes → List ℕ
  all_vars no_vars = []
  all_vars (more_vars v vs) = (var_depths v ++ (0 ∷ [])) ++ all_vars vs

  vars_level : (vs : VarShapes) → all_vars vs ≡ vars_depths vs
  vars_level no_vars = refl
  vars_level (more_vars v vs) = append_assoc (var_depths v) (0 ∷ []) (all_vars vs) ∙ ap (λ z. var_depths v ++ (0 ∷ z)) (vars_level vs)

  complete_var_item : (x : Text) (xs : List Text) (f : TypeShape) → IsLawfulType f →
      Complete n (var_item_behind t x) ((comma_names_tokens xs ++ (Sign COLON ∷ type_tokens f)) ++ (Sign SEMICOLON ∷ []))
      ((level (comma_names_tokens xs) ++ (0 ∷ type_depths f)) ++ (0 ∷ [])) (var_item (x ∷ xs) f) Any
  unfolding var_item_behind
  complete_var_item x xs f l = complete_bind _ (complete_var_behind x xs f l) (λ rest c. tt) (complete_next _ _ tt refl complete_pure)

  abbrev flat_vars : VarShapes → List Symbol
  flat_vars no_vars = []
  flat_vars (more_vars v vs) = var_item_tokens v ++ flat_vars vs

  vars_flat : (vs : VarShapes) → flat_vars vs ≡ vars_tokens vs
  vars_flat no_vars = refl
  vars_flat (more_vars v vs) = append_assoc (var_tokens v) (Sign SEMICOLON ∷ []) (flat_vars vs) ∙ ap (λ z. var_tokens v ++ (Sign SEMICOLON ∷ z)) (vars_flat vs)

  run_vars : (vs : VarShapes) → AreLawfulVars vs → Run n as_name (var_item_behind t) no_name (flat_vars vs) (all_vars vs) (vars_list vs)
  run_vars no_vars l = run_end (λ rest c. skips as_name _ (λ s q. q) rest c)
  run_vars (more_vars (var_item [] f) vs) l = absurd l.0.0
  run_vars (more_vars (var_item (x ∷ xs) f) vs) l = run_item x refl (complete_var_item x xs f l.0.1) (λ rest c. tt) (run_vars vs l.1)

  pub complete_var_items : (vs : VarShapes) → AreLawfulFields vs → Complete n (var_items t) (vars_tokens vs) (vars_depths vs) (vars_list vs) no_name
  unfolding var_items
  complete_var_items no_vars l = absurd l
  complete_var_items (more_vars (var_item [] f) vs) l = absurd l.0.0
  complete_var_items (more_vars (var_item (x ∷ xs) f) vs) l =
      complete_same (vars_flat (more_vars (var_item (x ∷ xs) f) vs)) (vars_level (more_vars (var_item (x ∷ xs) f) vs)) refl
      (complete_some x refl (complete_var_item x xs f l.0.1) (λ rest c. tt) (run_vars vs l.1))

abbrev pub no_more_name : List Symbol → Type 0
no_more_name rest = Lacks (λ s. takes (as_name s)) rest

complete_const_item : (n : ℕ) (x : Text) (c : ConstantShape) → IsLawfulConstant c →
    Complete n (const_item_behind x) (Sign EQUAL ∷ (constant_tokens c ++ (Sign SEMICOLON ∷ [])))
    (level (Sign EQUAL ∷ (constant_tokens c ++ (Sign SEMICOLON ∷ [])))) (record { name = x; value = c }) Any
unfolding const_item_behind
complete_const_item n x c l = complete_next _ _ tt refl (flat_bind _ (complete_constant n c l) (λ rest k. tt) (complete_next _ _ tt refl complete_pure))

run_const_items : (n : ℕ) (is : List ConstItemShape) → AreLawfulConstItems is →
    Run n as_name const_item_behind no_more_name (flat const_item_tokens is) (level (flat const_item_tokens is)) is
run_const_items n [] l = run_end (λ rest c. skips as_name _ (λ s q. q) rest c)
run_const_items n (i ∷ is) l = flat_item i.name refl (complete_const_item n i.name i.value l.0) (λ rest c. tt) (run_const_items n is l.1)

pub complete_const_items : (n : ℕ) (is : List ConstItemShape) → IsFilled is → AreLawfulConstItems is →
    Complete n const_items (const_items_tokens is) (const_items_depths is) is no_more_name
unfolding const_items
complete_const_items n [] h l = absurd h
complete_const_items n (i ∷ is) h l = complete_same (sym (const_items_written (i ∷ is)))
    (ap (λ z. 0 ∷ z) (sym (level-append (Sign EQUAL ∷ (constant_tokens i.value ++ (Sign SEMICOLON ∷ []))) (flat const_item_tokens is))) ∙
    ap level (sym (const_items_written (i ∷ is)))) refl
    (complete_some i.name refl (complete_const_item n i.name i.value l.0) (λ rest c. tt) (run_const_items n is l.1))

-- Groups of parameters.
abbrev group_items : List GroupShape → List Symbol
group_items [] = []
group_items (g ∷ gs) = Sign SEMICOLON ∷ (group_tokens g ++ group_items gs)

groups_closed : (gs : List GroupShape) → group_items gs ++ (Sign CLOSE_PAREN ∷ []) ≡ semicolon_groups_tokens gs
groups_closed [] = refl
groups_closed (g ∷ gs) = ap (λ z. Sign SEMICOLON ∷ z) (append_assoc (group_tokens g) (group_items gs) (Sign CLOSE_PAREN ∷ []) ∙
    ap (λ z. group_tokens g ++ z) (groups_closed gs))

complete_group_behind : (n : ℕ) (b : Bool) (xs : List Text) (f : Text) → IsFilled xs →
    Complete n (group_behind b) (names_tokens xs ++ (Sign COLON ∷ Name f ∷ [])) (level (names_tokens xs ++ (Sign COLON ∷ Name f ∷ [])))
    (record { reference = b; names = xs; form = f }) Any
unfolding group_behind
complete_group_behind n b xs f h =
    flat_bind _ (complete_names n xs h) (λ rest c. refl) (complete_next _ _ tt refl (complete_last (λ z. record { reference = b; names = xs; form = z })
    (complete_symbol as_name refl) (λ rest c. c)))

no_var : (xs : List Text) (l : List Symbol) → IsFilled xs → Skips (as_word VAR) (names_tokens xs ++ l)
no_var [] l h = absurd h
no_var (x ∷ xs) l h = refl

complete_group_at : (n : ℕ) (b : Bool) (xs : List Text) (f : Text) → IsFilled xs →
    Complete n group (reference_tokens b ++ (names_tokens xs ++ (Sign COLON ∷ Name f ∷ [])))
    (level (reference_tokens b ++ (names_tokens xs ++ (Sign COLON ∷ Name f ∷ [])))) (record { reference = b; names = xs; form = f }) Any
unfolding group
complete_group_at n true xs f h = complete_take _ _ _ tt refl (complete_group_behind n true xs f h)
complete_group_at n false xs f h =
    complete_skip _ _ (λ rest c. subst (Skips (as_word VAR)) (sym (append_assoc (names_tokens xs) (Sign COLON ∷ Name f ∷ []) rest))
    (no_var xs (Sign COLON ∷ Name f ∷ rest) h)) (complete_group_behind n false xs f h)

complete_group : (n : ℕ) (g : GroupShape) → IsFilled g.names → Complete n group (group_tokens g) (level (group_tokens g)) g Any
complete_group n g h = complete_same (sym (append_assoc (reference_tokens g.reference) (names_tokens g.names) (Sign COLON ∷ Name g.form ∷ [])))
    (ap level (sym (append_assoc (reference_tokens g.reference) (names_tokens g.names) (Sign COLON ∷ Name g.form ∷ [])))) refl
    (complete_group_at n g.reference g.names g.form h)

no_semicolon : List Symbol → Type 0
no_semicolon rest = Lacks (λ s. takes (as_sign SEMICOLON s)) rest

run_groups : (n : ℕ) (gs : List GroupShape) → AreLawfulFormals gs →
    Run n (as_sign SEMICOLON) (λ o. group) no_semicolon (group_items gs) (level (group_items gs)) gs
unfolding no_semicolon
run_groups n [] l = run_end (λ rest c. skips (as_sign SEMICOLON) _ (λ s q. q) rest c)
run_groups n (g ∷ gs) l = flat_item tt refl (complete_group n g l.0) (λ rest c. tt) (run_groups n gs l.1)

pub complete_formals : (n : ℕ) (gs : List GroupShape) → AreLawfulFormals gs →
    Complete n formals (formals_tokens gs) (level (formals_tokens gs)) gs (Lacks (λ s. takes (as_sign OPEN_PAREN s)))
unfolding formals no_semicolon
complete_formals n [] l = complete_skip _ _ (λ rest c. skips (as_sign OPEN_PAREN) _ (λ s q. q) rest c) complete_pure
complete_formals n (g ∷ gs) l = complete_same toks (ap level toks) refl
    (complete_take _ _ _ tt refl (flat_bind _ (complete_same refl (sym (level-append (group_tokens g) (group_items gs))) refl
    (complete_list (as_sign SEMICOLON) (complete_group n g l.0) (λ rest c. tt) (run_groups n gs l.1))) (λ rest c. refl)
    (complete_next _ _ tt refl complete_pure)))
  where
    toks : Sign OPEN_PAREN ∷ ((group_tokens g ++ group_items gs) ++ (Sign CLOSE_PAREN ∷ [])) ≡ formals_tokens (g ∷ gs)
    toks = ap (λ z. Sign OPEN_PAREN ∷ z) (append_assoc (group_tokens g) (group_items gs) (Sign CLOSE_PAREN ∷ []) ∙
        ap (λ z. group_tokens g ++ z) (groups_closed gs))

-- Whatever the number of levels.
pub complete_type_at : (n : ℕ) → ReadsTypes n (type_at n)
unfolding type_at
complete_type_at zero (named x) l = complete_none begins_type stop (Name x ∷ []) (0 ∷ []) (starts refl) (type_even (named x))
complete_type_at zero (channel f) l = complete_none begins_type stop (type_tokens (channel f)) (0 ∷ 0 ∷ type_depths f) (starts refl) (type_even (channel f))
complete_type_at zero (array rs f) l =
    complete_none begins_type stop (type_tokens (array rs f))
    (0 ∷ 0 ∷ (level (ranges_tokens rs) ++ (0 ∷ 0 ∷ type_depths f))) (starts refl) (type_even (array rs f))
complete_type_at zero (fields vs b) l =
    complete_none begins_type stop (type_tokens (fields vs b)) (0 ∷ ((fields_depths vs ++ level (last_tokens b)) ++ (0 ∷ [])))
    (starts refl) (type_even (fields vs b))
complete_type_at (suc n) x l = complete_type_with n (type_at n) (complete_type_at n) x l
