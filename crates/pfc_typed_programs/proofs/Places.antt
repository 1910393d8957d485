-- What is in view at each place of a body is known.
use Rattle.std.proofs.Common.{◌≡◌, ℕ, ◌+◌, ◌<◌, ◌≤◌, ◌==◌, ◌&&◌, ◌||◌, ◌⊎◌, inl, inr, Bool, true, false, nat_lt, List, [], ◌∷◌, length, get_or, slice_get}
use Rattle.std.proofs.Common.{if◌then◌else◌, Option, Some, None, option_map, is_some, refl, ap, sym, ◌∙◌, subst, arith}
use Rattle.std.specs.Prelude.{zero, suc, not, nat_le, position, unwrap_or}
use Rattle.std.specs.List.{list_any}
use Rattle.std.specs.Option.{IfSome, option_or}
use Rattle.std.proofs.lemmas.Bool.Decides.{nat_tests}
use Rattle.std.proofs.lemmas.List.Quantifiers.{position-Some}
use Rattle.std.proofs.lemmas.Option.{slice_get_within, get_or_from_slice_get}
use Rattle.pfc_tree.specs.Symbols.{Text}
use Rattle.pfc_tree.specs.trees.Parts.{ProgramTree}
use Rattle.pfc_tree.specs.forget.Parts.{forget_program}
use Rattle.pfc_tree.specs.lawful.Parts.{IsLawful}
use Rattle.pfc_types.specs.Types.{cells_in, is_simple}
use Rattle.pfc_types.specs.Scopes.{Names, Level, here, scope_at, meaning_in, position_in, within, predeclared_names, meaning_of, found_in}
use Rattle.pfc_types.specs.Blocks.{Blocks, State, no_module, sub_at, module_at, process_at, entry_at}
use Rattle.pfc_types.specs.declared.types.TypeId.{TypeId}
use Rattle.pfc_types.specs.declared.heads.Formal.{Formal}
use Rattle.pfc_types.specs.declared.heads.SubHead.{SubHead}
use Rattle.pfc_types.specs.declared.heads.ModuleHead.{ModuleHead}
use Rattle.pfc_types.specs.declared.heads.SubSort.{SubSort}
use Rattle.pfc_types.specs.declared.heads.SubSort.TheVariants.{Procedure, Guarded, Function}
use Rattle.pfc_types.specs.declared.scope.Meaning.{Meaning}
use Rattle.pfc_types.specs.declared.scope.Meaning.TheVariants.{Constant, Named, Variable, Sub, Module, Process, Entry, Predeclared, Faulty}
use Rattle.pfc_types.specs.declared.view.Found.{Found}
use Rattle.pfc_types.specs.declared.view.Around.{Around}
use Rattle.pfc_types.specs.rules.FaultyNames.{all_typed}
use Rattle.pfc_types.specs.rules.Routines.{sort_value, is_function_sort}
use Rattle.pfc_types.specs.rules.Expressions.{lends, found_lends}
use Rattle.pfc_types.specs.rules.Statements.{is_around, innermost}
use Rattle.pfc_types.specs.rules.Whole.{finished, broken}
use Rattle.pfc_types.proofs.Clean.{and-left, and-right}
use Rattle.pfc_semantics.specs.Layouts.{Layout, is_laid, sub_with, variable_place, sub_layout}
use Rattle.pfc_semantics.specs.Displays.{Spot, TypedSpot}
use Rattle.pfc_semantics.specs.Expressions.{spot_of, found_spot, named_spot, result_spot}
use Rattle.pfc_semantics.specs.Programs.{Block, Program, Guard, block_at, program_of}
use Rattle.pfc_translation.specs.Sites.{Site, at_line, in_accept, module_of, is_mains, linked, is_accept, before_accept, layout_with, place_of}
use Rattle.pfc_translation.specs.Sites.{is_reference}
use Rattle.pfc_translation.specs.Images.{site_in}
use Rattle.pfc_name_laws.specs.Reached.{GivesSimple, is_function}
use Rattle.pfc_name_laws.proofs.Numbers.{get_or-beyond, meaning_numbered, none_noted}
use Rattle.pfc_image_laws.specs.Levels.{sees}
use Rattle.pfc_image_numbers.proofs.Known.{Stands, stands as named_stands, found_sees, a_process_type}
use Rattle.pfc_image_cells.proofs.Subs.{program_named}
use Rattle.pfc_image_cells.proofs.Layouts.{IsAt, get_there, found_place}
use Rattle.pfc_image_cells.proofs.Formals.{result_stands}
use Rattle.pfc_image_cells.proofs.Trees.{equal_number, same_number, mains_are, Fine, Placed, mains_hold, own_sub}
use Rattle.pfc_standing_code.specs.Typed.{unlined, is_near, variables_by, variables_of, StandsAt, of_result, IsDeclared, Outlives}
use Rattle.pfc_typed_phrases.specs.Names.{left_behind, IsNamedSub, HasBlock, IsLaid, HavePlaces, AreKnown}
use Rattle.pfc_typed_phrases.proofs.Seen.{or_last, is_of_scope, own_variable}
use Rattle.pfc_typed_phrases.proofs.Known.{names_known}
use Rattle.pfc_typed_statements.specs.Reached.{AreReached, AreCallable, IsStarted, IsSingle, IsOpen, HaveResults, HaveStarts}
use Rattle.pfc_typed_statements.proofs.Reached.{reached_known, callable_known}
use Rattle.pfc_typed_structures.specs.Inside.{in_cobegin, IsInside, itself, lined, accepted, begun, AreMet}
use Rattle.pfc_typed_programs.proofs.Blocks.{among_mapped, headed, known, sub_apart, sub_laid, sub_takes, sub_leaves, process_takes}

-- ## Views

around_sees : (v : List Level) (i : ℕ) → is_around v i ≡ true → sees v i ≡ true
around_sees [] i e = absurd (cc)
around_sees (l ∷ v) i e = by (l.scope == i) e (λ q. around_sees v i q)
  where
    by : (r : Bool) → (r || is_around v i) ≡ true → (is_around v i ≡ true → sees v i ≡ true) → (r || sees v i) ≡ true
    by true q rest = refl
    by false q rest = rest q

any_sees : (v : List Level) (i : ℕ) → sees v i ≡ true → list_any (λ (level : Level). level.scope == i) v ≡ true
any_sees [] i e = absurd (cc)
any_sees (l ∷ v) i e = by (l.scope == i) e (λ q. any_sees v i q)
  where
    by : (r : Bool) → (r || sees v i) ≡ true → (sees v i ≡ true → list_any (λ (level : Level). level.scope == i) v ≡ true)
        → (r || list_any (λ (level : Level). level.scope == i) v) ≡ true
    by true q rest = refl
    by false q rest = rest q

no_function : (sort : SubSort) → is_function sort ≡ false → is_function_sort sort ≡ false
no_function Procedure e = refl
no_function Guarded e = refl
no_function (Function t) e = absurd (cc)

or_first : (a b : Bool) → a ≡ true → (a || b) ≡ true
or_first true b e = refl
or_first false b e = absurd (cc)

-- what a name that was found in a scope stands for there
found_meaning : (scopes : List Names) (v : List Level) (x : Text) (f : Found) (i : ℕ) → found_in scopes v x ≡ Some f → f.scope ≡ Some i
    → meaning_in (scope_at scopes i) x ≡ Some f.meaning
found_meaning scopes [] x f i e at = by (meaning_in predeclared_names x) e
  where
    scope_in : Option Found → Option ℕ
    scope_in None = None
    scope_in (Some g) = g.scope

    by : (m : Option Meaning) → option_map (λ m. record { scope = None; place = 0; meaning = m }) m ≡ Some f
        → meaning_in (scope_at scopes i) x ≡ Some f.meaning
    by None q = absurd (cc)
    by (Some m) q = let none : None ≡ f.scope = ap (λ (o : Option Found). scope_in o) q in let both = none ∙ at in absurd (cc)
found_meaning scopes (l ∷ v) x f i e at =
    by (position_in (scope_at scopes l.scope) x) (meaning_in (scope_at scopes l.scope) x) refl e (λ q. found_meaning scopes v x f i q at)
  where
    found_or : Option Found → Found
    found_or None = f
    found_or (Some g) = g

    number_in : Option ℕ → ℕ
    number_in None = 0
    number_in (Some n) = n

    here_is : (k : ℕ) (m : Meaning) → meaning_in (scope_at scopes l.scope) x ≡ Some m
        → Some (record { scope = Some l.scope; place = k; meaning = m }) ≡ Some f → meaning_in (scope_at scopes i) x ≡ Some f.meaning
    here_is k m q e =
        let same : record { scope = Some l.scope; place = k; meaning = m } ≡ f = ap (λ (o : Option Found). found_or o) e in
        let number : l.scope ≡ i = ap (λ (o : Option ℕ). number_in o) (ap (λ (g : Found). g.scope) same ∙ at) in
        subst (λ (j : ℕ). meaning_in (scope_at scopes j) x ≡ Some f.meaning) number (q ∙ ap (λ (g : Found). Some g.meaning) same)

    by : (k : Option ℕ) (m : Option Meaning) → meaning_in (scope_at scopes l.scope) x ≡ m → option_or (within l k m) (found_in scopes v x) ≡ Some f
        → (found_in scopes v x ≡ Some f → meaning_in (scope_at scopes i) x ≡ Some f.meaning) → meaning_in (scope_at scopes i) x ≡ Some f.meaning
    by None None q e rest = rest e
    by None (Some m) q e rest = rest e
    by (Some k) None q e rest = rest e
    by (Some k) (Some m) q e rest = inside (nat_lt k l.count) e
      where
        inside : (r : Bool)
            → option_or (if r then Some (record { scope = Some l.scope; place = k; meaning = m }) else None) (found_in scopes v x) ≡ Some f
            → meaning_in (scope_at scopes i) x ≡ Some f.meaning
        inside true e = here_is k m q e
        inside false e = rest e

-- The scope of a module is one of main's. Where there is none with this number the scope is the program's.
module_mains : (b : Blocks) (k : ℕ) → is_mains b (module_at b k).scope ≡ true
module_mains b k = by (nat_lt k (length b.modules)) refl
  where
    i : ℕ
    i = (module_at b k).scope

    of_module : k < length b.modules → (r : Bool) → (i == 0) ≡ r → is_mains b i ≡ true
    of_module below true e = or_first (i == 0) (is_some (module_of b i)) e
    of_module below false e =
        let some : 0 < i = grind (arith, nat_tests) in
        mains_are b i some ∙ among_mapped (λ (m : ModuleHead). m.scope) b.modules k no_module below

    by : (r : Bool) → nat_lt k (length b.modules) ≡ r → is_mains b i ≡ true
    by true e = let below : k < length b.modules = grind (arith, nat_tests) in of_module below (i == 0) refl
    by false e =
        let beyond : length b.modules ≤ k = grind (arith, nat_tests) in
        subst (λ (m : ModuleHead). is_mains b m.scope ≡ true) (sym (get_or-beyond b.modules k no_module beyond)) refl

-- the result of a function is of a simple type
simple_result : (sort : SubSort) (u : TypeId) → GivesSimple sort → sort ≡ Function (Some u) → is_simple u ≡ true
simple_result sort u gives is =
    let (v, same, simple) = subst (λ (k : SubSort). GivesSimple k) is gives in subst (λ (y : TypeId). is_simple y ≡ true) (sym (one u v same)) simple
  where
    one : (a b : TypeId) → Some a ≡ Some b → a ≡ b
    one a b e = cc

plain_leaves : (sort : SubSort) → is_function sort ≡ false → left_behind sort ≡ 0
plain_leaves Procedure e = refl
plain_leaves Guarded e = refl
plain_leaves (Function t) e = absurd (cc)

-- Where a guarded procedure is, its body has no accepts, and sees main's names and its own, which are the first.
abbrev pub HasOwnView : Program → Block → Type 0
HasOwnView p b =
    b.env.around.guarded ≡ true
    → (b.accepts ≡ 0) × (innermost b.env.view ≡ b.scope)
    × ((i : ℕ) → sees b.env.view i ≡ true → (is_mains p.state.blocks i ≡ true) ⊎ (i ≡ b.scope))

-- what is first is found at its place
found_first : (i k : ℕ) (xs : List ℕ) → (k == i) ≡ true → unwrap_or (position (λ j. j == i) (k ∷ xs)) 0 ≡ 0
found_first i k xs same = by (position (λ j. j == i) (k ∷ xs)) refl
  where
    by : (o : Option ℕ) → position (λ j. j == i) (k ∷ xs) ≡ o → unwrap_or o 0 ≡ 0
    by None e = refl
    by (Some zero) e = refl
    by (Some (suc n)) e =
        let before : (k == i) ≡ false = (position-Some (λ j. j == i) (k ∷ xs) (suc n) 0 e).2 0 (omega arith) in
        let both : true ≡ false = sym same ∙ before in absurd (cc)

-- the first of the activations that links lead to is the one at hand
own_links : (blocks : Blocks) (view : List Level) (i : ℕ) → innermost view ≡ i → is_mains blocks i ≡ false
    → unwrap_or (position (λ j. j == i) (linked blocks view)) 0 ≡ 0
own_links blocks [] i first e = refl
own_links blocks (l ∷ view) i first e = by (is_mains blocks l.scope) (ap (λ (n : ℕ). is_mains blocks n) first ∙ e)
  where
    by : (r : Bool) → r ≡ false → unwrap_or (position (λ j. j == i) (if r then [] else l.scope ∷ linked blocks view)) 0 ≡ 0
    by true q = absurd (cc)
    by false q = found_first i l.scope (linked blocks view) (ap (λ (n : ℕ). n == i) first ∙ same_number i)

module _ (t : ProgramTree) (lawful : IsLawful (forget_program t)) (clean : broken t ≡ [])
    (filled : (u : TypeId) → 0 < cells_in (finished t).forms u) (b : Block) (placed : Placed (program_of t) b)
    (own_view : HasOwnView (program_of t) b)
  where
    abbrev g : Program
    g = program_of t

    abbrev bs : Blocks
    bs = (finished t).blocks

    whole : bs.noted ≡ []
    whole = none_noted t clean

    -- each scope in view is in view in the body, or that of one of its accepts
    abbrev pub Views : List Level → Type 0
    Views v = (i : ℕ) → sees v i ≡ true → (sees b.env.view i ≡ true) ⊎ (is_accept b i ≡ true)

    abbrev at : State → List Level → Around → ℕ → Site
    at s v a l = record { program = g; block = b; env = record { state = s; view = v; around = a }; line = l }

    abbrev spot : ℕ → ℕ → Spot
    spot i k = record { scope = i; variable = variable_place bs i k; selectors = [] }

    -- ## Where variables stand

    abbrev StandsIn : Site → ℕ → ℕ → Meaning → Bool → Bool → Type 0
    StandsIn s i p m r q =
        slice_get (if r then b.layout else if q then g.main.layout else (block_at g i).layout) ((if r then before_accept s i else 0) + p) ≡ Some m

    stands : (v : List Level) (a : Around) (l i k : ℕ) (m : Meaning) → Views v → sees v i ≡ true → IsAt (scope_at bs.scopes i) k m → is_laid m ≡ true
        → StandsAt (at (finished t) v a l) (spot i k) m
    stands v a l i k m view seen is laid = by (view i seen)
      where
        s : Site
        s = at (finished t) v a l

        p : ℕ
        p = variable_place bs i k

        none : 0 + p ≡ p
        none = omega arith

        plain : Fine g i → (q : Bool) → is_mains bs i ≡ q → StandsIn s i p m false q
        plain fine true e = get_there g.main.layout p (0 + p) m (mains_hold t lawful (program_named t lawful whole) i e k m is laid) none
        plain fine false e = get_there (block_at g i).layout p (0 + p) m ((fine e).0 k m is laid) none

        by : (sees b.env.view i ≡ true) ⊎ (is_accept b i ≡ true) → StandsIn s i p m (is_accept b i) (is_mains bs i)
        by (inl there) =
            let one = placed.seen i there in
            subst (λ (r : Bool). StandsIn s i p m r (is_mains bs i)) (sym one.1) (plain one.0 (is_mains bs i) refl)
        by (inr own) =
            subst (λ (r : Bool). StandsIn s i p m r (is_mains bs i)) (sym own) ((placed.accept i own).stands k m is laid)

    -- a name that is found stands for a variable or a single process
    record IsNamed (v : List Level) (a : Around) (l : ℕ) (f : Found) (m : Meaning) : Type 0 where
      scope_number : ℕ
      scope : f.scope ≡ Some scope_number
      seen : sees v scope_number ≡ true
      place : IsAt (scope_at bs.scopes scope_number) f.place m
      stands_there : StandsAt (at (finished t) v a l) (spot scope_number f.place) m

    is_named : (v : List Level) (a : Around) (l : ℕ) (x : Text) (f : Found) (m : Meaning) → Views v → found_in bs.scopes v x ≡ Some f → f.meaning ≡ m
        → is_laid m ≡ true → (Stands bs None m → ⊥) → IsNamed v a l f m
    is_named v a l x f m view is e laid none = by f.scope refl (named_stands (finished t) (known t lawful clean) v x f is)
      where
        by : (o : Option ℕ) → f.scope ≡ o → Stands bs f.scope f.meaning → IsNamed v a l f m
        by None q h = absurd (none (subst (λ (n : Meaning). Stands bs None n) e (subst (λ (o : Option ℕ). Stands bs o f.meaning) q h)))
        by (Some i) q h =
            let seen = found_sees bs.scopes v x f i is q in
            let place = subst (λ (n : Meaning). IsAt (scope_at bs.scopes i) f.place n) e (found_place bs.scopes v x f i is q) in
            record { scope_number = i; scope = q; seen = seen; place = place; stands_there = stands v a l i f.place m view seen place laid }

    -- where the name leads to
    spot_is : (v : List Level) (a : Around) (l : ℕ) (f : Found) (m : Meaning) (n : IsNamed v a l f m) → f.meaning ≡ m
        → spot_of (at (finished t) v a l).env (Some f) ≡ named_spot bs n.scope_number f.place m
    spot_is v a l f m n e =
        ap (λ (o : Option ℕ). found_spot bs o f) n.scope ∙ ap (λ (k : Meaning). named_spot bs n.scope_number f.place k) e

    variables : (v : List Level) (a : Around) (l : ℕ) → Views v → (x : Text) (u : TypeId) (r : Bool)
        → meaning_of (found_in bs.scopes v x) ≡ Some (Variable u r)
        → StandsAt (at (finished t) v a l) (spot_of (at (finished t) v a l).env (found_in bs.scopes v x)).spot (Variable u r)
    variables v a l view x u r e = by (found_in bs.scopes v x) refl e
      where
        by : (o : Option Found) → found_in bs.scopes v x ≡ o → meaning_of o ≡ Some (Variable u r)
            → StandsAt (at (finished t) v a l) (spot_of (at (finished t) v a l).env o).spot (Variable u r)
        by None h e = absurd (cc)
        by (Some f) h e =
            let is : f.meaning ≡ Variable u r = cc in
            let n = is_named v a l x f (Variable u r) view h is refl (λ q. q) in
            subst (λ (w : TypedSpot). StandsAt (at (finished t) v a l) w.spot (Variable u r)) (sym (spot_is v a l f (Variable u r) n is)) n.stands_there

    -- ## Subs

    sub_found : (v : List Level) (x : Text) (n : ℕ) → meaning_of (found_in bs.scopes v x) ≡ Some (Sub n) → n < length bs.subs
    sub_found v x n e = by (found_in bs.scopes v x) refl e
      where
        of_scope : (o : Option ℕ) → Stands bs o (Sub n) → n < length bs.subs
        of_scope None h = absurd h
        of_scope (Some i) h = h

        by : (o : Option Found) → found_in bs.scopes v x ≡ o → meaning_of o ≡ Some (Sub n) → n < length bs.subs
        by None h e = absurd (cc)
        by (Some f) h e =
            let is : f.meaning ≡ Sub n = cc in
            of_scope f.scope (subst (λ (m : Meaning). Stands bs f.scope m) is (named_stands (finished t) (known t lawful clean) v x f h))

    module_found : (v : List Level) (x : Text) (n : ℕ) → meaning_of (found_in bs.scopes v x) ≡ Some (Module n) → n < length bs.modules
    module_found v x n e = by (found_in bs.scopes v x) refl e
      where
        of_scope : (o : Option ℕ) → Stands bs o (Module n) → n < length bs.modules
        of_scope None h = absurd h
        of_scope (Some i) h = h

        by : (o : Option Found) → found_in bs.scopes v x ≡ o → meaning_of o ≡ Some (Module n) → n < length bs.modules
        by None h e = absurd (cc)
        by (Some f) h e =
            let is : f.meaning ≡ Module n = cc in
            of_scope f.scope (subst (λ (m : Meaning). Stands bs f.scope m) is (named_stands (finished t) (known t lawful clean) v x f h))

    -- it stands among the names of a scope in view
    sub_near : (v : List Level) (a : Around) (l : ℕ) → Views v → (x : Text) (n : ℕ) → meaning_of (found_in bs.scopes v x) ≡ Some (Sub n)
        → (named : IsNamedSub (at (finished t) v a l) (sub_at bs n)) × (is_near b named.within ≡ true)
    sub_near v a l view x n e = by (found_in bs.scopes v x) refl e
      where
        near : (i : ℕ) → (sees b.env.view i ≡ true) ⊎ (is_accept b i ≡ true) → is_near b i ≡ true
        near i (inl there) = or_first (list_any (λ (level : Level). level.scope == i) b.env.view) (is_accept b i) (any_sees b.env.view i there)
        near i (inr own) = or_last (list_any (λ (level : Level). level.scope == i) b.env.view) (is_accept b i) own

        in_scope : (o : Option ℕ) (f : Found) → f.scope ≡ o → found_in bs.scopes v x ≡ Some f → Stands bs o (Sub n) → f.meaning ≡ Sub n
            → (named : IsNamedSub (at (finished t) v a l) (sub_at bs n)) × (is_near b named.within ≡ true)
        in_scope None f q h there is = absurd there
        in_scope (Some i) f q h below is =
            let nearby = near i (view i (found_sees bs.scopes v x f i h q)) in (
              record {
                number = n;
                among = below;
                is = refl;
                within = i;
                name = x;
                declared = found_meaning bs.scopes v x f i h q ∙ ap Some is;
                seen = or_last (is_mains bs i) (is_near b i) nearby;
              },
              nearby,
            )

        by : (o : Option Found) → found_in bs.scopes v x ≡ o → meaning_of o ≡ Some (Sub n)
            → (named : IsNamedSub (at (finished t) v a l) (sub_at bs n)) × (is_near b named.within ≡ true)
        by None h e = absurd (cc)
        by (Some f) h e =
            let is : f.meaning ≡ Sub n = cc in
            in_scope f.scope f refl h (subst (λ (m : Meaning). Stands bs f.scope m) is (named_stands (finished t) (known t lawful clean) v x f h)) is

    has_block : (v : List Level) (a : Around) (l n : ℕ) → n < length bs.subs → IsNamedSub (at (finished t) v a l) (sub_at bs n)
        → HasBlock (at (finished t) v a l) (sub_at bs n)
    has_block v a l n below named =
        record {
          named = named;
          gives = ((headed t lawful clean).subs n below).gives whole;
          taken = sub_takes t lawful clean n below;
          leaves = sub_leaves t lawful clean n below;
        }

    pub places : (v : List Level) (a : Around) (l : ℕ) → Views v → HavePlaces (at (finished t) v a l)
    places v a l view = record { variables = variables v a l view; subs = λ x n e. has_block v a l n (sub_found v x n e) (sub_near v a l view x n e).0 }

    -- ## Results

    result_there : (v : List Level) (a : Around) (l n : ℕ) (u : TypeId) → Views v → n < length bs.subs → (sub_at bs n).sort ≡ Function (Some u)
        → is_around v (sub_at bs n).scope ≡ true → StandsAt (at (finished t) v a l) (result_spot (sub_at bs n)).spot (Variable u false)
    result_there v a l n u view below sort around = by (view i (around_sees v i around))
      where
        s : Site
        s = at (finished t) v a l

        head : SubHead
        head = sub_at bs n

        i : ℕ
        i = head.scope

        p : ℕ
        p = length head.formals

        own : StandsIn s i p (Variable u false) false false
        own =
            let none : 0 + p ≡ p = omega arith in
            ap (λ (x : Layout). slice_get x (0 + p)) (sub_laid t lawful clean n below)
            ∙ get_there (sub_layout bs head) p (0 + p) (Variable u false)
            (result_stands bs head u whole ((headed t lawful clean).subs n below).heading sort) none

        by : (sees b.env.view i ≡ true) ⊎ (is_accept b i ≡ true) → StandsIn s i p (Variable u false) (is_accept b i) (is_mains bs i)
        by (inl there) =
            subst (λ (r : Bool). StandsIn s i p (Variable u false) r (is_mains bs i)) (sym (placed.seen i there).1)
            (subst (λ (q : Bool). StandsIn s i p (Variable u false) false q) (sym (sub_apart t lawful clean n below)) own)
        by (inr mine) = let both : None ≡ Some head = sym (placed.accept i mine).none ∙ own_sub t n below in absurd (cc)

    result_own : (v : List Level) (a : Around) (l n : ℕ) (u : TypeId) → n < length bs.subs
        → StandsAt (at (finished t) v a l) (result_spot (sub_at bs n)).spot (Variable u false)
        → length (sub_at bs n).formals < variables_of (unlined (at (finished t) v a l)) (sub_at bs n).scope
    result_own v a l n u below h =
        let s = unlined (at (finished t) v a l) in
        let i = (sub_at bs n).scope in
        let all = slice_get_within (layout_with s i) (place_of s (result_spot (sub_at bs n)).spot) (Variable u false) h in
        let within : length (sub_at bs n).formals < length (layout_with s i) = omega (arith, all) in
        subst (λ (q : Bool). length (sub_at bs n).formals < (if q then length (layout_with s i) else variables_by s i (sub_with bs.subs i)))
        (sym (sub_apart t lawful clean n below))
        (subst (λ (o : Option SubHead). length (sub_at bs n).formals < variables_by s i o) (sym (own_sub t n below)) within)

    result_laid : (v : List Level) (a : Around) (l : ℕ) → Views v → (x : Text) (n : ℕ) (u : TypeId) → meaning_of (found_in bs.scopes v x) ≡ Some (Sub n)
        → (sub_at bs n).sort ≡ Function (Some u) → is_around v (sub_at bs n).scope ≡ true → IsLaid (at (finished t) v a l) x u
    result_laid v a l view x n u e sort around =
        let below = sub_found v x n e in
        let w = result_spot (sub_at bs n) in
        let is = spot_found (found_in bs.scopes v x) refl e in
        let there = result_there v a l n u view below sort around in
        record {
          typed = ap (λ (z : TypedSpot). z.t) is ∙ ap sort_value sort;
          declared = subst (λ (z : TypedSpot). IsDeclared s z.spot (Some u)) (sym is) (record {
            seen = or_last (is_mains bs w.spot.scope) (list_any (λ (level : Level). level.scope == w.spot.scope) v)
                (any_sees v w.spot.scope (around_sees v w.spot.scope around));
            own = result_own v a l n u below there;
            meaning = Variable u false;
            laid = there;
            variable = refl;
            typed = refl;
            whole = refl;
            named = of_result u (simple_result (sub_at bs n).sort u (((headed t lawful clean).subs n below).gives whole) sort) refl;
          });
        }
      where
        s : Site
        s = at (finished t) v a l

        of_scope : (f : Found) (o : Option ℕ) → Stands bs o (Sub n) → f.meaning ≡ Sub n → found_spot bs o f ≡ result_spot (sub_at bs n)
        of_scope f None h e = absurd h
        of_scope f (Some i) h e = ap (λ (k : Meaning). named_spot bs i f.place k) e

        spot_found : (o : Option Found) → found_in bs.scopes v x ≡ o → meaning_of o ≡ Some (Sub n) → spot_of s.env o ≡ result_spot (sub_at bs n)
        spot_found None h e = absurd (cc)
        spot_found (Some f) h e =
            let is : f.meaning ≡ Sub n = cc in
            of_scope f f.scope (subst (λ (m : Meaning). Stands bs f.scope m) is (named_stands (finished t) (known t lawful clean) v x f h)) is

    -- ## What a requeue lends

    -- the body of a guarded procedure, where what is around a statement is a body of one
    abbrev Inside : List Level → Around → Type 0
    Inside v a = a.guarded ≡ true → (b.env.around.guarded ≡ true) × (v ≡ b.env.view)

    lasting_at : (v : List Level) (a : Around) (l : ℕ) → Views v → Inside v a → a.guarded ≡ true → (x : Text)
        → found_lends (Some (innermost v)) (found_in bs.scopes v x) ≡ true
        → Outlives (at (finished t) v a l) (spot_of (at (finished t) v a l).env (found_in bs.scopes v x)).spot
    lasting_at v a l view within inside x h = by (found_in bs.scopes v x) refl h
      where
        s : Site
        s = at (finished t) v a l

        body_guarded : b.env.around.guarded ≡ true
        body_guarded = (within inside).0

        same_view : v ≡ b.env.view
        same_view = (within inside).1

        first : innermost v ≡ b.scope
        first = ap (λ (w : List Level). innermost w) same_view ∙ (own_view body_guarded).1

        -- a variable of the procedure's own is a parameter by reference
        lent_variable : (f : Found) (i : ℕ) (u : TypeId) (r : Bool) → found_in bs.scopes v x ≡ Some f → f.scope ≡ Some i → f.meaning ≡ Variable u r
            → (r || not (innermost v == i)) ≡ true → i ≡ b.scope → is_mains bs i ≡ false → Outlives s (spot i f.place)
        lent_variable f i u r is q e lent same apart =
            let seen = found_sees bs.scopes v x f i is q in
            let place = subst (λ (n : Meaning). IsAt (scope_at bs.scopes i) f.place n) e (found_place bs.scopes v x f i is q) in
            let there = stands v a l i f.place (Variable u r) view seen place refl in
            let first_is : innermost v ≡ i = first ∙ sym same in
            let its : innermost v == i ≡ true = ap (λ (n : ℕ). n == i) first_is ∙ same_number i in
            let by_reference : r ≡ true = by_rule r (innermost v == i) its lent in
            inr (
              ap (λ (m : Bool). if m then length (linked bs b.env.view) else unwrap_or (position (λ j. j == i) (linked bs b.env.view)) 0) apart
                  ∙ own_links bs b.env.view i (sym (ap (λ (w : List Level). innermost w) same_view) ∙ first_is) apart,
              ap is_reference (get_or_from_slice_get (layout_with s i) (place_of s (spot i f.place)) (Variable u r) Faulty there) ∙ by_reference,
            )
          where
            by_rule : (r c : Bool) → c ≡ true → (r || not c) ≡ true → r ≡ true
            by_rule true c e h = refl
            by_rule false true e h = absurd (cc)
            by_rule false false e h = absurd (cc)

        variable : (f : Found) (i : ℕ) (u : TypeId) (r : Bool) → found_in bs.scopes v x ≡ Some f → f.scope ≡ Some i → f.meaning ≡ Variable u r
            → (r || not (innermost v == i)) ≡ true → Outlives s (spot i f.place)
        variable f i u r is q e lent = by_mains (is_mains bs i) refl
          where
            seen_there : sees b.env.view i ≡ true
            seen_there = subst (λ (w : List Level). sees w i ≡ true) same_view (found_sees bs.scopes v x f i is q)

            by_mains : (m : Bool) → is_mains bs i ≡ m → Outlives s (spot i f.place)
            by_mains true mains = inl mains
            by_mains false apart =
                elim ((own_view body_guarded).2 i seen_there) [
                  | inl mains ↦ inl mains
                  | inr same ↦ lent_variable f i u r is q e lent same apart
                ]

        by_meaning : (f : Found) (i : ℕ) → found_in bs.scopes v x ≡ Some f → f.scope ≡ Some i → (m : Meaning) → f.meaning ≡ m
            → lends (Some (innermost v)) (Some i) m ≡ true → Outlives s (named_spot bs i f.place m).spot
        by_meaning f i is q (Constant u n) e lent = absurd (cc)
        by_meaning f i is q (Named u) e lent = absurd (cc)
        by_meaning f i is q (Variable u r) e lent = variable f i u r is q e lent
        by_meaning f i is q (Sub n) e lent = absurd (cc)
        by_meaning f i is q (Module n) e lent = absurd (cc)
        by_meaning f i is q (Process n) e lent = absurd (cc)
        by_meaning f i is q (Entry n) e lent = absurd (cc)
        by_meaning f i is q (Predeclared n) e lent = absurd (cc)
        by_meaning f i is q Faulty e lent = inl refl

        by_scope : (f : Found) → found_in bs.scopes v x ≡ Some f → (o : Option ℕ) → f.scope ≡ o
            → lends (Some (innermost v)) o f.meaning ≡ true → Outlives s (found_spot bs o f).spot
        by_scope f is None q lent = inl refl
        by_scope f is (Some i) q lent = by_meaning f i is q f.meaning refl lent

        by : (o : Option Found) → found_in bs.scopes v x ≡ o → found_lends (Some (innermost v)) o ≡ true → Outlives s (spot_of s.env o).spot
        by None is lent = inl refl
        by (Some f) is lent = by_scope f is f.scope refl lent

    pub results : (v : List Level) (a : Around) (l : ℕ) → Views v → Inside v a → HaveResults (at (finished t) v a l)
    results v a l view within =
        record {
          filled = filled;
          results = result_laid v a l view;
          guarded = λ e. (within e).0;
          near = sub_near v a l view;
          lasting = lasting_at v a l view within;
        }

    -- ## Processes, entries and exported subs

    started : (v : List Level) (a : Around) (l n : ℕ) → n < length bs.processes → IsStarted (at (finished t) v a l) n
    started v a l n below =
        record { among = below; formals = ((headed t lawful clean).processes n below).typed whole; taken = process_takes t lawful clean n below }

    single : (v : List Level) (a : Around) (l : ℕ) → Views v → (x : Text) (n : ℕ) → meaning_of (found_in bs.scopes v x) ≡ Some (Process n)
        → IsSingle (at (finished t) v a l) x n
    single v a l view x n e = by (found_in bs.scopes v x) refl e
      where
        s : Site
        s = at (finished t) v a l

        below : (o : Option ℕ) → Stands bs o (Process n) → n < length bs.processes
        below None h = absurd h
        below (Some i) h = h

        by : (o : Option Found) → found_in bs.scopes v x ≡ o → meaning_of o ≡ Some (Process n) → IsSingle s x n
        by None h e = absurd (cc)
        by (Some f) h e =
            let is : f.meaning ≡ Process n = cc in
            let k = is_named v a l x f (Process n) view h is refl (λ q. q) in
            let i = k.scope_number in
            let found : spot_of s.env (found_in bs.scopes v x) ≡ named_spot bs i f.place (Process n) =
            ap (λ (o : Option Found). spot_of s.env o) h ∙ spot_is v a l f (Process n) k is in
            record {
              untyped = ap (λ (w : TypedSpot). w.t) found;
              declared = subst (λ (w : TypedSpot). IsDeclared s w.spot None) (sym found) (record {
                seen = or_last (is_mains bs i) (list_any (λ (level : Level). level.scope == i) v) (any_sees v i k.seen);
                own = own_variable s (spot i f.place) f.place (Process n) refl k.place refl k.stands_there;
                meaning = Process n;
                laid = k.stands_there;
                variable = refl;
                typed = refl;
                whole = refl;
                named = is_of_scope bs i (variable_place bs i f.place) f.place (Process n) k.place refl;
              });
              stands = subst (λ (w : TypedSpot). StandsAt s w.spot (Process n)) (sym found) k.stands_there;
              started = started v a l n
                  (below f.scope (subst (λ (m : Meaning). Stands bs f.scope m) is (named_stands (finished t) (known t lawful clean) v x f h)));
            }

    entry_typed : (n k : ℕ) → all_typed (entry_at bs n k) ≡ true
    entry_typed n k = by (nat_lt e (length bs.entries)) refl
      where
        e : ℕ
        e = (process_at bs n).entries + k

        by : (r : Bool) → nat_lt e (length bs.entries) ≡ r → all_typed (get_or bs.entries e []) ≡ true
        by true q = let below : e < length bs.entries = grind (arith, nat_tests) in (headed t lawful clean).entries e below whole
        by false q =
            let beyond : length bs.entries ≤ e = grind (arith, nat_tests) in ap (λ (x : List Formal). all_typed x) (get_or-beyond bs.entries e [] beyond)

    exported : (v : List Level) (a : Around) (l k n : ℕ) (x : Text) → meaning_in (scope_at bs.scopes (module_at bs k).scope) x ≡ Some (Sub n)
        → (sub_at bs n).exported ≡ true → IsOpen (at (finished t) v a l) k n
    unfolding has_block
    exported v a l k n x e marked =
        let i = (module_at bs k).scope in
        let below : n < length bs.subs =
        subst (λ (m : Option Meaning). IfSome m (Stands bs (Some i))) e (meaning_numbered (finished t) (known t lawful clean) i x) in
        let is = (headed t lawful clean).subs n below in
        record {
          whole = record {
            formals = is.heading.typed whole;
            block = has_block v a l n below (record {
              number = n;
              among = below;
              is = refl;
              within = i;
              name = x;
              declared = e;
              seen = or_first (is_mains bs i) (list_any (λ (level : Level). level.scope == i) b.env.view || is_accept b i)
                  (module_mains bs k);
            });
          };
          within = refl;
          plain = no_function (sub_at bs n).sort (is.exported marked);
          nothing = plain_leaves (sub_at bs n).sort (is.exported marked);
        }

    pub starts : (v : List Level) (a : Around) (l : ℕ) → Views v → HaveStarts (at (finished t) v a l)
    starts v a l view =
        record {
          singles = single v a l view;
          processes = λ u n e. started v a l n (a_process_type (finished t) (known t lawful clean) u n e);
          entries = λ n k x e. entry_typed n k;
          modules = module_found v;
          exported = exported v a l;
        }

    -- ## All of it

    known_at : (s : State) (v : List Level) (a : Around) (l : ℕ) → s ≡ finished t → Views v → AreKnown (at s v a l)
    known_at s v a l e view =
        subst (λ (z : State). AreKnown (at z v a l)) (sym e) (names_known t (at (finished t) v a l) clean refl refl (places v a l view))

    reached_at : (s : State) (v : List Level) (a : Around) (l : ℕ) → s ≡ finished t → Views v → Inside v a → AreReached (at s v a l)
    reached_at s v a l e view guarded =
        subst (λ (z : State). AreReached (at z v a l)) (sym e) (reached_known t (at (finished t) v a l) refl (results v a l view guarded))

    callable_at : (s : State) (v : List Level) (a : Around) (l : ℕ) → s ≡ finished t → Views v → AreCallable (at s v a l)
    callable_at s v a l e view =
        subst (λ (z : State). AreCallable (at z v a l)) (sym e) (callable_known t (at (finished t) v a l) clean refl (starts v a l view))

    -- ## Places inside the body

    record IsPlace (u : Site) : Type 0 where
      view : List Level
      around : Around
      line : ℕ
      is : u ≡ at b.env.state view around line
      views : Views view
      guarded : Inside view around

    opened : (v : List Level) (n : ℕ) → Views v → is_accept b n ≡ true → Views (here b.env.state.blocks.scopes n v)
    opened v n h e i seen = by (n == i) refl seen
      where
        by : (z : Bool) → (n == i) ≡ z → (z || sees v i) ≡ true → (sees b.env.view i ≡ true) ⊎ (is_accept b i ≡ true)
        by true q k = inr (subst (λ (j : ℕ). is_accept b j ≡ true) (equal_number n i q) e)
        by false q k = h i k

    no_accept : b.accepts ≡ 0 → (n : ℕ) → is_accept b n ≡ true → ⊥
    no_accept none n e =
        let low : nat_le b.next n && nat_lt n (b.next + 0) ≡ true =
        subst (λ (k : ℕ). nat_le b.next n && nat_lt n (b.next + k) ≡ true) none e in
        let lower = and-left (nat_le b.next n) (nat_lt n (b.next + 0)) low in
        let upper = and-right (nat_le b.next n) (nat_lt n (b.next + 0)) low in
        grind (arith, nat_tests, lower, upper)

    inside : (u : Site) → IsInside (site_in g b) u → IsPlace u
    inside u itself = record { view = b.env.view; around = b.env.around; line = b.last_line; is = refl; views = λ i seen. inl seen; guarded = λ h. (h, refl) }
    inside u (lined w n i) =
        let r = inside w i in
        record { view = r.view; around = r.around; line = n; is = ap (λ (z : Site). at_line z n) r.is; views = r.views; guarded = r.guarded }
    inside u (accepted w n e i) =
        let r = inside w i in
        record {
          view = here b.env.state.blocks.scopes n r.view;
          around = r.around;
          line = r.line;
          is = ap (λ (z : Site). in_accept z n) r.is;
          views = opened r.view n r.views e;
          guarded = λ h. absurd (no_accept (own_view (r.guarded h).0).0 n e);
        }
    inside u (begun w i) =
        let r = inside w i in
        record { view = r.view; around = record r.around { cobegin = true }; line = r.line; is = ap in_cobegin r.is; views = r.views; guarded = r.guarded }

    pub met : b.env.state ≡ finished t → AreMet (site_in g b)
    met state =
        record {
          known = λ u i. let r = inside u i in subst AreKnown (sym r.is) (known_at b.env.state r.view r.around r.line state r.views);
          reached = λ u i. let r = inside u i in subst AreReached (sym r.is) (reached_at b.env.state r.view r.around r.line state r.views r.guarded);
          callable = λ u i. let r = inside u i in subst AreCallable (sym r.is) (callable_at b.env.state r.view r.around r.line state r.views);
        }

    -- in a guard
    pub guard_known : (w : Guard) (line : ℕ) → w.env.state ≡ finished t → ((i : ℕ) → sees w.env.view i ≡ true → sees b.env.view i ≡ true)
        → AreKnown (record { program = g; block = b; env = w.env; line = line })
    guard_known w line state seen = known_at w.env.state w.env.view w.env.around line state (λ i e. inl (seen i e))
