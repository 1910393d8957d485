-- What the owner sees in a meeting: what it saw, and the accept's parameters, which the caller lends it.
use Rattle.std.proofs.Common.{◌≡◌, ◌≢◌, ℕ, zero, suc, ◌+◌, ◌<◌, ◌≤◌, ◌==◌, ℤ, pos, Bool, true, false, ◌||◌, if◌then◌else◌, List, [], ◌∷◌, length, get_or, Some}
use Rattle.std.proofs.Common.{refl, sym, ap, ◌∙◌, subst, arith, ◌⊎◌, inl, inr}
use Rattle.std.specs.List.{list_any}
use Rattle.pfc_types.specs.Scopes.{scope_at}
use Rattle.pfc_world.specs.Tables.{Table}
use Rattle.pfc_semantics.specs.Values.{Value, Location, ordinal, compound, points}
use Rattle.pfc_semantics.specs.Displays.{Spot, Display}
use Rattle.pfc_semantics.specs.Layouts.{Layout, laid_names, sub_with}
use Rattle.pfc_semantics.specs.Programs.{Block, Program}
use Rattle.pfc_semantics.specs.Remainders.{Context, Accepting}
use Rattle.pfc_semantics.specs.Configurations.{Activation, Config, activity_of}
use Rattle.pfc_translation.specs.Sites.{Site, is_mains, linked, is_accept, before_accept, laid_before, layout_with, links_to, place_of}
use Rattle.pfc_stacks.specs.Refs.{word_of}
use Rattle.pfc_stacks.specs.Stacks.{last_activation}
use Rattle.pfc_cells.specs.Homes.{Home, Homes}
use Rattle.pfc_cells.specs.Memory.{Entry, Entries, Lives, IsAmong}
use Rattle.pfc_machines.specs.declared.machine.Machine.{Machine}
use Rattle.pfc_machines.specs.Descriptors.{descriptor_of}
use Rattle.pfc_standing_code.specs.Settings.{of_own}
use Rattle.pfc_standing_code.specs.Typed.{variables_by, variables_of}
use Rattle.pfc_standing_code.specs.TypedStatements.{AcceptsEntry}
use Rattle.pfc_standing_code.specs.Words.{IsChecked, is_known}
use Rattle.pfc_views.specs.Views.{block_site}
use Rattle.pfc_call_laws.proofs.Displays.{is_same, same_of}
use Rattle.pfc_call_laws.proofs.Places.{or_cases, or_left, or_right}
use Rattle.pfc_representation.specs.Levels.{Facts, program_in, LivingLevel, MayKeep, of_main, of_own as of_own_stack, lent}
use Rattle.pfc_representation.specs.Hands.{AreKept}
use Rattle.pfc_representation.specs.Holding.{holders_in}
use Rattle.pfc_representation.specs.Machines.{AreAlike}
use Rattle.pfc_representation.specs.Processes.{IsAtLevel}
use Rattle.pfc_kept_meetings.specs.Owners.{HasTypedEntries}
use Rattle.pfc_kept_meetings.specs.Accepts.{HasProcesses, KeepsAccepts}
use Rattle.pfc_kept_meetings.proofs.Apart.{AreApart}
use Rattle.pfc_kept_meetings.proofs.Owner as owner
use Rattle.pfc_kept_meetings.proofs.Giving as giving
use Rattle.pfc_kept_meetings.proofs.Parameters.{own_before, accepts_apart}

some_same : {A : Type 0} (x y : A) → Some x ≡ Some y → x ≡ y
some_same x y h = cc

-- ## What is lent

-- a location of the activation is among what is passed
abbrev pub is_passed : List Value → ℕ → Bool
is_passed [] n = false
is_passed (points l ∷ values) n = l.activation == n || is_passed values n
is_passed (v ∷ values) n = is_passed values n

pub passed_there : (values : List Value) (k : ℕ) (l : Location) → get_or values k (ordinal (pos 0)) ≡ points l → is_passed values l.activation ≡ true
passed_there [] k l is = absurd (let no : ordinal (pos 0) ≡ points l = is in (let none : ⊥ = cc in none))
passed_there (points j ∷ values) zero l is =
    let same : j ≡ l = (let both : points j ≡ points l = is in cc) in
    or_left (j.activation == l.activation) (is_passed values l.activation) (is_same j.activation l.activation (ap (λ (y : Location). y.activation) same))
passed_there (points j ∷ values) (suc k) l is = or_right (j.activation == l.activation) (is_passed values l.activation) (passed_there values k l is)
passed_there (ordinal n ∷ values) zero l is = absurd (let no : ordinal n ≡ points l = is in (let none : ⊥ = cc in none))
passed_there (ordinal n ∷ values) (suc k) l is = passed_there values k l is
passed_there (compound vs ∷ values) zero l is = absurd (let no : compound vs ≡ points l = is in (let none : ⊥ = cc in none))
passed_there (compound vs ∷ values) (suc k) l is = passed_there values k l is

-- and its lender may keep it
pub may_lend : (table : Table) (entries : Entries) (r : ℕ) (lenders : List ℕ) (values : List Value) (n : ℕ) → AreKept table entries r lenders values
    → is_passed values n ≡ true → MayKeep table entries r lenders (entries r) n
may_lend table entries r lenders [] n kept is = absurd (let no : false ≡ true = is in (let none : ⊥ = cc in none))
may_lend table entries r lenders (points l ∷ values) n kept is =
    by (or_cases (l.activation == n) (is_passed values n) is) (λ later. may_lend table entries r lenders values n kept.1 later)
  where
    by : ((l.activation == n) ≡ true) ⊎ (is_passed values n ≡ true) → (is_passed values n ≡ true → MayKeep table entries r lenders (entries r) n)
        → MayKeep table entries r lenders (entries r) n
    by (inl same) others = subst (λ j. MayKeep table entries r lenders (entries r) j) (same_of l.activation n same) kept.0
    by (inr later) others = others later
may_lend table entries r lenders (ordinal j ∷ values) n kept is = may_lend table entries r lenders values n kept is
may_lend table entries r lenders (compound vs ∷ values) n kept is = may_lend table entries r lenders values n kept is

-- what may be kept lives, where main lives
pub kept_lives : (table : Table) (entries : Entries) (p : ℕ) (lenders : List ℕ) (mine : List Entry) (n : ℕ) → Lives entries 0 → mine ≡ entries p
    → MayKeep table entries p lenders mine n → Lives entries n
kept_lives table entries _ _ _ _ main same (of_main p lenders mine) = main
kept_lives table entries _ _ _ n main same (of_own_stack p lenders mine _ among) = (p, subst (λ (es : List Entry). IsAmong n es) same among)
kept_lives table entries _ _ _ n main same (lent p lenders mine _ k q others there met inner) =
    kept_lives table entries q others (entries q) n main refl inner

module _ (facts : Facts) (m : Machine) (c : Config) (homes : Homes) (entries : Entries) (alike : AreAlike facts homes entries m c) (q : ℕ) (level : LivingLevel)
    (stands : IsAtLevel facts homes entries c.store m.stacks c.table (holders_in facts c) q (activity_of (program_in facts) c q)
    (descriptor_of m.descriptors q) level)
    (own : level.setting.trial ≡ of_own) (there : q < length c.activities) (processes : HasProcesses facts.tree) (b : Block) (x : Context)
    (checked : IsChecked level.setting b x.env) (acc : Accepting)
    (accepts : AcceptsEntry level.setting.program.state.blocks b.scope acc.entry acc.scope)
    (typed : HasTypedEntries facts.tree) (runs : KeepsAccepts facts c) (of_block : is_accept b acc.scope ≡ true) where
  abbrev g : Program
  g = program_in facts

  abbrev i : ℕ
  i = acc.scope

  abbrev here : Site
  here = block_site g b

  abbrev act : Activation
  act = giving.act facts m c homes entries alike q level stands own there processes b x checked acc accepts typed runs of_block

  abbrev home : Home
  home = giving.home facts m c homes entries alike q level stands own there processes b x checked acc accepts typed runs of_block

  abbrev parameters : Layout
  parameters = giving.parameters facts m c homes entries alike q level stands own there processes b x checked acc accepts typed runs of_block

  abbrev from : ℕ
  from = giving.from facts m c homes entries alike q level stands own there processes b x checked acc accepts typed runs of_block

  abbrev to : ℕ
  to = giving.to facts m c homes entries alike q level stands own there processes b x checked acc accepts typed runs of_block

  abbrev w : ℤ
  w = word_of (last_activation m.stacks q)

  abbrev display : Display
  display = (activity_of g c q).display

  -- ## No place of it is one of a name that is known

  module _ (open_ones : List ℕ) (apart : AreApart b i open_ones) where
    pub out_of : (v : Spot) → is_known g.state.blocks b open_ones v.scope ≡ true → links_to here v.scope ≡ 0 → v.variable < variables_of here v.scope
        → from ≤ place_of here v → place_of here v < to → ⊥
    out_of v known links own_variable low high =
        by (or_cases (is_mains g.state.blocks v.scope)
        (list_any (λ j. j == v.scope) (linked g.state.blocks b.env.view) || list_any (λ j. j == v.scope) open_ones) known)
      where
        one_or_none : (n : ℕ) → n ≡ 0 → n ≡ 1 → ⊥
        one_or_none n one two = grind (arith, one, two)

        under : (o f k v n : ℕ) → k ≡ 0 + v → v < n → n ≡ o → o ≤ f → f ≤ k → ⊥
        under o f k v n is less same h low = grind (arith, is, less, same, h, low)

        of_own_scope : v.scope ≡ b.scope → ⊥
        of_own_scope same =
            let before : laid_before here v.scope ≡ 0 =
            ap (λ j. laid_before here j) same
            ∙ ap (λ (t : Bool). if t then before_accept here b.scope else 0)
            ((owner.scopes facts m c homes entries alike q level stands own there processes b x checked acc.entry i accepts).no_accept b.scope (owner.own_known
            facts m c homes entries alike q level stands own there processes b x checked acc.entry i accepts)) in
            let size : variables_of here v.scope ≡ length (laid_names (scope_at g.state.blocks.scopes b.scope)) =
            ap (λ j. variables_of here j) same
            ∙ ap (λ (t : Bool). if t then length (layout_with here b.scope) else variables_by here b.scope (sub_with g.state.blocks.subs b.scope))
            (owner.own_not_mains facts m c homes entries alike q level stands own there processes b x checked acc.entry i accepts)
            ∙ ap (λ o. variables_by here b.scope o) (owner.of_process facts m c homes entries alike q level stands own there processes b x checked acc.entry i
            accepts).no_sub in
            under (length (laid_names (scope_at g.state.blocks.scopes b.scope))) from (place_of here v) v.variable (variables_of here v.scope)
            (ap (λ n. n + v.variable) before) own_variable size (own_before g b i) low

        of_accept : is_accept b v.scope ≡ true → v.scope ≢ i → is_mains g.state.blocks v.scope ≡ false → ⊥
        of_accept is other none =
            let before : place_of here v ≡ before_accept here v.scope + v.variable =
            ap (λ (t : Bool). (if t then before_accept here v.scope else 0) + v.variable) is in
            let size : variables_of here v.scope ≡ length (laid_names (scope_at g.state.blocks.scopes v.scope)) =
            ap (λ (t : Bool). if t then length (layout_with here v.scope) else variables_by here v.scope (sub_with g.state.blocks.subs v.scope)) none
            ∙ ap (λ o. variables_by here v.scope o) ((owner.of_process facts m c homes entries alike q level stands own there processes b x checked acc.entry i
            accepts).accepts v.scope is) in
            accepts_apart g b i v.scope v.variable of_block is (λ same. other (sym same))
            (subst (λ n. v.variable < n) size own_variable) (subst (λ n. from ≤ n) before low) (subst (λ n. n < to) before high)

        by_rest : (list_any (λ j. j == v.scope) (linked g.state.blocks b.env.view) ≡ true) ⊎ (list_any (λ j. j == v.scope) open_ones ≡ true)
            → (t : Bool) → is_mains g.state.blocks v.scope ≡ t → ⊥
        by_rest h true mains = one_or_none (links_to here v.scope) links (owner.links_mains facts m c homes entries alike q level stands own there processes b
            x checked acc.entry i accepts v.scope mains)
        by_rest (inl around) false none = of_own_scope (owner.around_is facts m c homes entries alike q level stands own there processes b x checked acc.entry
            i accepts v.scope around)
        by_rest (inr among) false none = (let one = apart v.scope among in of_accept one.0 one.1 none)

        by : (is_mains g.state.blocks v.scope ≡ true)
            ⊎ ((list_any (λ j. j == v.scope) (linked g.state.blocks b.env.view) || list_any (λ j. j == v.scope) open_ones) ≡ true) → ⊥
        by (inl mains) = one_or_none (links_to here v.scope) links (owner.links_mains facts m c homes entries alike q level stands own there processes b x
            checked acc.entry i accepts v.scope mains)
        by (inr other) =
            by_rest (or_cases (list_any (λ j. j == v.scope) (linked g.state.blocks b.env.view)) (list_any (λ j. j == v.scope) open_ones) other)
            (is_mains g.state.blocks v.scope) refl
