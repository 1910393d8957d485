-- The names in view in one block: those of its heading, of its parts and at its body, where its parts are counted.
use Rattle.std.proofs.Common.{◌≡◌, ◌≢◌, ℕ, ◌+◌, ◌<◌, ◌≤◌, Bool, true, List, [], ◌∷◌, ◌++◌, length, Option, Some, sym, ap, ap₂, ◌∙◌, arith}
use Rattle.pfc_base.specs.declared.places.Place.{Place}
use Rattle.pfc_tree.specs.Symbols.{Text}
use Rattle.pfc_tree.specs.trees.Types.{GroupTree}
use Rattle.pfc_tree.specs.trees.Stmts.{BodyTree}
use Rattle.pfc_tree.specs.trees.Parts.{KindTree, EntryTree, PartTrees, procedure, function, guarded, sub, the_module, process}
use Rattle.pfc_types.specs.Growing.{Begins}
use Rattle.pfc_types.specs.Scopes.{Names, Level, scope_at, here}
use Rattle.pfc_types.specs.Blocks.{State, open_scope}
use Rattle.pfc_types.specs.Visits.{Visit, AreCounted, guard_visits, head_visit, body_visits, init_visits, parts_visits, sub_visits, module_visits}
use Rattle.pfc_types.specs.Visits.{process_visits}
use Rattle.pfc_types.specs.Stops.{guard_views, body_views}
use Rattle.pfc_types.proofs.PartViews.{init_views, parts_views, sub_views, module_views, process_views}
use Rattle.pfc_types.specs.rules.Declarations.{Owner, elsewhere, Heading, heading, sub_headed, process_headed, process_cells, entries_state, module_owner}
use Rattle.pfc_types.specs.rules.Declarations.{init_state, body_state, cells_rule, scope_cells, result_cells, parts_state, sub_state, module_state}
use Rattle.pfc_types.specs.rules.Declarations.{process_state}
use Rattle.pfc_types.specs.rules.Bodies.{init_scopes, passed, passed_groups, passed_entries, parts_scopes, level}
use Rattle.pfc_types.proofs.Walking.{held, Opened, Walked, opened_trans, opened_inner, note_kept, open_opened, open_empty, kept_opened}
use Rattle.pfc_types.proofs.WalkDeclarations.{groups_walked, entries_walked}
use Rattle.pfc_types.proofs.WalkStatements.{heading_opened, init_opened}
use Rattle.pfc_types.proofs.WalkParts.{passed_parts, sub_named_walked, sub_headed_walked, process_named_behind, process_headed_walked, module_closed_walked}
use Rattle.pfc_types.proofs.WalkParts.{parts_walked}
use Rattle.pfc_types.proofs.Views.{AllWithin, within_grown, within_here, Grown, grown_trans, opened_grown, walked_grown, Finished, finished_later}
use Rattle.pfc_types.proofs.Views.{finished_opened, finished_walked, counted_none, counted_both, counted_one, counted_as}
use Rattle.pfc_types.proofs.ViewsStatements.{init_counted}

ap₃ : {A B C D : Type 0} (f : A → B → C → D) {a a' : A} {b b' : B} {c c' : C} → a ≡ a' → b ≡ b' → c ≡ c' → f a b c ≡ f a' b' c'
ap₃ f {a' = a'} {b = b} {c = c} p q r = ap (λ x. f x b c) p ∙ ap₂ (λ y z. f a' y z) q r

guard_counted : {fin : List Names} (kind : KindTree) (v : Visit) (view : List Level) → AreCounted fin (v ∷ []) (view ∷ []) →
    AreCounted fin (guard_visits kind v) (guard_views kind view)
guard_counted {fin} procedure v view h = counted_none fin
guard_counted {fin} (function x p) v view h = counted_none fin
guard_counted {fin} (guarded e p) v view h = h

apart : (i own : ℕ) → i < own → own ≢ i
apart i own b e = absurd (omega (arith, b, e))

-- ## Headings

-- the parameters are counted, whatever their scope becomes
groups_counted :
    (s : State) (around : List Level) (gs : List GroupTree) (own : Names) →
    Begins (scope_at (held (heading (open_scope s) (length (held s)) around gs).state) (length (held s))) own
    → passed_groups own 0 gs ≡ length (scope_at (held (heading (open_scope s) (length (held s)) around gs).state) (length (held s)))
groups_counted s around gs own begins =
    ap (λ n. passed_groups own n gs) (sym (ap length (open_empty s)))
    ∙ (groups_walked (length (held s)) around (record { state = open_scope s; formals = []; whole = true }) gs
    (omega (arith, (open_opened s).count))).counts own begins

-- where the guard stands
head_counted :
    (s : State) (i : ℕ) (outer : List Level) (gs : List GroupTree) (fin : List Names) → AllWithin (held s) outer
    → Grown (held (heading (open_scope s) (length (held s)) (here (held s) i outer) gs).state) fin
    → AreCounted fin (head_visit s i outer gs ∷ []) ((level (length (held s)) (passed_groups (scope_at fin (length (held s))) 0 gs) ∷ level i
    (length (scope_at (held s) i)) ∷ outer) ∷ [])
head_counted s i outer gs fin w g =
    counted_as
    (counted_one g (within_here (held h.state) (length (held s)) (here (held s) i outer) (within_grown (held s) (held h.state) (here (held s) i outer)
    (opened_grown (heading_opened s (here (held s) i outer) gs)) (within_here (held s) i outer w))) (counted_none fin))
    (ap (λ n. (level (length (held s)) n ∷ level i (length (scope_at (held s) i)) ∷ outer) ∷ [])
    (sym (groups_counted s (here (held s) i outer) gs (scope_at fin (length (held s))) (g (length (held s))))))
  where
    h : Heading
    h = heading (open_scope s) (length (held s)) (here (held s) i outer) gs

-- ## A block: its parts and its body

-- before the body, the block's own scope is as it will be
pub block_finished :
    (owner : Owner) (h : State) (own m : ℕ) (around : List Level) (ps : PartTrees) (b : Option BodyTree) (fin : List Names)
    → Finished m (held (init_state (parts_state owner h own around ps) (here (held (parts_state owner h own around ps)) own around) b)) fin
    → Finished m (held (parts_state owner h own around ps)) fin
block_finished owner h own m around ps b fin f =
    finished_opened (init_opened (parts_state owner h own around ps) (here (held (parts_state owner h own around ps)) own around) b) f

pub block_counted :
    (owner : Owner) (h : State) (own m : ℕ) (around : List Level) (ps : PartTrees) (b : Option BodyTree) (fin : List Names)
    → own < length (held h) → m ≤ own → AllWithin (held h) around
    → Finished m (held (init_state (parts_state owner h own around ps) (here (held (parts_state owner h own around ps)) own around) b)) fin
    → AreCounted fin (parts_visits owner h own around ps) (parts_views fin own (length (scope_at (held h) own)) around (length (held h)) ps)
    → AreCounted fin (parts_visits owner h own around ps ++ init_visits (parts_state owner h own around ps)
    (here (held (parts_state owner h own around ps)) own around) b)
    (parts_views fin own (length (scope_at (held h) own)) around (length (held h)) ps ++ init_views fin
    (here fin own around) (length (held h) + parts_scopes ps) b)
block_counted owner h own m around ps b fin there low w f parts =
    counted_both parts
    (counted_as (init_counted declared view b fin within (finished_later f (omega (arith, low, there, second.count))))
    (ap₂ (λ c n. init_views fin (record { scope = own; count = length c } ∷ around) n b) (sym closed) second.count))
  where
    declared : State
    declared = parts_state owner h own around ps

    view : List Level
    view = here (held declared) own around

    second : Walked own h declared (parts_scopes ps) (λ names n. passed_parts names n ps)
    second = parts_walked owner h own around ps there

    within : AllWithin (held declared) view
    within = within_here (held declared) own around (within_grown (held h) (held declared) around (walked_grown second) w)

    closed : scope_at fin own ≡ scope_at (held declared) own
    closed = (block_finished owner h own m around ps b fin f).closed own low (omega (arith, there, second.count))

-- ## Each kind of block, where its parts are counted

abbrev pub PartsCounted : Owner → State → ℕ → List Level → PartTrees → List Names → Type 0
PartsCounted owner s i outer qs fin =
    i < length (held s) → AllWithin (held s) outer → Finished (length (held s)) (held (parts_state owner s i outer qs)) fin
    → AreCounted fin (parts_visits owner s i outer qs) (parts_views fin i (length (scope_at (held s) i)) outer (length (held s)) qs)

pub sub_block :
    (s : State) (i : ℕ) (outer : List Level) (x : Text) (gs : List GroupTree) (kind : KindTree) (ps : PartTrees)
    (inside : BodyTree) (p : Place) (fin : List Names)
    → i < length (held s) → AllWithin (held s) outer → Finished (length (held s)) (held (sub_state s i outer (sub x gs kind ps inside p))) fin
    → PartsCounted elsewhere (sub_headed s i outer (x, p) gs kind) (length (held s)) (here (held (sub_headed s i outer (x, p) gs kind)) i outer) ps fin
    → AreCounted fin (sub_visits s i outer (sub x gs kind ps inside p)) (sub_views fin i (length (scope_at (held s) i)) outer
    (length (held s)) (sub x gs kind ps inside p))
sub_block s i outer x gs kind ps inside p fin b w f parts =
    counted_both {vs = guard_visits kind (head_visit s i outer gs)} {ws =
    parts_visits elsewhere headed own around ps ++ body_visits declared (here (held declared) own around) inside} {us = guard_views kind guard_view}
    (guard_counted kind (head_visit s i outer gs) guard_view (head_counted s i outer gs fin w head_grown)) (counted_as block same)
  where
    own : ℕ
    own = length (held s)

    headed : State
    headed = sub_headed s i outer (x, p) gs kind

    around : List Level
    around = here (held headed) i outer

    declared : State
    declared = parts_state elsewhere headed own around ps

    done : State
    done = body_state declared (here (held declared) own around) inside

    guard_view : List Level
    guard_view = level own (passed_groups (scope_at fin own) 0 gs) ∷ level i (length (scope_at (held s) i)) ∷ outer

    first : Walked i s headed 1 (λ names n. passed names n x)
    first = sub_headed_walked s i outer (x, p) gs kind b

    named : Walked i (heading (open_scope s) own (here (held s) i outer) gs).state headed 0 (λ names n. passed names n x)
    named = sub_named_walked s i outer (x, p) gs kind b

    there : own < length (held headed)
    there = omega (arith, first.count)

    f_done : Finished own (held done) fin
    f_done = finished_opened (kept_opened (note_kept done (cells_rule (scope_cells done.forms (scope_at done.blocks.scopes own) + result_cells kind) p))) f

    f_declared : Finished own (held declared) fin
    f_declared = block_finished elsewhere headed own own around ps (Some inside) fin f_done

    grown : Grown (held headed) fin
    grown = grown_trans (held headed) (held declared) fin (walked_grown (parts_walked elsewhere headed own around ps there)) f_declared.grown

    head_grown : Grown (held (heading (open_scope s) own (here (held s) i outer) gs).state) fin
    head_grown = grown_trans (held (heading (open_scope s) own (here (held s) i outer) gs).state) (held headed) fin (walked_grown named) grown

    around_in : AllWithin (held headed) around
    around_in = within_here (held headed) i outer (within_grown (held s) (held headed) outer (walked_grown first) w)

    block : AreCounted fin (parts_visits elsewhere headed own around ps ++ body_visits declared (here (held declared) own around) inside)
        (parts_views fin own (length (scope_at (held headed) own)) around (length (held headed)) ps ++ body_views fin (here fin own around)
        (length (held headed) + parts_scopes ps) inside)
    block = block_counted elsewhere headed own own around ps (Some inside) fin there (omega arith) around_in f_done
        (parts there around_in (finished_later f_declared (omega (arith, there))))

    count : length (scope_at (held headed) own) ≡ passed_groups (scope_at fin own) 0 gs
    count =
        sym (groups_counted s (here (held s) i outer) gs (scope_at fin own) (head_grown own)
        ∙ ap length (sym (named.others own (omega (arith, (heading_opened s (here (held s) i outer) gs).count)) (apart i own b))))

    same : (parts_views fin own (length (scope_at (held headed) own)) around (length (held headed)) ps ++ body_views fin (here fin own around)
        (length (held headed) + parts_scopes ps) inside)
        ≡ (parts_views fin own (passed_groups (scope_at fin own) 0 gs) (level i (passed (scope_at fin i) (length (scope_at (held s) i)) x) ∷ outer) (own + 1) ps
        ++ body_views fin (here fin own (level i (passed (scope_at fin i) (length (scope_at (held s) i)) x) ∷ outer)) (own + 1 + parts_scopes ps) inside)
    same = ap₃ (λ c a n. parts_views fin own c a n ps ++ body_views fin (here fin own a) (n + parts_scopes ps) inside) count
        (ap (λ n. level i n ∷ outer) (sym (first.counts (scope_at fin i) (grown i)))) first.count

pub module_block :
    (is_resource : Bool) (s : State) (i : ℕ) (outer : List Level) (x : Text) (exports : List (List (Text × Place))) (ps : PartTrees)
    (inside : Option BodyTree) (last p : Place) (fin : List Names)
    → i < length (held s) → AllWithin (held s) outer →
    Finished (length (held s)) (held (module_state is_resource s i outer (the_module x exports ps inside last p))) fin
    → PartsCounted (module_owner is_resource) (open_scope s) (length (held s)) (here (held s) i outer) ps fin
    → AreCounted fin (module_visits is_resource s i outer (the_module x exports ps inside last p)) (module_views fin i (length (scope_at (held s) i)) outer
    (length (held s)) (the_module x exports ps inside last p))
module_block is_resource s i outer x exports ps inside last p fin b w f parts =
    counted_as (block_counted owner (open_scope s) own own around ps inside fin there (omega arith) around_in f_done
    (parts there around_in (finished_later f_declared (omega (arith, there))))) same
  where
    own : ℕ
    own = length (held s)

    around : List Level
    around = here (held s) i outer

    owner : Owner
    owner = module_owner is_resource

    declared : State
    declared = parts_state owner (open_scope s) own around ps

    done : State
    done = init_state declared (here (held declared) own around) inside

    there : own < length (held (open_scope s))
    there = omega (arith, (open_opened s).count)

    opened : Opened s done (1 + parts_scopes ps + init_scopes inside)
    opened = opened_trans (opened_inner (open_opened s) (parts_walked owner (open_scope s) own around ps there))
        (init_opened declared (here (held declared) own around) inside)

    f_done : Finished own (held done) fin
    f_done = finished_walked b (module_closed_walked is_resource done i own (x, p) exports (omega (arith, b, opened.count))) f

    f_declared : Finished own (held declared) fin
    f_declared = block_finished owner (open_scope s) own own around ps inside fin f_done

    around_in : AllWithin (held (open_scope s)) around
    around_in = within_grown (held s) (held (open_scope s)) around (opened_grown (open_opened s)) (within_here (held s) i outer w)

    same : (parts_views fin own (length (scope_at (held (open_scope s)) own)) around (length (held (open_scope s))) ps ++ init_views fin (here fin own around)
        (length (held (open_scope s)) + parts_scopes ps) inside)
        ≡ (parts_views fin own 0 around (own + 1) ps ++ init_views fin (here fin own around) (own + 1 + parts_scopes ps) inside)
    same = ap₂ (λ c n. parts_views fin own c around n ps ++ init_views fin (here fin own around) (n + parts_scopes ps) inside)
        (ap length (open_empty s)) (open_opened s).count

pub process_block :
    (s : State) (i : ℕ) (outer : List Level) (many : Bool) (x : Text) (gs : List GroupTree) (es : List EntryTree) (ps : PartTrees)
    (inside : BodyTree) (p : Place) (fin : List Names)
    → i < length (held s) → AllWithin (held s) outer → Finished (length (held s)) (held (process_state s i outer (process many x gs es ps inside p))) fin
    → PartsCounted elsewhere (entries_state (process_headed s i outer many (x, p) gs) (length (held s))
    (here (held (process_headed s i outer many (x, p) gs)) i outer) 0 es) (length (held s))
    (here (held (process_headed s i outer many (x, p) gs)) i outer) ps fin
    → AreCounted fin (process_visits s i outer (process many x gs es ps inside p)) (process_views fin i (length (scope_at (held s) i)) outer
    (length (held s)) (process many x gs es ps inside p))
process_block s i outer many x gs es ps inside p fin b w f parts =
    counted_as (block_counted elsewhere entered own own around ps (Some inside) fin there (omega arith) around_in f_done
    (parts there around_in (finished_later f_declared (omega (arith, there))))) same
  where
    own : ℕ
    own = length (held s)

    headed : State
    headed = process_headed s i outer many (x, p) gs

    around : List Level
    around = here (held headed) i outer

    entered : State
    entered = entries_state headed own around 0 es

    declared : State
    declared = parts_state elsewhere entered own around ps

    done : State
    done = body_state declared (here (held declared) own around) inside

    first : Walked i s headed 1 (λ names n. passed names n x)
    first = process_headed_walked s i outer many (x, p) gs b

    named : Walked i (heading (open_scope s) own (here (held s) i outer) gs).state headed 0 (λ names n. passed names n x)
    named = process_named_behind s i outer many (x, p) gs b

    entries : Walked own headed entered 0 (λ names n. passed_entries names n es)
    entries = entries_walked headed own around 0 es (omega (arith, first.count))

    there : own < length (held entered)
    there = omega (arith, first.count, entries.count)

    f_done : Finished own (held done) fin
    f_done = finished_opened (kept_opened (note_kept done (cells_rule (process_cells done own (length declared.blocks.scopes)) p))) f

    f_declared : Finished own (held declared) fin
    f_declared = block_finished elsewhere entered own own around ps (Some inside) fin f_done

    grown : Grown (held entered) fin
    grown = grown_trans (held entered) (held declared) fin (walked_grown (parts_walked elsewhere entered own around ps there)) f_declared.grown

    headed_grown : Grown (held headed) fin
    headed_grown = grown_trans (held headed) (held entered) fin (walked_grown entries) grown

    head_grown : Grown (held (heading (open_scope s) own (here (held s) i outer) gs).state) fin
    head_grown = grown_trans (held (heading (open_scope s) own (here (held s) i outer) gs).state) (held headed) fin (walked_grown named) headed_grown

    around_in : AllWithin (held entered) around
    around_in = within_grown (held headed) (held entered) around (walked_grown entries)
        (within_here (held headed) i outer (within_grown (held s) (held headed) outer (walked_grown first) w))

    count : length (scope_at (held entered) own) ≡ passed_entries (scope_at fin own) (passed_groups (scope_at fin own) 0 gs) es
    count =
        sym
        (ap (λ n. passed_entries (scope_at fin own) n es)
        (groups_counted s (here (held s) i outer) gs (scope_at fin own) (head_grown own) ∙
        ap length (sym (named.others own (omega (arith, (heading_opened s (here (held s) i outer) gs).count)) (apart i own b))))
        ∙ entries.counts (scope_at fin own) (grown own))

    same : (parts_views fin own (length (scope_at (held entered) own)) around (length (held entered)) ps ++ body_views fin (here fin own around)
        (length (held entered) + parts_scopes ps) inside)
        ≡ (parts_views fin own (passed_entries (scope_at fin own) (passed_groups (scope_at fin own) 0 gs) es)
        (level i (passed (scope_at fin i) (length (scope_at (held s) i)) x) ∷ outer) (own + 1) ps
        ++ body_views fin (here fin own (level i (passed (scope_at fin i) (length (scope_at (held s) i)) x) ∷ outer)) (own + 1 + parts_scopes ps) inside)
    same = ap₃ (λ c a n. parts_views fin own c a n ps ++ body_views fin (here fin own a) (n + parts_scopes ps) inside) count
        (ap (λ n. level i n ∷ outer) (sym (first.counts (scope_at fin i) (headed_grown i)))) (omega (arith, first.count, entries.count))
