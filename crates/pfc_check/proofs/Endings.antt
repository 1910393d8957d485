-- The steps of a sub and of a process, one behind the other.
use Rattle.std.proofs.Common.{◌≡◌, ◌∙◌, sym, ap, ℕ, ◌+◌, Bool, nat_le, List, length}
use Rattle.pfc_base.specs.declared.places.Place.{Place}
use Rattle.pfc_tree.specs.Symbols.{Text}
use Rattle.pfc_tree.specs.trees.Types.{GroupTree}
use Rattle.pfc_tree.specs.trees.Stmts.{BodyTree}
use Rattle.pfc_tree.specs.trees.Parts.{KindTree, EntryTree, PartTrees, SubTree, ProcessTree, sub, process}
use Rattle.pfc_types.specs.Faults.{unless}
use Rattle.pfc_types.specs.Scopes.{Level, scope_at, here}
use Rattle.pfc_types.specs.Blocks.{State, note}
use Rattle.pfc_types.specs.rules.Declarations.{elsewhere, cells_rule, scope_cells, result_cells, process_cells, entries_state, parts_state, body_state}
use Rattle.pfc_types.specs.rules.Declarations.{sub_headed, sub_state, process_headed, process_state}

-- a sub whose body is walked
sub_end : ℕ → KindTree → Place → State → State
sub_end own kind p s = note s (cells_rule (scope_cells s.forms (scope_at s.blocks.scopes own) + result_cells kind) p)

-- a sub whose parts are walked
sub_body : ℕ → KindTree → Place → BodyTree → List Level → State → State
sub_body own kind p b around s = sub_end own kind p (body_state s (here s.blocks.scopes own around) b)

-- a sub whose heading is walked
sub_inside : ℕ → KindTree → Place → BodyTree → PartTrees → ℕ → List Level → State → State
sub_inside own kind p b ps i outer s = sub_body own kind p b (here s.blocks.scopes i outer) (parts_state elsewhere s own (here s.blocks.scopes i outer) ps)

pub sub_walked : (s headed declared done last : State) (i own : ℕ) (outer around view : List Level) (x : Text) (gs : List GroupTree) (kind : KindTree)
    (ps : PartTrees) (b : BodyTree) (p : Place) (fits : Bool) (tree : SubTree) → tree ≡ sub x gs kind ps b p → own ≡ length s.blocks.scopes →
    headed ≡ sub_headed s i outer (x, p) gs kind → around ≡ here headed.blocks.scopes i outer → declared ≡ parts_state elsewhere headed own around ps →
    view ≡ here declared.blocks.scopes own around → done ≡ body_state declared view b →
    fits ≡ nat_le (scope_cells done.forms (scope_at done.blocks.scopes own) + result_cells kind) 65536 →
    last ≡ note done (unless fits p 304) → last ≡ sub_state s i outer tree
unfolding sub_end sub_body sub_inside
sub_walked s headed declared done last i own outer around view x gs kind ps b p fits tree tree_is own_is headed_is around_is
    declared_is view_is done_is fits_is last_is =
    last_is
    ∙ ap (λ (f : Bool). note done (unless f p 304)) fits_is
    ∙ ap (sub_end own kind p) done_is
    ∙ ap (λ (v : List Level). sub_end own kind p (body_state declared v b)) view_is
    ∙ ap (sub_body own kind p b around) declared_is
    ∙ ap (λ (a : List Level). sub_body own kind p b a (parts_state elsewhere headed own a ps)) around_is
    ∙ ap (sub_inside own kind p b ps i outer) headed_is
    ∙ ap (λ (n : ℕ). sub_inside n kind p b ps i outer (sub_headed s i outer (x, p) gs kind)) own_is
    ∙ ap (λ (q : SubTree). sub_state s i outer q) (sym tree_is)

-- a process whose body is walked; the scopes of its accepts are those from number k on
process_end : ℕ → Place → ℕ → State → State
process_end own p k s = note s (cells_rule (process_cells s own k) p)

-- a process whose parts are walked
process_body : ℕ → Place → BodyTree → List Level → State → State
process_body own p b around s = process_end own p (length s.blocks.scopes) (body_state s (here s.blocks.scopes own around) b)

-- a process whose heading is walked
process_inside : ℕ → Place → BodyTree → List EntryTree → PartTrees → ℕ → List Level → State → State
process_inside own p b es ps i outer s =
    process_body own p b (here s.blocks.scopes i outer)
    (parts_state elsewhere (entries_state s own (here s.blocks.scopes i outer) 0 es) own (here s.blocks.scopes i outer) ps)

pub process_walked : (s headed entered declared done last : State) (i own k : ℕ) (outer around view : List Level) (many : Bool) (x : Text) (gs : List GroupTree)
    (es : List EntryTree) (ps : PartTrees) (b : BodyTree) (p : Place) (fits : Bool) (tree : ProcessTree) → tree ≡ process many x gs es ps b p →
    own ≡ length s.blocks.scopes → headed ≡ process_headed s i outer many (x, p) gs → around ≡ here headed.blocks.scopes i outer →
    entered ≡ entries_state headed own around 0 es → declared ≡ parts_state elsewhere entered own around ps → k ≡ length declared.blocks.scopes →
    view ≡ here declared.blocks.scopes own around → done ≡ body_state declared view b → fits ≡ nat_le (process_cells done own k) 65536 →
    last ≡ note done (unless fits p 304) → last ≡ process_state s i outer tree
unfolding process_end process_body process_inside
process_walked s headed entered declared done last i own k outer around view many x gs es ps b p fits tree tree_is own_is headed_is around_is entered_is
    declared_is k_is view_is done_is fits_is last_is =
    last_is
    ∙ ap (λ (f : Bool). note done (unless f p 304)) fits_is
    ∙ ap (process_end own p k) done_is
    ∙ ap (λ (v : List Level). process_end own p k (body_state declared v b)) view_is
    ∙ ap (λ (n : ℕ). process_end own p n (body_state declared (here declared.blocks.scopes own around) b)) k_is
    ∙ ap (process_body own p b around) declared_is
    ∙ ap (λ (t : State). process_body own p b around (parts_state elsewhere t own around ps)) entered_is
    ∙ ap (λ (a : List Level). process_body own p b a (parts_state elsewhere (entries_state headed own a 0 es) own a ps)) around_is
    ∙ ap (process_inside own p b es ps i outer) headed_is
    ∙ ap (λ (n : ℕ). process_inside n p b es ps i outer (process_headed s i outer many (x, p) gs)) own_is
    ∙ ap (λ (q : ProcessTree). process_state s i outer q) (sym tree_is)
