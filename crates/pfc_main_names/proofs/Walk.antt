-- The names of the program and of its modules, by induction over the parts.
use Rattle.std.proofs.Common.{◌≡◌, ◌≢◌, ℕ, suc, ◌+◌, ◌<◌, ◌≤◌, ◌&&◌, Bool, true, false, if◌then◌else◌, is_some, List, [], ◌∷◌, ◌++◌, length, length-append}
use Rattle.std.proofs.Common.{Option, Some, None, refl, sym, ap, ◌∙◌, subst, arith}
use Rattle.std.specs.List.{All}
use Rattle.std.proofs.lemmas.List.Elements.{All-nil, All-cons, All-head, All-tail}
use Rattle.pfc_base.specs.declared.places.Place.{Place}
use Rattle.pfc_tree.specs.Symbols.{Text}
use Rattle.pfc_tree.specs.declared.tree.ConstItem.{ConstItem}
use Rattle.pfc_tree.specs.trees.Types.{VarTrees, TypeItemTree, GroupTree, var_item, no_vars, more_vars}
use Rattle.pfc_tree.specs.trees.Parts.{KindTree, PartTree, PartTrees, SubTree, ModuleTree, ProcessTree, ProgramTree, consts, types, vars, sub_part, monitor}
use Rattle.pfc_tree.specs.trees.Parts.{resource, process_part, no_parts, more_parts, sub, the_module, process}
use Rattle.pfc_tree.specs.forget.Parts.{forget_part, forget_parts, forget_module, forget_process, forget_program}
use Rattle.pfc_tree.specs.lawful.Parts.{Home, of_program, of_resource, of_other, HoldsModules, IsLawfulPart, AreLawfulParts, IsLawfulModule, IsLawfulProcess}
use Rattle.pfc_tree.specs.lawful.Parts.{IsLawful}
use Rattle.pfc_types.specs.Types.{Forms}
use Rattle.pfc_types.specs.Growing.{Begins}
use Rattle.pfc_types.specs.Scopes.{Names, Level, scope_at, here, meaning_in}
use Rattle.pfc_types.specs.Blocks.{State, note, declare, add_form, add_sub, add_module, add_process, open_scope}
use Rattle.pfc_types.specs.declared.types.TypeId.{TypeId}
use Rattle.pfc_types.specs.declared.types.TypeForm.TheVariants.{Process as AProcess}
use Rattle.pfc_types.specs.declared.heads.SubHead.{SubHead}
use Rattle.pfc_types.specs.declared.heads.ModuleHead.{ModuleHead}
use Rattle.pfc_types.specs.declared.heads.ProcessHead.{ProcessHead}
use Rattle.pfc_types.specs.declared.scope.Meaning.TheVariants.{Named, Module, Process, Faulty}
use Rattle.pfc_types.specs.rules.Kinds.{type_meaning}
use Rattle.pfc_types.specs.rules.Constants.{Ordinal, constant_value, broken_constant, made, type_place}
use Rattle.pfc_types.specs.rules.Declarations.{constant_meaning, const_state, consts_state, type_state, types_state, Owner, in_program, elsewhere, owner_rules}
use Rattle.pfc_types.specs.rules.Declarations.{owned_type, populated, var_state, vars_state, heading, broken_sort, sort_of, whole_sort, sub_meaning, sub_headed}
use Rattle.pfc_types.specs.rules.Declarations.{module_owner, module_closed, exports_state, init_state, process_named, process_headed, entries_state, body_state}
use Rattle.pfc_types.specs.rules.Declarations.{cells_rule, scope_cells, result_cells, process_cells, part_state, parts_state, sub_state, module_state}
use Rattle.pfc_types.specs.rules.Declarations.{process_state}
use Rattle.pfc_types.specs.rules.Bodies.{part_scopes, parts_scopes}
use Rattle.pfc_types.specs.rules.Whole.{begun, declared_parts, declared_all, finished, main_cells}
use Rattle.pfc_types.proofs.Prefixes.{begins_trans}
use Rattle.pfc_types.proofs.Walking.{Walked, note_kept, open_opened, open_empty}
use Rattle.pfc_types.proofs.WalkDeclarations.{consts_walked, types_walked, vars_walked, made_kept, entries_walked, exports_kept}
use Rattle.pfc_types.proofs.WalkStatements.{heading_opened, body_opened, init_opened}
use Rattle.pfc_types.proofs.WalkParts.{part_walked, parts_walked, sub_headed_walked, process_headed_walked, module_closed_walked}
use Rattle.pfc_image_laws.specs.Modules.{modules_from}
use Rattle.pfc_type_laws.proofs.WalkTypes.{note_forms}
use Rattle.pfc_image_cells.proofs.Subs.{note_same, declare_same, consts_same, types_same, vars_same, entries_same, exports_same, body_same, init_same}
use Rattle.pfc_image_cells.proofs.Subs.{process_headed_same, sub_modules}
use Rattle.pfc_main_names.specs.Owners.{IsOfOwner}
use Rattle.pfc_main_names.proofs.Placed.{IsPlaced, IsPlain, ArePlaced, all_grown, IsAround, made_placed, type_meaning_placed}
use Rattle.pfc_main_names.proofs.Rising.{Rises, rises_next}
use Rattle.pfc_main_names.proofs.Owned.{add_fine, owned_fine, IsFine, fine_kept, fine_opened, fine_elsewhere, declare_fine, populated_fine, var_names_fine}
use Rattle.pfc_main_names.proofs.Owned.{names_forms}

-- ## Around

-- the scopes in view around are other ones, and are there
abbrev pub IsOutside : ℕ → State → List Level → Type 0
IsOutside i s [] = Unit {0}
IsOutside i s (l ∷ outer) = (l.scope < length s.blocks.scopes) × (l.scope ≢ i) × IsOutside i s outer

-- what is in view around a scope, as it is asked there
pub record HasAround (i : ℕ) (s : State) (outer : List Level) : Type 0 where
  pub six : 6 ≤ length s.forms
  pub around : IsAround s outer
  pub outside : IsOutside i s outer
  pub own : i < length s.blocks.scopes

pub begins_length : (forms later : Forms) → Begins forms later → length forms ≤ length later
begins_length forms later b = omega (arith, ap (λ (l : Forms). length l) b.splits, length-append forms b.more)

-- names are declared in the own scope
around_walked : (i : ℕ) {s t : State} {k : ℕ} {P : Names → ℕ → ℕ} (outer : List Level) → Walked i s t k P → IsAround s outer → IsOutside i s outer
    → IsAround t outer × IsOutside i t outer
around_walked i [] w a o = (tt, tt)
around_walked i {s} {t} (l ∷ outer) w a o =
    let rest = around_walked i outer w a.1 o.2 in (
      (
        subst (λ (f : Forms). ArePlaced f (scope_at t.blocks.scopes l.scope)) (sym w.forms.splits)
            (all_grown s.forms w.forms.more (scope_at t.blocks.scopes l.scope)
            (subst (λ (names : Names). ArePlaced s.forms names) (sym (w.others l.scope o.0 o.1)) a.0)),
        rest.0,
      ),
      (let count = w.count in omega (arith, count, o.0), o.1, rest.1),
    )

pub has_around : (i : ℕ) {s t : State} {k : ℕ} {P : Names → ℕ → ℕ} (outer : List Level) → Walked i s t k P → HasAround i s outer → HasAround i t outer
has_around i {s} {t} outer w h =
    let both = around_walked i outer w h.around h.outside in
    record {
      six = (let more = begins_length s.forms t.forms w.forms in omega (arith, more, h.six));
      around = both.0;
      outside = both.1;
      own = (let count = w.count in omega (arith, count, h.own));
    }

-- ## Constants, types and variables

constant_fine : (owner : Owner) (all : Forms) (c : Option Ordinal) → IsOfOwner owner all (constant_meaning c)
constant_fine owner all None = tt
constant_fine owner all (Some c) = tt

constant_placed : (forms : Forms) (c : Option Ordinal) → IsPlain forms (constant_meaning c)
constant_placed forms None = tt
constant_placed forms (Some c) = tt

consts_fine : (owner : Owner) (all : Forms) (bound : ℕ) (s : State) (i : ℕ) (outer : List Level) (cs : List ConstItem) → i < length s.blocks.scopes
    → IsFine owner all bound s i
    → IsFine owner all bound (consts_state s i outer cs) i
consts_fine owner all bound s i outer [] below h = h
consts_fine owner all bound s i outer (c ∷ cs) below h =
    let view = here s.blocks.scopes i outer in
    let fault = broken_constant s.blocks.scopes view c.value in
    let kept = note_kept s fault in
    let size : length (note s fault).blocks.scopes ≡ length s.blocks.scopes = ap length kept.scopes in
    let count = (consts_walked s i outer (c ∷ []) below).count in
    consts_fine owner all bound (const_state s i outer c) i outer cs (omega (arith, count, below))
    (declare_fine owner all bound (note s fault) i (c.name, c.place) (constant_meaning (constant_value s.blocks.scopes view c.value))
    (omega (arith, below, size))
    (constant_fine owner all (constant_value s.blocks.scopes view c.value)) (constant_placed (note s fault).forms (constant_value s.blocks.scopes view c.value))
    (fine_kept owner all bound i kept h))

type_fine : (owner : Owner) (all : Forms) (t : Option TypeId) → IsOfOwner owner all (type_meaning t)
type_fine owner all None = tt
type_fine owner all (Some t) = tt

types_fine : (owner : Owner) (all : Forms) (bound : ℕ) (s : State) (i : ℕ) (outer : List Level) (ds : List TypeItemTree) → HasAround i s outer
    → IsFine owner all bound s i
    → IsFine owner all bound (types_state s i outer ds) i
types_fine owner all bound s i outer [] a h = h
types_fine owner all bound s i outer (d ∷ ds) a h =
    let view = here s.blocks.scopes i outer in
    let m = made false s view d.form in
    let kept = made_kept false s view d.form in
    let size : length m.state.blocks.scopes ≡ length s.blocks.scopes = ap length kept.scopes in
    types_fine owner all bound (type_state s i outer d) i outer ds (has_around i outer (types_walked s i outer (d ∷ []) a.own) a)
    (declare_fine owner all bound m.state i (d.name, d.place) (type_meaning m.t) (omega (arith, size, a.own)) (type_fine owner all m.t)
    (type_meaning_placed m.state.forms m.t (made_placed false s view d.form a.six (h.placed, a.around))) (fine_kept owner all bound i kept h))

pub vars_fine : (owner : Owner) (all : Forms) (bound : ℕ) (s : State) (i : ℕ) (outer : List Level) (vs : VarTrees) → HasAround i s outer
    → Begins (vars_state owner s i outer vs).forms all → IsFine owner all bound s i → IsFine owner all bound (vars_state owner s i outer vs) i
vars_fine owner all bound s i outer no_vars a b h = h
vars_fine owner all bound s i outer (more_vars (var_item xs t) vs) a b h =
    let view = here s.blocks.scopes i outer in
    let m = made false s view t in
    let rules = owner_rules owner m.state.forms m.t (type_place t) in
    let kept = made_kept false s view t in
    let noted = note_kept m.state rules in
    let next = var_state owner s i outer (var_item xs t) in
    let walked = vars_walked owner s i outer (more_vars (var_item xs t) no_vars) a.own in
    let rest = vars_walked owner next i outer vs (let count = walked.count in omega (arith, count, a.own)) in
    let forms : next.forms ≡ m.state.forms = names_forms (note m.state rules) i (owned_type owner m.state.forms m.t) xs ∙ note_forms m.state rules in
    let later : Begins m.state.forms all =
    subst (λ (f : Forms). Begins f all) forms (begins_trans next.forms (vars_state owner next i outer vs).forms all rest.forms b) in
    let size : length (note m.state rules).blocks.scopes ≡ length s.blocks.scopes = ap length noted.scopes ∙ ap length kept.scopes in
    vars_fine owner all bound next i outer vs (has_around i outer walked a) b
    (var_names_fine owner all bound (note m.state rules) i (owned_type owner m.state.forms m.t) xs (omega (arith, size, a.own))
    (owned_fine owner m.state.forms all m.t (made_placed false s view t a.six (h.placed, a.around)) later)
    (fine_kept owner all bound i noted (fine_kept owner all bound i kept h)))

-- ## Subs

sub_name_fine : (owner : Owner) (all : Forms) (whole : Bool) (n : ℕ) → IsOfOwner owner all (sub_meaning whole n)
sub_name_fine owner all true n = tt
sub_name_fine owner all false n = tt

sub_name_placed : (forms : Forms) (whole : Bool) (n : ℕ) → IsPlain forms (sub_meaning whole n)
sub_name_placed forms true n = tt
sub_name_placed forms false n = tt

apart : (i n : ℕ) → i < n → i ≢ n
apart i n h e = omega (arith, h, e)

sub_headed_fine : (owner : Owner) (all : Forms) (bound : ℕ) (s : State) (i : ℕ) (outer : List Level) (x : Text × Place) (gs : List GroupTree) (kind : KindTree)
    → i < length s.blocks.scopes → IsFine owner all bound s i → IsFine owner all bound (sub_headed s i outer x gs kind) i
sub_headed_fine owner all bound s i outer x gs kind below h =
    let own = length s.blocks.scopes in
    let around = here s.blocks.scopes i outer in
    let k = heading (open_scope s) own around gs in
    let view = here k.state.blocks.scopes own around in
    let sort = sort_of k.state view kind in
    let head : SubHead = record { formals = k.formals; sort = sort; scope = own; exported = false } in
    let opened = heading_opened s around gs in
    let ruled = note_kept k.state (broken_sort k.state view kind) in
    let size : length (note k.state (broken_sort k.state view kind)).blocks.scopes ≡ length k.state.blocks.scopes = ap length ruled.scopes in
    let count = opened.count in
    let before = fine_kept owner all bound i ruled (fine_opened owner all bound i below opened h) in
    declare_fine owner all bound (add_sub (note k.state (broken_sort k.state view kind)) head) i x
    (sub_meaning (k.whole && whole_sort sort) (length s.blocks.subs))
    (omega (arith, size, count, below)) (sub_name_fine owner all (k.whole && whole_sort sort) (length s.blocks.subs))
    (sub_name_placed _ (k.whole && whole_sort sort) (length s.blocks.subs)) (record { owned = before.owned; placed = before.placed; rises = before.rises })

sub_fine : (owner : Owner) (all : Forms) (bound : ℕ) (s : State) (i : ℕ) (outer : List Level) (b : SubTree) → i < length s.blocks.scopes
    → IsFine owner all bound s i
    → IsFine owner all bound (sub_state s i outer b) i
sub_fine owner all bound s i outer (sub x gs kind ps b p) below h =
    let own = length s.blocks.scopes in
    let headed = sub_headed s i outer (x, p) gs kind in
    let around = here headed.blocks.scopes i outer in
    let declared = parts_state elsewhere headed own around ps in
    let done = body_state declared (here declared.blocks.scopes own around) b in
    let first = sub_headed_walked s i outer (x, p) gs kind below in
    let count : length headed.blocks.scopes ≡ length s.blocks.scopes + 1 = first.count in
    let inner = parts_walked elsewhere headed own around ps (omega (arith, count)) in
    let inner_count : length declared.blocks.scopes ≡ length headed.blocks.scopes + parts_scopes ps = inner.count in
    fine_kept owner all bound i (note_kept done (cells_rule (scope_cells done.forms (scope_at done.blocks.scopes own) + result_cells kind) p))
    (fine_opened owner all bound i (omega (arith, inner_count, count, below)) (body_opened declared (here declared.blocks.scopes own around) b)
    (fine_elsewhere owner all bound i own (omega (arith, count, below)) (apart i own below) inner
    (sub_headed_fine owner all bound s i outer (x, p) gs kind below h)))

-- ## The parts of a module

inner_fine : (home : Home) (owner : Owner) (all : Forms) (bound : ℕ) (s : State) (i : ℕ) (outer : List Level) (qs : PartTrees) → (HoldsModules home → ⊥)
    → AreLawfulParts home (forget_parts qs) → HasAround i s outer → Begins (parts_state owner s i outer qs).forms all → IsFine owner all bound s i
    → IsFine owner all bound (parts_state owner s i outer qs) i
inner_fine home owner all bound s i outer no_parts none lawful a b h = h
inner_fine home owner all bound s i outer (more_parts q qs) none lawful a b h =
    inner_fine home owner all bound (part_state owner s i outer q) i outer qs none lawful.1 (has_around i outer (part_walked owner s i outer q a.own) a) b
    (at q lawful.0
    (begins_trans (part_state owner s i outer q).forms (parts_state owner (part_state owner s i outer q) i outer qs).forms all
    (parts_walked owner (part_state owner s i outer q) i outer qs (let count = (part_walked owner s i outer q a.own).count in omega
    (arith, count, a.own))).forms b))
  where
    at : (q : PartTree) → IsLawfulPart home (forget_part q) → Begins (part_state owner s i outer q).forms all
        → IsFine owner all bound (part_state owner s i outer q) i
    at (consts items) lawful b = consts_fine owner all bound s i outer items a.own h
    at (types items) lawful b = types_fine owner all bound s i outer items a h
    at (vars vs) lawful b = vars_fine owner all bound s i outer vs a b h
    at (sub_part p) lawful b = sub_fine owner all bound s i outer p a.own h
    at (monitor m) lawful b = absurd (none lawful.0)
    at (resource m) lawful b = absurd (none lawful.0)
    at (process_part p) lawful b = absurd (none lawful.0)

-- and adds no module
inner_modules : (home : Home) (owner : Owner) (s : State) (i : ℕ) (outer : List Level) (qs : PartTrees) → (HoldsModules home → ⊥)
    → AreLawfulParts home (forget_parts qs) → (parts_state owner s i outer qs).blocks.modules ≡ s.blocks.modules
inner_modules home owner s i outer no_parts none lawful = refl
inner_modules home owner s i outer (more_parts q qs) none lawful =
    inner_modules home owner (part_state owner s i outer q) i outer qs none lawful.1 ∙ at q lawful.0
  where
    at : (q : PartTree) → IsLawfulPart home (forget_part q) → (part_state owner s i outer q).blocks.modules ≡ s.blocks.modules
    at (consts items) lawful = (consts_same s i outer items).modules
    at (types items) lawful = (types_same s i outer items).modules
    at (vars vs) lawful = (vars_same owner s i outer vs).modules
    at (sub_part p) lawful = sub_modules home s i outer p lawful
    at (monitor m) lawful = absurd (none lawful.0)
    at (resource m) lawful = absurd (none lawful.0)
    at (process_part p) lawful = absurd (none lawful.0)

-- ## The parts of the program

-- A module: its own scope, and the program's, which has its name.
record HasModule (all : Forms) (s : State) (own : ℕ) (is_resource : Bool) : Type 0 where
  inside : IsFine (module_owner is_resource) all 0 s own
  outside : IsFine in_program all (length s.blocks.modules) s 0
  there : own < length s.blocks.scopes

pub around_program : (s : State) → 6 ≤ length s.forms → 0 < length s.blocks.scopes → HasAround 0 s []
around_program s six some = record { six = six; around = tt; outside = tt; own = some }

around_module : (s : State) → 6 ≤ length s.forms → 0 < length s.blocks.scopes → ArePlaced s.forms (scope_at s.blocks.scopes 0)
    → HasAround (length s.blocks.scopes) (open_scope s) (here s.blocks.scopes 0 [])
around_module s six some placed =
    let more = length-append s.blocks.scopes ([] ∷ []) in
    record {
      six = six;
      around = (subst (λ (names : Names). ArePlaced s.forms names) (sym ((open_opened s).others 0 some)) placed, tt);
      outside = (omega (arith, more, some), apart 0 (length s.blocks.scopes) some, tt);
      own = omega (arith, more);
    }

nothing_inside : (owner : Owner) (all : Forms) (bound : ℕ) (s : State) → IsFine owner all bound (open_scope s) (length s.blocks.scopes)
nothing_inside owner all bound s =
    record {
      rises = subst (λ (names : Names). Rises 0 names bound) (sym (open_empty s)) (omega arith);
      owned = subst (λ (names : Names). All (λ x. IsOfOwner owner all x.1) names) (sym (open_empty s)) (All-nil (λ x. IsOfOwner owner all x.1));
      placed = subst (λ (names : Names). ArePlaced s.forms names) (sym (open_empty s)) (All-nil (λ x. IsPlaced s.forms x.1));
    }

module_fine : (is_resource : Bool) (home : Home) (all : Forms) (s : State) (m : ModuleTree) → (HoldsModules home → ⊥) → IsLawfulModule home (forget_module m)
    → 6 ≤ length s.forms → 0 < length s.blocks.scopes → Begins (module_state is_resource s 0 [] m).forms all
    → IsFine in_program all (length s.blocks.modules) s 0
    → HasModule all (module_state is_resource s 0 [] m) (length s.blocks.scopes) is_resource
module_fine is_resource home all s (the_module x exports ps body last p) none lawful six some b h =
    let own = length s.blocks.scopes in
    let around = here s.blocks.scopes 0 [] in
    let owner = module_owner is_resource in
    let declared = parts_state owner (open_scope s) own around ps in
    let view = here declared.blocks.scopes own around in
    let inits = init_state declared view body in
    let t = exports_state inits own exports in
    let head : ModuleHead = record { scope = own; resource = is_resource } in
    let opened = open_opened s in
    let more = length-append s.blocks.scopes ([] ∷ []) in
    let inner = parts_walked owner (open_scope s) own around ps (omega (arith, more)) in
    let begun_inits = init_opened declared view body in
    let kept = exports_kept inits own exports in
    let inner_count : length declared.blocks.scopes ≡ length (open_scope s).blocks.scopes + parts_scopes ps = inner.count in
    let inits_count = begun_inits.count in
    let same_count : length t.blocks.scopes ≡ length inits.blocks.scopes = ap length kept.scopes in
    let closed = module_closed_walked is_resource inits 0 own (x, p) exports (omega (arith, inner_count, inits_count, more, some)) in
    let later : Begins declared.forms all =
    begins_trans declared.forms inits.forms all begun_inits.forms (begins_trans inits.forms
    (module_closed is_resource inits 0 own (x, p) exports).forms all closed.forms b) in
    let inside =
    inner_fine home owner all 0 (open_scope s) own around ps none lawful.1 (around_module s six some h.placed) later (nothing_inside owner all 0 s) in
    let before = fine_kept in_program all (length s.blocks.modules) 0 kept
    (fine_opened in_program all (length s.blocks.modules) 0 (omega (arith, inner_count, more)) begun_inits
    (fine_elsewhere in_program all (length s.blocks.modules) 0 own (omega (arith, more)) (apart 0 own some) inner
    (fine_opened in_program all (length s.blocks.modules) 0 some opened h))) in
    let n = length inits.blocks.modules in
    let same : inits.blocks.modules ≡ s.blocks.modules =
    (init_same declared view body).modules ∙ inner_modules home owner (open_scope s) own around ps none lawful.1 in
    let last : (declare (add_module t head) 0 (x, p) (Module n)).blocks.modules ≡ inits.blocks.modules ++ head ∷ [] =
    (declare_same (add_module t head) 0 (x, p) (Module n)).modules ∙ ap (λ (l : List ModuleHead). l ++ head ∷ []) (exports_same inits own exports).modules in
    let size : length s.blocks.modules ≡ n = sym (ap length same) in
    let next : length (declare (add_module t head) 0 (x, p) (Module n)).blocks.modules ≡ suc n =
    ap length last ∙ length-append inits.blocks.modules (head ∷ []) ∙ omega arith in
    record {
      inside = fine_elsewhere owner all 0 own 0 (omega (arith, inner_count, inits_count, more)) (λ e. apart 0 own some (sym e)) closed
          (fine_opened owner all 0 own (omega (arith, inner_count, more)) begun_inits inside);
      outside = subst (λ (k : ℕ). IsFine in_program all k (declare (add_module t head) 0 (x, p) (Module n)) 0) (sym next)
          (add_fine in_program all (length s.blocks.modules) (suc n) (add_module t head) 0 (x, p) (Module n)
          (omega (arith, same_count, inits_count, inner_count, more)) refl tt (omega (arith, size))
          (rises_next 0 (scope_at t.blocks.scopes 0) x (length s.blocks.modules) n (omega (arith, size)) before.rises)
          (record { owned = before.owned; placed = before.placed; rises = before.rises }));
      there = (let closed_count = closed.count in omega (arith, closed_count, inits_count, inner_count, more));
    }

process_named_fine : (all : Forms) (bound : ℕ) (s : State) (many whole : Bool) (x : Text × Place) (n : ℕ) → 0 < length s.blocks.scopes
    → IsFine in_program all bound s 0
    → IsFine in_program all bound (process_named s 0 many whole x n) 0
process_named_fine all bound s many false x n some h = declare_fine in_program all bound s 0 x Faulty some tt tt h
process_named_fine all bound s true true x n some h =
    declare_fine in_program all bound (add_form s (AProcess n)) 0 x (Named (record { place = length s.forms })) some tt
    (omega (arith, length-append s.forms (Some (AProcess n) ∷ [])))
    (record { owned = h.owned; placed = all_grown s.forms (Some (AProcess n) ∷ []) (scope_at s.blocks.scopes 0) h.placed; rises = h.rises })
process_named_fine all bound s false true x n some h = by (is_some (meaning_in (scope_at s.blocks.scopes 0) x.0))
  where
    by : (r : Bool) → IsFine in_program all bound (if r then declare s 0 x Faulty else populated s 0 1 x (Process n)) 0
    by true = declare_fine in_program all bound s 0 x Faulty some tt tt h
    by false = populated_fine in_program all bound s 0 1 x (Process n) some refl tt h

process_fine : (all : Forms) (bound : ℕ) (s : State) (q : ProcessTree) → 0 < length s.blocks.scopes → IsFine in_program all bound s 0
    → IsFine in_program all bound (process_state s 0 [] q) 0
process_fine all bound s (process many x gs es ps b p) some h =
    let own = length s.blocks.scopes in
    let k = heading (open_scope s) own (here s.blocks.scopes 0 []) gs in
    let head : ProcessHead = record { formals = k.formals; entries = length s.blocks.entries; scope = own } in
    let opened = heading_opened s (here s.blocks.scopes 0 []) gs in
    let count = opened.count in
    let before = fine_opened in_program all bound 0 some opened h in
    let named = process_named_fine all bound (add_process k.state head) many k.whole (x, p) (length s.blocks.processes) (omega (arith, count))
    (record { owned = before.owned; placed = before.placed; rises = before.rises }) in
    let headed = process_headed s 0 [] many (x, p) gs in
    let around = here headed.blocks.scopes 0 [] in
    let entered = entries_state headed own around 0 es in
    let declared = parts_state elsewhere entered own around ps in
    let done = body_state declared (here declared.blocks.scopes own around) b in
    let first = process_headed_walked s 0 [] many (x, p) gs some in
    let first_count : length headed.blocks.scopes ≡ length s.blocks.scopes + 1 = first.count in
    let second = entries_walked headed own around 0 es (omega (arith, first_count)) in
    let second_count : length entered.blocks.scopes ≡ length headed.blocks.scopes + 0 = second.count in
    let inner = parts_walked elsewhere entered own around ps (omega (arith, second_count, first_count)) in
    let inner_count : length declared.blocks.scopes ≡ length entered.blocks.scopes + parts_scopes ps = inner.count in
    fine_kept in_program all bound 0 (note_kept done (cells_rule (process_cells done own (length declared.blocks.scopes)) p))
    (fine_opened in_program all bound 0 (omega (arith, inner_count, second_count, first_count))
    (body_opened declared (here declared.blocks.scopes own around) b)
    (fine_elsewhere in_program all bound 0 own (omega (arith, second_count, first_count)) (apart 0 own some) inner
    (fine_elsewhere in_program all bound 0 own (omega (arith, first_count)) (apart 0 own some) second named)))

process_modules : (s : State) (q : ProcessTree) → IsLawfulProcess (forget_process q) → (process_state s 0 [] q).blocks.modules ≡ s.blocks.modules
process_modules s (process many x gs es ps b p) lawful =
    let own = length s.blocks.scopes in
    let headed = process_headed s 0 [] many (x, p) gs in
    let around = here headed.blocks.scopes 0 [] in
    let entered = entries_state headed own around 0 es in
    let declared = parts_state elsewhere entered own around ps in
    let done = body_state declared (here declared.blocks.scopes own around) b in
    (note_same done (cells_rule (process_cells done own (length declared.blocks.scopes)) p)).modules
    ∙ ((body_same declared (here declared.blocks.scopes own around) b).modules
    ∙ (inner_modules of_other elsewhere entered own around ps (λ e. e) lawful.2 ∙ ((entries_same headed own around 0 es).modules
    ∙ (process_headed_same s 0 [] many (x, p) gs).modules)))

-- as many modules as before
same_bound : (all : Forms) (s t : State) → t.blocks.modules ≡ s.blocks.modules → IsFine in_program all (length s.blocks.modules) t 0
    → IsFine in_program all (length t.blocks.modules) t 0
same_bound all s t e h = subst (λ (n : ℕ). IsFine in_program all n t 0) (ap length (sym e)) h

pub part_fine : (all : Forms) (s : State) (q : PartTree) → IsLawfulPart of_program (forget_part q) → 6 ≤ length s.forms → 0 < length s.blocks.scopes
    → Begins (part_state in_program s 0 [] q).forms all → IsFine in_program all (length s.blocks.modules) s 0
    → IsFine in_program all (length (part_state in_program s 0 [] q).blocks.modules) (part_state in_program s 0 [] q) 0
part_fine all s (consts items) lawful six some b h =
    same_bound all s (consts_state s 0 [] items) (consts_same s 0 [] items).modules (consts_fine in_program all (length s.blocks.modules) s 0 [] items some h)
part_fine all s (types items) lawful six some b h =
    same_bound all s (types_state s 0 [] items) (types_same s 0 [] items).modules
    (types_fine in_program all (length s.blocks.modules) s 0 [] items (around_program s six some) h)
part_fine all s (vars vs) lawful six some b h =
    same_bound all s (vars_state in_program s 0 [] vs) (vars_same in_program s 0 [] vs).modules
    (vars_fine in_program all (length s.blocks.modules) s 0 [] vs (around_program s six some) b h)
part_fine all s (sub_part q) lawful six some b h =
    same_bound all s (sub_state s 0 [] q) (sub_modules of_program s 0 [] q lawful) (sub_fine in_program all (length s.blocks.modules) s 0 [] q some h)
part_fine all s (monitor m) lawful six some b h = (module_fine false of_other all s m (λ e. e) lawful.1 six some b h).outside
part_fine all s (resource m) lawful six some b h = (module_fine true of_resource all s m (λ e. e) lawful.1 six some b h).outside
part_fine all s (process_part q) lawful six some b h =
    same_bound all s (process_state s 0 [] q) (process_modules s q lawful.1) (process_fine all (length s.blocks.modules) s q some h)

-- The names of the program, and those of each module among the parts that follow.
pub record AreFine (all : Forms) (bound : ℕ) (s : State) (modules : List ModuleHead) : Type 0 where
  pub program : IsFine in_program all bound s 0
  pub inside : All (λ (head : ModuleHead). (0 < head.scope) × (head.scope < length s.blocks.scopes) × IsFine (module_owner head.resource) all 0 s head.scope)
      modules

with_module : (all : Forms) (bound : ℕ) (s : State) (head : ModuleHead) (heads : List ModuleHead) → 0 < head.scope → head.scope < length s.blocks.scopes
    → IsFine (module_owner head.resource) all 0 s head.scope → AreFine all bound s heads → AreFine all bound s (head ∷ heads)
with_module all bound s head heads some below fine h =
    record {
      program = h.program;
      inside = All-cons (λ (x : ModuleHead). (0 < x.scope) × (x.scope < length s.blocks.scopes) × IsFine (module_owner x.resource) all 0 s x.scope) head heads
          (some, below, fine) h.inside;
    }

-- what is fine behind a part is so behind all that follow
record Keeps (all : Forms) (one last : State) : Type 0 where
  keeps : (owner : Owner) (j : ℕ) → 0 < j → j < length one.blocks.scopes → IsFine owner all 0 one j → IsFine owner all 0 last j
  grows : length one.blocks.scopes ≤ length last.blocks.scopes

part_module : (all : Forms) (bound : ℕ) (s last : State) (next : ℕ) (q : PartTree) (qs : PartTrees) → IsLawfulPart of_program (forget_part q)
    → 6 ≤ length s.forms
    → length s.blocks.scopes ≡ next → 0 < next → Begins (part_state in_program s 0 [] q).forms all → IsFine in_program all (length s.blocks.modules) s 0
    → Keeps all (part_state in_program s 0 [] q) last → AreFine all bound last (modules_from (next + part_scopes q) qs)
    → AreFine all bound last (modules_from next (more_parts q qs))
part_module all bound s last next (consts items) qs lawful six at some b h keeps rest = rest
part_module all bound s last next (types items) qs lawful six at some b h keeps rest = rest
part_module all bound s last next (vars vs) qs lawful six at some b h keeps rest = rest
part_module all bound s last next (sub_part q) qs lawful six at some b h keeps rest = rest
part_module all bound s last next (process_part q) qs lawful six at some b h keeps rest = rest
part_module all bound s last next (monitor m) qs lawful six at some b h keeps rest =
    let has = module_fine false of_other all s m (λ e. e) lawful.1 six (omega (arith, at, some)) b h in
    let there : length s.blocks.scopes < length (module_state false s 0 [] m).blocks.scopes = has.there in
    let grows : length (module_state false s 0 [] m).blocks.scopes ≤ length last.blocks.scopes = keeps.grows in
    with_module all bound last (record { scope = next; resource = false }) (modules_from (next + part_scopes (monitor m)) qs) some
    (omega (arith, at, there, grows))
    (subst (λ (n : ℕ). IsFine (module_owner false) all 0 last n) at
    (keeps.keeps (module_owner false) (length s.blocks.scopes) (omega (arith, at, some)) there has.inside)) rest
part_module all bound s last next (resource m) qs lawful six at some b h keeps rest =
    let has = module_fine true of_resource all s m (λ e. e) lawful.1 six (omega (arith, at, some)) b h in
    let there : length s.blocks.scopes < length (module_state true s 0 [] m).blocks.scopes = has.there in
    let grows : length (module_state true s 0 [] m).blocks.scopes ≤ length last.blocks.scopes = keeps.grows in
    with_module all bound last (record { scope = next; resource = true }) (modules_from (next + part_scopes (resource m)) qs) some
    (omega (arith, at, there, grows))
    (subst (λ (n : ℕ). IsFine (module_owner true) all 0 last n) at
    (keeps.keeps (module_owner true) (length s.blocks.scopes) (omega (arith, at, some)) there has.inside)) rest

program_fine : (all : Forms) (s : State) (next : ℕ) (qs : PartTrees) → AreLawfulParts of_program (forget_parts qs) → 6 ≤ length s.forms
    → length s.blocks.scopes ≡ next → 0 < next → Begins (parts_state in_program s 0 [] qs).forms all → IsFine in_program all (length s.blocks.modules) s 0
    → AreFine all (length (parts_state in_program s 0 [] qs).blocks.modules) (parts_state in_program s 0 [] qs) (modules_from next qs)
program_fine all s next no_parts lawful six at some b h =
    record {
      program = h;
      inside = All-nil (λ (x : ModuleHead). (0 < x.scope) × (x.scope < length s.blocks.scopes) × IsFine (module_owner x.resource) all 0 s x.scope);
    }
program_fine all s next (more_parts q qs) lawful six at some b h =
    let one = part_state in_program s 0 [] q in
    let last = parts_state in_program one 0 [] qs in
    let walked = part_walked in_program s 0 [] q (omega (arith, at, some)) in
    let count : length one.blocks.scopes ≡ length s.blocks.scopes + part_scopes q = walked.count in
    let rest = parts_walked in_program one 0 [] qs (omega (arith, count, at, some)) in
    let rest_count : length last.blocks.scopes ≡ length one.blocks.scopes + parts_scopes qs = rest.count in
    let later : Begins one.forms all = begins_trans one.forms last.forms all rest.forms b in
    let fine = part_fine all s q lawful.0 six (omega (arith, at, some)) later h in
    let more = program_fine all one (next + part_scopes q) qs lawful.1 (let grown = begins_length s.forms one.forms walked.forms in omega (arith, grown, six))
    (omega (arith, count, at)) (omega (arith, some)) b fine in
    part_module all (length last.blocks.modules) s last next q qs lawful.0 six at some later h
    (record {
      keeps = λ owner j above below here. fine_elsewhere owner all 0 j 0 below (λ e. omega (arith, e, above)) rest here;
      grows = omega (arith, rest_count);
    })
    more

-- ## The whole

all_kept : (all : Forms) (bound : ℕ) (s t : State) (heads : List ModuleHead) → length s.blocks.scopes ≤ length t.blocks.scopes
    → ((owner : Owner) (k j : ℕ) → j < length s.blocks.scopes → IsFine owner all k s j → IsFine owner all k t j) → 0 < length s.blocks.scopes
    → AreFine all bound s heads
    → AreFine all bound t heads
all_kept all bound s t [] grows keeps some h =
    record {
      program = keeps in_program bound 0 some h.program;
      inside = All-nil (λ (x : ModuleHead). (0 < x.scope) × (x.scope < length t.blocks.scopes) × IsFine (module_owner x.resource) all 0 t x.scope);
    }
all_kept all bound s t (head ∷ heads) grows keeps some h =
    let first =
    All-head (λ (x : ModuleHead). (0 < x.scope) × (x.scope < length s.blocks.scopes) × IsFine (module_owner x.resource) all 0 s x.scope) head heads h.inside in
    let rest =
    All-tail (λ (x : ModuleHead). (0 < x.scope) × (x.scope < length s.blocks.scopes) × IsFine (module_owner x.resource) all 0 s x.scope) head heads h.inside in
    with_module all bound t head heads first.0 (let below = first.1 in omega (arith, below, grows))
    (keeps (module_owner head.resource) 0 head.scope first.1 first.2)
    (all_kept all bound s t heads grows keeps some (record { program = h.program; inside = rest }))

pub begun_fine : (all : Forms) → IsFine in_program all 0 begun 0
begun_fine all = record { owned = All-nil (λ x. IsOfOwner in_program all x.1); placed = All-nil (λ x. IsPlaced begun.forms x.1); rises = omega arith }

-- the names of a lawful program and of its modules are as they are to be
pub names_fine : (t : ProgramTree) → IsLawful (forget_program t)
    → AreFine (finished t).forms (length (finished t).blocks.modules) (finished t) (modules_from 1 t.parts)
names_fine t lawful =
    let s = declared_parts t in
    let view = here s.blocks.scopes 0 [] in
    let done = declared_all t in
    let rule = cells_rule (main_cells done) t.name.1 in
    let opened = body_opened s view t.body in
    let kept = note_kept done rule in
    let walked = parts_walked in_program begun 0 [] t.parts (omega arith) in
    let count : length s.blocks.scopes ≡ 1 + parts_scopes t.parts = walked.count in
    let later : Begins s.forms (finished t).forms = begins_trans s.forms done.forms (finished t).forms opened.forms kept.forms in
    let same : length (finished t).blocks.scopes ≡ length done.blocks.scopes = ap length kept.scopes in
    let done_count = opened.count in
    let modules : (finished t).blocks.modules ≡ s.blocks.modules = (note_same done rule).modules ∙ (body_same s view t.body).modules in
    subst (λ (n : ℕ). AreFine (finished t).forms n (finished t) (modules_from 1 t.parts)) (ap length (sym modules))
    (all_kept (finished t).forms (length s.blocks.modules) s (finished t) (modules_from 1 t.parts) (omega (arith, same, done_count))
    (λ owner k j below h. fine_kept owner (finished t).forms k j kept (fine_opened owner (finished t).forms k j below opened h)) (omega (arith, count))
    (program_fine (finished t).forms begun 1 t.parts lawful.0 (omega arith) refl (omega arith) later (begun_fine (finished t).forms)))
