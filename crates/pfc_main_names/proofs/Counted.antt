-- The processes of a program are counted: there are as many as its names bring in, and 1,023 at the most.
use Rattle.std.proofs.Common.{◌≡◌, ◌≢◌, ℕ, ◌+◌, ◌<◌, ◌≤◌, ◌&&◌, nat_le, nat_lt, Bool, true, false, if◌then◌else◌, is_some, List, [], ◌∷◌, ◌++◌, length}
use Rattle.std.proofs.Common.{length-append, sum_by, Option, Some, None, refl, sym, ap, ◌∙◌, subst, arith}
use Rattle.std.proofs.lemmas.Bool.Decides.{nat_tests}
use Rattle.std.proofs.lemmas.List.Sums.{sum_by-cons, sum_by-append}
use Rattle.pfc_base.specs.declared.places.Place.{Place}
use Rattle.pfc_tree.specs.Symbols.{Text}
use Rattle.pfc_tree.specs.declared.tree.ConstItem.{ConstItem}
use Rattle.pfc_tree.specs.trees.Types.{VarTrees, TypeItemTree, var_item, no_vars, more_vars}
use Rattle.pfc_tree.specs.trees.Parts.{PartTree, PartTrees, SubTree, ModuleTree, ProcessTree, ProgramTree, consts, types, vars, sub_part, monitor, resource}
use Rattle.pfc_tree.specs.trees.Parts.{process_part, no_parts, more_parts, sub, the_module, process}
use Rattle.pfc_tree.specs.forget.Parts.{forget_part, forget_parts, forget_module, forget_process, forget_sub, forget_program}
use Rattle.pfc_tree.specs.lawful.Parts.{Home, of_program, of_resource, of_other, HoldsModules, IsLawfulPart, AreLawfulParts, IsLawfulSub, IsLawfulModule}
use Rattle.pfc_tree.specs.lawful.Parts.{IsLawfulProcess, IsLawful}
use Rattle.pfc_types.specs.Faults.{Faults, none, one, ◌⨾◌, unless}
use Rattle.pfc_types.specs.Types.{Forms, held_of, most_processes}
use Rattle.pfc_types.specs.Growing.{Begins}
use Rattle.pfc_types.specs.Scopes.{Names, scope_at, here, meaning_in}
use Rattle.pfc_types.specs.Blocks.{State, note, declare, add_form, add_name, add_sub, add_module, add_process, open_scope, set_population}
use Rattle.pfc_types.specs.declared.table.Held.{Held}
use Rattle.pfc_types.specs.declared.types.TypeId.{TypeId}
use Rattle.pfc_types.specs.declared.types.TypeForm.TheVariants.{Process as AProcess}
use Rattle.pfc_types.specs.declared.heads.SubHead.{SubHead}
use Rattle.pfc_types.specs.declared.heads.ModuleHead.{ModuleHead}
use Rattle.pfc_types.specs.declared.heads.ProcessHead.{ProcessHead}
use Rattle.pfc_types.specs.declared.scope.Meaning.{Meaning}
use Rattle.pfc_types.specs.declared.scope.Meaning.TheVariants.{Named, Variable, Module, Process, Faulty}
use Rattle.pfc_types.specs.rules.Kinds.{where_so, type_meaning, variable_meaning}
use Rattle.pfc_types.specs.rules.Constants.{Ordinal, constant_value, broken_constant, made, type_place}
use Rattle.pfc_types.specs.rules.Declarations.{constant_meaning, const_state, consts_state, type_state, types_state, Owner, in_program, elsewhere, owner_rules}
use Rattle.pfc_types.specs.rules.Declarations.{owned_type, passes_most, populated, brought, var_name_state, var_names_state, var_state, vars_state, heading}
use Rattle.pfc_types.specs.rules.Declarations.{broken_sort, sort_of, whole_sort, sub_meaning, sub_headed, module_owner, exports_state, init_state}
use Rattle.pfc_types.specs.rules.Declarations.{process_named, process_headed, entries_state, body_state, cells_rule, scope_cells, result_cells, process_cells}
use Rattle.pfc_types.specs.rules.Declarations.{part_state, parts_state, sub_state, module_state, process_state, may_share, shared_fits, condition_fits}
use Rattle.pfc_types.specs.rules.Bodies.{part_scopes, parts_scopes}
use Rattle.pfc_types.specs.rules.Whole.{begun, declared_parts, declared_all, finished, main_cells}
use Rattle.pfc_types.proofs.Prefixes.{begins_trans}
use Rattle.pfc_types.proofs.Walking.{Kept, Opened, Walked, note_kept, open_opened}
use Rattle.pfc_types.proofs.WalkDeclarations.{consts_walked, types_walked, vars_walked, made_kept, entries_walked, exports_kept}
use Rattle.pfc_types.proofs.WalkStatements.{heading_opened, body_opened, init_opened}
use Rattle.pfc_types.proofs.WalkParts.{part_walked, parts_walked, sub_headed_walked, process_headed_walked}
use Rattle.pfc_name_laws.proofs.Steps.{never_noted}
use Rattle.pfc_image_cells.proofs.Subs.{declared_named}
use Rattle.pfc_type_laws.proofs.WalkTypes.{note_forms}
use Rattle.pfc_main_names.proofs.Placed.{HasPlace, made_placed}
use Rattle.pfc_main_names.proofs.Owned.{IsFine, held_begins, declare_count, populated_count, names_forms}
use Rattle.pfc_main_names.proofs.Walk.{HasAround, has_around, around_program, vars_fine, part_fine, begins_length, begun_fine}
use Rattle.pfc_main_names.proofs.Population.{Same, ◌⊳◌, same, open_same, note_same, declare_same, made_same, entries_same, exports_same, body_same, init_same}
use Rattle.pfc_main_names.proofs.Population.{groups_same, parts_same}

-- ## What names bring in

abbrev pub brings : Forms → Meaning → ℕ
brings forms (Variable t reference) = (held_of forms t).processes
brings forms (Process n) = 1
brings forms m = 0

abbrev pub all_brought : Forms → Names → ℕ
all_brought forms names = sum_by (λ x. brings forms x.1) names

brought_last : (forms : Forms) (names : Names) (x : Text) (m : Meaning) → all_brought forms (names ++ (x, m) ∷ []) ≡ all_brought forms names + brings forms m
brought_last forms names x m =
    sum_by-append (λ (y : Text × Meaning). brings forms y.1) names ((x, m) ∷ [])
    ∙ ap (λ k. all_brought forms names + k) (sum_by-cons (λ (y : Text × Meaning). brings forms y.1) (x, m) [] ∙ no_more (brings forms m))
  where
    no_more : (k : ℕ) → k + 0 ≡ k
    no_more k = omega arith

-- they are counted so
pub record IsCounted (all : Forms) (s : State) : Type 0 where
  pub population : s.blocks.population ≡ all_brought all (scope_at s.blocks.scopes 0)
  pub most : s.blocks.population ≤ 1023

-- unless a rule is noted
abbrev pub Counted : Forms → State → Type 0
Counted all s = s.blocks.noted ≡ [] → IsCounted all s

-- a step that adds no process
step : (all : Forms) {s t : State} → Same s t
    → (t.blocks.noted ≡ [] → all_brought all (scope_at t.blocks.scopes 0) ≡ all_brought all (scope_at s.blocks.scopes 0))
    → Counted all s → Counted all t
step all same names h e =
    let before = h (same.clean e) in
    let small = before.most in
    let was = before.population in
    let now = names e in
    let count = same.population in
    record { population = omega (arith, small, was, now, count); most = omega (arith, small, count) }

-- the program's scope is as it was
still : (all : Forms) {s t : State} → Same s t → scope_at t.blocks.scopes 0 ≡ scope_at s.blocks.scopes 0 → Counted all s → Counted all t
still all same names h = step all same (λ e. ap (λ (l : Names). all_brought all l) names) h

kept_names : {s t : State} → Kept s t → scope_at t.blocks.scopes 0 ≡ scope_at s.blocks.scopes 0
kept_names k = ap (λ (l : List Names). scope_at l 0) k.scopes

-- a name that brings in none
declare_counted : (all : Forms) (s : State) (x : Text × Place) (m : Meaning) → 0 < length s.blocks.scopes → brings all m ≡ 0 → Counted all s
    → Counted all (declare s 0 x m)
declare_counted all s x m some nothing h =
    step all (declare_same s 0 x m)
    (λ e. ap (λ (l : Names). all_brought all l) (declared_named s x m some e) ∙ brought_last all (scope_at s.blocks.scopes 0) x.0 m ∙ same_sum nothing) h
  where
    same_sum : brings all m ≡ 0 → all_brought all (scope_at s.blocks.scopes 0) + brings all m ≡ all_brought all (scope_at s.blocks.scopes 0)
    same_sum e = omega (arith, e)

-- ## Names that bring in processes

note_population : (s : State) (fs : Faults) → (note s fs).blocks.population ≡ s.blocks.population
note_population s none = refl
note_population s (one f) = refl
note_population s (fs ⨾ gs) = note_population (note s fs) gs ∙ note_population s fs

declare_population : (s : State) (i : ℕ) (x : Text × Place) (m : Meaning) → (declare s i x m).blocks.population ≡ s.blocks.population
declare_population s i x m = by (is_some (meaning_in (scope_at s.blocks.scopes i) x.0))
  where
    by : (r : Bool) → (if r then note s (unless false x.1 302) else add_name s i x.0 m).blocks.population ≡ s.blocks.population
    by true = note_population s (unless false x.1 302)
    by false = refl

within_most : (before more : ℕ) → before ≤ 1023 → (nat_le before 1023 && nat_lt 1023 (before + more)) ≡ false → before + more ≤ 1023
within_most before more small h = by (nat_le before 1023) (nat_lt 1023 (before + more)) refl refl h
  where
    by : (r q : Bool) → nat_le before 1023 ≡ r → nat_lt 1023 (before + more) ≡ q → (r && q) ≡ false → before + more ≤ 1023
    by true true e f h = absurd (cc)
    by true false e f h = grind (arith, nat_tests)
    by false q e f h = absurd (let past : 1023 < before = grind (arith, nat_tests) in omega (arith, past, small))

populated_counted : (all : Forms) (s : State) (more : ℕ) (x : Text × Place) (m : Meaning) → 0 < length s.blocks.scopes → brings all m ≡ more → Counted all s
    → Counted all (populated s 0 more x m)
populated_counted all s more x m some brings_more h = by (passes_most s.blocks.population more) refl
  where
    by : (r : Bool) → passes_most s.blocks.population more ≡ r
        → Counted all (if r
        then declare (note (set_population s (most_processes (s.blocks.population + more))) (unless false x.1 424)) 0 x Faulty
        else declare (set_population s (most_processes (s.blocks.population + more))) 0 x m)
    by true passes e =
        absurd (never_noted (set_population s (most_processes (s.blocks.population + more))) x.1 424
        ((declare_same (note (set_population s (most_processes (s.blocks.population + more))) (unless false x.1 424)) 0 x Faulty).clean e))
    by false passes e =
        let counted = set_population s (most_processes (s.blocks.population + more)) in
        let before = h ((declare_same counted 0 x m).clean e) in
        let small = before.most in
        let was = before.population in
        let within = within_most s.blocks.population more small passes in
        let now : (declare counted 0 x m).blocks.population ≡ most_processes (s.blocks.population + more) = declare_population counted 0 x m in
        let names : all_brought all (scope_at (declare counted 0 x m).blocks.scopes 0) ≡ all_brought all (scope_at s.blocks.scopes 0) + brings all m =
        ap (λ (l : Names). all_brought all l) (declared_named counted x m some e) ∙ brought_last all (scope_at s.blocks.scopes 0) x.0 m in
        record { population = omega (arith, was, within, now, names, brings_more); most = omega (arith, within, now) }

-- ## Constants, types and variables

no_constant : (all : Forms) (c : Option Ordinal) → brings all (constant_meaning c) ≡ 0
no_constant all None = refl
no_constant all (Some c) = refl

consts_counted : (all : Forms) (s : State) (cs : List ConstItem) → 0 < length s.blocks.scopes → Counted all s → Counted all (consts_state s 0 [] cs)
consts_counted all s [] some h = h
consts_counted all s (c ∷ cs) some h =
    let view = here s.blocks.scopes 0 [] in
    let fault = broken_constant s.blocks.scopes view c.value in
    let kept = note_kept s fault in
    let size : length (note s fault).blocks.scopes ≡ length s.blocks.scopes = ap length kept.scopes in
    let count = (consts_walked s 0 [] (c ∷ []) some).count in
    consts_counted all (const_state s 0 [] c) cs (omega (arith, count, some))
    (declare_counted all (note s fault) (c.name, c.place) (constant_meaning (constant_value s.blocks.scopes view c.value)) (omega (arith, some, size))
    (no_constant all (constant_value s.blocks.scopes view c.value)) (still all (note_same s fault) (kept_names kept) h))

no_type : (all : Forms) (t : Option TypeId) → brings all (type_meaning t) ≡ 0
no_type all None = refl
no_type all (Some t) = refl

types_counted : (all : Forms) (s : State) (ds : List TypeItemTree) → 0 < length s.blocks.scopes → Counted all s → Counted all (types_state s 0 [] ds)
types_counted all s [] some h = h
types_counted all s (d ∷ ds) some h =
    let view = here s.blocks.scopes 0 [] in
    let m = made false s view d.form in
    let kept = made_kept false s view d.form in
    let size : length m.state.blocks.scopes ≡ length s.blocks.scopes = ap length kept.scopes in
    let count = (types_walked s 0 [] (d ∷ []) some).count in
    types_counted all (type_state s 0 [] d) ds (omega (arith, count, some))
    (declare_counted all m.state (d.name, d.place) (type_meaning m.t) (omega (arith, some, size)) (no_type all m.t)
    (still all (made_same false s view d.form) (kept_names kept) h))

variable_brings : (all forms : Forms) (t : Option TypeId) → HasPlace forms t → Begins forms all → brings all (variable_meaning false t) ≡ brought forms t
variable_brings all forms None place b = refl
variable_brings all forms (Some u) place b = ap (λ (h : Held). h.processes) (held_begins forms all u b place)

var_name_counted : (all : Forms) (s : State) (t : Option TypeId) (x : Text × Place) → 0 < length s.blocks.scopes → HasPlace s.forms t → Begins s.forms all
    → Counted all s → Counted all (var_name_state s 0 t x)
var_name_counted all s t x some place b h = by (is_some (meaning_in (scope_at s.blocks.scopes 0) x.0))
  where
    by : (r : Bool) → Counted all (if r then declare s 0 x Faulty else populated s 0 (brought s.forms t) x (variable_meaning false t))
    by true = declare_counted all s x Faulty some refl h
    by false = populated_counted all s (brought s.forms t) x (variable_meaning false t) some (variable_brings all s.forms t place b) h

name_count : (s : State) (t : Option TypeId) (x : Text × Place) → length (var_name_state s 0 t x).blocks.scopes ≡ length s.blocks.scopes
name_count s t x = by (is_some (meaning_in (scope_at s.blocks.scopes 0) x.0))
  where
    by : (r : Bool)
        → length (if r then declare s 0 x Faulty else populated s 0 (brought s.forms t) x (variable_meaning false t)).blocks.scopes ≡ length s.blocks.scopes
    by true = declare_count s 0 x Faulty
    by false = populated_count s 0 (brought s.forms t) x (variable_meaning false t)

var_names_counted : (all : Forms) (s : State) (t : Option TypeId) (xs : List (Text × Place)) → 0 < length s.blocks.scopes → HasPlace s.forms t
    → Begins s.forms all
    → Counted all s → Counted all (var_names_state s 0 t xs)
var_names_counted all s t [] some place b h = h
var_names_counted all s t (x ∷ xs) some place b h =
    let forms = names_forms s 0 t (x ∷ []) in
    let size = name_count s t x in
    var_names_counted all (var_name_state s 0 t x) t xs (omega (arith, size, some)) (subst (λ (f : Forms). HasPlace f t) (sym forms) place)
    (subst (λ (f : Forms). Begins f all) (sym forms) b) (var_name_counted all s t x some place b h)

owned_place : (forms : Forms) (owner : Owner) (t : Option TypeId) → HasPlace forms t → HasPlace forms (owned_type owner forms t)
owned_place forms owner None h = tt
owned_place forms owner (Some t) h = by (shared_fits owner forms t && condition_fits owner forms t)
  where
    by : (r : Bool) → HasPlace forms (where_so r t)
    by true = h
    by false = tt

vars_counted : (all : Forms) (bound : ℕ) (s : State) (vs : VarTrees) → HasAround 0 s [] → Begins (vars_state in_program s 0 [] vs).forms all
    → IsFine in_program all bound s 0 → Counted all s → Counted all (vars_state in_program s 0 [] vs)
vars_counted all bound s no_vars a b fine h = h
vars_counted all bound s (more_vars (var_item xs t) vs) a b fine h =
    let view = here s.blocks.scopes 0 [] in
    let m = made false s view t in
    let rules = owner_rules in_program m.state.forms m.t (type_place t) in
    let kept = made_kept false s view t in
    let noted = note_kept m.state rules in
    let next = var_state in_program s 0 [] (var_item xs t) in
    let walked = vars_walked in_program s 0 [] (more_vars (var_item xs t) no_vars) a.own in
    let rest = vars_walked in_program next 0 [] vs (let count = walked.count in omega (arith, count, a.own)) in
    let owned = owned_type in_program m.state.forms m.t in
    let same_forms : next.forms ≡ (note m.state rules).forms = names_forms (note m.state rules) 0 owned xs in
    let next_later : Begins next.forms all = begins_trans next.forms (vars_state in_program next 0 [] vs).forms all rest.forms b in
    let later : Begins (note m.state rules).forms all = subst (λ (f : Forms). Begins f all) same_forms next_later in
    let size : length (note m.state rules).blocks.scopes ≡ length s.blocks.scopes = ap length noted.scopes ∙ ap length kept.scopes in
    let place : HasPlace (note m.state rules).forms owned =
    subst (λ (f : Forms). HasPlace f owned) (sym (note_forms m.state rules))
    (owned_place m.state.forms in_program m.t (made_placed false s view t a.six (fine.placed, tt))) in
    let before : Counted all (note m.state rules) =
    still all (note_same m.state rules) (kept_names noted) (still all (made_same false s view t) (kept_names kept) h) in
    vars_counted all bound next vs (has_around 0 [] walked a) b
    (vars_fine in_program all bound s 0 [] (more_vars (var_item xs t) no_vars) a next_later fine)
    (var_names_counted all (note m.state rules) owned xs (omega (arith, size, a.own)) place later before)

-- ## Subs, modules and processes

no_sub : (all : Forms) (whole : Bool) (n : ℕ) → brings all (sub_meaning whole n) ≡ 0
no_sub all true n = refl
no_sub all false n = refl

apart : (n : ℕ) → 0 < n → 0 ≢ n
apart n h e = omega (arith, h, e)

opened_names : {s t : State} {k : ℕ} → 0 < length s.blocks.scopes → Opened s t k → scope_at t.blocks.scopes 0 ≡ scope_at s.blocks.scopes 0
opened_names some o = o.others 0 some

walked_names : {i : ℕ} {s t : State} {k : ℕ} {P : Names → ℕ → ℕ} → 0 < length s.blocks.scopes → 0 < i → Walked i s t k P
    → scope_at t.blocks.scopes 0 ≡ scope_at s.blocks.scopes 0
walked_names {i} some above w = w.others 0 some (apart i above)

sub_headed_counted : (all : Forms) (s : State) (x : Text × Place) (gs : _) (kind : _) → 0 < length s.blocks.scopes → Counted all s
    → Counted all (sub_headed s 0 [] x gs kind)
sub_headed_counted all s x gs kind some h =
    let own = length s.blocks.scopes in
    let around = here s.blocks.scopes 0 [] in
    let k = heading (open_scope s) own around gs in
    let view = here k.state.blocks.scopes own around in
    let sort = sort_of k.state view kind in
    let head : SubHead = record { formals = k.formals; sort = sort; scope = own; exported = false } in
    let opened = heading_opened s around gs in
    let ruled = note k.state (broken_sort k.state view kind) in
    let noted = note_kept k.state (broken_sort k.state view kind) in
    let size : length ruled.blocks.scopes ≡ length k.state.blocks.scopes = ap length noted.scopes in
    let count = opened.count in
    let heads : Same s k.state = groups_same own around (record { state = open_scope s; formals = []; whole = true }) gs ⊳ open_same s in
    let added : Same ruled (add_sub ruled head) = record { population = refl; clean = λ e. e } in
    declare_counted all (add_sub ruled head) x (sub_meaning (k.whole && whole_sort sort) (length s.blocks.subs)) (omega (arith, size, count, some))
    (no_sub all (k.whole && whole_sort sort) (length s.blocks.subs))
    (still all added refl (still all (note_same k.state (broken_sort k.state view kind)) (kept_names noted) (still all heads (opened_names some opened) h)))

sub_counted : (all : Forms) (s : State) (b : SubTree) → IsLawfulSub of_program (forget_sub b) → 0 < length s.blocks.scopes → Counted all s
    → Counted all (sub_state s 0 [] b)
sub_counted all s (sub x gs kind ps b p) lawful some h =
    let own = length s.blocks.scopes in
    let headed = sub_headed s 0 [] (x, p) gs kind in
    let around = here headed.blocks.scopes 0 [] in
    let declared = parts_state elsewhere headed own around ps in
    let view = here declared.blocks.scopes own around in
    let done = body_state declared view b in
    let rule = cells_rule (scope_cells done.forms (scope_at done.blocks.scopes own) + result_cells kind) p in
    let first = sub_headed_walked s 0 [] (x, p) gs kind some in
    let count : length headed.blocks.scopes ≡ length s.blocks.scopes + 1 = first.count in
    let inner = parts_walked elsewhere headed own around ps (omega (arith, count)) in
    let inner_count : length declared.blocks.scopes ≡ length headed.blocks.scopes + parts_scopes ps = inner.count in
    still all (note_same done rule) (kept_names (note_kept done rule))
    (still all (body_same declared view b) (opened_names (omega (arith, inner_count, count)) (body_opened declared view b))
    (still all (parts_same of_other elsewhere headed own around ps refl (λ e. e) lawful.2) (walked_names (omega (arith, count)) some inner)
    (sub_headed_counted all s (x, p) gs kind some h)))

shares_none : (is_resource : Bool) → may_share (module_owner is_resource) ≡ false
shares_none true = refl
shares_none false = refl

module_counted : (is_resource : Bool) (home : Home) (all : Forms) (s : State) (m : ModuleTree) → (HoldsModules home → ⊥) → IsLawfulModule home (forget_module m)
    → 0 < length s.blocks.scopes → Counted all s → Counted all (module_state is_resource s 0 [] m)
module_counted is_resource home all s (the_module x exports ps body last p) apart_home lawful some h =
    let own = length s.blocks.scopes in
    let around = here s.blocks.scopes 0 [] in
    let owner = module_owner is_resource in
    let declared = parts_state owner (open_scope s) own around ps in
    let view = here declared.blocks.scopes own around in
    let inits = init_state declared view body in
    let t = exports_state inits own exports in
    let head : ModuleHead = record { scope = own; resource = is_resource } in
    let more = length-append s.blocks.scopes ([] ∷ []) in
    let inner = parts_walked owner (open_scope s) own around ps (omega (arith, more)) in
    let begun_inits = init_opened declared view body in
    let kept = exports_kept inits own exports in
    let inner_count : length declared.blocks.scopes ≡ length (open_scope s).blocks.scopes + parts_scopes ps = inner.count in
    let inits_count = begun_inits.count in
    let same_count : length t.blocks.scopes ≡ length inits.blocks.scopes = ap length kept.scopes in
    let added : Same t (add_module t head) = record { population = refl; clean = λ e. e } in
    declare_counted all (add_module t head) (x, p) (Module (length inits.blocks.modules)) (omega (arith, same_count, inits_count, inner_count, more)) refl
    (still all added refl
    (still all (exports_same inits own exports) (kept_names kept)
    (still all (init_same declared view body) (opened_names (omega (arith, inner_count, more)) begun_inits)
    (still all (parts_same home owner (open_scope s) own around ps (shares_none is_resource) apart_home lawful.1)
    (walked_names (omega (arith, more)) some inner)
    (still all (open_same s) ((open_opened s).others 0 some) h)))))

process_named_counted : (all : Forms) (s : State) (many whole : Bool) (x : Text × Place) (n : ℕ) → 0 < length s.blocks.scopes → Counted all s
    → Counted all (process_named s 0 many whole x n)
process_named_counted all s many false x n some h = declare_counted all s x Faulty some refl h
process_named_counted all s true true x n some h =
    let added : Same s (add_form s (AProcess n)) = record { population = refl; clean = λ e. e } in
    declare_counted all (add_form s (AProcess n)) x (Named (record { place = length s.forms })) some refl (still all added refl h)
process_named_counted all s false true x n some h = by (is_some (meaning_in (scope_at s.blocks.scopes 0) x.0))
  where
    by : (r : Bool) → Counted all (if r then declare s 0 x Faulty else populated s 0 1 x (Process n))
    by true = declare_counted all s x Faulty some refl h
    by false = populated_counted all s 1 x (Process n) some refl h

process_counted : (all : Forms) (s : State) (q : ProcessTree) → IsLawfulProcess (forget_process q) → 0 < length s.blocks.scopes → Counted all s
    → Counted all (process_state s 0 [] q)
process_counted all s (process many x gs es ps b p) lawful some h =
    let own = length s.blocks.scopes in
    let before_names = here s.blocks.scopes 0 [] in
    let k = heading (open_scope s) own before_names gs in
    let head : ProcessHead = record { formals = k.formals; entries = length s.blocks.entries; scope = own } in
    let opened = heading_opened s before_names gs in
    let count = opened.count in
    let heads : Same s k.state = groups_same own before_names (record { state = open_scope s; formals = []; whole = true }) gs ⊳ open_same s in
    let added : Same k.state (add_process k.state head) = record { population = refl; clean = λ e. e } in
    let named = process_named_counted all (add_process k.state head) many k.whole (x, p) (length s.blocks.processes) (omega (arith, count))
    (still all added refl (still all heads (opened_names some opened) h)) in
    let headed = process_headed s 0 [] many (x, p) gs in
    let around = here headed.blocks.scopes 0 [] in
    let entered = entries_state headed own around 0 es in
    let declared = parts_state elsewhere entered own around ps in
    let view = here declared.blocks.scopes own around in
    let done = body_state declared view b in
    let rule = cells_rule (process_cells done own (length declared.blocks.scopes)) p in
    let first = process_headed_walked s 0 [] many (x, p) gs some in
    let first_count : length headed.blocks.scopes ≡ length s.blocks.scopes + 1 = first.count in
    let second = entries_walked headed own around 0 es (omega (arith, first_count)) in
    let second_count : length entered.blocks.scopes ≡ length headed.blocks.scopes + 0 = second.count in
    let inner = parts_walked elsewhere entered own around ps (omega (arith, second_count, first_count)) in
    let inner_count : length declared.blocks.scopes ≡ length entered.blocks.scopes + parts_scopes ps = inner.count in
    still all (note_same done rule) (kept_names (note_kept done rule))
    (still all (body_same declared view b) (opened_names (omega (arith, inner_count, second_count, first_count)) (body_opened declared view b))
    (still all (parts_same of_other elsewhere entered own around ps refl (λ e. e) lawful.2) (walked_names (omega (arith, second_count, first_count)) some inner)
    (still all (entries_same headed own around 0 es) (walked_names (omega (arith, first_count)) some second) named)))

-- ## The program

part_counted : (all : Forms) (bound : ℕ) (s : State) (q : PartTree) → IsLawfulPart of_program (forget_part q) → 6 ≤ length s.forms → 0 < length s.blocks.scopes
    → Begins (part_state in_program s 0 [] q).forms all → IsFine in_program all bound s 0 → Counted all s → Counted all (part_state in_program s 0 [] q)
part_counted all bound s (consts items) lawful six some b fine h = consts_counted all s items some h
part_counted all bound s (types items) lawful six some b fine h = types_counted all s items some h
part_counted all bound s (vars vs) lawful six some b fine h = vars_counted all bound s vs (around_program s six some) b fine h
part_counted all bound s (sub_part q) lawful six some b fine h = sub_counted all s q lawful some h
part_counted all bound s (monitor m) lawful six some b fine h = module_counted false of_other all s m (λ e. e) lawful.1 some h
part_counted all bound s (resource m) lawful six some b fine h = module_counted true of_resource all s m (λ e. e) lawful.1 some h
part_counted all bound s (process_part q) lawful six some b fine h = process_counted all s q lawful.1 some h

parts_counted : (all : Forms) (s : State) (qs : PartTrees) → AreLawfulParts of_program (forget_parts qs) → 6 ≤ length s.forms → 0 < length s.blocks.scopes
    → Begins (parts_state in_program s 0 [] qs).forms all → IsFine in_program all (length s.blocks.modules) s 0 → Counted all s
    → Counted all (parts_state in_program s 0 [] qs)
parts_counted all s no_parts lawful six some b fine h = h
parts_counted all s (more_parts q qs) lawful six some b fine h =
    let one = part_state in_program s 0 [] q in
    let walked = part_walked in_program s 0 [] q some in
    let count : length one.blocks.scopes ≡ length s.blocks.scopes + part_scopes q = walked.count in
    let rest = parts_walked in_program one 0 [] qs (omega (arith, count, some)) in
    let later : Begins one.forms all = begins_trans one.forms (parts_state in_program one 0 [] qs).forms all rest.forms b in
    parts_counted all one qs lawful.1 (let grown = begins_length s.forms one.forms walked.forms in omega (arith, grown, six)) (omega (arith, count, some)) b
    (part_fine all s q lawful.0 six some later fine)
    (part_counted all (length s.blocks.modules) s q lawful.0 six some later fine h)

-- the processes of a lawful program
pub program_counted : (t : ProgramTree) → IsLawful (forget_program t) → Counted (finished t).forms (finished t)
program_counted t lawful =
    let s = declared_parts t in
    let view = here s.blocks.scopes 0 [] in
    let done = declared_all t in
    let rule = cells_rule (main_cells done) t.name.1 in
    let opened = body_opened s view t.body in
    let kept = note_kept done rule in
    let walked = parts_walked in_program begun 0 [] t.parts (omega arith) in
    let count : length s.blocks.scopes ≡ 1 + parts_scopes t.parts = walked.count in
    let later : Begins s.forms (finished t).forms = begins_trans s.forms done.forms (finished t).forms opened.forms kept.forms in
    still (finished t).forms (note_same done rule) (kept_names kept)
    (still (finished t).forms (body_same s view t.body) (opened_names (omega (arith, count)) opened)
    (parts_counted (finished t).forms begun t.parts lawful.0 (omega arith) (omega arith) later (begun_fine (finished t).forms)
    (λ e. record { population = refl; most = omega arith })))
