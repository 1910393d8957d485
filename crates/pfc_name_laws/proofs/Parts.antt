-- Declarations are made of steps: headings, the parts of blocks, and the whole program.
use Rattle.std.proofs.Common.{◌≡◌, ℕ, ◌+◌, ◌<◌, ◌≤◌, Bool, true, false, not, ◌&&◌, if◌then◌else◌, is_some, List, [], ◌∷◌, ◌++◌, length, length-append, get_or}
use Rattle.std.proofs.Common.{map, Option, Some, None, refl, ap, sym, ◌∙◌, subst, arith}
use Rattle.std.proofs.Math.Seq.{get_or-append_seam}
use Rattle.std.proofs.lemmas.List.{append-nil}
use Rattle.pfc_base.specs.declared.places.Place.{Place}
use Rattle.pfc_tree.specs.Symbols.{Text}
use Rattle.pfc_tree.specs.trees.Types.{GroupTree}
use Rattle.pfc_tree.specs.trees.Parts.{KindTree, procedure, function, guarded, EntryTree, PartTree, PartTrees, SubTree, ModuleTree, ProcessTree, ProgramTree}
use Rattle.pfc_tree.specs.trees.Parts.{consts, types, vars, sub_part, monitor, resource, process_part, no_parts, more_parts, sub, the_module, process}
use Rattle.pfc_types.specs.Faults.{unless}
use Rattle.pfc_types.specs.Types.{is_simple}
use Rattle.pfc_types.specs.Scopes.{Names, Level, scope_at, here, meaning_in, look}
use Rattle.pfc_types.specs.Blocks.{Blocks, State, no_process, process_at, note, declare, add_form, add_sub, add_module, add_process, add_entry, sub_at}
use Rattle.pfc_types.specs.Blocks.{export_sub, open_scope}
use Rattle.pfc_types.specs.declared.types.TypeId.{TypeId}
use Rattle.pfc_types.specs.declared.types.TypeForm.TheVariants.{Process as AProcess}
use Rattle.pfc_types.specs.declared.heads.SubHead.{SubHead}
use Rattle.pfc_types.specs.declared.heads.SubSort.{SubSort}
use Rattle.pfc_types.specs.declared.heads.SubSort.TheVariants.{Procedure, Guarded, Function}
use Rattle.pfc_types.specs.declared.heads.ModuleHead.{ModuleHead}
use Rattle.pfc_types.specs.declared.heads.ProcessHead.{ProcessHead}
use Rattle.pfc_types.specs.declared.scope.Meaning.{Meaning}
use Rattle.pfc_types.specs.declared.scope.Meaning.TheVariants.{Constant as AConstant, Named, Variable, Sub, Module, Process, Entry, Predeclared, Faulty}
use Rattle.pfc_types.specs.rules.Declarations.{Owner, in_program, elsewhere, Heading, heading, group_type, broken_group, EntryHeading, entry_formal}
use Rattle.pfc_types.specs.rules.Declarations.{entry_formals, entry_group, entry_groups, entry_meaning, entries_state, may_export, export_state, export_list}
use Rattle.pfc_types.specs.rules.Declarations.{exports_state, populated, process_named, process_headed, process_cells, body_state, init_state, broken_sort}
use Rattle.pfc_types.specs.rules.Declarations.{sort_of, result_type, whole_sort, sub_meaning, sub_headed, module_owner, module_closed, cells_rule, scope_cells}
use Rattle.pfc_types.specs.rules.Declarations.{result_cells, part_state, parts_state, sub_state, module_state, process_state}
use Rattle.pfc_types.specs.rules.Whole.{begun, declared_parts, declared_all, main_cells, finished}
use Rattle.pfc_name_laws.specs.Reached.{HasEntry, IsNumbered, formal_meaning, meanings_of, IsHeading, GivesSimple, is_function, IsSubHeading, IsNextProcess}
use Rattle.pfc_name_laws.specs.Reached.{Reached, at_begin, a_sub, exported, a_module, a_process, an_entry}
use Rattle.pfc_name_laws.proofs.Numbers.{get_or-beyond, numbered, no_faulty}
use Rattle.pfc_name_laws.proofs.Unused.{clash, clean_list}
use Rattle.pfc_types.proofs.Clean.{clean}
use Rattle.pfc_types.specs.Growing.{Begins}
use Rattle.pfc_types.proofs.Prefixes.{begins_same, begins_push, begins_trans}
use Rattle.pfc_types.proofs.FaultyConstants.{named_type_exact}
use Rattle.pfc_types.specs.rules.FaultyNames.{all_typed, stands_faulty}
use Rattle.pfc_types.specs.rules.Kinds.{where_so, may_be_simple, type_name_rules, named_type}
use Rattle.pfc_name_laws.proofs.Steps.{Stepped, Plain, stepped_then, same, ◌⊳◌, note_clean, note_scopes, note_plain, never_noted, open_plain, declare_plain}
use Rattle.pfc_name_laws.proofs.Steps.{repeated_plain, form_plain, consts_plain, types_plain, populated_plain, vars_plain, AreFormals, both_true, typed_more}
use Rattle.pfc_name_laws.proofs.Steps.{some_type, groups_plain, group_known, body_plain, init_plain}

-- ## Steps with headings

pub record Grown (s t : State) : Type 0 where
  pub reached : Reached t
  pub count : length s.blocks.scopes ≤ length t.blocks.scopes
  pub clean : t.blocks.noted ≡ [] → s.blocks.noted ≡ []
  -- headings are added behind the others
  pub processes : Begins s.blocks.processes t.blocks.processes
  pub entries : Begins s.blocks.entries t.blocks.entries

begins_equal : {X : Type 0} (xs ys : List X) → ys ≡ xs → Begins xs ys
begins_equal xs ys e = subst (λ l. Begins xs l) (sym e) (begins_same xs)

still_grown : {s : State} → Reached s → Grown s s
still_grown {s} r =
    record { reached = r; count = omega arith; clean = λ e. e; processes = begins_same s.blocks.processes; entries = begins_same s.blocks.entries }

-- the later behind the earlier
grown_then : {s t u : State} → Grown s t → Grown t u → Grown s u
grown_then {s} {t} {u} p q =
    record {
      reached = q.reached;
      count = omega (arith, q.count, p.count);
      clean = λ e. p.clean (q.clean e);
      processes = begins_trans s.blocks.processes t.blocks.processes u.blocks.processes p.processes q.processes;
      entries = begins_trans s.blocks.entries t.blocks.entries u.blocks.entries p.entries q.entries;
    }

grown : {s t : State} → Stepped s t → Grown s t
grown {s} {t} p =
    record {
      reached = p.reached;
      count = p.count;
      clean = p.clean;
      processes = begins_equal s.blocks.processes t.blocks.processes p.processes;
      entries = begins_equal s.blocks.entries t.blocks.entries p.entries;
    }

-- no process and no entry is added
same_headings : (s t : State) → Reached t → length s.blocks.scopes ≤ length t.blocks.scopes → (t.blocks.noted ≡ [] → s.blocks.noted ≡ [])
    → t.blocks.processes ≡ s.blocks.processes → t.blocks.entries ≡ s.blocks.entries → Grown s t
same_headings s t reached count clean processes entries =
    record {
      reached = reached;
      count = count;
      clean = clean;
      processes = begins_equal s.blocks.processes t.blocks.processes processes;
      entries = begins_equal s.blocks.entries t.blocks.entries entries;
    }

-- ## Subs

-- a function's result has a type, unless a rule is noted
sort_known :
    (s : State) (v : List Level) (kind : KindTree) → Reached s → (note s (broken_sort s v kind)).blocks.noted ≡ [] → whole_sort (sort_of s v kind) ≡ true
sort_known s v procedure r q = refl
sort_known s v (guarded e p) r q = refl
sort_known s v (function x p) r q =
    let two = note_clean s (broken_sort s v (function x p)) q in
    by (named_type false (look s.blocks.scopes v x)) refl (clean_list (broken_sort s v (function x p)) two.1) (no_faulty s (numbered s r) two.0 v x)
  where
    m : Option Meaning
    m = look s.blocks.scopes v x

    simple : (t : TypeId) (b : Bool) → is_simple t ≡ b → (clean (type_name_rules false m p) && clean (unless b p 323)) ≡ true
        → is_some (where_so b t) ≡ true
    simple t true e h = refl
    simple t false e h = absurd (clean_both (clean (type_name_rules false m p)) h)
      where
        clean_both : (a : Bool) → (a && false) ≡ true → ⊥
        clean_both true h = cc
        clean_both false h = cc

    left : (a b : Bool) → (a && b) ≡ true → a ≡ true
    left true b h = refl
    left false b h = absurd (cc)

    by : (t : Option TypeId) → named_type false m ≡ t
        → (clean (type_name_rules false m p) && clean (unless (may_be_simple (named_type false m)) p 323)) ≡ true → stands_faulty m ≡ false
        → is_some (result_type (named_type false m)) ≡ true
    by None e h f =
        absurd (clash (is_some (named_type false m)) (clean (type_name_rules false m p)) (stands_faulty m) (named_type_exact false m p)
        (ap (λ (o : Option TypeId). is_some o) e) (left (clean (type_name_rules false m p)) _ h) f)
    by (Some t) e h f =
        subst (λ (o : Option TypeId). is_some (result_type o) ≡ true) (sym e)
        (simple t (is_simple t) refl
        (subst (λ (o : Option TypeId). (clean (type_name_rules false m p) && clean (unless (may_be_simple o) p 323)) ≡ true) e h))

sub_is : (b : Blocks) (i n : ℕ) (whole : Bool) → n < length b.subs → (b.noted ≡ [] → whole ≡ true) → IsNumbered b i (sub_meaning whole n)
sub_is b i n true below h = below
sub_is b i n false below h = λ q. let e = h q in cc

result_gives : (o : Option TypeId) → is_some (result_type o) ≡ true → GivesSimple (Function (result_type o))
result_gives None h = absurd (cc)
result_gives (Some t) h = by (is_simple t) refl h
  where
    by : (b : Bool) → is_simple t ≡ b → is_some (where_so b t) ≡ true → (u : TypeId) × (where_so b t ≡ Some u) × (is_simple u ≡ true)
    by true e h = (t, refl, e)
    by false e h = absurd (cc)

sort_gives : (s : State) (v : List Level) (kind : KindTree) → whole_sort (sort_of s v kind) ≡ true → GivesSimple (sort_of s v kind)
sort_gives s v procedure h = tt
sort_gives s v (guarded e p) h = tt
sort_gives s v (function x p) h = result_gives (named_type false (look s.blocks.scopes v x)) h

-- a heading whose parameters were declared in its own scope
heading_is :
    (h : Heading) (b : Blocks) (own : ℕ) → b.scopes ≡ h.state.blocks.scopes → (b.noted ≡ [] → h.state.blocks.noted ≡ []) → own < length b.scopes
    → (h.state.blocks.noted ≡ [] → all_typed h.formals ≡ true)
    → (h.state.blocks.noted ≡ [] → AreFormals (scope_at h.state.blocks.scopes own) h.formals) → IsHeading b own h.formals
heading_is h b own same_scopes clean opened typed names =
    record {
      opened = opened;
      typed = λ q. typed (clean q);
      first = λ q. record {
        more = [];
        splits = ap (λ (l : List Names). meanings_of (scope_at l own)) same_scopes ∙ names (clean q) ∙ sym (append-nil (map formal_meaning h.formals));
      };
    }

-- a scope that is opened is empty
pub opened_empty : (s : State) → AreFormals (scope_at (open_scope s).blocks.scopes (length s.blocks.scopes)) []
opened_empty s = ap meanings_of (get_or-append_seam s.blocks.scopes [] [] [])

sub_headed_grown :
    (s : State) (i : ℕ) (outer : List Level) (x : Text × Place) (gs : List GroupTree) (kind : KindTree) → Reached s → i < length s.blocks.scopes
    → Grown s (sub_headed s i outer x gs kind) × (length s.blocks.scopes < length (sub_headed s i outer x gs kind).blocks.scopes)
sub_headed_grown s i outer x gs kind r below =
    let own = length s.blocks.scopes in
    let around = here s.blocks.scopes i outer in
    let begin : Heading = record { state = open_scope s; formals = []; whole = true } in
    let h = heading (open_scope s) own around gs in
    let view = here h.state.blocks.scopes own around in
    let sort = sort_of h.state view kind in
    let head : SubHead = record { formals = h.formals; sort = sort; scope = own; exported = false } in
    let ruled = note h.state (broken_sort h.state view kind) in
    let more = length-append s.blocks.scopes ([] ∷ []) in
    let start = open_plain s r in
    let formals = groups_plain own around begin gs (omega (arith, more)) start.reached in
    let noted_then = note_plain h.state (broken_sort h.state view kind) formals.steps.reached in
    let inner = stepped_then formals.steps noted_then in
    let first = stepped_then start inner in
    let c = inner.count in
    let d = first.count in
    let whole : ruled.blocks.noted ≡ [] → whole_sort sort ≡ true = λ q. sort_known h.state view kind formals.steps.reached q in
    let is : IsSubHeading ruled.blocks head =
    record {
      heading = heading_is h ruled.blocks own (note_scopes h.state (broken_sort h.state view kind)) (λ q. noted_then.clean q) (omega (arith, c, more))
          (λ q. formals.typed q refl) (λ q. formals.names q (opened_empty s));
      gives = λ q. sort_gives h.state view kind (whole q);
      exported = λ e. absurd (cc);
    } in
    let added : Grown ruled (add_sub ruled head) = same_headings ruled (add_sub ruled head) (a_sub head first.reached is) (omega arith) (λ e. e) refl refl in
    let named = declare_plain (add_sub ruled head) i x (sub_meaning (h.whole && whole_sort sort) (length s.blocks.subs)) (omega (arith, d, below))
    (sub_is (add_sub ruled head).blocks i (length s.blocks.subs) (h.whole && whole_sort sort)
    (let e = ap length first.subs in let l = length-append ruled.blocks.subs (head ∷ []) in omega (arith, e, l))
    (λ q. both_true h.whole (whole_sort sort) (formals.whole (λ z. refl) (noted_then.clean q)) (whole q))) added.reached in
    let f = named.count in
    (grown_then (grown first) (grown_then added (grown named)), omega (arith, c, f, more))

-- ## Exports and modules

-- nothing but subs are changed
record Exports (s t : State) : Type 0 where
  reached : Reached t
  modules : t.blocks.modules ≡ s.blocks.modules
  processes : t.blocks.processes ≡ s.blocks.processes
  entries : t.blocks.entries ≡ s.blocks.entries
  count : length s.blocks.scopes ≤ length t.blocks.scopes
  clean : t.blocks.noted ≡ [] → s.blocks.noted ≡ []

plain_exports : {s t : State} → Stepped s t → Exports s t
plain_exports p =
    record { reached = p.reached; modules = p.modules; processes = p.processes; entries = p.entries; count = p.count; clean = p.clean }

-- what may be exported is no function
may_plain : (head : SubHead) → may_export head ≡ true → is_function head.sort ≡ false
may_plain head = by head.sort
  where
    none : (a : Bool) → (not a && false) ≡ true → ⊥
    none true h = cc
    none false h = cc

    by : (sort : SubSort) → may_export (record head { sort = sort }) ≡ true → is_function sort ≡ false
    by Procedure h = refl
    by Guarded h = refl
    by (Function t) h = absurd (none head.exported h)

export_exports : (s : State) (m : Option Meaning) (p : Place) → Reached s → Exports s (export_state s m p)
export_exports s None p r = plain_exports (note_plain s (unless false p 409) r)
export_exports s (Some (AConstant t v)) p r = plain_exports (note_plain s (unless false p 409) r)
export_exports s (Some (Named t)) p r = plain_exports (note_plain s (unless false p 409) r)
export_exports s (Some (Variable t k)) p r = plain_exports (note_plain s (unless false p 409) r)
export_exports s (Some (Sub n)) p r = by (may_export (sub_at s.blocks n)) refl
  where
    by : (b : Bool) → may_export (sub_at s.blocks n) ≡ b → Exports s (if b then export_sub s n else note s (unless false p 409))
    by true e =
        record {
          reached = exported n r (may_plain (sub_at s.blocks n) e);
          modules = refl;
          processes = refl;
          entries = refl;
          count = omega arith;
          clean = λ e. e;
        }
    by false e = plain_exports (note_plain s (unless false p 409) r)
export_exports s (Some (Module n)) p r = plain_exports (note_plain s (unless false p 409) r)
export_exports s (Some (Process n)) p r = plain_exports (note_plain s (unless false p 409) r)
export_exports s (Some (Entry n)) p r = plain_exports (note_plain s (unless false p 409) r)
export_exports s (Some (Predeclared k)) p r = plain_exports (note_plain s (unless false p 409) r)
export_exports s (Some Faulty) p r = plain_exports (same r)

exports_then : {s t u : State} → Exports s t → Exports t u → Exports s u
exports_then p q =
    record {
      reached = q.reached;
      modules = q.modules ∙ p.modules;
      processes = q.processes ∙ p.processes;
      entries = q.entries ∙ p.entries;
      count = omega (arith, q.count, p.count);
      clean = λ e. p.clean (q.clean e);
    }

list_exports : (s : State) (i : ℕ) (xs : List (Text × Place)) → Reached s → Exports s (export_list s i xs)
list_exports s i [] r = plain_exports (same r)
list_exports s i (x ∷ xs) r =
    let m = meaning_in (scope_at s.blocks.scopes i) x.0 in
    let step = export_exports s m x.1 r in
    exports_then step (list_exports (export_state s m x.1) i xs step.reached)

all_exports : (s : State) (i : ℕ) (lists : List (List (Text × Place))) → Reached s → Exports s (exports_state s i lists)
all_exports s i [] r = plain_exports (same r)
all_exports s i (xs ∷ lists) r = let step = list_exports s i xs r in exports_then step (all_exports (export_list s i xs) i lists step.reached)

module_closed_grown :
    (is_resource : Bool) (s : State) (i own : ℕ) (x : Text × Place) (exports : List (List (Text × Place))) → Reached s → i < length s.blocks.scopes
    → own < length s.blocks.scopes → Grown s (module_closed is_resource s i own x exports)
module_closed_grown is_resource s i own x exports r below inside =
    let t = exports_state s own exports in
    let head : ModuleHead = record { scope = own; resource = is_resource } in
    let first = all_exports s own exports r in
    let c = first.count in
    let added : Grown t (add_module t head) =
    same_headings t (add_module t head) (a_module head first.reached (omega (arith, c, inside))) (omega arith) (λ e. e) refl refl in
    let named = declare_plain (add_module t head) i x (Module (length s.blocks.modules)) (omega (arith, c, below))
    (let e = ap length first.modules in let l = length-append t.blocks.modules (head ∷ []) in omega (arith, e, l)) added.reached in
    grown_then (same_headings s t first.reached first.count first.clean first.processes first.entries) (grown_then added (grown named))

-- ## Processes

process_named_plain :
    (s : State) (i : ℕ) (many whole : Bool) (x : Text × Place) (n : ℕ) → i < length s.blocks.scopes → n < length s.blocks.processes
    → (s.blocks.noted ≡ [] → whole ≡ true) → Plain s (process_named s i many whole x n)
process_named_plain s i many false x n below is fine r = declare_plain s i x Faulty below (λ q. let e = fine q in cc) r
process_named_plain s i true true x n below is fine r =
    (declare_plain (add_form s (AProcess n)) i x (Named (record { place = length s.forms })) below tt ⊳ form_plain s (AProcess n) refl is) r
process_named_plain s i false true x n below is fine r = by (is_some (meaning_in (scope_at s.blocks.scopes i) x.0)) refl
  where
    by : (q : Bool) → is_some (meaning_in (scope_at s.blocks.scopes i) x.0) ≡ q
        → Stepped s (if q then declare s i x Faulty else populated s i 1 x (Process n))
    by true e = repeated_plain s i x Faulty e r
    by false e = populated_plain s i 1 x (Process n) below is r

-- the last process so far has this scope and so many entries
pub record IsLast (b : Blocks) (own k : ℕ) : Type 0 where
  pub before : ℕ
  pub all : length b.processes ≡ before + 1
  pub scope : (process_at b before).scope ≡ own
  pub entries : (process_at b before).entries + k ≡ length b.entries

last_still : (b c : Blocks) (own k : ℕ) → c.processes ≡ b.processes → c.entries ≡ b.entries → IsLast b own k → IsLast c own k
last_still b c own k processes entries h =
    record {
      before = h.before;
      all = ap length processes ∙ h.all;
      scope = ap (λ (l : List ProcessHead). (get_or l h.before no_process).scope) processes ∙ h.scope;
      entries =
          ap (λ (l : List ProcessHead). (get_or l h.before no_process).entries + k) processes
          ∙ h.entries ∙ sym (ap length entries);
    }

last_has : (b : Blocks) (own k : ℕ) → IsLast b own (k + 1) → HasEntry b own k
last_has b own k h =
    let none : ProcessHead = record no_process { entries = length b.entries } in
    let all = h.all in
    let end : (get_or b.processes (h.before + 1) none).entries ≡ length b.entries =
    ap (λ (x : ProcessHead). x.entries) (get_or-beyond b.processes (h.before + 1) none (omega (arith, all))) in
    let e = h.entries in
    record { process = h.before; is = omega (arith, all); scope = h.scope; entry = omega (arith, end, e) }

-- a process up to the end of its heading
pub process_headed_grown :
    (s : State) (i : ℕ) (outer : List Level) (many : Bool) (x : Text × Place) (gs : List GroupTree) → Reached s → i < length s.blocks.scopes
    → Grown s (process_headed s i outer many x gs) × IsLast (process_headed s i outer many x gs).blocks (length s.blocks.scopes) 0
    × (length s.blocks.scopes < length (process_headed s i outer many x gs).blocks.scopes)
process_headed_grown s i outer many x gs r below =
    let own = length s.blocks.scopes in
    let around = here s.blocks.scopes i outer in
    let begin : Heading = record { state = open_scope s; formals = []; whole = true } in
    let h = heading (open_scope s) own around gs in
    let head : ProcessHead = record { formals = h.formals; entries = length s.blocks.entries; scope = own } in
    let more = length-append s.blocks.scopes ([] ∷ []) in
    let start = open_plain s r in
    let formals = groups_plain own around begin gs (omega (arith, more)) start.reached in
    let inner = formals.steps in
    let first = stepped_then start inner in
    let c = inner.count in
    let before = numbered s r in
    let next : IsNextProcess h.state.blocks head =
    record {
      heading = heading_is h h.state.blocks own refl (λ q. q) (omega (arith, c, more)) (λ q. formals.typed q refl)
          (λ q. formals.names q (opened_empty s));
      own = omega (arith, below);
      behind = λ n inside.
          let e = ap length first.processes in
          let old = before.processes n (omega (arith, e, inside)) in
          let is : (process_at h.state.blocks n).scope ≡ (process_at s.blocks n).scope =
          ap (λ (l : List ProcessHead). (get_or l n no_process).scope) first.processes in
          omega (arith, old, is);
      entries = sym (ap length first.entries);
    } in
    let t = add_process h.state head in
    let added : Grown h.state t =
    record {
      reached = a_process head first.reached next;
      count = omega arith;
      clean = λ e. e;
      processes = begins_push h.state.blocks.processes (head ∷ []);
      entries = begins_same h.state.blocks.entries;
    } in
    let all : length t.blocks.processes ≡ length s.blocks.processes + 1 =
    length-append h.state.blocks.processes (head ∷ []) ∙ ap (λ n. n + 1) (ap length first.processes) in
    let named = process_named_plain t i many h.whole x (length s.blocks.processes) (omega (arith, c, more, below)) (omega (arith, all))
    (formals.whole (λ z. refl)) added.reached in
    let at : process_at t.blocks (length s.blocks.processes) ≡ head =
    subst (λ n. get_or (h.state.blocks.processes ++ head ∷ []) n no_process ≡ head) (ap length first.processes)
    (get_or-append_seam h.state.blocks.processes head [] no_process) in
    let last : IsLast t.blocks own 0 =
    record {
      before = length s.blocks.processes;
      all = all;
      scope = ap (λ (y : ProcessHead). y.scope) at;
      entries = let e = ap (λ (y : ProcessHead). y.entries) at in let f = ap length first.entries in omega (arith, e, f);
    } in (
      grown_then (grown first) (grown_then added (grown named)),
      last_still t.blocks (process_headed s i outer many x gs).blocks own 0 named.processes named.entries last,
      let d = named.count in omega (arith, c, d, more),
    )

-- ## Entries

record EntryHeaded (h k : EntryHeading) : Type 0 where
  steps : Stepped h.state k.state
  whole : (h.state.blocks.noted ≡ [] → h.whole ≡ true) → k.state.blocks.noted ≡ [] → k.whole ≡ true
  typed : k.state.blocks.noted ≡ [] → all_typed h.formals ≡ true → all_typed k.formals ≡ true

entry_then : {h k l : EntryHeading} → EntryHeaded h k → EntryHeaded k l → EntryHeaded h l
entry_then p q =
    record {
      steps = stepped_then p.steps q.steps;
      whole = λ w. q.whole (p.whole w);
      typed = λ e w. q.typed e (p.typed (q.steps.clean e) w);
    }

fresh_noted : (s : State) (b : Bool) (p : Place) → (note s (unless b p 302)).blocks.noted ≡ [] → b ≡ true
fresh_noted s true p q = refl
fresh_noted s false p q = absurd (never_noted s p 302 q)

entry_formals_plain :
    (reference : Bool) (t : Option TypeId) (h : EntryHeading) (xs : List (Text × Place)) → Reached h.state
    → (h.state.blocks.noted ≡ [] → t ≡ None → ⊥) → EntryHeaded h (entry_formals reference t h xs)
entry_formals_plain reference t h [] r is = record { steps = same r; whole = λ w. w; typed = λ e w. w }
entry_formals_plain reference t h (x ∷ xs) r is =
    let fresh = not (is_some (meaning_in h.own x.0)) in
    let step = note_plain h.state (unless fresh x.1 302) r in
    let one_more : EntryHeaded h (entry_formal reference t h x) =
    record {
      steps = step;
      whole = λ w q. both_true h.whole fresh (w (step.clean q)) (fresh_noted h.state fresh x.1 q);
      typed = λ q w. typed_more h.formals (record { t = t; reference = reference }) w (some_type t (is (step.clean q)));
    } in
    entry_then one_more (entry_formals_plain reference t (entry_formal reference t h x) xs step.reached (λ q e. is (step.clean q) e))

entry_groups_plain : (view : List Level) (h : EntryHeading) (gs : List GroupTree) → Reached h.state → EntryHeaded h (entry_groups view h gs)
entry_groups_plain view h [] r = record { steps = same r; whole = λ w. w; typed = λ e w. w }
entry_groups_plain view h (g ∷ gs) r =
    let t = group_type h.state view g in
    let k : EntryHeading = record h { state = note h.state (broken_group h.state view g); whole = h.whole && is_some t } in
    let step = note_plain h.state (broken_group h.state view g) r in
    let one_more : EntryHeaded h k =
    record {
      steps = step;
      whole = λ w q. both_true h.whole (is_some t) (w (step.clean q)) (some_type t (λ e. group_known h.state view g r q e));
      typed = λ q w. w;
    } in
    let two = entry_then one_more (entry_formals_plain g.reference t k g.names step.reached (λ q e. group_known h.state view g r q e)) in
    entry_then two (entry_groups_plain view (entry_group view h g) gs two.steps.reached)

entry_is : (b : Blocks) (i k : ℕ) (whole : Bool) → HasEntry b i k → (b.noted ≡ [] → whole ≡ true) → IsNumbered b i (entry_meaning whole k)
entry_is b i k true h fine = h
entry_is b i k false h fine = λ q. let e = fine q in cc

pub entries_grown :
    (s : State) (i : ℕ) (outer : List Level) (k : ℕ) (es : List EntryTree) → Reached s → i < length s.blocks.scopes → IsLast s.blocks i k
    → Grown s (entries_state s i outer k es)
entries_grown s i outer k [] r below last = still_grown r
entries_grown s i outer k (e ∷ es) r below last =
    let view = here s.blocks.scopes i outer in
    let begin : EntryHeading = record { state = s; own = []; formals = []; whole = true } in
    let h = entry_groups view begin e.formals in
    let headed = entry_groups_plain view begin e.formals r in
    let first = headed.steps in
    let c = first.count in
    let t = add_entry h.state h.formals in
    let here_last = last_still s.blocks h.state.blocks i k first.processes first.entries last in
    let all = here_last.all in
    let ends = here_last.entries in
    let more = length-append h.state.blocks.entries (h.formals ∷ []) in
    let now : IsLast t.blocks i (k + 1) =
    record { before = here_last.before; all = here_last.all; scope = here_last.scope; entries = omega (arith, ends, more) } in
    let added : Grown h.state t =
    record {
      reached = an_entry h.formals first.reached (omega (arith, all)) (λ q. headed.typed q refl);
      count = omega arith;
      clean = λ e. e;
      processes = begins_same h.state.blocks.processes;
      entries = begins_push h.state.blocks.entries (h.formals ∷ []);
    } in
    let named = declare_plain t i (e.name, e.place) (entry_meaning h.whole k) (omega (arith, c, below))
    (entry_is t.blocks i k h.whole (last_has t.blocks i k now) (headed.whole (λ z. refl))) added.reached in
    let d = named.count in
    let behind = declare t i (e.name, e.place) (entry_meaning h.whole k) in
    let step = grown_then (grown first) (grown_then added (grown named)) in
    grown_then step
    (entries_grown behind i outer (k + 1) es step.reached (omega (arith, c, d, below))
    (last_still t.blocks behind.blocks i (k + 1) named.processes named.entries now))

-- ## Parts

mutual
  pub part_grown :
      (owner : Owner) (s : State) (i : ℕ) (outer : List Level) (q : PartTree) → Reached s → i < length s.blocks.scopes
      → Grown s (part_state owner s i outer q)
  part_grown owner s i outer (consts items) r below = grown (consts_plain s i outer items below r)
  part_grown owner s i outer (types items) r below = grown (types_plain s i outer items below r)
  part_grown owner s i outer (vars vs) r below = grown (vars_plain owner s i outer vs below r)
  part_grown owner s i outer (sub_part b) r below = sub_grown s i outer b r below
  part_grown owner s i outer (monitor m) r below = module_grown false s i outer m r below
  part_grown owner s i outer (resource m) r below = module_grown true s i outer m r below
  part_grown owner s i outer (process_part q) r below = process_grown s i outer q r below

  pub parts_grown :
      (owner : Owner) (s : State) (i : ℕ) (outer : List Level) (qs : PartTrees) → Reached s → i < length s.blocks.scopes
      → Grown s (parts_state owner s i outer qs)
  parts_grown owner s i outer no_parts r below = still_grown r
  parts_grown owner s i outer (more_parts q qs) r below =
      let step = part_grown owner s i outer q r below in
      let c = step.count in
      grown_then step (parts_grown owner (part_state owner s i outer q) i outer qs step.reached (omega (arith, c, below)))

  sub_grown : (s : State) (i : ℕ) (outer : List Level) (b : SubTree) → Reached s → i < length s.blocks.scopes → Grown s (sub_state s i outer b)
  sub_grown s i outer (sub x gs kind ps b p) r below =
      let own = length s.blocks.scopes in
      let headed = sub_headed s i outer (x, p) gs kind in
      let around = here headed.blocks.scopes i outer in
      let declared = parts_state elsewhere headed own around ps in
      let done = body_state declared (here declared.blocks.scopes own around) b in
      let first = sub_headed_grown s i outer (x, p) gs kind r below in
      let inner = parts_grown elsewhere headed own around ps first.0.reached first.1 in
      let stmts = body_plain declared (here declared.blocks.scopes own around) b inner.reached in
      grown_then first.0
      (grown_then inner
      (grown_then (grown stmts)
      (grown (note_plain done (cells_rule (scope_cells done.forms (scope_at done.blocks.scopes own) + result_cells kind) p) stmts.reached))))

  module_grown :
      (is_resource : Bool) (s : State) (i : ℕ) (outer : List Level) (m : ModuleTree) → Reached s → i < length s.blocks.scopes
      → Grown s (module_state is_resource s i outer m)
  module_grown is_resource s i outer (the_module x exports ps b last p) r below =
      let own = length s.blocks.scopes in
      let around = here s.blocks.scopes i outer in
      let declared = parts_state (module_owner is_resource) (open_scope s) own around ps in
      let done = init_state declared (here declared.blocks.scopes own around) b in
      let first = open_plain s r in
      let more = length-append s.blocks.scopes ([] ∷ []) in
      let inner = parts_grown (module_owner is_resource) (open_scope s) own around ps first.reached (omega (arith, more)) in
      let c = inner.count in
      let before = init_plain declared (here declared.blocks.scopes own around) b inner.reached in
      let d = before.count in
      grown_then (grown first)
      (grown_then inner
      (grown_then (grown before)
      (module_closed_grown is_resource done i own (x, p) exports before.reached (omega (arith, c, d, more, below)) (omega (arith, c, d, more)))))

  process_grown : (s : State) (i : ℕ) (outer : List Level) (q : ProcessTree) → Reached s → i < length s.blocks.scopes → Grown s (process_state s i outer q)
  process_grown s i outer (process many x gs es ps b p) r below =
      let own = length s.blocks.scopes in
      let headed = process_headed s i outer many (x, p) gs in
      let around = here headed.blocks.scopes i outer in
      let entered = entries_state headed own around 0 es in
      let declared = parts_state elsewhere entered own around ps in
      let done = body_state declared (here declared.blocks.scopes own around) b in
      let first = process_headed_grown s i outer many (x, p) gs r below in
      let inside : own < length headed.blocks.scopes = first.2 in
      let entries = entries_grown headed own around 0 es first.0.reached inside first.1 in
      let c = entries.count in
      let inner = parts_grown elsewhere entered own around ps entries.reached (omega (arith, c, inside)) in
      let stmts = body_plain declared (here declared.blocks.scopes own around) b inner.reached in
      grown_then first.0
      (grown_then entries
      (grown_then inner
      (grown_then (grown stmts)
      (grown (note_plain done (cells_rule (process_cells done own (length declared.blocks.scopes)) p) stmts.reached)))))

-- ## The program

pub finished_reached : (t : ProgramTree) → Reached (finished t)
finished_reached t =
    let s = declared_parts t in
    let first = parts_grown in_program begun 0 [] t.parts at_begin (omega arith) in
    let done = declared_all t in
    let stmts = body_plain s (here s.blocks.scopes 0 []) t.body first.reached in
    (note_plain done (cells_rule (main_cells done) t.name.1) stmts.reached).reached
