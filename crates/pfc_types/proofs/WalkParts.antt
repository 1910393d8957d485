-- What the parts of a block do to the scopes: each block opens its own behind the others, and the names of a part are declared at the
-- end of the scope in which it stands.
use Rattle.std.proofs.Common.{◌≡◌, ℕ, ◌+◌, ◌<◌, Bool, true, false, List, [], length, refl, ap, ◌∙◌, arith}
use Rattle.pfc_base.specs.declared.places.Place.{Place}
use Rattle.pfc_tree.specs.Symbols.{Text}
use Rattle.pfc_tree.specs.trees.Types.{GroupTree}
use Rattle.pfc_tree.specs.trees.Parts.{KindTree, PartTree, PartTrees, SubTree, ModuleTree, ProcessTree, ProgramTree, consts, types, vars, sub_part, monitor}
use Rattle.pfc_tree.specs.trees.Parts.{resource, process_part, no_parts, more_parts, sub, the_module, process}
use Rattle.pfc_types.specs.Faulty.{BeginsPredeclared, HoldSimpleConstants}
use Rattle.pfc_types.specs.Types.{predeclared_forms}
use Rattle.pfc_types.specs.Scopes.{Names, Level, scope_at, here, found_in, look}
use Rattle.pfc_types.specs.Blocks.{State, no_blocks, note, open_scope, add_sub, add_module, add_process}
use Rattle.pfc_types.specs.declared.heads.SubHead.{SubHead}
use Rattle.pfc_types.specs.declared.heads.ProcessHead.{ProcessHead}
use Rattle.pfc_types.specs.declared.scope.Meaning.TheVariants.{Module}
use Rattle.pfc_types.specs.rules.Declarations.{Owner, in_program, elsewhere, Heading, heading, broken_sort, sort_of, sub_headed, module_owner, module_closed}
use Rattle.pfc_types.specs.rules.Declarations.{exports_state, init_state, body_state, process_headed, process_cells, entries_state, cells_rule, scope_cells}
use Rattle.pfc_types.specs.rules.Declarations.{result_cells, part_state, parts_state, sub_state, module_state, process_state}
use Rattle.pfc_types.specs.rules.Statements.{body_scopes}
use Rattle.pfc_types.specs.rules.Bodies.{passed, passed_part, part_scopes, parts_scopes, sub_scopes, module_scopes, process_scopes, sub_name, module_name}
use Rattle.pfc_types.specs.rules.Bodies.{process_name}
use Rattle.pfc_types.specs.rules.Whole.{begun, declared_parts, declared_all, finished, types_of, scopes_of, main_cells}
use Rattle.pfc_types.proofs.Sound.{sound_simple, sound_faulty, AreSound, subs_same, subs_push}
use Rattle.pfc_types.proofs.WholeHeads.{heading_subs, heading_typed, sub_sound}
use Rattle.pfc_types.specs.rules.FaultyNames.{is_faulty_found, stands_faulty}
use Rattle.pfc_types.proofs.Looks.{look_sound}
use Rattle.pfc_types.proofs.Prefixes.{begins_same, begins_trans}
use Rattle.pfc_types.proofs.Walking.{kept_opened, opened_count, held, Kept, Walked, kept_same, kept_trans, opened_trans, kept_walked, walked_count}
use Rattle.pfc_types.proofs.Walking.{walked_trans, walked_opened, walked_kept, opened_then_walked, kept_then_walked, opened_inner, walked_inner, note_kept}
use Rattle.pfc_types.proofs.Walking.{open_opened, declare_walked}
use Rattle.pfc_types.proofs.WalkDeclarations.{consts_walked, types_walked, vars_walked, entries_walked, exports_kept, process_named_walked}
use Rattle.pfc_types.proofs.WalkStatements.{heading_opened, body_opened, init_opened}

-- the names of parts that were passed
abbrev pub passed_parts : Names → ℕ → PartTrees → ℕ
passed_parts names n no_parts = n
passed_parts names n (more_parts q qs) = passed_parts names (passed_part names n q) qs

-- ## Headings

-- a sub's name is declared behind its parameters
pub sub_named_walked :
    (s : State) (i : ℕ) (outer : List Level) (x : Text × Place) (gs : List GroupTree) (kind : KindTree) → i < length (held s)
    → Walked i (heading (open_scope s) (length (held s)) (here (held s) i outer) gs).state (sub_headed s i outer x gs kind) 0 (λ names n. passed names n x.0)
sub_named_walked s i outer x gs kind b =
    kept_then_walked there added (declare_walked _ i x _ (omega (arith, there, ap length added.scopes))
    (λ r. sub_sound (note h.state (broken_sort h.state view kind)).blocks head h.whole (length s.blocks.subs)
    (ap length (heading_subs s own around gs (broken_sort h.state view kind))) (heading_typed (open_scope s) own around gs)))
  where
    own : ℕ
    own = length s.blocks.scopes

    around : List Level
    around = here s.blocks.scopes i outer

    h : Heading
    h = heading (open_scope s) own around gs

    view : List Level
    view = here h.state.blocks.scopes own around

    head : SubHead
    head = record { formals = h.formals; sort = sort_of h.state view kind; scope = own; exported = false }

    there : i < length (held h.state)
    there = omega (arith, b, (heading_opened s around gs).count)

    added : Kept h.state (add_sub (note h.state (broken_sort h.state view kind)) head)
    added = kept_trans (note_kept h.state (broken_sort h.state view kind)) (record {
      scopes = refl;
      forms = begins_same _;
      subs =
          subs_push (note h.state (broken_sort h.state view kind)).blocks head;
    })

pub sub_headed_walked :
    (s : State) (i : ℕ) (outer : List Level) (x : Text × Place) (gs : List GroupTree) (kind : KindTree) → i < length (held s)
    → Walked i s (sub_headed s i outer x gs kind) 1 (λ names n. passed names n x.0)
sub_headed_walked s i outer x gs kind b = opened_then_walked b (heading_opened s (here s.blocks.scopes i outer) gs) (sub_named_walked s i outer x gs kind b)

-- so is a process's
pub process_named_behind :
    (s : State) (i : ℕ) (outer : List Level) (many : Bool) (x : Text × Place) (gs : List GroupTree) → i < length (held s)
    → Walked i (heading (open_scope s) (length (held s)) (here (held s) i outer) gs).state
    (process_headed s i outer many x gs) 0 (λ names n. passed names n x.0)
process_named_behind s i outer many x gs b =
    kept_then_walked there added (process_named_walked _ i many h.whole x _ (omega (arith, there, ap length added.scopes)))
  where
    own : ℕ
    own = length s.blocks.scopes

    h : Heading
    h = heading (open_scope s) own (here s.blocks.scopes i outer) gs

    head : ProcessHead
    head = record { formals = h.formals; entries = length s.blocks.entries; scope = own }

    there : i < length (held h.state)
    there = omega (arith, b, (heading_opened s (here s.blocks.scopes i outer) gs).count)

    added : Kept h.state (add_process h.state head)
    added = record { scopes = refl; forms = begins_same _; subs = subs_same _ _ refl }

pub process_headed_walked :
    (s : State) (i : ℕ) (outer : List Level) (many : Bool) (x : Text × Place) (gs : List GroupTree) → i < length (held s)
    → Walked i s (process_headed s i outer many x gs) 1 (λ names n. passed names n x.0)
process_headed_walked s i outer many x gs b = opened_then_walked b (heading_opened s (here s.blocks.scopes i outer) gs)
    (process_named_behind s i outer many x gs b)

pub module_closed_walked :
    (is_resource : Bool) (s : State) (i own : ℕ) (x : Text × Place) (exports : List (List (Text × Place))) → i < length (held s)
    → Walked i s (module_closed is_resource s i own x exports) 0 (λ names n. passed names n x.0)
module_closed_walked is_resource s i own x exports b =
    kept_then_walked b added (declare_walked _ i x (Module (length s.blocks.modules)) (omega (arith, b, ap length added.scopes)) (λ r. tt))
  where
    added : Kept s (add_module (exports_state s own exports) (record { scope = own; resource = is_resource }))
    added = kept_trans (exports_kept s own exports) (record { scopes = refl; forms = begins_same _; subs = subs_same _ _ refl })

-- ## Parts

mutual
  pub part_walked : (owner : Owner) (s : State) (i : ℕ) (outer : List Level) (q : PartTree) → i < length (held s) →
      Walked i s (part_state owner s i outer q) (part_scopes q) (λ names n. passed_part names n q)
  part_walked owner s i outer (consts items) b = consts_walked s i outer items b
  part_walked owner s i outer (types items) b = types_walked s i outer items b
  part_walked owner s i outer (vars vs) b = vars_walked owner s i outer vs b
  part_walked owner s i outer (sub_part q) b = sub_walked s i outer q b
  part_walked owner s i outer (monitor m) b = module_walked false s i outer m b
  part_walked owner s i outer (resource m) b = module_walked true s i outer m b
  part_walked owner s i outer (process_part q) b = process_walked s i outer q b

  pub parts_walked : (owner : Owner) (s : State) (i : ℕ) (outer : List Level) (qs : PartTrees) → i < length (held s) →
      Walked i s (parts_state owner s i outer qs) (parts_scopes qs) (λ names n. passed_parts names n qs)
  parts_walked owner s i outer no_parts b = kept_walked b (kept_same s)
  parts_walked owner s i outer (more_parts q qs) b =
      let one = part_walked owner s i outer q b in walked_trans one (parts_walked owner (part_state owner s i outer q) i outer qs (omega (arith, b, one.count)))

  sub_walked : (s : State) (i : ℕ) (outer : List Level) (q : SubTree) → i < length (held s) →
      Walked i s (sub_state s i outer q) (sub_scopes q) (λ names n. passed names n (sub_name q))
  sub_walked s i outer (sub x gs kind ps inside p) b =
      let own = length s.blocks.scopes in
      let headed = sub_headed s i outer (x, p) gs kind in
      let around = here headed.blocks.scopes i outer in
      let declared = parts_state elsewhere headed own around ps in
      let done = body_state declared (here declared.blocks.scopes own around) inside in
      let first = sub_headed_walked s i outer (x, p) gs kind b in
      let inner = parts_walked elsewhere headed own around ps (omega (arith, first.count)) in
      walked_kept b (walked_opened b (walked_inner b first inner) (body_opened declared (here declared.blocks.scopes own around) inside))
      (note_kept done (cells_rule (scope_cells done.forms (scope_at done.blocks.scopes own) + result_cells kind) p))

  module_walked : (is_resource : Bool) (s : State) (i : ℕ) (outer : List Level) (m : ModuleTree) → i < length (held s) →
      Walked i s (module_state is_resource s i outer m) (module_scopes m) (λ names n. passed names n (module_name m))
  module_walked is_resource s i outer (the_module x exports ps inside last p) b =
      let own = length s.blocks.scopes in
      let around = here s.blocks.scopes i outer in
      let declared = parts_state (module_owner is_resource) (open_scope s) own around ps in
      let begun = init_state declared (here declared.blocks.scopes own around) inside in
      let opened = opened_trans (opened_inner (open_opened s) (parts_walked (module_owner is_resource) (open_scope s) own around ps
      (omega (arith, (open_opened s).count)))) (init_opened declared (here declared.blocks.scopes own around) inside) in
      walked_count (opened_then_walked b opened (module_closed_walked is_resource begun i own (x, p) exports (omega (arith, b, opened.count)))) (omega arith)

  process_walked : (s : State) (i : ℕ) (outer : List Level) (q : ProcessTree) → i < length (held s) →
      Walked i s (process_state s i outer q) (process_scopes q) (λ names n. passed names n (process_name q))
  process_walked s i outer (process many x gs es ps inside p) b =
      let own = length s.blocks.scopes in
      let headed = process_headed s i outer many (x, p) gs in
      let around = here headed.blocks.scopes i outer in
      let entered = entries_state headed own around 0 es in
      let declared = parts_state elsewhere entered own around ps in
      let done = body_state declared (here declared.blocks.scopes own around) inside in
      let first = process_headed_walked s i outer many (x, p) gs b in
      let second = walked_inner b first (entries_walked headed own around 0 es (omega (arith, first.count))) in
      let inner = parts_walked elsewhere entered own around ps (omega (arith, second.count)) in
      walked_count (walked_kept b (walked_opened b (walked_inner b second inner) (body_opened declared (here declared.blocks.scopes own around) inside))
      (note_kept done (cells_rule (process_cells done own (length declared.blocks.scopes)) p))) (omega arith)

-- ## The whole

pub program_walked : (t : ProgramTree) → Walked 0 begun (declared_parts t) (parts_scopes t.parts) (λ names n. passed_parts names n t.parts)
program_walked t = parts_walked in_program begun 0 [] t.parts (omega arith)

all_walked : (t : ProgramTree) → Walked 0 begun (declared_all t) (parts_scopes t.parts + body_scopes t.body) (λ names n. passed_parts names n t.parts)
all_walked t = walked_opened (omega arith) (program_walked t) (body_opened (declared_parts t) (here (declared_parts t).blocks.scopes 0 []) t.body)

finished_kept : (t : ProgramTree) → Kept (declared_all t) (finished t)
finished_kept t = note_kept (declared_all t) (cells_rule (main_cells (declared_all t)) t.name.1)

-- how many scopes there are in the end
pub scopes_counted : (t : ProgramTree) → length (scopes_of t).scopes ≡ 1 + parts_scopes t.parts + body_scopes t.body
scopes_counted t = ap length (finished_kept t).scopes ∙ (all_walked t).count ∙ plus (parts_scopes t.parts) (body_scopes t.body)
  where
    plus : (n m : ℕ) → 1 + (n + m) ≡ 1 + n + m
    plus n m = omega arith

-- the table of types of a tree begins with the predeclared types
pub types_begin : (t : ProgramTree) → BeginsPredeclared (types_of t)
types_begin t = begins_trans predeclared_forms (declared_all t).forms (types_of t) (all_walked t).forms (finished_kept t).forms

-- what the names of a tree stand for is sound
pub scopes_sound : (t : ProgramTree) → AreSound (scopes_of t)
scopes_sound t = (opened_count (kept_opened (finished_kept t)) refl).sound ((all_walked t).sound begun_sound)
  where
    begun_sound : AreSound begun.blocks
    begun_sound = (open_opened (record { forms = predeclared_forms; blocks = no_blocks })).sound (λ i x. tt)

-- each constant of a tree is of a simple type
pub constants_simple : (t : ProgramTree) → HoldSimpleConstants (scopes_of t).scopes
constants_simple t = sound_simple (scopes_of t) (scopes_sound t)

-- in a tree a name is faulty exactly where it stands for nothing that is known
pub names_faulty : (t : ProgramTree) (view : List Level) (x : Text) →
    is_faulty_found (scopes_of t) (found_in (scopes_of t).scopes view x) ≡ stands_faulty (look (scopes_of t).scopes view x)
names_faulty t view x = sound_faulty (scopes_of t) (found_in (scopes_of t).scopes view x) (look_sound (scopes_of t) (scopes_sound t) view x)
