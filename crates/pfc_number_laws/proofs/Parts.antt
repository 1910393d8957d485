-- What subs, modules, processes and whole programs declare has constants of 32 bits alone.
use Rattle.std.proofs.Common.{ℕ, ◌+◌, Bool, true, false, is_some, List, [], ◌∷◌, length, Option, Some, None}
use Rattle.std.specs.Prelude.{◌&&◌}
use Rattle.pfc_base.specs.declared.places.Place.{Place}
use Rattle.pfc_tree.specs.Symbols.{Text}
use Rattle.pfc_tree.specs.trees.Types.{GroupTree}
use Rattle.pfc_tree.specs.trees.Stmts.{BodyTree}
use Rattle.pfc_tree.specs.trees.Parts.{KindTree, PartTree, PartTrees, SubTree, ModuleTree, ProcessTree, ProgramTree, consts, types, vars, sub_part, monitor}
use Rattle.pfc_tree.specs.trees.Parts.{resource, process_part, no_parts, more_parts, sub, the_module, process}
use Rattle.pfc_types.specs.Faults.{unless}
use Rattle.pfc_types.specs.Scopes.{Level, meaning_in, scope_at, here}
use Rattle.pfc_types.specs.Blocks.{State, note, declare, open_scope, add_form, add_sub, add_module, add_process, export_sub, sub_at}
use Rattle.pfc_types.specs.declared.types.TypeForm.TheVariants.{Process as AProcess}
use Rattle.pfc_types.specs.declared.scope.Meaning.{Meaning}
use Rattle.pfc_types.specs.declared.scope.Meaning.TheVariants.{Sub, Module, Process, Named, Faulty}
use Rattle.pfc_types.specs.declared.heads.SubHead.{SubHead}
use Rattle.pfc_types.specs.declared.heads.ProcessHead.{ProcessHead}
use Rattle.pfc_types.specs.rules.Declarations.{Owner, in_program, elsewhere, populated, heading, entries_state, scope_cells, result_cells, cells_rule}
use Rattle.pfc_types.specs.rules.Declarations.{body_state, broken_sort, sort_of, whole_sort, sub_meaning, sub_headed, may_export, export_state, export_list}
use Rattle.pfc_types.specs.rules.Declarations.{exports_state, module_owner, module_closed, init_state, process_named, process_headed, process_cells, part_state}
use Rattle.pfc_types.specs.rules.Declarations.{parts_state, sub_state, module_state, process_state}
use Rattle.pfc_types.specs.rules.Whole.{begun, declared_parts, declared_all, main_cells, finished}
use Rattle.pfc_run_invariants.specs.Fitting.{FitNames}
use Rattle.pfc_number_laws.specs.Written.{FitsPart, FitParts, FitsSub, FitsModule, FitsProcess, FitsTree}
use Rattle.pfc_number_laws.proofs.Names.{names_fit}
use Rattle.pfc_number_laws.proofs.Declarations.{FitsState, noted, opened, declared, either_state, sub_fits, consts_fit, types_fit, populated_fits, vars_fit}
use Rattle.pfc_number_laws.proofs.Declarations.{heading_fits, entries_fit, body_fits}

-- ## Subs, modules and processes

sub_headed_fits : (s : State) (i : ℕ) (outer : List Level) (x : Text × Place) (gs : List GroupTree) (kind : KindTree) → FitsState s
    → FitsState (sub_headed s i outer x gs kind)
sub_headed_fits s i outer x gs kind fits =
    let own = length s.blocks.scopes in
    let around = here s.blocks.scopes i outer in
    let h = heading (open_scope s) own around gs in
    let view = here h.state.blocks.scopes own around in
    let sort = sort_of h.state view kind in
    let head : SubHead = record { formals = h.formals; sort = sort; scope = own; exported = false } in
    let ruled = note h.state (broken_sort h.state view kind) in
    declared (add_sub ruled head) i x (sub_meaning (h.whole && whole_sort sort) (length s.blocks.subs))
    (noted h.state (broken_sort h.state view kind) (heading_fits (open_scope s) own around gs (opened s fits)))
    (sub_fits (h.whole && whole_sort sort) (length s.blocks.subs))

export_fits : (s : State) (m : Option Meaning) (p : Place) → FitsState s → FitsState (export_state s m p)
export_fits s (Some (Sub n)) p fits =
    either_state (may_export (sub_at s.blocks n)) (export_sub s n) (note s (unless false p 409)) fits (noted s (unless false p 409) fits)
export_fits s (Some Faulty) p fits = fits
export_fits s m p fits = noted s (unless false p 409) fits

list_fits : (s : State) (i : ℕ) (xs : List (Text × Place)) → FitsState s → FitsState (export_list s i xs)
list_fits s i [] fits = fits
list_fits s i (x ∷ xs) fits =
    let m = meaning_in (scope_at s.blocks.scopes i) x.0 in list_fits (export_state s m x.1) i xs (export_fits s m x.1 fits)

exports_fit : (s : State) (i : ℕ) (lists : List (List (Text × Place))) → FitsState s → FitsState (exports_state s i lists)
exports_fit s i [] fits = fits
exports_fit s i (xs ∷ lists) fits = exports_fit (export_list s i xs) i lists (list_fits s i xs fits)

closed_fits : (is_resource : Bool) (s : State) (i own : ℕ) (x : Text × Place) (exports : List (List (Text × Place))) → FitsState s
    → FitsState (module_closed is_resource s i own x exports)
closed_fits is_resource s i own x exports fits =
    let t = exports_state s own exports in
    declared (add_module t (record { scope = own; resource = is_resource })) i x (Module (length s.blocks.modules)) (exports_fit s own exports fits) tt

init_fits : (s : State) (view : List Level) (b : Option BodyTree) → FitsState s → FitsState (init_state s view b)
init_fits s view None fits = fits
init_fits s view (Some b) fits = body_fits s view b fits

process_named_fits : (s : State) (i : ℕ) (many whole : Bool) (x : Text × Place) (n : ℕ) → FitsState s → FitsState (process_named s i many whole x n)
process_named_fits s i many false x n fits = declared s i x Faulty fits tt
process_named_fits s i true true x n fits = declared (add_form s (AProcess n)) i x (Named (record { place = length s.forms })) fits tt
process_named_fits s i false true x n fits =
    either_state (is_some (meaning_in (scope_at s.blocks.scopes i) x.0)) (declare s i x Faulty) (populated s i 1 x (Process n))
    (declared s i x Faulty fits tt) (populated_fits s i 1 x (Process n) fits tt)

process_headed_fits : (s : State) (i : ℕ) (outer : List Level) (many : Bool) (x : Text × Place) (gs : List GroupTree) → FitsState s
    → FitsState (process_headed s i outer many x gs)
process_headed_fits s i outer many x gs fits =
    let own = length s.blocks.scopes in
    let around = here s.blocks.scopes i outer in
    let h = heading (open_scope s) own around gs in
    let head : ProcessHead = record { formals = h.formals; entries = length s.blocks.entries; scope = own } in
    process_named_fits (add_process h.state head) i many h.whole x (length s.blocks.processes)
    (heading_fits (open_scope s) own around gs (opened s fits))

-- ## Parts

mutual
  part_fits : (owner : Owner) (s : State) (i : ℕ) (outer : List Level) (q : PartTree) → FitsState s → FitsPart q → FitsState (part_state owner s i outer q)
  part_fits owner s i outer (consts items) fits small = consts_fit s i outer items fits small
  part_fits owner s i outer (types items) fits small = types_fit s i outer items fits
  part_fits owner s i outer (vars vs) fits small = vars_fit owner s i outer vs fits
  part_fits owner s i outer (sub_part b) fits small = sub_part_fits s i outer b fits small
  part_fits owner s i outer (monitor m) fits small = module_fits false s i outer m fits small
  part_fits owner s i outer (resource m) fits small = module_fits true s i outer m fits small
  part_fits owner s i outer (process_part q) fits small = process_fits s i outer q fits small

  pub parts_fit : (owner : Owner) (s : State) (i : ℕ) (outer : List Level) (qs : PartTrees) → FitsState s → FitParts qs
      → FitsState (parts_state owner s i outer qs)
  parts_fit owner s i outer no_parts fits small = fits
  parts_fit owner s i outer (more_parts q qs) fits small =
      parts_fit owner (part_state owner s i outer q) i outer qs (part_fits owner s i outer q fits small.0) small.1

  sub_part_fits : (s : State) (i : ℕ) (outer : List Level) (b : SubTree) → FitsState s → FitsSub b → FitsState (sub_state s i outer b)
  sub_part_fits s i outer (sub x gs kind ps b p) fits small =
      let own = length s.blocks.scopes in
      let headed = sub_headed s i outer (x, p) gs kind in
      let around = here headed.blocks.scopes i outer in
      let inner = parts_state elsewhere headed own around ps in
      let done = body_state inner (here inner.blocks.scopes own around) b in
      noted done (cells_rule (scope_cells done.forms (scope_at done.blocks.scopes own) + result_cells kind) p)
      (body_fits inner (here inner.blocks.scopes own around) b
      (parts_fit elsewhere headed own around ps (sub_headed_fits s i outer (x, p) gs kind fits) small.1))

  module_fits : (is_resource : Bool) (s : State) (i : ℕ) (outer : List Level) (m : ModuleTree) → FitsState s → FitsModule m
      → FitsState (module_state is_resource s i outer m)
  module_fits is_resource s i outer (the_module x exports ps b last p) fits small =
      let own = length s.blocks.scopes in
      let around = here s.blocks.scopes i outer in
      let inner = parts_state (module_owner is_resource) (open_scope s) own around ps in
      let done = init_state inner (here inner.blocks.scopes own around) b in
      closed_fits is_resource done i own (x, p) exports
      (init_fits inner (here inner.blocks.scopes own around) b (parts_fit (module_owner is_resource) (open_scope s) own around ps (opened s fits) small.0))

  process_fits : (s : State) (i : ℕ) (outer : List Level) (q : ProcessTree) → FitsState s → FitsProcess q → FitsState (process_state s i outer q)
  process_fits s i outer (process many x gs es ps b p) fits small =
      let own = length s.blocks.scopes in
      let headed = process_headed s i outer many (x, p) gs in
      let around = here headed.blocks.scopes i outer in
      let entered = entries_state headed own around 0 es in
      let inner = parts_state elsewhere entered own around ps in
      let done = body_state inner (here inner.blocks.scopes own around) b in
      noted done (cells_rule (process_cells done own (length inner.blocks.scopes)) p)
      (body_fits inner (here inner.blocks.scopes own around) b
      (parts_fit elsewhere entered own around ps (entries_fit headed own around 0 es (process_headed_fits s i outer many (x, p) gs fits)) small.0))

pub finished_fits : (t : ProgramTree) → FitsTree t → FitNames (finished t).blocks.scopes
finished_fits t small =
    let s = declared_parts t in
    let done = declared_all t in
    names_fit (finished t).blocks.scopes
    (noted done (cells_rule (main_cells done) t.name.1)
    (body_fits s (here s.blocks.scopes 0 []) t.body (parts_fit in_program begun 0 [] t.parts (tt, tt) small.parts)))
