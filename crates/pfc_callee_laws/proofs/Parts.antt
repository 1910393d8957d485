-- The declarations of all parts: what their names stand for, in each scope that they open.
use Rattle.std.proofs.Common.{◌≡◌, ℕ, zero, suc, ◌+◌, ◌<◌, ◌&&◌, inl, inr, Bool, true, false, if◌then◌else◌, is_some, List, [], ◌∷◌, ◌++◌, length}
use Rattle.std.proofs.Common.{length-append, get_or, Option, Some, None, refl, sym, ap, ◌∙◌, subst, arith}
use Rattle.std.specs.List.{All, list_any}
use Rattle.std.proofs.Math.Seq.{get_or-append_seam}
use Rattle.std.proofs.lemmas.List.Elements.{All-nil}
use Rattle.pfc_base.specs.declared.places.Place.{Place}
use Rattle.pfc_tree.specs.Symbols.{Text}
use Rattle.pfc_tree.specs.declared.tree.Constant.{Constant}
use Rattle.pfc_tree.specs.trees.Types.{GroupTree}
use Rattle.pfc_tree.specs.trees.Stmts.{StmtTree, StmtTrees, BodyTree, ArmTree, ArmTrees, AcceptTree, AltTree, AltTrees, CommTree, block, if_then, if_then_else}
use Rattle.pfc_tree.specs.trees.Stmts.{case_of, while_do, repeat_until, repeat_forever, for_do, cobegin, accepting, select, select_else, no_stmts, more_stmts}
use Rattle.pfc_tree.specs.trees.Stmts.{body, arm, no_arms, more_arms, accept, accept_do, alt, no_alts, more_alts, comm_accept}
use Rattle.pfc_tree.specs.trees.Parts.{KindTree, PartTree, PartTrees, SubTree, ModuleTree, ProcessTree, ProgramTree, procedure, function, guarded, consts}
use Rattle.pfc_tree.specs.trees.Parts.{types, vars, sub_part, monitor, resource, process_part, no_parts, more_parts, sub, the_module, process}
use Rattle.pfc_types.specs.Faults.{unless}
use Rattle.pfc_types.specs.Scopes.{Level, scope_at, here, meaning_in, look}
use Rattle.pfc_types.specs.Blocks.{State, no_sub, sub_at, note, add_sub, add_module, add_process, export_sub, open_scope}
use Rattle.pfc_types.specs.declared.heads.SubHead.{SubHead}
use Rattle.pfc_types.specs.declared.heads.ModuleHead.{ModuleHead}
use Rattle.pfc_types.specs.declared.heads.ProcessHead.{ProcessHead}
use Rattle.pfc_types.specs.declared.scope.Meaning.{Meaning}
use Rattle.pfc_types.specs.declared.scope.Meaning.TheVariants.{Sub, Module, Faulty}
use Rattle.pfc_types.specs.rules.Constants.{Ordinal, same_ordinal, constant_value, constant_place}
use Rattle.pfc_types.specs.rules.Declarations.{Owner, in_program, elsewhere, Heading, heading, accept_heading, accept_rule, accepted, Labels, label_noted}
use Rattle.pfc_types.specs.rules.Declarations.{labels_noted, stmt_state, stmts_state, body_state, arms_state, arm_state, accept_state, alts_state, alt_state}
use Rattle.pfc_types.specs.rules.Declarations.{comm_state, init_state, broken_sort, sort_of, whole_sort, sub_meaning, sub_headed, may_export, export_state}
use Rattle.pfc_types.specs.rules.Declarations.{export_list, exports_state, module_owner, module_closed, process_headed, entries_state, process_cells}
use Rattle.pfc_types.specs.rules.Declarations.{cells_rule, scope_cells, result_cells, part_state, parts_state, sub_state, module_state, process_state}
use Rattle.pfc_types.specs.rules.Bodies.{is_guarded, part_scopes}
use Rattle.pfc_types.specs.rules.Whole.{begun, declared_parts, declared_all, main_cells, finished}
use Rattle.pfc_types.proofs.Walking.{note_kept}
use Rattle.pfc_types.proofs.WholeHeads.{heading_subs}
use Rattle.pfc_types.proofs.WalkDeclarations.{entries_walked, exports_kept}
use Rattle.pfc_types.proofs.WalkStatements.{init_opened}
use Rattle.pfc_types.proofs.WalkParts.{part_walked, parts_walked, sub_headed_walked, process_headed_walked}
use Rattle.pfc_semantics.specs.Programs.{Block}
use Rattle.pfc_callee_laws.specs.Callees.{is_guarded_sort}
use Rattle.pfc_callee_laws.specs.Agreeing.{PartAgrees, PartsAgree, SubAgrees, ModuleAgrees, ProcessAgrees}
use Rattle.pfc_callee_laws.proofs.Fine.{IsOwn, IsFine, Fine, note_fine, open_fine, declare_fine, sub_fine as sub_added, process_fine as process_added}
use Rattle.pfc_callee_laws.proofs.Fine.{export_fine}
use Rattle.pfc_callee_laws.proofs.Declared.{OwnerFits, consts_fine, types_fine, vars_fine, IsBegun, heading_begun, accept_begun, parameters_alone, entries_fine}
use Rattle.pfc_callee_laws.proofs.Declared.{process_named_fine}

sort_guarded : (s : State) (view : List Level) (kind : KindTree) → is_guarded_sort (sort_of s view kind) ≡ is_guarded kind
sort_guarded s view procedure = refl
sort_guarded s view (function x p) = refl
sort_guarded s view (guarded e p) = refl

module _ (mains : ℕ → Bool) (is_block : ℕ → Block) where
  abbrev F : State → Type 0
  F s = Fine mains is_block s

  -- ## Statements

  accepted_fine : (s : State) (view : List Level) (x : Text) (gs : List GroupTree) (p : Place) → F s → F (accepted s view x gs p)
  accepted_fine s view x gs p f =
      let h = accept_heading (open_scope s) (length s.blocks.scopes) view gs in
      note_fine mains is_block h.state (accept_rule h.state.blocks (look s.blocks.scopes view x) h.formals p) (accept_begun mains is_block s view gs f).fine

  label_fine : (c : Option Ordinal) (p : Place) (r : Labels) → F r.state → F (label_noted c p r).state
  label_fine None p r f = f
  label_fine (Some c) p r f = by (list_any (same_ordinal c) r.seen)
    where
      by : (b : Bool) → F (if b then record r { state = note r.state (unless false p 320) } else record r { seen = r.seen ++ c ∷ [] }).state
      by true = f
      by false = f

  labels_fine : (view : List Level) (r : Labels) (cs : List Constant) → F r.state → F (labels_noted view r cs).state
  labels_fine view r [] f = f
  labels_fine view r (c ∷ cs) f =
      let x = constant_value r.state.blocks.scopes view c in
      labels_fine view (label_noted x (constant_place c) r) cs (label_fine x (constant_place c) r f)

  mutual
    stmt_fine : (s : State) (view : List Level) (t : StmtTree) → F s → F (stmt_state s view t)
    stmt_fine s view (block b p) f = body_fine s view b f
    stmt_fine s view (if_then e t p) f = stmt_fine s view t f
    stmt_fine s view (if_then_else e t u p) f = stmt_fine (stmt_state s view t) view u (stmt_fine s view t f)
    stmt_fine s view (case_of e arms last p) f = arms_fine view (record { state = s; seen = [] }) arms f
    stmt_fine s view (while_do e t p) f = stmt_fine s view t f
    stmt_fine s view (repeat_until ts e p) f = stmts_fine s view ts f
    stmt_fine s view (repeat_forever ts p) f = stmts_fine s view ts f
    stmt_fine s view (for_do x from down to t p q) f = stmt_fine s view t f
    stmt_fine s view (cobegin ts last p) f = stmts_fine s view ts f
    stmt_fine s view (accepting a p) f = accept_fine s view a f
    stmt_fine s view (select pri alts p q) f = alts_fine s view alts f
    stmt_fine s view (select_else pri alts ts p q r) f = stmts_fine (alts_state s view alts) view ts (alts_fine s view alts f)
    stmt_fine s view t f = f

    stmts_fine : (s : State) (view : List Level) (ts : StmtTrees) → F s → F (stmts_state s view ts)
    stmts_fine s view no_stmts f = f
    stmts_fine s view (more_stmts t ts) f = stmts_fine (stmt_state s view t) view ts (stmt_fine s view t f)

    body_fine : (s : State) (view : List Level) (b : BodyTree) → F s → F (body_state s view b)
    body_fine s view (body ts first last) f = stmts_fine s view ts f

    arms_fine : (view : List Level) (r : Labels) (arms : ArmTrees) → F r.state → F (arms_state view r arms).state
    arms_fine view r no_arms f = f
    arms_fine view r (more_arms a arms) f = arms_fine view (arm_state view r a) arms (arm_fine view r a f)

    arm_fine : (view : List Level) (r : Labels) (a : ArmTree) → F r.state → F (arm_state view r a).state
    arm_fine view r (arm cs t) f = stmt_fine (labels_noted view r cs).state view t (labels_fine view r cs f)

    accept_fine : (s : State) (view : List Level) (a : AcceptTree) → F s → F (accept_state s view a)
    accept_fine s view (accept x gs p) f = accepted_fine s view x gs p f
    accept_fine s view (accept_do x gs t p) f =
        stmt_fine (accepted s view x gs p) (here (accepted s view x gs p).blocks.scopes (length s.blocks.scopes) view) t (accepted_fine s view x gs p f)

    alts_fine : (s : State) (view : List Level) (alts : AltTrees) → F s → F (alts_state s view alts)
    alts_fine s view no_alts f = f
    alts_fine s view (more_alts a alts) f = alts_fine (alt_state s view a) view alts (alt_fine s view a f)

    alt_fine : (s : State) (view : List Level) (a : AltTree) → F s → F (alt_state s view a)
    alt_fine s view (alt spread guard c ts) f = stmts_fine (comm_state s view c) view ts (comm_fine s view c f)

    comm_fine : (s : State) (view : List Level) (c : CommTree) → F s → F (comm_state s view c)
    comm_fine s view (comm_accept a p) f = accept_fine s view a f
    comm_fine s view c f = f

  init_fine : (s : State) (view : List Level) (b : Option BodyTree) → F s → F (init_state s view b)
  init_fine s view None f = f
  init_fine s view (Some b) f = body_fine s view b f

  -- ## Headings

  sub_headed_fine : (s : State) (i : ℕ) (outer : List Level) (x : Text × Place) (gs : List GroupTree) (kind : KindTree) → i < length s.blocks.scopes
      → (is_block (length s.blocks.scopes)).outer ≡ i → is_some (is_block (length s.blocks.scopes)).guard ≡ is_guarded kind → F s
      → F (sub_headed s i outer x gs kind)
  sub_headed_fine s i outer x gs kind below stands guarded_as f =
      declare_fine mains is_block (add_sub ruled head) i x (sub_meaning (h.whole && whole_sort head.sort) (length s.blocks.subs))
      (let there = begun.there in let size = ap length same in omega (arith, below, there, size)) (is_named (h.whole && whole_sort head.sort))
      (inl (is_own (h.whole && whole_sort head.sort)))
      (sub_added mains is_block ruled.forms ruled.blocks.scopes ruled.blocks.subs ruled.blocks.processes head
      (record {
        below = (let there = begun.there in let size = ap length same in omega (arith, there, size));
        own = parameters_alone mains is_block own h ruled.blocks.scopes same begun;
        guard = guarded_as ∙ sym (sort_guarded h.state view kind);
      })
      (note_fine mains is_block h.state (broken_sort h.state view kind) begun.fine))
    where
      own : ℕ
      own = length s.blocks.scopes

      around : List Level
      around = here s.blocks.scopes i outer

      h : Heading
      h = heading (open_scope s) own around gs

      view : List Level
      view = here h.state.blocks.scopes own around

      head : SubHead
      head = record { formals = h.formals; sort = sort_of h.state view kind; scope = own; exported = false }

      ruled : State
      ruled = note h.state (broken_sort h.state view kind)

      same : ruled.blocks.scopes ≡ h.state.blocks.scopes
      same = (note_kept h.state (broken_sort h.state view kind)).scopes

      begun : IsBegun mains is_block own h
      begun = heading_begun mains is_block s around gs f

      subs : ruled.blocks.subs ≡ s.blocks.subs
      subs = heading_subs s own around gs (broken_sort h.state view kind)

      last : get_or (ruled.blocks.subs ++ head ∷ []) (length s.blocks.subs) no_sub ≡ head
      last =
          subst (λ (n : ℕ). get_or (ruled.blocks.subs ++ head ∷ []) n no_sub ≡ head) (ap length subs)
          (get_or-append_seam ruled.blocks.subs head [] no_sub)

      is_named : (whole : Bool) → IsFine mains is_block ruled.forms (ruled.blocks.subs ++ head ∷ []) i (sub_meaning whole (length s.blocks.subs))
      is_named false = tt
      is_named true = (
        let size = length-append ruled.blocks.subs (head ∷ []) in let count = ap length subs in omega (arith, size, count),
        ap (λ (y : SubHead). (is_block y.scope).outer) last ∙ stands,
      )

      is_own : (whole : Bool) → IsOwn (sub_meaning whole (length s.blocks.subs))
      is_own false = tt
      is_own true = tt

  process_headed_fine : (s : State) (i : ℕ) (outer : List Level) (many : Bool) (x : Text × Place) (gs : List GroupTree) → i < length s.blocks.scopes
      → mains i ≡ true → (is_block (length s.blocks.scopes)).outer ≡ 0 → is_some (is_block (length s.blocks.scopes)).guard ≡ false → F s
      → F (process_headed s i outer many x gs)
  process_headed_fine s i outer many x gs below main stands unguarded f =
      let own = length s.blocks.scopes in
      let h = heading (open_scope s) own (here s.blocks.scopes i outer) gs in
      let head : ProcessHead = record { formals = h.formals; entries = length s.blocks.entries; scope = own } in
      let begun = heading_begun mains is_block s (here s.blocks.scopes i outer) gs f in
      let there = begun.there in
      process_named_fine mains is_block (add_process h.state head) i many h.whole x (length s.blocks.processes) (omega (arith, below, there)) main
      (process_added mains is_block h.state.forms h.state.blocks.scopes h.state.blocks.subs h.state.blocks.processes head
      (record { below = begun.there; own = parameters_alone mains is_block own h h.state.blocks.scopes refl begun; outer = stands; guard = unguarded })
      begun.fine)

  export_one : (s : State) (m : Option Meaning) (p : Place) → F s → F (export_state s m p)
  export_one s (Some (Sub n)) p f = by (may_export (sub_at s.blocks n))
    where
      by : (b : Bool) → F (if b then export_sub s n else note s (unless false p 409))
      by true = export_fine mains is_block s n f
      by false = f
  export_one s (Some Faulty) p f = f
  export_one s m p f = f

  export_list_fine : (s : State) (i : ℕ) (xs : List (Text × Place)) → F s → F (export_list s i xs)
  export_list_fine s i [] f = f
  export_list_fine s i (x ∷ xs) f =
      let m = meaning_in (scope_at s.blocks.scopes i) x.0 in export_list_fine (export_state s m x.1) i xs (export_one s m x.1 f)

  exports_fine : (s : State) (i : ℕ) (lists : List (List (Text × Place))) → F s → F (exports_state s i lists)
  exports_fine s i [] f = f
  exports_fine s i (xs ∷ lists) f = exports_fine (export_list s i xs) i lists (export_list_fine s i xs f)

  module_closed_fine : (is_resource : Bool) (s : State) (i own : ℕ) (x : Text × Place) (exports : List (List (Text × Place))) → i < length s.blocks.scopes
      → F s → F (module_closed is_resource s i own x exports)
  module_closed_fine is_resource s i own x exports below f =
      let t = exports_state s own exports in
      let head : ModuleHead = record { scope = own; resource = is_resource } in
      let size = ap length (exports_kept s own exports).scopes in
      declare_fine mains is_block (add_module t head) i x (Module (length s.blocks.modules)) (omega (arith, below, size)) tt (inl tt)
      (exports_fine s own exports f)

  -- ## Parts

  module_fits : (is_resource : Bool) (own : ℕ) → (is_resource ≡ false → mains own ≡ true) → OwnerFits mains is_block (module_owner is_resource) own
  module_fits true own h = inr refl
  module_fits false own h = inl (h refl)

  mutual
    part_fine : (owner : Owner) (s : State) (i : ℕ) (outer : List Level) (next : ℕ) (q : PartTree) → length s.blocks.scopes ≡ next → i < next
        → OwnerFits mains is_block owner i → PartAgrees mains is_block i next q → F s → F (part_state owner s i outer q)
    part_fine owner s i outer next (consts items) at inside fits a f = consts_fine mains is_block s i outer items (omega (arith, at, inside)) f
    part_fine owner s i outer next (types items) at inside fits a f = types_fine mains is_block s i outer items (omega (arith, at, inside)) f
    part_fine owner s i outer next (vars vs) at inside fits a f = vars_fine mains is_block owner s i outer vs (omega (arith, at, inside)) fits f
    part_fine owner s i outer next (sub_part b) at inside fits a f = sub_fine s i outer next b at inside a f
    part_fine owner s i outer next (monitor m) at inside fits a f = module_fine false s i outer next m at inside (λ e. a.0) a.1 f
    part_fine owner s i outer next (resource m) at inside fits a f = module_fine true s i outer next m at inside (λ e. absurd (cc)) a f
    part_fine owner s i outer next (process_part q) at inside fits a f = process_fine s i outer next q at inside a.0 a.1 f

    parts_fine : (owner : Owner) (s : State) (i : ℕ) (outer : List Level) (next : ℕ) (qs : PartTrees) → length s.blocks.scopes ≡ next → i < next
        → OwnerFits mains is_block owner i → PartsAgree mains is_block i next qs → F s → F (parts_state owner s i outer qs)
    parts_fine owner s i outer next no_parts at inside fits a f = f
    parts_fine owner s i outer next (more_parts q qs) at inside fits a f =
        let count = (part_walked owner s i outer q (omega (arith, at, inside))).count in
        parts_fine owner (part_state owner s i outer q) i outer (next + part_scopes q) qs (omega (arith, count, at)) (omega (arith, inside)) fits a.1
        (part_fine owner s i outer next q at inside fits a.0 f)

    sub_fine : (s : State) (i : ℕ) (outer : List Level) (next : ℕ) (b : SubTree) → length s.blocks.scopes ≡ next → i < next
        → SubAgrees mains is_block i next b → F s → F (sub_state s i outer b)
    sub_fine s i outer next (sub x gs kind ps b p) at inside a f =
        let own = length s.blocks.scopes in
        let headed = sub_headed s i outer (x, p) gs kind in
        let around = here headed.blocks.scopes i outer in
        let declared = parts_state elsewhere headed own around ps in
        let done = body_state declared (here declared.blocks.scopes own around) b in
        let count = (sub_headed_walked s i outer (x, p) gs kind (omega (arith, at, inside))).count in
        note_fine mains is_block done (cells_rule (scope_cells done.forms (scope_at done.blocks.scopes own) + result_cells kind) p)
        (body_fine declared (here declared.blocks.scopes own around) b
        (parts_fine elsewhere headed own around (next + 1) ps (omega (arith, count, at)) (omega (arith, at)) (inr refl)
        (subst (λ (n : ℕ). PartsAgree mains is_block n (next + 1) ps) (sym at) a.2)
        (sub_headed_fine s i outer (x, p) gs kind (omega (arith, at, inside)) (subst (λ (n : ℕ). (is_block n).outer ≡ i) (sym at) a.0)
        (subst (λ (n : ℕ). is_some (is_block n).guard ≡ is_guarded kind) (sym at) a.1) f)))

    module_fine : (is_resource : Bool) (s : State) (i : ℕ) (outer : List Level) (next : ℕ) (m : ModuleTree) → length s.blocks.scopes ≡ next → i < next
        → (is_resource ≡ false → mains next ≡ true) → ModuleAgrees mains is_block next m → F s → F (module_state is_resource s i outer m)
    module_fine is_resource s i outer next (the_module x exports ps b last p) at inside main a f =
        let own = length s.blocks.scopes in
        let around = here s.blocks.scopes i outer in
        let declared = parts_state (module_owner is_resource) (open_scope s) own around ps in
        let view = here declared.blocks.scopes own around in
        let more = length-append s.blocks.scopes ([] ∷ []) in
        let count = (parts_walked (module_owner is_resource) (open_scope s) own around ps (omega (arith, more))).count in
        let opened = (init_opened declared view b).count in
        module_closed_fine is_resource (init_state declared view b) i own (x, p) exports (omega (arith, count, opened, more, at, inside))
        (init_fine declared view b
        (parts_fine (module_owner is_resource) (open_scope s) own around (next + 1) ps (omega (arith, more, at)) (omega (arith, at))
        (module_fits is_resource own (λ e. subst (λ (n : ℕ). mains n ≡ true) (sym at) (main e)))
        (subst (λ (n : ℕ). PartsAgree mains is_block n (next + 1) ps) (sym at) a) (open_fine mains is_block s f)))

    process_fine : (s : State) (i : ℕ) (outer : List Level) (next : ℕ) (q : ProcessTree) → length s.blocks.scopes ≡ next → i < next → mains i ≡ true
        → ProcessAgrees mains is_block next q → F s → F (process_state s i outer q)
    process_fine s i outer next (process many x gs es ps b p) at inside main a f =
        let own = length s.blocks.scopes in
        let headed = process_headed s i outer many (x, p) gs in
        let around = here headed.blocks.scopes i outer in
        let entered = entries_state headed own around 0 es in
        let declared = parts_state elsewhere entered own around ps in
        let done = body_state declared (here declared.blocks.scopes own around) b in
        let first = (process_headed_walked s i outer many (x, p) gs (omega (arith, at, inside))).count in
        let second = (entries_walked headed own around 0 es (omega (arith, first, at))).count in
        note_fine mains is_block done (cells_rule (process_cells done own (length declared.blocks.scopes)) p)
        (body_fine declared (here declared.blocks.scopes own around) b
        (parts_fine elsewhere entered own around (next + 1) ps (omega (arith, first, second, at)) (omega (arith, at)) (inr refl)
        (subst (λ (n : ℕ). PartsAgree mains is_block n (next + 1) ps) (sym at) a.2)
        (entries_fine mains is_block headed own around 0 es (omega (arith, first))
        (process_headed_fine s i outer many (x, p) gs (omega (arith, at, inside)) main (subst (λ (n : ℕ). (is_block n).outer ≡ 0) (sym at) a.0)
        (subst (λ (n : ℕ). is_some (is_block n).guard ≡ false) (sym at) a.1) f))))

  -- ## The program

  begun_fine : F begun
  begun_fine =
      record {
        six = omega arith;
        names = by;
        subs_fine = λ n below. absurd (omega (arith, below));
        processes_fine = λ n below. absurd (omega (arith, below));
      }
    where
      by : (i : ℕ) → All (λ x. IsFine mains is_block begun.forms begun.blocks.subs i x.1) (scope_at begun.blocks.scopes i)
      by zero = All-nil (λ (x : Text × Meaning). IsFine mains is_block begun.forms begun.blocks.subs 0 x.1)
      by (suc i) = All-nil (λ (x : Text × Meaning). IsFine mains is_block begun.forms begun.blocks.subs (suc i) x.1)

  -- of a program whose blocks stand as its parts say
  pub finished_fine : (t : ProgramTree) → mains 0 ≡ true → PartsAgree mains is_block 0 1 t.parts → F (finished t)
  finished_fine t main a =
      let s = declared_parts t in
      let done = declared_all t in
      note_fine mains is_block done (cells_rule (main_cells done) t.name.1)
      (body_fine s (here s.blocks.scopes 0 []) t.body (parts_fine in_program begun 0 [] 1 t.parts refl (omega arith) (inl main) a begun_fine))
