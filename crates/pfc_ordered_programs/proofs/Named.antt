-- Which subs and modules are named in a scope, as far as declarations have come.
use Rattle.std.proofs.Common.{◌≡◌, ◌≢◌, ℕ, ◌+◌, ◌≤◌, ◌<◌, ◌&&◌, ◌⊎◌, inl, inr, Bool, true, false, if◌then◌else◌, List, [], ◌∷◌, ◌++◌, length}
use Rattle.std.proofs.Common.{length-append, length-set, get_or, set, Option, Some, None, refl, sym, ap, ◌∙◌, subst, arith}
use Rattle.std.proofs.Math.ListN.{get_or-append}
use Rattle.std.proofs.Math.Seq.{get_or-append_seam}
use Rattle.pfc_base.specs.declared.places.Place.{Place}
use Rattle.pfc_tree.specs.Symbols.{Text}
use Rattle.pfc_tree.specs.trees.Types.{GroupTree}
use Rattle.pfc_tree.specs.trees.Stmts.{BodyTree}
use Rattle.pfc_tree.specs.trees.Parts.{KindTree, PartTree, PartTrees, SubTree, ModuleTree, ProcessTree, procedure, function, guarded, consts, types, vars}
use Rattle.pfc_tree.specs.trees.Parts.{sub_part}
use Rattle.pfc_tree.specs.trees.Parts.{monitor, resource, process_part, no_parts, more_parts, sub, the_module, process}
use Rattle.pfc_tree.specs.forget.Parts.{forget_part, forget_parts, forget_sub, forget_kind, forget_module, forget_process}
use Rattle.pfc_tree.specs.lawful.Parts.{Home, of_resource, of_other, HoldsModules, HoldsGuarded, IsLawfulKind, IsLawfulPart, AreLawfulParts, IsLawfulSub}
use Rattle.pfc_tree.specs.lawful.Parts.{IsLawfulModule, IsLawfulProcess}
use Rattle.pfc_types.specs.Faults.{Faults, unless}
use Rattle.pfc_types.specs.Scopes.{Level, scope_at, here, meaning_in}
use Rattle.pfc_types.specs.Blocks.{State, no_sub, sub_at, note, add_sub, add_module, add_process, export_sub, open_scope}
use Rattle.pfc_types.specs.declared.heads.SubHead.{SubHead}
use Rattle.pfc_types.specs.declared.heads.SubSort.TheVariants.{Guarded}
use Rattle.pfc_types.specs.declared.heads.ProcessHead.{ProcessHead}
use Rattle.pfc_types.specs.declared.scope.Meaning.{Meaning}
use Rattle.pfc_types.specs.declared.scope.Meaning.TheVariants.{Constant, Named, Variable, Sub, Module, Process, Entry, Predeclared, Faulty}
use Rattle.pfc_types.specs.rules.Declarations.{Owner, elsewhere, Heading, heading, broken_sort, sort_of, whole_sort, sub_meaning, sub_headed, may_export}
use Rattle.pfc_types.specs.rules.Declarations.{export_state, export_list, exports_state, module_owner, module_closed, init_state, process_headed, entries_state}
use Rattle.pfc_types.specs.rules.Declarations.{process_cells, cells_rule, scope_cells, result_cells, body_state, part_state, parts_state, sub_state}
use Rattle.pfc_types.specs.rules.Declarations.{module_state, process_state}
use Rattle.pfc_types.specs.rules.Statements.{body_scopes}
use Rattle.pfc_types.specs.rules.Bodies.{is_guarded, part_scopes, parts_scopes, sub_scopes, module_scopes, process_scopes, init_scopes}
use Rattle.pfc_types.proofs.WalkDeclarations.{entries_walked}
use Rattle.pfc_types.proofs.WalkParts.{part_walked, sub_headed_walked, process_headed_walked}
use Rattle.pfc_declared_order.specs.Parts.{IsInPart}
use Rattle.pfc_checked_order.proofs.Names.{is_declared}
use Rattle.pfc_ordered_programs.proofs.Lists.{all_weaker, set_at}
use Rattle.pfc_ordered_programs.proofs.Plain.{AreFit, Adds, ◌⊳◌, moved, note_adds, open_adds, declare_adds, consts_adds, types_adds, vars_adds, groups_add}
use Rattle.pfc_ordered_programs.proofs.Plain.{entries_add, process_named_adds, body_adds, init_adds}
use Rattle.pfc_ordered_programs.proofs.Opening.{PartOpens, PartsOpen, SubOpens, ModuleOpens, ProcessOpens}

-- The part of the program in which a scope stands is told by a number, and which scopes may name what is declared.
module _ (top : ℕ → ℕ) (Open : ℕ → Type 0) where
  -- A sub that is named in the scope i stands in the same part, or the scope is the program's, in which no guarded procedure is named.
  pub record MayName (i : ℕ) (h : SubHead) : Type 0 where
    pub part : (i ≡ 0) ⊎ (top i ≡ top h.scope)
    pub some : 1 ≤ h.scope
    pub free : i ≡ 0 → h.sort ≢ Guarded
    pub declares : Open i

  -- modules are named in the program's scope alone
  abbrev pub MayStand : List SubHead → ℕ → Meaning → Type 0
  MayStand subs i (Sub n) = (n < length subs) × MayName i (get_or subs n no_sub)
  MayStand subs i (Module n) = i ≡ 0
  MayStand subs i m = Unit {0}

  abbrev pub Good : State → Type 0
  Good s = AreFit (MayStand s.blocks.subs) s.blocks.scopes

  plain_stands : (subs : List SubHead) (i : ℕ) (m : Meaning) → is_declared m ≡ false → MayStand subs i m
  plain_stands subs i (Constant t n) e = tt
  plain_stands subs i (Named t) e = tt
  plain_stands subs i (Variable t r) e = tt
  plain_stands subs i (Sub n) e = absurd (cc)
  plain_stands subs i (Module n) e = absurd (cc)
  plain_stands subs i (Process n) e = tt
  plain_stands subs i (Entry n) e = tt
  plain_stands subs i (Predeclared n) e = tt
  plain_stands subs i Faulty e = tt

  good_then : (s t : State) → Adds (MayStand s.blocks.subs) s t → Good s → Good t
  good_then s t a h = subst (λ (l : List SubHead). AreFit (MayStand l) t.blocks.scopes) (sym a.subs) (a.names h)

  pub body_good : (s : State) (view : List Level) (b : BodyTree) → Good s → Good (body_state s view b)
  body_good s view b h = good_then s (body_state s view b) (body_adds (MayStand s.blocks.subs) (plain_stands s.blocks.subs) s view b) h

  pub note_good : (s : State) (fs : Faults) → Good s → Good (note s fs)
  note_good s fs h = good_then s (note s fs) (note_adds (MayStand s.blocks.subs) s fs) h

  -- ## A heading more

  sub_more : (subs : List SubHead) (head : SubHead) (i : ℕ) (m : Meaning) → MayStand subs i m → MayStand (subs ++ head ∷ []) i m
  sub_more subs head i (Sub n) h = (
    let more = length-append subs (head ∷ []) in let low = h.0 in omega (arith, low, more),
    subst (λ (x : SubHead). MayName i x) (sym (get_or-append subs (head ∷ []) no_sub n h.0)) h.1,
  )
  sub_more subs head i (Module n) h = h
  sub_more subs head i (Constant t n) h = tt
  sub_more subs head i (Named t) h = tt
  sub_more subs head i (Variable t r) h = tt
  sub_more subs head i (Process n) h = tt
  sub_more subs head i (Entry n) h = tt
  sub_more subs head i (Predeclared n) h = tt
  sub_more subs head i Faulty h = tt

  add_good : (s : State) (head : SubHead) → Good s → Good (add_sub s head)
  add_good s head h i =
      all_weaker (λ (x : Text × Meaning). MayStand s.blocks.subs i x.1) (λ (x : Text × Meaning). MayStand (s.blocks.subs ++ head ∷ []) i x.1)
      (λ x e. sub_more s.blocks.subs head i x.1 e) (scope_at s.blocks.scopes i) (h i)

  -- a heading that is exported stands where it did
  exported_name : (i : ℕ) (h : SubHead) → MayName i h → MayName i (record h { exported = true })
  exported_name i h is = record { part = is.part; some = is.some; free = is.free; declares = is.declares }

  export_more : (subs : List SubHead) (n i : ℕ) (m : Meaning) → MayStand subs i m
      → MayStand (set subs n (record (get_or subs n no_sub) { exported = true })) i m
  export_more subs n i (Sub k) h = (
    let size = length-set subs n (record (get_or subs n no_sub) { exported = true }) in let low = h.0 in omega (arith, low, size),
    set_at (λ (j : ℕ) (x : SubHead). MayName i (get_or subs j no_sub) → MayName i x) subs n k (record (get_or subs n no_sub) { exported = true }) no_sub
        (λ e. e) (λ e. exported_name i (get_or subs n no_sub) e) h.1,
  )
  export_more subs n i (Module v) h = h
  export_more subs n i (Constant t v) h = tt
  export_more subs n i (Named t) h = tt
  export_more subs n i (Variable t r) h = tt
  export_more subs n i (Process v) h = tt
  export_more subs n i (Entry v) h = tt
  export_more subs n i (Predeclared v) h = tt
  export_more subs n i Faulty h = tt

  export_good : (s : State) (n : ℕ) → Good s → Good (export_sub s n)
  export_good s n h i =
      all_weaker (λ (x : Text × Meaning). MayStand s.blocks.subs i x.1)
      (λ (x : Text × Meaning). MayStand (set s.blocks.subs n (record (sub_at s.blocks n) { exported = true })) i x.1)
      (λ x e. export_more s.blocks.subs n i x.1 e) (scope_at s.blocks.scopes i) (h i)

  export_one : (s : State) (m : Option Meaning) (p : Place) → Good s → Good (export_state s m p)
  export_one s None p h = note_good s (unless false p 409) h
  export_one s (Some (Constant t v)) p h = note_good s (unless false p 409) h
  export_one s (Some (Named t)) p h = note_good s (unless false p 409) h
  export_one s (Some (Variable t r)) p h = note_good s (unless false p 409) h
  export_one s (Some (Sub n)) p h = by (may_export (sub_at s.blocks n))
    where
      by : (b : Bool) → Good (if b then export_sub s n else note s (unless false p 409))
      by true = export_good s n h
      by false = note_good s (unless false p 409) h
  export_one s (Some (Module n)) p h = note_good s (unless false p 409) h
  export_one s (Some (Process n)) p h = note_good s (unless false p 409) h
  export_one s (Some (Entry n)) p h = note_good s (unless false p 409) h
  export_one s (Some (Predeclared k)) p h = note_good s (unless false p 409) h
  export_one s (Some Faulty) p h = h

  export_list_good : (s : State) (i : ℕ) (xs : List (Text × Place)) → Good s → Good (export_list s i xs)
  export_list_good s i [] h = h
  export_list_good s i (x ∷ xs) h =
      let m = meaning_in (scope_at s.blocks.scopes i) x.0 in export_list_good (export_state s m x.1) i xs (export_one s m x.1 h)

  exports_good : (s : State) (i : ℕ) (lists : List (List (Text × Place))) → Good s → Good (exports_state s i lists)
  exports_good s i [] h = h
  exports_good s i (xs ∷ lists) h = exports_good (export_list s i xs) i lists (export_list_good s i xs h)

  -- ## Headings

  is_guard : (s : State) (view : List Level) (kind : KindTree) → sort_of s view kind ≡ Guarded → is_guarded kind ≡ true
  is_guard s view procedure e = absurd (cc)
  is_guard s view (function x p) e = absurd (cc)
  is_guard s view (guarded test p) e = refl

  sub_headed_good :
      (s : State) (i : ℕ) (outer : List Level) (x : Text × Place) (gs : List GroupTree) (kind : KindTree) → 1 ≤ length s.blocks.scopes
      → (i ≡ 0) ⊎ (top i ≡ top (length s.blocks.scopes)) → (i ≡ 0 → is_guarded kind ≡ true → ⊥) → Open i → Good s
      → Good (sub_headed s i outer x gs kind)
  sub_headed_good s i outer x gs kind some part free declares good =
      good_then (add_sub ruled head) (sub_headed s i outer x gs kind)
      (declare_adds (MayStand (ruled.blocks.subs ++ head ∷ [])) (add_sub ruled head) i x
      (sub_meaning (h.whole && whole_sort head.sort) (length s.blocks.subs)) (stands (h.whole && whole_sort head.sort)))
      (add_good ruled head (good_then s ruled begun good))
    where
      own : ℕ
      own = length s.blocks.scopes

      around : List Level
      around = here s.blocks.scopes i outer

      h : Heading
      h = heading (open_scope s) own around gs

      view : List Level
      view = here h.state.blocks.scopes own around

      head : SubHead
      head = record { formals = h.formals; sort = sort_of h.state view kind; scope = own; exported = false }

      ruled : State
      ruled = note h.state (broken_sort h.state view kind)

      begun : Adds (MayStand s.blocks.subs) s ruled
      begun =
          note_adds (MayStand s.blocks.subs) h.state (broken_sort h.state view kind)
          ⊳ (groups_add (MayStand s.blocks.subs) (plain_stands s.blocks.subs) own around (record { state = open_scope s; formals = []; whole = true }) gs
          ⊳ open_adds (MayStand s.blocks.subs) s)

      last : get_or (ruled.blocks.subs ++ head ∷ []) (length s.blocks.subs) no_sub ≡ head
      last =
          subst (λ (n : ℕ). get_or (ruled.blocks.subs ++ head ∷ []) n no_sub ≡ head) (ap length begun.subs)
          (get_or-append_seam ruled.blocks.subs head [] no_sub)

      named : MayName i head
      named = record { part = part; some = some; free = λ e sort. free e (is_guard h.state view kind sort); declares = declares }

      stands : (whole : Bool) → MayStand (ruled.blocks.subs ++ head ∷ []) i (sub_meaning whole (length s.blocks.subs))
      stands false = tt
      stands true = (
        let size = length-append ruled.blocks.subs (head ∷ []) in let count = ap length begun.subs in omega (arith, size, count),
        subst (λ (y : SubHead). MayName i y) (sym last) named,
      )

  process_headed_good :
      (s : State) (i : ℕ) (outer : List Level) (many : Bool) (x : Text × Place) (gs : List GroupTree) → Good s
      → Good (process_headed s i outer many x gs)
  process_headed_good s i outer many x gs good =
      let P = MayStand s.blocks.subs in
      let own = length s.blocks.scopes in
      let around = here s.blocks.scopes i outer in
      let h = heading (open_scope s) own around gs in
      let head : ProcessHead = record { formals = h.formals; entries = length s.blocks.entries; scope = own } in
      good_then s (process_headed s i outer many x gs)
      (process_named_adds P (plain_stands s.blocks.subs) (add_process h.state head) i many h.whole x (length s.blocks.processes)
      ⊳ (moved P h.state (add_process h.state head) refl refl
      ⊳ (groups_add P (plain_stands s.blocks.subs) own around (record { state = open_scope s; formals = []; whole = true }) gs ⊳ open_adds P s)))
      good

  module_closed_good :
      (is_resource : Bool) (s : State) (i own : ℕ) (x : Text × Place) (exports : List (List (Text × Place))) → i ≡ 0 → Good s
      → Good (module_closed is_resource s i own x exports)
  module_closed_good is_resource s i own x exports program good =
      let t = exports_state s own exports in
      let closed = add_module t (record { scope = own; resource = is_resource }) in
      good_then closed (module_closed is_resource s i own x exports)
      (declare_adds (MayStand t.blocks.subs) closed i x (Module (length s.blocks.modules)) program) (exports_good s own exports good)

  -- ## Parts

  module _ (lo hi : ℕ) (first : 1 ≤ lo) (same : (j : ℕ) → lo ≤ j → j < hi → top j ≡ lo) where
    -- so many scopes of this part of the program, of what stands in the scope i
    pub record IsAt (h : Home) (i next size : ℕ) : Type 0 where
      pub before : i < next
      pub low : lo ≤ next
      pub high : next + size ≤ hi
      pub around : IsInPart lo hi i
      pub modules : HoldsModules h → i ≡ 0
      pub guards : i ≡ 0 → HoldsGuarded h → ⊥
      pub declares : Open i

    at_first : (h : Home) (i next a b : ℕ) → IsAt h i next (a + b) → IsAt h i next a
    at_first h i next a b is =
        record {
          before = is.before;
          low = is.low;
          high = (let high = is.high in omega (arith, high));
          around = is.around;
          modules = is.modules;
          guards = is.guards;
          declares = is.declares;
        }

    at_rest : (h : Home) (i next a b : ℕ) → IsAt h i next (a + b) → IsAt h i (next + a) b
    at_rest h i next a b is =
        record {
          before = (let before = is.before in omega (arith, before));
          low = (let low = is.low in omega (arith, low));
          high = (let high = is.high in omega (arith, high));
          around = is.around;
          modules = is.modules;
          guards = is.guards;
          declares = is.declares;
        }

    -- in a scope of its own, of what holds no modules
    at_inner : (h g : Home) (i next k more : ℕ) → IsAt h i next (1 + k + more) → (HoldsModules g → ⊥) → Open next → IsAt g next (next + 1) k
    at_inner h g i next k more is none declares =
        record {
          before = omega arith;
          low = (let low = is.low in omega (arith, low));
          high = (let high = is.high in omega (arith, high));
          around = inr (is.low, (let high = is.high in omega (arith, high)));
          modules = λ holds. absurd (none holds);
          guards = λ program holds. (let low = is.low in omega (arith, program, low, first));
          declares = declares;
        }

    stands_in : (h : Home) (i next k more : ℕ) → IsAt h i next (1 + k + more) → (own : ℕ) → own ≡ next → (i ≡ 0) ⊎ (top i ≡ top own)
    stands_in h i next k more is own at = by is.around
      where
        by : IsInPart lo hi i → (i ≡ 0) ⊎ (top i ≡ top own)
        by (inl program) = inl program
        by (inr both) =
            inr (same i both.0 both.1 ∙ sym (same own (let low = is.low in omega (arith, low, at)) (let high = is.high in omega (arith, high, at))))

    -- a guarded procedure has its home
    has_home : (h : Home) (kind : KindTree) → IsLawfulKind h (forget_kind kind) → is_guarded kind ≡ true → HoldsGuarded h
    has_home h procedure lawful e = absurd (cc)
    has_home h (function x p) lawful e = absurd (cc)
    has_home h (guarded test p) lawful e = lawful.0

    mutual
      pub part_good :
          (h : Home) (owner : Owner) (s : State) (i : ℕ) (outer : List Level) (next : ℕ) (q : PartTree) → length s.blocks.scopes ≡ next
          → IsAt h i next (part_scopes q) → ((j : ℕ) → PartOpens next q j → Open j) → IsLawfulPart h (forget_part q) → Good s
          → Good (part_state owner s i outer q)
      part_good h owner s i outer next (consts items) at is opens lawful good =
          good_then s (part_state owner s i outer (consts items))
          (consts_adds (MayStand s.blocks.subs) (plain_stands s.blocks.subs) s i outer items) good
      part_good h owner s i outer next (types items) at is opens lawful good =
          good_then s (part_state owner s i outer (types items))
          (types_adds (MayStand s.blocks.subs) (plain_stands s.blocks.subs) s i outer items) good
      part_good h owner s i outer next (vars vs) at is opens lawful good =
          good_then s (part_state owner s i outer (vars vs))
          (vars_adds (MayStand s.blocks.subs) (plain_stands s.blocks.subs) owner s i outer vs) good
      part_good h owner s i outer next (sub_part b) at is opens lawful good = sub_good h s i outer next b at is opens lawful good
      part_good h owner s i outer next (monitor m) at is opens lawful good =
          module_good h of_other false s i outer next m at is opens (λ e. e) lawful.0 lawful.1 good
      part_good h owner s i outer next (resource m) at is opens lawful good =
          module_good h of_resource true s i outer next m at is opens (λ e. e) lawful.0 lawful.1 good
      part_good h owner s i outer next (process_part q) at is opens lawful good = process_good h s i outer next q at is opens lawful.1 good

      parts_good :
          (h : Home) (owner : Owner) (s : State) (i : ℕ) (outer : List Level) (next : ℕ) (qs : PartTrees) → length s.blocks.scopes ≡ next
          → IsAt h i next (parts_scopes qs) → ((j : ℕ) → PartsOpen next qs j → Open j) → AreLawfulParts h (forget_parts qs) → Good s
          → Good (parts_state owner s i outer qs)
      parts_good h owner s i outer next no_parts at is opens lawful good = good
      parts_good h owner s i outer next (more_parts q qs) at is opens lawful good =
          let before = is.before in
          let count = (part_walked owner s i outer q (omega (arith, at, before))).count in
          parts_good h owner (part_state owner s i outer q) i outer (next + part_scopes q) qs (omega (arith, count, at))
          (at_rest h i next (part_scopes q) (parts_scopes qs) is) (λ j e. opens j (inr e)) lawful.1
          (part_good h owner s i outer next q at (at_first h i next (part_scopes q) (parts_scopes qs) is) (λ j e. opens j (inl e)) lawful.0 good)

      sub_good :
          (h : Home) (s : State) (i : ℕ) (outer : List Level) (next : ℕ) (b : SubTree) → length s.blocks.scopes ≡ next
          → IsAt h i next (sub_scopes b) → ((j : ℕ) → SubOpens next b j → Open j) → IsLawfulSub h (forget_sub b) → Good s
          → Good (sub_state s i outer b)
      sub_good h s i outer next (sub x gs kind ps b p) at is opens lawful good =
          let own = length s.blocks.scopes in
          let headed = sub_headed s i outer (x, p) gs kind in
          let around = here headed.blocks.scopes i outer in
          let declared = parts_state elsewhere headed own around ps in
          let done = body_state declared (here declared.blocks.scopes own around) b in
          let before = is.before in
          let count = (sub_headed_walked s i outer (x, p) gs kind (omega (arith, at, before))).count in
          note_good done (cells_rule (scope_cells done.forms (scope_at done.blocks.scopes own) + result_cells kind) p)
          (body_good declared (here declared.blocks.scopes own around) b
          (parts_good of_other elsewhere headed own around (next + 1) ps (omega (arith, count, at))
          (subst (λ (n : ℕ). IsAt of_other n (next + 1) (parts_scopes ps)) (sym at)
          (at_inner h of_other i next (parts_scopes ps) (body_scopes b) is (λ e. e) (opens next (inl refl)))) (λ j e. opens j (inr e)) lawful.2
          (sub_headed_good s i outer (x, p) gs kind (omega (arith, at, before))
          (stands_in h i next (parts_scopes ps) (body_scopes b) is own at)
          (λ program guard. is.guards program (has_home h kind lawful.1 guard)) is.declares good)))

      module_good :
          (h home : Home) (is_resource : Bool) (s : State) (i : ℕ) (outer : List Level) (next : ℕ) (m : ModuleTree) → length s.blocks.scopes ≡ next
          → IsAt h i next (module_scopes m) → ((j : ℕ) → ModuleOpens next m j → Open j) → (HoldsModules home → ⊥) → HoldsModules h
          → IsLawfulModule home (forget_module m) → Good s → Good (module_state is_resource s i outer m)
      module_good h home is_resource s i outer next (the_module x exports ps b last p) at is opens none holds lawful good =
          let own = length s.blocks.scopes in
          let around = here s.blocks.scopes i outer in
          let begun = open_scope s in
          let declared = parts_state (module_owner is_resource) begun own around ps in
          let view = here declared.blocks.scopes own around in
          let more = length-append s.blocks.scopes ([] ∷ []) in
          module_closed_good is_resource (init_state declared view b) i own (x, p) exports (is.modules holds)
          (good_then declared (init_state declared view b) (init_adds (MayStand declared.blocks.subs) (plain_stands declared.blocks.subs) declared view b)
          (parts_good home (module_owner is_resource) begun own around (next + 1) ps (omega (arith, more, at))
          (subst (λ (n : ℕ). IsAt home n (next + 1) (parts_scopes ps)) (sym at)
          (at_inner h home i next (parts_scopes ps) (init_scopes b) is none (opens next (inl refl)))) (λ j e. opens j (inr e)) lawful.1
          (good_then s begun (open_adds (MayStand s.blocks.subs) s) good)))

      process_good :
          (h : Home) (s : State) (i : ℕ) (outer : List Level) (next : ℕ) (q : ProcessTree) → length s.blocks.scopes ≡ next
          → IsAt h i next (process_scopes q) → ((j : ℕ) → ProcessOpens next q j → Open j) → IsLawfulProcess (forget_process q) → Good s
          → Good (process_state s i outer q)
      process_good h s i outer next (process many x gs es ps b p) at is opens lawful good =
          let own = length s.blocks.scopes in
          let headed = process_headed s i outer many (x, p) gs in
          let around = here headed.blocks.scopes i outer in
          let entered = entries_state headed own around 0 es in
          let declared = parts_state elsewhere entered own around ps in
          let done = body_state declared (here declared.blocks.scopes own around) b in
          let before = is.before in
          let one = (process_headed_walked s i outer many (x, p) gs (omega (arith, at, before))).count in
          let two = (entries_walked headed own around 0 es (omega (arith, one))).count in
          note_good done (cells_rule (process_cells done own (length declared.blocks.scopes)) p)
          (body_good declared (here declared.blocks.scopes own around) b
          (parts_good of_other elsewhere entered own around (next + 1) ps (omega (arith, one, two, at))
          (subst (λ (n : ℕ). IsAt of_other n (next + 1) (parts_scopes ps)) (sym at)
          (at_inner h of_other i next (parts_scopes ps) (body_scopes b) is (λ e. e) (opens next (inl refl)))) (λ j e. opens j (inr e)) lawful.2
          (good_then headed entered
          (entries_add (MayStand headed.blocks.subs) (plain_stands headed.blocks.subs) headed own around 0 es)
          (process_headed_good s i outer many (x, p) gs good))))
