-- The code of an activation and of the call of an entry follows the next action of its source text, and so does that of every call.
use Rattle.std.proofs.Common.{◌≡◌, ℕ, suc, ◌+◌, ◌≤◌, ℤ, pos, List, [], ◌∷◌, length, option_map, Option, Some, None, refl, sym, ap, ◌∙◌, subst, arith}
use Rattle.std.proofs.Common.{inl}
use Rattle.pfc_base.specs.declared.places.Place.{Place}
use Rattle.pfc_code.specs.declared.instructions.Instr.{Instr}
use Rattle.pfc_code.specs.declared.instructions.Instr.TheVariants.{OBJ, NEW, ECALL}
use Rattle.pfc_tree.specs.Symbols.{Text}
use Rattle.pfc_tree.specs.trees.Exprs.{DesigTree, SelectorTrees, ExprTrees, ActualTrees, desig, index, field, no_selectors, more_selectors, no_exprs}
use Rattle.pfc_tree.specs.trees.Exprs.{more_exprs}
use Rattle.pfc_types.specs.Types.{Forms, array_form, field_form}
use Rattle.pfc_types.specs.Scopes.{Level, meaning_of, meaning_in, scope_at}
use Rattle.pfc_types.specs.Blocks.{module_at, process_at, entry_at}
use Rattle.pfc_types.specs.rules.Expressions.{find, selected, field_type}
use Rattle.pfc_types.specs.rules.Calls.{last_field, before_last}
use Rattle.pfc_types.specs.declared.types.TypeId.{TypeId}
use Rattle.pfc_types.specs.declared.scope.Meaning.{Meaning}
use Rattle.pfc_types.specs.declared.scope.Meaning.TheVariants.{Constant, Named, Variable, Sub, Module, Process, Entry, Predeclared, Faulty}
use Rattle.pfc_types.specs.declared.types.TypeForm.{TypeForm}
use Rattle.pfc_types.specs.declared.heads.Formal.{Formal}
use Rattle.pfc_types.specs.declared.heads.ProcessHead.{ProcessHead}
use Rattle.pfc_types.specs.declared.view.Around.{Around}
use Rattle.pfc_types.specs.declared.view.Found.{Found}
use Rattle.pfc_semantics.specs.Displays.{TypedSpot}
use Rattle.pfc_semantics.specs.Predeclared.{procedure_of}
use Rattle.pfc_semantics.specs.Programs.{Block, block_number}
use Rattle.pfc_semantics.specs.Remainders.{Context, Remainder, AwaitsLocation, Call, Action, activate_with, enter_with, to_process, to_entry}
use Rattle.pfc_semantics.specs.Expressions.{spot_of, form_in, from_selectors, from_args}
use Rattle.pfc_semantics.specs.Statements.{name_in_process, process_of_type, from_activation, from_entry, from_process, from_field, from_called_variable}
use Rattle.pfc_semantics.specs.Statements.{from_called_process, from_exported, from_module, from_called, from_call}
use Rattle.pfc_translation.specs.Sites.{Site, blocks_of}
use Rattle.pfc_translation.specs.Codes.{Code, ◌⨾◌, one}
use Rattle.pfc_translation.specs.Addresses.{base_code, element_in, type_behind}
use Rattle.pfc_translation.specs.Expressions.{args_code, selectors_code}
use Rattle.pfc_translation.specs.Calls.{formals_cells, exported_code, module_code, activation_code, entry_code, process_code, field_code, called_variable}
use Rattle.pfc_translation.specs.Calls.{called_process, called_code, found_code, call_code}
use Rattle.pfc_code_laws.proofs.Expressions.{plain_selectors}
use Rattle.pfc_standing_code.specs.Settings.{Setting, of_own, site_of, IsAt, Stands}
use Rattle.pfc_standing_code.specs.Typed.{IsDeclared, IsField as IsPartField, AreArguments, AreSelectors, AreIndices}
use Rattle.pfc_standing_code.specs.TypedStatements.{HasProcessForm, IsProcessType, IsActivation, IsEntryCall, IsEntry, IsProcess, IsField, IsCalledVariable}
use Rattle.pfc_standing_code.specs.TypedStatements.{IsCalledProcess, IsExported, IsModuleCall, IsCalled, IsCall}
use Rattle.pfc_standing_code.specs.Words.{first_word, IsWord, IsObject, IsChecked, none_held, Lends, LendsAt}
use Rattle.pfc_standing_code.specs.Performs.{Performs}
use Rattle.pfc_standing_code.specs.Awaits.{ObjectThen, TakesLocation, CallsAt}
use Rattle.pfc_standing_code.specs.Following.{Follows}
use Rattle.pfc_standing_code.proofs.Sizes.{sized_both, sized_plain, sized_base, sized_args}
use Rattle.pfc_following_expressions.proofs.Glue.{front, back, lone}
use Rattle.pfc_following_expressions.proofs.Held.{held_grown, args_change, part_changes}
use Rattle.pfc_following_expressions.proofs.Expressions.{env_in, whole_part, base_follows, address_follows, selectors_follow}
use Rattle.pfc_following_expressions.proofs.Moves.{follows_moved}
use Rattle.pfc_following_expressions.proofs.Anywhere.{arguments_follow}
use Rattle.pfc_following_statements.proofs.Grouping.{first_joined}
use Rattle.pfc_following_statements.proofs.Simple.{process_is_object, performs_moved, object_parts, numbered_follows}
use Rattle.pfc_following_statements.proofs.Items.{sub_follows, exported_follows}
use Rattle.pfc_following_statements.proofs.Procedures.{procedure_follows}

-- a field has a type
field_behind : (forms : Forms) (t : Option TypeId) (y : Text) → (is : IsPartField forms t y) → field_type forms t y ≡ Some is.part
field_behind forms t y is =
    ap (λ (o : Option TypeId). field_type forms o y) is.typed ∙ ap (λ (f : Option TypeForm). field_form f y) is.form ∙ is.named

module _ (g : Setting) (b : Block) (names : List Level) (around : Around) (checked : IsChecked g b (env_in g names around)) (few : 0 ≤ g.arms)
    (own : g.trial ≡ of_own) (line : ℕ) where
  abbrev x : Context
  x = record { env = env_in g names around; line = line }

  abbrev s : Site
  s = site_of g b x

  abbrev left : ℕ → List ℤ → Remainder → Type 0
  left at ops k = Performs g b (env_in g names around) at ops [] k

  -- the code of a variable's part
  abbrev part : TypedSpot → SelectorTrees → Code
  part v ss = base_code s v.spot ⨾ selectors_code s v.t ss

  -- ## Selectors that lead to a single process

  -- There are none: behind an index or a field there is a type.
  behind_indices : (es : ExprTrees) (t : TypeId) → AreIndices s (Some t) es → (u : TypeId) × (type_behind g.program.state.forms (Some t) es ≡ Some u)
  behind_indices no_exprs t are = (t, refl)
  behind_indices (more_exprs e es) t are =
      let array = are.0 in
      let same : Some array.whole ≡ Some t = sym array.typed in
      let form = ap (λ (o : Option TypeId). form_in g.program.state.forms o) (sym same) ∙ array.form in
      let element : element_in g.program.state.forms (Some t) ≡ Some array.element = ap (λ (f : Option TypeForm). option_map (λ both. both.1) (array_form f))
      form in
      let rest = behind_indices es array.element (subst (λ (o : Option TypeId). AreIndices s o es) element are.2) in
      (rest.0, ap (λ (o : Option TypeId). type_behind g.program.state.forms o es) element ∙ rest.1)

  leads_nowhere : (ss : SelectorTrees) (t : TypeId) → AreSelectors s (Some t) ss None → ⊥
  leads_nowhere no_selectors t are = cc
  leads_nowhere (more_selectors (index es p) ss) t are =
      let behind = behind_indices es t are.0 in leads_nowhere ss behind.0 (subst (λ (o : Option TypeId). AreSelectors s o ss None) behind.1 are.1)
  leads_nowhere (more_selectors (field y p) ss) t are =
      let behind = field_behind g.program.state.forms (Some t) y are.0 in leads_nowhere ss are.0.part
      (subst (λ (o : Option TypeId). AreSelectors s o ss None) behind are.1)

  -- so nothing is done between
  bare_follows :
      (ss : SelectorTrees) (v : TypedSpot) (w : ℤ) (goal : AwaitsLocation) (go : TypedSpot → Action) (at to : ℕ) (ops : List ℤ) → AreSelectors s v.t ss None
      → at + (selectors_code s v.t ss).size ≡ to → (v.t ≡ None → Follows g (go v) to (w ∷ ops) []) → Follows g (from_selectors x v ss goal go) at (w ∷ ops) []
  bare_follows no_selectors v w goal go at to ops are ends on = follows_moved g [] few to at (sym ends ∙ omega arith) (on are)
  bare_follows (more_selectors (index no_exprs p) ss) v w goal go at to ops are ends on = bare_follows ss v w goal go at to ops are.1 (omega (arith, ends)) on
  bare_follows (more_selectors (index (more_exprs e es) p) ss) v w goal go at to ops are ends on =
      let array = are.0.0 in
      absurd (leads_nowhere (more_selectors (index (more_exprs e es) p) ss) array.whole
      (subst (λ (o : Option TypeId). AreSelectors s o (more_selectors (index (more_exprs e es) p) ss) None) array.typed are))
  bare_follows (more_selectors (field y p) ss) v w goal go at to ops are ends on =
      absurd (leads_nowhere ss are.0.part (subst (λ (o : Option TypeId). AreSelectors s o ss None) (field_behind g.program.state.forms v.t y are.0) are.1))

  -- ## A process, arguments, and the instruction that takes both

  -- the way to the process's address, which goes on with a part of this type that is a process of the q-th declaration
  abbrev Reaches : ℕ → TypedSpot → SelectorTrees → Option TypeId → Code → AwaitsLocation → Remainder → Type 0
  Reaches q v ss t code goal k =
      (go : TypedSpot → Action) (at n mid : ℕ) (ops : List ℤ) → IsDeclared s v.spot v.t → AreSelectors s v.t ss t → IsProcessType s q v.spot t
      → Stands g at n (length ops) (part v ss) → at + (part v ss).size ≡ mid → ObjectThen g s mid ops code (λ end. left end ops k)
      → ((p : TypedSpot) (y : ℤ) → IsProcessType s q p.spot t → IsWord g.view s p.spot t y → Follows g (go p) mid (y ∷ ops) [])
      → Follows g (from_selectors x v ss goal go) at ops []

  reached_part :
      (q : ℕ) (v : TypedSpot) (ss : SelectorTrees) (u : TypeId) (code : Code) (goal : AwaitsLocation) (k : Remainder)
      → ((at : ℕ) (ops : List ℤ) → HasProcessForm s q u → ObjectThen g s at ops code (λ end. left end ops k) → TakesLocation g b x at ops [] (Some u) goal)
      → LendsAt s v.spot goal → Reaches q v ss (Some u) code goal k
  reached_part q v ss u code goal k met lends go at n mid ops declared selects is st ends object on =
      address_follows g b names around checked line [] few v ss (Some u) declared (inl own) selects
      (selectors_follow g b names around checked line [] few ss) goal go at n mid ops st ends (met mid ops is object) lends
      (λ p y lies may lent. on p y is lies)

  reached_single : (q : ℕ) (v : TypedSpot) (ss : SelectorTrees) (code : Code) (goal : AwaitsLocation) (k : Remainder) → Reaches q v ss None code goal k
  reached_single q v ss code goal k go at n mid ops declared selects is st ends object on =
      let base = base_code s v.spot in
      base_follows g b names around checked line [] few v at n ops declared (front g base (selectors_code s v.t ss) st)
      (bare_follows ss v (pos (first_word g.view s v.spot)) goal go (at + 1) mid ops selects (omega (arith, ends))
      (λ untyped. on v (pos (first_word g.view s v.spot)) is
      (subst (λ (o : Option TypeId). IsWord g.view s v.spot o (pos (first_word g.view s v.spot))) untyped
      (whole_part g b names around checked line [] few v declared))))

  -- What waits for the process's address, and what is called, are given.
  process_then :
      (q : ℕ) (v : TypedSpot) (ss : SelectorTrees) (t : Option TypeId) (formals : List Formal) (args : ActualTrees) (i : Instr) (goal : AwaitsLocation)
      (call : TypedSpot → Call) (k : Remainder) (at n to : ℕ) (ops : List ℤ)
      → Reaches q v ss t (args_code s formals args ⨾ one s i) goal k
      → IsDeclared s v.spot v.t → AreSelectors s v.t ss t → IsProcessType s q v.spot t → AreArguments s formals args
      → Stands g at n (length ops) (part v ss ⨾ one s OBJ ⨾ args_code s formals args ⨾ one s i)
      → at + (part v ss ⨾ one s OBJ ⨾ args_code s formals args ⨾ one s i).size ≡ to → left to ops k
      → ((p : TypedSpot) (at : ℕ) (j : ℤ) → IsProcessType s q p.spot t → IsObject g s p.spot t j → IsAt g at i line → left (at + 1) ops k
      → CallsAt g b x at (j ∷ ops) [] formals (call p))
      → ((p : TypedSpot) → Lends s [] formals args (call p))
      → Follows g (from_selectors x v ss goal (λ p. from_args x formals args [] (call p))) at ops []
  process_then q v ss t formals args i goal call k at n to ops reach declared selects process fit st ends rest calls lends =
      let address = part v ss in
      let inner = args_code s formals args in
      let code = inner ⨾ one s i in
      let w = formals_cells g.program.state.forms formals in
      let mid = at + address.size in
      let sized = sized_both (base_code s v.spot) (selectors_code s v.t ss) (sized_base s v.spot)
      (sized_plain (selectors_code s v.t ss) (plain_selectors s v.t ss)) in
      let parts = object_parts g b names around checked few own line address code at n (length ops) sized (part_changes s checked.sound v ss t selects)
      (first_joined g address (one s OBJ) code st) in
      let after = performs_moved g b names around checked few own line to (mid + 1 + code.size) ops k (sym ends ∙ omega arith) rest in
      let last = back g inner (one s i) (w + suc (length ops)) (sized_args s formals args)
      (held_grown g.program inner w (args_change s checked.sound formals args fit) (mid + 1) parts.i (suc (length ops))) parts.behind in
      let is_it = lone g s (λ at n. i) last in
      let after_last = performs_moved g b names around checked few own line (mid + 1 + code.size) (mid + 1 + inner.size + 1) ops k (omega arith) after in
      reach (λ p. from_args x formals args [] (call p)) at n mid ops declared selects process parts.first refl (parts.obj, parts.i, parts.behind, after)
      (λ p y is lies. numbered_follows g b names around checked few own line p.spot t y mid ops lies (process_is_object s q p.spot t is) parts.obj parts.room
      (λ j object. arguments_follow g b x checked [] few args formals fit [] [] (call p) (mid + 1) parts.i (j ∷ ops) (j ∷ ops) (none_held (j ∷ ops))
      (front g inner (one s i) parts.behind) (calls p (mid + 1 + inner.size) j is object is_it after_last) (lends p)))

  pub activation_follows :
      (q : ℕ) (v : TypedSpot) (ss : SelectorTrees) (args : ActualTrees) (k : Remainder) (at n to : ℕ) (ops : List ℤ)
      → IsActivation s q v ss args → Stands g at n (length ops) (activation_code s q (part v ss) args)
      → at + (activation_code s q (part v ss) args).size ≡ to → left to ops k
      → Follows g (from_activation x v ss (process_at g.program.state.blocks q).formals args k) at ops []
  activation_follows q v ss args k at n to ops is st ends rest =
      process_then q v ss is.t head.formals args new goal (λ p. to_process p.spot k) k at n to ops (reach is.t) is.called.0 is.called.1 is.process is.arguments
      st ends rest (λ p at j process object there rest. ((own, refl), (is.t, q, j, ops, process, is.among, refl, is.taken, refl, object, there, rest)))
      (λ p. tt)
    where
      head : ProcessHead
      head = process_at g.program.state.blocks q

      new : Instr
      new = NEW (block_number g.program head.scope)

      goal : AwaitsLocation
      goal = activate_with head.formals args k

      reach : (t : Option TypeId) → Reaches q v ss t (args_code s head.formals args ⨾ one s new) goal k
      reach None = reached_single q v ss (args_code s head.formals args ⨾ one s new) goal k
      reach (Some u) =
          reached_part q v ss u (args_code s head.formals args ⨾ one s new) goal k
          (λ at ops process object. ((own, refl), (q, u, refl, process, is.among, refl, object, is.arguments, is.taken))) tt

  pub entry_call_follows :
      (q entry : ℕ) (v : TypedSpot) (ss : SelectorTrees) (args : ActualTrees) (k : Remainder) (go : Action) (at n to : ℕ) (ops : List ℤ)
      → IsEntryCall s q entry v ss args → Stands g at n (length ops) (entry_code s q (Some (Entry entry)) (part v ss) args)
      → at + (entry_code s q (Some (Entry entry)) (part v ss) args).size ≡ to → left to ops k
      → Follows g (from_entry x q v ss (Some (Entry entry)) args k go) at ops []
  entry_call_follows q entry v ss args k go at n to ops is st ends rest =
      process_then q v ss is.t formals args calls goal (λ p. to_entry p.spot entry k) k at n to ops (reach is.t) is.called.0 is.called.1 is.process is.arguments
      st ends rest (λ p at j process object there rest. ((own, refl), (is.t, q, j, ops, process, is.among, refl, refl, object, there, rest)))
      (λ p. tt)
    where
      formals : List Formal
      formals = entry_at g.program.state.blocks q entry

      calls : Instr
      calls = ECALL entry (formals_cells g.program.state.forms formals)

      goal : AwaitsLocation
      goal = enter_with entry formals args k

      reach : (t : Option TypeId) → Reaches q v ss t (args_code s formals args ⨾ one s calls) goal k
      reach None = reached_single q v ss (args_code s formals args ⨾ one s calls) goal k
      reach (Some u) =
          reached_part q v ss u (args_code s formals args ⨾ one s calls) goal k
          (λ at ops process object. ((own, refl), (q, u, refl, process, is.among, refl, object, is.arguments))) tt

  -- ## Every call

  -- code that follows an action, or is at its end quietly
  abbrev Runs : Code → Remainder → Action → Action → Type 0
  Runs code k go from = (at n to : ℕ) (ops : List ℤ) → Stands g at n (length ops) code → at + code.size ≡ to → left to ops k →
      Follows g go to ops [] → Follows g from at ops []

  abbrev spot : Found → TypedSpot
  spot found = spot_of (env_in g names around) (Some found)

  process_runs : (q : Option ℕ) (v : TypedSpot) (ss : SelectorTrees) (args : ActualTrees) (k : Remainder) (go : Action) → IsProcess s q v ss args →
      Runs (process_code s q (part v ss) args) k go (from_process x v ss q args k go)
  process_runs None v ss args k go is = absurd is
  process_runs (Some q) v ss args k go is = λ at n to ops st ends rest on. activation_follows q v ss args k at n to ops is st ends rest

  entry_runs : (q : ℕ) (m : Option Meaning) (v : TypedSpot) (ss : SelectorTrees) (args : ActualTrees) (k : Remainder) (go : Action) → IsEntry s q v ss m args →
      Runs (entry_code s q m (part v ss) args) k go (from_entry x q v ss m args k go)
  entry_runs q (Some (Entry e)) v ss args k go is = λ at n to ops st ends rest on. entry_call_follows q e v ss args k go at n to ops is st ends rest
  entry_runs q None v ss args k go is = absurd is
  entry_runs q (Some (Constant t j)) v ss args k go is = absurd is
  entry_runs q (Some (Named t)) v ss args k go is = absurd is
  entry_runs q (Some (Variable t r)) v ss args k go is = absurd is
  entry_runs q (Some (Sub j)) v ss args k go is = absurd is
  entry_runs q (Some (Module j)) v ss args k go is = absurd is
  entry_runs q (Some (Process j)) v ss args k go is = absurd is
  entry_runs q (Some (Predeclared j)) v ss args k go is = absurd is
  entry_runs q (Some Faulty) v ss args k go is = absurd is

  field_runs :
      (found : Found) (ss : SelectorTrees) (q : Option ℕ) (y : Text) (args : ActualTrees) (k : Remainder) (go : Action) → IsField s (spot found) ss q y args
      → Runs (field_code s found ss (spot found).t q y args) k go (from_field x (spot found) ss q y args k go)
  field_runs found ss None y args k go is = process_runs (process_of_type s.env (selected s.env (spot found).t ss)) (spot found) ss args k go is
  field_runs found ss (Some q) y args k go is = entry_runs q (name_in_process (blocks_of s) q y) (spot found) (before_last ss) args k go is

  variable_runs :
      (found : Found) (ss : SelectorTrees) (t : TypeId) (y : Option (Text × Place)) (args : ActualTrees) (k : Remainder) (go : Action) →
      (spot found).t ≡ Some t → IsCalledVariable s (spot found) ss y args
      → Runs (called_variable s found ss t y args) k go (from_called_variable x (spot found) ss y args k go)
  variable_runs found ss t None args k go e is =
      subst (λ (u : Option TypeId). Runs (process_code s (process_of_type s.env (selected s.env u ss)) (part (spot found) ss) args) k go
      (from_called_variable x (spot found) ss None args k go)) e
      (process_runs (process_of_type s.env (selected s.env (spot found).t ss)) (spot found) ss args k go is)
  variable_runs found ss t (Some y) args k go e is =
      subst (λ (u : Option TypeId). Runs (field_code s found ss u (process_of_type s.env (selected s.env u (before_last ss))) y.0 args) k go
      (from_called_variable x (spot found) ss (Some y) args k go)) e
      (field_runs found ss (process_of_type s.env (selected s.env (spot found).t (before_last ss))) y.0 args k go is)

  single_runs :
      (found : Found) (q : ℕ) (y : Option (Text × Place)) (args : ActualTrees) (k : Remainder) (go : Action) → IsCalledProcess s q (spot found) y args
      → Runs (called_process s found q y args) k go (from_called_process x q (spot found) y args k go)
  single_runs found q None args k go is = λ at n to ops st ends rest on. activation_follows q (spot found) no_selectors args k at n to ops is st ends rest
  single_runs found q (Some y) args k go is = entry_runs q (name_in_process (blocks_of s) q y.0) (spot found) no_selectors args k go is

  exported_runs : (q : ℕ) (m : Option Meaning) (args : ActualTrees) (k : Remainder) (go : Action) → IsExported s q m args →
      Runs (exported_code s q m args) k go (from_exported x q m args k go)
  exported_runs q (Some (Sub j)) args k go is =
      λ at n to ops st ends rest on. exported_follows g b names around checked few own line q j args k at n to ops is st ends rest
  exported_runs q None args k go is = absurd is
  exported_runs q (Some (Constant t j)) args k go is = absurd is
  exported_runs q (Some (Named t)) args k go is = absurd is
  exported_runs q (Some (Variable t r)) args k go is = absurd is
  exported_runs q (Some (Module j)) args k go is = absurd is
  exported_runs q (Some (Process j)) args k go is = absurd is
  exported_runs q (Some (Entry j)) args k go is = absurd is
  exported_runs q (Some (Predeclared j)) args k go is = absurd is
  exported_runs q (Some Faulty) args k go is = absurd is

  module_runs : (q : ℕ) (y : Option (Text × Place)) (args : ActualTrees) (k : Remainder) (go : Action) → IsModuleCall s q y args →
      Runs (module_code s q y args) k go (from_module x q y args k go)
  module_runs q None args k go is = absurd is
  module_runs q (Some y) args k go is = exported_runs q (meaning_in (scope_at (blocks_of s).scopes (module_at (blocks_of s) q).scope) y.0) args k go is

  called_runs :
      (found : Found) (m : Meaning) (ss : SelectorTrees) (args : ActualTrees) (k : Remainder) (go : Action) → IsCalled s (Some m) (spot found) ss args
      → Runs (called_code s found m ss args) k go (from_called x (Some m) (spot found) ss args k go)
  called_runs found (Predeclared j) ss args k go is =
      λ at n to ops st ends rest on. procedure_follows g b names around checked few own line (procedure_of j) args k go at n to ops is st ends rest on
  called_runs found (Sub j) ss args k go is =
      λ at n to ops st ends rest on. sub_follows g b names around checked few own line j args k at n to ops is st ends rest
  called_runs found (Module j) ss args k go is = module_runs j (last_field ss) args k go is
  called_runs found (Process j) ss args k go is = single_runs found j (last_field ss) args k go is
  called_runs found (Variable t r) ss args k go is = variable_runs found ss t (last_field ss) args k go is.0 is.1
  called_runs found (Constant t j) ss args k go is = absurd is
  called_runs found (Named t) ss args k go is = absurd is
  called_runs found (Entry j) ss args k go is = absurd is
  called_runs found Faulty ss args k go is = absurd is

  found_runs : (found : Option Found) (ss : SelectorTrees) (args : ActualTrees) (k : Remainder) (go : Action) →
      IsCalled s (meaning_of found) (spot_of s.env found) ss args →
      Runs (found_code s found ss args) k go (from_called x (meaning_of found) (spot_of s.env found) ss args k go)
  found_runs None ss args k go is = absurd is
  found_runs (Some found) ss args k go is = called_runs found found.meaning ss args k go is

  pub call_runs : (d : DesigTree) (args : ActualTrees) (k : Remainder) (go : Action) → IsCall s d args →
      Runs (call_code s d args) k go (from_call x d args k go)
  call_runs (desig y ss p) args k go is = found_runs (find s.env y) ss args k go is
