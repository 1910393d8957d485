-- Checked programs are scoped as it is asked of them.
use Rattle.std.proofs.Common.{◌≡◌, ◌≢◌, ℕ, zero, suc, ◌+◌, ◌≤◌, ◌<◌, ◌==◌, ◌⊎◌, inl, inr, Bool, true, false, nat_lt, if◌then◌else◌, List, [], ◌∷◌, length}
use Rattle.std.proofs.Common.{get_or, map, slice_get, option_map, Option, Some, None, refl, sym, ap, ◌∙◌, subst, arith}
use Rattle.std.proofs.lemmas.Bool.Decides.{nat_tests}
use Rattle.std.specs.List.{AllByRecursion}
use Rattle.std.specs.Option.{option_or}
use Rattle.pfc_tree.specs.Symbols.{Text}
use Rattle.pfc_tree.specs.trees.Stmts.{BodyTree, body}
use Rattle.pfc_tree.specs.trees.Parts.{ProgramTree}
use Rattle.pfc_tree.specs.forget.Parts.{forget_program}
use Rattle.pfc_tree.specs.lawful.Parts.{IsLawful}
use Rattle.pfc_types.specs.Scopes.{Level, all_names, scope_at, meaning_in, meaning_of, position_in, found_in, within, predeclared, predeclared_names}
use Rattle.pfc_types.specs.Blocks.{State, no_module, no_sub, no_process, sub_at, module_at, process_at}
use Rattle.pfc_types.specs.declared.heads.ModuleHead.{ModuleHead}
use Rattle.pfc_types.specs.declared.heads.SubHead.{SubHead}
use Rattle.pfc_types.specs.declared.heads.ProcessHead.{ProcessHead}
use Rattle.pfc_types.specs.declared.scope.Meaning.{Meaning}
use Rattle.pfc_types.specs.declared.scope.Meaning.TheVariants.{Sub}
use Rattle.pfc_types.specs.declared.view.Found.{Found}
use Rattle.pfc_types.specs.rules.Expressions.{Env, find}
use Rattle.pfc_types.specs.rules.Bodies.{parts_scopes}
use Rattle.pfc_types.specs.rules.Whole.{broken, finished}
use Rattle.pfc_semantics.specs.Layouts.{Layout, main_layout}
use Rattle.pfc_semantics.specs.Objects.{module_number}
use Rattle.pfc_semantics.specs.Programs.{Block, Guard, Program, block_of, env_of_main, found_block, block_at, program_of}
use Rattle.pfc_semantics.specs.Configurations.{of_monitor, of_resource, declared_block}
use Rattle.pfc_semantics.specs.Monitors.{is_in}
use Rattle.pfc_name_laws.specs.Numbers.{AreNumbered}
use Rattle.pfc_name_laws.proofs.Numbers.{numbered, get_or-beyond}
use Rattle.pfc_name_laws.proofs.Parts.{finished_reached}
use Rattle.pfc_name_laws.proofs.Processes.{program_processes}
use Rattle.pfc_image_laws.specs.Modules.{modules_from}
use Rattle.pfc_image_laws.proofs.Modules.{program_modules}
use Rattle.pfc_image_numbers.proofs.Known.{Stands, stands}
use Rattle.pfc_typed_programs.specs.Bodies.{of_block as the_block, of_module as the_module}
use Rattle.pfc_typed_programs.proofs.Blocks.{sub_called}
use Rattle.pfc_typed_programs.proofs.Bodies.{body_state, guard_state}
use Rattle.pfc_run_invariants.specs.Asked.{module_mark}
use Rattle.pfc_number_laws.specs.Written.{FitsTree}
use Rattle.pfc_number_laws.proofs.Parts.{finished_fits}
use Rattle.pfc_inside_laws.specs.Inside.{IsMonitor, IsSeen, IsOf, of_main, of_module, of_block, of_guard, in_accept, IsScoped}
use Rattle.pfc_inside_programs.specs.Declared.{DeclaresSubs}
use Rattle.pfc_inside_programs.proofs.Views.{Sees, sees_further, sees_which, sees_own, IsOut, AreOut, Kept, never_out, none_out, more_out, IsPlaced, placed_out}
use Rattle.pfc_inside_programs.proofs.Views.{no_guard}
use Rattle.pfc_inside_programs.proofs.Monitors.{bodies, KeepsView, inits, IsFound, found, alone, Apart, processes}
use Rattle.pfc_inside_programs.proofs.Programs.{all_at}

-- ## Names that stand for subs

-- one is found at the first level, or behind it
found_which :
    (l : Level) (o : Option ℕ) (m : Option Meaning) (q : Option Found) (k : ℕ) → meaning_of (option_or (within l o m) q) ≡ Some (Sub k)
    → (m ≡ Some (Sub k)) ⊎ (meaning_of q ≡ Some (Sub k))
found_which l None None q k h = inr h
found_which l None (Some m) q k h = inr h
found_which l (Some p) None q k h = inr h
found_which l (Some p) (Some m) q k h = by (nat_lt p l.count) h
  where
    by :
        (b : Bool) → meaning_of (option_or (if b then Some (record { scope = Some l.scope; place = p; meaning = m }) else None) q) ≡ Some (Sub k)
        → (Some m ≡ Some (Sub k)) ⊎ (meaning_of q ≡ Some (Sub k))
    by true h = inl h
    by false h = inr h

-- none is predeclared
not_predeclared : (s : State) → AreNumbered s → (x : Text) (k : ℕ) → meaning_of (predeclared x) ≡ Some (Sub k) → ⊥
not_predeclared s known x k = by (meaning_in predeclared_names x) refl
  where
    by :
        (m : Option Meaning) → meaning_in predeclared_names x ≡ m
        → meaning_of (option_map (λ (y : Meaning). record { scope = None; place = 0; meaning = y }) m) ≡ Some (Sub k) → ⊥
    by None e h = cc
    by (Some m) e h =
        let same : m ≡ Sub k = cc in
        let f : Found = record { scope = None; place = 0; meaning = m } in
        let there : found_in s.blocks.scopes [] x ≡ Some f =
        ap (λ (o : Option Meaning). option_map (λ (y : Meaning). record { scope = None; place = 0; meaning = y }) o) e in
        let none : Stands s.blocks None (Sub k) = subst (λ (y : Meaning). Stands s.blocks None y) same (stands s known [] x f there) in
        absurd none

-- so its scope is seen
record IsSeenSub (s : State) (view : List Level) (x : Text) (k : ℕ) : Type 0 where
  at : ℕ
  seen : Sees view at
  named : meaning_in (scope_at s.blocks.scopes at) x ≡ Some (Sub k)

sub_seen :
    (s : State) → AreNumbered s → (view : List Level) (x : Text) (k : ℕ) → meaning_of (found_in s.blocks.scopes view x) ≡ Some (Sub k)
    → IsSeenSub s view x k
sub_seen s known [] x k h = absurd (not_predeclared s known x k h)
sub_seen s known (l ∷ view) x k h =
    elim (found_which l (position_in (scope_at s.blocks.scopes l.scope) x) (meaning_in (scope_at s.blocks.scopes l.scope) x)
    (found_in s.blocks.scopes view x) k h) [
      | inl named ↦ record { at = l.scope; seen = sees_own l view; named = named }
      | inr rest ↦ (
          let is = sub_seen s known view x k rest in
          record { at = is.at; seen = sees_further l view is.at is.seen; named = is.named })
    ]

-- ## Blocks by their scopes

block_env : (scope outer : ℕ) (env : Env) (next : ℕ) (b : BodyTree) (layout : Layout) (accepts : ℕ) (guard : Option Guard)
    → (block_of scope outer env next b layout accepts guard).env ≡ env
block_env scope outer env next (body ss from to) layout accepts guard = refl

all_found : (P : Block → Type 0) (bs : List Block) (i : ℕ) (other : Block) → AllByRecursion P bs → P other → P (found_block bs i other)
all_found P [] i other all one = one
all_found P (b ∷ bs) i other all one = by (b.scope == i) (all_found P bs i other all.1 one)
  where
    by : (c : Bool) → P (found_block bs i other) → P (if c then b else found_block bs i other)
    by true rest = all.0
    by false rest = rest

found_scope : (bs : List Block) (i : ℕ) (other : Block) → ((found_block bs i other).scope ≡ i) ⊎ (found_block bs i other ≡ other)
found_scope [] i other = inr refl
found_scope (b ∷ bs) i other = by (b.scope == i) refl (found_scope bs i other)
  where
    by :
        (c : Bool) → (b.scope == i) ≡ c → ((found_block bs i other).scope ≡ i) ⊎ (found_block bs i other ≡ other)
        → ((if c then b else found_block bs i other).scope ≡ i) ⊎ ((if c then b else found_block bs i other) ≡ other)
    by true e rest = inl (grind (arith, nat_tests))
    by false e rest = rest

positive : (i : ℕ) → i ≢ 0 → 0 < i
positive zero h = absurd (h refl)
positive (suc i) h = omega arith

get_all : (P : ℕ → Type 0) (xs : List ProcessHead) (k : ℕ) (other : ProcessHead) → AllByRecursion P (map (λ (h : ProcessHead). h.scope) xs) → P other.scope
    → P (get_or xs k other).scope
get_all P [] k other all one = one
get_all P (x ∷ xs) zero other all one = all.0
get_all P (x ∷ xs) (suc k) other all one = get_all P xs k other all.1 one

-- ## A monitor of a program

module _ (t : ProgramTree) (lawful : IsLawful (forget_program t)) (whole : broken t ≡ []) where
  abbrev g : Program
  g = program_of t

  abbrev s : State
  s = finished t

  mods : g.state.blocks.modules ≡ modules_from 1 t.parts
  mods = program_modules t lawful

  known : AreNumbered s
  known = numbered s (finished_reached t)

  state_of : (env : Env) → IsOf g env → env.state ≡ s
  state_of env of_main = ap (λ (e : Env). e.state) (block_env 0 0 (env_of_main s) (1 + parts_scopes t.parts) t.body
      (main_layout s.blocks (scope_at s.blocks.scopes 0)) 0 None)
  state_of env (of_module k b at) = body_state t lawful whole b (the_module k b at)
  state_of env (of_block k b at) = body_state t lawful whole b (the_block k b at)
  state_of env (of_guard k b guard at e) = guard_state t lawful whole b guard (the_block k b at) e
  state_of env (in_accept around i is free) = state_of around is

  main_view : g.main.env ≡ env_of_main s
  main_view = block_env 0 0 (env_of_main s) (1 + parts_scopes t.parts) t.body (main_layout s.blocks (scope_at s.blocks.scopes 0)) 0 None

  module _ (i n : ℕ) (monitor : IsMonitor g i n) where
    is_found : IsFound 1 t.parts i
    is_found =
        let place = monitor.place in
        subst (λ (lo : ℕ). IsFound 1 t.parts lo) (ap (λ (ms : List ModuleHead). (get_or ms place no_module).scope) (sym mods) ∙ monitor.scope)
        (found 1 t.parts place (subst (λ (ms : List ModuleHead). place < length ms) mods monitor.among)
        (ap (λ (ms : List ModuleHead). (get_or ms place no_module).resource) (sym mods) ∙ monitor.monitor))

    abbrev hi : ℕ
    hi = is_found.end

    first : 0 < i
    first = positive i monitor.inner

    main_is_out : AreOut i hi is_found.some g.main.env.view
    main_is_out =
        subst (λ (e : Env). AreOut i hi is_found.some e.view) (sym main_view)
        (more_out i hi is_found.some (all_names s.blocks.scopes 0) [] (inl first) (none_out i hi is_found.some))

    all_placed : AllByRecursion (IsPlaced i hi is_found.some) g.blocks
    all_placed = bodies i hi is_found.some first s 0 1 t.parts is_found.at lawful.0

    main_placed : IsPlaced i hi is_found.some g.main
    main_placed =
        placed_out i hi is_found.some 0 0 (env_of_main s) (1 + parts_scopes t.parts) t.body (main_layout s.blocks (scope_at s.blocks.scopes 0)) 0 None
        (more_out i hi is_found.some (all_names s.blocks.scopes 0) [] (inl first) (none_out i hi is_found.some)) (inl first)
        (no_guard i hi is_found.some (AreOut i hi is_found.some))

    placed : (scope : ℕ) → IsPlaced i hi is_found.some (block_at g scope)
    placed scope = all_found (IsPlaced i hi is_found.some) g.blocks scope g.main all_placed main_placed

    not_among : (j : ℕ) → i ≤ j → j < hi → IsOut i hi is_found.some j → ⊥
    not_among j low high out = elim out [ inl under ↦ omega (arith, low, under) | inr over ↦ omega (arith, high, over) ]

    kept_seen : (view : List Level) (j : ℕ) → Kept i hi is_found.some view → Sees view j → i ≤ j → j < hi → Sees view i
    kept_seen view j kept seen low high = elim kept [ inl own ↦ own | inr out ↦ absurd (not_among j low high (out j seen)) ]

    -- who sees a scope in the monitor that has subs sees the monitor
    seen_there :
        (env : Env) → IsOf g env → (j k : ℕ) (x : Text) → Sees env.view j → i ≤ j → j < hi → meaning_in (scope_at s.blocks.scopes j) x ≡ Some (Sub k)
        → Sees env.view i
    seen_there env of_main j k x seen low high named = absurd (not_among j low high (main_is_out j seen))
    seen_there env (of_module m b at) j k x seen low high named =
        let all = inits i hi is_found.some first s 0 1 t.parts is_found.at in
        kept_seen b.env.view j (all_at (KeepsView i hi is_found.some first s) g.modules m b all at) seen low high
    seen_there env (of_block m b at) j k x seen low high named =
        let is = all_at (IsPlaced i hi is_found.some) g.blocks m b all_placed at in
        kept_seen b.env.view j is.view seen low high
    seen_there env (of_guard m b guard at e) j k x seen low high named =
        let is = all_at (IsPlaced i hi is_found.some) g.blocks m b all_placed at in
        absurd (not_among j low high (is.guard guard e j seen))
    seen_there env (in_accept around a is free) j k x seen low high named =
        let own = all_names around.state.blocks.scopes a in
        elim (sees_which own around.view j seen) [
          | inl same ↦ absurd (free.subs x k (subst (λ (l : ℕ). meaning_in (scope_at s.blocks.scopes l) x ≡ Some (Sub k)) (sym same) named))
          | inr further ↦ sees_further own around.view i (seen_there around is j k x further low high named)
        ]

    no_guard_sees : (k : ℕ) (b : Block) (guard : Guard) → slice_get g.blocks k ≡ Some b → b.guard ≡ Some guard → Sees guard.env.view i → ⊥
    no_guard_sees k b guard at e seen =
        let is = all_at (IsPlaced i hi is_found.some) g.blocks k b all_placed at in never_out i hi is_found.some guard.env.view (is.guard guard e) seen

    no_process_sees : (k : ℕ) → Sees (declared_block g k).env.view i → ⊥
    no_process_sees k seen =
        let scope = (process_at s.blocks k).scope in
        let own = (placed scope).own seen in
        let low : i < (block_at g scope).scope = own.0 in
        let high : (block_at g scope).scope < hi = own.1 in
        let apart : Apart i hi scope =
        get_all (Apart i hi) s.blocks.processes k no_process
        (subst (λ (l : List ℕ). AllByRecursion (Apart i hi) l) (sym (program_processes t lawful)) (processes i hi 1 t.parts is_found.at)) (inl (omega arith)) in
        elim (found_scope g.blocks scope g.main) [
          | inl same ↦ elim apart [ inl under ↦ omega (arith, low, same, under) | inr over ↦ omega (arith, high, same, over) ]
          | inr is ↦ never_out i hi is_found.some g.main.env.view main_is_out (subst (λ (b : Block). Sees b.env.view i) is seen)
        ]

    no_sub_is : (k : ℕ) → (sub_at s.blocks k).scope ≡ i → ⊥
    no_sub_is k same = by (nat_lt k (length s.blocks.subs)) refl
      where
        by : (c : Bool) → nat_lt k (length s.blocks.subs) ≡ c → ⊥
        by true e =
            let called = sub_called t lawful whole k (grind (arith, nat_tests)) in
            (placed (sub_at s.blocks k).scope).apart (called.own ∙ same)
        by false e =
            let beyond : length s.blocks.subs ≤ k = grind (arith, nat_tests) in
            let none : sub_at s.blocks k ≡ no_sub = get_or-beyond s.blocks.subs k no_sub beyond in
            monitor.inner (sym same ∙ ap (λ (h : SubHead). h.scope) none)

    module _ (declared : DeclaresSubs g) where
      calls :
          (env : Env) (x : Text) (k : ℕ) → IsOf g env → meaning_of (find env x) ≡ Some (Sub k)
          → IsSeen (block_at g (sub_at env.state.blocks k).scope).env i → IsSeen env i
      calls env x k is named there =
          let same = state_of env is in
          let here : meaning_of (found_in s.blocks.scopes env.view x) ≡ Some (Sub k) =
          subst (λ (r : State). meaning_of (found_in r.blocks.scopes env.view x) ≡ Some (Sub k)) same named in
          let inside : Sees (block_at g (sub_at s.blocks k).scope).env.view i =
          subst (λ (r : State). Sees (block_at g (sub_at r.blocks k).scope).env.view i) same there in
          let seen = sub_seen s known env.view x k here in
          let outer = declared seen.at k x seen.named in
          let both = (placed (sub_at s.blocks k).scope).outer inside in
          let low : i ≤ (block_at g (sub_at s.blocks k).scope).outer = both.0 in
          let high : (block_at g (sub_at s.blocks k).scope).outer < hi = both.1 in
          seen_there env is seen.at k x seen.seen (omega (arith, low, outer)) (omega (arith, high, outer)) seen.named

      enters :
          (env : Env) (x y : Text) (j k : ℕ) → IsOf g env
          → meaning_in (scope_at env.state.blocks.scopes (module_at env.state.blocks j).scope) y ≡ Some (Sub k)
          → IsSeen (block_at g (sub_at env.state.blocks k).scope).env i → is_in n (module_mark g j) ≡ true
      enters env x y j k is named there = by (nat_lt j (length s.blocks.modules)) refl
        where
          same : env.state ≡ s
          same = state_of env is

          here_named : meaning_in (scope_at s.blocks.scopes (module_at s.blocks j).scope) y ≡ Some (Sub k)
          here_named =
              subst (λ (r : State). meaning_in (scope_at r.blocks.scopes (module_at r.blocks j).scope) y ≡ Some (Sub k)) same named

          inside : Sees (block_at g (sub_at s.blocks k).scope).env.view i
          inside = subst (λ (r : State). Sees (block_at g (sub_at r.blocks k).scope).env.view i) same there

          outer : (block_at g (sub_at s.blocks k).scope).outer ≡ (module_at s.blocks j).scope
          outer = declared (module_at s.blocks j).scope k y here_named

          between : (i ≤ (block_at g (sub_at s.blocks k).scope).outer) × ((block_at g (sub_at s.blocks k).scope).outer < hi)
          between = (placed (sub_at s.blocks k).scope).outer inside

          low : i ≤ (module_at s.blocks j).scope
          low = (let l : i ≤ (block_at g (sub_at s.blocks k).scope).outer = between.0 in let e = outer in omega (arith, l, e))

          high : (module_at s.blocks j).scope < hi
          high = (let l : (block_at g (sub_at s.blocks k).scope).outer < hi = between.1 in let e = outer in omega (arith, l, e))

          is_mark : (m : ℕ) → monitor.place ≡ m → is_in n (module_mark g m) ≡ true
          is_mark m e =
              subst (λ (q : ℕ). is_in n (module_mark g q) ≡ true) e
              (ap (λ (b : Bool). is_in n (if b then of_resource (module_number s.blocks monitor.place) else of_monitor (module_number s.blocks monitor.place)))
              monitor.monitor ∙ (let is = monitor.number in grind (arith, nat_tests, is)))

          by : (c : Bool) → nat_lt j (length s.blocks.modules) ≡ c → is_in n (module_mark g j) ≡ true
          by true e =
              let few : j < length s.blocks.modules = grind (arith, nat_tests) in
              is_mark j (alone i hi 1 t.parts monitor.place j is_found.at (subst (λ (ms : List ModuleHead). monitor.place < length ms) mods monitor.among)
              (subst (λ (ms : List ModuleHead). j < length ms) mods few)
              (ap (λ (ms : List ModuleHead). (get_or ms monitor.place no_module).scope) (sym mods) ∙ monitor.scope)
              (subst (λ (ms : List ModuleHead). i ≤ (get_or ms j no_module).scope) mods low)
              (subst (λ (ms : List ModuleHead). (get_or ms j no_module).scope < hi) mods high))
          by false e =
              let beyond : length s.blocks.modules ≤ j = grind (arith, nat_tests) in
              let none : module_at s.blocks j ≡ no_module = get_or-beyond s.blocks.modules j no_module beyond in
              let zero_scope : (module_at s.blocks j).scope ≡ 0 = ap (λ (h : ModuleHead). h.scope) none in
              absurd (let l = low in let f = first in omega (arith, l, f, zero_scope))

pub is_scoped : (t : ProgramTree) → IsLawful (forget_program t) → broken t ≡ [] → FitsTree t → DeclaresSubs (program_of t) → IsScoped (program_of t)
is_scoped t lawful whole small declared =
    record {
      state = state_of t lawful whole;
      names = finished_fits t small;
      calls = λ env x k i n is named monitor there. calls t lawful whole i n monitor declared env x k is named there;
      enters = λ env x y j k i n is entered named monitor there. enters t lawful whole i n monitor declared env x y j k is named there;
      processes = λ k i n seen monitor. no_process_sees t lawful whole i n monitor k seen;
      guards = λ k b guard at e i n seen monitor. no_guard_sees t lawful whole i n monitor k b guard at e seen;
      subs = λ k n monitor. no_sub_is t lawful whole (sub_at (finished t).blocks k).scope n monitor k refl;
    }
