-- The stops of the walk over the bodies: the rules that it finds broken are those at its stops, and its views are those of its parts.
use Rattle.std.proofs.Common.{◌≡◌, ℕ, ◌+◌, Bool, true, false, List, [], ◌∷◌, ◌++◌, Option, Some, None, refl, sym, ap, ap₂, ◌∙◌, append_assoc, append-nil}
use Rattle.pfc_base.specs.declared.faults.Refusal.{Refusal}
use Rattle.pfc_tree.specs.trees.Stmts.{BodyTree}
use Rattle.pfc_tree.specs.trees.Parts.{PartTree, PartTrees, SubTree, ModuleTree, ProcessTree, ProgramTree, consts, types, vars, sub_part, monitor, resource}
use Rattle.pfc_tree.specs.trees.Parts.{process_part, no_parts, more_parts, sub, the_module, process}
use Rattle.pfc_types.specs.Faults.{listed}
use Rattle.pfc_types.specs.Scopes.{Level, scope_at, here}
use Rattle.pfc_types.specs.Blocks.{State}
use Rattle.pfc_types.specs.Stops.{Inside, a_guard, a_body, Stop, broken_inside, broken_stops, inside_views, views, one_stop, init_stops, part_stops}
use Rattle.pfc_types.specs.Stops.{parts_stops, sub_stops, module_stops, process_stops, stops, body_views}
use Rattle.pfc_types.specs.rules.Expressions.{Env}
use Rattle.pfc_types.specs.rules.Bodies.{passed, passed_part, passed_groups, passed_entries, part_scopes, parts_scopes, level, env_at, around_nothing}
use Rattle.pfc_types.specs.rules.Bodies.{around_main, around_process, around_sub, around_guard, broken_init, broken_part, broken_parts, broken_sub}
use Rattle.pfc_types.specs.rules.Bodies.{broken_module, broken_process}
use Rattle.pfc_types.specs.rules.Whole.{broken_bodies}
use Rattle.pfc_types.proofs.PartViews.{init_views, part_views, parts_views, sub_views, module_views, process_views}

-- ## One after the other

broken_both : (xs ys : List Stop) → broken_stops (xs ++ ys) ≡ broken_stops xs ++ broken_stops ys
broken_both [] ys = refl
broken_both (x ∷ xs) ys = ap (λ l. listed (broken_inside x.env x.next x.inside) ++ l) (broken_both xs ys) ∙
    sym (append_assoc (listed (broken_inside x.env x.next x.inside)) (broken_stops xs) (broken_stops ys))

views_both : (xs ys : List Stop) → views (xs ++ ys) ≡ views xs ++ views ys
views_both [] ys = refl
views_both (x ∷ xs) ys =
    ap (λ l. inside_views x.env.state.blocks.scopes x.env.view x.next x.inside ++ l) (views_both xs ys)
    ∙ sym (append_assoc (inside_views x.env.state.blocks.scopes x.env.view x.next x.inside) (views xs) (views ys))

broken_joined : (fs gs : List Refusal) (xs ys : List Stop) → fs ≡ broken_stops xs → gs ≡ broken_stops ys → fs ++ gs ≡ broken_stops (xs ++ ys)
broken_joined fs gs xs ys p q = ap₂ (λ a b. a ++ b) p q ∙ sym (broken_both xs ys)

views_joined : (us vs : List (List Level)) (xs ys : List Stop) → us ≡ views xs → vs ≡ views ys → us ++ vs ≡ views (xs ++ ys)
views_joined us vs xs ys p q = ap₂ (λ a b. a ++ b) p q ∙ sym (views_both xs ys)

broken_one : (env : Env) (next : ℕ) (inside : Inside) → listed (broken_inside env next inside) ≡ broken_stops (one_stop env next inside)
broken_one env next inside = sym (append-nil (listed (broken_inside env next inside)))

views_one : (env : Env) (next : ℕ) (inside : Inside) → inside_views env.state.blocks.scopes env.view next inside ≡ views (one_stop env next inside)
views_one env next inside = sym (append-nil (inside_views env.state.blocks.scopes env.view next inside))

broken_begun : (s : State) (view : List Level) (next : ℕ) (b : Option BodyTree) → listed (broken_init s view next b) ≡ broken_stops (init_stops s view next b)
broken_begun s view next None = refl
broken_begun s view next (Some b) = broken_one (env_at s view around_nothing) next (a_body b)

views_begun : (s : State) (view : List Level) (next : ℕ) (b : Option BodyTree) → init_views s.blocks.scopes view next b ≡ views (init_stops s view next b)
views_begun s view next None = refl
views_begun s view next (Some b) = views_one (env_at s view around_nothing) next (a_body b)

-- ## Broken rules

mutual
  part_broken : (s : State) (in_process : Bool) (i n : ℕ) (outer : List Level) (next : ℕ) (q : PartTree) →
      listed (broken_part s in_process i n outer next q) ≡ broken_stops (part_stops s in_process i n outer next q)
  part_broken s in_process i n outer next (consts items) = refl
  part_broken s in_process i n outer next (types items) = refl
  part_broken s in_process i n outer next (vars vs) = refl
  part_broken s in_process i n outer next (sub_part b) = sub_broken s in_process i n outer next b
  part_broken s in_process i n outer next (monitor m) = module_broken s i n outer next m
  part_broken s in_process i n outer next (resource m) = module_broken s i n outer next m
  part_broken s in_process i n outer next (process_part q) = process_broken s i n outer next q

  parts_broken : (s : State) (in_process : Bool) (i n : ℕ) (outer : List Level) (next : ℕ) (qs : PartTrees) →
      listed (broken_parts s in_process i n outer next qs) ≡ broken_stops (parts_stops s in_process i n outer next qs)
  parts_broken s in_process i n outer next no_parts = refl
  parts_broken s in_process i n outer next (more_parts q qs) =
      broken_joined _ _ (part_stops s in_process i n outer next q)
      (parts_stops s in_process i (passed_part (scope_at s.blocks.scopes i) n q) outer (next + part_scopes q) qs)
      (part_broken s in_process i n outer next q) (parts_broken s in_process i (passed_part (scope_at s.blocks.scopes i) n q) outer (next + part_scopes q) qs)

  sub_broken : (s : State) (in_process : Bool) (i n : ℕ) (outer : List Level) (next : ℕ) (q : SubTree) →
      listed (broken_sub s in_process i n outer next q) ≡ broken_stops (sub_stops s in_process i n outer next q)
  sub_broken s in_process i n outer next (sub x gs kind ps b p) =
      let count = passed_groups (scope_at s.blocks.scopes next) 0 gs in
      let around = level i (passed (scope_at s.blocks.scopes i) n x) ∷ outer in
      let env = env_at s (here s.blocks.scopes next around) (around_sub in_process kind) in
      let guard = env_at s (level next count ∷ level i n ∷ outer) (around_guard i) in
      broken_joined _ _ (one_stop guard next (a_guard kind)) (parts_stops s in_process next count around (next + 1) ps ++ one_stop env
      (next + 1 + parts_scopes ps) (a_body b))
      (broken_one guard next (a_guard kind))
      (broken_joined _ _ (parts_stops s in_process next count around (next + 1) ps) (one_stop env (next + 1 + parts_scopes ps) (a_body b))
      (parts_broken s in_process next count around (next + 1) ps) (broken_one env (next + 1 + parts_scopes ps) (a_body b)))

  module_broken : (s : State) (i n : ℕ) (outer : List Level) (next : ℕ) (m : ModuleTree) →
      listed (broken_module s i n outer next m) ≡ broken_stops (module_stops s i n outer next m)
  module_broken s i n outer next (the_module x exports ps b last p) =
      broken_joined _ _ (parts_stops s false next 0 (level i n ∷ outer) (next + 1) ps)
      (init_stops s (here s.blocks.scopes next (level i n ∷ outer)) (next + 1 + parts_scopes ps) b)
      (parts_broken s false next 0 (level i n ∷ outer) (next + 1) ps)
      (broken_begun s (here s.blocks.scopes next (level i n ∷ outer)) (next + 1 + parts_scopes ps) b)

  process_broken : (s : State) (i n : ℕ) (outer : List Level) (next : ℕ) (q : ProcessTree) →
      listed (broken_process s i n outer next q) ≡ broken_stops (process_stops s i n outer next q)
  process_broken s i n outer next (process many x gs es ps b p) =
      let count = passed_entries (scope_at s.blocks.scopes next) (passed_groups (scope_at s.blocks.scopes next) 0 gs) es in
      let around = level i (passed (scope_at s.blocks.scopes i) n x) ∷ outer in
      let env = env_at s (here s.blocks.scopes next around) around_process in
      broken_joined _ _ (parts_stops s true next count around (next + 1) ps) (one_stop env (next + 1 + parts_scopes ps) (a_body b))
      (parts_broken s true next count around (next + 1) ps) (broken_one env (next + 1 + parts_scopes ps) (a_body b))

-- the rules that are broken in the bodies are those that are broken at the stops
pub bodies_broken : (s : State) (t : ProgramTree) → listed (broken_bodies s t) ≡ broken_stops (stops s t)
bodies_broken s t =
    broken_joined _ _ (parts_stops s false 0 0 [] 1 t.parts) (one_stop (env_at s (here s.blocks.scopes 0 []) around_main)
    (1 + parts_scopes t.parts) (a_body t.body))
    (parts_broken s false 0 0 [] 1 t.parts) (broken_one (env_at s (here s.blocks.scopes 0 []) around_main) (1 + parts_scopes t.parts) (a_body t.body))

-- ## Views

mutual
  part_seen : (s : State) (in_process : Bool) (i n : ℕ) (outer : List Level) (next : ℕ) (q : PartTree) →
      part_views s.blocks.scopes i n outer next q ≡ views (part_stops s in_process i n outer next q)
  part_seen s in_process i n outer next (consts items) = refl
  part_seen s in_process i n outer next (types items) = refl
  part_seen s in_process i n outer next (vars vs) = refl
  part_seen s in_process i n outer next (sub_part b) = sub_seen s in_process i n outer next b
  part_seen s in_process i n outer next (monitor m) = module_seen s i n outer next m
  part_seen s in_process i n outer next (resource m) = module_seen s i n outer next m
  part_seen s in_process i n outer next (process_part q) = process_seen s i n outer next q

  parts_seen : (s : State) (in_process : Bool) (i n : ℕ) (outer : List Level) (next : ℕ) (qs : PartTrees) →
      parts_views s.blocks.scopes i n outer next qs ≡ views (parts_stops s in_process i n outer next qs)
  parts_seen s in_process i n outer next no_parts = refl
  parts_seen s in_process i n outer next (more_parts q qs) =
      views_joined _ _ (part_stops s in_process i n outer next q)
      (parts_stops s in_process i (passed_part (scope_at s.blocks.scopes i) n q) outer (next + part_scopes q) qs)
      (part_seen s in_process i n outer next q) (parts_seen s in_process i (passed_part (scope_at s.blocks.scopes i) n q) outer (next + part_scopes q) qs)

  sub_seen : (s : State) (in_process : Bool) (i n : ℕ) (outer : List Level) (next : ℕ) (q : SubTree) →
      sub_views s.blocks.scopes i n outer next q ≡ views (sub_stops s in_process i n outer next q)
  sub_seen s in_process i n outer next (sub x gs kind ps b p) =
      let count = passed_groups (scope_at s.blocks.scopes next) 0 gs in
      let around = level i (passed (scope_at s.blocks.scopes i) n x) ∷ outer in
      let env = env_at s (here s.blocks.scopes next around) (around_sub in_process kind) in
      let guard = env_at s (level next count ∷ level i n ∷ outer) (around_guard i) in
      views_joined _ _ (one_stop guard next (a_guard kind)) (parts_stops s in_process next count around (next + 1) ps ++ one_stop env
      (next + 1 + parts_scopes ps) (a_body b))
      (views_one guard next (a_guard kind))
      (views_joined _ _ (parts_stops s in_process next count around (next + 1) ps) (one_stop env (next + 1 + parts_scopes ps) (a_body b))
      (parts_seen s in_process next count around (next + 1) ps) (views_one env (next + 1 + parts_scopes ps) (a_body b)))

  module_seen : (s : State) (i n : ℕ) (outer : List Level) (next : ℕ) (m : ModuleTree) →
      module_views s.blocks.scopes i n outer next m ≡ views (module_stops s i n outer next m)
  module_seen s i n outer next (the_module x exports ps b last p) =
      views_joined _ _ (parts_stops s false next 0 (level i n ∷ outer) (next + 1) ps)
      (init_stops s (here s.blocks.scopes next (level i n ∷ outer)) (next + 1 + parts_scopes ps) b)
      (parts_seen s false next 0 (level i n ∷ outer) (next + 1) ps)
      (views_begun s (here s.blocks.scopes next (level i n ∷ outer)) (next + 1 + parts_scopes ps) b)

  process_seen : (s : State) (i n : ℕ) (outer : List Level) (next : ℕ) (q : ProcessTree) →
      process_views s.blocks.scopes i n outer next q ≡ views (process_stops s i n outer next q)
  process_seen s i n outer next (process many x gs es ps b p) =
      let count = passed_entries (scope_at s.blocks.scopes next) (passed_groups (scope_at s.blocks.scopes next) 0 gs) es in
      let around = level i (passed (scope_at s.blocks.scopes i) n x) ∷ outer in
      let env = env_at s (here s.blocks.scopes next around) around_process in
      views_joined _ _ (parts_stops s true next count around (next + 1) ps) (one_stop env (next + 1 + parts_scopes ps) (a_body b))
      (parts_seen s true next count around (next + 1) ps) (views_one env (next + 1 + parts_scopes ps) (a_body b))

pub bodies_seen :
    (s : State) (t : ProgramTree)
    → (parts_views s.blocks.scopes 0 0 [] 1 t.parts ++ body_views s.blocks.scopes (here s.blocks.scopes 0 [])
    (1 + parts_scopes t.parts) t.body) ≡ views (stops s t)
bodies_seen s t =
    views_joined _ _ (parts_stops s false 0 0 [] 1 t.parts) (one_stop (env_at s (here s.blocks.scopes 0 []) around_main)
    (1 + parts_scopes t.parts) (a_body t.body))
    (parts_seen s false 0 0 [] 1 t.parts) (views_one (env_at s (here s.blocks.scopes 0 []) around_main) (1 + parts_scopes t.parts) (a_body t.body))
