-- The names in view at the bodies of all parts: the names that the walk over the bodies counts in the finished scopes are those that
-- the scopes held when the walk over the declarations came there.
use Rattle.std.proofs.Common.{◌≡◌, ◌++◌, ◌+◌, ℕ, ◌<◌, Bool, true, false, List, [], length, Some, sym, ap, ap₂, subst, arith}
use Rattle.pfc_tree.specs.trees.Parts.{PartTree, PartTrees, SubTree, ModuleTree, ProcessTree, ProgramTree, consts, types, vars, sub_part, monitor, resource}
use Rattle.pfc_tree.specs.trees.Parts.{process_part, no_parts, more_parts, sub, the_module, process}
use Rattle.pfc_types.specs.Growing.{Begins}
use Rattle.pfc_types.specs.Scopes.{Names, Level, scope_at, here}
use Rattle.pfc_types.specs.Blocks.{State, open_scope}
use Rattle.pfc_types.specs.Visits.{AreCounted, part_visits, parts_visits, sub_visits, module_visits, process_visits, visits}
use Rattle.pfc_types.specs.Stops.{views, stops, body_views}
use Rattle.pfc_types.proofs.PartViews.{part_views, parts_views, sub_views, module_views, process_views}
use Rattle.pfc_types.specs.rules.Declarations.{Owner, in_program, elsewhere, sub_headed, process_headed, entries_state, module_owner, cells_rule, part_state}
use Rattle.pfc_types.specs.rules.Declarations.{parts_state, sub_state, module_state, process_state}
use Rattle.pfc_types.specs.rules.Bodies.{part_scopes, parts_scopes, passed_part}
use Rattle.pfc_types.specs.rules.Whole.{begun, declared_all, declared_parts, finished, main_cells, scopes_of}
use Rattle.pfc_types.proofs.Prefixes.{begins_same}
use Rattle.pfc_types.proofs.Walking.{held, Walked, note_kept}
use Rattle.pfc_types.proofs.WalkParts.{part_walked, parts_walked}
use Rattle.pfc_types.proofs.Views.{AllWithin, within_grown, walked_grown, Finished, finished_later, finished_walked, counted_none, counted_both, counted_as}
use Rattle.pfc_types.proofs.Stops.{bodies_seen}
use Rattle.pfc_types.proofs.ViewsBlocks.{PartsCounted, sub_block, module_block, process_block, block_finished, block_counted}

-- ## One part and the parts behind it

more_parts_counted :
    (owner : Owner) (s : State) (i : ℕ) (outer : List Level) (q : PartTree) (qs : PartTrees) (fin : List Names)
    → i < length (held s) → AllWithin (held s) outer → Finished (length (held s)) (held (parts_state owner s i outer (more_parts q qs))) fin
    → (Finished (length (held s)) (held (part_state owner s i outer q)) fin →
    AreCounted fin (part_visits owner s i outer q) (part_views fin i (length (scope_at (held s) i)) outer (length (held s)) q))
    → PartsCounted owner (part_state owner s i outer q) i outer qs fin
    → AreCounted fin (parts_visits owner s i outer (more_parts q qs))
    (parts_views fin i (length (scope_at (held s) i)) outer (length (held s)) (more_parts q qs))
more_parts_counted owner s i outer q qs fin b w f part parts =
    counted_both {vs = part_visits owner s i outer q} {ws = parts_visits owner next i outer qs} {us =
    part_views fin i (length (scope_at (held s) i)) outer (length (held s)) q} (part behind)
    (counted_as (parts inside (within_grown (held s) (held next) outer (walked_grown one) w) (finished_later f (omega (arith, one.count))))
    (ap₂ (λ n m. parts_views fin i n outer m qs) (sym (one.counts (scope_at fin i) (behind.grown i))) one.count))
  where
    next : State
    next = part_state owner s i outer q

    one : Walked i s next (part_scopes q) (λ names n. passed_part names n q)
    one = part_walked owner s i outer q b

    inside : i < length (held next)
    inside = omega (arith, b, one.count)

    behind : Finished (length (held s)) (held next) fin
    behind = finished_walked b (parts_walked owner next i outer qs inside) f

-- ## Parts

mutual
  part_counted : (owner : Owner) (s : State) (i : ℕ) (outer : List Level) (q : PartTree) (fin : List Names) → i < length (held s) → AllWithin (held s) outer →
      Finished (length (held s)) (held (part_state owner s i outer q)) fin
      → AreCounted fin (part_visits owner s i outer q) (part_views fin i (length (scope_at (held s) i)) outer (length (held s)) q)
  part_counted owner s i outer (consts items) fin b w f = counted_none fin
  part_counted owner s i outer (types items) fin b w f = counted_none fin
  part_counted owner s i outer (vars vs) fin b w f = counted_none fin
  part_counted owner s i outer (sub_part q) fin b w f = sub_counted s i outer q fin b w f
  part_counted owner s i outer (monitor m) fin b w f = module_counted false s i outer m fin b w f
  part_counted owner s i outer (resource m) fin b w f = module_counted true s i outer m fin b w f
  part_counted owner s i outer (process_part q) fin b w f = process_counted s i outer q fin b w f

  parts_counted : (owner : Owner) (s : State) (i : ℕ) (outer : List Level) (qs : PartTrees) (fin : List Names) → PartsCounted owner s i outer qs fin
  parts_counted owner s i outer no_parts fin b w f = counted_none fin
  parts_counted owner s i outer (more_parts q qs) fin b w f = more_parts_counted owner s i outer q qs fin b w f (part_counted owner s i outer q fin b w)
      (parts_counted owner (part_state owner s i outer q) i outer qs fin)

  sub_counted : (s : State) (i : ℕ) (outer : List Level) (q : SubTree) (fin : List Names) → i < length (held s) → AllWithin (held s) outer →
      Finished (length (held s)) (held (sub_state s i outer q)) fin
      → AreCounted fin (sub_visits s i outer q) (sub_views fin i (length (scope_at (held s) i)) outer (length (held s)) q)
  sub_counted s i outer (sub x gs kind ps inside p) fin b w f =
      sub_block s i outer x gs kind ps inside p fin b w f (parts_counted elsewhere (sub_headed s i outer (x, p) gs kind) (length (held s))
      (here (held (sub_headed s i outer (x, p) gs kind)) i outer) ps fin)

  module_counted : (is_resource : Bool) (s : State) (i : ℕ) (outer : List Level) (m : ModuleTree) (fin : List Names) → i < length (held s) →
      AllWithin (held s) outer → Finished (length (held s)) (held (module_state is_resource s i outer m)) fin
      → AreCounted fin (module_visits is_resource s i outer m) (module_views fin i (length (scope_at (held s) i)) outer (length (held s)) m)
  module_counted is_resource s i outer (the_module x exports ps inside last p) fin b w f =
      module_block is_resource s i outer x exports ps inside last p fin b w f (parts_counted (module_owner is_resource) (open_scope s)
      (length (held s)) (here (held s) i outer) ps fin)

  process_counted : (s : State) (i : ℕ) (outer : List Level) (q : ProcessTree) (fin : List Names) → i < length (held s) → AllWithin (held s) outer →
      Finished (length (held s)) (held (process_state s i outer q)) fin
      → AreCounted fin (process_visits s i outer q) (process_views fin i (length (scope_at (held s) i)) outer (length (held s)) q)
  process_counted s i outer (process many x gs es ps inside p) fin b w f =
      process_block s i outer many x gs es ps inside p fin b w f
      (parts_counted elsewhere (entries_state (process_headed s i outer many (x, p) gs) (length (held s))
      (here (held (process_headed s i outer many (x, p) gs)) i outer) 0 es) (length (held s))
      (here (held (process_headed s i outer many (x, p) gs)) i outer) ps fin)

-- ## The whole

finished_same : (b : ℕ) (scopes fin : List Names) → scopes ≡ fin → Finished b fin scopes
finished_same b scopes fin e =
    record {
      grown = λ j. subst (λ x. Begins (scope_at fin j) (scope_at x j)) (sym e) (begins_same (scope_at fin j));
      closed = λ j low high. ap (λ x. scope_at x j) e;
    }

-- The two walks over a tree have the same names in view at each body.
pub program_counted : (t : ProgramTree) → AreCounted (scopes_of t).scopes (visits t) (views (stops (finished t) t))
program_counted t = counted_as {vs = visits t} counted (bodies_seen (finished t) t)
  where
    fin : List Names
    fin = (scopes_of t).scopes

    f : Finished 0 (held (declared_all t)) fin
    f = finished_same 0 fin (held (declared_all t)) (note_kept (declared_all t) (cells_rule (main_cells (declared_all t)) t.name.1)).scopes

    f_declared : Finished 0 (held (declared_parts t)) fin
    f_declared = block_finished in_program begun 0 0 [] t.parts (Some t.body) fin f

    counted : AreCounted fin (visits t) (parts_views fin 0 0 [] 1 t.parts ++ body_views fin (here fin 0 []) (1 + parts_scopes t.parts) t.body)
    counted = block_counted in_program begun 0 0 [] t.parts (Some t.body) fin (omega arith) (omega arith) tt f (parts_counted in_program begun 0 [] t.parts fin
        (omega arith) tt (finished_later f_declared (omega arith)))
