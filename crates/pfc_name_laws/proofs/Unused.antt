-- Where no name in view is faulty, nothing that is written uses one.
use Rattle.std.proofs.Common.{◌≡◌, Bool, true, false, not, ◌&&◌, ◌||◌, List, [], ◌∷◌, refl}
use Rattle.pfc_tree.specs.declared.tree.Constant.{Constant}
use Rattle.pfc_tree.specs.declared.tree.Constant.TheVariants.{Number, Named as NamedConstant, Literal}
use Rattle.pfc_tree.specs.declared.tree.Range.{Range}
use Rattle.pfc_tree.specs.trees.Types.{TypeTree, VarTree, VarTrees, named, channel, array, fields, var_item, no_vars, more_vars}
use Rattle.pfc_types.specs.Faults.{Faults, none, one, ◌⨾◌, listed}
use Rattle.pfc_types.specs.Scopes.{Names, Level}
use Rattle.pfc_types.specs.rules.FaultyNames.{constant_uses_faulty, ranges_use_faulty, type_uses_faulty, items_use_faulty, item_uses_faulty}
use Rattle.pfc_types.proofs.Clean.{clean}
use Rattle.pfc_name_laws.proofs.Numbers.{NoFaulty, none_before, none_behind}

pub clean_list : (fs : Faults) → listed fs ≡ [] → clean fs ≡ true
clean_list none h = refl
clean_list (one f) h = absurd (cc)
clean_list (fs ⨾ gs) h =
    both (clean fs) (clean gs) (clean_list fs (none_before (listed fs) (listed gs) h)) (clean_list gs (none_behind (listed fs) (listed gs) h))
  where
    both : (a b : Bool) → a ≡ true → b ≡ true → (a && b) ≡ true
    both true true p q = refl
    both true false p q = absurd (cc)
    both false b p q = absurd (cc)

-- a part has a type exactly where it is clean and uses nothing faulty
pub clash : (some clean uses : Bool) → some ≡ (clean && not uses) → some ≡ false → clean ≡ true → uses ≡ false → ⊥
clash true c u e p q r = cc
clash false true false e p q r = cc
clash false true true e p q r = cc
clash false false u e p q r = cc

or_false : (a b : Bool) → a ≡ false → b ≡ false → (a || b) ≡ false
or_false false false p q = refl
or_false true b p q = absurd (cc)
or_false false true p q = absurd (cc)

pub constant_unused : (scopes : List Names) (v : List Level) (c : Constant) → NoFaulty scopes v → constant_uses_faulty scopes v c ≡ false
constant_unused scopes v (Number sign n p) h = refl
constant_unused scopes v (NamedConstant sign x p) h = h x
constant_unused scopes v (Literal x p) h = refl

ranges_unused : (scopes : List Names) (v : List Level) (rs : List Range) → NoFaulty scopes v → ranges_use_faulty scopes v rs ≡ false
ranges_unused scopes v [] h = refl
ranges_unused scopes v (r ∷ rs) h =
    or_false (constant_uses_faulty scopes v r.low || constant_uses_faulty scopes v r.high) (ranges_use_faulty scopes v rs)
    (or_false (constant_uses_faulty scopes v r.low) (constant_uses_faulty scopes v r.high) (constant_unused scopes v r.low h)
    (constant_unused scopes v r.high h)) (ranges_unused scopes v rs h)

mutual
  pub type_unused : (scopes : List Names) (v : List Level) (t : TypeTree) → NoFaulty scopes v → type_uses_faulty scopes v t ≡ false
  type_unused scopes v (named x p) h = h x
  type_unused scopes v (channel t p) h = type_unused scopes v t h
  type_unused scopes v (array rs t p) h =
      or_false (ranges_use_faulty scopes v rs) (type_uses_faulty scopes v t) (ranges_unused scopes v rs h) (type_unused scopes v t h)
  type_unused scopes v (fields vs last p) h = items_unused scopes v vs h

  items_unused : (scopes : List Names) (v : List Level) (vs : VarTrees) → NoFaulty scopes v → items_use_faulty scopes v vs ≡ false
  items_unused scopes v no_vars h = refl
  items_unused scopes v (more_vars x vs) h =
      or_false (item_uses_faulty scopes v x) (items_use_faulty scopes v vs) (item_unused scopes v x h) (items_unused scopes v vs h)

  item_unused : (scopes : List Names) (v : List Level) (x : VarTree) → NoFaulty scopes v → item_uses_faulty scopes v x ≡ false
  item_unused scopes v (var_item xs t) h = type_unused scopes v t h
