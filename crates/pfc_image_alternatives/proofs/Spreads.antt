-- A spread stands for as many alternatives as are counted of it.
use Rattle.std.proofs.Common.{◌≡◌, ℕ, zero, suc, ◌+◌, ◌≤◌, ◌==◌, ℤ, pos, ◌+ℤ◌, Bool, true, false, ◌&&◌, if◌then◌else◌, List, [], length, Option, Some, None}
use Rattle.std.proofs.Common.{refl, sym, ap, ◌∙◌, subst, arith, length-append}
use Rattle.std.specs.Prelude.{int_le}
use Rattle.std.proofs.lemmas.List.{length-map}
use Rattle.pfc_base.specs.declared.places.Place.{Place}
use Rattle.pfc_tree.specs.declared.tree.Spread.{Spread}
use Rattle.pfc_tree.specs.declared.tree.Constant.{Constant}
use Rattle.pfc_tree.specs.trees.Stmts.{AltTrees, no_alts, more_alts, alt}
use Rattle.pfc_types.specs.Blocks.{State}
use Rattle.pfc_types.specs.Scopes.{Level, meaning_of}
use Rattle.pfc_types.specs.Types.{is_same, extent}
use Rattle.pfc_types.specs.declared.types.TypeId.{TypeId}
use Rattle.pfc_types.specs.declared.scope.Meaning.{Meaning}
use Rattle.pfc_types.specs.declared.scope.Meaning.TheVariants.{Variable, Faulty}
use Rattle.pfc_types.specs.rules.FaultyNames.{stands_faulty}
use Rattle.pfc_types.specs.rules.Kinds.{name_rules, a_variable, may_agree, may_be_simple, variable_type}
use Rattle.pfc_types.specs.rules.Constants.{Ordinal, constant_value, constant_type}
use Rattle.pfc_types.specs.rules.Expressions.{Env, find}
use Rattle.pfc_types.specs.rules.Statements.{for_rule, broken_spread, values_between, spread_count, alts_count, alt_scopes, broken_alts}
use Rattle.pfc_semantics.specs.Displays.{Spot}
use Rattle.pfc_semantics.specs.Remainders.{Context}
use Rattle.pfc_semantics.specs.Expressions.{spot_of}
use Rattle.pfc_semantics.specs.Alternatives.{replicas_from, replicas_between, replicas_by, replicas, alternative, spread_out, alternatives}
use Rattle.pfc_image_numbers.proofs.Rules.{IsClean, held, and_left, and_right}

-- ## Values

from_length : (s : Spot) (line n : ℕ) (low : ℤ) → length (replicas_from s line low n) ≡ n
from_length s line zero low = refl
from_length s line (suc n) low = ap (λ k. suc k) (from_length s line n (low +ℤ pos 1))

least : (n : ℕ) → 0 ≤ n
least n = grind arith

same_least : (n k : ℕ) → n ≡ k → n ≤ k
same_least n k h = grind (arith, h)

by_order : (s : Spot) (line : ℕ) (low high : ℤ) (r : Bool) → int_le low high ≡ r
    → length (replicas_between s line low high) ≤ (if true && int_le low high then extent low high else 0)
by_order s line low high true is =
    same_least _ _ (ap (λ (b : Bool). length (if b then replicas_from s line low (extent low high) else [])) is ∙ from_length s line (extent low high) low
    ∙ ap (λ (b : Bool). if true && b then extent low high else 0) (sym is))
by_order s line low high false is =
    same_least _ _ (ap (λ (b : Bool). length (if b then replicas_from s line low (extent low high) else [])) is
    ∙ ap (λ (b : Bool). if true && b then extent low high else 0) (sym is))

-- both bounds have one type, where they have any
abbrev Agree : Option Ordinal → Option Ordinal → Type 0
Agree (Some a) (Some b) = is_same a.t b.t ≡ true
Agree a b = Unit {0}

by_bounds : (s : Spot) (line : ℕ) (a b : Option Ordinal) → Agree a b → length (replicas_by s line a b) ≤ values_between a b
by_bounds s line None b h = least _
by_bounds s line (Some a) None h = least _
by_bounds s line (Some a) (Some b) h =
    subst (λ (r : Bool). length (replicas_between s line a.value b.value) ≤ (if r && int_le a.value b.value then extent a.value b.value else 0)) (sym h)
    (by_order s line a.value b.value (int_le a.value b.value) refl)

-- ## Their types

same_places : (n j k : ℕ) → (n == j) ≡ true → (n == k) ≡ true → (j == k) ≡ true
same_places n j k one two = grind (arith, one, two)

of_type : (t : TypeId) (a b : Option Ordinal) → may_agree (Some t) (constant_type a) ≡ true → may_agree (Some t) (constant_type b) ≡ true → Agree a b
of_type t None b one two = tt
of_type t (Some a) None one two = tt
of_type t (Some a) (Some b) one two = same_places t.place a.t.place b.t.place one two

by_meaning : (m : Option Meaning) (p q : Place) (a b : Option Ordinal) → stands_faulty m ≡ false → IsClean (name_rules a_variable m p)
    → IsClean (for_rule (variable_type m) (constant_type a) (constant_type b) q) → Agree a b
by_meaning (Some (Variable t r)) p q a b sound name rule =
    let all = held _ q 321 rule in
    let first = and_left (may_be_simple (Some t) && may_agree (Some t) (constant_type a)) (may_agree (Some t) (constant_type b)) all in
    of_type t a b (and_right (may_be_simple (Some t)) (may_agree (Some t) (constant_type a)) first)
    (and_right (may_be_simple (Some t) && may_agree (Some t) (constant_type a)) (may_agree (Some t) (constant_type b)) all)
by_meaning (Some Faulty) p q a b sound name rule = absurd (let no : true ≡ false = sound in cc)
by_meaning m p q a b sound name rule = absurd name

-- ## All alternatives

-- no name in view is faulty
abbrev pub AreSound : State → Type 0
AreSound s = (env : Env) → env.state ≡ s → (x : _) → stands_faulty (meaning_of (find env x)) ≡ false

-- what is known at a place is that of the rules there
pub record IsLike (one other : Env) : Type 0 where
  pub state : one.state ≡ other.state
  pub view : one.view ≡ other.view

module _ (s : State) (sound : AreSound s) where
  constant_same : (e v : Env) → IsLike v e → (k : Constant)
      → constant_value e.state.blocks.scopes e.view k ≡ constant_value v.state.blocks.scopes v.view k
  constant_same e v like k =
      ap (λ (y : State). constant_value y.blocks.scopes e.view k) (sym like.state)
      ∙ ap (λ (ls : List Level). constant_value v.state.blocks.scopes ls k) (sym like.view)

  spread_few : (e : Env) (c : Context) → e.state ≡ s → IsLike c.env e → (n : ℕ) (spread : Option Spread) (guard : _) (comm : _) (ss : _)
      → IsClean (broken_spread e spread) → length (spread_out c n spread guard comm ss) ≤ spread_count e spread
  spread_few e c state like n None guard comm ss clean = same_least 1 1 refl
  spread_few e c state like n (Some r) guard comm ss clean =
      let low = constant_same e c.env like r.low in
      let high = constant_same e c.env like r.high in
      let agree : Agree (constant_value e.state.blocks.scopes e.view r.low) (constant_value e.state.blocks.scopes e.view r.high) =
      by_meaning (meaning_of (find e r.name)) r.place r.place _ _ (sound e state r.name) clean.0 clean.1.1.1 in
      subst (λ k. k ≤ spread_count e (Some r)) (sym (length-map (replicas c r) (λ y. alternative n guard comm ss (Some y))))
      (subst (λ (a : Option Ordinal). length (replicas_by (spot_of c.env (find c.env r.name)).spot c.line a
      (constant_value c.env.state.blocks.scopes c.env.view r.high)) ≤ spread_count e (Some r)) low
      (subst (λ (b : Option Ordinal). length (replicas_by (spot_of c.env (find c.env r.name)).spot c.line
      (constant_value e.state.blocks.scopes e.view r.low) b) ≤ spread_count e (Some r)) high
      (by_bounds (spot_of c.env (find c.env r.name)).spot c.line _ _ agree)))

  pub all_few : (e : Env) (c : Context) → e.state ≡ s → IsLike c.env e → (n : ℕ) (alts : AltTrees) → IsClean (broken_alts e n alts)
      → length (alternatives c n alts) ≤ alts_count e alts
  all_few e c state like n no_alts clean = least 0
  all_few e c state like n (more_alts (alt spread guard comm ss) alts) clean =
      joined (spread_few e c state like n spread guard comm ss clean.0.0)
      (all_few e c state like (n + alt_scopes (alt spread guard comm ss)) alts clean.1)
      (length-append (spread_out c n spread guard comm ss) (alternatives c (n + alt_scopes (alt spread guard comm ss)) alts))
    where
      joined : {i j k l m : ℕ} → i ≤ j → k ≤ l → m ≡ i + k → m ≤ j + l
      joined {i} {j} {k} {l} {m} one two all = omega (arith, one, two, all)
