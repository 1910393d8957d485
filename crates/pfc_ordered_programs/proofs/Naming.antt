-- What names stand for in the scopes of a finished program.
use Rattle.std.proofs.Common.{◌≡◌, ℕ, zero, suc, ◌+◌, ◌≤◌, ◌<◌, ◌⊎◌, inl, inr, Bool, true, false, cond, [], ◌∷◌, length, bytes_eq, Option, Some, refl}
use Rattle.std.proofs.Common.{subst, ◌∙◌, arith}
use Rattle.std.specs.List.{AllByRecursion}
use Rattle.std.specs.Option.{IfSome}
use Rattle.pfc_tree.specs.Symbols.{Text}
use Rattle.pfc_tree.specs.trees.Parts.{PartTrees, ProgramTree, no_parts, more_parts}
use Rattle.pfc_tree.specs.forget.Parts.{forget_parts, forget_program}
use Rattle.pfc_tree.specs.lawful.Parts.{of_program, AreLawfulParts, IsLawful}
use Rattle.pfc_types.specs.Scopes.{Names, Level, scope_at, here, meaning_in, position_in, found_at, meaning_of}
use Rattle.pfc_types.specs.Blocks.{State, sub_at}
use Rattle.pfc_types.specs.declared.scope.Meaning.{Meaning}
use Rattle.pfc_types.specs.declared.scope.Meaning.TheVariants.{Sub, Module}
use Rattle.pfc_types.specs.rules.Declarations.{in_program, cells_rule, part_state, parts_state}
use Rattle.pfc_types.specs.rules.Bodies.{part_scopes}
use Rattle.pfc_types.specs.rules.Whole.{begun, declared_parts, declared_all, main_cells, finished}
use Rattle.pfc_types.proofs.WalkParts.{part_walked}
use Rattle.pfc_name_laws.specs.Reached.{IsNumbered}
use Rattle.pfc_name_laws.proofs.Numbers.{numbered, meaning_numbered}
use Rattle.pfc_name_laws.proofs.Parts.{finished_reached}
use Rattle.pfc_checked_order.specs.Order.{start_of, top_of}
use Rattle.pfc_checked_order.proofs.Starts.{start_here, start_later, top_start}
use Rattle.pfc_checked_order.proofs.Names.{found_meaning}
use Rattle.pfc_ordered_programs.proofs.Opening.{PartsOpen}
use Rattle.pfc_ordered_programs.proofs.Named.{MayName, MayStand, Good, note_good, body_good, part_good}

found_fit : (Q : Meaning → Type 0) (names : Names) → AllByRecursion (λ (x : Text × Meaning). Q x.1) names → (x : Text) (m : Meaning)
    → meaning_in names x ≡ Some m → Q m
found_fit Q [] all x m e = absurd (cc)
found_fit Q (n ∷ names) all x m e = by (bytes_eq x n.0) e (λ k. found_fit Q names all.1 x m k)
  where
    by : (b : Bool) → cond b (Some n.1) (meaning_in names x) ≡ Some m → (meaning_in names x ≡ Some m → Q m) → Q m
    by true h rest = let same : n.1 ≡ m = cc in subst Q same all.0
    by false h rest = rest h

module _ (t : ProgramTree) where
  abbrev pub top : ℕ → ℕ
  top j = top_of t.parts j

  -- the program's scope, or that of a block or of a module
  abbrev pub Opens : ℕ → Type 0
  Opens i = (i ≡ 0) ⊎ PartsOpen 1 t.parts i

  abbrev G : State → Type 0
  G s = Good top Opens s

  begun_good : G begun
  begun_good zero = tt
  begun_good (suc i) = tt

  tops_good :
      (s : State) (next : ℕ) (qs : PartTrees) → length s.blocks.scopes ≡ next → 1 ≤ next → ((j : ℕ) → next ≤ j → top j ≡ start_of next qs j)
      → ((j : ℕ) → PartsOpen next qs j → Opens j) → AreLawfulParts of_program (forget_parts qs) → G s → G (parts_state in_program s 0 [] qs)
  tops_good s next no_parts at some is opens lawful good = good
  tops_good s next (more_parts q qs) at some is opens lawful good =
      let count = (part_walked in_program s 0 [] q (omega (arith, at, some))).count in
      tops_good (part_state in_program s 0 [] q) (next + part_scopes q) qs (omega (arith, at, count)) (omega (arith, some))
      (λ j low. is j (omega (arith, low)) ∙ start_later next q qs j low) (λ j e. opens j (inr e)) lawful.1
      (part_good top Opens next (next + part_scopes q) some (λ j low high. is j low ∙ start_here next q qs j high) of_program in_program s 0 [] next q at
      (record {
        before = omega (arith, some);
        low = omega arith;
        high = omega arith;
        around = inl refl;
        modules = λ holds. refl;
        guards = λ e none. none;
        declares = inl refl;
      })
      (λ j e. opens j (inl e)) lawful.0 good)

  module _ (lawful : IsLawful (forget_program t)) where
    finished_good : G (finished t)
    finished_good =
        let s = declared_parts t in
        let done = declared_all t in
        note_good top Opens done (cells_rule (main_cells done) t.name.1)
        (body_good top Opens s (here s.blocks.scopes 0 []) t.body
        (tops_good begun 1 t.parts refl (omega arith) (λ j low. top_start t.parts j low) (λ j e. inr e) lawful.0 begun_good))

    pub named_sub : (i : ℕ) (x : Text) (n : ℕ) → meaning_in (scope_at (finished t).blocks.scopes i) x ≡ Some (Sub n)
        → (n < length (finished t).blocks.subs) × MayName top Opens i (sub_at (finished t).blocks n)
    named_sub i x n e =
        found_fit (λ (m : Meaning). MayStand top Opens (finished t).blocks.subs i m) (scope_at (finished t).blocks.scopes i) (finished_good i) x (Sub n) e

    pub named_module : (i : ℕ) (x : Text) (n : ℕ) → meaning_in (scope_at (finished t).blocks.scopes i) x ≡ Some (Module n) → i ≡ 0
    named_module i x n e =
        found_fit (λ (m : Meaning). MayStand top Opens (finished t).blocks.subs i m) (scope_at (finished t).blocks.scopes i) (finished_good i) x (Module n) e

    -- where a level has the name
    pub level_sub : (l : Level) (x : Text) (n : ℕ) → meaning_of (found_at (finished t).blocks.scopes l x) ≡ Some (Sub n)
        → (n < length (finished t).blocks.subs) × MayName top Opens l.scope (sub_at (finished t).blocks n)
    level_sub l x n e =
        let names = scope_at (finished t).blocks.scopes l.scope in
        named_sub l.scope x n (found_meaning l (position_in names x) (meaning_in names x) (Sub n) e)

    pub level_module : (l : Level) (x : Text) (n : ℕ) → meaning_of (found_at (finished t).blocks.scopes l x) ≡ Some (Module n)
        → (n < length (finished t).blocks.modules) × (l.scope ≡ 0)
    level_module l x n e =
        let names = scope_at (finished t).blocks.scopes l.scope in
        let is = found_meaning l (position_in names x) (meaning_in names x) (Module n) e in (
          subst (λ (o : Option Meaning). IfSome o (IsNumbered (finished t).blocks l.scope)) is
              (meaning_numbered (finished t) (numbered (finished t) (finished_reached t)) l.scope x),
          named_module l.scope x n is,
        )
