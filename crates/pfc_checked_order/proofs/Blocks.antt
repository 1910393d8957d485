-- The blocks of a program stand where the blocks around them do.
use Rattle.std.proofs.Common.{◌≡◌, ℕ, ◌+◌, ◌≤◌, ◌<◌, ◌⊎◌, inl, inr, false, List, [], ◌∷◌, sym, ◌∙◌, arith}
use Rattle.std.specs.List.{AllByRecursion}
use Rattle.pfc_tree.specs.trees.Parts.{PartTrees, ProgramTree, no_parts, more_parts}
use Rattle.pfc_types.specs.Scopes.{scope_at}
use Rattle.pfc_types.specs.Blocks.{State}
use Rattle.pfc_types.specs.rules.Bodies.{passed_part, part_scopes, parts_scopes}
use Rattle.pfc_types.specs.rules.Whole.{finished}
use Rattle.pfc_semantics.specs.Programs.{Block, part_blocks, parts_blocks, program_of}
use Rattle.pfc_guard_laws.proofs.Lists.{all_append}
use Rattle.pfc_declared_order.specs.Parts.{IsInPart, IsOfPart, seen_in, PartsStand}
use Rattle.pfc_declared_order.proofs.Parts.{parts_stand}
use Rattle.pfc_checked_order.specs.Order.{start_of, top_of, IsPlaced}
use Rattle.pfc_checked_order.proofs.Starts.{start_here, start_later, top_start}

module _ (top : ℕ → ℕ) (end : ℕ) where
  part_placed :
      (s : State) (lo hi n : ℕ) → 1 ≤ lo → hi ≤ end → ((j : ℕ) → lo ≤ j → j < hi → top j ≡ lo) → (bs : List Block)
      → AllByRecursion (IsOfPart s lo hi n) bs → AllByRecursion (IsPlaced top end) bs
  part_placed s lo hi n some fit is [] all = tt
  part_placed s lo hi n some fit is (b ∷ bs) all = (
    record {
      some = (let low = all.0.low in omega (arith, some, low));
      few = (let high = all.0.high in omega (arith, fit, high));
      outer = around all.0.outer;
    },
    part_placed s lo hi n some fit is bs all.1,
  )
    where
      around : IsInPart lo hi b.outer → (b.outer ≡ 0) ⊎ (top b.outer ≡ top b.scope)
      around (inl none) = inl none
      around (inr both) = inr (is b.outer both.0 both.1 ∙ sym (is b.scope all.0.low all.0.high))

  all_placed :
      (s : State) (n next : ℕ) (qs : PartTrees) → 1 ≤ next → next + parts_scopes qs ≤ end → ((j : ℕ) → next ≤ j → top j ≡ start_of next qs j)
      → PartsStand s n next qs → AllByRecursion (IsPlaced top end) (parts_blocks s false 0 n [] next qs)
  all_placed s n next no_parts some fit is stand = tt
  all_placed s n next (more_parts q qs) some fit is stand =
      all_append (IsPlaced top end) (part_blocks s false 0 n [] next q) _
      (part_placed s next (next + part_scopes q) (seen_in (scope_at s.blocks.scopes 0) n q) some (omega (arith, fit))
      (λ j low high. is j low ∙ start_here next q qs j high) (part_blocks s false 0 n [] next q) stand.0)
      (all_placed s (passed_part (scope_at s.blocks.scopes 0) n q) (next + part_scopes q) qs (omega (arith, some)) (omega (arith, fit))
      (λ j low. is j (omega (arith, low)) ∙ start_later next q qs j low) stand.2)

pub blocks_placed : (t : ProgramTree) → AllByRecursion (IsPlaced (λ j. top_of t.parts j) (1 + parts_scopes t.parts)) (program_of t).blocks
blocks_placed t =
    all_placed (λ j. top_of t.parts j) (1 + parts_scopes t.parts) (finished t) 0 1 t.parts (omega arith) (omega arith) (λ j low. top_start t.parts j low)
    (parts_stand (finished t) 0 1 t.parts)
