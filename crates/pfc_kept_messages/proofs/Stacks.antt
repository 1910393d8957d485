-- The stacks where words are written, one process moves, and another is put at a branch.
use Rattle.std.proofs.Common.{◌≡◌, ◌≢◌, ℕ, ◌^◌, ◌<◌, ◌≤◌, ℤ, List, length, set, refl, sym, ap, ◌∙◌, subst, arith, ◌⊎◌, inl, inr}
use Rattle.std.proofs.lemmas.List.{get_or-set_same, get_or-set_other}
use Rattle.pfc_semantics.specs.Store.{Store}
use Rattle.pfc_stacks.specs.declared.refs.Ref.{Ref}
use Rattle.pfc_stacks.specs.Stacks.{Stack, Stacks, no_stack, stack_of, cells_of, with_words, written}
use Rattle.pfc_cells.specs.Homes.{Homes}
use Rattle.pfc_cells.specs.Memory.{Entries, ProcessIs}
use Rattle.pfc_cells.proofs.Reading.{written_here, written_there}
use Rattle.pfc_representation.specs.Levels.{Facts, program_in}
use Rattle.pfc_representation.specs.Keeping.{IsSameStack}
use Rattle.pfc_kept_own_actions.proofs.Writing.{cells_alone}
use Rattle.pfc_kept_messages.proofs.Sight.{StillHolds}

either : (q p : ℕ) → (q ≡ p) ⊎ (q ≢ p)
either q p = grind arith

-- ## Where it is

-- a write leaves each process where it is
pub written_same : (stacks : Stacks) (r : Ref) (words : List ℤ) (q : ℕ) → IsSameStack (stack_of stacks q) (stack_of (written stacks r words) q)
written_same stacks r words q = cells_alone stacks r.process q (with_words (stack_of stacks r.process).cells r.cell words)

-- one process changes, alike on both
module _ (stacks stacks' : Stacks) (p : ℕ) (f : Stack → Stack) (alike : (s s' : Stack) → IsSameStack s s' → IsSameStack (f s) (f s'))
    (there : p < length stacks)
    (there' : p < length stacks') (same : (q : ℕ) → IsSameStack (stack_of stacks q) (stack_of stacks' q)) where
  here : IsSameStack (stack_of (set stacks p (f (stack_of stacks p))) p) (stack_of (set stacks' p (f (stack_of stacks' p))) p)
  here =
      subst (λ (s : Stack). IsSameStack s (stack_of (set stacks' p (f (stack_of stacks' p))) p))
      (sym (get_or-set_same stacks p (f (stack_of stacks p)) no_stack there))
      (subst (λ (s : Stack). IsSameStack (f (stack_of stacks p)) s) (sym (get_or-set_same stacks' p (f (stack_of stacks' p)) no_stack there'))
      (alike (stack_of stacks p) (stack_of stacks' p) (same p)))

  by_place : (q : ℕ) → (q ≡ p) ⊎ (q ≢ p) → IsSameStack (stack_of (set stacks p (f (stack_of stacks p))) q) (stack_of (set stacks' p (f (stack_of stacks' p))) q)
  by_place q (inl is) = subst (λ n. IsSameStack (stack_of (set stacks p (f (stack_of stacks p))) n) (stack_of (set stacks' p (f (stack_of stacks' p))) n))
      (sym is) here
  by_place q (inr apart) =
      subst (λ (s : Stack). IsSameStack s (stack_of (set stacks' p (f (stack_of stacks' p))) q))
      (sym (get_or-set_other stacks p q (f (stack_of stacks p)) no_stack apart))
      (subst (λ (s : Stack). IsSameStack (stack_of stacks q) s) (sym (get_or-set_other stacks' p q (f (stack_of stacks' p)) no_stack apart)) (same q))

  pub changed_alike : (q : ℕ) → IsSameStack (stack_of (set stacks p (f (stack_of stacks p))) q) (stack_of (set stacks' p (f (stack_of stacks' p))) q)
  changed_alike q = by_place q (either q p)

pub moved_alike : (to : ℕ) (left : List ℤ) (s s' : Stack) → IsSameStack s s'
    → IsSameStack (record s { at = to; operands = left }) (record s' { at = to; operands = left })
moved_alike to left s s' is = record { at = refl; base = is.base; operands = refl; room = is.room; spare = is.spare; looks_from = is.looks_from }

pub put_alike : (to : ℕ) (s s' : Stack) → IsSameStack s s' → IsSameStack (record s { at = to }) (record s' { at = to })
put_alike to s s' is = record { at = refl; base = is.base; operands = is.operands; room = is.room; spare = is.spare; looks_from = is.looks_from }

-- ## Cells

-- one process changes, but not its cells
pub changed_cells : (stacks : Stacks) (p : ℕ) (f : Stack → Stack) → ((s : Stack) → (f s).cells ≡ s.cells) → p < length stacks → (q : ℕ)
    → cells_of (set stacks p (f (stack_of stacks p))) q ≡ cells_of stacks q
changed_cells stacks p f keeps there q = by_place (either q p)
  where
    by_place : (q ≡ p) ⊎ (q ≢ p) → cells_of (set stacks p (f (stack_of stacks p))) q ≡ cells_of stacks q
    by_place (inl is) =
        ap (λ n. cells_of (set stacks p (f (stack_of stacks p))) n) is
        ∙ ap (λ (s : Stack). s.cells) (get_or-set_same stacks p (f (stack_of stacks p)) no_stack there) ∙ keeps (stack_of stacks p)
        ∙ ap (λ n. cells_of stacks n) (sym is)
    by_place (inr apart) = ap (λ (s : Stack). s.cells) (get_or-set_other stacks p q (f (stack_of stacks p)) no_stack apart)

-- the same is written where the same cells are
pub written_alike : (stacks stacks' : Stacks) (r : Ref) (words : List ℤ) → r.process < length stacks → r.process < length stacks'
    → ((q : ℕ) → cells_of stacks' q ≡ cells_of stacks q) → (q : ℕ) → cells_of (written stacks' r words) q ≡ cells_of (written stacks r words) q
written_alike stacks stacks' r words there there' same q = by_place (either q r.process)
  where
    by_place : (q ≡ r.process) ⊎ (q ≢ r.process) → cells_of (written stacks' r words) q ≡ cells_of (written stacks r words) q
    by_place (inl is) =
        ap (λ n. cells_of (written stacks' r words) n) is ∙ written_here stacks' r words there'
        ∙ ap (λ (cells : List ℤ). with_words cells r.cell words) (same r.process)
        ∙ sym (written_here stacks r words there) ∙ ap (λ n. cells_of (written stacks r words) n) (sym is)
    by_place (inr apart) = written_there stacks' r words q apart ∙ same q ∙ sym (written_there stacks r words q apart)

pub holds_alike : (facts : Facts) (homes : Homes) (entries : Entries) (store store' : Store) (stacks stacks' : Stacks)
    → ((q : ℕ) → cells_of stacks' q ≡ cells_of stacks q)
    → length stacks' ≡ length stacks → StillHolds facts homes entries store store' stacks → StillHolds facts homes entries store store' stacks'
holds_alike facts homes entries store store' stacks stacks' same size holds =
    record {
      memory = λ q. subst (λ (cells : List ℤ). ProcessIs (program_in facts) homes store' q (entries q) cells) (sym (same q)) (holds.memory q);
      few = record {
        cells = λ q. subst (λ (cells : List ℤ). length cells < 2 ^ 32) (sym (same q)) (holds.few.cells q);
        processes = subst (λ n. n ≤ 1024) (sym size) holds.few.processes;
      };
      objects = holds.objects;
      like = holds.like;
    }
