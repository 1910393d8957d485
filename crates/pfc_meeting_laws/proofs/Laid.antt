-- Where the parameters of an accept stand in the layout of its process.
use Rattle.std.proofs.Common.{◌≡◌, ℕ, zero, suc, ◌+◌, ◌-◌, ◌<◌, ◌≤◌, true, ◌&&◌, List, [], ◌∷◌, ◌++◌, take, drop, get_or, refl, sym, ap, ◌∙◌, arith}
use Rattle.std.proofs.Common.{append_assoc}
use Rattle.std.specs.Prelude.{nat_lt, nat_le}
use Rattle.std.proofs.lemmas.List.{get_or-drop}
use Rattle.pfc_types.specs.Scopes.{Names, scope_at}
use Rattle.pfc_semantics.specs.Layouts.{Layout, laid_names, accepts_laid, process_layout}
use Rattle.pfc_semantics.specs.Programs.{Block, Program}
use Rattle.pfc_translation.specs.Sites.{is_accept, before_accept}
use Rattle.pfc_views.specs.Views.{block_site}
use Rattle.pfc_meeting_laws.specs.Meetings.{StandIn}

-- the names of the k-th scope among so many
record Among (scopes : List Names) (k n : ℕ) : Type 0 where
  rest : Layout
  is : accepts_laid (take n scopes) ≡ accepts_laid (take k scopes) ++ (laid_names (get_or scopes k []) ++ rest)

among : (scopes : List Names) (k n : ℕ) → k < n → Among scopes k n
among scopes k zero h = absurd (omega (arith, h))
among [] zero (suc n) h = record { rest = []; is = refl }
among [] (suc k) (suc n) h = record { rest = []; is = refl }
among (x ∷ scopes) zero (suc n) h = record { rest = accepts_laid (take n scopes); is = refl }
among (x ∷ scopes) (suc k) (suc n) h =
    let inner = among scopes k n (omega (arith, h)) in
    record {
      rest = inner.rest;
      is = ap (λ l. laid_names x ++ l) inner.is ∙ sym (append_assoc (laid_names x) (accepts_laid (take k scopes))
          (laid_names (get_or scopes k []) ++ inner.rest));
    }

both_tests : (next accepts j : ℕ) → (nat_le next j && nat_lt j (next + accepts)) ≡ true → (next ≤ j) × (j - next < accepts)
both_tests next accepts j h = (grind (arith, h), grind (arith, h))

pub accept_stands :
    (g : Program) (b : Block) (i : ℕ) → b.layout ≡ process_layout (scope_at g.state.blocks.scopes b.scope)
    (take b.accepts (drop b.next g.state.blocks.scopes)) → is_accept b i ≡ true
    → StandIn b.layout (laid_names (scope_at g.state.blocks.scopes i)) (before_accept (block_site g b) i)
accept_stands g b i layout accept =
    let scopes : List Names = g.state.blocks.scopes in
    let own : Layout = laid_names (scope_at scopes b.scope) in
    let k : ℕ = i - b.next in
    let tests = both_tests b.next b.accepts i accept in
    let over : b.next ≤ i = tests.0 in
    let place : b.next + k ≡ i = omega (arith, over) in
    let part = among (drop b.next scopes) k b.accepts tests.1 in
    let names : laid_names (get_or (drop b.next scopes) k []) ≡ laid_names (scope_at scopes i) = ap laid_names
    (get_or-drop b.next scopes k [] ∙ ap (λ n. get_or scopes n []) place) in
    record {
      before = process_layout (scope_at scopes b.scope) (take k (drop b.next scopes));
      behind = part.rest;
      is = layout ∙ ap (λ l. own ++ l) part.is ∙ ap (λ l. own ++ (accepts_laid (take k (drop b.next scopes)) ++ (l ++ part.rest))) names
          ∙ sym (append_assoc own (accepts_laid (take k (drop b.next scopes))) (laid_names (scope_at scopes i) ++ part.rest));
      place = refl;
    }
