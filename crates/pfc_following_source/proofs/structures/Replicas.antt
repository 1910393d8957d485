-- The write of the variable of a replicated alternative.
use Rattle.std.proofs.Common.{◌≡◌, ℕ, suc, ◌+◌, ◌≤◌, ℤ, pos, Bool, if◌then◌else◌, List, [], ◌∷◌, length, Some, refl, sym, ap, ◌∙◌, subst, arith}
use Rattle.pfc_code.specs.declared.instructions.Instr.TheVariants.{LIT, STORE}
use Rattle.pfc_types.specs.Scopes.{Level}
use Rattle.pfc_types.specs.rules.Expressions.{Env}
use Rattle.pfc_types.specs.declared.view.Around.{Around}
use Rattle.pfc_semantics.specs.Values.{ordinal}
use Rattle.pfc_semantics.specs.Displays.{TypedSpot}
use Rattle.pfc_semantics.specs.Programs.{Block}
use Rattle.pfc_semantics.specs.Remainders.{Replica, Remainder, writes}
use Rattle.pfc_semantics.specs.Alternatives.{context}
use Rattle.pfc_translation.specs.Sites.{Site}
use Rattle.pfc_translation.specs.Codes.{◌⨾◌, one}
use Rattle.pfc_translation.specs.Addresses.{base_code}
use Rattle.pfc_translation.specs.Selects.{replica_code}
use Rattle.pfc_standing_code.specs.Shapes.{a_number, a_whole, shape_of, shape_cells, is_number}
use Rattle.pfc_standing_code.specs.Settings.{Setting, of_own, site_of, IsAt, Stands}
use Rattle.pfc_standing_code.specs.TypedStatements.{IsReplica}
use Rattle.pfc_standing_code.specs.Words.{first_word, IsChecked}
use Rattle.pfc_standing_code.specs.Performs.{Performs}
use Rattle.pfc_standing_code.specs.Following.{of_value, Follows, arrives}
use Rattle.pfc_standing_code.proofs.Sizes.{sized_base}
use Rattle.pfc_following_expressions.proofs.Glue.{room_for, front, back, head, lone, tail}
use Rattle.pfc_following_expressions.proofs.Held.{held_grown, base_changes}
use Rattle.pfc_following_expressions.proofs.Moves.{fits, next_move}
use Rattle.pfc_following_expressions.proofs.Expressions.{env_in, whole_part, base_follows}

module _ (g : Setting) (b : Block) (names : List Level) (around : Around) (checked : IsChecked g b (env_in g names around)) (few : 0 ≤ g.arms)
    (own : g.trial ≡ of_own) where
  abbrev env : Env
  env = env_in g names around

  abbrev site : ℕ → Site
  site line = site_of g b (record { env = env_in g names around; line = line })

  pub replica_follows :
      (r : Replica) (k : Remainder) (at n : ℕ) (ops : List ℤ)
      → IsReplica (site r.line) (Some r) → Stands g at n (length ops) (replica_code (site r.line) (Some r)) →
      Performs g b env (at + (replica_code (site r.line) (Some r)).size) ops [] k
      → Follows g (writes (context env r.line) r.at (ordinal r.value) k) at ops []
  replica_follows r k at n ops is st rest =
      let s = site r.line in
      let v : TypedSpot = record { spot = r.at; t = Some is.0 } in
      let base = base_code s v.spot in
      let w = pos (first_word g.view s v.spot) in
      let last = one s (LIT r.value) ⨾ one s (STORE 1) in
      let behind = back g base last (suc (length ops)) (sized_base s v.spot) (held_grown g.program base 1 (base_changes g.program s v.spot) at n (length ops) ∙
      omega arith) st in
      let third = tail g s (λ at n. LIT r.value) (one s (STORE 1)) (suc (suc (length ops))) (omega arith) behind in
      let stores = lone g s (λ at n. STORE 1) third in
      let cells : 1 ≡ shape_cells g.program.state.forms (shape_of is.0) =
      ap (λ (simple : Bool). shape_cells g.program.state.forms (if simple then a_number else a_whole is.0)) (sym is.1) in
      let store : IsAt g (at + 1 + 1) (STORE (shape_cells g.program.state.forms (shape_of is.0))) r.line =
      subst (λ (y : ℕ). IsAt g (at + 1 + 1) (STORE y) r.line) cells stores in
      let end : at + (1 + (1 + 1)) ≡ at + 1 + 1 + 1 = omega arith in
      let after = subst (λ (y : ℕ). Performs g b (env_in g names around) y ops [] k) end rest in
      base_follows g b names around checked r.line [] few v at n ops is.2 (front g base last st)
      (next_move g [] few (at + 1) (w ∷ ops) (LIT r.value) r.line (r.value ∷ w ∷ ops) (head g s (λ at n. LIT r.value) (one s (STORE 1)) behind)
      (fits g [] (LIT r.value) (w ∷ ops) (omega arith) tt tt) refl (room_for g third)
      (arrives (at + 1 + 1) (r.value ∷ w ∷ ops) []
      (b, checked, (own, of_value is.0 w ops refl (is_number is.0 r.value is.1) (whole_part g b names around checked r.line [] few v is.2) store after))))
