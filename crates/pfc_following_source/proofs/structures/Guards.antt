-- Guards of a resource. Where the own one of a process is true, on goes what is left; else the process is barred. Where that of a barred process
-- is true, the resource passes to it; else the next turn of the scan comes.
use Rattle.std.proofs.Common.{◌≡◌, ℕ, suc, ◌+◌, ◌<◌, ◌≤◌, ℤ, Bool, true, false, if◌then◌else◌, List, [], ◌∷◌, length, Some, refl, sym, ap, ◌∙◌, subst, arith}
use Rattle.pfc_code.specs.declared.instructions.Instr.TheVariants.{GRD}
use Rattle.pfc_types.specs.rules.Expressions.{Env}
use Rattle.pfc_values.specs.Numbers.{is_true}
use Rattle.pfc_semantics.specs.Values.{ordinal, ordinal_of}
use Rattle.pfc_semantics.specs.Programs.{Block}
use Rattle.pfc_semantics.specs.Remainders.{Context, Bar, Scan, Tried, Remainder, Action, pass_own, pass_other, bars, passes, scans, try_guard, try_other}
use Rattle.pfc_semantics.specs.Alternatives.{context}
use Rattle.pfc_semantics.specs.Rewriting.{from_other, from_remainder}
use Rattle.pfc_translation.specs.Codes.{one}
use Rattle.pfc_translation.specs.Expressions.{expr_code}
use Rattle.pfc_standing_code.specs.Shapes.{a_number}
use Rattle.pfc_standing_code.specs.Settings.{Trial, Setting, of_own, site_of, IsAt}
use Rattle.pfc_standing_code.specs.Effects.{onward, otherwise, guarded}
use Rattle.pfc_standing_code.specs.Words.{IsChecked}
use Rattle.pfc_standing_code.specs.Performs.{GuardAt, IsOwnBar, Tries, IsCheckedFor, Performs}
use Rattle.pfc_standing_code.specs.Awaits.{PerformsAnywhere, BehindScanAt}
use Rattle.pfc_standing_code.specs.Following.{IsTurnOf, Follows, arrives}
use Rattle.pfc_standing_code.proofs.Sizes.{sized_expr}
use Rattle.pfc_following_expressions.proofs.Glue.{room_for, front, back, lone}
use Rattle.pfc_following_expressions.proofs.Held.{held_grown, expr_changes}
use Rattle.pfc_following_expressions.proofs.Moves.{fits, move, next_move}
use Rattle.pfc_following_expressions.proofs.Anywhere.{expression_follows}

module _ (g : Setting) (b : Block) (few : 0 ≤ g.arms) where
  -- behind the value of the own guard
  pub tested :
      (x : Context) (bar : Bar) (k : Remainder) (go : Action) (v : ℤ) (at : ℕ) (ops : List ℤ) → IsChecked g b x.env → g.trial ≡ of_own → IsOwnBar g b bar
      → IsAt g at (GRD bar.resource) x.line → length ops ≤ g.room → PerformsAnywhere g b (at + 1) ops k
      → Follows g go (at + 1) ops [] → Follows g (if is_true v then go else bars x bar k) at (v ∷ ops) []
  tested x bar k go v at ops known own mine is room rest on = by (is_true v) refl
    where
      by : (r : Bool) → is_true v ≡ r → Follows g (if r then go else bars x bar k) at (v ∷ ops) []
      by true e =
          next_move g [] few at (v ∷ ops) (GRD bar.resource) x.line ops is (fits g [] (GRD bar.resource) (v ∷ ops) (omega arith) tt tt)
          (ap (λ (trial : Trial). guarded trial at v ops []) own ∙ ap (λ (r : Bool). if r then onward (at + 1) ops [] else otherwise) e) room on
      by false e = arrives at (v ∷ ops) [] (b, known, ((own, refl), (v, ops, refl, e, mine, is, rest)))

  -- behind the guard of a barred process the scan goes on past that one
  past : (w : Tried) (scan : Scan) (held : ℕ) → Tries g w scan held → IsTurnOf g.trial (record scan { after = Some w.ticket })
  past w scan held tries =
      subst (λ (trial : Trial). IsTurnOf trial (record scan { after = Some w.ticket })) (sym tries.trial)
      (ap (λ (y : Scan). record y { after = Some tries.attempt.whom.ticket }) tries.within
      ∙ ap (λ (y : Tried). record scan { after = Some y.ticket }) tries.whom)

  -- and of that of a barred process
  pub tried :
      (x : Context) (w : Tried) (scan : Scan) (k : Remainder) (v : ℤ) (at : ℕ) (ops : List ℤ) → IsChecked g b x.env → (tries : Tries g w scan (length ops))
      → at < tries.attempt.turn → IsAt g at (GRD scan.resource) x.line → length ops ≤ g.room → BehindScanAt g scan ops k
      → Follows g (from_other x w scan k (ordinal v)) at (v ∷ ops) []
  tried x w scan k v at ops known tries up is room way = by (is_true v) refl
    where
      turn : ℕ
      turn = tries.attempt.turn

      by : (r : Bool) → is_true v ≡ r →
          Follows g (if r then passes x w scan k else scans (context x.env scan.line) (record scan { after = Some w.ticket }) k) at (v ∷ ops) []
      by true e = arrives at (v ∷ ops) [] (b, known, (refl, (v, ops, tries, refl, e, is, way)))
      by false e =
          move g [] few at (v ∷ ops) (GRD scan.resource) x.line turn ops is (fits g [] (GRD scan.resource) (v ∷ ops) (omega arith) tt tt)
          (ap (λ (trial : Trial). guarded trial at v ops []) tries.trial ∙ ap (λ (r : Bool). if r then otherwise else onward turn ops []) e) up room
          (arrives turn ops [] (b, tt, (refl, (past w scan (length ops) tries, tries.room, tries.turn, way))))

  pub guard_follows :
      (env : Env) (bar : Bar) (k : Remainder) (at : ℕ) (ops : List ℤ) → g.trial ≡ of_own → IsOwnBar g b bar
      → GuardAt g b bar at (length ops) (λ end. PerformsAnywhere g b end ops k)
      → ((end : ℕ) → IsCheckedFor g b env k → Performs g b env end ops [] k → Follows g (from_remainder env k) end ops [])
      → Follows g (from_remainder env (try_guard bar k)) at ops []
  guard_follows env bar k at ops own mine h on =
      let x = bar.context in
      let s = site_of g b x in
      let test = expr_code s bar.test in
      let known = h.0 in
      let n = h.2 in
      let mid = at + test.size in
      let last = back g test (one s (GRD bar.resource)) (suc (length ops)) (sized_expr s bar.test)
      (held_grown g.program test 1 (expr_changes s known.sound bar.test a_number h.1) at n (length ops) ∙ omega arith) h.3 in
      let is = lone g s (λ at n. GRD bar.resource) last in
      let end : at + (test.size + 1) ≡ mid + 1 = omega arith in
      let rest : PerformsAnywhere g b (mid + 1) ops k = (λ (e : Env). subst (λ (y : ℕ). IsCheckedFor g b e k × Performs g b e y ops [] k) end (h.4 e)) in
      expression_follows g b x known [] few bar.test a_number h.1 (pass_own bar k) (λ v. if is_true (ordinal_of v) then
      from_remainder env k else bars bar.context bar k) at n ops (front g test (one s (GRD bar.resource)) h.3)
      ((own, refl), (refl, mine, is, rest))
      (λ v simple. tested x bar k (from_remainder env k) v mid ops known own mine is (room_for g h.3) rest (on (mid + 1) (rest env).0 (rest env).1))

  -- the guard of a barred process
  pub other_follows :
      (env : Env) (w : Tried) (scan : Scan) (k : Remainder) (at : ℕ) (ops : List ℤ) (tries : Tries g w scan (length ops))
      → w.bar.resource ≡ scan.resource → GuardAt g b w.bar at (length ops) (λ end. end ≤ tries.attempt.turn) → BehindScanAt g scan ops k
      → Follows g (from_remainder env (try_other w scan k)) at ops []
  other_follows env w scan k at ops tries same h way =
      let bar = w.bar in
      let x = bar.context in
      let s = site_of g b x in
      let test = expr_code s bar.test in
      let known = h.0 in
      let n = h.2 in
      let mid = at + test.size in
      let last = back g test (one s (GRD bar.resource)) (suc (length ops)) (sized_expr s bar.test)
      (held_grown g.program test 1 (expr_changes s known.sound bar.test a_number h.1) at n (length ops) ∙ omega arith) h.3 in
      let is : IsAt g mid (GRD scan.resource) x.line = subst (λ (r : ℕ). IsAt g mid (GRD r) x.line) same (lone g s (λ at n. GRD bar.resource) last) in
      let below : at + (test.size + 1) ≤ tries.attempt.turn = h.4 in
      let up : mid < tries.attempt.turn = omega (arith, below) in
      expression_follows g b x known [] few bar.test a_number h.1 (pass_other w scan k) (from_other x w scan k) at n ops
      (front g test (one s (GRD bar.resource)) h.3)
      (refl, (refl, tries, up, is, way))
      (λ v simple. tried x w scan k v mid ops known tries up is (room_for g h.3) way)
