-- The code of a body performs it.
use Rattle.std.proofs.Common.{◌≡◌, ℕ, suc, ◌+◌, ◌≤◌, List, [], ◌∷◌, length, Option, Some, None, refl, sym, ap, ◌∙◌, subst, arith}
use Rattle.std.specs.Prelude.{get_or, slice_get}
use Rattle.pfc_code.specs.declared.instructions.Instr.TheVariants.{SCAN}
use Rattle.pfc_code.specs.declared.images.Block.{Block as CodeBlock}
use Rattle.pfc_tree.specs.trees.Stmts.{StmtTrees, no_stmts, more_stmts}
use Rattle.pfc_types.specs.rules.Expressions.{Env}
use Rattle.pfc_semantics.specs.Programs.{Block, Guard}
use Rattle.pfc_semantics.specs.Remainders.{Scan, Remainder, ends}
use Rattle.pfc_semantics.specs.Statements.{behind}
use Rattle.pfc_semantics.specs.Resources.{bar_of, scan_of, way_to, guarded_body}
use Rattle.pfc_semantics.specs.Configurations.{body_of, initialising, main_remainder}
use Rattle.pfc_semantics.specs.Remainders.{in_names}
use Rattle.pfc_translation.specs.Statements.{stmts_code}
use Rattle.pfc_translation.specs.Calls.{resource_of}
use Rattle.pfc_translation.specs.Images.{site_in, guard_code, statements_code}
use Rattle.pfc_standing_code.specs.Settings.{Trial, Setting, of_own, of_turn, SeesAccepts, IsAt, arrived, IsMains, same_block, both_mains}
use Rattle.pfc_standing_code.specs.TypedStatements.{AreTyped}
use Rattle.pfc_standing_code.specs.Performs.{GuardAt, WayAt, own_again, Performs}
use Rattle.pfc_standing_code.specs.Awaits.{PerformsAnywhere}
use Rattle.pfc_standing_images.specs.Images.{IsOfBlock, HasPhrase, HasBody, BlockStands, StatementsThen, MainStands}
use Rattle.pfc_standing_images.specs.Bodies.{requeued_body, IsReady, AreReady, IsGuardReady, EachGuardReady}
use Rattle.pfc_standing_images.proofs.Places.{phrase_stands}

module _ (g : Setting) (k : CodeBlock) (room : length g.under + k.operands ≤ g.room) where
  -- statements, and what is left behind them
  statements_perform : g.trial ≡ of_own → (b : Block) (rest : Remainder) (at n : ℕ) (ts : StmtTrees) → AreTyped (site_in g.program b) b.next ts
      → SeesAccepts g (site_in g.program b)
      → HasPhrase g k at n (stmts_code (site_in g.program b) b.next ts)
      → Performs g b b.env (at + (stmts_code (site_in g.program b) b.next ts).size) g.under [] rest
      → Performs g b b.env at g.under [] (behind b.next ts rest)
  statements_perform own b rest at n no_stmts typed accepts has then = subst (λ x. Performs g b b.env x g.under [] rest) (omega arith) then
  statements_perform own b rest at n (more_stmts t ts) typed accepts has then =
      let code = phrase_stands g k (length g.under) (stmts_code (site_in g.program b) b.next (more_stmts t ts)) has room in
      ((own, refl), (at, arrived at, (b.last_line, (n, record { typed = typed; code = code; accepts = accepts }, then))))

  pub body_performs : (b : Block) (at n : ℕ) → g.trial ≡ of_own → g.meetings ≡ [] → IsOfBlock g b k → HasBody g k b at n → IsReady g b
      → Performs g b b.env at g.under [] (body_of b)
  body_performs b at n own none of_block has ready =
      let end = at + (statements_code g.program b).size in
      statements_perform own b (ends b.last_line) at n b.stmts ready.statements ready.accepts has.statements
      ((own, refl), (end, arrived end, (refl, subst (λ i. IsAt g end i b.last_line) (sym of_block.last) has.end, none)))

  -- the initialising bodies, and what is left behind the last
  initials_perform : g.trial ≡ of_own → (bs : List Block) (rest : Remainder) (b : Block) (env : Env) (at : ℕ) (behind_last : ℕ → Type 0) → AreReady g bs
      → ((j : ℕ) (m : Block) → slice_get bs j ≡ Some m → IsMains g m) → IsMains g b → StatementsThen g k at bs behind_last
      → ((c : Block) (e : Env) (end : ℕ) → IsMains g c → behind_last end → Performs g c e end g.under [] rest)
      → Performs g b env at g.under [] (initialising bs rest)
  initials_perform alone [] rest b env at behind_last ready mains own has then = then b env at own has
  initials_perform alone (m ∷ bs) rest b env at behind_last ready mains own has then =
      let first = mains 0 m refl in (
        alone,
        (
          m,
          both_mains m own first,
          ready.0.names,
          statements_perform alone m (initialising bs rest) at has.0.0 m.stmts ready.0.statements ready.0.accepts has.0.1
              (initials_perform alone bs rest m m.env (at + (statements_code g.program m).size) behind_last ready.1 (λ j c is. mains (suc j) c is) first has.1
              then),
        ),
      )

  pub main_performs : (b : Block) (env : Env) → g.trial ≡ of_own → g.meetings ≡ [] → IsMains g b → IsOfBlock g g.program.main k →
      MainStands g k → AreReady g g.program.modules
      → IsReady g g.program.main → Performs g b env k.entry g.under [] (main_remainder g.program)
  main_performs b env alone none own of_block has inits main =
      initials_perform alone g.program.modules (in_names g.program.main.env (body_of g.program.main)) b env k.entry
      (λ at. (n : ℕ) × HasBody g k g.program.main at n) inits (λ j m is. (suc j, is)) own has.bodies
      (λ c e end its there. (
        alone,
        (
          g.program.main,
          both_mains g.program.main its (0, refl),
          main.names,
          body_performs g.program.main end there.0 alone none of_block there.1 main,
        ),
      ))

-- a guard at the entry of its block
module _ (g : Setting) (b : Block) (k : CodeBlock) (has : BlockStands g b k) where
  pub guard_there : (held : ℕ) (guard : Guard) (behind : ℕ → Type 0) → b.guard ≡ Some guard → held + k.operands ≤ g.room → IsGuardReady g b guard
      → behind k.body
      → GuardAt g b (bar_of g.program (resource_of (site_in g.program b)) b guard) k.entry held behind
  guard_there held guard behind is room ready there =
      let code = guard_code g.program b (Some guard) in
      let phrase : HasPhrase g k k.entry has.n code = subst (λ x. HasPhrase g k k.entry has.n (guard_code g.program b x)) is has.guard in
      let end : k.body ≡ k.entry + code.size = subst (λ x. k.body ≡ k.entry + (guard_code g.program b x).size) is has.behind_guard in
      (ready.names, ready.test, has.n, phrase_stands g k held code phrase room, subst behind end there, ready.own)

  pub guarded_performs : IsOfBlock g b k → g.trial ≡ of_own → g.meetings ≡ [] → EachGuardReady g b b.guard → IsReady g b
      → Performs g b b.env k.entry g.under [] (guarded_body g.program (resource_of (site_in g.program b)) b b.guard)
  guarded_performs of_block own none guards ready = by b.guard refl guards
    where
      own_body : Performs g b b.env k.body g.under [] (body_of b)
      own_body =
          body_performs g k of_block.room b k.body (has.n + length (guard_code g.program b b.guard).texts) own none of_block has.body ready

      by : (guard : Option Guard) → b.guard ≡ guard → EachGuardReady g b guard
          → Performs g b b.env k.entry g.under [] (guarded_body g.program (resource_of (site_in g.program b)) b guard)
      by None is unguarded =
          let empty : k.body ≡ k.entry + 0 = subst (λ x. k.body ≡ k.entry + (guard_code g.program b x).size) is has.behind_guard in
          subst (λ x. Performs g b b.env x g.under [] (body_of b)) (omega (arith, empty)) own_body
      by (Some guard) is guarded =
          let behind_guard = λ (end : ℕ). PerformsAnywhere g b end g.under (in_names b.env (body_of b)) in
          let there = guard_there (length g.under) guard behind_guard is of_block.room guarded (λ e. (tt, (own, (b, same_block, ready.names, own_body)))) in
          ((own, refl), (k.entry, arrived k.entry, ((guard, is, refl, guarded.own), there)))

-- the same from the turn of a scan on, of which nothing is asked but that it stands there
abbrev scan_to : Setting → Block → Scan
scan_to g b = let r = resource_of (site_in g.program b) in scan_of g.program r (way_to g.program r b b.guard)

abbrev RequeuedPerforms : Block → CodeBlock → ℕ → Env → Setting → Type 0
RequeuedPerforms b k at env g =
    BlockStands (own_again g) b k → IsOfBlock g b k → g.meetings ≡ []
    → IsAt g at (SCAN (resource_of (site_in g.program b))) (get_or g.program.resource_ends (resource_of (site_in g.program b)) 0)
    → EachGuardReady (own_again g) b b.guard → IsReady (own_again g) b
    → Performs g b env at g.under [] (requeued_body g.program (resource_of (site_in g.program b)) b)

module _ (g : Setting) (b : Block) (k : CodeBlock) where
  abbrev own_now : Setting
  own_now = record g { trial = of_own; block = b }

  abbrev scanning : Setting
  scanning = record g { trial = of_turn (scan_to g b) k.entry; block = b }

  abbrev r : ℕ
  r = resource_of (site_in g.program b)

  abbrev behind_turn : ℕ → Type 0
  behind_turn end = PerformsAnywhere own_now b end g.under (in_names b.env (body_of b))

  own_body : BlockStands own_now b k → IsOfBlock scanning b k → g.meetings ≡ [] → IsReady own_now b → behind_turn k.body
  own_body has of_block none ready e =
      let n = has.n + length (guard_code g.program b b.guard).texts in
      let mine : IsOfBlock own_now b k = record { last = of_block.last; room = of_block.room } in
      (tt, (refl, (b, same_block, ready.names, body_performs own_now k of_block.room b k.body n refl none mine has.body ready)))

  way_there : BlockStands own_now b k → IsOfBlock scanning b k → behind_turn k.body → (guard : Option Guard) → b.guard ≡ guard
      → EachGuardReady own_now b guard → WayAt own_now b (way_to g.program r b guard) k.entry (length g.under) behind_turn
  way_there has of_block body None is unguarded =
      let empty : k.body ≡ k.entry + 0 = subst (λ x. k.body ≡ k.entry + (guard_code g.program b x).size) is has.behind_guard in
      subst behind_turn (omega (arith, empty)) body
  way_there has of_block body (Some guard) is guarded =
      (refl, (guard, is, refl, guarded.own), guard_there own_now b k has (length g.under) guard behind_turn is of_block.room guarded body)

  scanning_performs : (at : ℕ) (env : Env) → RequeuedPerforms b k at env scanning
  scanning_performs at env has of_block none turn guards ready =
      let way = way_there has of_block (own_body has of_block none ready) b.guard refl guards in
      (refl, (at, arrived at, ((k.entry, refl), turn, way)))

  pub requeued_performs : (at : ℕ) (env : Env) → g.trial ≡ of_turn (scan_to g b) k.entry → g.block ≡ b
      → RequeuedPerforms b k at env g
  requeued_performs at env trial here =
      let same : g ≡ scanning =
      ap (λ (t : Trial). record g { trial = t }) trial ∙ ap (λ (y : Block). record g { trial = of_turn (scan_to g b) k.entry; block = y }) here in
      subst (λ (y : Setting). RequeuedPerforms b k at env y) (sym same) (scanning_performs at env)
