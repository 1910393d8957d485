-- What is left is performed as before.
use Rattle.std.proofs.Common.{◌≡◌, ℕ, ◌+◌, ℤ, Bool, List, [], drop, length, refl}
use Rattle.pfc_tree.specs.trees.Stmts.{repeat_until}
use Rattle.pfc_types.specs.rules.Expressions.{Env}
use Rattle.pfc_semantics.specs.Programs.{Block}
use Rattle.pfc_semantics.specs.Remainders.{Count, Way, Scan, Remainder, leave, own, ends, perform, in_names, turn, until, behind_pass, next_pass, write_on}
use Rattle.pfc_semantics.specs.Remainders.{read_on, at_coend, part_from, write_again, go_through, try_guard, scan_on, try_other}
use Rattle.pfc_semantics.specs.Alternatives.{context}
use Rattle.pfc_translation.specs.Sites.{Site}
use Rattle.pfc_standing_code.specs.Settings.{View, Attempt, Setting, of_own, of_turn, of_another, site_of, IsBeside, same_block, both_mains}
use Rattle.pfc_standing_code.specs.Effects.{Arm}
use Rattle.pfc_standing_code.specs.Words.{IsChecked}
use Rattle.pfc_standing_code.specs.Performs.{HoldsCount, HasPass, WayAt, AskedOf, IsCheckedFor, Performs}
use Rattle.pfc_standing_code.specs.Awaits.{PerformsAnywhere}
use Rattle.pfc_standing_code.proofs.Checked.{asked_of, asked_then}
use Rattle.pfc_kept_code.specs.Kept.{Among, Agree, InWay, InRemainder}
use Rattle.pfc_kept_code.proofs.Seen.{stands_seen, jumped_seen, stmt_seen, stmt_then_seen, stmts_then_seen}
use Rattle.pfc_kept_code.proofs.Words.{names_kept, simple_kept}
use Rattle.pfc_kept_code.proofs.Selects.{comm_kept, guard_kept}

beside_then : {g : Setting} {b c d : Block} → IsBeside g b c → IsBeside g c d → IsBeside g b d
beside_then same_block h = h
beside_then (both_mains c m n) same_block = both_mains c m n
beside_then (both_mains c m n) (both_mains d n' o) = both_mains d m o

beside_seen : (g : Setting) (view : View) (accepts meetings : List ℕ) (b c : Block) → IsBeside g b c
    → IsBeside (record g { view = view; accepts = accepts; meetings = meetings }) b c
beside_seen g view accepts meetings b _ same_block = same_block
beside_seen g view accepts meetings b _ (both_mains c m n) = both_mains c m n

pub not_turn : {A : Type 0} (scan : Scan) (back : ℕ) → of_own ≡ of_turn scan back → A
not_turn scan back e = absurd (cc)

pub not_another : {A : Type 0} (attempt : Attempt) → of_own ≡ of_another attempt → A
not_another attempt e = absurd (cc)

module _ (g : Setting) (view : View) (start : Block) (names : Env → Bool) (agree : Agree (record g { trial = of_own }) view start names) where
  -- whichever accepts are open, with whichever callers
  abbrev pub before : List ℕ → List ℕ → Setting
  before accepts meetings = record g { accepts = accepts; meetings = meetings; trial = of_own }

  abbrev pub later : List ℕ → List ℕ → Setting
  later accepts meetings = record g { view = view; accepts = accepts; meetings = meetings; trial = of_own }

  abbrev pub Near : Block → Type 0
  Near b = IsBeside (record g { trial = of_own }) start b

  pub counts_kept : (accepts meetings : List ℕ) (b : Block) → Near b → (env : Env) → Among names env → (f : Count) (ops below : List ℤ)
      → HoldsCount (before accepts meetings) (site_of (before accepts meetings) b (context env f.line)) f ops below
      → HoldsCount (later accepts meetings) (site_of (later accepts meetings) b (context env f.line)) f ops below
  counts_kept accepts meetings b near env named f ops below h =
      record {
        w = h.w;
        held = h.held;
        lies = simple_kept (before accepts meetings) view (site_of (before accepts meetings) b (context env f.line)) (agree b env near named) f.at h.w h.lies;
        within = h.within;
      }

  pass_kept : (accepts meetings : List ℕ) (s : Site) (f : Count) (at n held : ℕ) → HasPass (before accepts meetings) s f at n held →
      HasPass (later accepts meetings) s f at n held
  pass_kept accepts meetings s f at n held h =
      record { write = h.write; inner = stmt_seen (before accepts meetings) view s (at + 1) n held f.next f.pass h.inner; back = h.back }

  way_kept : (accepts meetings : List ℕ) (b : Block) → Near b → (way : Way) (at held : ℕ) (P Q : ℕ → Type 0) → InWay names way → ((end : ℕ) → P end → Q end)
      → WayAt (before accepts meetings) b way at held P → WayAt (later accepts meetings) b way at held Q
  way_kept accepts meetings b near leave at held P Q named f h = f at h
  way_kept accepts meetings b near (own bar) at held P Q named f h =
      (h.0, h.1, guard_kept (before accepts meetings) view b bar at held P Q (agree b bar.context.env near named) f h.2)

  asked_kept : (accepts meetings : List ℕ) (b : Block) → Near b → (env : Env) (k : Remainder) → AskedOf (Among names) env k
      → IsCheckedFor (before accepts meetings) b env k → IsCheckedFor (later accepts meetings) b env k
  asked_kept accepts meetings b near env k named checked =
      asked_then (Among names) (λ (e : Env). IsChecked (before accepts meetings) b e) (λ (e : Env). IsChecked (later accepts meetings) b e) env k
      (λ in_view known. names_kept (before accepts meetings) view b env (agree b env near in_view) known) named checked

  pub performs_kept : (accepts meetings : List ℕ) (k : Remainder) (b : Block) → Near b → (env : Env) (at : ℕ) (ops : List ℤ) (arms : List Arm)
      → AskedOf (Among names) env k → InRemainder names k → Performs (before accepts meetings) b env at ops arms k →
      Performs (later accepts meetings) b env at ops arms k
  performs_kept accepts meetings (ends line) b near env at ops arms named inside h = (h.0, jumped_seen (before accepts meetings) view at _ _ (λ to q. q) h.1)
  performs_kept accepts meetings (perform m ts k) b near env at ops arms named inside h = (
    h.0,
    jumped_seen (before accepts meetings) view at _ _
        (λ to q. (
          q.0,
          stmts_then_seen (before accepts meetings) view _ to (length ops) m ts _ _
              (λ end rest. performs_kept accepts meetings k b near env end ops [] (asked_of (Among names) env k named) inside rest) q.1,
        )) h.1,
  )
  performs_kept accepts meetings (in_names inner k) b near env at ops arms named inside h =
      let q = h.1 in
      let there = beside_then near (beside_seen (before accepts meetings) g.view g.accepts g.meetings b q.0 q.1) in (
        h.0,
        (
          q.0,
          beside_seen (before accepts meetings) view accepts meetings b q.0 q.1,
          names_kept (before accepts meetings) view q.0 inner (agree q.0 inner there inside.0) q.2,
          performs_kept accepts meetings k q.0 there inner at ops arms (asked_of (Among names) inner k inside.0) inside.1 q.3,
        ),
      )
  performs_kept accepts meetings (turn m loop k) b near env at ops arms named inside h = (
    h.0,
    jumped_seen (before accepts meetings) view at _ _
        (λ to q. (
          q.0,
          q.1,
          q.2,
          stmt_then_seen (before accepts meetings) view _ q.1 (length ops) m loop _ _
              (λ end rest. performs_kept accepts meetings k b near env end ops [] (asked_of (Among names) env k named) inside rest) q.3,
        ))
        h.1,
  )
  performs_kept accepts meetings (until m ts e p k) b near env at ops arms named inside h = (
    h.0,
    jumped_seen (before accepts meetings) view at _ _
        (λ to q. (
          q.0,
          q.1,
          q.2,
          stmt_then_seen (before accepts meetings) view _ q.1 (length ops) m (repeat_until ts e p) _ _
              (λ end rest. performs_kept accepts meetings k b near env end ops [] (asked_of (Among names) env k named) inside rest) q.3,
        )) h.1,
  )
  performs_kept accepts meetings (behind_pass f k) b near env at ops arms named inside h = (
    h.0,
    jumped_seen (before accepts meetings) view at _ _
        (λ to q. (
          q.0,
          q.1,
          q.2,
          counts_kept accepts meetings b near env named f ops q.2 q.3,
          pass_kept accepts meetings _ f q.0 q.1 (length ops) q.4,
          q.5,
          performs_kept accepts meetings k b near env (to + 1) q.2 [] (asked_of (Among names) env k named) inside q.6,
        )) h.1,
  )
  performs_kept accepts meetings (next_pass f k) b near env at ops arms named inside h = (
    h.0,
    jumped_seen (before accepts meetings) view at _ _
        (λ to q. (
          q.0,
          q.1,
          counts_kept accepts meetings b near env named f ops q.1 q.2,
          pass_kept accepts meetings _ f to q.0 (length ops) q.3,
          performs_kept accepts meetings k b near env _ q.1 [] (asked_of (Among names) env k named) inside q.4,
        )) h.1,
  )
  performs_kept accepts meetings (write_on line args newline k) b near env at ops arms named inside h = (
    h.0,
    jumped_seen (before accepts meetings) view at _ _
        (λ to q. (
          q.0,
          q.1,
          stands_seen (before accepts meetings) view to q.1 (length ops) _ q.2,
          performs_kept accepts meetings k b near env _ ops []
              (asked_of (Among names) env k named) inside q.3,
        )) h.1,
  )
  performs_kept accepts meetings (read_on line args skip k) b near env at ops arms named inside h = (
    h.0,
    jumped_seen (before accepts meetings) view at _ _
        (λ to q. (
          q.0,
          q.1,
          stands_seen (before accepts meetings) view to q.1 (length ops) _ q.2,
          performs_kept accepts meetings k b near env _ ops []
              (asked_of (Among names) env k named) inside q.3,
        )) h.1,
  )
  performs_kept accepts meetings (at_coend line k) b near env at ops arms named inside h =
      let asked = asked_of (Among names) env k named in
      (h.0, jumped_seen (before accepts meetings) view at _ _ (λ to q. (q.0, performs_kept accepts meetings k b near env (to + 1) ops [] asked inside q.1)) h.1)
  performs_kept accepts meetings (part_from caller line k) b near env at ops arms named inside h =
      let asked = asked_of (Among names) env k named in (
        h.0,
        jumped_seen (before accepts meetings) view at _ _
            (λ to q. (
              q.0,
              q.1,
              asked_kept (drop 1 accepts) (drop 1 meetings) b near env k asked q.2,
              performs_kept (drop 1 accepts) (drop 1 meetings) k b near env (to + 1) ops [] asked inside q.3,
            )) h.1,
      )
  performs_kept accepts meetings (write_again r k) b near env at ops arms named inside h = (
    h.0,
    jumped_seen (before accepts meetings) view at _ _
        (λ to q. (
          q.0,
          q.1,
          stands_seen (before accepts meetings) view to q.1 (length ops) _ q.2,
          performs_kept accepts meetings k b near env _ ops []
              (asked_of (Among names) env k named) inside q.3,
        )) h.1,
  )
  performs_kept accepts meetings (go_through line a rest sel k) b near env at ops arms named inside h = (
    h.0,
    jumped_seen (before accepts meetings) view at _ _
        (λ to q. (
          q.0,
          comm_kept (before accepts meetings) view (site_of (before accepts meetings) b (context env line)) (agree b env near named) _ _
              (λ end left. performs_kept accepts meetings k b near env end ops [] (asked_of (Among names) env k named) inside left) (context env line) to
              (length ops) (length ops) a rest sel arms _ q.1,
        )) h.1,
  )
  performs_kept accepts meetings (try_guard bar k) b near env at ops arms named inside h = (
    h.0,
    jumped_seen (before accepts meetings) view at _ _
        (λ to q. (
          q.0,
          guard_kept (before accepts meetings) view b bar to (length ops) (λ (end : ℕ). PerformsAnywhere (before accepts meetings) b end ops k)
              (λ (end : ℕ). PerformsAnywhere (later accepts meetings) b end ops k) (agree b bar.context.env near inside.0)
              (λ end rest e. (
                asked_kept accepts meetings b near e k (inside.1 e) (rest e).0,
                performs_kept accepts meetings k b near e end ops [] (inside.1 e) inside.2 (rest e).1,
              )) q.1,
        )) h.1,
  )
  performs_kept accepts meetings (scan_on scan k) b near env at ops arms named inside h = not_turn scan h.1.2.0.0 h.1.2.0.1
  performs_kept accepts meetings (try_other w scan k) b near env at ops arms named inside h = not_another h.1.2.0.attempt h.1.2.0.trial

  pub anywhere_kept : (accepts meetings : List ℕ) (k : Remainder) (b : Block) → Near b → (at : ℕ) (ops : List ℤ)
      → ((e : Env) → AskedOf (Among names) e k) → InRemainder names k
      → PerformsAnywhere (before accepts meetings) b at ops k → PerformsAnywhere (later accepts meetings) b at ops k
  anywhere_kept accepts meetings k b near at ops asked inside h =
      λ e. (asked_kept accepts meetings b near e k (asked e) (h e).0, performs_kept accepts meetings k b near e at ops [] (asked e) inside (h e).1)

  -- the turn of a scan, behind which the process is in none
  pub turn_kept : (scan : Scan) (back : ℕ) (k : Remainder) → Near g.block →
      (b : Block) (env : Env) (at : ℕ) (ops : List ℤ) (arms : List Arm) → InRemainder names (scan_on scan k)
      → Performs (record g { trial = of_turn scan back }) b env at ops arms (scan_on scan k)
      → Performs (record g { view = view; trial = of_turn scan back }) b env at ops arms (scan_on scan k)
  turn_kept scan back k near b env at ops arms inside h = (
    h.0,
    jumped_seen (record g { trial = of_turn scan back }) view at _ _
        (λ to q. (
          (back, refl),
          q.1,
          way_kept g.accepts g.meetings g.block near scan.way back (length ops) (λ (end : ℕ). PerformsAnywhere (before g.accepts g.meetings) g.block end ops k)
              (λ (end : ℕ). PerformsAnywhere (later g.accepts g.meetings) g.block end ops k) inside.0
              (λ end rest. anywhere_kept g.accepts g.meetings k g.block near end ops inside.1 inside.2 rest) q.2,
        )) h.1,
  )
