-- The process gives the resource away, and is barred at a procedure of it in the same action.
use Rattle.std.proofs.Common.{◌≡◌, ◌≢◌, ℕ, zero, suc, ◌+◌, ◌<◌, ◌≤◌, List, [], ◌∷◌, length, set, get_or, Option, Some, None, refl, sym, ap, ◌∙◌}
use Rattle.std.proofs.Common.{subst, arith, ◌⊎◌, inl, inr}
use Rattle.std.proofs.lemmas.List.{get_or-set_same, length-set}
use Rattle.pfc_state.specs.Stands.{Stand, Waits, is_unfinished, ticket_of, due_of}
use Rattle.pfc_state.specs.declared.waits.Why.TheVariants.{Barred}
use Rattle.pfc_world.specs.Holders.{Held, held_in, holder_in, given_to}
use Rattle.pfc_world.specs.Tables.{Table, at}
use Rattle.pfc_world.specs.Transitions.{blocked}
use Rattle.pfc_semantics.specs.Rewriting.{Doing}
use Rattle.pfc_semantics.specs.Configurations.{Hand, Activation, Activity, Config, nobody, activity_of, at_work, resources_held}
use Rattle.pfc_machines.specs.declared.machine.Machine.{Machine}
use Rattle.pfc_stacks.specs.Stacks.{Stack}
use Rattle.pfc_standing_code.specs.Settings.{of_own}
use Rattle.pfc_representation.specs.Levels.{Facts, program_in, LivingLevel}
use Rattle.pfc_representation.specs.Holding.{holders_in, Holds, is_quiet, waits_at_coend}
use Rattle.pfc_representation.specs.Machines.{machine_table}
use Rattle.pfc_representation.specs.Acting.{IsActing}
use Rattle.pfc_kept_object_actions.proofs.Change.{row_here, row_there}
use Rattle.pfc_kept_object_actions.proofs.Popped.{world}
use Rattle.pfc_kept_object_actions.proofs.Tests.{either, same_numbers}
use Rattle.pfc_kept_scans.proofs.Behind.{IsNewStand, StandsThen, holders_with}
use Rattle.pfc_kept_scans.proofs.Others.{ItStands, AreOthers}
use Rattle.pfc_kept_scans.proofs.Giving.{WaitsFor, given, row_count, given_rows, given_stands, given_still, clock_same, holds_waiting}
use Rattle.pfc_kept_scans.proofs.Step.{set_twice, stack_apart}

-- ## Lists

pub set_same : {A : Type 0} (xs : List A) (i : ℕ) (x : A) → set xs i (get_or xs i x) ≡ xs
set_same [] i x = refl
set_same (y ∷ xs) zero x = refl
set_same (y ∷ xs) (suc i) x = ap (λ rest. y ∷ rest) (set_same xs i x)

module _ (facts : Facts) (m : Machine) (c : Config) (p : ℕ) (level : LivingLevel) (acting : IsActing facts m c p level) where
  abbrev a : Activity
  a = activity_of (program_in facts) c p

  -- it does something, and then shows its guard
  pub shown_so : (doing : Doing) (hand : Hand)
      → set (set c.activities p (at_work a doing)) p (record (get_or (set c.activities p (at_work a doing)) p (nobody (program_in facts))) { hand = hand })
      ≡ set c.activities p (record a { doing = doing; hand = hand })
  shown_so doing hand =
      ap (λ (x : Activity). set (set c.activities p (at_work a doing)) p (record x { hand = hand }))
      (get_or-set_same c.activities p (at_work a doing) (nobody (program_in facts)) acting.actor.process)
      ∙ set_twice c.activities p (at_work a doing) (record a { doing = doing; hand = hand })

  module _ (r k : ℕ) (held : holder_in c.resources r ≡ Some p) (o : Option ℕ) (waits : (q : ℕ) → o ≡ Some q → WaitsFor r (at c.table.rows q)) where
    abbrev before : Held
    before = given facts m c p level acting r held o waits

    abbrev pub table : Table
    table = blocked before.table p (Barred r k) []

    abbrev pub stand : Stand
    stand = Waits (Barred r k) (before.table.done + 1) []

    in_rows : p < length before.table.rows
    in_rows =
        subst (λ n. p < n) (sym (row_count facts m c p level acting r held o waits ∙ acting.alike.words.rows)) acting.actor.process

    pub row_mine : at table.rows p ≡ stand
    row_mine = row_here before.table.rows p stand in_rows

    row_other : (q : ℕ) → q ≢ p → at table.rows q ≡ at before.table.rows q
    row_other q apart = row_there before.table.rows p q stand apart

    pub rows_then : (q : ℕ) → q ≢ p → ItStands (holders_in facts c) p (holders_with facts c before.holders) q (at c.table.rows q) (at table.rows q)
    rows_then q apart =
        subst (λ (s : Stand). ItStands (holders_in facts c) p (holders_with facts c before.holders) q (at c.table.rows q) s) (sym (row_other q apart))
        (given_rows facts m c p level acting r held o waits q)

    pub stands_then : (q : ℕ) → StandsThen c (at c.table.rows q) (at table.rows q)
    stands_then q = by_place (either q p)
      where
        done_same : before.table.done ≡ c.table.done
        done_same = (clock_same facts m c p level acting r held o waits).0

        bound : (t n j : ℕ) → n + 1 ≡ t → n ≡ j → t ≤ j + 1
        bound t n j same also = grind (arith, same, also)

        new : IsNewStand c (at c.table.rows p) (at table.rows p)
        new =
            record {
              unfinished = ap is_unfinished row_mine;
              awake = ap is_quiet acting.actor.ready;
              no_coend = ap waits_at_coend acting.actor.ready;
              ticket = λ t is.
                  let same : before.table.done + 1 ≡ t = (let both : Some (before.table.done + 1) ≡ Some t = ap ticket_of (sym row_mine) ∙ is in cc) in
                  bound t before.table.done c.table.done same done_same;
              no_due = ap due_of row_mine;
            }

        by_place : (q ≡ p) ⊎ (q ≢ p) → StandsThen c (at c.table.rows q) (at table.rows q)
        by_place (inl same) = subst (λ n. StandsThen c (at c.table.rows n) (at table.rows n)) (sym same) (inr new)
        by_place (inr apart) =
            subst (λ (s : Stand). StandsThen c (at c.table.rows q) s) (sym (row_other q apart)) (given_stands facts m c p level acting r held o waits q)

    pub rows_same : length table.rows ≡ length c.table.rows
    rows_same = length-set before.table.rows p stand ∙ row_count facts m c p level acting r held o waits

    pub holds_then : (xs : List Activation) → Holds (holders_in facts c) p (at c.table.rows p) level.setting.trial xs
        → Holds (holders_with facts c before.holders) p (at table.rows p) of_own xs
    holds_then xs is =
        subst (λ (s : Stand). Holds (holders_with facts c before.holders) p s of_own xs) (sym row_mine)
        (holds_waiting facts m c p level acting r held o waits (Barred r k) (before.table.done + 1) (same_numbers r r refl) level.setting.trial xs
        (subst (λ (s : Stand). Holds (holders_in facts c) p s level.setting.trial xs) acting.actor.ready is))

    pub others_so : (stack : Stack) → AreOthers facts m c p level acting (set m.stacks p stack) table before.holders
    others_so stack =
        record {
          stack = λ q apart. stack_apart m.stacks p q stack apart;
          rows = rows_then;
          still = given_still facts m c p level acting r held o waits;
        }

  -- ## On the machine

  pub blocked_same : (o : Option ℕ) (r k : ℕ)
      → blocked (given_to o (held_in (world facts m c p level acting) c.resources) r).table p (Barred r k) []
      ≡ machine_table facts (blocked (given_to o (resources_held c) r).table p (Barred r k) [])
  blocked_same None r k = refl
  blocked_same (Some q) r k = refl
