-- The process that acts waits then, and nothing else changes; or one that waited is ready.
use Rattle.std.proofs.Common.{◌≡◌, ◌≢◌, ℕ, ◌+◌, ◌^◌, ◌<◌, ◌≤◌, true, false, [], length, set, Some, refl, sym, ap, ◌∙◌, subst}
use Rattle.std.proofs.Common.{arith, ◌⊎◌, inl, inr}
use Rattle.std.proofs.lemmas.List.{length-set}
use Rattle.pfc_state.specs.Stands.{Stand, Is_idle, Is_ready, Waits}
use Rattle.pfc_state.specs.Waits.{due_of_wait}
use Rattle.pfc_state.specs.declared.waits.Why.{Why}
use Rattle.pfc_world.specs.Tables.{at}
use Rattle.pfc_world.specs.Transitions.{placed, blocked}
use Rattle.pfc_semantics.specs.Configurations.{Config}
use Rattle.pfc_machines.specs.declared.machine.Machine.{Machine}
use Rattle.pfc_representation.specs.Levels.{Facts, LivingLevel}
use Rattle.pfc_representation.specs.Hands.{shows_nothing_at}
use Rattle.pfc_representation.specs.Holding.{holders_in, is_quiet, waits_at_coend}
use Rattle.pfc_representation.specs.Acting.{IsActing}
use Rattle.pfc_kept_object_actions.specs.Freed.{HasItsTurn, may_be_freed}
use Rattle.pfc_kept_object_actions.proofs.Step.{Objects, IsChange}
use Rattle.pfc_kept_object_actions.proofs.Change.{IsOwnStand, stays_ready, IsOneLetGo, change_of, holds_on, holds_as_was, row_here, row_there}
use Rattle.pfc_kept_object_actions.proofs.Change.{within_rows}
use Rattle.pfc_kept_object_actions.proofs.Tests.{either}

-- a wait at which nothing is shown may be the process's own stand
pub waits_so : (c : Config) (why : Why) → shows_nothing_at why ≡ true → ((t : ℕ) → due_of_wait why ≡ Some t → t ≤ 10 ^ 15)
    → IsOwnStand c (Waits why (c.table.done + 1) [])
waits_so c why shows due =
    record {
      unfinished = refl;
      shows = shows;
      ticket = λ t is. let same : c.table.done + 1 ≡ t = (let both : Some (c.table.done + 1) ≡ Some t = is in cc) in subst (λ n. n ≤ c.table.done + 1) same
          (grind arith);
      due = due;
    }

not_idle : (s : Stand) → may_be_freed s ≡ true → s ≡ Is_idle → ⊥
not_idle s may idle = (let no : false ≡ true = ap may_be_freed (sym idle) ∙ may in cc)

not_ready : (s : Stand) → may_be_freed s ≡ true → s ≡ Is_ready → ⊥
not_ready s may ready = (let no : false ≡ true = ap may_be_freed (sym ready) ∙ may in cc)

module _ (facts : Facts) (m : Machine) (c : Config) (p : ℕ) (level : LivingLevel) (acting : IsActing facts m c p level) where
  pub there : p < length c.table.rows
  there = subst (λ n. p < n) (sym acting.alike.words.rows) acting.actor.process

  -- ## It waits

  abbrev pub blocked_so : Why → Objects
  blocked_so why = record { table = blocked c.table p why []; counts = c.counts; monitors = c.monitors; resources = c.resources }

  pub blocks : (why : Why) → shows_nothing_at why ≡ true → ((t : ℕ) → due_of_wait why ≡ Some t → t ≤ 10 ^ 15) → IsChange facts c p (blocked_so why)
  blocks why shows due =
      let s : Stand = Waits why (c.table.done + 1) [] in
      change_of facts m c p level acting (blocked_so why) s
      (record {
        mine = row_here c.table.rows p s there;
        may = waits_so c why shows due;
        rest = λ q apart. inl (row_there c.table.rows p q s apart);
        size = length-set c.table.rows p s;
        rests = refl;
        done = refl;
        moment = refl;
      })
      (λ trial xs is. holds_on (holders_in facts c) p s trial xs is) (λ q apart. holds_as_was (holders_in facts c) q) refl refl refl

  -- ## Another is ready

  abbrev pub freed_so : ℕ → Objects
  freed_so f = record { table = placed c.table f Is_ready; counts = c.counts; monitors = c.monitors; resources = c.resources }

  pub frees : (f : ℕ) → may_be_freed (at c.table.rows f) ≡ true → is_quiet (at c.table.rows f) ≡ false → waits_at_coend (at c.table.rows f) ≡ false
      → HasItsTurn (holders_in facts c) f (at c.table.rows f) → IsChange facts c p (freed_so f)
  frees f may runs no_coend has =
      change_of facts m c p level acting (freed_so f) Is_ready
      (record {
        mine = row_there c.table.rows f p Is_ready apart_from ∙ acting.actor.ready;
        may = stays_ready c;
        rest = λ q apart. rest q (either q f);
        size = length-set c.table.rows f Is_ready;
        rests = acting.alike.between.acting;
        done = refl;
        moment = refl;
      })
      (λ trial xs is. is) (λ q apart. holds_as_was (holders_in facts c) q) refl refl refl
    where
      apart_from : p ≢ f
      apart_from same = not_ready (at c.table.rows f) may (ap (λ n. at c.table.rows n) (sym same) ∙ acting.actor.ready)

      rest : (q : ℕ) → (q ≡ f) ⊎ (q ≢ f) → (at (set c.table.rows f Is_ready) q ≡ at c.table.rows q)
          ⊎ IsOneLetGo (holders_in facts c) q (at c.table.rows q) (at (set c.table.rows f Is_ready) q)
      rest q (inr apart) = inl (row_there c.table.rows f q Is_ready apart)
      rest q (inl same) =
          inr (subst (λ n. IsOneLetGo (holders_in facts c) n (at c.table.rows n) (at (set c.table.rows f Is_ready) n)) (sym same)
          (record {
            go = record { waited = may; ready = row_here c.table.rows f Is_ready (within_rows c.table.rows f (not_idle (at c.table.rows f) may)); has = has };
            runs = runs;
            no_coend = no_coend;
          }))
