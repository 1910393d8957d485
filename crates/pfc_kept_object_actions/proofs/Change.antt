-- What an action on objects changes, told of the rows of the table.
use Rattle.std.proofs.Common.{◌≡◌, ◌≢◌, ℕ, zero, suc, ◌+◌, ◌^◌, ◌<◌, ◌≤◌, Bool, true, false, List, [], ◌∷◌, length, set, get_or, Some, None, refl, sym}
use Rattle.std.proofs.Common.{ap, ◌∙◌, subst, arith, ◌⊎◌, inl, inr}
use Rattle.std.proofs.lemmas.List.{get_or-set_same, get_or-set_other}
use Rattle.pfc_state.specs.Stands.{Stand, Is_idle, Is_ready, is_unfinished, ticket_of, due_of}
use Rattle.pfc_world.specs.Tables.{at}
use Rattle.pfc_semantics.specs.Configurations.{Mark, plain, of_monitor, of_resource, Activation, Config}
use Rattle.pfc_machines.specs.declared.machine.Machine.{Machine}
use Rattle.pfc_standing_code.specs.Settings.{Trial}
use Rattle.pfc_representation.specs.Levels.{Facts, LivingLevel}
use Rattle.pfc_representation.specs.Hands.{shows_nothing}
use Rattle.pfc_representation.specs.Holding.{Holders, holders_in, HoldsFor, Holds, is_quiet, waits_at_coend}
use Rattle.pfc_representation.specs.Keeping.{HoldsStill}
use Rattle.pfc_representation.specs.Acting.{IsActing}
use Rattle.pfc_kept_object_actions.specs.Freed.{IsLetGo, IsSameOrLetGo}
use Rattle.pfc_kept_object_actions.proofs.Step.{Objects, holders_of, IsChange}
use Rattle.pfc_kept_object_actions.proofs.Tests.{either}

-- ## Rows

pub row_here : (rows : List Stand) (p : ℕ) (s : Stand) → p < length rows → at (set rows p s) p ≡ s
row_here rows p s there = get_or-set_same rows p s Is_idle there

pub row_there : (rows : List Stand) (p q : ℕ) (s : Stand) → q ≢ p → at (set rows p s) q ≡ at rows q
row_there rows p q s apart = get_or-set_other rows p q s Is_idle apart

-- who stands somewhere is one of the table
pub within_rows : (rows : List Stand) (q : ℕ) → (at rows q ≡ Is_idle → ⊥) → q < length rows
within_rows [] q h = absurd (h refl)
within_rows (s ∷ rows) zero h = grind arith
within_rows (s ∷ rows) (suc q) h = (let less : q < length rows = within_rows rows q h in grind (arith, less))

-- ## Who holds what

-- who is ready holds all in which it is
ready_holds : (h : Holders) (p : ℕ) (s : Stand) (mark : Mark) → HoldsFor h p Is_ready mark → HoldsFor h p s mark
ready_holds h p s plain is = is
ready_holds h p s (of_monitor m) (inl holds) = inl holds
ready_holds h p s (of_monitor m) (inr waits) = absurd (let no : false ≡ true = waits in cc)
ready_holds h p s (of_resource r) (inl holds) = inl holds
ready_holds h p s (of_resource r) (inr waits) = absurd (let no : false ≡ true = waits in cc)

pub holds_on : (h : Holders) (p : ℕ) (s : Stand) (trial : Trial) (xs : List Activation) → Holds h p Is_ready trial xs → Holds h p s trial xs
holds_on h p s trial xs is = record { entered = λ k d below. ready_holds h p s (get_or xs k d).mark (is.entered k d below); scanned = is.scanned }

pub holds_as_was : (h : Holders) (q : ℕ) → HoldsStill q h h
holds_as_was h q = record { owners = refl; monitors = λ m held. held; resources = λ r held. held }

-- ## The process and the others

-- where the process that acts may stand behind its action
pub record IsOwnStand (c : Config) (s : Stand) : Type 0 where
  pub unfinished : is_unfinished s ≡ true
  pub shows : shows_nothing s ≡ true
  pub ticket : (t : ℕ) → ticket_of s ≡ Some t → t ≤ c.table.done + 1
  pub due : (t : ℕ) → due_of s ≡ Some t → t ≤ 10 ^ 15

pub stays_ready : (c : Config) → IsOwnStand c Is_ready
stays_ready c = record {
  unfinished = refl;
  shows = refl;
  ticket = λ t is. absurd (let no : None ≡ Some t = is in cc);
  due = λ t is. absurd
      (let no : None ≡ Some t = is in cc);
}

-- it is let go, and was no child that waits to be begun, and not main before the ends of all
pub record IsOneLetGo (h : Holders) (q : ℕ) (stand stand' : Stand) : Type 0 where
  pub go : IsLetGo h q stand stand'
  pub runs : is_quiet stand ≡ false
  pub no_coend : waits_at_coend stand ≡ false

module _ (facts : Facts) (m : Machine) (c : Config) (p : ℕ) (level : LivingLevel) (acting : IsActing facts m c p level) (w : Objects) where
  abbrev h : Holders
  h = holders_in facts c

  abbrev h' : Holders
  h' = holders_of facts w

  -- behind the action the process stands so, and others are where they were or let go
  pub record AreRows (s : Stand) : Type 0 where
    pub mine : at w.table.rows p ≡ s
    pub may : IsOwnStand c s
    pub rest : (q : ℕ) → q ≢ p → (at w.table.rows q ≡ at c.table.rows q) ⊎ IsOneLetGo h' q (at c.table.rows q) (at w.table.rows q)
    pub size : length w.table.rows ≡ length c.table.rows
    pub rests : w.table.acting ≡ None
    pub done : w.table.done ≡ c.table.done
    pub moment : w.table.moment ≡ c.table.moment

  module _ (s : Stand) (rows : AreRows s) where
    stays_quiet : (q : ℕ) → q ≢ p → is_quiet (at c.table.rows q) ≡ true → is_quiet (at w.table.rows q) ≡ true
    stays_quiet q apart quiet = by_change (rows.rest q apart)
      where
        by_change : (at w.table.rows q ≡ at c.table.rows q) ⊎ IsOneLetGo h' q (at c.table.rows q) (at w.table.rows q) → is_quiet (at w.table.rows q) ≡ true
        by_change (inl same) = ap is_quiet same ∙ quiet
        by_change (inr one) = absurd (let no : true ≡ false = sym quiet ∙ one.runs in cc)

    stays_at_coend : (q : ℕ) → q ≢ p → waits_at_coend (at c.table.rows q) ≡ true → waits_at_coend (at w.table.rows q) ≡ true
    stays_at_coend q apart waits = by_change (rows.rest q apart)
      where
        by_change : (at w.table.rows q ≡ at c.table.rows q) ⊎ IsOneLetGo h' q (at c.table.rows q) (at w.table.rows q)
            → waits_at_coend (at w.table.rows q) ≡ true
        by_change (inl same) = ap waits_at_coend same ∙ waits
        by_change (inr one) = absurd (let no : true ≡ false = sym waits ∙ one.no_coend in cc)

    children : waits_at_coend (at w.table.rows 0) ≡ false → (q : ℕ) → 0 < q → is_quiet (at w.table.rows q) ≡ true
    children away q child = by_main (either 0 p)
      where
        by_row : (b : Bool) → waits_at_coend (at c.table.rows 0) ≡ b → 0 ≢ p → is_quiet (at w.table.rows q) ≡ true
        by_row true waits apart = absurd (let no : true ≡ false = sym (stays_at_coend 0 apart waits) ∙ away in cc)
        by_row false waits apart =
            let quiet : is_quiet (at c.table.rows p) ≡ true = acting.alike.children waits p (grind (arith, apart)) in
            absurd (let no : false ≡ true = ap is_quiet (sym acting.actor.ready) ∙ quiet in cc)

        by_main : (0 ≡ p) ⊎ (0 ≢ p) → is_quiet (at w.table.rows q) ≡ true
        by_main (inr apart) = by_row (waits_at_coend (at c.table.rows 0)) refl apart
        by_main (inl same) =
            let away_before : waits_at_coend (at c.table.rows 0) ≡ false = ap (λ n. waits_at_coend (at c.table.rows n)) same
            ∙ ap waits_at_coend acting.actor.ready in
            stays_quiet q (λ is. no_child q (is ∙ sym same) child) (acting.alike.children away_before q child)
          where
            no_child : (n : ℕ) → n ≡ 0 → 0 < n → ⊥
            no_child n is less = grind (arith, is, less)

    pub change_of : ((trial : Trial) (xs : List Activation) → Holds h p Is_ready trial xs → Holds h' p s trial xs) → ((q : ℕ) → q ≢ p → HoldsStill q h h')
        → length w.counts ≡ length c.counts → length w.monitors ≡ length c.monitors → length w.resources ≡ length c.resources → IsChange facts c p w
    change_of holds still counts monitors resources =
        record {
          unfinished = ap is_unfinished rows.mine ∙ rows.may.unfinished;
          shows = ap shows_nothing rows.mine ∙ rows.may.shows;
          holds = λ trial xs is. subst (λ (x : Stand). Holds h' p x trial xs) (sym rows.mine) (holds trial xs is);
          ticket = λ t is. rows.may.ticket t (ap ticket_of (sym rows.mine) ∙ is);
          due = λ t is. rows.may.due t (ap due_of (sym rows.mine) ∙ is);
          others = λ q apart. by_change q (rows.rest q apart);
          still = still;
          children = children;
          rows = rows.size;
          acting = rows.rests;
          done = rows.done;
          moment = rows.moment;
          counts = counts;
          monitors = monitors;
          resources = resources;
        }
      where
        by_change : (q : ℕ) → (at w.table.rows q ≡ at c.table.rows q) ⊎ IsOneLetGo h' q (at c.table.rows q) (at w.table.rows q)
            → IsSameOrLetGo h' q (at c.table.rows q) (at w.table.rows q)
        by_change q (inl same) = inl same
        by_change q (inr one) = inr one.go
