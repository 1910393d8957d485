-- A monitor that the process holds passes to one that waits for it, or to nobody, and the process waits.
use Rattle.std.proofs.Common.{◌≡◌, ◌≢◌, ℕ, zero, suc, ◌+◌, ◌^◌, ◌<◌, ◌≤◌, ◌==◌, ◌||◌, if◌then◌else◌, Bool, true, false, List, [], ◌∷◌, length, set, get_or, All}
use Rattle.std.proofs.Common.{Option, Some, None, refl, sym, ap, ◌∙◌, subst, arith, ◌⊎◌, inl, inr}
use Rattle.std.specs.Prelude.{is_some}
use Rattle.std.specs.List.{list_any}
use Rattle.std.proofs.lemmas.List.{get_or-set_same, get_or-set_other, length-set}
use Rattle.pfc_state.specs.Stands.{Stand, Is_idle, Is_created, Is_ready, Is_done, Waits, ticket_at}
use Rattle.pfc_state.specs.Waits.{due_of_wait}
use Rattle.pfc_state.specs.declared.waits.Why.{Why}
use Rattle.pfc_state.specs.declared.waits.Why.TheVariants.{Enter, Resumer}
use Rattle.pfc_world.specs.Firsts.{first, last}
use Rattle.pfc_world.specs.Holders.{Held, holder_in, given_to}
use Rattle.pfc_world.specs.Partners.{or_else, next_holder}
use Rattle.pfc_world.specs.Tables.{at}
use Rattle.pfc_world.specs.Transitions.{blocked}
use Rattle.pfc_semantics.specs.Configurations.{Mark, plain, of_monitor, of_resource, Activation, Config, activity_of}
use Rattle.pfc_semantics.specs.Monitors.{is_in, is_inside}
use Rattle.pfc_machines.specs.declared.machine.Machine.{Machine}
use Rattle.pfc_standing_code.specs.Settings.{Trial, of_own, of_turn, of_another}
use Rattle.pfc_representation.specs.Levels.{Facts, program_in, LivingLevel}
use Rattle.pfc_representation.specs.Hands.{shows_nothing_at}
use Rattle.pfc_representation.specs.Holding.{Holders, holders_in, waits_for_monitor, waits_for_monitor_at, waits_for_resource, HoldsFor, Holds, is_quiet}
use Rattle.pfc_representation.specs.Holding.{waits_at_coend}
use Rattle.pfc_representation.specs.Keeping.{HoldsStill}
use Rattle.pfc_representation.specs.Acting.{IsActing}
use Rattle.pfc_kept_object_actions.specs.Freed.{may_be_freed}
use Rattle.pfc_kept_object_actions.proofs.Step.{Objects, holders_of, IsChange}
use Rattle.pfc_kept_object_actions.proofs.Change.{IsOneLetGo, change_of, row_here, row_there, within_rows}
use Rattle.pfc_kept_object_actions.proofs.Finding.{first_has, last_has}
use Rattle.pfc_kept_object_actions.proofs.Blocking.{waits_so, there}
use Rattle.pfc_kept_object_actions.proofs.Tests.{either, numbers_same, untrue}

-- ## Who waits for a monitor

-- the process waits for monitor n and for nothing else
pub record WaitsFor (owners : List ℕ) (n : ℕ) (s : Stand) : Type 0 where
  pub may : may_be_freed s ≡ true
  pub runs : is_quiet s ≡ false
  pub no_coend : waits_at_coend s ≡ false
  pub only : (m : ℕ) → waits_for_monitor owners m s ≡ true → m ≡ n
  pub none : (r : ℕ) → waits_for_resource r s ≡ false

has_ticket : (b : Bool) (ticket : ℕ) → is_some (if b then Some ticket else None) ≡ true → b ≡ true
has_ticket true ticket h = refl
has_ticket false ticket h = (let no : false ≡ true = h in cc)

at_resumer : (owners : List ℕ) (n : ℕ) (s : Stand) → is_some (ticket_at (Resumer n) s) ≡ true → WaitsFor owners n s
at_resumer owners n Is_idle h = untrue _ h
at_resumer owners n Is_created h = untrue _ h
at_resumer owners n Is_ready h = untrue _ h
at_resumer owners n Is_done h = untrue _ h
at_resumer owners n (Waits (Resumer k) ticket arms) h =
    let same : k ≡ n = numbers_same k n (has_ticket (k == n) ticket h) in
    record { may = refl; runs = refl; no_coend = refl; only = λ m waits. sym (numbers_same k m waits) ∙ same; none = λ r. refl }
at_resumer owners n (Waits why ticket arms) h = untrue _ h

at_entrance : (owners : List ℕ) (n : ℕ) (s : Stand) → is_some (ticket_at (Enter n) s) ≡ true → WaitsFor owners n s
at_entrance owners n Is_idle h = untrue _ h
at_entrance owners n Is_created h = untrue _ h
at_entrance owners n Is_ready h = untrue _ h
at_entrance owners n Is_done h = untrue _ h
at_entrance owners n (Waits (Enter k) ticket arms) h =
    let same : k ≡ n = numbers_same k n (has_ticket (k == n) ticket h) in
    record { may = refl; runs = refl; no_coend = refl; only = λ m waits. sym (numbers_same k m waits) ∙ same; none = λ r. refl }
at_entrance owners n (Waits why ticket arms) h = untrue _ h

-- to whom a monitor passes waits for it
pub next_waits : (owners : List ℕ) (rows : List Stand) (n q : ℕ) → next_holder rows n ≡ Some q → WaitsFor owners n (at rows q)
next_waits owners rows n q is = by_last (last (ticket_at (Resumer n)) rows) refl is
  where
    by_last : (o : Option ℕ) → last (ticket_at (Resumer n)) rows ≡ o → or_else o (first (ticket_at (Enter n)) rows) ≡ Some q → WaitsFor owners n (at rows q)
    by_last (Some r) found h =
        let same : r ≡ q = (let both : Some r ≡ Some q = h in cc) in
        at_resumer owners n (at rows q) (last_has (ticket_at (Resumer n)) rows q (found ∙ ap (λ j. Some j) same))
    by_last None found h = at_entrance owners n (at rows q) (first_has (ticket_at (Enter n)) rows q h)

-- ## Who holds it

holder_within : (holders : List (Option ℕ)) (n p : ℕ) → holder_in holders n ≡ Some p → n < length holders
holder_within [] n p h = absurd (let no : None ≡ Some p = h in cc)
holder_within (x ∷ holders) zero p h = grind arith
holder_within (x ∷ holders) (suc n) p h = (let less : n < length holders = holder_within holders n p h in grind (arith, less))

marked_so : (n : ℕ) (mark : Mark) → is_in n mark ≡ true → mark ≡ of_monitor n
marked_so n plain h = untrue _ h
marked_so n (of_monitor k) h = ap of_monitor (numbers_same k n h)
marked_so n (of_resource r) h = untrue _ h

holds_marked : (h : Holders) (p n : ℕ) (mark : Mark) → is_in n mark ≡ true → HoldsFor h p Is_ready mark → holder_in h.monitors n ≡ Some p
holds_marked h p n mark is holds = by_mark (subst (λ (y : Mark). HoldsFor h p Is_ready y) (marked_so n mark is) holds)
  where
    by_mark : HoldsFor h p Is_ready (of_monitor n) → holder_in h.monitors n ≡ Some p
    by_mark (inl held) = held
    by_mark (inr waits) = untrue _ waits

holds_inside : (h : Holders) (p n : ℕ) (xs : List Activation) → All (λ (a : Activation). HoldsFor h p Is_ready a.mark) xs
    → list_any (λ (a : Activation). is_in n a.mark) xs ≡ true
    → holder_in h.monitors n ≡ Some p
holds_inside h p n [] all is = untrue _ is
holds_inside h p n (a ∷ xs) all is = by_first (is_in n a.mark) refl is (holds_inside h p n xs (λ k d below. all (suc k) d (grind (arith, below))))
  where
    by_first : (b : Bool) → is_in n a.mark ≡ b → (b || list_any (λ (y : Activation). is_in n y.mark) xs) ≡ true
        → (list_any (λ (y : Activation). is_in n y.mark) xs ≡ true → holder_in h.monitors n ≡ Some p) → holder_in h.monitors n ≡ Some p
    by_first true here is later = holds_marked h p n a.mark here (all 0 a (grind arith))
    by_first false here is later = later is

module _ (facts : Facts) (m : Machine) (c : Config) (p : ℕ) (level : LivingLevel) (acting : IsActing facts m c p level) where
  abbrev owners : List ℕ
  owners = (program_in facts).objects.conditions

  -- who acts in a monitor holds it
  pub inside_holds : (n : ℕ) → is_inside (program_in facts) c p n ≡ true → holder_in c.monitors n ≡ Some p
  inside_holds n inside =
      holds_inside (holders_in facts c) p n (activity_of (program_in facts) c p).activations
      (subst (λ (s : Stand). All (λ (a : Activation). HoldsFor (holders_in facts c) p s a.mark) (activity_of (program_in facts) c p).activations)
      acting.actor.ready acting.actor.stands.holds.entered)
      inside

  -- ## It passes on

  module _ (n : ℕ) (why : Why) (holds : holder_in c.monitors n ≡ Some p) (waits : waits_for_monitor_at owners n why ≡ true)
      (shows : shows_nothing_at why ≡ true)
      (no_due : due_of_wait why ≡ None) where
    abbrev pub held : Held
    held = record { table = c.table; holders = c.monitors }

    abbrev pub passed_so : Option ℕ → Objects
    passed_so o = record {
      table = blocked (given_to o held n).table p why [];
      counts = c.counts;
      monitors = (given_to o held n).holders;
      resources =
          c.resources;
    }

    abbrev h : Holders
    h = holders_in facts c

    abbrev stand : Stand
    stand = Waits why (c.table.done + 1) []

    -- the monitors with the next holder
    given : (o : Option ℕ) → (given_to o held n).holders ≡ set c.monitors n o
    given (Some q) = refl
    given None = refl

    holder_here : (o : Option ℕ) → holder_in (given_to o held n).holders n ≡ o
    holder_here o = ap (λ (hs : List (Option ℕ)). holder_in hs n) (given o) ∙ get_or-set_same c.monitors n o None (holder_within c.monitors n p holds)

    holder_there : (o : Option ℕ) (j : ℕ) → j ≢ n → holder_in (given_to o held n).holders j ≡ holder_in c.monitors j
    holder_there o j apart = ap (λ (hs : List (Option ℕ)). holder_in hs j) (given o) ∙ get_or-set_other c.monitors n j o None apart

    own_mark : (o : Option ℕ) (mark : Mark) → HoldsFor h p Is_ready mark → HoldsFor (holders_of facts (passed_so o)) p stand mark
    own_mark o plain is = is
    own_mark o (of_monitor j) (inr waits') = untrue _ waits'
    own_mark o (of_monitor j) (inl held') = by_number (either j n)
      where
        by_number : (j ≡ n) ⊎ (j ≢ n) → HoldsFor (holders_of facts (passed_so o)) p stand (of_monitor j)
        by_number (inl same) = inr (ap (λ i. waits_for_monitor_at owners i why) same ∙ waits)
        by_number (inr apart) = inl (holder_there o j apart ∙ held')
    own_mark o (of_resource r) (inr waits') = untrue _ waits'
    own_mark o (of_resource r) (inl held') = inl held'

    own_holds : (o : Option ℕ) (trial : Trial) (xs : List Activation) → Holds h p Is_ready trial xs → Holds (holders_of facts (passed_so o)) p stand trial xs
    own_holds o of_own xs is = record { entered = λ k d below. own_mark o (get_or xs k d).mark (is.entered k d below); scanned = is.scanned }
    own_holds o (of_turn scan back) xs is = record { entered = λ k d below. own_mark o (get_or xs k d).mark (is.entered k d below); scanned = is.scanned }
    own_holds o (of_another attempt) xs is = record { entered = λ k d below. own_mark o (get_or xs k d).mark (is.entered k d below); scanned = is.scanned }

    others_hold : (o : Option ℕ) (q : ℕ) → q ≢ p → HoldsStill q h (holders_of facts (passed_so o))
    others_hold o q apart =
        record {
          owners = refl;
          monitors = λ j held'. holder_there o j (λ same. apart (one_holder q (sym (ap (λ i. holder_in c.monitors i) same ∙ holds) ∙ held'))) ∙ held';
          resources = λ r held'. held';
        }
      where
        one_holder : (q' : ℕ) → Some p ≡ Some q' → q' ≡ p
        one_holder q' both = cc

    bounded : (t : ℕ) → due_of_wait why ≡ Some t → t ≤ 10 ^ 15
    bounded t is = (let no : None ≡ Some t = sym no_due ∙ is in absurd (cc))

    -- to nobody
    passes_to_none : IsChange facts c p (passed_so None)
    passes_to_none =
        change_of facts m c p level acting (passed_so None) stand
        (record {
          mine = row_here c.table.rows p stand (there facts m c p level acting);
          may = waits_so c why shows bounded;
          rest = λ q apart. inl (row_there c.table.rows p q stand apart);
          size = length-set c.table.rows p stand;
          rests = refl;
          done = refl;
          moment = refl;
        })
        (own_holds None) (others_hold None) refl (length-set c.monitors n None) refl

    -- to this process
    module _ (q : ℕ) (next : WaitsFor owners n (at c.table.rows q)) where
      abbrev rows : List Stand
      rows = set c.table.rows q Is_ready

      there_still : p < length rows
      there_still = subst (λ j. p < j) (sym (length-set c.table.rows q Is_ready)) (there facts m c p level acting)

      not_idle : at c.table.rows q ≡ Is_idle → ⊥
      not_idle idle = (let no : false ≡ true = ap may_be_freed (sym idle) ∙ next.may in cc)

      goes_on : q ≢ p → IsOneLetGo (holders_of facts (passed_so (Some q))) q (at c.table.rows q) (at (set rows p stand) q)
      goes_on apart =
          record {
            go = record {
              waited = next.may;
              ready = row_there rows p q stand apart ∙ row_here c.table.rows q Is_ready (within_rows c.table.rows q not_idle);
              has = record {
                monitors = λ j waits'. ap (λ i. holder_in (given_to (Some q) held n).holders i) (next.only j waits') ∙ holder_here (Some q);
                resources = λ r waits'. untrue _ (sym (next.none r) ∙ waits');
              };
            };
            runs = next.runs;
            no_coend = next.no_coend;
          }

      rest : (r : ℕ) → r ≢ p → (r ≡ q) ⊎ (r ≢ q) → (at (set rows p stand) r ≡ at c.table.rows r)
          ⊎ IsOneLetGo (holders_of facts (passed_so (Some q))) r (at c.table.rows r) (at (set rows p stand) r)
      rest r apart (inr other) = inl (row_there rows p r stand apart ∙ row_there c.table.rows q r Is_ready other)
      rest r apart (inl same) =
          inr (subst (λ j. IsOneLetGo (holders_of facts (passed_so (Some q))) j (at c.table.rows j) (at (set rows p stand) j)) (sym same)
          (goes_on (λ is. apart (same ∙ is))))

      passes_to_one : IsChange facts c p (passed_so (Some q))
      passes_to_one =
          change_of facts m c p level acting (passed_so (Some q)) stand
          (record {
            mine = row_here rows p stand there_still;
            may = waits_so c why shows bounded;
            rest = λ r apart. rest r apart (either r q);
            size = length-set rows p stand ∙ length-set c.table.rows q Is_ready;
            rests = refl;
            done = refl;
            moment = refl;
          })
          (own_holds (Some q)) (others_hold (Some q)) refl (length-set c.monitors n (Some q)) refl

    pub passes_on : (o : Option ℕ) → ((q : ℕ) → o ≡ Some q → WaitsFor owners n (at c.table.rows q)) → IsChange facts c p (passed_so o)
    passes_on None waits' = passes_to_none
    passes_on (Some q) waits' = passes_to_one q (waits' q refl)
