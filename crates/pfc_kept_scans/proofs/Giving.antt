-- A resource that the process holds passes to one that waits for it, or to nobody.
use Rattle.std.proofs.Common.{◌≡◌, ◌≢◌, ℕ, zero, suc, ◌<◌, ◌==◌, if◌then◌else◌, Bool, true, false, List, [], ◌∷◌, length, set, get_or, All}
use Rattle.std.proofs.Common.{Option, Some, None, refl, sym, ap, ◌∙◌, subst, arith, ◌⊎◌, inl, inr}
use Rattle.std.specs.Prelude.{is_some}
use Rattle.std.proofs.lemmas.List.{get_or-set_same, get_or-set_other, length-set}
use Rattle.pfc_state.specs.Stands.{Stand, Is_idle, Is_created, Is_ready, Is_done, Waits, ticket_at, is_unfinished, ticket_of, due_of}
use Rattle.pfc_state.specs.declared.waits.Why.{Why}
use Rattle.pfc_state.specs.declared.waits.Why.TheVariants.{Entrant, Barred}
use Rattle.pfc_world.specs.Holders.{Held, held_in, holder_in, given_to}
use Rattle.pfc_world.specs.Partners.{next_entrant}
use Rattle.pfc_world.specs.Resources.{given_up}
use Rattle.pfc_world.specs.Tables.{Table, at}
use Rattle.pfc_world.specs.Transitions.{placed, rested}
use Rattle.pfc_semantics.specs.Configurations.{Mark, plain, of_monitor, of_resource, Activation, Config, resources_held}
use Rattle.pfc_machines.specs.declared.machine.Machine.{Machine}
use Rattle.pfc_standing_code.specs.Settings.{Trial, of_own}
use Rattle.pfc_representation.specs.Levels.{Facts, LivingLevel}
use Rattle.pfc_representation.specs.Holding.{Holders, holders_in, waits_for_monitor, waits_for_resource, waits_for_resource_at, HoldsFor, Holds, is_quiet}
use Rattle.pfc_representation.specs.Holding.{waits_at_coend}
use Rattle.pfc_representation.specs.Machines.{machine_table}
use Rattle.pfc_representation.specs.Keeping.{HoldsStill}
use Rattle.pfc_representation.specs.Acting.{IsActing}
use Rattle.pfc_kept_object_actions.specs.Freed.{HasItsTurn, may_be_freed}
use Rattle.pfc_kept_object_actions.proofs.Change.{row_here, row_there, within_rows}
use Rattle.pfc_kept_object_actions.proofs.Finding.{first_has}
use Rattle.pfc_kept_object_actions.proofs.Popped.{world, rests as world_rests}
use Rattle.pfc_kept_object_actions.proofs.Tests.{either, numbers_same, untrue}
use Rattle.pfc_kept_scans.proofs.Behind.{StandsThen, holders_with}
use Rattle.pfc_kept_scans.proofs.Others.{ItStands, it_stays, it_is_freed, it_is_let_on}

-- ## Who waits for a resource

-- the process waits for resource n and for nothing else, as an entrant or barred
pub record WaitsFor (n : ℕ) (s : Stand) : Type 0 where
  pub runs : is_quiet s ≡ false
  pub no_coend : waits_at_coend s ≡ false
  pub only : (r : ℕ) → waits_for_resource r s ≡ true → r ≡ n
  pub none : (owners : List ℕ) (m : ℕ) → waits_for_monitor owners m s ≡ false
  pub how : (may_be_freed s ≡ true) ⊎ ((k : ℕ) × (t : ℕ) × (s ≡ Waits (Barred n k) t []))

has_ticket : (b : Bool) (ticket : ℕ) → is_some (if b then Some ticket else None) ≡ true → b ≡ true
has_ticket true ticket h = refl
has_ticket false ticket h = (let no : false ≡ true = h in cc)

at_entrance : (n : ℕ) (s : Stand) → is_some (ticket_at (Entrant n) s) ≡ true → WaitsFor n s
at_entrance n Is_idle h = untrue _ h
at_entrance n Is_created h = untrue _ h
at_entrance n Is_ready h = untrue _ h
at_entrance n Is_done h = untrue _ h
at_entrance n (Waits (Entrant k) ticket arms) h =
    let same : k ≡ n = numbers_same k n (has_ticket (k == n) ticket h) in
    record {
      runs = refl;
      no_coend = refl;
      only = λ r waits. sym (numbers_same k r waits) ∙ same;
      none = λ owners m. refl;
      how = inl refl;
    }
at_entrance n (Waits why ticket arms) h = untrue _ h

pub next_waits : (rows : List Stand) (n q : ℕ) → next_entrant rows n ≡ Some q → WaitsFor n (at rows q)
next_waits rows n q is = at_entrance n (at rows q) (first_has (ticket_at (Entrant n)) rows q is)

barred_so : (n k t : ℕ) → WaitsFor n (Waits (Barred n k) t [])
barred_so n k t =
    record {
      runs = refl;
      no_coend = refl;
      only = λ r waits. sym (numbers_same n r waits);
      none = λ owners m. refl;
      how = inr (k, t, refl);
    }

pub barred_waits : (n k t : ℕ) (s : Stand) → s ≡ Waits (Barred n k) t [] → WaitsFor n s
barred_waits n k t s is = subst (λ (x : Stand). WaitsFor n x) (sym is) (barred_so n k t)

pub holder_within : (holders : List (Option ℕ)) (n p : ℕ) → holder_in holders n ≡ Some p → n < length holders
holder_within [] n p h = absurd (let no : None ≡ Some p = h in cc)
holder_within (x ∷ holders) zero p h = grind arith
holder_within (x ∷ holders) (suc n) p h = (let less : n < length holders = holder_within holders n p h in grind (arith, less))

not_ready : (n : ℕ) (s : Stand) → WaitsFor n s → s ≡ Is_ready → ⊥
not_ready n s waits ready = by_how waits.how
  where
    by_how : (may_be_freed s ≡ true) ⊎ ((k : ℕ) × (t : ℕ) × (s ≡ Waits (Barred n k) t [])) → ⊥
    by_how (inl may) = (let no : false ≡ true = ap may_be_freed (sym ready) ∙ may in cc)
    by_how (inr (k, t, is)) = (let no : Waits (Barred n k) t [] ≡ Is_ready = sym is ∙ ready in cc)

not_idle : (n : ℕ) (s : Stand) → WaitsFor n s → s ≡ Is_idle → ⊥
not_idle n s waits idle = (let no : true ≡ false = ap is_quiet (sym idle) ∙ waits.runs in cc)

-- ## It passes on

module _ (facts : Facts) (m : Machine) (c : Config) (p : ℕ) (level : LivingLevel) (acting : IsActing facts m c p level) (r : ℕ)
    (held : holder_in c.resources r ≡ Some p) (o : Option ℕ)
    (waits : (q : ℕ) → o ≡ Some q → WaitsFor r (at c.table.rows q)) where
  abbrev pub given : Held
  given = given_to o (resources_held c) r

  abbrev h : Holders
  h = holders_in facts c

  abbrev h' : Holders
  h' = holders_with facts c given.holders

  holders_are : given.holders ≡ set c.resources r o
  holders_are = by_next o
    where
      by_next : (n : Option ℕ) → (given_to n (resources_held c) r).holders ≡ set c.resources r n
      by_next (Some q) = refl
      by_next None = refl

  pub holder_here : holder_in given.holders r ≡ o
  holder_here = ap (λ (hs : List (Option ℕ)). holder_in hs r) holders_are ∙ get_or-set_same c.resources r o None (holder_within c.resources r p held)

  pub holder_there : (j : ℕ) → j ≢ r → holder_in given.holders j ≡ holder_in c.resources j
  holder_there j apart = ap (λ (hs : List (Option ℕ)). holder_in hs j) holders_are ∙ get_or-set_other c.resources r j o None apart

  pub resource_count : length given.holders ≡ length c.resources
  resource_count = ap (λ (hs : List (Option ℕ)). length hs) holders_are ∙ length-set c.resources r o

  pub row_count : length given.table.rows ≡ length c.table.rows
  row_count = by_next o
    where
      by_next : (n : Option ℕ) → length (given_to n (resources_held c) r).table.rows ≡ length c.table.rows
      by_next (Some q) = length-set c.table.rows q Is_ready
      by_next None = refl

  pub rests : given.table.acting ≡ None
  rests = by_next o
    where
      by_next : (n : Option ℕ) → (given_to n (resources_held c) r).table.acting ≡ None
      by_next (Some q) = acting.alike.between.acting
      by_next None = acting.alike.between.acting

  pub clock_same : (given.table.done ≡ c.table.done) × (given.table.moment ≡ c.table.moment)
  clock_same = by_next o
    where
      by_next : (n : Option ℕ) → ((given_to n (resources_held c) r).table.done ≡ c.table.done)
          × ((given_to n (resources_held c) r).table.moment ≡ c.table.moment)
      by_next (Some q) = (refl, refl)
      by_next None = (refl, refl)

  -- ### Standings

  abbrev StandsSo : Option ℕ → ℕ → Type 0
  StandsSo n q =
      (at (given_to n (resources_held c) r).table.rows q ≡ at c.table.rows q)
      ⊎ ((n ≡ Some q) × (at (given_to n (resources_held c) r).table.rows q ≡ Is_ready))

  stands_so : (n : Option ℕ) → ((q : ℕ) → n ≡ Some q → WaitsFor r (at c.table.rows q)) → (q : ℕ) → StandsSo n q
  stands_so None some q = inl refl
  stands_so (Some f) some q = by_place (either q f)
    where
      by_place : (q ≡ f) ⊎ (q ≢ f) → StandsSo (Some f) q
      by_place (inr apart) = inl (row_there c.table.rows f q Is_ready apart)
      by_place (inl same) =
          inr (
            ap (λ n. Some n) (sym same),
            ap (λ n. at (set c.table.rows f Is_ready) n) same
                ∙ row_here c.table.rows f Is_ready (within_rows c.table.rows f (not_idle r (at c.table.rows f) (some f refl))),
          )

  has_its_turn : (q : ℕ) → o ≡ Some q → HasItsTurn h' q (at c.table.rows q)
  has_its_turn q next =
      let its : WaitsFor r (at c.table.rows q) = waits q next in
      record {
        monitors = λ n is. untrue _ (sym (its.none h'.owners n) ∙ is);
        resources = λ n is. ap (λ j. holder_in given.holders j) (its.only n is) ∙ holder_here ∙ next;
      }

  pub given_mine : at given.table.rows p ≡ Is_ready
  given_mine = by_stand (stands_so o waits p)
    where
      by_stand : StandsSo o p → at given.table.rows p ≡ Is_ready
      by_stand (inl same) = same ∙ acting.actor.ready
      by_stand (inr (next, ready)) = ready

  pub given_rows : (q : ℕ) → ItStands h p h' q (at c.table.rows q) (at given.table.rows q)
  given_rows q = by_stand (stands_so o waits q)
    where
      by_how : (next : o ≡ Some q) → at given.table.rows q ≡ Is_ready
          → (may_be_freed (at c.table.rows q) ≡ true) ⊎ ((k : ℕ) × (t : ℕ) × (at c.table.rows q ≡ Waits (Barred r k) t []))
          → ItStands h p h' q (at c.table.rows q) (at given.table.rows q)
      by_how next ready (inl may) = it_is_freed (record { waited = may; ready = ready; has = has_its_turn q next })
      by_how next ready (inr (k, t, is)) =
          it_is_let_on (record {
            resource = r;
            procedure = k;
            ticket = t;
            barred = is;
            ready = ready;
            held = held;
            has = has_its_turn q next;
          })

      by_stand : StandsSo o q → ItStands h p h' q (at c.table.rows q) (at given.table.rows q)
      by_stand (inl same) = it_stays same
      by_stand (inr (next, ready)) = by_how next ready (waits q next).how

  pub given_stands : (q : ℕ) → StandsThen c (at c.table.rows q) (at given.table.rows q)
  given_stands q = by_stand (stands_so o waits q)
    where
      by_stand : StandsSo o q → StandsThen c (at c.table.rows q) (at given.table.rows q)
      by_stand (inl same) = inl same
      by_stand (inr (next, ready)) =
          inr (record {
            unfinished = ap is_unfinished ready;
            awake = (waits q next).runs;
            no_coend = (waits q next).no_coend;
            ticket = λ t is. absurd (let no : None ≡ Some t = ap ticket_of (sym ready) ∙ is in cc);
            no_due = ap due_of ready;
          })

  pub given_still : (q : ℕ) → q ≢ p → HoldsStill q h h'
  given_still q apart =
      record {
        owners = refl;
        monitors = λ j is. is;
        resources = λ j is. holder_there j (λ same. apart (one_holder (sym (ap (λ i. holder_in c.resources i) same ∙ held) ∙ is))) ∙ is;
      }
    where
      one_holder : Some p ≡ Some q → q ≡ p
      one_holder both = cc

  -- ### What the process holds then

  -- all but the resource
  left_mark : (mark : Mark) → mark ≢ of_resource r → HoldsFor h p Is_ready mark → HoldsFor h' p Is_ready mark
  left_mark plain apart is = is
  left_mark (of_monitor j) apart (inl holds) = inl holds
  left_mark (of_monitor j) apart (inr some) = untrue _ some
  left_mark (of_resource j) apart (inl holds) = inl (holder_there j (λ same. apart (ap of_resource same)) ∙ holds)
  left_mark (of_resource j) apart (inr some) = untrue _ some

  pub holds_left : (trial : Trial) (xs : List Activation) → All (λ (a : Activation). a.mark ≢ of_resource r) xs → Holds h p Is_ready trial xs
      → Holds h' p Is_ready of_own xs
  holds_left trial xs left is =
      record { entered = λ k d below. left_mark (get_or xs k d).mark (left k d below) (is.entered k d below); scanned = tt }

  -- or it waits for that
  waiting_mark : (why : Why) (t : ℕ) → waits_for_resource_at r why ≡ true → (mark : Mark) → HoldsFor h p Is_ready mark
      → HoldsFor h' p (Waits why t []) mark
  waiting_mark why t some plain is = is
  waiting_mark why t some (of_monitor j) (inl holds) = inl holds
  waiting_mark why t some (of_monitor j) (inr other) = untrue _ other
  waiting_mark why t some (of_resource j) (inr other) = untrue _ other
  waiting_mark why t some (of_resource j) (inl holds) = by_number (either j r)
    where
      by_number : (j ≡ r) ⊎ (j ≢ r) → HoldsFor h' p (Waits why t []) (of_resource j)
      by_number (inl same) = inr (ap (λ i. waits_for_resource_at i why) same ∙ some)
      by_number (inr apart) = inl (holder_there j apart ∙ holds)

  pub holds_waiting : (why : Why) (t : ℕ) → waits_for_resource_at r why ≡ true → (trial : Trial) (xs : List Activation) → Holds h p Is_ready trial xs
      → Holds h' p (Waits why t []) of_own xs
  holds_waiting why t some trial xs is =
      record { entered = λ k d below. waiting_mark why t some (get_or xs k d).mark (is.entered k d below); scanned = tt }

-- ## On the machine

module _ (facts : Facts) (m : Machine) (c : Config) (p : ℕ) (level : LivingLevel) (acting : IsActing facts m c p level) (r : ℕ) where
  abbrev pub held_there : Held
  held_there = held_in (world facts m c p level acting) c.resources

  pub machine_gives : given_up (held_in m.world m.resources) r ≡ given_to (next_entrant c.table.rows r) held_there r
  machine_gives =
      ap (λ (y : Table). given_up (held_in y m.resources) r) acting.world
      ∙ ap (λ (hs : List (Option ℕ)). given_up (held_in (world facts m c p level acting) hs) r) acting.alike.words.resources

  pub machine_passes : (o : Option ℕ) → given_to o (held_in m.world m.resources) r ≡ given_to o held_there r
  machine_passes o =
      ap (λ (y : Table). given_to o (held_in y m.resources) r) acting.world
      ∙ ap (λ (hs : List (Option ℕ)). given_to o (held_in (world facts m c p level acting) hs) r) acting.alike.words.resources

  pub given_rested : (o : Option ℕ) → rested (given_to o held_there r).table ≡ machine_table facts (given_to o (resources_held c) r).table
  given_rested None = world_rests facts m c p level acting
  given_rested (Some q) =
      ap (λ (who : Option ℕ). record (machine_table facts (placed c.table q Is_ready)) { acting = who }) (sym acting.alike.between.acting)

  pub given_holders : (o : Option ℕ) → (given_to o held_there r).holders ≡ (given_to o (resources_held c) r).holders
  given_holders None = refl
  given_holders (Some q) = refl
