-- What is kept beside the rows, as one process stands at something else.
use Rattle.std.proofs.Common.{◌≡◌, ◌≢◌, ℕ, zero, suc, ◌+◌, ◌-◌, ◌<◌, ◌≤◌, Bool, true, false, Option, None, Some, List, [], ◌∷◌, length, get_or, set, map}
use Rattle.std.proofs.Common.{replicate, inl, inr, arith, refl, sym, ap, ◌∙◌, subst, is_some}
use Rattle.std.proofs.lemmas.List.{length-set, length-map, map-set, get_or-set_same, get_or-set_other, get_or-replicate, get_or_past, length-replicate}
use Rattle.std.proofs.lemmas.List.{set-get_or}
use Rattle.std.proofs.lemmas.Bool.{cases_lt}
use Rattle.std.proofs.Math.ListN.{get_or-map}
use Rattle.pfc_links.specs.declared.links.Member.{Member}
use Rattle.pfc_links.specs.Members.{member_at, in_list}
use Rattle.pfc_moments.specs.Moments.{moment_at}
use Rattle.pfc_ranks.specs.declared.ranks.Delay.{Delay}
use Rattle.pfc_ranks.specs.Delays.{delay_at}
use Rattle.pfc_state.specs.declared.waits.Why.{Why}
use Rattle.pfc_state.specs.declared.waits.Why.TheVariants.{Condition, Select}
use Rattle.pfc_state.specs.declared.waits.Arm.{Arm}
use Rattle.pfc_state.specs.Stands.{Stand, Is_idle, Is_created, Is_ready, Waits, Is_done, IsWaiting, is_ready, is_created, is_unfinished, may_end, due_of}
use Rattle.pfc_state.specs.Stands.{ticket_of, started}
use Rattle.pfc_world.specs.declared.index.Index.{Index}
use Rattle.pfc_world.specs.Indexes.{IsReadySet, IsIndexed, Admits, BeginsWait, IsListed, EndsWait, number, count_of}
use Rattle.pfc_world.specs.Delays.{delay_of}
use Rattle.pfc_world.specs.declared.lists.Spread.{Spread}
use Rattle.pfc_world.specs.Lists.{list_count, member_of, IsSpread}
use Rattle.pfc_world.specs.Tables.{at}
use Rattle.pfc_world.specs.Tickets.{AreTickets, IsNew}
use Rattle.pfc_world.proofs.Counting.{count-set, count-most, count-one, count-map, count-idle, none-created}
use Rattle.pfc_world.proofs.ReadySets.{ready-set, ready-kept}

-- all of it is changed as the process is
record IsChanged (old new : Index) (rows : List Stand) (p : ℕ) (s : Stand) : Type 0 where
  spread : new.spread ≡ old.spread
  bits : IsReadySet (set rows p s) new.ready
  members : new.waits.members ≡ set old.waits.members p (member_of old.spread s)
  lists : new.waits.lists ≡ old.waits.lists
  dues : new.dues ≡ set old.dues p (due_of s)
  ranks : new.ranks ≡ set old.ranks p (delay_of s)
  unfinished : new.unfinished + number (is_unfinished (at rows p)) ≡ old.unfinished + number (is_unfinished s)
  created : new.created + number (is_created (at rows p)) ≡ old.created + number (is_created s)
  ending : new.ending + number (may_end (at rows p)) ≡ old.ending + number (may_end s)

same-count : (a b c d x y : ℕ) → a + x ≡ c + y → c ≡ d → b + x ≡ d + y → a ≡ b
same-count a b c d x y e f g = omega (arith, e, f, g)

changed-index : (rows new : List Stand) (p : ℕ) (s : Stand) (ix ix' : Index) → p < length rows → new ≡ set rows p s → IsIndexed rows ix →
    IsChanged ix ix' rows p s → IsIndexed new ix'
changed-index rows new p s ix ix' lt is h c = subst (λ v. IsIndexed v ix') (sym is) (record {
  some = rw length-set h.some;
  few = rw length-set h.few;
  spread = subst IsSpread (sym c.spread) h.spread;
  bits = c.bits;
  waits =
      c.members ∙ ap (λ v. set v p (member_of ix.spread s)) h.waits ∙ sym (map-set (member_of ix.spread) rows p s)
      ∙ ap (λ v. map (member_of v) (set rows p s)) (sym c.spread);
  lists = c.lists ∙ h.lists ∙ ap list_count (sym c.spread);
  dues = c.dues ∙ ap (λ v. set v p (due_of s)) h.dues ∙ sym (map-set due_of rows p s);
  ranks = c.ranks ∙ ap (λ v. set v p (delay_of s)) h.ranks ∙ sym (map-set delay_of rows p s);
  unfinished = same-count ix'.unfinished (count_of is_unfinished (set rows p s)) ix.unfinished (count_of is_unfinished rows)
      (number (is_unfinished (at rows p))) (number (is_unfinished s)) c.unfinished h.unfinished (count-set is_unfinished rows p s lt);
  created = same-count ix'.created (count_of is_created (set rows p s)) ix.created (count_of is_created rows) (number (is_created (at rows p)))
      (number (is_created s)) c.created h.created (count-set is_created rows p s lt);
  ending = same-count ix'.ending (count_of may_end (set rows p s)) ix.ending (count_of may_end rows) (number (may_end (at rows p)))
      (number (may_end s)) c.ending h.ending (count-set may_end rows p s lt);
})

-- what the index says of a process
pub member-is : (rows : List Stand) (ix : Index) (p : ℕ) → IsIndexed rows ix → member_at ix.waits.members p ≡ member_of ix.spread (at rows p)
member-is rows ix p h = ap (λ v. member_at v p) h.waits ∙ get_or-map (member_of ix.spread) rows p Is_idle

pub moment-is : (rows : List Stand) (ix : Index) (p : ℕ) → IsIndexed rows ix → moment_at ix.dues p ≡ due_of (at rows p)
moment-is rows ix p h = ap (λ v. moment_at v p) h.dues ∙ get_or-map due_of rows p Is_idle

pub delay-is : (rows : List Stand) (ix : Index) (p : ℕ) → IsIndexed rows ix → delay_at ix.ranks p ≡ delay_of (at rows p)
delay-is rows ix p h = ap (λ v. delay_at v p) h.ranks ∙ get_or-map delay_of rows p Is_idle

pub members-room : (rows : List Stand) (ix : Index) → IsIndexed rows ix → length ix.waits.members ≡ length rows
members-room rows ix h = ap length h.waits ∙ length-map rows (member_of ix.spread)

dues-room : (rows : List Stand) (ix : Index) → IsIndexed rows ix → length ix.dues ≡ length rows
dues-room rows ix h = ap length h.dues ∙ length-map rows due_of

ranks-room : (rows : List Stand) (ix : Index) → IsIndexed rows ix → length ix.ranks ≡ length rows
ranks-room rows ix h = ap length h.ranks ∙ length-map rows delay_of

abbrev ticket_in : Option Member → Option ℕ
ticket_in (Some m) = Some m.ticket
ticket_in None = None

pub member-ticket : (spread : Spread) (s : Stand) (list t : ℕ) → member_of spread s ≡ in_list list t → ticket_of s ≡ Some t
member-ticket spread (Waits why ticket arms) list t h = ap ticket_in h
member-ticket spread Is_idle list t h = cc
member-ticket spread Is_created list t h = cc
member-ticket spread Is_ready list t h = cc
member-ticket spread Is_done list t h = cc

wait-ticket : (why : Why) (ticket : ℕ) (arms : List Arm) (delay : Delay) → delay_of (Waits why ticket arms) ≡ Some delay → ticket ≡ delay.ticket
wait-ticket (Condition number rank) ticket arms delay h = ap ticket_delayed h
  where
    ticket_delayed : Option Delay → ℕ
    ticket_delayed (Some d) = d.ticket
    ticket_delayed None = ticket
wait-ticket _ ticket arms delay h = cc

-- a process is delayed with the ticket of its wait
pub delay-ticket : (s : Stand) (delay : Delay) → delay_of s ≡ Some delay → ticket_of s ≡ Some delay.ticket
delay-ticket (Waits why ticket arms) delay h = ap (λ n. Some n) (wait-ticket why ticket arms delay h)
delay-ticket Is_idle delay h = cc
delay-ticket Is_created delay h = cc
delay-ticket Is_ready delay h = cc
delay-ticket Is_done delay h = cc

-- a process that acts may be put into a list, with the ticket of the present action
pub admits : (rows : List Stand) (ix : Index) (p done t : ℕ) → p < length rows → at rows p ≡ Is_ready → AreTickets rows done →
    IsNew rows done → t ≡ done + 1 → IsIndexed rows ix
    → Admits ix p t
admits rows ix p done t lt ready tickets fresh is h = record {
  ready = let room : length rows ≤ length ix.ready = h.bits.room in omega (arith, room, lt);
  waits = let room : length ix.waits.members ≡ length rows = members-room rows ix h in omega (arith, room, lt);
  spread = h.spread;
  lists = h.lists;
  dues = let room : length ix.dues ≡ length rows = dues-room rows ix h in omega (arith, room, lt);
  ranks = let room : length ix.ranks ≡ length rows = ranks-room rows ix h in omega (arith, room, lt);
  free = member-is rows ix p h ∙ ap (member_of ix.spread) ready;
  undue = moment-is rows ix p h ∙ ap due_of ready;
  undelayed = delay-is rows ix p h ∙ ap delay_of ready;
  from_one = omega (arith, is);
  last = λ list q u own. last q u (member-ticket ix.spread (at rows q) list u (sym (member-is rows ix q h) ∙ own));
  apart = λ q delay own same. let lt' : delay.ticket < t =
      last q delay.ticket (delay-ticket (at rows q) delay (sym (delay-is rows ix q h) ∙ own)) in omega (arith, lt', same);
  ending = let le : count_of may_end rows ≤ length rows = count-most may_end rows in let e : ix.ending ≡ count_of may_end rows =
      h.ending in let few : length rows ≤ 1024 = h.few in omega (arith, le, e, few);
}
  where
    last : (q u : ℕ) → ticket_of (at rows q) ≡ Some u → u < t
    last q u own =
        let le : u ≤ done + 1 = tickets.upto q u own in
        let apart : u ≢ done + 1 = λ e. fresh q (own ∙ ap (λ n. Some n) e) in
        omega (arith, le, apart, is)

-- the alternatives of a wait are not looked at
ends-same : (why : Why) (t : ℕ) (arms : List Arm) → may_end (Waits why t arms) ≡ may_end (Waits why 0 [])
ends-same (Select due terminate) t arms = refl
ends-same _ t arms = refl

-- a process that acted waits
pub begun-index : (rows new : List Stand) (p t : ℕ) (why : Why) (arms : List Arm) (ix ix' : Index) → p < length rows →
    at rows p ≡ Is_ready → new ≡ set rows p (Waits why t arms)
    → IsIndexed rows ix → BeginsWait ix ix' p why t → IsIndexed new ix'
begun-index rows new p t why arms ix ix' lt ready is h b = changed-index rows new p (Waits why t arms) ix ix' lt is h (record {
  bits = subst (λ v. IsReadySet (set rows p (Waits why t arms)) v) (sym b.ready) (ready-set rows ix.ready p (Waits why t arms) false lt refl h.bits);
  spread = b.spread;
  members = b.members;
  lists = b.lists;
  dues = b.dues;
  ranks = b.ranks;
  unfinished = ap (λ n. n + number (is_unfinished (at rows p))) b.unfinished ∙ ap (λ s. ix.unfinished + number (is_unfinished s)) ready;
  created = ap (λ n. n + number (is_created (at rows p))) b.created ∙ ap (λ s. ix.created + number (is_created s)) ready;
  ending =
      let none : number (may_end (at rows p)) ≡ 0 = ap (λ s. number (may_end s)) ready in
      let some : ix'.ending ≡ ix.ending + number (may_end (Waits why 0 [])) = b.ending ∙ ap (λ v. ix.ending + number v) (ends-same why t []) in
      let same : number (may_end (Waits why t arms)) ≡ number (may_end (Waits why 0 [])) = ap number (ends-same why t arms) in
      omega (arith, none, some, same);
})

waiting-member : (spread : Spread) (s : Stand) → IsWaiting s → is_some (member_of spread s) ≡ true
waiting-member spread (Waits why ticket arms) h = refl
waiting-member spread Is_idle h = absurd h
waiting-member spread Is_created h = absurd h
waiting-member spread Is_ready h = absurd h
waiting-member spread Is_done h = absurd h

waiting-unfinished : (s : Stand) → IsWaiting s → is_unfinished s ≡ true
waiting-unfinished (Waits why ticket arms) h = refl
waiting-unfinished Is_idle h = absurd h
waiting-unfinished Is_created h = absurd h
waiting-unfinished Is_ready h = absurd h
waiting-unfinished Is_done h = absurd h

waiting-begun : (s : Stand) → IsWaiting s → is_created s ≡ false
waiting-begun (Waits why ticket arms) h = refl
waiting-begun Is_idle h = absurd h
waiting-begun Is_created h = absurd h
waiting-begun Is_ready h = absurd h
waiting-begun Is_done h = absurd h

waiting-unready : (s : Stand) → IsWaiting s → false ≡ is_ready s
waiting-unready (Waits why ticket arms) h = refl
waiting-unready Is_idle h = absurd h
waiting-unready Is_created h = absurd h
waiting-unready Is_ready h = absurd h
waiting-unready Is_done h = absurd h

-- who waits is in a list
pub is-listed : (rows : List Stand) (ix : Index) (p : ℕ) (ends : Bool) → p < length rows → IsWaiting (at rows p) →
    ends ≡ may_end (at rows p) → IsIndexed rows ix → IsListed ix p ends
is-listed rows ix p ends lt waits is h = record {
  ready = let room : length rows ≤ length ix.ready = h.bits.room in omega (arith, room, lt);
  waits = let room : length ix.waits.members ≡ length rows = members-room rows ix h in omega (arith, room, lt);
  member = ap is_some (member-is rows ix p h) ∙ waiting-member ix.spread (at rows p) waits;
  dues = let room : length ix.dues ≡ length rows = dues-room rows ix h in omega (arith, room, lt);
  ranks = let room : length ix.ranks ≡ length rows = ranks-room rows ix h in omega (arith, room, lt);
  unfinished =
      let one : number (is_unfinished (at rows p)) ≤ count_of is_unfinished rows = count-one is_unfinished rows p lt in
      let is_one : number (is_unfinished (at rows p)) ≡ 1 = ap number (waiting-unfinished (at rows p) waits) in
      let e : ix.unfinished ≡ count_of is_unfinished rows = h.unfinished in omega (arith, one, is_one, e);
  ending =
      let one : number (may_end (at rows p)) ≤ count_of may_end rows = count-one may_end rows p lt in
      let is_one : number ends ≡ number (may_end (at rows p)) = ap number is in
      let e : ix.ending ≡ count_of may_end rows = h.ending in omega (arith, one, is_one, e);
}

-- who waited is ready
pub woken-index : (rows new : List Stand) (p : ℕ) (ends : Bool) (ix ix' : Index) → p < length rows → IsWaiting (at rows p) →
    ends ≡ may_end (at rows p) → new ≡ set rows p Is_ready
    → IsIndexed rows ix → EndsWait ix ix' p ends → ix'.ready ≡ set ix.ready p true → ix'.unfinished ≡ ix.unfinished → IsIndexed new ix'
woken-index rows new p ends ix ix' lt waits may is h e ready unfinished = changed-index rows new p Is_ready ix ix' lt is h (record {
  bits = subst (λ v. IsReadySet (set rows p Is_ready) v) (sym ready) (ready-set rows ix.ready p Is_ready true lt refl h.bits);
  spread = e.spread;
  members = e.members;
  lists = e.lists;
  dues = e.dues;
  ranks = e.ranks;
  unfinished = ap (λ n. n + number (is_unfinished (at rows p))) unfinished ∙ ap (λ b. ix.unfinished + number b) (waiting-unfinished (at rows p) waits);
  created = ap (λ n. n + number (is_created (at rows p))) e.created ∙ ap (λ b. ix.created + number b) (waiting-begun (at rows p) waits);
  ending = let same : number ends ≡ number (may_end (at rows p)) =
      ap number may in let left : ix'.ending + number ends ≡ ix.ending = e.ending in omega (arith, same, left);
})

-- who waited is over
pub ended-index : (rows new : List Stand) (p : ℕ) (ends : Bool) (ix ix' : Index) → p < length rows → IsWaiting (at rows p) →
    ends ≡ may_end (at rows p) → new ≡ set rows p Is_done
    → IsIndexed rows ix → EndsWait ix ix' p ends → ix'.ready ≡ ix.ready → ix'.unfinished + 1 ≡ ix.unfinished → IsIndexed new ix'
ended-index rows new p ends ix ix' lt waits may is h e ready unfinished = changed-index rows new p Is_done ix ix' lt is h (record {
  bits = subst (λ v. IsReadySet (set rows p Is_done) v) (sym ready) (ready-kept rows ix.ready p Is_done (waiting-unready (at rows p) waits) h.bits);
  spread = e.spread;
  members = e.members;
  lists = e.lists;
  dues = e.dues;
  ranks = e.ranks;
  unfinished = let one : number (is_unfinished (at rows p)) ≡ 1 = ap number (waiting-unfinished (at rows p) waits) in omega (arith, one, unfinished);
  created = ap (λ n. n + number (is_created (at rows p))) e.created ∙ ap (λ b. ix.created + number b) (waiting-begun (at rows p) waits);
  ending = let same : number ends ≡ number (may_end (at rows p)) =
      ap number may in let left : ix'.ending + number ends ≡ ix.ending = e.ending in omega (arith, same, left);
})

-- nothing is kept of who neither waits nor is due
unlisted : (rows : List Stand) (ix : Index) (p : ℕ) → IsIndexed rows ix → member_of ix.spread (at rows p) ≡ None →
    set ix.waits.members p None ≡ ix.waits.members
unlisted rows ix p h none = kept ix.waits.members (member-is rows ix p h ∙ none)
  where
    kept : (ms : List (Option Member)) → member_at ms p ≡ None → set ms p None ≡ ms
    kept ms e = ap (λ v. set ms p v) (sym e) ∙ set-get_or ms p None

undue : (rows : List Stand) (ix : Index) (p : ℕ) → IsIndexed rows ix → due_of (at rows p) ≡ None → set ix.dues p None ≡ ix.dues
undue rows ix p h none = kept ix.dues (moment-is rows ix p h ∙ none)
  where
    kept : (ms : List (Option ℕ)) → moment_at ms p ≡ None → set ms p None ≡ ms
    kept ms e = ap (λ v. set ms p v) (sym e) ∙ set-get_or ms p None

undelayed : (rows : List Stand) (ix : Index) (p : ℕ) → IsIndexed rows ix → delay_of (at rows p) ≡ None → set ix.ranks p None ≡ ix.ranks
undelayed rows ix p h none = kept ix.ranks (delay-is rows ix p h ∙ none)
  where
    kept : (ds : List (Option Delay)) → delay_at ds p ≡ None → set ds p None ≡ ds
    kept ds e = ap (λ v. set ds p v) (sym e) ∙ set-get_or ds p None

abbrev with_counts : Index → List Bool → ℕ → ℕ → Index
with_counts ix ready unfinished created = record ix { ready = ready; unfinished = unfinished; created = created }

-- who is counted as unfinished is one of them
pub some-unfinished : (rows : List Stand) (ix : Index) (p : ℕ) → p < length rows → at rows p ≡ Is_ready → IsIndexed rows ix → 0 < ix.unfinished
some-unfinished rows ix p lt ready h =
    let one : number (is_unfinished (at rows p)) ≤ count_of is_unfinished rows = count-one is_unfinished rows p lt in
    let is_one : number (is_unfinished (at rows p)) ≡ 1 = ap (λ s. number (is_unfinished s)) ready in
    let e : ix.unfinished ≡ count_of is_unfinished rows = h.unfinished in omega (arith, one, is_one, e)

-- a process that acted has finished
pub finished-index : (rows new : List Stand) (p n : ℕ) (ix : Index) (ready : List Bool) → p < length rows → at rows p ≡ Is_ready → new ≡ set rows p Is_done
    → IsIndexed rows ix → ready ≡ set ix.ready p false → n ≡ ix.unfinished - 1 → IsIndexed new (with_counts ix ready n ix.created)
finished-index rows new p n ix ready lt was is h made count = changed-index rows new p Is_done ix (with_counts ix ready n ix.created) lt is h (record {
  bits = subst (λ v. IsReadySet (set rows p Is_done) v) (sym made) (ready-set rows ix.ready p Is_done false lt refl h.bits);
  spread = refl;
  members = sym (unlisted rows ix p h (ap (member_of ix.spread) was));
  lists = refl;
  dues = sym (undue rows ix p h (ap due_of was));
  ranks = sym (undelayed rows ix p h (ap delay_of was));
  unfinished =
      let one : number (is_unfinished (at rows p)) ≡ 1 = ap (λ s. number (is_unfinished s)) was in
      let some : 0 < ix.unfinished = some-unfinished rows ix p lt was h in
      omega (arith, one, some, count);
  created = ap (λ s. ix.created + number (is_created s)) was;
  ending = ap (λ s. ix.ending + number (may_end s)) was;
})

over-unready : (s : Stand) → is_unfinished s ≡ false → false ≡ is_ready s
over-unready Is_idle h = refl
over-unready Is_done h = refl
over-unready Is_created h = cc
over-unready Is_ready h = cc
over-unready (Waits why ticket arms) h = cc

over-begun : (s : Stand) → is_unfinished s ≡ false → is_created s ≡ false
over-begun Is_idle h = refl
over-begun Is_done h = refl
over-begun Is_created h = cc
over-begun Is_ready h = cc
over-begun (Waits why ticket arms) h = cc

over-undue : (s : Stand) → is_unfinished s ≡ false → due_of s ≡ None
over-undue Is_idle h = refl
over-undue Is_done h = refl
over-undue Is_created h = cc
over-undue Is_ready h = cc
over-undue (Waits why ticket arms) h = cc

over-undelayed : (s : Stand) → is_unfinished s ≡ false → delay_of s ≡ None
over-undelayed Is_idle h = refl
over-undelayed Is_done h = refl
over-undelayed Is_created h = cc
over-undelayed Is_ready h = cc
over-undelayed (Waits why ticket arms) h = cc

over-free : (spread : Spread) (s : Stand) → is_unfinished s ≡ false → member_of spread s ≡ None
over-free spread Is_idle h = refl
over-free spread Is_done h = refl
over-free spread Is_created h = cc
over-free spread Is_ready h = cc
over-free spread (Waits why ticket arms) h = cc

over-stays : (s : Stand) → is_unfinished s ≡ false → may_end s ≡ false
over-stays Is_idle h = refl
over-stays Is_done h = refl
over-stays Is_created h = cc
over-stays Is_ready h = cc
over-stays (Waits why ticket arms) h = cc

-- a process is activated
pub created-index : (rows new : List Stand) (p n m : ℕ) (ix : Index) → p < length rows → is_unfinished (at rows p) ≡ false → new ≡ set rows p Is_created
    → IsIndexed rows ix → n ≡ ix.unfinished + 1 → m ≡ ix.created + 1 → IsIndexed new (with_counts ix ix.ready n m)
created-index rows new p n m ix lt was is h count more = changed-index rows new p Is_created ix (with_counts ix ix.ready n m) lt is h (record {
  bits = ready-kept rows ix.ready p Is_created (over-unready (at rows p) was) h.bits;
  spread = refl;
  members = sym (unlisted rows ix p h (over-free ix.spread (at rows p) was));
  lists = refl;
  dues = sym (undue rows ix p h (over-undue (at rows p) was));
  ranks = sym (undelayed rows ix p h (over-undelayed (at rows p) was));
  unfinished = let none : number (is_unfinished (at rows p)) ≡ 0 = ap number was in omega (arith, none, count);
  created = let none : number (is_created (at rows p)) ≡ 0 = ap number (over-begun (at rows p) was) in omega (arith, none, more);
  ending = let none : number (may_end (at rows p)) ≡ 0 = ap number (over-stays (at rows p) was) in omega (arith, none);
})

-- main is ready, and nobody else
pub started-set : (n : ℕ) (ready ready' : List Bool) → 0 < n → n < length ready → ((k : ℕ) → get_or ready k false ≡ false) → ready' ≡ set ready 0 true
    → IsReadySet (Is_ready ∷ replicate (n - 1) Is_idle) ready'
started-set n ready ready' some room none made = subst (λ v. IsReadySet (Is_ready ∷ replicate (n - 1) Is_idle) v) (sym made) is
  where
    idle : (k : ℕ) → is_ready (at (replicate (n - 1) Is_idle) k) ≡ false
    idle k = elim (cases_lt k (n - 1)) [
      | inl lt ↦ ap is_ready (get_or-replicate (n - 1) k Is_idle Is_idle lt)
      | inr le ↦ ap is_ready (get_or_past (replicate (n - 1) Is_idle) k Is_idle (subst (λ v. v ≤ k) (sym (length-replicate (n - 1) Is_idle)) le))
    ]

    each : (k : ℕ) → get_or (set ready 0 true) k false ≡ is_ready (at (Is_ready ∷ replicate (n - 1) Is_idle) k)
    each zero = get_or-set_same ready 0 true false (omega (arith, room))
    each (suc k) = get_or-set_other ready 0 (suc k) true false (λ e. absurd (omega (arith, e))) ∙ none (suc k) ∙ sym (idle k)

    is : IsReadySet (Is_ready ∷ replicate (n - 1) Is_idle) (set ready 0 true)
    is = record {
      room = let long : length (replicate (n - 1) Is_idle) ≡ n - 1 = length-replicate (n - 1) Is_idle in rw length-set (omega (arith, long, room, some));
      each = each;
    }

idle-members : (spread : Spread) (n : ℕ) → replicate n None ≡ map (member_of spread) (replicate n Is_idle)
idle-members spread zero = refl
idle-members spread (suc n) = ap (λ v. None ∷ v) (idle-members spread n)

idle-dues : (n : ℕ) → replicate n None ≡ map due_of (replicate n Is_idle)
idle-dues zero = refl
idle-dues (suc n) = ap (λ v. None ∷ v) (idle-dues n)

idle-ranks : (n : ℕ) → replicate n None ≡ map delay_of (replicate n Is_idle)
idle-ranks zero = refl
idle-ranks (suc n) = ap (λ v. None ∷ v) (idle-ranks n)

-- the index of a table that is made
pub first-index : (n : ℕ) (ix : Index) → 0 < n → n ≤ 1024 → IsSpread ix.spread → IsReadySet (Is_ready ∷ replicate (n - 1) Is_idle) ix.ready →
    ix.waits.members ≡ replicate n None → ix.waits.lists ≡ list_count ix.spread
    → ix.dues ≡ replicate n None → ix.ranks ≡ replicate n None → ix.unfinished ≡ 1 → ix.created ≡ 0 → ix.ending ≡ 0 →
    IsIndexed (Is_ready ∷ replicate (n - 1) Is_idle) ix
first-index n ix some few spread bits members lists dues ranks unfinished created ending =
    let e : n ≡ suc (n - 1) = omega (arith, some) in
    let long : length (replicate (n - 1) Is_idle) ≡ n - 1 = length-replicate (n - 1) Is_idle in
    record {
      some = omega arith;
      few = omega (arith, long, e, few);
      spread = spread;
      bits = bits;
      waits = members ∙ ap (λ k. replicate k None) e ∙ ap (λ v. None ∷ v) (idle-members ix.spread (n - 1));
      lists = lists;
      dues = dues ∙ ap (λ k. replicate k None) e ∙ ap (λ v. None ∷ v) (idle-dues (n - 1));
      ranks = ranks ∙ ap (λ k. replicate k None) e ∙ ap (λ v. None ∷ v) (idle-ranks (n - 1));
      unfinished = unfinished ∙ ap (λ k. suc k) (sym (count-idle is_unfinished refl (n - 1)));
      created = created ∙ sym (count-idle is_created refl (n - 1));
      ending = ending ∙ sym (count-idle may_end refl (n - 1));
    }

started-member : (spread : Spread) (s : Stand) → member_of spread (started s) ≡ member_of spread s
started-member spread Is_idle = refl
started-member spread Is_created = refl
started-member spread Is_ready = refl
started-member spread (Waits why ticket arms) = refl
started-member spread Is_done = refl

started-due : (s : Stand) → due_of (started s) ≡ due_of s
started-due Is_idle = refl
started-due Is_created = refl
started-due Is_ready = refl
started-due (Waits why ticket arms) = refl
started-due Is_done = refl

started-delay : (s : Stand) → delay_of (started s) ≡ delay_of s
started-delay Is_idle = refl
started-delay Is_created = refl
started-delay Is_ready = refl
started-delay (Waits why ticket arms) = refl
started-delay Is_done = refl

started-unfinished : (s : Stand) → is_unfinished (started s) ≡ is_unfinished s
started-unfinished Is_idle = refl
started-unfinished Is_created = refl
started-unfinished Is_ready = refl
started-unfinished (Waits why ticket arms) = refl
started-unfinished Is_done = refl

started-end : (s : Stand) → may_end (started s) ≡ may_end s
started-end Is_idle = refl
started-end Is_created = refl
started-end Is_ready = refl
started-end (Waits why ticket arms) = refl
started-end Is_done = refl

map-same : {A : Type 0} (f : Stand → A) → ((s : Stand) → f (started s) ≡ f s) → (rows : List Stand) → map f (map started rows) ≡ map f rows
map-same f same [] = refl
map-same f same (s ∷ rest) = ap (λ v. v ∷ map f (map started rest)) (same s) ∙ ap (λ v. f s ∷ v) (map-same f same rest)

abbrev with_ready : Index → List Bool → Index
with_ready ix ready = record ix { ready = ready; created = 0 }

-- whoever was created is ready
pub all-started-index : (rows new : List Stand) (ix : Index) (ready : List Bool) → new ≡ map started rows → IsReadySet new ready →
    IsIndexed rows ix → IsIndexed new (with_ready ix ready)
all-started-index rows new ix ready is bits h = record {
  some = subst (λ v. 0 < length v) (sym is) (rw length-map h.some);
  few = subst (λ v. length v ≤ 1024) (sym is) (rw length-map h.few);
  spread = h.spread;
  bits = bits;
  waits = h.waits ∙ sym (map-same (member_of ix.spread) (started-member ix.spread) rows) ∙ ap (map (member_of ix.spread)) (sym is);
  lists = h.lists;
  dues = h.dues ∙ sym (map-same due_of started-due rows) ∙ ap (map due_of) (sym is);
  ranks = h.ranks ∙ sym (map-same delay_of started-delay rows) ∙ ap (map delay_of) (sym is);
  unfinished = h.unfinished ∙ sym (count-map is_unfinished started started-unfinished rows) ∙ ap (count_of is_unfinished) (sym is);
  created = sym (none-created rows) ∙ ap (count_of is_created) (sym is);
  ending = h.ending ∙ sym (count-map may_end started started-end rows) ∙ ap (count_of may_end) (sym is);
}

-- there is room for one more that is unfinished
pub room-unfinished : (rows : List Stand) (ix : Index) → IsIndexed rows ix → ix.unfinished ≤ 1024
room-unfinished rows ix h =
    let le : count_of is_unfinished rows ≤ length rows = count-most is_unfinished rows in
    let e : ix.unfinished ≡ count_of is_unfinished rows = h.unfinished in
    let few : length rows ≤ 1024 = h.few in
    omega (arith, le, e, few)

-- there is room for one more that is created
pub room-created : (rows : List Stand) (ix : Index) → IsIndexed rows ix → ix.created ≤ 1024
room-created rows ix h =
    let le : count_of is_created rows ≤ length rows = count-most is_created rows in
    let e : ix.created ≡ count_of is_created rows = h.created in
    let few : length rows ≤ 1024 = h.few in
    omega (arith, le, e, few)

-- main is one of the processes
pub main-unfinished : (rows : List Stand) (ix : Index) (b : Bool) → IsIndexed rows ix → b ≡ is_unfinished (at rows 0) → number b ≤ ix.unfinished
main-unfinished rows ix b h is =
    let one : number (is_unfinished (at rows 0)) ≤ count_of is_unfinished rows = count-one is_unfinished rows 0 h.some in
    let same : number b ≡ number (is_unfinished (at rows 0)) = ap number is in
    let e : ix.unfinished ≡ count_of is_unfinished rows = h.unfinished in
    omega (arith, one, same, e)

pub main-ending : (rows : List Stand) (ix : Index) (b : Bool) → IsIndexed rows ix → b ≡ may_end (at rows 0) → number b ≤ ix.ending
main-ending rows ix b h is =
    let one : number (may_end (at rows 0)) ≤ count_of may_end rows = count-one may_end rows 0 h.some in
    let same : number b ≡ number (may_end (at rows 0)) = ap number is in
    let e : ix.ending ≡ count_of may_end rows = h.ending in
    omega (arith, one, same, e)
