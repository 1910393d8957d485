-- Causes of waits, and the alternatives that a select offers.
use Rattle.std.specs.Prelude.{ℕ, Bool, true, false, ◌&&◌, ◌==◌, Option, None, Some, List, position}
use Rattle.std.specs.List.{list_any}
use Rattle.std.specs.Ordering.{int_eq}
use Rattle.pfc_state.specs.declared.waits.Why.{Why}
use Rattle.pfc_state.specs.declared.waits.Why.TheVariants.{Coend, Semaphore, Send, Receive, Call, Meeting, Accept, Select, Enter, Condition, Resumer, Entrant}
use Rattle.pfc_state.specs.declared.waits.Why.TheVariants.{Barred, Sleep}
use Rattle.pfc_state.specs.declared.waits.Arm.{Arm}
use Rattle.pfc_state.specs.declared.waits.Arm.TheVariants.{Send as To, Receive as From, Accept as Entry}

-- the same moment, or none in both
abbrev pub same_moment : Option ℕ → Option ℕ → Bool
same_moment None None = true
same_moment (Some t) (Some u) = t == u
same_moment _ _ = false

abbrev pub same_truth : Bool → Bool → Bool
same_truth true true = true
same_truth false false = true
same_truth _ _ = false

-- the same cause, with the same numbers
abbrev pub same_why : Why → Why → Bool
same_why Coend Coend = true
same_why (Semaphore s) (Semaphore t) = s == t
same_why (Send c) (Send d) = c == d
same_why (Receive c) (Receive d) = c == d
same_why (Call p e) (Call q f) = (p == q) && (e == f)
same_why (Meeting p) (Meeting q) = p == q
same_why (Accept e) (Accept f) = e == f
same_why (Select t a) (Select u b) = same_moment t u && same_truth a b
same_why (Enter m) (Enter n) = m == n
same_why (Condition c r) (Condition d s) = (c == d) && int_eq r s
same_why (Resumer m) (Resumer n) = m == n
same_why (Entrant g) (Entrant h) = g == h
same_why (Barred g p) (Barred h q) = (g == h) && (p == q)
same_why (Sleep t) (Sleep u) = t == u
same_why _ _ = false

-- the same alternative
abbrev pub same_arm : Arm → Arm → Bool
same_arm (To c) (To d) = c == d
same_arm (From c) (From d) = c == d
same_arm (Entry e) (Entry f) = e == f
same_arm _ _ = false

-- whether the alternative is among these
abbrev pub has_arm : Arm → List Arm → Bool
has_arm arm arms = list_any (λ a. same_arm a arm) arms

-- the first place, from 0, at which the alternative is among these
abbrev pub place_of_arm : Arm → List Arm → Option ℕ
place_of_arm arm arms = position (λ a. same_arm a arm) arms

-- a wait in a select
abbrev pub is_select : Why → Bool
is_select (Select due terminate) = true
is_select _ = false

-- the moment at which a wait ends by itself: that of a `sleep`, or that of a select's open `timeout`
abbrev pub due_of_wait : Why → Option ℕ
due_of_wait (Sleep moment) = Some moment
due_of_wait (Select due terminate) = due
due_of_wait _ = None
