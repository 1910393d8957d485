-- Parts that are pending, and processes, one behind the others.
use Rattle.std.proofs.Common.{◌≡◌, ℕ, ◌+◌, ◌<◌, ◌≤◌, List, [], ◌∷◌, ◌++◌, length, map, take, drop, get_or, refl, sym, ap, ◌∙◌, arith}
use Rattle.std.specs.Prelude.{fold}
use Rattle.std.proofs.lemmas.List.{map-append, take_all, take_more}
use Rattle.pfc_tree.specs.declared.tree.Stmt.{Stmt}
use Rattle.pfc_tree.specs.views.Stmts.{stmts_view}
use Rattle.pfc_program.specs.declared.tables.Tables.{Tables}
use Rattle.pfc_semantics.specs.Values.{Value}
use Rattle.pfc_semantics.specs.Programs.{Program}
use Rattle.pfc_semantics.specs.Remainders.{Remainder, perform}
use Rattle.pfc_semantics.specs.Statements.{behind}
use Rattle.pfc_semantics.specs.Configurations as configurations
use Rattle.pfc_semantics.specs.Configurations.{main_activity, idle_activity}
use Rattle.pfc_pending.specs.Waiting.{Waiting, over, waiting}
use Rattle.pfc_pending.specs.declared.pending.Pending.{Pending}
use Rattle.pfc_activities.specs.declared.activities.Activity.{Activity}
use Rattle.pfc_activities.specs.declared.source.Source.{Source}
use Rattle.pfc_activities.specs.Shown.{Shown, shown, activity_shown, activities_shown}
use Rattle.pfc_beginning.specs.Beginnings.{program_with}

-- ## Parts

over_more : (t : Tables) (w : Waiting) (ps : List Pending) (p : Pending) → fold (over t) w (ps ++ p ∷ []) ≡ over t (fold (over t) w ps) p
over_more t w [] p = refl
over_more t w (q ∷ ps) p = over_more t (over t w q) ps p

pub waiting_more : (t : Tables) (ps : List Pending) (p : Pending) → waiting t (ps ++ p ∷ []) ≡ over t (waiting t ps) p
waiting_more t ps p = over_more t _ ps p

pub ruleset parts = waiting_more

pub performs : (n : ℕ) (ss : List Stmt) (k : Remainder) → 0 < length ss → perform n (stmts_view (drop 0 ss)) k ≡ behind n (stmts_view ss) k
performs n [] k h = absurd (let no : 0 < 0 = h in omega (arith, no))
performs n (s ∷ ss) k h = refl

-- ## Processes

pub shown_more : (t : Tables) (xs : List Activity) (a : Activity) → activities_shown t (xs ++ a ∷ []) ≡ activities_shown t xs ++ activity_shown t a ∷ []
shown_more t xs a = map-append (activity_shown t) xs (a ∷ [])

pub ruleset shown_ones = shown_more

pub first_shown :
    (t : Tables) (xs ys : List Activity) (a : Activity) (x : Shown)
    → activities_shown t ys ≡ activities_shown t xs ++ activity_shown t a ∷ [] → xs ≡ [] → x ≡ activity_shown t a → x ∷ [] ≡ activities_shown t ys
first_shown t xs ys a x more none is =
    ap (λ (y : Shown). y ∷ []) is ∙ sym (more ∙ ap (λ (l : List Activity). activities_shown t l ++ activity_shown t a ∷ []) none)

-- the processes of a program up to this one
abbrev pub made_so : Source → List Value → List ℕ → List Shown
made_so source variables ns =
    map shown (main_activity (program_with source variables) ∷ map (idle_activity (program_with source variables)) ns)

made_more : (source : Source) (variables : List Value) (ns : List ℕ) (n : ℕ) → made_so source variables (ns ++ n ∷ []) ≡ made_so source variables ns ++ shown
    (idle_activity (program_with source variables) n) ∷ []
made_more source variables ns n =
    let g : Program = program_with source variables in
    ap (λ (l : List configurations.Activity). map shown (main_activity g ∷ l)) (map-append (idle_activity g) ns (n ∷ []))
    ∙ map-append shown (main_activity g ∷ map (idle_activity g) ns) (idle_activity g n ∷ [])

pub next_shown :
    (source : Source) (variables : List Value) (i : ℕ) (xs ys : List Activity) (n : ℕ) (a : Activity)
    → i < length source.objects.processes.items
    → made_so source variables (take i source.objects.processes.items) ≡ activities_shown source.program.tables xs
    → activities_shown source.program.tables ys ≡ activities_shown source.program.tables xs ++ activity_shown source.program.tables a ∷ []
    → n ≡ get_or source.objects.processes.items i 0
    → shown (idle_activity (program_with source variables) n) ≡ activity_shown source.program.tables a
    → made_so source variables (take (i + 1) source.objects.processes.items) ≡ activities_shown source.program.tables ys
next_shown source variables i xs ys n a low so more is seen =
    let ns : List ℕ = source.objects.processes.items in
    let t : Tables = source.program.tables in
    ap (made_so source variables) (take_more ns i 0 low ∙ ap (λ (m : ℕ). take i ns ++ m ∷ []) (sym is))
    ∙ made_more source variables (take i ns) n
    ∙ ap (λ (l : List Shown). l ++ shown (idle_activity (program_with source variables) n) ∷ []) so
    ∙ ap (λ (x : Shown). activities_shown t xs ++ x ∷ []) seen
    ∙ sym more

pub all_shown :
    (source : Source) (variables : List Value) (i : ℕ) (xs : List Activity) → length source.objects.processes.items ≤ i
    → made_so source variables (take i source.objects.processes.items) ≡ activities_shown source.program.tables xs
    → made_so source variables source.objects.processes.items ≡ activities_shown source.program.tables xs
all_shown source variables i xs all so = ap (made_so source variables) (sym (take_all i source.objects.processes.items all)) ∙ so
