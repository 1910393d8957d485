-- Actions without output and without a choice.
use Rattle.std.proofs.Common.{◌≡◌, ◌≢◌, ℕ, false, List, [], ◌++◌, Result, Ok, Err, refl, sym, ap, ◌∙◌, subst}
use Rattle.std.specs.Prelude.{IfOk, OnErr}
use Rattle.std.proofs.lemmas.List.{append-nil}
use Rattle.pfc_base.specs.declared.faults.RunFault.{RunFault}
use Rattle.pfc_program.specs.declared.tables.Tables.{Tables}
use Rattle.pfc_pending.specs.declared.actions.Deed.{Deed}
use Rattle.pfc_pending.specs.declared.actions.Deed.TheVariants as deed
use Rattle.pfc_pending.specs.declared.select.Selecting.{Selecting}
use Rattle.pfc_sched.specs.Picks.{Picking}
use Rattle.pfc_semantics.specs.Programs.{Program}
use Rattle.pfc_semantics.specs.Remainders.{Context, Remainder, Action}
use Rattle.pfc_semantics.specs.Statements.{from_piece}
use Rattle.pfc_semantics.specs.Configurations.{Config}
use Rattle.pfc_semantics.specs.Selects.{choices}
use Rattle.pfc_semantics.specs.Runs.{choice_among, behind_choice}
use Rattle.pfc_activities.specs.declared.activities.Doing.{Doing}
use Rattle.pfc_activities.specs.declared.changes.Done.{Done}
use Rattle.pfc_activities.specs.declared.source.Source.{Source}
use Rattle.pfc_activities.specs.declared.state.State.{State}
use Rattle.pfc_activities.specs.Views.{deed_of}
use Rattle.pfc_activities.specs.Relation.{IsAt, Performs, StaysAt}
use Rattle.pfc_performing.specs.Performing.{is_choosing, IsTried, IsDone}

-- ## What is given back

-- nothing was done
pub stays_same : (old new : State) (p : ℕ) → new ≡ old → StaysAt old new p
stays_same old new p e = λ source c a n is_at.
    (a, subst (λ (s : State). IsAt source s c p a n) (sym e) is_at, record { names = refl; line = refl; pending = refl })

pub ruleset stays = stays_same

-- ## Choices

-- there is nothing to choose among in an output piece
piece_plain : (g : Program) (c : Config) (p : ℕ) (x : Context) (k : Remainder) (piece : Result (List ℕ) RunFault) → choices g c p (from_piece x k piece) ≡ 0
piece_plain g c p x k (Ok bytes) = refl
piece_plain g c p x k (Err f) = refl

-- nor in any action but the deciding one of a select
pub no_choice : (t : Tables) (d : Doing) (g : Program) (c : Config) (p : ℕ) (x : Deed) → is_choosing x ≡ false → choices g c p (deed_of t d x) ≡ 0
no_choice t d g c p (deed.Prints bytes width) e = piece_plain g c p _ _ _
no_choice t d g c p (deed.Decides select) e = absurd cc
no_choice t d g c p x e = refl

pub not_choosing : (x : Deed) → ((select : Selecting) → x ≢ deed.Decides select) → is_choosing x ≡ false
not_choosing (deed.Decides select) h = absurd (h select refl)
not_choosing x h = refl

-- so the picker is not asked
pub plainly_done :
    (source : Source) (old new : State) (p : ℕ) (x : Deed) (picking picking' : Picking) (out out' bytes : List ℕ) (d : Done)
    → is_choosing x ≡ false → Performs source old new p x bytes d → picking' ≡ picking → out' ≡ out ++ bytes →
    IsDone source old new p x picking picking' out out' d
plainly_done source old new p x picking picking' out out' bytes d plain performs same written = λ g c a program is_at.
    let n : Action = deed_of source.program.tables a.doing x in
    let none : choices g c p n ≡ 0 = no_choice source.program.tables a.doing g c p x plain in
    record {
      bytes = bytes;
      written = written;
      ends = performs g c (choice_among picking (choices g c p n)) a program is_at;
      picked = same ∙ sym (ap (behind_choice picking) none);
    }

-- ## What came of it

-- an action that wants no memory
pub done_so :
    (source : Source) (old new : State) (p : ℕ) (x : Deed) (d : Done) → Performs source old new p x [] d → IsTried source old new p x (Ok d)
done_so source old new p x d performs = record { ok = performs; err = tt; given = tt }

pub given_so :
    (source : Source) (old new : State) (p : ℕ) (x given : Deed) → StaysAt old new p → given ≡ x → IsTried source old new p x (Err given)
given_so source old new p x given stays same = record { ok = tt; err = stays; given = same }

-- of an action that is this one
pub tried_at :
    (source : Source) (old new : State) (p : ℕ) (x y : Deed) (r : Result Done Deed) → x ≡ y → IsTried source old new p y r → IsTried source old new p x r
tried_at source old new p x y r e tried = subst (λ (z : Deed). IsTried source old new p z r) (sym e) tried

pub tried_done :
    (source : Source) (old new : State) (p : ℕ) (x : Deed) (r : Result Done Deed) (picking : Picking) (out : List ℕ)
    → IsTried source old new p x r → is_choosing x ≡ false → IfOk r (λ d. IsDone source old new p x picking picking out out d)
tried_done source old new p x (Ok d) picking out tried plain =
    plainly_done source old new p x picking picking out out [] d plain tried.ok refl (sym (append-nil out))
tried_done source old new p x (Err given) picking out tried plain = tt

pub in_any : (r : Result Done Deed) (P : Type 0) → P → OnErr r P
in_any (Ok d) P h = tt
in_any (Err given) P h = h
