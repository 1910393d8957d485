-- What is told of actions, one behind the other.
use Rattle.std.proofs.Common.{◌≡◌, ℕ, List, [], ◌∷◌, ◌++◌, Ok, Err, decimal, refl, sym, ap, ◌∙◌, subst, append_assoc, append-nil}
use Rattle.pfc_traces.specs.Traces.{actors, trace_text}
use Rattle.pfc_semantics.specs.Programs.{Program}
use Rattle.pfc_semantics.specs.Remainders.{Action}
use Rattle.pfc_semantics.specs.Configurations.{Config, Effect}
use Rattle.pfc_semantics.specs.Events.{Event, event_of}
use Rattle.pfc_semantics.specs.Runs.{Run}
use Rattle.pfc_walker.specs.Telling.{AreTold}
use Rattle.pfc_walker.specs.Courses.{GoesOn}
use Rattle.pfc_walker.specs.declared.telling.Told.{Told}
use Rattle.pfc_walker.specs.declared.telling.Told.TheVariants.{Output, Trace}

pub traced_twice : (es fs : List Event) → trace_text (actors (es ++ fs)) ≡ trace_text (actors es) ++ trace_text (actors fs)
traced_twice [] fs = refl
traced_twice (e ∷ es) fs =
    ap (λ (bytes : List ℕ). decimal e.process ++ 10 ∷ bytes) (traced_twice es fs)
    ∙ sym (append_assoc (decimal e.process) (10 ∷ trace_text (actors es)) (trace_text (actors fs)))

pub told_twice :
    (told : Told) (a b c : Config) (es fs : List Event) (x y : List ℕ) → AreTold told a b es x → AreTold told b c fs y → AreTold told a c (es ++ fs) (x ++ y)
told_twice Output a b c es fs x y first second = second ∙ ap (λ (bytes : List ℕ). bytes ++ y) first ∙ append_assoc a.output x y
told_twice Trace a b c es fs x y first second =
    ap (λ (bytes : List ℕ). bytes ++ y) first ∙ ap (λ (bytes : List ℕ). trace_text (actors es) ++ bytes) second ∙ sym (traced_twice es fs)

-- of no action nothing is told, also where the configuration has settled
pub told_still : (told : Told) (a b : Config) → b.output ≡ a.output → AreTold told a b [] []
told_still Output a b same = same ∙ sym (append-nil a.output)
told_still Trace a b same = refl

pub told_as : (told : Told) (a b : Config) (es : List Event) (x y : List ℕ) → x ≡ y → AreTold told a b es x → AreTold told a b es y
told_as told a b es x y same is = subst (λ (bytes : List ℕ). AreTold told a b es bytes) same is

-- up to the end of a run
pub told_end :
    (told : Told) (a b : Config) (es : List Event) (f h : Run) (x y : List ℕ) → GoesOn es f h
    → AreTold told a b es x → AreTold told b f.config f.events y → AreTold told a h.config h.events (x ++ y)
told_end told a b es f h x y goes first second =
    subst (λ (c : Config). AreTold told a c h.events (x ++ y)) goes.config
    (subst (λ (events : List Event). AreTold told a f.config events (x ++ y)) (sym goes.events) (told_twice told a b f.config es f.events x y first second))

-- ## Runs that go on

pub goes_here : (f : Run) → GoesOn [] f f
goes_here f = record { ending = refl; config = refl; events = refl }

pub goes_twice : (es fs : List Event) (f h k : Run) → GoesOn fs f h → GoesOn es h k → GoesOn (es ++ fs) f k
goes_twice es fs f h k first second =
    record {
      ending = first.ending ∙ second.ending;
      config = first.config ∙ second.config;
      events = second.events ∙ ap (λ (events : List Event). es ++ events) first.events ∙ sym (append_assoc es fs f.events);
    }

-- ## Who acted

pub who_acted : (g : Program) (c : Config) (p choice : ℕ) (n : Action) (e : Effect) → (event_of g c p choice n e).process ≡ p
who_acted g c p choice n (Ok d) = refl
who_acted g c p choice n (Err f) = refl
