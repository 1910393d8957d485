-- Turn after turn: what is held, and what the sink was handed.
use Rattle.std.proofs.Common.{◌≡◌, ℕ, Bool, not, List, [], ◌∷◌, ◌++◌, take, drop, Option, Some, refl, sym, ap, ◌∙◌, subst, append_assoc, append-nil}
use Rattle.std.proofs.Common.{take-append-drop}
use Rattle.std.specs.Io.KnownBytes.{Appends}
use Rattle.std.proofs.KnownBytes.{Appends-nil, Appends-trans}
use Rattle.pfc_io.specs.Writes.{AppendsFront}
use Rattle.pfc_io.proofs.Written.{AppendsFront-whole, AppendsFront-append, AppendsFront-after}
use Rattle.pfc_state.specs.declared.endings.Ending.{Ending}
use Rattle.pfc_state.specs.declared.endings.Ending.TheVariants.{Finished, Fault, Deadlock, Limit, Script, SinkFailed, Memory}
use Rattle.pfc_sched.specs.Picks.{Picking}
use Rattle.pfc_values.specs.Inputs.{ends_lines}
use Rattle.pfc_values.specs.Outputs.{is_open_line}
use Rattle.pfc_semantics.specs.Programs.{Program}
use Rattle.pfc_semantics.specs.Configurations.{Config}
use Rattle.pfc_semantics.specs.Events.{Event}
use Rattle.pfc_semantics.specs.Runs.{Run, run_from}
use Rattle.pfc_activities.specs.declared.source.Source.{Source}
use Rattle.pfc_activities.specs.declared.state.State.{State}
use Rattle.pfc_activities.specs.Relation.{Stands, Reports}
use Rattle.pfc_walker.specs.Courses.{GoesOn, IsPassed, last, on_the_way, Completes, IsBrokenOff, IsCourse, Continues, Gathers, IsSent, IsHandedOver, whole}
use Rattle.pfc_walker.specs.Courses.{dropped, failed, EndsLine, KnowsLine}
use Rattle.pfc_walker.specs.Lines.{open_behind}
use Rattle.pfc_walker.specs.Telling.{AreTold}
use Rattle.pfc_walker.specs.declared.telling.Told.{Told}
use Rattle.pfc_walker.specs.declared.telling.Told.TheVariants.{Output, Trace}
use Rattle.pfc_walker.proofs.Joining.{goes_here, goes_twice, told_as, told_end, told_still, told_twice}

-- a front of bytes and of the first of others is one of all of them
front_of_more : (before after : Option (List ℕ)) (held bytes : List ℕ) (n : ℕ) → AppendsFront before after (held ++ take n bytes) →
    AppendsFront before after (held ++ bytes)
front_of_more before after held bytes n front =
    subst (λ (x : List ℕ). AppendsFront before after x) (append_assoc held (take n bytes) (drop n bytes) ∙
    ap (λ (x : List ℕ). held ++ x) (take-append-drop n bytes))
    (AppendsFront-append before after (held ++ take n bytes) (drop n bytes) front)

-- what was sent, what was held and what came behind it, of which some is held again
regroup : (sent held bytes more piece rest : List ℕ) → more ≡ held ++ bytes → more ≡ piece ++ rest → (sent ++ held) ++ bytes ≡ (sent ++ piece) ++ rest
regroup sent held bytes more piece rest written both =
    append_assoc sent held bytes ∙ ap (λ (x : List ℕ). sent ++ x) (sym written ∙ both) ∙ sym (append_assoc sent piece rest)

-- a configuration of a run is one of another that goes on as it
passed_on :
    (g : Program) (limit : ℕ) (es fs : List Event) (f h : Run) (d : Config) → GoesOn es f h → IsPassed g limit f d fs → IsPassed g limit h d (es ++ fs)
passed_on g limit es _ f h _ same last =
    subst (λ (x : Config). IsPassed g limit h x (es ++ f.events)) (sym same.config)
    (subst (λ (events : List Event). IsPassed g limit h h.config events) same.events last)
passed_on g limit es _ f h _ same (on_the_way left picking d fs more) =
    on_the_way left picking d (es ++ fs) (goes_twice es fs (run_from g limit left picking d) f h more same)

-- an output that has grown by some bytes
pub open_grown : (out bytes : List ℕ) → is_open_line (out ++ bytes) ≡ open_behind (is_open_line out) bytes
open_grown out [] = ap is_open_line (append-nil out)
open_grown out (b ∷ bytes) = ap not (ends_behind out b bytes)
  where
    ends_behind : (old : List ℕ) (b : ℕ) (bytes : List ℕ) → ends_lines (old ++ b ∷ bytes) ≡ ends_lines (b ∷ bytes)
    ends_behind [] b bytes = refl
    ends_behind (x ∷ []) b bytes = refl
    ends_behind (x ∷ y ∷ old) b bytes = ends_behind (y ∷ old) b bytes

knows_more :
    (told : Told) (line line' : Bool) (out sent more : List ℕ)
    → KnowsLine told line (out ++ sent) → line' ≡ open_behind line more → KnowsLine told line' (out ++ (sent ++ more))
knows_more Output line line' out sent more knows is =
    is ∙ ap (λ (b : Bool). open_behind b more) knows ∙ sym (open_grown (out ++ sent) more) ∙ ap is_open_line (append_assoc out sent more)
knows_more Trace line line' out sent more knows is = tt

-- at the end of what is told
knows_end :
    (told : Told) (line : Bool) (c d : Config) (events : List Event) (bytes : List ℕ)
    → AreTold told c d events bytes → KnowsLine told line (c.output ++ bytes) → KnowsLine told line d.output
knows_end Output line c d events bytes tells knows = knows ∙ ap is_open_line (sym tells)
knows_end Trace line c d events bytes tells knows = tt

knows_first : (told : Told) (line : Bool) (out : List ℕ) → line ≡ is_open_line out → KnowsLine told line (out ++ [])
knows_first Output line out known = known ∙ ap is_open_line (sym (append-nil out))
knows_first Trace line out known = tt

module _ (told : Told) (source : Source) (g : Program) (limit : ℕ) (f : Run) (a : Config) where
  -- before the first turn
  pub nothing_held :
      (left : ℕ) (picking : Picking) (s : State) (held : List ℕ) (line : Bool) (start : Option (List ℕ))
      → Stands source s a → f ≡ run_from g limit left picking a → held ≡ [] → line ≡ is_open_line a.output
      → Gathers told source g limit f left picking a s held line start start
  nothing_held left picking s held line start stands is empty known = record {
    config = a;
    stands = stands;
    events = [];
    same = subst (λ (x : Run). GoesOn [] (run_from g limit left picking a) x) (sym is) (goes_here (run_from g limit left picking a));
    sent = [];
    tells = subst (λ (x : List ℕ). AreTold told a a [] x) (sym empty) (told_still told a a refl);
    written = Appends-nil start;
    inside = knows_first told line a.output known;
  }

  module _
      (left : ℕ) (picking : Picking) (s : State) (held : List ℕ) (line : Bool) (start now : Option (List ℕ))
      (p : Gathers told source g limit f left picking a s held line start now)
    where
      -- an action, and perhaps a piece to the sink
      pub gathers_more :
          (picking' : Picking) (new : State) (more rest : List ℕ) (line' : Bool) (after : Option (List ℕ))
          → (q : Continues told source g limit left picking picking' p.config new (Some held) (Some more)) → IsSent more rest line line' now after
          → Gathers told source g limit f q.rest picking' a new rest line' start after
      gathers_more picking' new more rest line' after q piece = record {
        config = q.config;
        stands = q.stands;
        events = p.events ++ q.events;
        same = goes_twice p.events q.events (run_from g limit q.rest picking' q.config) (run_from g limit left picking p.config) f q.same p.same;
        sent = p.sent ++ piece.sent;
        tells =
            told_as told a q.config (p.events ++ q.events) ((p.sent ++ held) ++ q.bytes) ((p.sent ++ piece.sent) ++ rest)
            (regroup p.sent held q.bytes more piece.sent rest q.written piece.both)
            (told_twice told a p.config q.config p.events q.events (p.sent ++ held) q.bytes p.tells q.tells);
        written = Appends-trans start now after p.sent piece.sent p.written piece.written;
        inside = knows_more told line line' a.output p.sent piece.sent p.inside piece.inside;
      }

      -- a sink that took no more of a piece
      pub breaks_off :
          (picking' : Picking) (new : State) (more : List ℕ) (after : Option (List ℕ))
          → Continues told source g limit left picking picking' p.config new (Some held) (Some more) → AppendsFront now after more
          → IsBrokenOff told g limit f a start after
      breaks_off picking' new more after q front = record {
        config = q.config;
        events = p.events ++ q.events;
        passed =
            on_the_way q.rest picking' q.config (p.events ++ q.events)
            (goes_twice p.events q.events (run_from g limit q.rest picking' q.config) (run_from g limit left picking p.config) f q.same p.same);
        bytes = p.sent ++ more;
        tells =
            told_as told a q.config (p.events ++ q.events) ((p.sent ++ held) ++ q.bytes) (p.sent ++ more)
            (append_assoc p.sent held q.bytes ∙ ap (λ (x : List ℕ). p.sent ++ x) (sym q.written))
            (told_twice told a p.config q.config p.events q.events (p.sent ++ held) q.bytes p.tells q.tells);
        front = AppendsFront-after start now after p.sent more p.written front;
      }

      abbrev rest_of_run : Run
      rest_of_run = run_from g limit left picking p.config

      module _ (new : State) (more : List ℕ) (after : Option (List ℕ)) where
        -- what is told of the whole run
        told_whole :
            (bytes : List ℕ) → AreTold told p.config rest_of_run.config rest_of_run.events bytes → Appends (Some held) (Some more) bytes
            → AreTold told a f.config f.events (p.sent ++ more)
        told_whole bytes tells written =
            told_as told a f.config f.events ((p.sent ++ held) ++ bytes) (p.sent ++ more)
            (append_assoc p.sent held bytes ∙ ap (λ (x : List ℕ). p.sent ++ x) (sym written))
            (told_end told a p.config p.events rest_of_run f (p.sent ++ held) bytes p.same p.tells tells)

        -- all was handed over
        completes_here :
            (ending : Ending) → Completes told rest_of_run p.config new ending (Some held) (Some more) → Appends now after more
            → Completes told f a new ending start after
        completes_here ending q written = record {
          ends = q.ends ∙ p.same.ending;
          reports = subst (λ (x : Config). Reports new x) p.same.config q.reports;
          bytes = p.sent ++ more;
          tells = told_whole q.bytes q.tells q.written;
          written = Appends-trans start now after p.sent more p.written written;
        }

        cut_here :
            (ending : Ending) → Completes told rest_of_run p.config new ending (Some held) (Some more) → AppendsFront now after more
            → IsBrokenOff told g limit f a start after
        cut_here ending q front = record {
          config = f.config;
          events = f.events;
          passed = last;
          bytes = p.sent ++ more;
          tells = told_whole q.bytes q.tells q.written;
          front = AppendsFront-after start now after p.sent more p.written front;
        }

        -- the run was broken off already
        broken_here :
            IsBrokenOff told g limit rest_of_run p.config (Some held) (Some more) → AppendsFront now after more
            → IsBrokenOff told g limit f a start after
        broken_here q front = record {
          config = q.config;
          events = p.events ++ q.events;
          passed = passed_on g limit p.events q.events rest_of_run f q.config p.same q.passed;
          bytes = p.sent ++ (held ++ q.bytes);
          tells =
              told_as told a q.config (p.events ++ q.events) ((p.sent ++ held) ++ q.bytes) (p.sent ++ (held ++ q.bytes))
              (append_assoc p.sent held q.bytes)
              (told_twice told a p.config q.config p.events q.events (p.sent ++ held) q.bytes p.tells q.tells);
          front =
              AppendsFront-after start now after p.sent (held ++ q.bytes) p.written
              (front_of_more now after held q.bytes q.front.count (subst (λ (x : List ℕ). AppendsFront now after x) q.front.front front));
        }

        cut_course :
            (ending : Ending) → IsCourse told g limit rest_of_run p.config new ending (Some held) (Some more) → AppendsFront now after more
            → IsBrokenOff told g limit f a start after
        cut_course Finished q front = cut_here Finished q front
        cut_course (Fault process line fault) q front = cut_here (Fault process line fault) q front
        cut_course Deadlock q front = cut_here Deadlock q front
        cut_course (Limit n) q front = cut_here (Limit n) q front
        cut_course (Script item why) q front = cut_here (Script item why) q front
        cut_course SinkFailed q front = broken_here q front
        cut_course Memory q front = broken_here q front

        whole_course :
            (ending : Ending) → IsCourse told g limit rest_of_run p.config new ending (Some held) (Some more) → Appends now after more
            → AppendsFront now after more → IsCourse told g limit f a new ending start after
        whole_course Finished q written front = completes_here Finished q written
        whole_course (Fault process line fault) q written front = completes_here (Fault process line fault) q written
        whole_course Deadlock q written front = completes_here Deadlock q written
        whole_course (Limit n) q written front = completes_here (Limit n) q written
        whole_course (Script item why) q written front = completes_here (Script item why) q written
        whole_course SinkFailed q written front = broken_here q front
        whole_course Memory q written front = broken_here q front

        -- the last turn, and what the sink was handed behind it
        pub ends_with :
            (ending result : Ending) → IsCourse told g limit rest_of_run p.config new ending (Some held) (Some more)
            → IsHandedOver more now after ending result → IsCourse told g limit f a new result start after
        ends_with ending _ q (whole written) = whole_course ending q written (AppendsFront-whole now after more written)
        ends_with ending _ q (dropped memory front) =
            subst (λ (e : Ending). IsCourse told g limit f a new e start after) (sym memory) (cut_course ending q front)
        ends_with ending _ q (failed front) = cut_course ending q front

        -- ### Lines

        line_whole :
            (ending : Ending) (line' : Bool) → Completes told rest_of_run p.config new ending (Some held) (Some more)
            → line' ≡ open_behind line more → KnowsLine told line' f.config.output
        line_whole ending line' q is =
            knows_end told line' a f.config f.events (p.sent ++ more) (told_whole q.bytes q.tells q.written)
            (knows_more told line line' a.output p.sent more p.inside is)

        line_course :
            (ending : Ending) (line' : Bool) → IsCourse told g limit rest_of_run p.config new ending (Some held) (Some more)
            → line' ≡ open_behind line more → EndsLine told f ending line'
        line_course Finished line' q is = line_whole Finished line' q is
        line_course (Fault process l fault) line' q is = line_whole (Fault process l fault) line' q is
        line_course Deadlock line' q is = line_whole Deadlock line' q is
        line_course (Limit n) line' q is = line_whole (Limit n) line' q is
        line_course (Script item why) line' q is = line_whole (Script item why) line' q is
        line_course SinkFailed line' q is = tt
        line_course Memory line' q is = tt

        pub line_with :
            (ending result : Ending) (line' : Bool) → IsCourse told g limit rest_of_run p.config new ending (Some held) (Some more)
            → line' ≡ open_behind line more → IsHandedOver more now after ending result → EndsLine told f result line'
        line_with ending _ line' q is (whole written) = line_course ending line' q is
        line_with ending _ line' q is (dropped memory front) = line_course ending line' q is
        line_with ending _ line' q is (failed front) = tt
