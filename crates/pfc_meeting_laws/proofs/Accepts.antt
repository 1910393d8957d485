-- What a process sees, with the accepts that are open.
use Rattle.std.proofs.Common.{◌≡◌, ◌≢◌, ℕ, ◌+◌, ◌<◌, ◌^◌, ℤ, pos, true, List, [], ◌∷◌, length, get_or, Some, refl, sym, ap, ◌∙◌, subst, arith}
use Rattle.std.specs.Prelude.{◌==◌}
use Rattle.std.specs.List.{list_any}
use Rattle.pfc_types.specs.Scopes.{scope_at}
use Rattle.pfc_semantics.specs.Store.{Store, values_in}
use Rattle.pfc_semantics.specs.Layouts.{laid_names}
use Rattle.pfc_semantics.specs.Displays.{Display, frame_of, outward, accept_frames}
use Rattle.pfc_semantics.specs.Programs.{Block}
use Rattle.pfc_translation.specs.Sites.{is_accept}
use Rattle.pfc_stacks.specs.Refs.{word_of}
use Rattle.pfc_stacks.specs.Stacks.{link_place}
use Rattle.pfc_stacks.specs.Activations.{main_link}
use Rattle.pfc_cells.specs.Shapes.{AreCounted}
use Rattle.pfc_cells.specs.Homes.{Homes}
use Rattle.pfc_cells.specs.Memory.{AreCells, Entry, Entries}
use Rattle.pfc_standing_code.specs.Settings.{Setting}
use Rattle.pfc_standing_code.specs.Words.{is_known}
use Rattle.pfc_views.specs.Views.{IsLiving, own_place, first_number, AreLinked, Sees}
use Rattle.pfc_stack_laws.specs.Standing.{IsAtHand}
use Rattle.pfc_call_laws.specs.Blocks.{AreLent, AreLentTo}
use Rattle.pfc_call_laws.specs.Around.{HasScopes, IsNested, ShowsAround, keeps_also}
use Rattle.pfc_call_laws.specs.Inside.{view_inside}
use Rattle.pfc_call_laws.specs.Calls.{first_home}
use Rattle.pfc_call_laws.proofs.Calling.{is_addressed}
use Rattle.pfc_call_laws.proofs.Frames.{frame_of_other}
use Rattle.pfc_call_laws.proofs.Seeing.{sees_inside}
use Rattle.pfc_meeting_laws.specs.Meetings.{display_of}
use Rattle.pfc_meeting_laws.proofs.Frames.{frame_of_accept}

pub process_sees :
    (g : Setting) (homes : Homes) (entries : Entries) (store : Store) (main : IsAtHand g homes entries store g.program.main main_link) (p a : ℕ) (b : Block)
    (e : Entry) (accepts : List ℕ) (cells : List ℤ)
    → AreCounted g.program.state.forms → HasScopes g.program b → IsNested g.program g.program.main b 0 → ShowsAround g.program g.program.main main.display
    → main.display ≡ []
    → homes a ≡ Some (first_home p b.scope) → IsLiving e (entries p) → e.activation ≡ a → get_or e.own link_place (pos 0) ≡ main_link → p < 1024
    → AreCells g.program homes b.layout (values_in store a) cells → 8 + length cells < 2 ^ 32 → AreLent g.program main.keeps b (values_in store a)
    → ((i : ℕ) → list_any (λ j. j == i) accepts ≡ true → is_accept b i ≡ true) → AreLentTo g.program main.keeps b accepts (values_in store a)
    → Sees g.program homes entries store (keeps_also main.keeps a) (display_of g.program a b) b accepts (word_of (own_place (first_home p b.scope)))
    (a ∷ main.chain) (view_inside g.program.state.forms b.layout (values_in store a) cells (first_number (first_home p b.scope)) 0 g.view)
process_sees g homes entries store main p a b e accepts cells sound scopes nested shows none_shown at living number link few holds small lent opened lent_to =
    sees_inside g.program sound homes entries store main.keeps main.display g.program.main g.accepts main_link main.chain g.view main.sees b scopes 0
    nested shows a (first_home p b.scope) at refl p e living number
    (subst (λ v. AreLinked homes entries main.keeps v main.chain) (sym link) main.sees.links) cells holds lent
    (is_addressed p 0 (length cells) 1024 few (omega arith) (omega (arith, small)))
    (accept_frames g.program.state.blocks a b.accepts b.next own) alike accepts (λ i among. record
    { accept = opened i among; frame = frame_of_accept g.program a b i (opened i among) }) lent_to
  where
    own : ℕ
    own = length (laid_names (scope_at g.program.state.blocks.scopes b.scope))

    alike : (i : ℕ) → b.scope ≢ i → is_known g.program.state.blocks b [] i ≡ true
        → frame_of (accept_frames g.program.state.blocks a b.accepts b.next own) i ≡ frame_of (outward main.display b.outer) i
    alike i apart known = frame_of_other g.program.state.blocks a b own i (scopes.no_accept i known)
        ∙ sym (ap (λ (d : Display). frame_of (outward d b.outer) i) none_shown)
