-- Displays: the frames from one scope on, and the frames of accepts.
use Rattle.std.proofs.Common.{◌≡◌, ℕ, suc, ◌+◌, ◌<◌, ◌≤◌, true, false, List, [], ◌∷◌, ◌++◌, length, take, drop, get_or, refl, sym, ap, ◌∙◌, arith}
use Rattle.std.specs.Prelude.{◌==◌, if◌then◌else◌}
use Rattle.std.proofs.lemmas.List.{append_assoc, drop_more, take_more, length-append}
use Rattle.pfc_types.specs.Scopes.{Names, scope_at}
use Rattle.pfc_types.specs.Blocks.{Blocks}
use Rattle.pfc_types.specs.declared.scope.Meaning.{Meaning}
use Rattle.pfc_semantics.specs.Layouts.{is_laid, laid_names}
use Rattle.pfc_semantics.specs.Displays.{Frame, Display, main_frame, frame_of, outward, accept_frames}
use Rattle.pfc_store.specs.declared.displays.Frame.{Frame as HeldFrame}
use Rattle.pfc_store.specs.Frames.{frame_view, frames_view}
use Rattle.pfc_store.proofs.Living.{same_number}

abbrev pub no_frame : HeldFrame
no_frame = record { scope = 0; activation = 0; first = 0 }

-- the frame of the scope is found, or passed
pub outward_found : (frames : List HeldFrame) (i scope : ℕ) (d : HeldFrame) → i < length frames → (get_or frames i d).scope ≡ scope →
    outward (frames_view (drop i frames)) scope ≡ frames_view (drop i frames)
outward_found frames i scope d h e =
    let at = drop_more frames i d h in
    let f = get_or frames i d in
    let behind = frames_view (drop (i + 1) frames) in
    ap (λ l. outward (frames_view l) scope) at
    ∙ ap (λ b. if b then frame_view f ∷ behind else outward behind scope) (same_number f.scope scope e)
    ∙ ap frames_view (sym at)

pub outward_passed : (frames : List HeldFrame) (i scope : ℕ) (d : HeldFrame) → i < length frames → ((get_or frames i d).scope == scope) ≡ false →
    outward (frames_view (drop i frames)) scope ≡ outward (frames_view (drop (i + 1) frames)) scope
outward_passed frames i scope d h e =
    let behind = frames_view (drop (i + 1) frames) in
    ap (λ l. outward (frames_view l) scope) (drop_more frames i d h) ∙ ap (λ b. if b then frame_view (get_or frames i d) ∷ behind else outward behind scope) e

-- the first frame of those is the scope's, and where there is none it is main's
abbrev pub first_or_main : Display → ℕ → Frame
first_or_main [] i = main_frame i
first_or_main (f ∷ display) i = f

pub frame_by_outward : (display : Display) (i : ℕ) → frame_of display i ≡ first_or_main (outward display i) i
frame_by_outward [] i = refl
frame_by_outward (f ∷ display) i =
    elim (f.scope == i) as (λ b. (if b then f else frame_of display i) ≡ first_or_main (if b then f ∷ display else outward display i) i)
    [ true ↦ refl | false ↦ frame_by_outward display i ]

pub first_seen : (frames : List HeldFrame) (i : ℕ) (d : HeldFrame) → 1 ≤ length frames → frame_view (get_or frames 0 d) ≡ first_or_main (frames_view frames) i
first_seen [] i d h = absurd (omega arith)
first_seen (f ∷ frames) i d h = refl

-- ## Names that are laid out

pub laid_append : (xs ys : Names) → laid_names (xs ++ ys) ≡ laid_names xs ++ laid_names ys
laid_append [] ys = refl
laid_append (x ∷ xs) ys =
    elim (is_laid x.1) as (λ b. (if b then x.1 ∷ laid_names (xs ++ ys) else laid_names (xs ++ ys)) ≡ (if b then
    x.1 ∷ laid_names xs else laid_names xs) ++ laid_names ys)
    [ true ↦ ap (λ l. x.1 ∷ l) (laid_append xs ys) | false ↦ laid_append xs ys ]

pub laid_one : (x : List ℕ × Meaning) → length (laid_names (x ∷ [])) ≡ (if is_laid x.1 then 1 else 0)
laid_one x = elim (is_laid x.1) as (λ b. length (if b then x.1 ∷ [] else []) ≡ (if b then 1 else 0)) [ true ↦ refl | false ↦ refl ]

-- one name more
pub laid_more : (names : Names) (k : ℕ) (m : Meaning) → k < length names → ((d : List ℕ × Meaning) → m ≡ (get_or names k d).1) →
    length (laid_names (take (k + 1) names)) ≡ length (laid_names (take k names)) + (if is_laid m then 1 else 0)
laid_more names k m h read =
    let d : List ℕ × Meaning = ([], m) in
    let x = get_or names k d in
    ap (λ l. length (laid_names l)) (take_more names k d h)
    ∙ ap length (laid_append (take k names) (x ∷ []))
    ∙ length-append (laid_names (take k names)) (laid_names (x ∷ []))
    ∙ ap (λ n. length (laid_names (take k names)) + n) (laid_one x)
    ∙ ap (λ u. length (laid_names (take k names)) + (if is_laid u then 1 else 0)) (sym (read d))

-- ## The frames of accepts

-- one more is pushed
pub accept_next :
    (b : Blocks) (before : Display) (a n i first : ℕ)
    → (before ++ record { scope = i; activation = a; first = first } ∷ []) ++ accept_frames b a n (i + 1) (first + length (laid_names (scope_at b.scopes i))) ≡
    before ++ accept_frames b a (suc n) i first
accept_next b before a n i first = append_assoc before (record { scope = i; activation = a; first = first } ∷ [])
    (accept_frames b a n (i + 1) (first + length (laid_names (scope_at b.scopes i))))
