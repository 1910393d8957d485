-- What is seen from inside an activation whose static link leads to the l-th of another's.
use Rattle.std.proofs.Common.{◌≡◌, ℕ, ◌+◌, ◌-◌, ◌<◌, ◌≤◌, Bool, true, false, if◌then◌else◌, List, [], ◌∷◌, ◌++◌, length, drop, slice_get, Option, Some, None}
use Rattle.std.proofs.Common.{refl, sym, ap, ap₂, ◌∙◌, arith, append-nil, ◌⊎◌, inl, inr}
use Rattle.std.specs.Prelude.{◌==◌}
use Rattle.std.proofs.lemmas.List.{drop-append-le}
use Rattle.std.proofs.lemmas.Option.{slice_get_within}
use Rattle.pfc_types.specs.declared.heads.SubHead.{SubHead}
use Rattle.pfc_semantics.specs.Layouts.{Layout, sub_with}
use Rattle.pfc_semantics.specs.Displays.{Frame, Display, frame_of, outward}
use Rattle.pfc_semantics.specs.Programs.{Block, Program, block_at}
use Rattle.pfc_translation.specs.Sites.{is_mains, is_accept, layout_with, before_accept, laid_before}
use Rattle.pfc_standing_code.specs.Typed.{variables_by, variables_of}
use Rattle.pfc_views.specs.Views.{block_site}
use Rattle.pfc_call_laws.specs.Around.{scopes_around, IsNested, ShowsAround, keeps_also}
use Rattle.pfc_call_laws.proofs.Lists.{slice_front, slice_back, slice_at, none_left}
use Rattle.pfc_call_laws.proofs.Places.{or_right}
use Rattle.pfc_call_laws.proofs.Displays.{linked_not_mains, scopes_in, no_frame, no_frame_outward, frame_dropped, outward_there, outward_none, scopes_dropped}

less_or_not : (n m : ℕ) → (n < m) ⊎ (m ≤ n)
less_or_not n m = grind arith

some_same : {A : Type 0} (x y : A) → Some x ≡ Some y → x ≡ y
some_same x y h = cc

-- ## Sites of blocks

-- blocks in which no accept has the scope have its variables in one layout
module _ (g : Program) (b callee : Block) (i : ℕ) (one : is_accept b i ≡ false) (two : is_accept callee i ≡ false) where
  abbrev layout_else : Layout
  layout_else = if is_mains g.state.blocks i then g.main.layout else (block_at g i).layout

  pub same_layout : layout_with (block_site g callee) i ≡ layout_with (block_site g b) i
  same_layout = ap (λ (c : Bool). if c then callee.layout else layout_else) two ∙ sym (ap (λ (c : Bool). if c then b.layout else layout_else) one)

  pub same_before : laid_before (block_site g callee) i ≡ laid_before (block_site g b) i
  same_before = ap (λ (c : Bool). if c then before_accept (block_site g callee) i else 0) two
      ∙ sym (ap (λ (c : Bool). if c then before_accept (block_site g b) i else 0) one)

  by_head : (h : Option SubHead) → variables_by (block_site g callee) i h ≡ variables_by (block_site g b) i h
  by_head (Some head) = ap length same_layout
  by_head None = refl

  pub same_variables : variables_of (block_site g callee) i ≡ variables_of (block_site g b) i
  same_variables = ap₂ (λ x y. if is_mains g.state.blocks i then x else y) (ap length same_layout) (by_head (sub_with g.state.blocks.subs i))

-- ## More is kept

pub kept_before : (keeps : ℕ → Bool) (a x : ℕ) → keeps x ≡ true → keeps_also keeps a x ≡ true
kept_before keeps a x h = or_right (x == a) (keeps x) h

-- ## A display from inside

module _ (g : Program) (b : Block) (display : Display) (shows : ShowsAround g b display) where
  abbrev around : List ℕ
  around = scopes_around g b

  -- the first scopes of the display are those around
  pub shown : (j : ℕ) → j < length around → slice_get (scopes_in display) j ≡ slice_get around j
  shown j h = ap (λ l. slice_get l j) shows.scopes ∙ slice_front around shows.accepts j h

  -- a scope of main's has no frame
  pub mains_not_shown : (i : ℕ) → is_mains g.state.blocks i ≡ true → (j : ℕ) → slice_get (scopes_in display) j ≡ Some i → ⊥
  mains_not_shown i mains j there = elim (less_or_not j (length around)) [ inl h ↦ inner h | inr h ↦ behind h ]
    where
      inner : j < length around → ⊥
      inner h = (let not_mains : is_mains g.state.blocks i ≡ false = linked_not_mains g.state.blocks b.env.view j i
          (sym (shown j h) ∙ there) in let both : true ≡ false = sym mains ∙ not_mains in cc)

      behind : length around ≤ j → ⊥
      behind h =
          let at : slice_get shows.accepts (j - length around) ≡ Some i = sym (slice_back around shows.accepts j h)
          ∙ ap (λ l. slice_get l j) (sym shows.scopes) ∙ there in
          let both : true ≡ false = sym mains ∙ shows.apart (j - length around) i at in
          cc

module _ (g : Program) (b callee : Block) (l : ℕ) (nested : IsNested g b callee l) (display : Display) (shows : ShowsAround g b display) where
  -- the scopes before the l-th are none of those from there on
  others_before : (m i : ℕ) → slice_get (scopes_around g b) (l + m) ≡ Some i → (j : ℕ) → j < l → slice_get (scopes_in display) j ≡ Some i → ⊥
  others_before m i there j h at =
      let same : j ≡ l + m = nested.once i j (l + m) (sym (shown g b display shows j (short j h)) ∙ at) there in
      omega (arith, same, h)
    where
      short : (j : ℕ) → j < l → j < length (scopes_around g b)
      short j h = (let w : l ≤ length (scopes_around g b) = nested.within in omega (arith, h, w))

  outward_inner : (i : ℕ) → slice_get (scopes_around g b) l ≡ Some i → outward display callee.outer ≡ drop l display
  outward_inner i there =
      ap (outward display) (nested.inner i there)
      ∙ outward_there i display l (shown g b display shows l (slice_get_within (scopes_around g b) l i there) ∙ there)
      (others_before 0 i (ap (λ n. slice_get (scopes_around g b) n) (omega arith) ∙ there))

  outward_main : l ≡ length (scopes_around g b) → outward display callee.outer ≡ []
  outward_main h = outward_none callee.outer display (mains_not_shown g b display shows callee.outer (nested.outermost h))

  -- the frames of scopes around stay, and main's have none
  pub frame_around : (m i : ℕ) → slice_get (scopes_around g b) (l + m) ≡ Some i → frame_of (outward display callee.outer) i ≡ frame_of display i
  frame_around m i there =
      let few : l + m < length (scopes_around g b) = slice_get_within (scopes_around g b) (l + m) i there in
      let first = slice_at (scopes_around g b) l (omega (arith, few)) in
      ap (λ (d : Display). frame_of d i) (outward_inner first.0 first.1) ∙ frame_dropped i display l (others_before m i there)

  pub frame_main : (i : ℕ) → is_mains g.state.blocks i ≡ true → frame_of (outward display callee.outer) i ≡ frame_of display i
  frame_main i mains = no_frame_outward i callee.outer display (mains_not_shown g b display shows i mains)
      ∙ sym (no_frame i display (mains_not_shown g b display shows i mains))

  pub shows_inside : (f : Frame) → f.scope ≡ callee.scope → ShowsAround g callee (f ∷ outward display callee.outer)
  shows_inside f own = elim (less_or_not l (length (scopes_around g b))) [ inl h ↦ inner h | inr h ↦ outer h ]
    where
      inner : l < length (scopes_around g b) → ShowsAround g callee (f ∷ outward display callee.outer)
      inner h =
          let first = slice_at (scopes_around g b) l h in
          record {
            accepts = shows.accepts;
            scopes = ap₂ (λ x xs. x ∷ xs) own (ap scopes_in (outward_inner first.0 first.1) ∙ scopes_dropped l display ∙ ap (λ xs. drop l xs) shows.scopes
                ∙ drop-append-le l (scopes_around g b) shows.accepts nested.within)
                ∙ ap (λ xs. xs ++ shows.accepts) (sym nested.around);
            apart = shows.apart;
          }

      outer : length (scopes_around g b) ≤ l → ShowsAround g callee (f ∷ outward display callee.outer)
      outer h =
          let all : l ≡ length (scopes_around g b) = (let w : l ≤ length (scopes_around g b) = nested.within in omega (arith, h, w)) in
          record {
            accepts = [];
            scopes = ap₂ (λ x xs. x ∷ xs) own (ap scopes_in (outward_main all) ∙ sym (none_left l (scopes_around g b) h)) ∙ sym nested.around
                ∙ sym (append-nil (scopes_around g callee));
            apart = λ k i there. absurd (no_accepts k i there);
          }
        where
          no_accepts : (k i : ℕ) → slice_get [] k ≡ Some i → ⊥
          no_accepts k i there = cc
