-- Where a level goes on in the code of its block, with room for what that makes.
use Rattle.std.proofs.Common.{◌≡◌, ℕ, zero, suc, ◌+◌, ◌-◌, ◌<◌, ◌≤◌, max, ℤ, true, false, List, [], ◌∷◌, ◌++◌, length, length-append, take, drop, slice_get}
use Rattle.std.proofs.Common.{get_or, Option, Some, None, IfSome, refl, sym, ap, ◌∙◌, subst, arith, ◌⊎◌, inl, inr}
use Rattle.std.proofs.lemmas.Option.{slice_get_within, slice_get_cases, get_or_from_slice_get}
use Rattle.std.proofs.Math.ListN.{drop_of_length-le}
use Rattle.std.proofs.Math.Seq.{drop-cons}
use Rattle.pfc_code.specs.declared.instructions.Instr.{Instr}
use Rattle.pfc_code.specs.declared.instructions.Instr.TheVariants.{ARMS, ARMR, ARMA, ARMT}
use Rattle.pfc_code.specs.declared.images.Block.{Block as CodeBlock}
use Rattle.pfc_translation.specs.Images.{image_of}
use Rattle.pfc_image_laws.specs.Operands.{address_ahead, is_end}
use Rattle.pfc_machines.specs.declared.alternatives.Alternative.{Alternative}
use Rattle.pfc_image_laws.proofs.Layouts.{image_laid}
use Rattle.pfc_machines.specs.declared.rooms.Room.{Room}
use Rattle.pfc_machines.specs.Communications.{Communicating, made}
use Rattle.pfc_machines.specs.Rooms.{room_for, together, room_of_all, stretch, end_of}
use Rattle.pfc_representation.specs.Levels.{Facts, program_in, LivingLevel, block_of, IsBlockAt}
use Rattle.pfc_representation.specs.Rooms.{process_count, end_in, room_behind, HasRoomFor, IsInBlock, LeadsWithin}
use Rattle.pfc_representation.specs.Callers.{IsWithin}
use Rattle.pfc_arrivals.proofs.Ahead.{IsAhead}
use Rattle.pfc_arrivals.proofs.Blocks.{StaysIn, StayIn, blocks_stay}

-- ## Room

abbrev IsNoMore : Room → Room → Type 0
IsNoMore a b = (a.alternatives ≤ b.alternatives) × (a.words ≤ b.words) × (a.meetings ≤ b.meetings)

no_more_behind : (n : ℕ) (i : Instr) (is : List Instr) → IsNoMore (room_of_all n is) (room_of_all n (i ∷ is))
no_more_behind n i is = (
  grind arith,
  grind arith,
  most (room_for n i).meetings (room_of_all n is).meetings,
)
  where
    most : (a b : ℕ) → b ≤ max a b
    most a b = grind arith

less_room : (e : Communicating) (a b : Room) → IsNoMore a b → HasRoomFor e b → HasRoomFor e a
less_room e a b less room = (grind (arith, less.0, room.0), grind (arith, less.1, room.1), grind (arith, less.2, room.2))

-- an instruction, and the stretch behind it
stretch_first : (at end : ℕ) (code : List Instr) (i : Instr) → at < end → slice_get code at ≡ Some i → stretch at end code ≡ i ∷ stretch (at + 1) end code
stretch_first at end code i before there =
    let within : at < length code = slice_get_within code at i there in
    let first : drop at code ≡ i ∷ drop (suc at) code = drop-cons code at i within
    ∙ ap (λ x. x ∷ drop (suc at) code) (get_or_from_slice_get code at i i there) in
    let count : end - at ≡ suc (end - (at + 1)) = grind (arith, before) in
    ap (λ n. take n (drop at code)) count ∙ ap (λ xs. take (suc (end - (at + 1))) xs) first
    ∙ ap (λ n. i ∷ take (end - (at + 1)) (drop n code)) (let h : suc at ≡ at + 1 = grind arith in h)

first_of_all : (n : ℕ) (i : Instr) (is : List Instr) → IsNoMore (room_for n i) (room_of_all n (i ∷ is))
first_of_all n i is = (
  grind arith,
  grind arith,
  most (room_for n i).meetings (room_of_all n is).meetings,
)
  where
    most : (a b : ℕ) → a ≤ max a b
    most a b = grind arith

same_room : (a : Room) → IsNoMore a a
same_room a = (grind arith, grind arith, grind arith)

no_more_than : (a b c : Room) → IsNoMore a b → IsNoMore b c → IsNoMore a c
no_more_than a b c h k = (grind (arith, h.0, k.0), grind (arith, h.1, k.1), grind (arith, h.2, k.2))

behind_code : (code : List Instr) (at : ℕ) → slice_get code at ≡ None → length code ≤ at
behind_code code at there = by (slice_get_cases code at).1
  where
    by : ((i : Instr) × (at < length code) × (slice_get code at ≡ Some i) × (get_or code at i ≡ i)) ⊎ ((length code ≤ at) × (slice_get code at ≡ None))
        → length code ≤ at
    by (inl (i, within, is, same)) = absurd (let both : Some i ≡ None = sym is ∙ there in cc)
    by (inr past) = past.0

take_none : (n : ℕ) → take {A = Instr} n [] ≡ []
take_none zero = refl
take_none (suc n) = refl

nothing_left : (at end : ℕ) (code : List Instr) → length code ≤ at → stretch at end code ≡ []
nothing_left at end code past = ap (λ (xs : List Instr). take (end - at) xs) (drop_of_length-le code past) ∙ take_none (end - at)

-- one instruction on, also behind the code
one_further : (n at end : ℕ) (code : List Instr) → at + 1 < end → IsNoMore (room_of_all n (stretch (at + 1) end code)) (room_of_all n (stretch at end code))
one_further n at end code before = by (slice_get code at) refl
  where
    by : (o : Option Instr) → slice_get code at ≡ o → IsNoMore (room_of_all n (stretch (at + 1) end code)) (room_of_all n (stretch at end code))
    by (Some i) there =
        subst (λ (xs : List Instr). IsNoMore (room_of_all n (stretch (at + 1) end code)) (room_of_all n xs))
        (sym (stretch_first at end code i (grind (arith, before)) there))
        (no_more_behind n i (stretch (at + 1) end code))
    by None there =
        subst (λ (xs : List Instr). IsNoMore (room_of_all n xs) (room_of_all n (stretch at end code)))
        (sym (nothing_left (at + 1) end code (grind (arith, size))))
        (grind arith, grind arith, grind arith)
      where
        size : length code ≤ at
        size = behind_code code at there

-- ## A block

module _ (facts : Facts) where
  -- the code of each block of the image stays in it
  pub code_stays : (k : ℕ) (c : CodeBlock) → slice_get (image_of facts.tree).blocks k ≡ Some c → StayIn (image_of facts.tree).code c.entry (end_in facts k)
  code_stays k c there =
      let whole : List Instr = (image_of facts.tree).code in
      let stay = blocks_stay whole (image_of facts.tree) k c (image_laid facts.tree)
      (λ j. ap (λ n. slice_get whole n) (let h : 0 + j ≡ j = grind arith in h), let h : length whole ≡ 0 + length whole = grind arith in h) there in
      subst (λ n. StayIn whole c.entry (end_of whole (drop n (image_of facts.tree).blocks))) (let h : suc k ≡ k + 1 = grind arith in h) stay

  -- what stands further on makes no more
  further : (end at j : ℕ) → at + j < end → IsNoMore (room_of_all (process_count facts) (stretch (at + j) end (image_of facts.tree).code))
      (room_of_all (process_count facts) (stretch at end (image_of facts.tree).code))
  further end at zero before = subst (λ n. IsNoMore (room_of_all (process_count facts) (stretch n end (image_of facts.tree).code))
      (room_of_all (process_count facts) (stretch at end (image_of facts.tree).code))) (let h : at ≡ at + 0 = grind arith in h) (same_room _)
  further end at (suc j) before =
      let code : List Instr = (image_of facts.tree).code in
      let later = further end (at + 1) j (grind (arith, before)) in
      let next : IsNoMore (room_of_all (process_count facts) (stretch (at + 1) end code)) (room_of_all (process_count facts) (stretch at end code)) =
      one_further (process_count facts) at end code (grind (arith, before)) in
      subst (λ n. IsNoMore (room_of_all (process_count facts) (stretch n end code)) (room_of_all (process_count facts) (stretch at end code)))
      (let h : at + 1 + j ≡ at + suc j = grind arith in h)
      (no_more_than _ _ _ later next)

  -- where an instruction leads ahead the level goes on
  pub within_ahead : (level : LivingLevel) (at to : ℕ) (latest : Communicating) (i : Instr) → IsWithin facts level at latest
      → slice_get (image_of facts.tree).code at ≡ Some i → at < to → IsAhead at to i
      → IsWithin facts level to latest
  within_ahead level at to latest i (k, c, is, goes) there up (place, no_end) = (
    k,
    c,
    is,
    record {
      entry = grind (arith, goes.entry, up);
      before = before;
      rest = less_room latest (room_behind facts k to) (room_behind facts k at)
          (subst (λ n. IsNoMore (room_behind facts k n) (room_behind facts k at)) far
          (further (end_in facts k) at (to - at) (subst (λ n. n < end_in facts k) (sym far) before))) goes.rest;
    },
  )
    where
      far : at + (to - at) ≡ to
      far = grind (arith, up)

      behind : (is_end i ≡ true) ⊎ StaysIn c.entry (end_in facts k) at i → (to ≡ at + 1) ⊎ (address_ahead i ≡ Some to) → to < end_in facts k
      behind (inl end) where_to = (let both : true ≡ false = sym end ∙ no_end in absurd (cc))
      behind (inr stays) (inl next) = subst (λ n. n < end_in facts k) (sym next) stays.0
      behind (inr stays) (inr named) = (subst (λ (o : Option ℕ). IfSome o (λ (a : ℕ). (at < a) × (a < end_in facts k))) named stays.1).1

      before : to < end_in facts k
      before = behind (code_stays k c is.0 at i goes.entry goes.before there) place

  -- an address ahead of one in the code of a block, and before its end, is in that code
  in_block : (k at to : ℕ) (c : CodeBlock) → slice_get (image_of facts.tree).blocks k ≡ Some c → c.entry ≤ at → (at < to) × (to < end_in facts k)
      → IsInBlock facts k to
  in_block k at to c there above ahead b is =
      let same : b ≡ c = (let both : Some b ≡ Some c = sym is ∙ there in cc) in
      (subst (λ (x : CodeBlock). x.entry ≤ to) (sym same) (grind (arith, above, ahead.0)), ahead.1)

  leads_by : (k at : ℕ) (c : CodeBlock) (i : Instr) → slice_get (image_of facts.tree).blocks k ≡ Some c → c.entry ≤ at
      → IfSome (address_ahead i) (λ (a : ℕ). (at < a) × (a < end_in facts k)) → LeadsWithin facts k i
  leads_by k at c (ARMS z to) there above ahead = in_block k at to c there above ahead
  leads_by k at c (ARMR z to) there above ahead = in_block k at to c there above ahead
  leads_by k at c (ARMA e d z to) there above ahead = in_block k at to c there above ahead
  leads_by k at c (ARMT to) there above ahead = in_block k at to c there above ahead
  leads_by k at c i there above ahead = tt

  -- an alternative leads to an address in the code of its block
  pub leads_in : (level : LivingLevel) (at : ℕ) (latest : Communicating) (i : Instr) → IsWithin facts level at latest
      → slice_get (image_of facts.tree).code at ≡ Some i → is_end i ≡ false
      → (k : ℕ) (c : CodeBlock) → IsBlockAt (program_in facts) (image_of facts.tree).blocks k (block_of level) c → LeadsWithin facts k i
  leads_in level at latest i (j, b, it, goes) there no_end k c is =
      subst (λ n. LeadsWithin facts n i) (it.1 ∙ sym is.1) (by (code_stays j b it.0 at i goes.entry goes.before there))
    where
      by : (is_end i ≡ true) ⊎ StaysIn b.entry (end_in facts j) at i → LeadsWithin facts j i
      by (inl end) = (let both : true ≡ false = sym end ∙ no_end in absurd (cc))
      by (inr stays) = leads_by j at b i it.0 goes.entry stays.1

  -- what one instruction makes has room
  pub room_first : (level : LivingLevel) (at : ℕ) (latest : Communicating) (i : Instr) → IsWithin facts level at latest
      → slice_get (image_of facts.tree).code at ≡ Some i
      → HasRoomFor latest (room_for (process_count facts) i)
  room_first level at latest i (k, c, is, goes) there =
      let code : List Instr = (image_of facts.tree).code in
      let rest : List Instr = stretch (at + 1) (end_in facts k) code in
      let all : HasRoomFor latest (room_of_all (process_count facts) (i ∷ rest)) =
      subst (λ (xs : List Instr). HasRoomFor latest (room_of_all (process_count facts) xs)) (stretch_first at (end_in facts k) code i goes.before there)
      goes.rest in
      less_room latest (room_for (process_count facts) i) (room_of_all (process_count facts) (i ∷ rest)) (first_of_all (process_count facts) i rest) all

  -- behind an instruction that makes an alternative, with these words of its message, there is room for the others
  pub within_made : (level : LivingLevel) (at : ℕ) (latest : Communicating) (i : Instr) (a : Alternative) (words : List ℤ) → IsWithin facts level at latest
      → slice_get (image_of facts.tree).code at ≡ Some i → is_end i ≡ false → (room_for (process_count facts) i).alternatives ≡ 1
      → (room_for (process_count facts) i).words ≡ length words
      → IsWithin facts level (at + 1) (made latest a words)
  within_made level at latest i a words (k, c, is, goes) there no_end one many = (
    k,
    c,
    is,
    record {
      entry = grind (arith, goes.entry);
      before = before (code_stays k c is.0 at i goes.entry goes.before there);
      rest = made_room (length latest.alternatives) (length latest.words) words latest (room_for (process_count facts) i) (room_behind facts k (at + 1)) refl
          refl one many all;
    },
  )
    where
      all : HasRoomFor latest (together (room_for (process_count facts) i) (room_behind facts k (at + 1)))
      all = subst (λ (xs : List Instr). HasRoomFor latest (room_of_all (process_count facts) xs))
          (stretch_first at (end_in facts k) (image_of facts.tree).code i goes.before there) goes.rest

      before : (is_end i ≡ true) ⊎ StaysIn c.entry (end_in facts k) at i → at + 1 < end_in facts k
      before (inl end) = (let both : true ≡ false = sym end ∙ no_end in absurd (cc))
      before (inr stays) = stays.0

      made_room : (n k : ℕ) (ws : List ℤ) (e : Communicating) (first rest : Room) → n ≡ length e.alternatives → k ≡ length e.words → first.alternatives ≡ 1
          → first.words ≡ length ws
          → HasRoomFor e (together first rest) → HasRoomFor (made e a ws) rest
      made_room n k ws e first rest _ _ one many h = (
        grind (arith, h.0, one),
        (let size : length (ws ++ e.words) ≡ length ws + length e.words = length-append ws e.words in grind (arith, h.1, many, size)),
        grind (arith, h.2),
      )
