-- Where a level goes on in the code of its block, with room for what that makes.
use Rattle.std.proofs.Common.{◌≡◌, ℕ, zero, suc, ◌+◌, ◌-◌, ◌<◌, ◌≤◌, max, true, false, List, [], ◌∷◌, length, take, drop, slice_get, get_or, Option, Some, None}
use Rattle.std.proofs.Common.{IfSome, refl, sym, ap, ◌∙◌, subst, arith, ◌⊎◌, inl, inr}
use Rattle.std.proofs.lemmas.Option.{slice_get_within, slice_get-get_or, get_or_from_slice_get}
use Rattle.std.proofs.Math.Seq.{drop-cons}
use Rattle.pfc_code.specs.declared.instructions.Instr.{Instr}
use Rattle.pfc_code.specs.declared.instructions.Instr.TheVariants.{END}
use Rattle.pfc_code.specs.declared.images.Block.{Block as CodeBlock}
use Rattle.pfc_translation.specs.Images.{image_of}
use Rattle.pfc_image_laws.specs.Operands.{address_back, is_end}
use Rattle.pfc_image_laws.proofs.Layouts.{image_laid}
use Rattle.pfc_machines.specs.declared.rooms.Room.{Room}
use Rattle.pfc_machines.specs.Communications.{Communicating}
use Rattle.pfc_machines.specs.Rooms.{no_room, room_for, room_of_all, rooms_of, stretch, end_of}
use Rattle.pfc_representation.specs.Levels.{Facts, program_in, LivingLevel, block_of, IsBlockAt}
use Rattle.pfc_representation.specs.Rooms.{process_count, room_in, end_in, room_behind, HasRoomFor}
use Rattle.pfc_representation.specs.Callers.{IsWithin}
use Rattle.pfc_kept_own_actions.proofs.Blocks.{StaysIn, StayIn, blocks_stay}

-- ## Room

abbrev IsNoMore : Room → Room → Type 0
IsNoMore a b = (a.alternatives ≤ b.alternatives) × (a.words ≤ b.words) × (a.meetings ≤ b.meetings)

no_more_behind : (n : ℕ) (i : Instr) (is : List Instr) → IsNoMore (room_of_all n is) (room_of_all n (i ∷ is))
no_more_behind n i is = (
  grind arith,
  grind arith,
  most (room_for n i).meetings (room_of_all n is).meetings,
)
  where
    most : (a b : ℕ) → b ≤ max a b
    most a b = grind arith

less_room : (e : Communicating) (a b : Room) → IsNoMore a b → HasRoomFor e b → HasRoomFor e a
less_room e a b less room = (grind (arith, less.0, room.0), grind (arith, less.1, room.1), grind (arith, less.2, room.2))

-- an instruction, and the stretch behind it
pub stretch_first : (at end : ℕ) (code : List Instr) (i : Instr) → at < end → slice_get code at ≡ Some i → stretch at end code ≡ i ∷ stretch (at + 1) end code
stretch_first at end code i before there =
    let within : at < length code = slice_get_within code at i there in
    let first : drop at code ≡ i ∷ drop (suc at) code = drop-cons code at i within
    ∙ ap (λ x. x ∷ drop (suc at) code) (get_or_from_slice_get code at i i there) in
    let count : end - at ≡ suc (end - (at + 1)) = grind (arith, before) in
    ap (λ n. take n (drop at code)) count ∙ ap (λ xs. take (suc (end - (at + 1))) xs) first
    ∙ ap (λ n. i ∷ take (end - (at + 1)) (drop n code)) (let h : suc at ≡ at + 1 = grind arith in h)

-- ## A block

module _ (facts : Facts) where
  -- the code of each block of the image stays in it
  pub code_stays : (k : ℕ) (c : CodeBlock) → slice_get (image_of facts.tree).blocks k ≡ Some c → StayIn (image_of facts.tree).code c.entry (end_in facts k)
  code_stays k c there =
      let whole : List Instr = (image_of facts.tree).code in
      let stay = blocks_stay whole (image_of facts.tree) k c (image_laid facts.tree)
      (λ j. ap (λ n. slice_get whole n) (let h : 0 + j ≡ j = grind arith in h), let h : length whole ≡ 0 + length whole = grind arith in h) there in
      subst (λ n. StayIn whole c.entry (end_of whole (drop n (image_of facts.tree).blocks))) (let h : suc k ≡ k + 1 = grind arith in h) stay

  -- behind an instruction that is no end the level goes on at the next one
  pub within_next : (level : LivingLevel) (at : ℕ) (latest : Communicating) (i : Instr) → IsWithin facts level at latest
      → slice_get (image_of facts.tree).code at ≡ Some i → is_end i ≡ false
      → IsWithin facts level (at + 1) latest
  within_next level at latest i (k, c, is, goes) there no_end = (
    k,
    c,
    is,
    record {
      entry = grind (arith, goes.entry);
      before = behind (code_stays k c is.0 at i goes.entry goes.before there);
      rest =
          less_room latest (room_behind facts k (at + 1)) (room_behind facts k at)
          (subst (λ (xs : List Instr). IsNoMore (room_behind facts k (at + 1)) (room_of_all (process_count facts) xs))
          (sym (stretch_first at (end_in facts k) (image_of facts.tree).code i goes.before there))
          (no_more_behind (process_count facts) i (stretch (at + 1) (end_in facts k) (image_of facts.tree).code)))
          goes.rest;
    },
  )
    where
      behind : (is_end i ≡ true) ⊎ StaysIn c.entry (end_in facts k) at i → at + 1 < end_in facts k
      behind (inl end) = (let both : true ≡ false = sym end ∙ no_end in cc)
      behind (inr stays) = stays.0

first_less : (n : ℕ) (i : Instr) (is : List Instr) → IsNoMore (room_for n i) (room_of_all n (i ∷ is))
first_less n i is = (grind arith, grind arith, most (room_for n i).meetings (room_of_all n is).meetings)
  where
    most : (a b : ℕ) → a ≤ max a b
    most a b = grind arith

-- what the instruction makes has room
pub room_here : (facts : Facts) (level : LivingLevel) (at : ℕ) (latest : Communicating) (i : Instr) → IsWithin facts level at latest
    → slice_get (image_of facts.tree).code at ≡ Some i
    → HasRoomFor latest (room_for (process_count facts) i)
room_here facts level at latest i (k, c, is, goes) there =
    less_room latest (room_for (process_count facts) i) (room_behind facts k at)
    (subst (λ (xs : List Instr). IsNoMore (room_for (process_count facts) i) (room_of_all (process_count facts) xs))
    (sym (stretch_first at (end_in facts k) (image_of facts.tree).code i goes.before there))
    (first_less (process_count facts) i (stretch (at + 1) (end_in facts k) (image_of facts.tree).code)))
    goes.rest

-- ## Back

no_room_left : (n at end : ℕ) (code : List Instr) → IsNoMore (room_of_all n (stretch (suc at) end code)) (room_of_all n (stretch at end code))
no_room_left n at end code = which (inside at end) (inside at (length code))
  where
    inside : (a b : ℕ) → (a < b) ⊎ (b ≤ a)
    inside a b = grind arith

    none : (r : Room) → IsNoMore (room_of_all n []) r
    none r = (grind arith, grind arith, grind arith)

    nothing : (k : ℕ) → k ≡ 0 → take k (drop (suc at) code) ≡ []
    nothing k is = ap (λ j. take j (drop (suc at) code)) is

    dropped : (k j : ℕ) (xs : List Instr) → length xs ≤ j → take k (drop j xs) ≡ []
    dropped zero j xs past = refl
    dropped (suc k) zero [] past = refl
    dropped (suc k) (suc j) [] past = refl
    dropped (suc k) zero (x ∷ xs) past = absurd (no (length xs) past)
      where
        no : (a : ℕ) → suc a ≤ 0 → ⊥
        no a h = grind (arith, h)
    dropped (suc k) (suc j) (x ∷ xs) past = dropped (suc k) j xs (grind (arith, past))

    which : (at < end) ⊎ (end ≤ at) → (at < length code) ⊎ (length code ≤ at)
        → IsNoMore (room_of_all n (stretch (suc at) end code)) (room_of_all n (stretch at end code))
    which (inr past) other =
        subst (λ (xs : List Instr). IsNoMore (room_of_all n xs) (room_of_all n (stretch at end code))) (sym (nothing (end - suc at) (grind (arith, past))))
        (none (room_of_all n (stretch at end code)))
    which (inl before) (inr past) =
        subst (λ (xs : List Instr). IsNoMore (room_of_all n xs) (room_of_all n (stretch at end code)))
        (sym (dropped (end - suc at) (suc at) code (grind (arith, past)))) (none (room_of_all n (stretch at end code)))
    which (inl before) (inl within) =
        let i : Instr = get_or code at (END) in
        let first : stretch at end code ≡ i ∷ stretch (at + 1) end code = stretch_first at end code i before (slice_get-get_or code at (END) within) in
        subst (λ (xs : List Instr). IsNoMore (room_of_all n (stretch (suc at) end code)) (room_of_all n xs)) (sym first)
        (subst (λ k. IsNoMore (room_of_all n (stretch k end code)) (room_of_all n (i ∷ stretch (at + 1) end code)))
        (let h : at + 1 ≡ suc at = grind arith in h) (no_more_behind n i (stretch (at + 1) end code)))

more_and_more : (a b c : Room) → IsNoMore a b → IsNoMore b c → IsNoMore a c
more_and_more a b c h k = (grind (arith, h.0, k.0), grind (arith, h.1, k.1), grind (arith, h.2, k.2))

-- from a later address on there is no more
pub later_less : (n d at end : ℕ) (code : List Instr) → IsNoMore (room_of_all n (stretch (at + d) end code)) (room_of_all n (stretch at end code))
later_less n zero at end code =
    subst (λ k. IsNoMore (room_of_all n (stretch k end code)) (room_of_all n (stretch at end code))) (let h : at ≡ at + 0 = grind arith in h)
    (grind arith, grind arith, grind arith)
later_less n (suc d) at end code =
    subst (λ k. IsNoMore (room_of_all n (stretch k end code)) (room_of_all n (stretch at end code))) (let h : suc (at + d) ≡ at + suc d = grind arith in h)
    (more_and_more (room_of_all n (stretch (suc (at + d)) end code)) (room_of_all n (stretch (at + d) end code)) (room_of_all n (stretch at end code))
    (no_room_left n (at + d) end code) (later_less n d at end code))

-- what a block takes is what its code makes from its entry on
room_of_block : (n : ℕ) (code : List Instr) (blocks : List CodeBlock) (k : ℕ) (c : CodeBlock) → slice_get blocks k ≡ Some c
    → get_or (rooms_of n code blocks) k no_room ≡ room_of_all n (stretch c.entry (end_of code (drop (suc k) blocks)) code)
room_of_block n code [] k c there = (let none : None ≡ Some c = there in cc)
room_of_block n code (b ∷ blocks) zero c there =
    let same : b ≡ c = (let both : Some b ≡ Some c = there in cc) in
    ap (λ (x : CodeBlock). room_of_all n (stretch x.entry (end_of code blocks) code)) same
room_of_block n code (b ∷ blocks) (suc k) c there = room_of_block n code blocks k c there

module _ (facts : Facts) where
  -- at any address of the block there is room where all that the block makes has room
  pub room_anywhere : (k : ℕ) (c : CodeBlock) (at : ℕ) (e : Communicating) → slice_get (image_of facts.tree).blocks k ≡ Some c → c.entry ≤ at
      → HasRoomFor e (room_in facts k) → HasRoomFor e (room_behind facts k at)
  room_anywhere k c at e there above room =
      let n : ℕ = process_count facts in
      let code : List Instr = (image_of facts.tree).code in
      let whole : room_in facts k ≡ room_of_all n (stretch c.entry (end_in facts k) code) =
      room_of_block n code (image_of facts.tree).blocks k c there
      ∙ ap (λ j. room_of_all n (stretch c.entry (end_of code (drop j (image_of facts.tree).blocks)) code)) (let h : suc k ≡ k + 1 = grind arith in h) in
      less_room e (room_behind facts k at) (room_in facts k)
      (subst (λ (r : Room). IsNoMore (room_behind facts k at) r) (sym whole)
      (subst (λ j. IsNoMore (room_of_all n (stretch j (end_in facts k) code)) (room_of_all n (stretch c.entry (end_in facts k) code)))
      (let h : c.entry + (at - c.entry) ≡ at = grind (arith, above) in h)
      (later_less n (at - c.entry) c.entry (end_in facts k) code))) room

  -- a loop turns back in the code of the block
  pub within_back : (level : LivingLevel) (at to : ℕ) (latest : Communicating) (i : Instr) → IsWithin facts level at latest
      → slice_get (image_of facts.tree).code at ≡ Some i → is_end i ≡ false
      → address_back i ≡ Some to
      → ((k : ℕ) (c : CodeBlock) → IsBlockAt (program_in facts) (image_of facts.tree).blocks k (block_of level) c → HasRoomFor latest (room_in facts k))
      → IsWithin facts level to latest
  within_back level at to latest i (k, c, is, goes) there no_end leads room =
      let stays = stay (code_stays facts k c is.0 at i goes.entry goes.before there) in
      let back : (c.entry ≤ to) × (to ≤ at) = subst (λ (o : Option ℕ). IfSome o (λ (a : ℕ). (c.entry ≤ a) × (a ≤ at))) leads stays.2 in (
        k,
        c,
        is,
        record { entry = back.0; before = below back.1 goes.before; rest = room_anywhere k c to latest is.0 back.0 (room k c is) },
      )
    where
      stay : (is_end i ≡ true) ⊎ StaysIn c.entry (end_in facts k) at i → StaysIn c.entry (end_in facts k) at i
      stay (inl end) = (let both : true ≡ false = sym end ∙ no_end in cc)
      stay (inr stays) = stays

      below : to ≤ at → at < end_in facts k → to < end_in facts k
      below h less = grind (arith, h, less)
