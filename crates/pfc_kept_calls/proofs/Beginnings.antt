-- Where the code of each block of an image begins, and the room that an activation of it takes.
use Rattle.std.proofs.Common.{◌≡◌, ℕ, zero, suc, ◌+◌, ◌<◌, ◌≤◌, List, [], ◌∷◌, length, drop, slice_get, get_or, Some, None, length-append}
use Rattle.std.proofs.Common.{refl, sym, ap, ◌∙◌, subst, arith}
use Rattle.std.proofs.lemmas.Option.{slice_get_within}
use Rattle.pfc_code.specs.declared.instructions.Instr.{Instr}
use Rattle.pfc_code.specs.declared.images.Block.{Block}
use Rattle.pfc_code.specs.Images.{PlainImage}
use Rattle.pfc_translation.specs.Images.{image_of}
use Rattle.pfc_image_laws.specs.Layouts.{LaidOut, a_block, a_scan, of_main}
use Rattle.pfc_image_laws.proofs.Layouts.{image_laid}
use Rattle.pfc_machines.specs.Rooms.{no_room, room_of_all, stretch, end_of, rooms_of}
use Rattle.pfc_representation.specs.Levels.{Facts}
use Rattle.pfc_representation.specs.Rooms.{process_count, room_in, end_in, room_behind}

first_at : {image : PlainImage} {at number : ℕ} {blocks : List Block} {scans : List ℕ} {code : List Instr} (b : Block) (later : List Block)
    → LaidOut image at number blocks scans code → blocks ≡ b ∷ later
    → at ≤ b.entry
first_at b later (a_block c own is above others) same = (let one : c ≡ b = cc in subst (λ (x : Block). c.entry ≤ x.entry) one (omega arith))
first_at b later (a_scan others) same = (let h = first_at b later others same in omega (arith, h))
first_at b later (of_main c own is) same = (let one : c ≡ b = cc in subst (λ (x : Block). c.entry ≤ x.entry) one (omega arith))

ends_behind : (image : PlainImage) (whole : List Instr) {at number : ℕ} {blocks : List Block} {scans : List ℕ} {code : List Instr} (entry : ℕ)
    → entry < at → LaidOut image at number blocks scans code → length whole ≡ at + length code
    → (rest : List Block) → rest ≡ blocks → entry < end_of whole rest
ends_behind image whole entry less laid size [] same = omega (arith, less, size)
ends_behind image whole entry less laid size (b ∷ later) same = (let h = first_at b later laid (sym same) in omega (arith, less, h))

module _ (image : PlainImage) (whole : List Instr) where
  begins_before : {at number : ℕ} {blocks : List Block} {scans : List ℕ} {code : List Instr} (k : ℕ) (b : Block)
      → LaidOut image at number blocks scans code → length whole ≡ at + length code
      → slice_get blocks k ≡ Some b → b.entry < end_of whole (drop (suc k) blocks)
  begins_before zero b (a_block c {blocks} own {code} is above others) size there =
      let one : c ≡ b = (let both : Some c ≡ Some b = there in cc) in
      let own_size = is.body in
      let all : length whole ≡ c.entry + length own + length code = (let more = length-append own code in omega (arith, size, more)) in
      subst (λ (x : Block). x.entry < end_of whole blocks) one
      (ends_behind image whole c.entry (omega (arith, own_size.0, own_size.1)) others all blocks refl)
  begins_before (suc k) b (a_block c own {code} is above others) size there =
      let all : length whole ≡ c.entry + length own + length code = (let more = length-append own code in omega (arith, size, more)) in
      begins_before k b others all there
  begins_before k b (a_scan others) size there = begins_before k b others (omega (arith, size)) there
  begins_before zero b (of_main c own is) size there =
      let one : c ≡ b = (let both : Some c ≡ Some b = there in cc) in
      let own_size = is.body in
      subst (λ (x : Block). x.entry < length whole) one (omega (arith, own_size.0, own_size.1, size))
  begins_before (suc k) b (of_main c own is) size there = (let none : None ≡ Some b = there in cc)

  begins_within : {at number : ℕ} {blocks : List Block} {scans : List ℕ} {code : List Instr} (k : ℕ) (b : Block)
      → LaidOut image at number blocks scans code → length whole ≡ at + length code
      → slice_get blocks k ≡ Some b → b.entry ≤ length whole
  begins_within zero b (a_block c {blocks} own {code} is above others) size there =
      let one : c ≡ b = (let both : Some c ≡ Some b = there in cc) in
      subst (λ (x : Block). x.entry ≤ length whole) one (omega (arith, size))
  begins_within (suc k) b (a_block c own {code} is above others) size there =
      let all : length whole ≡ c.entry + length own + length code = (let more = length-append own code in omega (arith, size, more)) in
      begins_within k b others all there
  begins_within k b (a_scan others) size there = begins_within k b others (omega (arith, size)) there
  begins_within zero b (of_main c own is) size there =
      let one : c ≡ b = (let both : Some c ≡ Some b = there in cc) in
      subst (λ (x : Block). x.entry ≤ length whole) one (omega (arith, size))
  begins_within (suc k) b (of_main c own is) size there = (let none : None ≡ Some b = there in cc)

begins_above : {image : PlainImage} {at number : ℕ} {blocks : List Block} {scans : List ℕ} {code : List Instr} (k : ℕ) (b : Block)
    → LaidOut image at number blocks scans code → slice_get blocks k ≡ Some b → at + k ≤ b.entry
begins_above zero b (a_block c own is above others) there =
    let one : c ≡ b = (let both : Some c ≡ Some b = there in cc) in
    subst (λ (x : Block). c.entry + 0 ≤ x.entry) one (omega arith)
begins_above (suc k) b (a_block c own is above others) there =
    let later = begins_above k b others there in
    let size = is.body in
    omega (arith, later, size.0, size.1)
begins_above k b (a_scan others) there = (let later = begins_above k b others there in omega (arith, later))
begins_above zero b (of_main c own is) there =
    let one : c ≡ b = (let both : Some c ≡ Some b = there in cc) in
    subst (λ (x : Block). c.entry + 0 ≤ x.entry) one (omega arith)
begins_above (suc k) b (of_main c own is) there = (let none : None ≡ Some b = there in cc)

ends_short : (whole : List Instr) (blocks : List Block) → ((j : ℕ) (b : Block) → slice_get blocks j ≡ Some b → b.entry ≤ length whole) → (k : ℕ)
    → end_of whole (drop k blocks) ≤ length whole
ends_short whole [] all zero = omega arith
ends_short whole [] all (suc k) = omega arith
ends_short whole (b ∷ blocks) all zero = all 0 b refl
ends_short whole (b ∷ blocks) all (suc k) = ends_short whole blocks (λ j c h. all (suc j) c h) k

-- all code of a block has addresses
pub end_within : (facts : Facts) (k : ℕ) → end_in facts k ≤ length (image_of facts.tree).code
end_within facts k =
    let whole : List Instr = (image_of facts.tree).code in
    ends_short whole (image_of facts.tree).blocks (λ j b h. begins_within (image_of facts.tree) whole j b (image_laid facts.tree)
    (let e : length whole ≡ 0 + length whole = grind arith in e) h) (k + 1)

rooms_at : (n : ℕ) (code : List Instr) (blocks : List Block) (k : ℕ) (c : Block) → slice_get blocks k ≡ Some c
    → get_or (rooms_of n code blocks) k no_room ≡ room_of_all n (stretch c.entry (end_of code (drop (suc k) blocks)) code)
rooms_at n code [] k c there = (let none : None ≡ Some c = there in cc)
rooms_at n code (b ∷ later) zero c there =
    let one : b ≡ c = (let both : Some b ≡ Some c = there in cc) in
    ap (λ (x : Block). room_of_all n (stretch x.entry (end_of code later) code)) one
rooms_at n code (b ∷ later) (suc k) c there = rooms_at n code later k c there

module _ (facts : Facts) (k : ℕ) (c : Block) (there : slice_get (image_of facts.tree).blocks k ≡ Some c) where
  next : suc k ≡ k + 1
  next = grind arith

  pub entry_before : c.entry < end_in facts k
  entry_before =
      let whole : List Instr = (image_of facts.tree).code in
      subst (λ n. c.entry < end_of whole (drop n (image_of facts.tree).blocks)) next
      (begins_before (image_of facts.tree) whole k c (image_laid facts.tree) (let h : length whole ≡ 0 + length whole = grind arith in h) there)

  pub room_from_entry : room_in facts k ≡ room_behind facts k c.entry
  room_from_entry =
      let whole : List Instr = (image_of facts.tree).code in
      rooms_at (process_count facts) whole (image_of facts.tree).blocks k c there
      ∙ ap (λ n. room_of_all (process_count facts) (stretch c.entry (end_of whole (drop n (image_of facts.tree).blocks)) whole)) next

-- there are no more blocks than addresses
pub number_within : (facts : Facts) (k : ℕ) (c : Block) → slice_get (image_of facts.tree).blocks k ≡ Some c → k ≤ length (image_of facts.tree).code
number_within facts k c there =
    let whole : List Instr = (image_of facts.tree).code in
    let above = begins_above k c (image_laid facts.tree) there in
    let within = begins_within (image_of facts.tree) whole k c (image_laid facts.tree) (let e : length whole ≡ 0 + length whole = grind arith in e) there in
    omega (arith, above, within)

scans_within : {image : PlainImage} {at number : ℕ} {blocks : List Block} {scans : List ℕ} {code : List Instr}
    → LaidOut image at number blocks scans code → length scans ≤ length code
scans_within (a_block c own {code} is above others) = (let later = scans_within others in let more = length-append own code in omega (arith, later, more))
scans_within (a_scan others) = (let later = scans_within others in omega (arith, later))
scans_within (of_main c own is) = omega arith

-- nor more scans
pub scan_within : (facts : Facts) (r scan : ℕ) → slice_get (image_of facts.tree).scans r ≡ Some scan → r < length (image_of facts.tree).code
scan_within facts r scan there =
    let below : r < length (image_of facts.tree).scans = slice_get_within (image_of facts.tree).scans r scan there in
    let all = scans_within (image_laid facts.tree) in
    omega (arith, below, all)
