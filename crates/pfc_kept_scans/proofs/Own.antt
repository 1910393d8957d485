-- A process in a guarded procedure: its own cells have the number of the procedure, and it holds the resource.
use Rattle.std.proofs.Common.{◌≡◌, ℕ, zero, suc, ◌+◌, ◌*◌, ◌%◌, ◌^◌, ◌<◌, ◌≤◌, ℤ, pos, true, false, List, [], ◌∷◌, ◌++◌, length, drop, slice_get, get_or, All}
use Rattle.std.proofs.Common.{Some}
use Rattle.std.proofs.Common.{None, sym, ap, ◌∙◌, subst, arith, inl, inr}
use Rattle.std.proofs.lemmas.List.{get_or-append-add, get_or_append_left}
use Rattle.pfc_code.specs.declared.instructions.Instr.{Instr}
use Rattle.pfc_code.specs.declared.images.Block.{Block as CodeBlock}
use Rattle.pfc_code.specs.Images.{PlainImage}
use Rattle.pfc_image_laws.specs.Layouts.{LaidOut, a_block, a_scan, of_main}
use Rattle.pfc_image_laws.proofs.Layouts.{image_laid}
use Rattle.pfc_state.specs.Stands.{Stand, Is_ready}
use Rattle.pfc_world.specs.Holders.{holder_in}
use Rattle.pfc_world.specs.Tables.{at}
use Rattle.pfc_semantics.specs.Programs.{Guard, block_number}
use Rattle.pfc_semantics.specs.Configurations.{Mark, of_resource, Activation, Activity, Config, activity_of}
use Rattle.pfc_translation.specs.Calls.{resource_of}
use Rattle.pfc_translation.specs.Images.{image_of, site_in}
use Rattle.pfc_stacks.specs.Refs.{word_of, number_of}
use Rattle.pfc_stacks.specs.Stacks.{Stack, stack_of, cells_of, own_word, own_number, block_place, last_activation}
use Rattle.pfc_cells.specs.Homes.{Home}
use Rattle.pfc_cells.specs.Memory.{Entry, ProcessIs, CellsAre, StandsOver}
use Rattle.pfc_machines.specs.declared.machine.Machine.{Machine}
use Rattle.pfc_machines.specs.Descriptors.{descriptor_of}
use Rattle.pfc_machines.specs.Rooms.{end_of}
use Rattle.pfc_representation.specs.Levels.{Facts, program_in, LivingLevel, block_of}
use Rattle.pfc_representation.specs.Rooms.{end_in}
use Rattle.pfc_representation.specs.Callers.{linkage_words}
use Rattle.pfc_representation.specs.Holding.{holders_in, HoldsFor}
use Rattle.pfc_representation.specs.Acting.{IsActing}
use Rattle.pfc_kept_calls.proofs.Beginnings.{number_within}
use Rattle.pfc_kept_scans.proofs.Tops.{HasTop, top_of}
use Rattle.pfc_kept_scans.proofs.Procedures.{one_number, guarded_there}

-- ## Bodies

first_after : {image : PlainImage} {at number : ℕ} {blocks : List CodeBlock} {scans : List ℕ} {code : List Instr} (whole : List Instr)
    → LaidOut image at number blocks scans code → at ≤ end_of whole blocks
first_after whole (a_block b own is levels laid) = grind arith
first_after whole (a_scan laid) = (let later = first_after whole laid in grind (arith, later))
first_after whole (of_main b own is) = grind arith

body_within : {image : PlainImage} {at number : ℕ} {blocks : List CodeBlock} {scans : List ℕ} {code : List Instr} (whole : List Instr) (k : ℕ) (b : CodeBlock)
    → LaidOut image at number blocks scans code → length whole ≡ at + length code → slice_get blocks k ≡ Some b
    → b.body < end_of whole (drop (suc k) blocks)
body_within whole zero b (a_block c {blocks} own is levels laid) size there =
    let one : c ≡ b = (let both : Some c ≡ Some b = there in cc) in
    let later = first_after whole laid in
    let inside = is.body.1 in
    subst (λ (x : CodeBlock). x.body < end_of whole blocks) one (grind (arith, later, inside))
body_within whole (suc k) b (a_block c {blocks} own {code} is levels laid) size there =
    body_within whole k b laid (size ∙ joined own code) there
  where
    joined : (xs ys : List Instr) → c.entry + length (xs ++ ys) ≡ c.entry + length xs + length ys
    joined [] ys = (let h : c.entry + length ys ≡ c.entry + 0 + length ys = grind arith in h)
    joined (x ∷ xs) ys = (let rest = joined xs ys in grind (arith, rest))
body_within whole k b (a_scan {at} {number} {blocks} {scans} {code} laid) size there =
    body_within whole k b laid (size ∙ (let h : at + suc (length code) ≡ at + 1 + length code = grind arith in h)) there
body_within whole zero b (of_main c own is) size there =
    let one : c ≡ b = (let both : Some c ≡ Some b = there in cc) in
    let inside = is.body.1 in
    subst (λ (x : CodeBlock). x.body < length whole) one (grind (arith, size, inside))
body_within whole (suc k) b (of_main c own is) size there = (let none : None ≡ Some b = there in cc)

-- the body of a block begins before its end
pub body_before : (facts : Facts) (k : ℕ) (c : CodeBlock) → slice_get (image_of facts.tree).blocks k ≡ Some c → c.body < end_in facts k
body_before facts k c there =
    let whole : List Instr = (image_of facts.tree).code in
    subst (λ n. c.body < end_of whole (drop n (image_of facts.tree).blocks)) (let h : suc k ≡ k + 1 = grind arith in h)
    (body_within whole k c (image_laid facts.tree) (let h : length whole ≡ 0 + length whole = grind arith in h) there)

-- ## Own cells

small : (n : ℕ) → n < 2 ^ 32 → n % 2 ^ 32 ≡ n
small n few = omega (arith, few)

same_cell : (p a b : ℕ) → word_of (record { process = p; cell = a }) ≡ word_of (record { process = p; cell = b }) → a ≡ b
same_cell p a b h = (let both : p * 2 ^ 32 + a ≡ p * 2 ^ 32 + b = cc in grind (arith, both))

module _ (facts : Facts) (m : Machine) (c : Config) (p : ℕ) (level : LivingLevel) (acting : IsActing facts m c p level) where
  abbrev s : Stack
  s = stack_of m.stacks p

  abbrev a : Activity
  a = activity_of (program_in facts) c p

  abbrev pub w : ℤ
  w = word_of (last_activation m.stacks p)

  pub top : HasTop facts acting.homes c.store p s.room level w a.activations (acting.entries p)
  top =
      top_of facts acting.homes acting.entries c.store c.table p s.room level w (descriptor_of m.descriptors p).communications a.activations (acting.entries p)
      acting.actor.stands.callers

  cells : CellsAre (program_in facts) acting.homes c.store p (top.entry ∷ top.below) (cells_of m.stacks p)
  cells =
      subst (λ (es : List Entry). ProcessIs (program_in facts) acting.homes c.store p es (cells_of m.stacks p)) top.entries_are (acting.alike.holds.memory p)

  abbrev lower : List ℤ
  lower = cells.0

  over : StandsOver (program_in facts) acting.homes c.store p top.entry lower (cells_of m.stacks p)
  over = cells.2

  same_home : top.stands.home ≡ over.home
  same_home =
      (let both : Some top.stands.home ≡ Some over.home = sym top.stands.at ∙ ap acting.homes (sym top.stands.number) ∙ over.at in cc)

  base_is : s.base ≡ length lower
  base_is =
      same_cell p s.base top.stands.home.cell
      (top.stands.word ∙ ap (λ q. word_of (record { process = q; cell = top.stands.home.cell })) top.stands.process)
      ∙ ap (λ (h : Home). h.cell) same_home ∙ over.place

  own_cell : (k : ℕ) → k < 8 → own_word s k ≡ get_or (linkage_words top.own) k (pos 0)
  own_cell k few =
      let inside : k < length top.entry.own = subst (λ n. k < n) (sym over.size) few in
      ap (λ (xs : List ℤ). get_or xs (s.base + k) (pos 0)) over.is
      ∙ ap (λ n. get_or (lower ++ (top.entry.own ++ over.block)) (n + k) (pos 0)) base_is
      ∙ get_or-append-add lower (top.entry.own ++ over.block) k (pos 0)
      ∙ get_or_append_left top.entry.own over.block (pos 0) k inside
      ∙ ap (λ (xs : List ℤ). get_or xs k (pos 0)) top.stands.words

  few : top.own.block < 2 ^ 32
  few =
      let within = number_within facts top.own.block top.stands.code top.stands.is.0 in
      let short = acting.alike.program.short in
      omega (arith, within, short)

  -- the number of its block
  pub own_number_is : own_number s block_place ≡ top.own.block
  own_number_is = ap number_of (own_cell block_place (grind arith)) ∙ small top.own.block few

  -- ## Its guard

  module _ (guard : Guard) (has : (block_of level).guard ≡ Some guard) where
    pub block_there : slice_get (program_in facts).blocks top.own.block ≡ Some (block_of level)
    block_there =
        guarded_there facts.tree (image_of facts.tree).blocks top.own.block (block_of level) top.stands.code guard top.stands.is has

    pub number_is : top.own.block ≡ block_number (program_in facts) (block_of level).scope
    number_is = one_number (program_in facts) (block_of level) top.own.block block_there top.stands.is.1

    -- what it entered last it holds
    pub own_held : holder_in c.resources (resource_of (site_in (program_in facts) (block_of level))) ≡ Some p
    own_held =
        by_mark (subst (λ (mark : Mark). HoldsFor (holders_in facts c) p Is_ready mark) (top.stands.guarded guard has)
        (subst (λ (y : Stand). HoldsFor (holders_in facts c) p y top.top.mark) acting.actor.ready first))
      where
        first : HoldsFor (holders_in facts c) p (at c.table.rows p) top.top.mark
        first =
            (subst (λ (xs : List Activation). All (λ (y : Activation). HoldsFor (holders_in facts c) p (at c.table.rows p) y.mark) xs) top.activations_are
            acting.actor.stands.holds.entered) 0 top.top (grind arith)

        by_mark : HoldsFor (holders_in facts c) p Is_ready (of_resource (resource_of (site_in (program_in facts) (block_of level))))
            → holder_in c.resources (resource_of (site_in (program_in facts) (block_of level))) ≡ Some p
        by_mark (inl holds) = holds
        by_mark (inr waits) = absurd (let no : false ≡ true = waits in cc)
