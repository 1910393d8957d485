-- The marks of the living activations of a process are those that its own cells have.
use Rattle.std.proofs.Common.{◌≡◌, ℕ, zero, suc, ◌+◌, ◌*◌, ◌%◌, ◌^◌, ◌<◌, ◌≤◌, ◌||◌, ℤ, pos, ◌-ℤ◌, Bool, true, false, if◌then◌else◌, List, [], ◌∷◌, ◌++◌}
use Rattle.std.proofs.Common.{length, get_or, Some, refl, sym, ap, ◌∙◌, subst, arith, length-append, append_assoc, append-nil}
use Rattle.std.specs.Prelude.{nat_lt}
use Rattle.std.specs.List.{list_any}
use Rattle.std.specs.Ordering.{int_eq}
use Rattle.std.proofs.lemmas.Bool.Decides.{Decides-int_eq}
use Rattle.pfc_world.specs.Tables.{Table}
use Rattle.pfc_semantics.specs.Configurations.{Mark, plain, of_monitor, of_resource, Activation, Config, activity_of}
use Rattle.pfc_semantics.specs.Monitors.{is_in, is_inside}
use Rattle.pfc_semantics.specs.Programs.{Program}
use Rattle.pfc_semantics.specs.Store.{Store}
use Rattle.pfc_stacks.specs.declared.marks.Mark.TheVariants.{Monitor}
use Rattle.pfc_stacks.specs.Activations.{caller_of, has_mark_at, is_marked, has_mark}
use Rattle.pfc_stacks.specs.Marks.{word_of_mark}
use Rattle.pfc_stacks.specs.Refs.{word_of, number_of}
use Rattle.pfc_stacks.specs.Stacks.{stack_of, cells_of, mark_place, caller_place, last_activation}
use Rattle.pfc_cells.specs.Homes.{Home, Homes}
use Rattle.pfc_cells.specs.Memory.{Entry, Entries, StandsOver, CellsAre, ProcessIs}
use Rattle.pfc_machines.specs.declared.machine.Machine.{Machine}
use Rattle.pfc_machines.specs.Communications.{Communicating}
use Rattle.pfc_machines.specs.Descriptors.{descriptor_of}
use Rattle.pfc_representation.specs.Levels.{Facts, program_in, LivingLevel}
use Rattle.pfc_representation.specs.Callers.{Linkage, linkage_words, stack_mark, StandsFor, AreCallers}
use Rattle.pfc_representation.specs.Acting.{IsActing}
use Rattle.pfc_kept_object_actions.proofs.Tests.{same_numbers, numbers_same}

-- ## Words of marks

same_truth : (a b : Bool) → (a ≡ true → b ≡ true) → (b ≡ true → a ≡ true) → a ≡ b
same_truth true b f g = sym (f refl)
same_truth false true f g = g refl
same_truth false false f g = refl

monitor_word : (n k : ℕ) → pos (n + 1) ≡ pos (k + 1) → n ≡ k
monitor_word n k h = (let both : n + 1 ≡ k + 1 = cc in grind (arith, both))

no_word : (k : ℕ) → pos 0 ≡ pos (k + 1) → ⊥
no_word k h = (let both : 0 ≡ k + 1 = cc in grind (arith, both))

resource_word : (r k : ℕ) → pos 0 -ℤ pos (r + 1) ≡ pos (k + 1) → ⊥
resource_word r k h = grind (arith, h)

mark_is : (n : ℕ) (mark : Mark) → int_eq (word_of_mark (stack_mark mark)) (word_of_mark (Monitor n)) ≡ is_in n mark
mark_is n plain = same_truth _ _ (λ h. absurd (no_word n ((Decides-int_eq (pos 0) (pos (n + 1))).0 h))) (λ h. absurd (let no : false ≡ true = h in cc))
mark_is n (of_monitor k) =
    same_truth _ _ (λ h. same_numbers k n (monitor_word k n ((Decides-int_eq (pos (k + 1)) (pos (n + 1))).0 h)))
    (λ h. (Decides-int_eq (pos (k + 1)) (pos (n + 1))).1 (ap (λ j. pos (j + 1)) (numbers_same k n h)))
mark_is n (of_resource r) =
    same_truth _ _ (λ h. absurd (resource_word r n ((Decides-int_eq (pos 0 -ℤ pos (r + 1)) (pos (n + 1))).0 h))) (λ h. absurd (let no : false ≡ true = h in cc))

-- ## Own cells

left_cell : (xs ys : List ℤ) (k : ℕ) → k < length xs → get_or (xs ++ ys) k (pos 0) ≡ get_or xs k (pos 0)
left_cell [] ys k h = absurd (none k h)
  where
    none : (n : ℕ) → n < 0 → ⊥
    none n less = grind (arith, less)
left_cell (x ∷ xs) ys zero h = refl
left_cell (x ∷ xs) ys (suc k) h = left_cell xs ys k (grind (arith, h))

right_cell : (xs ys : List ℤ) (k : ℕ) → get_or (xs ++ ys) (length xs + k) (pos 0) ≡ get_or ys k (pos 0)
right_cell [] ys k = ap (λ n. get_or ys n (pos 0)) (let h : 0 + k ≡ k = grind arith in h)
right_cell (x ∷ xs) ys k = ap (λ n. get_or (x ∷ xs ++ ys) n (pos 0)) (let h : suc (length xs) + k ≡ suc (length xs + k) = grind arith in h) ∙ right_cell xs ys k

own_cell : (lower own block more : List ℤ) (k : ℕ) → k < length own
    → get_or ((lower ++ (own ++ block)) ++ more) (length lower + k) (pos 0) ≡ get_or own k (pos 0)
own_cell lower own block more k within =
    ap (λ (cells : List ℤ). get_or cells (length lower + k) (pos 0)) (append_assoc lower (own ++ block) more)
    ∙ right_cell lower ((own ++ block) ++ more) k
    ∙ ap (λ (cells : List ℤ). get_or cells k (pos 0)) (append_assoc own block more)
    ∙ left_cell own (block ++ more) k within

small : (n : ℕ) → n < 2 ^ 32 → n % 2 ^ 32 ≡ n
small n few = omega (arith, few)

is_below : (n k : ℕ) → n < k → nat_lt n k ≡ true
is_below n k h = grind (arith, h)

none_below : (n : ℕ) → nat_lt n 0 ≡ false
none_below n = grind arith

or_false : (b : Bool) → (b || false) ≡ b
or_false true = refl
or_false false = refl

module _ (facts : Facts) (homes : Homes) (entries : Entries) (store : Store) (table : Table) (p mark room : ℕ) where
  abbrev g : Program
  g = program_in facts

  -- what the cells of the last of some activations tell
  module _ (a : Activation) (e : Entry) (w : ℤ) (own : Linkage) (level : LivingLevel) (lower mine more : List ℤ)
      (stands : StandsFor facts homes store p a e w own level)
      (over : StandsOver g homes store p e lower mine) where
    word_there : (k : ℕ) → k < 8 → get_or (mine ++ more) (length lower + k) (pos 0) ≡ get_or (linkage_words own) k (pos 0)
    word_there k within =
        ap (λ (cells : List ℤ). get_or (cells ++ more) (length lower + k) (pos 0)) over.is
        ∙ own_cell lower e.own over.block more k (subst (λ n. k < n) (sym over.size) within)
        ∙ ap (λ (words : List ℤ). get_or words k (pos 0)) stands.words

    mark_there : has_mark_at (Monitor mark) (mine ++ more) (length lower) ≡ is_in mark a.mark
    mark_there =
        ap (λ (x : ℤ). int_eq x (word_of_mark (Monitor mark))) (word_there mark_place (grind arith))
        ∙ ap (λ m. int_eq (word_of_mark m) (word_of_mark (Monitor mark))) stands.mark ∙ mark_is mark a.mark

    caller_there : own.caller < 2 ^ 32 → caller_of (mine ++ more) (length lower) ≡ own.caller
    caller_there few = ap number_of (word_there caller_place (grind arith)) ∙ small own.caller few

  module _ (e : Entry) (lower mine : List ℤ) (over : StandsOver g homes store p e lower mine) where
    over_there : length mine ≡ length lower + (8 + length over.block)
    over_there =
        ap (λ (cells : List ℤ). length cells) over.is ∙ length-append lower (e.own ++ over.block)
        ∙ ap (λ n. length lower + n) (length-append e.own over.block ∙ ap (λ n. n + length over.block) over.size)

  -- of all of them
  marked : (level : LivingLevel) (w : ℤ) (latest : Communicating) (a : Activation) (xs : List Activation) (e : Entry) (es : List Entry) (n : ℕ)
      (lower mine more : List ℤ)
      → AreCallers facts homes entries store table p room level w latest (a ∷ xs) (e ∷ es) → CellsAre g homes store p es lower
      → StandsOver g homes store p e lower mine
      → length lower ≤ n → length mine < 2 ^ 32
      → is_marked n (Monitor mark) (mine ++ more) (length lower) ≡ list_any (λ (b : Activation). is_in mark b.mark) (a ∷ xs)
  marked level w latest a [] e [] n lower mine more callers below over reaches few =
      first n ∙ mark_there a e w callers.own level lower mine more callers.stands over ∙ sym (or_false (is_in mark a.mark))
    where
      base : length lower ≡ 0
      base = ap (λ (cells : List ℤ). length cells) below

      first : (k : ℕ) → is_marked k (Monitor mark) (mine ++ more) (length lower) ≡ has_mark_at (Monitor mark) (mine ++ more) (length lower)
      first zero = refl
      first (suc k) =
          ap (λ (b : Bool). has_mark_at (Monitor mark) (mine ++ more) (length lower) ||
          (if b then is_marked k (Monitor mark) (mine ++ more) (caller_of (mine ++ more) (length lower)) else false))
          (ap (λ j. nat_lt (caller_of (mine ++ more) (length lower)) j) base ∙ none_below (caller_of (mine ++ more) (length lower)))
          ∙ or_false (has_mark_at (Monitor mark) (mine ++ more) (length lower))
  marked level w latest a [] e (f ∷ es) n lower mine more callers below over reaches few = absurd callers
  marked level w latest a (b ∷ xs) e [] n lower mine more callers below over reaches few = absurd callers
  marked level w latest a (b ∷ xs) e (f ∷ es) n lower mine more (outer, v, earlier, called, within, others) (lower2, below2, over2) over reaches few =
      outward n reaches (λ k less. marked outer v earlier b xs f es k lower2 lower ((e.own ++ over.block) ++ more) others below2 over2 less
      (fewer (length lower) (length mine) size few))
    where
      size : length lower < length mine
      size = (let all = over_there e lower mine over in grind (arith, all))

      fewer : (i j : ℕ) → i < j → j < 2 ^ 32 → i < 2 ^ 32
      fewer i j h k = omega (arith, h, k)

      number_there : f.activation ≡ b.number
      number_there = number_in outer v earlier xs f es others
        where
          number_in : (l : LivingLevel) (u : ℤ) (y : Communicating) (ys : List Activation) (h : Entry) (hs : List Entry)
              → AreCallers facts homes entries store table p room l u y (b ∷ ys) (h ∷ hs) → h.activation ≡ b.number
          number_in l u y [] h [] is = is.stands.number
          number_in l u y [] h (i ∷ hs) is = absurd is
          number_in l u y (z ∷ ys) h [] is = absurd is
          number_in l u y (z ∷ ys) h (i ∷ hs) is = is.3.stands.number

      same_home : called.home ≡ over2.home
      same_home = (let both : Some called.home ≡ Some over2.home = sym called.at ∙ ap homes (sym number_there) ∙ over2.at in cc)

      caller_is : called.own.caller ≡ length lower2
      caller_is = called.caller ∙ ap (λ (h : Home). h.cell) same_home ∙ over2.place

      lower_size : length lower2 < length lower
      lower_size = (let all = over_there f lower2 lower over2 in grind (arith, all))

      caller_cell : caller_of (mine ++ more) (length lower) ≡ length lower2
      caller_cell =
          caller_there a e w called.own level lower mine more called.stands over
          (subst (λ k. k < 2 ^ 32) (sym caller_is) (fewer (length lower2) (length mine)
          (less_twice (length lower2) (length lower) (length mine) lower_size size) few))
          ∙ caller_is
        where
          less_twice : (i j k : ℕ) → i < j → j < k → i < k
          less_twice i j k h l = grind (arith, h, l)

      cells_are : mine ++ more ≡ lower ++ ((e.own ++ over.block) ++ more)
      cells_are = ap (λ (cells : List ℤ). cells ++ more) over.is ∙ append_assoc lower (e.own ++ over.block) more

      outward : (k : ℕ) → length lower ≤ k
          → ((j : ℕ) → length lower2 ≤ j → is_marked j (Monitor mark) (lower ++ ((e.own ++ over.block) ++ more)) (length lower2) ≡ list_any
          (λ (y : Activation). is_in mark y.mark) (b ∷ xs))
          → is_marked k (Monitor mark) (mine ++ more) (length lower) ≡ list_any (λ (y : Activation). is_in mark y.mark) (a ∷ b ∷ xs)
      outward zero reach inner = absurd (no (length lower2) (length lower) lower_size reach)
        where
          no : (i j : ℕ) → i < j → j ≤ 0 → ⊥
          no i j h l = grind (arith, h, l)
      outward (suc k) reach inner =
          ap (λ (y : Bool). y || (if nat_lt (caller_of (mine ++ more) (length lower)) (length lower) then is_marked k (Monitor mark) (mine ++ more)
          (caller_of (mine ++ more) (length lower)) else false))
          (mark_there a e w called.own level lower mine more called.stands over)
          ∙ ap (λ j. is_in mark a.mark || (if nat_lt j (length lower) then is_marked k (Monitor mark) (mine ++ more) j else false)) caller_cell
          ∙ ap (λ (y : Bool). is_in mark a.mark || (if y then is_marked k (Monitor mark) (mine ++ more) (length lower2) else false))
          (is_below (length lower2) (length lower) lower_size)
          ∙ ap (λ (cells : List ℤ). is_in mark a.mark || is_marked k (Monitor mark) cells (length lower2)) cells_are
          ∙ ap (λ (y : Bool). is_in mark a.mark || y) (inner k (reach_in (length lower2) (length lower) k lower_size reach))
        where
          reach_in : (i j l : ℕ) → i < j → j ≤ suc l → i ≤ l
          reach_in i j l h r = grind (arith, h, r)

-- ## On both sides

module _ (facts : Facts) (m : Machine) (c : Config) (p : ℕ) (level : LivingLevel) (acting : IsActing facts m c p level) (n : ℕ) where
  abbrev cells : List ℤ
  cells = cells_of m.stacks p

  abbrev base : ℕ
  base = (stack_of m.stacks p).base

  abbrev latest : Communicating
  latest = (descriptor_of m.descriptors p).communications

  abbrev AreThere : List Activation → List Entry → Type 0
  AreThere xs es =
      AreCallers facts acting.homes acting.entries c.store c.table p (stack_of m.stacks p).room level (word_of (last_activation m.stacks p)) latest xs es

  same_base : (k : ℕ) → word_of (record { process = p; cell = base }) ≡ word_of (record { process = p; cell = k }) → base ≡ k
  same_base k h = (let both : p * 2 ^ 32 + base ≡ p * 2 ^ 32 + k = cc in grind (arith, both))

  base_of : (a : Activation) (e : Entry) (lower : List ℤ) (own : Linkage)
      → StandsFor facts acting.homes c.store p a e (word_of (last_activation m.stacks p)) own level
      → StandsOver (program_in facts) acting.homes c.store p e lower cells → base ≡ length lower
  base_of a e lower own stands over =
      let same : stands.home ≡ over.home = (let both : Some stands.home ≡ Some over.home = sym stands.at ∙ ap acting.homes (sym stands.number)
      ∙ over.at in cc) in
      same_base stands.home.cell (stands.word ∙ ap (λ q. word_of (record { process = q; cell = stands.home.cell })) stands.process)
      ∙ ap (λ (h : Home). h.cell) same ∙ over.place

  base_there : (a : Activation) (xs : List Activation) (e : Entry) (es : List Entry) (lower : List ℤ) → AreThere (a ∷ xs) (e ∷ es)
      → StandsOver (program_in facts) acting.homes c.store p e lower cells → base ≡ length lower
  base_there a [] e [] lower is over = base_of a e lower is.own is.stands over
  base_there a [] e (f ∷ es) lower is over = absurd is
  base_there a (b ∷ xs) e [] lower is over = absurd is
  base_there a (b ∷ xs) e (f ∷ es) lower is over = base_of a e lower is.3.own is.3.stands over

  by_lists : (xs : List Activation) (es : List Entry) → AreThere xs es → ProcessIs (program_in facts) acting.homes c.store p es cells
      → has_mark n (stack_of m.stacks p) ≡ list_any (λ (b : Activation). is_in n b.mark) xs
  by_lists [] es callers memory = absurd callers
  by_lists (a ∷ xs) [] callers memory = absurd callers
  by_lists (a ∷ xs) (e ∷ es) callers (lower, below, over) =
      ap (λ (all : List ℤ). is_marked base (Monitor n) all base) (sym (append-nil cells))
      ∙ ap (λ j. is_marked j (Monitor n) (cells ++ []) j) (base_there a xs e es lower callers over)
      ∙ marked facts acting.homes acting.entries c.store c.table p n (stack_of m.stacks p).room level (word_of (last_activation m.stacks p)) latest a xs e es
      (length lower) lower cells []
      callers below over (grind arith) (acting.alike.holds.few.cells p)

  -- whether the process is in the monitor
  pub inside_same : has_mark n (stack_of m.stacks p) ≡ is_inside (program_in facts) c p n
  inside_same = by_lists (activity_of (program_in facts) c p).activations (acting.entries p) acting.actor.stands.callers (acting.alike.holds.memory p)
