-- Alternatives that an activation has made: what is kept of them, what is left when they are gone, and one more.
use Rattle.std.proofs.Common.{◌≡◌, ℕ, zero, suc, ◌+◌, ◌-◌, ◌<◌, ◌≤◌, max, ℤ, true, false, List, [], ◌∷◌, ◌++◌, length, take, drop, slice_get, Some, refl, sym}
use Rattle.std.proofs.Common.{ap, ◌∙◌, subst, arith, length-append, length-drop, append_assoc, drop-drop, take_at, drop_at, ◌⊎◌, inl, inr}
use Rattle.pfc_code.specs.declared.instructions.Instr.{Instr}
use Rattle.pfc_code.specs.declared.instructions.Instr.TheVariants.{ARMS, ARMR, ARMA, ARMT, ARMX}
use Rattle.pfc_code.specs.declared.images.Block.{Block as CodeBlock}
use Rattle.pfc_state.specs.declared.waits.Arm.{Arm as WaitArm}
use Rattle.pfc_translation.specs.Images.{image_of}
use Rattle.pfc_image_laws.specs.Operands.{is_end}
use Rattle.pfc_machines.specs.declared.alternatives.Alternative.{Alternative}
use Rattle.pfc_machines.specs.declared.alternatives.KeptAlternative.{KeptAlternative}
use Rattle.pfc_machines.specs.declared.rooms.Room.{Room}
use Rattle.pfc_machines.specs.Communications.{Communicating, made}
use Rattle.pfc_machines.specs.Offers.{arm_of, arms_of, listed_arm, words_in, kept, kept_under, without}
use Rattle.pfc_machines.specs.Rooms.{room_for, room_of_all, room_by, together}
use Rattle.pfc_standing_code.specs.Effects.{Arm}
use Rattle.pfc_representation.specs.Levels.{Facts, LivingLevel}
use Rattle.pfc_representation.specs.Rooms.{process_count, end_in, room_behind, HasRoomFor}
use Rattle.pfc_representation.specs.Callers.{IsWithin}
use Rattle.pfc_representation.specs.Alternatives.{IsReceiving, IsMadeBy, IsMade, AreMade, none_made, one_made}
use Rattle.pfc_kept_own_actions.proofs.Blocks.{StaysIn}
use Rattle.pfc_kept_own_actions.proofs.Within.{stretch_first, code_stays}

-- ## The words of one

receiving_words : (depth z : ℕ) (operands : List ℤ) (to : ℕ) (a : Alternative) → IsReceiving depth z operands to a → words_in a.offer ≡ 0
receiving_words depth zero operands to a is = ap (λ (x : Alternative). words_in x.offer) is.2
receiving_words depth (suc z) operands to a is = ap (λ (x : Alternative). words_in x.offer) is.3

words_by : (depth : ℕ) (i : Instr) (operands : List ℤ) (a : Alternative) (words : List ℤ) → IsMadeBy depth i operands a words → length words ≡ words_in a.offer
words_by depth (ARMS z to) operands a words is = is.2 ∙ ap (λ (x : Alternative). words_in x.offer) (sym is.3)
words_by depth (ARMR z to) operands a words is = ap (λ (ws : List ℤ). length ws) is.0 ∙ sym (receiving_words depth z operands to a is.1)
words_by depth (ARMA e d z to) operands a words is = ap (λ (ws : List ℤ). length ws) is.0 ∙ ap (λ (x : Alternative). words_in x.offer) (sym is.1)
words_by depth (ARMT to) operands a words is = ap (λ (ws : List ℤ). length ws) is.2 ∙ ap (λ (x : Alternative). words_in x.offer) (sym is.3)
words_by depth ARMX operands a words is = ap (λ (ws : List ℤ). length ws) is.0 ∙ ap (λ (x : Alternative). words_in x.offer) (sym is.1)
words_by depth i operands a words is = absurd is

words_made : (depth : ℕ) (arm : Arm) (a : Alternative) (words : List ℤ) → IsMade depth arm a words → length words ≡ words_in a.offer
words_made depth arm a words is = words_by depth arm.by arm.operands a words is

-- ## In the order in which they were made

-- the alternative with its words, among all that the process has kept
pub record IsKeptArm (depth : ℕ) (all : List ℤ) (arm : Arm) (k : KeptAlternative) : Type 0 where
  pub words : List ℤ
  pub made : IsMade depth arm k.alternative words
  pub message : take (words_in k.alternative.offer) (drop k.above all) ≡ words
  pub held : k.above + words_in k.alternative.offer ≤ length all

abbrev pub AreKeptArms : ℕ → List ℤ → List Arm → List KeptAlternative → Type 0
AreKeptArms depth all [] [] = Unit {0}
AreKeptArms depth all [] (k ∷ ks) = ⊥
AreKeptArms depth all (arm ∷ arms) [] = ⊥
AreKeptArms depth all (arm ∷ arms) (k ∷ ks) = IsKeptArm depth all arm k × AreKeptArms depth all arms ks

one_behind : (depth : ℕ) (all : List ℤ) (arms : List Arm) (ks : List KeptAlternative) (arm : Arm) (k : KeptAlternative) → AreKeptArms depth all arms ks
    → IsKeptArm depth all arm k → AreKeptArms depth all (arms ++ arm ∷ []) (ks ++ k ∷ [])
one_behind depth all [] [] arm k are is = (is, tt)
one_behind depth all [] (l ∷ ks) arm k are is = absurd are
one_behind depth all (x ∷ arms) [] arm k are is = absurd are
one_behind depth all (x ∷ arms) (l ∷ ks) arm k are is = (are.0, one_behind depth all arms ks arm k are.1 is)

one_longer : {A : Type 0} (xs : List A) (x : A) → length (xs ++ x ∷ []) ≡ suc (length xs)
one_longer xs x = (let all : length (xs ++ x ∷ []) ≡ length xs + 1 = length-append xs (x ∷ []) in grind (arith, all))

fits : (n k j z : ℕ) → n ≡ k - j → n ≡ z → j ≤ k → j + z ≤ k
fits n k j z h same less = omega (arith, h, same, less)

fits_more : (n k j z r : ℕ) → n ≡ k - j → n ≡ z + r → j ≤ k → j + z ≤ k
fits_more n k j z r h same less = omega (arith, h, same, less)

pub kept_arms : (depth : ℕ) (alternatives : List Alternative) (words : List ℤ) (arms : List Arm) (latest : List Alternative) (ws : List ℤ)
    → AreMade depth alternatives words arms latest ws → (above : ℕ) (all : List ℤ) → drop above all ≡ ws → above ≤ length all
    → AreKeptArms depth all arms (kept_under above (take (length arms) latest))
kept_arms depth alternatives words _ _ _ none_made above all is within = tt
kept_arms depth alternatives words _ _ _ (one_made arms before ws arm a message made_before made_one) above all is within =
    subst (λ n. AreKeptArms depth all (arms ++ arm ∷ []) (kept_under above (take n (a ∷ before)))) (sym (one_longer arms arm))
    (one_behind depth all arms (kept_under (above + words_in a.offer) (take (length arms) before)) arm (kept a above)
    (kept_arms depth alternatives words arms before ws made_before (above + words_in a.offer) all behind here)
    (record {
      words = message;
      made = made_one;
      message = ap (λ xs. take (words_in a.offer) xs) is
          ∙ take_at message ws (words_in a.offer) count;
      held = here;
    }))
  where
    count : length message ≡ words_in a.offer
    count = words_made depth arm a message made_one

    behind : drop (above + words_in a.offer) all ≡ ws
    behind =
        sym (drop-drop (words_in a.offer) above all) ∙ ap (λ xs. drop (words_in a.offer) xs) is ∙ drop_at message ws (words_in a.offer) count

    here : above + words_in a.offer ≤ length all
    here =
        fits_more (length (drop above all)) (length all) above (words_in a.offer) (length ws) (length-drop above all)
        (ap (λ xs. length xs) is ∙ length-append message ws ∙ ap (λ n. n + length ws) count) within

-- what the table has of them is what is kept
abbrev pub arms_in : List KeptAlternative → List WaitArm
arms_in [] = []
arms_in (k ∷ ks) = listed_arm (arm_of k.alternative.offer) ++ arms_in ks

arms_behind : (ks : List KeptAlternative) (k : KeptAlternative) → arms_in (ks ++ k ∷ []) ≡ arms_in ks ++ listed_arm (arm_of k.alternative.offer)
arms_behind [] k = nothing_more (listed_arm (arm_of k.alternative.offer))
  where
    nothing_more : (xs : List WaitArm) → xs ++ [] ≡ xs
    nothing_more [] = refl
    nothing_more (x ∷ xs) = ap (λ (ys : List WaitArm). x ∷ ys) (nothing_more xs)
arms_behind (l ∷ ks) k =
    ap (λ (xs : List WaitArm). listed_arm (arm_of l.alternative.offer) ++ xs) (arms_behind ks k)
    ∙ sym (append_assoc (listed_arm (arm_of l.alternative.offer)) (arms_in ks) (listed_arm (arm_of k.alternative.offer)))

pub arms_kept : (above : ℕ) (alternatives : List Alternative) → arms_of alternatives ≡ arms_in (kept_under above alternatives)
arms_kept above [] = refl
arms_kept above (a ∷ earlier) =
    ap (λ (xs : List WaitArm). xs ++ listed_arm (arm_of a.offer)) (arms_kept (above + words_in a.offer) earlier)
    ∙ sym (arms_behind (kept_under (above + words_in a.offer) earlier) (kept a above))

-- ## When they are gone

pub gone : (depth : ℕ) (alternatives : List Alternative) (words : List ℤ) (arms : List Arm) (latest : List Alternative) (ws : List ℤ) (callers : List ℕ)
    (room : Room)
    → AreMade depth alternatives words arms latest ws
    → without (length arms) (record { alternatives = latest; words = ws; callers = callers; room = room })
    ≡ record { alternatives = alternatives; words = words; callers = callers; room = room }
gone depth alternatives words _ _ _ callers room none_made = refl
gone depth alternatives words _ _ _ callers room (one_made arms before ws arm a message made_before made_one) =
    ap (λ n. without n (record { alternatives = a ∷ before; words = message ++ ws; callers = callers; room = room })) (one_longer arms arm)
    ∙ ap (λ (xs : List ℤ). without (length arms) (record { alternatives = before; words = xs; callers = callers; room = room }))
    (drop_at message ws (words_in a.offer) (words_made depth arm a message made_one))
    ∙ gone depth alternatives words arms before ws callers room made_before

-- nothing was made
pub none_more : (depth : ℕ) (alternatives : List Alternative) (words : List ℤ) (arms : List Arm) (latest : List Alternative) (more : List ℤ)
    → AreMade depth alternatives words arms latest more → arms ≡ [] → (latest ≡ alternatives) × (more ≡ words)
none_more depth alternatives words _ _ _ none_made none = (refl, refl)
none_more depth alternatives words _ _ _ (one_made arms before ws arm a message made_before is) none = absurd (not_nothing arms none)
  where
    not_nothing : (xs : List Arm) → xs ++ arm ∷ [] ≡ [] → ⊥
    not_nothing [] h = cc
    not_nothing (y ∷ ys) h = cc

-- ## One more

module _ (facts : Facts) (level : LivingLevel) (arms : List Arm) (here : ℕ) (latest : Communicating) (i : Instr) (z : ℕ) (a : Alternative) (words : List ℤ)
    (there : slice_get (image_of facts.tree).code here ≡ Some i) (no_end : is_end i ≡ false) (takes : room_for (process_count facts) i ≡ room_by 1 z 0)
    (size : length words ≡ z) (within : IsWithin facts level here latest) where
  makes_room : (k : ℕ) → here < end_in facts k → HasRoomFor latest (room_behind facts k here)
      → HasRoomFor latest (together (room_by 1 z 0) (room_behind facts k (here + 1)))
  makes_room k before room =
      subst (λ (r : Room). HasRoomFor latest (together r (room_behind facts k (here + 1)))) takes
      (subst (λ (is : List Instr). HasRoomFor latest (room_of_all (process_count facts) is))
      (stretch_first here (end_in facts k) (image_of facts.tree).code i before there) room)

  -- there is room for it
  pub room_for_one : (length latest.alternatives + 1 ≤ latest.room.alternatives) × (length latest.words + z ≤ latest.room.words)
  room_for_one =
      let (k, c, is, goes) = within in
      let room = makes_room k goes.before goes.rest in (
        less (length latest.alternatives) 1 (room_behind facts k (here + 1)).alternatives latest.room.alternatives room.0,
        less (length latest.words) z (room_behind facts k (here + 1)).words latest.room.words room.1,
      )
    where
      less : (n j r b : ℕ) → n + (j + r) ≤ b → n + j ≤ b
      less n j r b h = grind (arith, h)

  -- and the level goes on behind the instruction
  pub within_made : IsWithin facts (record level { arms = arms }) (here + 1) (made latest a words)
  within_made =
      let (k, c, is, goes) = within in
      let room = makes_room k goes.before goes.rest in (
        k,
        c,
        is,
        record {
          entry = grind (arith, goes.entry);
          before = before_end k c (code_stays facts k c is.0 here i goes.entry goes.before there);
          rest = (
            alternatives (length latest.alternatives) (room_behind facts k (here + 1)).alternatives latest.room.alternatives room.0,
            subst (λ n. n + (room_behind facts k (here + 1)).words ≤ latest.room.words) (sym (length-append words latest.words))
                (subst (λ n. n + length latest.words + (room_behind facts k (here + 1)).words ≤ latest.room.words) (sym size)
                (more (length latest.words) z (room_behind facts k (here + 1)).words latest.room.words room.1)),
            meetings (room_behind facts k (here + 1)).meetings latest.room.meetings room.2,
          );
        },
      )
    where
      before_end : (k : ℕ) (c : CodeBlock) → (is_end i ≡ true) ⊎ StaysIn c.entry (end_in facts k) here i → here + 1 < end_in facts k
      before_end k c (inl end) = (let both : true ≡ false = sym end ∙ no_end in cc)
      before_end k c (inr stays) = stays.0

      alternatives : (n r b : ℕ) → n + (1 + r) ≤ b → suc n + r ≤ b
      alternatives n r b h = grind (arith, h)

      more : (n j r b : ℕ) → n + (j + r) ≤ b → j + n + r ≤ b
      more n j r b h = grind (arith, h)

      meetings : (r b : ℕ) → max 0 r ≤ b → r ≤ b
      meetings r b h = grind (arith, h)
