-- Alternatives that are gone.
use Rattle.std.proofs.Common.{◌≡◌, ℕ, zero, suc, ◌+◌, ◌-◌, ◌≤◌, ℤ, List, [], ◌∷◌, ◌++◌, length, drop, refl, sym, ap, ◌∙◌, arith, length-append, length-drop}
use Rattle.std.proofs.Math.Seq.{drop-append_seam}
use Rattle.pfc_code.specs.declared.instructions.Instr.{Instr}
use Rattle.pfc_code.specs.declared.instructions.Instr.TheVariants.{ARMS, ARMR, ARMA, ARMT, ARMX}
use Rattle.pfc_machines.specs.declared.alternatives.Alternative.{Alternative}
use Rattle.pfc_machines.specs.Communications.{Communicating}
use Rattle.pfc_machines.specs.Offers.{words_in, without_last, without}
use Rattle.pfc_standing_code.specs.Effects.{Arm}
use Rattle.pfc_representation.specs.Alternatives.{IsReceiving, IsMadeBy, AreMade, none_made, one_made}
use Rattle.pfc_arrivals.proofs.Armed.{exchanged}

-- ## The words of a message

receiving_words : (depth z : ℕ) (operands : List ℤ) (to : ℕ) (a : Alternative) → IsReceiving depth z operands to a → words_in a.offer ≡ 0
receiving_words depth zero operands to a is = ap (λ (x : Alternative). words_in x.offer) is.2
receiving_words depth (suc z) operands to a is = ap (λ (x : Alternative). words_in x.offer) is.3

no_words : (words : List ℤ) (n : ℕ) → words ≡ [] → n ≡ 0 → n ≡ length words
no_words words n none same = same ∙ sym (ap (λ (xs : List ℤ). length xs) none)

pub message_words : (depth : ℕ) (i : Instr) (operands : List ℤ) (a : Alternative) (words : List ℤ) → IsMadeBy depth i operands a words
    → words_in a.offer ≡ length words
message_words depth (ARMS z to) operands a words is = ap (λ (x : Alternative). words_in x.offer) is.3 ∙ sym is.2
message_words depth (ARMR z to) operands a words is = no_words words (words_in a.offer) is.0 (receiving_words depth z operands to a is.1)
message_words depth (ARMA e d z to) operands a words is = no_words words (words_in a.offer) is.0 (ap (λ (x : Alternative). words_in x.offer) is.1)
message_words depth (ARMT to) operands a words is = no_words words (words_in a.offer) is.2 (ap (λ (x : Alternative). words_in x.offer) is.3)
message_words depth ARMX operands a words is = no_words words (words_in a.offer) is.0 (ap (λ (x : Alternative). words_in x.offer) is.1)
message_words depth i operands a words is = absurd is

-- ## All that were made

one_longer : (arms : List Arm) (arm : Arm) → length (arms ++ arm ∷ []) ≡ suc (length arms)
one_longer arms arm = length-append arms (arm ∷ []) ∙ (let h : length arms + 1 ≡ suc (length arms) = grind arith in h)

dropped : (words ws : List ℤ) (n : ℕ) → n ≡ length words → drop n (words ++ ws) ≡ ws
dropped words ws n same = ap (λ k. drop k (words ++ ws)) same ∙ drop-append_seam words ws

pub all_gone : (depth : ℕ) (e : Communicating) (alternatives : List Alternative) (words : List ℤ) (arms : List Arm) (alts : List Alternative) (ws : List ℤ)
    → AreMade depth alternatives words arms alts ws → without (length arms) (exchanged e alts ws) ≡ exchanged e alternatives words
all_gone depth e alternatives words _ _ _ none_made = refl
all_gone depth e alternatives words _ _ _ (one_made arms before ws arm a message made is) =
    ap (λ n. without n (exchanged e (a ∷ before) (message ++ ws))) (one_longer arms arm)
    ∙ ap (λ (xs : List ℤ). without (length arms) (exchanged e before xs))
    (dropped message ws (words_in a.offer) (message_words depth arm.by arm.operands a message is))
    ∙ all_gone depth e alternatives words arms before ws made

-- ## What is left

last_is : (n : ℕ) (e : Communicating) → ((f : Communicating) → without n f ≡ exchanged f (without n f).alternatives (without n f).words)
    → (alts : List Alternative)
    → without n (without_last e alts) ≡ exchanged e (without n (without_last e alts)).alternatives (without n (without_last e alts)).words
last_is n e is [] = is e
last_is n e is (a ∷ alts) = is (record e { alternatives = alts; words = drop (words_in a.offer) e.words })

pub without_is : (n : ℕ) (e : Communicating) → without n e ≡ exchanged e (without n e).alternatives (without n e).words
without_is zero e = refl
without_is (suc n) e = last_is n e (without_is n) e.alternatives

abbrev pub AreFewer : Communicating → List Alternative → List ℤ → Type 0
AreFewer e alts ws = (length alts ≤ length e.alternatives) × (length ws ≤ length e.words)

pub none_fewer : (e : Communicating) → AreFewer e e.alternatives e.words
none_fewer e = (grind arith, grind arith)

still_fewer : (e f : Communicating) (alts : List Alternative) (ws : List ℤ) → AreFewer e f.alternatives f.words → AreFewer f alts ws → AreFewer e alts ws
still_fewer e f alts ws h k = (grind (arith, h.0, k.0), grind (arith, h.1, k.1))

last_fewer : (e : Communicating) (alts : List Alternative) → e.alternatives ≡ alts → AreFewer e (without_last e alts).alternatives (without_last e alts).words
last_fewer e [] same = none_fewer e
last_fewer e (a ∷ alts) same =
    let count : length e.alternatives ≡ suc (length alts) = ap (λ (xs : List Alternative). length xs) same in
    let left : length (drop (words_in a.offer) e.words) ≡ length e.words - words_in a.offer = length-drop (words_in a.offer) e.words in
    (grind (arith, count), grind (arith, left))

pub without_fewer : (n : ℕ) (e : Communicating) → AreFewer e (without n e).alternatives (without n e).words
without_fewer zero e = none_fewer e
without_fewer (suc n) e =
    still_fewer e (without_last e e.alternatives) _ _ (last_fewer e e.alternatives refl) (without_fewer n (without_last e e.alternatives))
