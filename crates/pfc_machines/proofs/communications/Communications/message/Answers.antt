use Rattle.std.proofs.Common.{◌≡◌, ℕ, ◌+◌, ◌-◌, ◌≤◌, ℤ, List, length, take, drop, sym, ap, ap₂, ◌∙◌, subst, arith}
use Rattle.std.specs.Prelude.{reverse}
use Rattle.std.proofs.lemmas.List.{length-reverse}
use Rattle.pfc_machines.specs.Communications.{Communicating}
use Rattle.pfc_machines.specs.Offers.{words_in}
use Rattle.pfc_machines.proofs.Ends.{stretch_is}
use Rattle.pfc_machines.proofs.communications.Communications.message.Goals as goal

pub returns-clause-words : goal.returns-clause-words
returns-clause-words c =
    let xs : List ℤ = c.deref.result.now in
    let above : ℕ = c.args.k.above in
    let n : ℕ = words_in c.args.k.alternative.offer in
    let all : c.len.result ≡ length xs = c.len.ensures ∙ sym c.deref.ensures.len in
    let words : reverse xs ≡ c.args.self.now.words = ap reverse c.deref.ensures.value ∙ ap (λ (e : Communicating). e.words) c.self.view_is in
    let size : length (reverse xs) ≡ length xs = length-reverse xs in
    let few : above + n ≤ length (reverse xs) = subst (λ (ys : List ℤ). above + n ≤ length ys) (sym words) c.requires in
    let held : above + n ≤ length xs = omega arith in
    ap₂ (λ (l m : ℕ). (let below = take (l - above) xs in take (length below - (length below - m)) (drop (length below - m) below))) all c.words.ensures
    ∙ stretch_is xs above n held
    ∙ ap (λ (ys : List ℤ). reverse (take n (drop above ys))) words
