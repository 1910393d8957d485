-- Who is in which list, after one process was put into a list or taken out.
use Rattle.std.proofs.Common.{◌≡◌, ◌≢◌, ℕ, ◌+◌, ◌<◌, ◌≤◌, inl, inr, Option, None, Some, List, length, get_or, set, sym, ap, ◌∙◌}
use Rattle.std.proofs.lemmas.List.{get_or-set_same, get_or-set_other, get_or_past}
use Rattle.std.proofs.lemmas.Bool.{cases_eq, cases_lt}
use Rattle.pfc_links.specs.declared.links.Member.{Member}
use Rattle.pfc_links.specs.Members.{member_at, in_list}

clash : (A : Type 0) (o : Option Member) (m : Member) → o ≡ None → o ≡ Some m → A
clash A o m e f = let g : None ≡ Some m = sym e ∙ f in cc

-- a member is a process
pub within : (ms : List (Option Member)) (p list t : ℕ) → member_at ms p ≡ in_list list t → p < length ms
within ms p list t h =
    elim (cases_lt p (length ms)) [
      | inl lt ↦ lt
      | inr le ↦ clash (p < length ms) (member_at ms p) (record { list = list; ticket = t }) (get_or_past ms p None le) h
    ]

abbrev list_of : Option Member → ℕ
list_of (Some m) = m.list
list_of None = 0

abbrev ticket_of : Option Member → ℕ
ticket_of (Some m) = m.ticket
ticket_of None = 0

pub same-list : (o : Option Member) (b t c u : ℕ) → o ≡ in_list b t → o ≡ in_list c u → b ≡ c
same-list o b t c u e f = ap list_of (sym e ∙ f)

pub same-ticket : (o : Option Member) (b t c u : ℕ) → o ≡ in_list b t → o ≡ in_list c u → t ≡ u
same-ticket o b t c u e f = ap ticket_of (sym e ∙ f)

-- another process than p, which was a member before
pub record IsOther (ms : List (Option Member)) (p q list t : ℕ) : Type 0 where
  pub away : q ≢ p
  pub was : member_at ms q ≡ in_list list t

-- who is a member after p was taken out
pub other : (ms : List (Option Member)) (p q list t : ℕ) → p < length ms → member_at (set ms p None) q ≡ in_list list t → IsOther ms p q list t
other ms p q list t lt h =
    elim (cases_eq q p) [
      | inl here ↦ clash (IsOther ms p q list t) (member_at (set ms p None) q) (record { list = list; ticket = t })
          (ap (λ n. member_at (set ms p None) n) here ∙ get_or-set_same ms p None None lt) h
      | inr away ↦ record { away = away; was = sym (get_or-set_other ms p q None None away) ∙ h }
    ]

-- who is a member after p was put into a list: p itself, or who was one
pub data Whose (ms : List (Option Member)) (p b t q c u : ℕ) : Type 0 where
  itself : q ≡ p → c ≡ b → u ≡ t → Whose ms p b t q c u
  another : q ≢ p → member_at ms q ≡ in_list c u → Whose ms p b t q c u

pub whose : (ms : List (Option Member)) (p b t q c u : ℕ) → p < length ms → member_at (set ms p (in_list b t)) q ≡ in_list c u → Whose ms p b t q c u
whose ms p b t q c u lt h =
    elim (cases_eq q p) [
      | inl here ↦
          let own : member_at (set ms p (in_list b t)) q ≡ in_list b t = ap (λ n. member_at (set ms p (in_list b t)) n) here ∙
          get_or-set_same ms p (in_list b t) None lt in
          itself here (same-list (member_at (set ms p (in_list b t)) q) c u b t h own) (same-ticket (member_at (set ms p (in_list b t)) q) c u b t h own)
      | inr away ↦ another away (sym (get_or-set_other ms p q (in_list b t) None away) ∙ h)
    ]

-- who is in no list and who is in one are not the same
pub none-apart : (ms : List (Option Member)) (p q list t : ℕ) → member_at ms p ≡ None → member_at ms q ≡ in_list list t → q ≢ p
none-apart ms p q list t none own here =
    clash ⊥ (member_at ms q) (record { list = list; ticket = t }) (ap (λ n. member_at ms n) here ∙ none) own
