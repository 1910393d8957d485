-- Open alternatives that are led to their branches have the code that the definition gives.
use Rattle.std.proofs.Common.{◌≡◌, ◌≤◌, ℕ, ◌+◌, ◌-◌, ◌++◌, ◌∙◌, ◌&&◌, Bool, true, if◌then◌else◌, max, List, [], ◌∷◌, length, drop, refl, sym, ap, ap₂, arith}
use Rattle.std.proofs.Common.{append_assoc, length-append, Option, Some, None}
use Rattle.pfc_tree.specs.Symbols.{Text}
use Rattle.pfc_tree.specs.trees.Exprs.{ExprTree, DesigTree}
use Rattle.pfc_tree.specs.trees.Stmts.{AcceptTree, CommTree, comm_accept, comm_send, comm_receive, timeout, terminate}
use Rattle.pfc_code.specs.declared.instructions.Instr.TheVariants.{JF, ARMS, ARMR, ARMA, ARMT, ARMX, SEL}
use Rattle.pfc_semantics.specs.Remainders.{Replica, Alternative}
use Rattle.pfc_semantics.specs.Alternatives.{message_of, receiver_of}
use Rattle.pfc_emit.specs.Patches.{has_address_at, patched}
use Rattle.pfc_emit.proofs.Patches.{length-patched}
use Rattle.pfc_translation.specs.Sites.{Site, context_of}
use Rattle.pfc_translation.specs.Codes.{Code, Lined, nothing, ◌⨾◌, one, over, with_arms}
use Rattle.pfc_translation.specs.Expressions.{expr_code, object_code}
use Rattle.pfc_translation.specs.Selects.{message_code, message_cells, receiver_code, receiver_cells, entry_of, accept_cell, accept_cells, replica_code}
use Rattle.pfc_translation.specs.Selects.{comm_code, guarded_code, alternatives_code}
use Rattle.pfc_translation.specs.Statements.{sel_code}
use Rattle.pfc_expression_code.specs.Putting.{Made, IsMade}
use Rattle.pfc_expression_code.proofs.Putting.{expr_listed, desig_listed, object_listed}
use Rattle.pfc_select_code.specs.Alternatives.{open_accept, open_timeout, open_comm, open_one, open_alternative, open_alternatives, arm_place, arm_places}
use Rattle.pfc_select_code.specs.Leading.{can_lead, led, first_branch, branch_addresses}
use Rattle.pfc_select_code.proofs.Targets.{IsSized, LedTo, sized_listed, sized_nothing, sized_both, led_one, led_behind, led_when, led_between, has_between}

-- ## What stands before an ARM

sized_expr : (s : Site) (e : ExprTree) → IsSized (expr_code s e)
sized_expr s e = sized_listed (expr_code s e) _ (expr_listed s e)

sized_object : (s : Site) (d : DesigTree) → IsSized (object_code s d)
sized_object s d = sized_listed (object_code s d) _ (object_listed s d)

sized_message : (s : Site) (m : Option ExprTree) → IsSized (message_code s m)
sized_message s None = sized_nothing
sized_message s (Some e) = sized_expr s e

sized_receiver : (s : Site) (r : Option DesigTree) → IsSized (receiver_code s r)
sized_receiver s None = sized_nothing
sized_receiver s (Some d) = sized_listed (receiver_code s (Some d)) _ (desig_listed s d)

sized_replica : (s : Site) (r : Option Replica) → IsSized (replica_code s r)
sized_replica s None = sized_nothing
sized_replica s (Some r) = λ at n. refl

-- ## One alternative

led_accept : (s : Site) (n : ℕ) (a : AcceptTree) → LedTo (open_accept s n a) (λ k. over s (λ at. ARMA (entry_of s a) (accept_cell s n) (accept_cells s n) at) k)
led_accept s n a = led_one s (λ at. ARMA (entry_of s a) (accept_cell s n) (accept_cells s n) at) refl (λ t. refl)

led_send :
    (s : Site) (d : DesigTree) (m : Option ExprTree)
    → LedTo (object_code s d ⨾ (message_code s m ⨾ one s (ARMS (message_cells s m) 0)))
    (λ k. object_code s d ⨾ (message_code s m ⨾ over s (λ at. ARMS (message_cells s m) at) k))
led_send s d m =
    led_behind (object_code s d) (message_code s m ⨾ one s (ARMS (message_cells s m) 0)) (λ k. message_code s m ⨾ over s (λ at. ARMS (message_cells s m) at) k)
    (sized_object s d)
    (led_behind (message_code s m) (one s (ARMS (message_cells s m) 0)) (λ k. over s (λ at. ARMS (message_cells s m) at) k) (sized_message s m)
    (led_one s (λ at. ARMS (message_cells s m) at) refl (λ t. refl)))

led_receive :
    (s : Site) (d : DesigTree) (r : Option DesigTree)
    → LedTo (object_code s d ⨾ (receiver_code s r ⨾ one s (ARMR (receiver_cells s r) 0)))
    (λ k. object_code s d ⨾ (receiver_code s r ⨾ over s (λ at. ARMR (receiver_cells s r) at) k))
led_receive s d r =
    led_behind (object_code s d) (receiver_code s r ⨾ one s (ARMR (receiver_cells s r) 0))
    (λ k. receiver_code s r ⨾ over s (λ at. ARMR (receiver_cells s r) at) k)
    (sized_object s d)
    (led_behind (receiver_code s r) (one s (ARMR (receiver_cells s r) 0)) (λ k. over s (λ at. ARMR (receiver_cells s r) at) k) (sized_receiver s r)
    (led_one s (λ at. ARMR (receiver_cells s r) at) refl (λ t. refl)))

led_timeout : (s : Site) (e : ExprTree) → LedTo (open_timeout s e) (λ k. expr_code s e ⨾ over s ARMT k)
led_timeout s e = led_behind (expr_code s e) (one s (ARMT 0)) (λ k. over s ARMT k) (sized_expr s e) (led_one s ARMT refl (λ t. refl))

led_guarded :
    (s : Site) (guard : Option ExprTree) (a : Code) (b : ℕ → Code) → LedTo a b → LedTo (guarded_code s guard a) (λ k. guarded_code s guard (b k))
led_guarded s None a b leads = leads
led_guarded s (Some e) a b leads = led_when s e a b leads

-- with its branch so far behind it
abbrev pub one_code : Site → ℕ → Option ExprTree → CommTree → Option Replica → ℕ → Code
one_code s n guard comm replica k = replica_code s replica ⨾ guarded_code s guard (comm_code s n comm k)

led_at :
    (s : Site) (n : ℕ) (guard : Option ExprTree) (comm : CommTree) (replica : Option Replica)
    → LedTo (open_comm s n comm) (λ k. comm_code s n comm k) → LedTo (open_one s n guard comm replica) (λ k. one_code s n guard comm replica k)
led_at s n guard comm replica leads =
    led_behind (replica_code s replica) (guarded_code s guard (open_comm s n comm)) (λ k. guarded_code s guard (comm_code s n comm k))
    (sized_replica s replica) (led_guarded s guard (open_comm s n comm) (λ k. comm_code s n comm k) leads)

-- as long, with the same strings
record Alike (a b : Code) : Type 0 where
  size : b.size ≡ a.size
  texts : b.texts ≡ a.texts
  arms : b.arms ≡ a.arms
  before : IsSized a
  after : IsSized b

alike_led : (a : Code) (b : ℕ → Code) (k : ℕ) → LedTo a b → Alike a (b k)
alike_led a b k leads =
    record {
      size = leads.size k;
      texts = leads.texts k;
      arms = leads.arms k;
      before = leads.sized;
      after =
          λ at n.
          ap length (sym (leads.put at n k))
          ∙ length-patched (a.put at n) (a.size - 1) (at + a.size + k)
          ∙ leads.sized at n
          ∙ sym (leads.size k);
    }

alike_self : (a : Code) → IsSized a → Alike a a
alike_self a sized = record { size = refl; texts = refl; arms = refl; before = sized; after = sized }

alike_both : (a b c d : Code) → Alike a b → Alike c d → Alike (a ⨾ c) (b ⨾ d)
alike_both a b c d first second =
    record {
      size = ap₂ (λ (j k : ℕ). j + k) first.size second.size;
      texts = ap₂ (λ (x y : List Text). x ++ y) first.texts second.texts;
      arms = ap₂ (λ (j k : ℕ). max j k) first.arms second.arms;
      before = sized_both a c first.before second.before;
      after = sized_both b d first.after second.after;
    }

sized_guarded : (s : Site) (guard : Option ExprTree) (a : Code) → IsSized a → IsSized (guarded_code s guard a)
sized_guarded s None a sized = sized
sized_guarded s (Some e) a sized = sized_both (expr_code s e) (over s JF a.size ⨾ a) (sized_expr s e) (sized_both (over s JF a.size) a (λ at n. refl) sized)

alike_one :
    (s : Site) (n : ℕ) (guard : Option ExprTree) (comm : CommTree) (replica : Option Replica) (k : ℕ)
    → Alike (open_one s n guard comm replica) (one_code s n guard comm replica k)
alike_one s n guard (comm_accept a p) replica k = alike_led _ _ k (led_at s n guard (comm_accept a p) replica (led_accept s n a))
alike_one s n guard (comm_send d e p) replica k =
    alike_led _ _ k (led_at s n guard (comm_send d e p) replica (led_send s d (message_of (context_of s) e)))
alike_one s n guard (comm_receive d v p) replica k =
    alike_led _ _ k (led_at s n guard (comm_receive d v p) replica (led_receive s d (receiver_of (context_of s) v)))
alike_one s n guard (timeout e p) replica k = alike_led _ _ k (led_at s n guard (timeout e p) replica (led_timeout s e))
alike_one s n guard (terminate p) replica k =
    alike_self (open_one s n guard (terminate p) replica)
    (sized_both (replica_code s replica) (guarded_code s guard (one s ARMX)) (sized_replica s replica) (sized_guarded s guard (one s ARMX) (λ at n. refl)))

-- ## One alternative is led

step_led :
    (a : Code) (b : ℕ → Code) (B X : Lined) (m k target : ℕ) (places : List (Option ℕ)) (targets : List ℕ)
    → LedTo a b → target ≡ length B + a.size + k
    → led (B ++ (a.put (length B) m ++ X)) (Some (length B + a.size - 1) ∷ places) (target ∷ targets)
    ≡ led (B ++ ((b k).put (length B) m ++ X)) places targets
step_led a b B X m k target places targets leads is =
    ap (λ (x : Lined). led x places targets)
    (ap (λ t. patched (B ++ (a.put (length B) m ++ X)) (length B + a.size - 1) t) is ∙ led_between a b B X m k leads)

step :
    (s : Site) (n : ℕ) (guard : Option ExprTree) (comm : CommTree) (replica : Option Replica) (B X : Lined) (m k target : ℕ)
    (places : List (Option ℕ)) (targets : List ℕ) → target ≡ length B + (open_one s n guard comm replica).size + k
    → led (B ++ ((open_one s n guard comm replica).put (length B) m ++ X))
    (arm_place comm (length B + (open_one s n guard comm replica).size - 1) ∷ places) (target ∷ targets)
    ≡ led (B ++ ((one_code s n guard comm replica k).put (length B) m ++ X)) places targets
step s n guard (comm_accept a p) replica B X m k target places targets is =
    step_led _ _ B X m k target places targets (led_at s n guard (comm_accept a p) replica (led_accept s n a)) is
step s n guard (comm_send d e p) replica B X m k target places targets is =
    step_led _ _ B X m k target places targets (led_at s n guard (comm_send d e p) replica (led_send s d (message_of (context_of s) e))) is
step s n guard (comm_receive d v p) replica B X m k target places targets is =
    step_led _ _ B X m k target places targets (led_at s n guard (comm_receive d v p) replica (led_receive s d (receiver_of (context_of s) v))) is
step s n guard (timeout e p) replica B X m k target places targets is =
    step_led _ _ B X m k target places targets (led_at s n guard (timeout e p) replica (led_timeout s e)) is
step s n guard (terminate p) replica B X m k target places targets is = refl

-- and can be
can_led :
    (a : Code) (b : ℕ → Code) (B X : Lined) (m : ℕ) (places : List (Option ℕ)) → LedTo a b
    → can_lead (B ++ (a.put (length B) m ++ X)) places ≡ true → can_lead (B ++ (a.put (length B) m ++ X)) (Some (length B + a.size - 1) ∷ places) ≡ true
can_led a b B X m places leads rest = ap₂ (λ x y. x && y) (has_between a b B X m leads) rest

can_step :
    (s : Site) (n : ℕ) (guard : Option ExprTree) (comm : CommTree) (replica : Option Replica) (B X : Lined) (m : ℕ) (places : List (Option ℕ))
    → can_lead (B ++ ((open_one s n guard comm replica).put (length B) m ++ X)) places ≡ true
    → can_lead (B ++ ((open_one s n guard comm replica).put (length B) m ++ X))
    (arm_place comm (length B + (open_one s n guard comm replica).size - 1) ∷ places)
    ≡ true
can_step s n guard (comm_accept a p) replica B X m places rest =
    can_led _ _ B X m places (led_at s n guard (comm_accept a p) replica (led_accept s n a)) rest
can_step s n guard (comm_send d e p) replica B X m places rest =
    can_led _ _ B X m places (led_at s n guard (comm_send d e p) replica (led_send s d (message_of (context_of s) e))) rest
can_step s n guard (comm_receive d v p) replica B X m places rest =
    can_led _ _ B X m places (led_at s n guard (comm_receive d v p) replica (led_receive s d (receiver_of (context_of s) v))) rest
can_step s n guard (timeout e p) replica B X m places rest =
    can_led _ _ B X m places (led_at s n guard (timeout e p) replica (led_timeout s e)) rest
can_step s n guard (terminate p) replica B X m places rest = rest

-- ## All alternatives

alike_all : (s : Site) (alts : List Alternative) (distances : List ℕ) → Alike (open_alternatives s alts) (alternatives_code s alts distances)
alike_all s [] distances = alike_self nothing sized_nothing
alike_all s (a ∷ rest) distances =
    alike_both (open_alternative s a) _ (open_alternatives s rest) _ (alike_one s a.next a.guard a.comm a.replica _) (alike_all s rest (drop 1 distances))

-- the first of some, in the place where it stands
first_apart : (B P R X : Lined) → B ++ ((P ++ R) ++ X) ≡ B ++ (P ++ (R ++ X))
first_apart B P R X = ap (λ (x : Lined). B ++ x) (append_assoc P R X)

first_taken : (B P R X : Lined) → B ++ (P ++ (R ++ X)) ≡ (B ++ P) ++ (R ++ X)
first_taken B P R X = sym (append_assoc B P (R ++ X))

all_led :
    (s : Site) (alts : List Alternative) (distances : List ℕ) (B X : Lined) (m first : ℕ) → length alts ≤ length distances
    → first ≡ length B + (open_alternatives s alts).size + 1
    → led (B ++ ((open_alternatives s alts).put (length B) m ++ X)) (arm_places s (length B) alts) (branch_addresses first distances)
    ≡ B ++ ((alternatives_code s alts distances).put (length B) m ++ X)
all_led s [] distances B X m first enough is = refl
all_led s (a ∷ rest) [] B X m first enough is = absurd (omega (arith, enough))
all_led s (a ∷ rest) (d ∷ distances) B X m first enough is =
    let A = open_alternative s a in
    let R = open_alternatives s rest in
    let behind = alternatives_code s rest distances in
    let k = behind.size + 1 + d in
    let one = one_code s a.next a.guard a.comm a.replica k in
    let same = alike_one s a.next a.guard a.comm a.replica k in
    let others = alike_all s rest distances in
    let P = A.put (length B) m in
    let Q = one.put (length B) m in
    let C = B ++ Q in
    let L = R.put (length B + A.size) (m + length A.texts) in
    let places = arm_places s (length B + A.size) rest in
    let targets = branch_addresses first distances in
    let from : length C ≡ length B + A.size = omega (arith, length-append B Q, same.after (length B) m, same.size) in
    let start : first ≡ length C + R.size + 1 = omega (arith, is, from) in
    let whole = all_led s rest distances C X (m + length A.texts) first (omega (arith, enough)) start in
    ap (λ (x : Lined). led x (arm_place a.comm (length B + A.size - 1) ∷ places) ((first + d) ∷ targets)) (first_apart B P L X)
    ∙ step s a.next a.guard a.comm a.replica B (L ++ X) m k (first + d) places targets (omega (arith, is, others.size))
    ∙ ap (λ (x : Lined). led x places targets) (first_taken B Q L X)
    ∙ ap (λ j. led (C ++ (R.put j (m + length A.texts) ++ X)) (arm_places s j rest) targets) (sym from)
    ∙ whole
    ∙ ap (λ j. C ++ (behind.put j (m + length A.texts) ++ X)) from
    ∙ ap₂ (λ (j : ℕ) (t : List Text). C ++ (behind.put (length B + j) (m + length t) ++ X)) (sym same.size) (sym same.texts)
    ∙ sym (first_apart B Q _ X ∙ first_taken B Q _ X)

all_can :
    (s : Site) (alts : List Alternative) (B X : Lined) (m : ℕ)
    → can_lead (B ++ ((open_alternatives s alts).put (length B) m ++ X)) (arm_places s (length B) alts) ≡ true
all_can s [] B X m = refl
all_can s (a ∷ rest) B X m =
    let A = open_alternative s a in
    let R = open_alternatives s rest in
    let same = alike_one s a.next a.guard a.comm a.replica 0 in
    let P = A.put (length B) m in
    let C = B ++ P in
    let L = R.put (length B + A.size) (m + length A.texts) in
    let places = arm_places s (length B + A.size) rest in
    let from : length C ≡ length B + A.size = omega (arith, length-append B P, same.before (length B) m) in
    ap (λ (x : Lined). can_lead x (arm_place a.comm (length B + A.size - 1) ∷ places)) (first_apart B P L X)
    ∙ can_step s a.next a.guard a.comm a.replica B (L ++ X) m places
    (ap (λ (x : Lined). can_lead x places) (first_taken B P L X)
    ∙ ap (λ j. can_lead (C ++ (R.put j (m + length A.texts) ++ X)) (arm_places s j rest)) (sym from)
    ∙ all_can s rest C X (m + length A.texts))

-- ## As it was made

length-led : (code : Lined) (places : List (Option ℕ)) (targets : List ℕ) → length (led code places targets) ≡ length code
length-led code [] targets = refl
length-led code (place ∷ places) [] = refl
length-led code (None ∷ places) (target ∷ targets) = length-led code places targets
length-led code (Some at ∷ places) (target ∷ targets) = length-led (patched code at target) places targets ∙ length-patched code at target

-- Open alternatives with more code behind them can be led.
pub alternatives_can_lead :
    (s : Site) (alts : List Alternative) (k : ℕ) (rest : Code) (x y : Made) → IsMade (with_arms k (open_alternatives s alts) ⨾ rest) x y
    → can_lead y.code (arm_places s (length x.code) alts) ≡ true
alternatives_can_lead s alts k rest x y made =
    ap (λ (l : Lined). can_lead l (arm_places s (length x.code) alts)) made.code
    ∙ all_can s alts x.code _ (length x.texts)

-- Led to branches that begin so far behind the first one, they have the code of these distances.
pub alternatives_led :
    (s : Site) (alts : List Alternative) (distances : List ℕ) (k : ℕ) (rest : Code) (x y z : Made)
    → IsMade (with_arms k (open_alternatives s alts) ⨾ rest) x y
    → z.code ≡ led y.code (arm_places s (length x.code) alts) (branch_addresses (first_branch s (length x.code) alts) distances)
    → z.texts ≡ y.texts → z.arms ≡ y.arms → length alts ≤ length distances
    → IsMade (with_arms k (alternatives_code s alts distances ⨾ rest)) x z
alternatives_led s alts distances k rest x y z made leads texts arms enough =
    let A = open_alternatives s alts in
    let D = alternatives_code s alts distances in
    let same = alike_all s alts distances in
    let first = first_branch s (length x.code) alts in
    let places = arm_places s (length x.code) alts in
    let targets = branch_addresses first distances in
    let X = rest.put (length x.code + A.size) (length x.texts + length A.texts) in
    let code : z.code ≡ x.code ++ (D ⨾ rest).put (length x.code) (length x.texts) =
    leads
    ∙ ap (λ (l : Lined). led l places targets) made.code
    ∙ all_led s alts distances x.code X (length x.texts) first enough refl
    ∙ ap₂ (λ (j : ℕ) (t : List Text). x.code ++ (D.put (length x.code) (length x.texts) ++ rest.put (length x.code + j) (length x.texts + length t)))
    (sym same.size) (sym same.texts)
    in
    record {
      code = code;
      texts = texts ∙ made.texts ∙ ap (λ (t : List Text). x.texts ++ (t ++ rest.texts)) (sym same.texts);
      arms = omega (arith, arms, made.arms, same.arms);
      size = ap length leads ∙ length-led y.code places targets ∙ made.size ∙ ap (λ j. length x.code + (j + rest.size)) (sym same.size);
    }

-- ## The decision

sized_open : (s : Site) (alts : List Alternative) → IsSized (open_alternatives s alts)
sized_open s alts = (alike_all s alts []).before

led_decision :
    (s : Site) (alts : List Alternative) (pri : Bool) (k : ℕ)
    → LedTo (with_arms k (open_alternatives s alts) ⨾ sel_code s pri None) (λ count. with_arms k (open_alternatives s alts) ⨾ sel_code s pri (Some count))
led_decision s alts pri k =
    led_behind (with_arms k (open_alternatives s alts)) (sel_code s pri None) (λ count. sel_code s pri (Some count)) (sized_open s alts)
    (led_one s (λ at. SEL (if pri then 1 else 0) at) refl (λ t. refl))

-- The decision behind open alternatives can be led to the else part.
pub decision_can_lead :
    (s : Site) (alts : List Alternative) (pri : Bool) (k : ℕ) (rest : Code) (x y : Made)
    → IsMade (with_arms k (open_alternatives s alts) ⨾ (sel_code s pri None ⨾ rest)) x y
    → has_address_at y.code (length x.code + (open_alternatives s alts).size) ≡ true
decision_can_lead s alts pri k rest x y made =
    let A = with_arms k (open_alternatives s alts) in
    let S = sel_code s pri None in
    let behind = rest.put (length x.code + A.size + S.size) (length x.texts + length A.texts + length S.texts) in
    ap₂ (λ (l : Lined) j. has_address_at l j)
    (made.code ∙ ap (λ (l : Lined). x.code ++ l) (sym (append_assoc (A.put (length x.code) (length x.texts)) _ behind)))
    (omega arith)
    ∙ has_between (A ⨾ S) _ x.code behind (length x.texts) (led_decision s alts pri k)

-- Led over so many instructions, it has the code that the definition gives.
pub decision_led :
    (s : Site) (alts : List Alternative) (pri : Bool) (k count : ℕ) (rest : Code) (x y z : Made)
    → IsMade (with_arms k (open_alternatives s alts) ⨾ (sel_code s pri None ⨾ rest)) x y
    → z.code ≡ patched y.code (length x.code + (open_alternatives s alts).size) (first_branch s (length x.code) alts + count)
    → z.texts ≡ y.texts → z.arms ≡ y.arms
    → IsMade (with_arms k (open_alternatives s alts) ⨾ (sel_code s pri (Some count) ⨾ rest)) x z
decision_led s alts pri k count rest x y z made leads texts arms =
    let A = with_arms k (open_alternatives s alts) in
    let S = sel_code s pri None in
    let T = sel_code s pri (Some count) in
    let front = A.put (length x.code) (length x.texts) in
    let behind = rest.put (length x.code + A.size + S.size) (length x.texts + length A.texts + length S.texts) in
    let target = first_branch s (length x.code) alts + count in
    record {
      code =
          leads
          ∙ ap (λ (l : Lined). patched l (length x.code + A.size) target)
          (made.code ∙ ap (λ (l : Lined). x.code ++ l) (sym (append_assoc front (S.put (length x.code + A.size) (length x.texts + length A.texts)) behind)))
          ∙ ap₂ (λ j t. patched (x.code ++ ((A ⨾ S).put (length x.code) (length x.texts) ++ behind)) j t) (omega arith) (omega arith)
          ∙ led_between (A ⨾ S) _ x.code behind (length x.texts) count (led_decision s alts pri k)
          ∙ ap (λ (l : Lined). x.code ++ l) (append_assoc front (T.put (length x.code + A.size) (length x.texts + length A.texts)) behind);
      texts = texts ∙ made.texts;
      arms = arms ∙ made.arms;
      size = ap length leads ∙ length-patched y.code (length x.code + A.size) target ∙ made.size;
    }
