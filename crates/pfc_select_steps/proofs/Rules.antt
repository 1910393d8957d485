-- The rules of going through a select, one equation each: what is pending stands for what a definition does with what comes.
use Rattle.std.proofs.Common.{◌≡◌, List, Option, Some, refl, ap, ◌∙◌}
use Rattle.pfc_tree.specs.trees.Exprs.{ExprTree, DesigTree}
use Rattle.pfc_semantics.specs.Displays.{TypedSpot}
use Rattle.pfc_semantics.specs.Remainders.{Context, Alternative, Selecting, Remainder, open_if, offer_value, offer_wait, offer_to, offer_from, offer_into}
use Rattle.pfc_semantics.specs.Alternatives.{message_of, receiver_of, from_alternatives, from_guard, from_comm, from_message, from_receiver, from_seconds}
use Rattle.pfc_semantics.specs.Expressions.{from_expr, from_desig}
use Rattle.pfc_semantics.specs.Rewriting.{from_value, from_location}

-- ## Guards

pub guard_step :
    (c : Context) (e : ExprTree) (a : Alternative) (rest : List Alternative) (s : Selecting) (k : Remainder)
    → from_expr c e (open_if a rest s k) (from_value c (open_if a rest s k)) ≡ from_guard c (Some e) a rest s k (λ t. from_alternatives c rest t k)
guard_step c e a rest s k = refl

pub ruleset guards = guard_step

-- ## Communication

pub send_step :
    (c : Context) (d : DesigTree) (e : ExprTree) (m : Option ExprTree) (a : Alternative) (rest : List Alternative) (s : Selecting) (k : Remainder)
    → m ≡ message_of c e
    → from_desig c d (offer_to m a rest s k) (from_location c (offer_to m a rest s k))
    ≡ from_desig c d (offer_to (message_of c e) a rest s k)
    (λ channel. from_message c channel.spot (message_of c e) a rest s k (λ t. from_alternatives c rest t k))
send_step c d e m a rest s k is = ap (λ x. from_desig c d (offer_to x a rest s k) (from_location c (offer_to x a rest s k))) is

pub receive_step :
    (c : Context) (d v : DesigTree) (m : Option DesigTree) (a : Alternative) (rest : List Alternative) (s : Selecting) (k : Remainder)
    → m ≡ receiver_of c v
    → from_desig c d (offer_from m a rest s k) (from_location c (offer_from m a rest s k))
    ≡ from_desig c d (offer_from (receiver_of c v) a rest s k) (λ channel. from_receiver c channel.spot
    (receiver_of c v) a rest s k (λ t. from_alternatives c rest t k))
receive_step c d v m a rest s k is = ap (λ x. from_desig c d (offer_from x a rest s k) (from_location c (offer_from x a rest s k))) is

pub timeout_step :
    (c : Context) (e : ExprTree) (a : Alternative) (rest : List Alternative) (s : Selecting) (k : Remainder)
    → from_expr c e (offer_wait a rest s k) (from_value c (offer_wait a rest s k)) ≡ from_expr c e (offer_wait a rest s k)
    (from_seconds c a s (λ t. from_alternatives c rest t k))
timeout_step c e a rest s k = refl

pub ruleset communication = timeout_step

-- ## What is given back

pub comm_kept :
    (c : Context) (a b : Alternative) (rest others : List Alternative) (s z : Selecting) (k : Remainder)
    → a ≡ b → rest ≡ others → s ≡ z
    → from_comm c a.comm a rest s k (λ t. from_alternatives c rest t k) ≡ from_comm c b.comm b others z k (λ t. from_alternatives c others t k)
comm_kept c a b rest others s z k is behind same =
    ap (λ (x : Alternative). from_comm c x.comm x rest s k (λ t. from_alternatives c rest t k)) is
    ∙ ap (λ (x : List Alternative). from_comm c b.comm b x s k (λ t. from_alternatives c x t k)) behind
    ∙ ap (λ (x : Selecting). from_comm c b.comm b others x k (λ t. from_alternatives c others t k)) same

pub ruleset kept = comm_kept

-- ## Channels and variables

pub message_step :
    (c : Context) (s : TypedSpot) (e : ExprTree) (a : Alternative) (rest : List Alternative) (z : Selecting) (k : Remainder)
    → from_expr c e (offer_value s.spot a rest z k) (from_value c (offer_value s.spot a rest z k)) ≡ from_location c (offer_to (Some e) a rest z k) s
message_step c s e a rest z k = refl

pub receiver_step :
    (c : Context) (s : TypedSpot) (d : DesigTree) (a : Alternative) (rest : List Alternative) (z : Selecting) (k : Remainder)
    → from_desig c d (offer_into s.spot a rest z k) (from_location c (offer_into s.spot a rest z k)) ≡ from_location c (offer_from (Some d) a rest z k) s
receiver_step c s d a rest z k = refl

pub ruleset locations = (message_step, receiver_step)
