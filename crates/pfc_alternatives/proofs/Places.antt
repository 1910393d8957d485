-- Places by their numbers.
use Rattle.std.proofs.Common.{◌≡◌, ◌≢◌, ℕ, ◌+◌, ◌*◌, ◌/◌, ◌%◌, ◌<◌, ◌≤◌, Option, None, length, set, arith, sym, ap, ◌∙◌}
use Rattle.std.proofs.Math.Nat.{div-add-mod', mod-lt}
use Rattle.std.proofs.lemmas.Nat.{div-mul-add}
use Rattle.std.proofs.lemmas.List.{get_or-set_same, get_or-set_other}
use Rattle.pfc_links.specs.declared.links.Member.{Member}
use Rattle.pfc_alternatives.specs.Nodes.{Nodes, node_at}

-- whose place it is
pub process-is : (room p k : ℕ) → k < room → (p * room + k) / room ≡ p
process-is room p k lt = div-mul-add p room k lt

-- a number is that of a place
pub split : (room x : ℕ) → x ≡ x / room * room + x % room
split room x = sym (div-add-mod' x room)

pub place-within : (room x : ℕ) → 0 < room → x % room < room
place-within room x some = mod-lt x some

-- places of two processes are not the same
pub apart : (room p q j k : ℕ) → q ≢ p → j < room → k < room → q * room + k ≢ p * room + j
apart room p q j k away lt lt' e = away (sym (process-is room q k lt') ∙ ap (λ n. n / room) e ∙ process-is room p j lt)

-- nor are two of one process
pub apart-at : (m j k : ℕ) → k ≢ j → m + k ≢ m + j
apart-at m j k away e = away (omega (arith, e))

pub place-of-process : (m room long k : ℕ) → m + room ≤ long → k < room → m + k < long
place-of-process m room long k le lt = omega (arith, le, lt)

-- one place is a member of something else
abbrev pub with_node : Nodes → ℕ → Option Member → Nodes
with_node nodes x member = record nodes { members = set nodes.members x member }

pub node-same : (nodes : Nodes) (p k : ℕ) (m : Option Member) → p * nodes.room + k < length nodes.members →
    node_at (with_node nodes (p * nodes.room + k) m) p k ≡ m
node-same nodes p k m lt = get_or-set_same nodes.members (p * nodes.room + k) m None lt

pub node-other : (nodes : Nodes) (p j k : ℕ) (m : Option Member) → k ≢ j → node_at (with_node nodes (p * nodes.room + j) m) p k ≡ node_at nodes p k
node-other nodes p j k m away = get_or-set_other nodes.members (p * nodes.room + j) (p * nodes.room + k) m None (apart-at (p * nodes.room) j k away)

pub node-of-another : (nodes : Nodes) (p q j k : ℕ) (m : Option Member) → q ≢ p → j < nodes.room → k < nodes.room →
    node_at (with_node nodes (p * nodes.room + j) m) q k ≡ node_at nodes q k
node-of-another nodes p q j k m away lt lt' =
    get_or-set_other nodes.members (p * nodes.room + j) (q * nodes.room + k) m None (apart nodes.room p q j k away lt lt')
