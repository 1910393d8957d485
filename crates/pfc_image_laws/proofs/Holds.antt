-- What holds of each instruction of the code of a phrase, wherever it is put.
use Rattle.std.proofs.Common.{◌≡◌, ℕ, ◌+◌, ◌-◌, ◌<◌, ◌≤◌, suc, Bool, true, false, List, [], ◌∷◌, ◌++◌, length, nat_lt, ◌==◌, position, unwrap_or, Option, Some}
use Rattle.std.proofs.Common.{None, cond, refl, sym, ◌∙◌, subst, arith, length-append}
use Rattle.std.specs.Option.{IfSome}
use Rattle.std.specs.List.{position_or_len}
use Rattle.std.proofs.lemmas.Bool.Decides.{nat_tests}
use Rattle.pfc_tree.specs.Symbols.{Text}
use Rattle.pfc_tree.specs.trees.Stmts.{StmtTree, StmtTrees}
use Rattle.pfc_tree.specs.trees.Exprs.{ExprTree}
use Rattle.pfc_types.specs.Blocks.{Blocks, module_at}
use Rattle.pfc_types.specs.declared.heads.SubHead.{SubHead}
use Rattle.pfc_semantics.specs.Displays.{Spot}
use Rattle.pfc_semantics.specs.Remainders.{Alternative}
use Rattle.pfc_semantics.specs.Objects.{module_number}
use Rattle.pfc_semantics.specs.Programs.{Program, Block, block_number, block_at}
use Rattle.pfc_code.specs.declared.instructions.Instr.{Instr}
use Rattle.pfc_code.specs.declared.instructions.Instr.TheVariants.{REF, ADDR, REQ, NEW}
use Rattle.pfc_translation.specs.Sites.{Site, blocks_of, linked, level_of, is_mains, links_from, links_to, refers, cell_of}
use Rattle.pfc_translation.specs.Codes.{Code, Lined, nothing, ◌⨾◌, one, over, back, string, unseen, with_arms}
use Rattle.pfc_translation.specs.Addresses.{base_code}
use Rattle.pfc_translation.specs.Expressions.{call_instr, expr_code}
use Rattle.pfc_translation.specs.Calls.{enter_instr, resource_of}
use Rattle.pfc_translation.specs.Statements.{select_code, stmt_code, stmts_code}
use Rattle.pfc_translation.specs.Images.{instructions}
use Rattle.pfc_image_laws.specs.Operands.{address_ahead, address_back, block_in, text_in, links_in}
use Rattle.pfc_image_laws.specs.Instructions.{Each, Leads, GoesOn, NamesBlock, NamesText, StaysAbove}
use Rattle.pfc_image_laws.proofs.Phrases.{IsNameless, IsAlone, LeadsAhead, LeadsOn, LeadsBack, Reached, ElseWithin, expr, a_select, stmt, stmts}

-- ## Instructions

pub each_append :
    (Q : ℕ → Instr → Type 0) (at : ℕ) (a b : Lined) → Each Q at (instructions a) → Each Q (at + length a) (instructions b)
    → Each Q at (instructions (a ++ b))
each_append Q at [] b p q = subst (λ j. Each Q j (instructions b)) (omega arith) q
each_append Q at (i ∷ a) b p q = (p.0, each_append Q (at + 1) a b p.1 (subst (λ j. Each Q j (instructions b)) (omega arith) q))

pub each_then : (Q R : ℕ → Instr → Type 0) (at : ℕ) (code : List Instr) → ((a : ℕ) (i : Instr) → Q a i → R a i) → Each Q at code → Each R at code
each_then Q R at [] f h = tt
each_then Q R at (i ∷ code) f h = (f at i h.0, each_then Q R (at + 1) code f h.1)

if_none : (x : Option ℕ) (P : ℕ → Type 0) → x ≡ None → IfSome x P
if_none x P e = subst (λ y. IfSome y P) (sym e) tt

if_some : (x : Option ℕ) (n : ℕ) (P : ℕ → Type 0) → x ≡ Some n → P n → IfSome x P
if_some x n P e h = subst (λ y. IfSome y P) (sym e) h

-- ## What holds of one instruction

pub record Fits (g : Program) (b : Block) (from to first last : ℕ) (at : ℕ) (i : Instr) : Type 0 where
  pub leads : Leads from to at i
  pub goes_on : GoesOn at i
  pub block : NamesBlock (length g.blocks + 1) at i
  pub text : NamesText first last at i
  pub links : StaysAbove (level_of g.state.blocks b) at i

-- of code with m instructions before it and k behind it
pub Holds : Program → Block → ℕ → ℕ → Code → Type 0
Holds g b m k c =
    (at n : ℕ)
    → (length (c.put at n) ≡ c.size)
    × ((from to first last : ℕ) → from + m ≤ at → at + c.size + k ≤ to → first ≤ n → n + length c.texts ≤ last
    → Each (Fits g b from to first last) at (instructions (c.put at n)))

pub holds_nothing : (g : Program) (b : Block) (m k : ℕ) → Holds g b m k nothing
unfolding Holds
holds_nothing g b m k at n = (refl, λ from to first last h u v w. tt)

pub holds_joined : (g : Program) (b : Block) (m k : ℕ) (c d : Code) → Holds g b m (d.size + k) c → Holds g b (m + c.size) k d → Holds g b m k (c ⨾ d)
unfolding Holds
holds_joined g b m k c d p q at n =
    let x = p at n in
    let y = q (at + c.size) (n + length c.texts) in
    let second = d.put (at + c.size) (n + length c.texts) in
    let texts : length (c.texts ++ d.texts) ≡ length c.texts + length d.texts = length-append c.texts d.texts in (
      length-append (c.put at n) second ∙ omega (arith, x.0, y.0),
      λ from to first last h u v w.
          each_append (Fits g b from to first last) at (c.put at n) second
          (x.1 from to first last h (omega (arith, u)) v (omega (arith, w, texts)))
          (subst (λ j. Each (Fits g b from to first last) j (instructions second)) (omega (arith, x.0))
          (y.1 from to first last (omega (arith, h)) (omega (arith, u)) (omega (arith, v)) (omega (arith, w, texts)))),
    )

-- one instruction
holds_one :
    (s : Site) (m k : ℕ) (i : Instr)
    → ((from to first last at : ℕ) → Fits s.program s.block from to first last at i)
    → Holds s.program s.block m k (one s i)
unfolding Holds
holds_one s m k i f at n = (refl, λ from to first last h u v w. (f from to first last at, tt))

fits_alone : (g : Program) (b : Block) (i : Instr) → IsNameless i → (from to first last at : ℕ) → Fits g b from to first last at i
fits_alone g b i h from to first last at =
    record {
      leads = (if_none (address_ahead i) (λ a. (at < a) × (a ≤ to)) h.0, if_none (address_back i) (λ a. (from ≤ a) × (a ≤ at)) h.1);
      goes_on = h.2;
      block = if_none (block_in i) (λ n. n < length g.blocks + 1) h.3;
      text = if_none (text_in i) (λ n. (first ≤ n) × (n < last)) h.4;
      links = if_none (links_in i) (λ l. l ≤ level_of g.state.blocks b) h.5;
    }

holds_nameless : (s : Site) (m k : ℕ) (i : Instr) → IsNameless i → Holds s.program s.block m k (one s i)
holds_nameless s m k i h = holds_one s m k i (fits_alone s.program s.block i h)

pub holds_alone : (s : Site) (m k : ℕ) (i : Instr) → IsAlone i → Holds s.program s.block m k (one s i)
holds_alone s m k i h = holds_nameless s m k i h.0

-- ## Blocks and levels

position_within : {A : Type 0} (f : A → Bool) (xs : List A) → unwrap_or (position f xs) 0 ≤ length xs
position_within f xs = by (nat_lt (position_or_len f xs) (length xs)) refl
  where
    by : (r : Bool) → nat_lt (position_or_len f xs) (length xs) ≡ r → unwrap_or (cond r (Some (position_or_len f xs)) None) 0 ≤ length xs
    by true h = let below : position_or_len f xs < length xs = grind (arith, nat_tests) in omega (arith, below)
    by false h = omega arith

pub block_within : (g : Program) (i : ℕ) → block_number g i < length g.blocks + 1
block_within g i = let h = position_within (λ b. b.scope == i) g.blocks in omega (arith, h)

links_within : (b : Blocks) (block : Block) (i : ℕ) → links_from b block i ≤ level_of b block
links_within b block i = by (is_mains b i)
  where
    by : (r : Bool) → cond r (level_of b block) (unwrap_or (position (λ j. j == i) (linked b block.env.view)) 0) ≤ level_of b block
    by true = omega arith
    by false = position_within (λ j. j == i) (linked b block.env.view)

-- ## Instructions that name something

holds_base : (s : Site) (m k : ℕ) (v : Spot) → Holds s.program s.block m k (base_code s v)
holds_base s m k v = by (refers s v)
  where
    l : ℕ
    l = links_to s v.scope

    by : (r : Bool) → Holds s.program s.block m k (one s (cond r (REF (links_to s v.scope) (cell_of s v)) (ADDR (links_to s v.scope) (cell_of s v))))
    by true =
        holds_one s m k (REF (links_to s v.scope) (cell_of s v))
        (λ from to first last at. record { leads = (tt, tt); goes_on = refl; block = tt; text = tt; links = links_within (blocks_of s) s.block v.scope })
    by false =
        holds_one s m k (ADDR (links_to s v.scope) (cell_of s v))
        (λ from to first last at. record { leads = (tt, tt); goes_on = refl; block = tt; text = tt; links = links_within (blocks_of s) s.block v.scope })

holds_call : (s : Site) (m k : ℕ) (head : SubHead) → Holds s.program s.block m k (one s (call_instr s head))
holds_call s m k head =
    holds_one s m k (call_instr s head)
    (λ from to first last at. record {
      leads = (tt, tt);
      goes_on = refl;
      block = block_within s.program head.scope;
      text = tt;
      links = links_within (blocks_of s) s.block (block_at s.program head.scope).outer;
    })

holds_enter :
    (s : Site) (m k n i : ℕ)
    → Holds s.program s.block m k (one s (enter_instr (module_at (blocks_of s) n).resource (module_number (blocks_of s) n) (block_number s.program i)))
holds_enter s m k n i = by (module_at (blocks_of s) n).resource (module_number (blocks_of s) n)
  where
    by : (r : Bool) (j : ℕ) → Holds s.program s.block m k (one s (enter_instr r j (block_number s.program i)))
    by true j =
        holds_one s m k (enter_instr true j (block_number s.program i))
        (λ from to first last at. record { leads = (tt, tt); goes_on = refl; block = block_within s.program i; text = tt; links = tt })
    by false j =
        holds_one s m k (enter_instr false j (block_number s.program i))
        (λ from to first last at. record { leads = (tt, tt); goes_on = refl; block = block_within s.program i; text = tt; links = tt })

holds_requeue : (s : Site) (m k i : ℕ) → Holds s.program s.block m k (one s (REQ (resource_of s) (block_number s.program i)))
holds_requeue s m k i =
    holds_one s m k (REQ (resource_of s) (block_number s.program i))
    (λ from to first last at. record { leads = (tt, tt); goes_on = refl; block = block_within s.program i; text = tt; links = tt })

holds_new : (s : Site) (m k i : ℕ) → Holds s.program s.block m k (one s (NEW (block_number s.program i)))
holds_new s m k i =
    holds_one s m k (NEW (block_number s.program i))
    (λ from to first last at. record { leads = (tt, tt); goes_on = refl; block = block_within s.program i; text = tt; links = tt })

holds_string : (s : Site) (m k : ℕ) (x : Text) (w : ℕ) → Holds s.program s.block m k (string s x w)
unfolding Holds
holds_string s m k x w at n = (
  refl,
  λ from to first last h u v q. (record { leads = (tt, tt); goes_on = refl; block = tt; text = (v, omega (arith, q)); links = tt }, tt),
)

holds_ahead :
    (s : Site) (m k : ℕ) (f : ℕ → Instr) (count : ℕ) → LeadsAhead f → count ≤ k → Holds s.program s.block m k (over s f count)
unfolding Holds
holds_ahead s m k f count p within at n = (
  refl,
  λ from to first last h u v q.
      let a : ℕ = at + count in
      let same : suc a ≡ at + 1 + count = omega arith in
      let is : address_ahead (f (at + 1 + count)) ≡ Some (at + 1 + count) = subst (λ j. address_ahead (f j) ≡ Some j) same (p.0 a) in
      let others = p.1 (at + 1 + count) in (
        record {
          leads = (
            if_some (address_ahead (f (at + 1 + count))) (at + 1 + count) (λ j. (at < j) × (j ≤ to)) is (omega arith, omega (arith, u, within)),
            if_none (address_back (f (at + 1 + count))) (λ j. (from ≤ j) × (j ≤ at)) others.0,
          );
          goes_on = others.1;
          block = if_none (block_in (f (at + 1 + count))) (λ j. j < length s.program.blocks + 1) others.2;
          text = if_none (text_in (f (at + 1 + count))) (λ j. (first ≤ j) × (j < last)) others.3;
          links = if_none (links_in (f (at + 1 + count))) (λ l. l ≤ level_of (blocks_of s) s.block) others.4;
        },
        tt,
      ),
)

holds_over : (s : Site) (m k : ℕ) (f : ℕ → Instr) (count : ℕ) → LeadsOn f → count ≤ k → Holds s.program s.block m k (over s f count)
holds_over s m k f count p within = holds_ahead s m k f count p.0 within

holds_back :
    (s : Site) (m k : ℕ) (f : ℕ → Instr) (count : ℕ) → LeadsBack f → count ≤ m → Holds s.program s.block m k (back s f count)
unfolding Holds
holds_back s m k f count p within at n = (
  refl,
  λ from to first last h u v q.
      let a = (p (at - count)).0 in (
        record {
          leads = (
            if_none (address_ahead (f (at - count))) (λ j. (at < j) × (j ≤ to)) a.1,
            if_some (address_back (f (at - count))) (at - count) (λ j. (from ≤ j) × (j ≤ at)) a.0 (omega (arith, h, within), omega arith),
          );
          goes_on = a.2;
          block = if_none (block_in (f (at - count))) (λ j. j < length s.program.blocks + 1) a.3;
          text = if_none (text_in (f (at - count))) (λ j. (first ≤ j) × (j < last)) a.4;
          links = if_none (links_in (f (at - count))) (λ l. l ≤ level_of (blocks_of s) s.block) a.5;
        },
        tt,
      ),
)

holds_unseen : (g : Program) (b : Block) (m k : ℕ) (c : Code) → Holds g b 0 0 c → Holds g b m k (unseen c)
unfolding Holds
holds_unseen g b m k c p at n = (refl, λ from to first last h u v q. tt)

holds_select : (g : Program) (b : Block) (m k n : ℕ) (c : Code) → Holds g b m k c → Holds g b m k (with_arms n c)
unfolding Holds
holds_select g b m k n c p at x = p at x

-- ## Phrases

pub expr_holds : (s : Site) (e : ExprTree) (m k : ℕ) → Holds s.program s.block m k (expr_code s e)
expr_holds s e =
    expr Holds holds_nothing holds_joined holds_alone holds_base holds_call holds_enter holds_requeue holds_new holds_string holds_over holds_back
    holds_unseen s e

holds_decision :
    (s : Site) (pri : Bool) (alts : List Alternative) (ds : List ℕ) (branches : Code) (else_at : Option ℕ) (otherwise : Code) (m k : ℕ)
    → Reached branches.size alts ds → ElseWithin else_at (branches.size + (otherwise.size + k))
    → ((j : ℕ) → Holds s.program s.block j (otherwise.size + k) branches) → ((j : ℕ) → Holds s.program s.block j k otherwise)
    → Holds s.program s.block m k (select_code s pri alts ds branches else_at otherwise)
holds_decision =
    a_select Holds holds_nothing holds_joined holds_alone holds_base holds_call holds_enter holds_requeue holds_new holds_string holds_over holds_back
    holds_unseen holds_nameless holds_ahead holds_select

pub stmt_holds : (s : Site) (n : ℕ) (t : StmtTree) (m k : ℕ) → Holds s.program s.block m k (stmt_code s n t)
stmt_holds s n t =
    stmt Holds holds_nothing holds_joined holds_alone holds_base holds_call holds_enter holds_requeue holds_new holds_string holds_over holds_back
    holds_unseen holds_decision s n t

pub stmts_hold : (s : Site) (n : ℕ) (ts : StmtTrees) (m k : ℕ) → Holds s.program s.block m k (stmts_code s n ts)
stmts_hold s n ts =
    stmts Holds holds_nothing holds_joined holds_alone holds_base holds_call holds_enter holds_requeue holds_new holds_string holds_over holds_back
    holds_unseen holds_decision s n ts

pub held_size : (g : Program) (b : Block) (m k : ℕ) (c : Code) → Holds g b m k c → (at n : ℕ) → length (c.put at n) ≡ c.size
unfolding Holds
held_size g b m k c h at n = (h at n).0

pub held_each :
    (g : Program) (b : Block) (m k : ℕ) (c : Code) → Holds g b m k c → (at n from to first last : ℕ) → from + m ≤ at → at + c.size + k ≤ to → first ≤ n
    → n + length c.texts ≤ last → Each (Fits g b from to first last) at (instructions (c.put at n))
unfolding Holds
held_each g b m k c h at n from to first last u v w z = (h at n).1 from to first last u v w z

-- ## One phrase alone

pub stmt_size : (s : Site) (n : ℕ) (t : StmtTree) (at strings : ℕ) → length ((stmt_code s n t).put at strings) ≡ (stmt_code s n t).size
unfolding Holds
stmt_size s n t at strings = (stmt_holds s n t 0 0 at strings).0

pub stmt_each :
    (s : Site) (n : ℕ) (t : StmtTree) (at strings : ℕ)
    → Each (Fits s.program s.block at (at + (stmt_code s n t).size) strings (strings + length (stmt_code s n t).texts)) at
    (instructions ((stmt_code s n t).put at strings))
unfolding Holds
stmt_each s n t at strings =
    (stmt_holds s n t 0 0 at strings).1 at (at + (stmt_code s n t).size) strings (strings + length (stmt_code s n t).texts) (omega arith) (omega arith)
    (omega arith) (omega arith)

-- what holds of each instruction that fits
pub each_leads :
    (g : Program) (b : Block) (from to first last at : ℕ) (code : List Instr) → Each (Fits g b from to first last) at code → Each (Leads from to) at code
each_leads g b from to first last at code h = each_then (Fits g b from to first last) (Leads from to) at code (λ a i f. f.leads) h

pub each_goes_on :
    (g : Program) (b : Block) (from to first last at : ℕ) (code : List Instr) → Each (Fits g b from to first last) at code → Each GoesOn at code
each_goes_on g b from to first last at code h = each_then (Fits g b from to first last) GoesOn at code (λ a i f. f.goes_on) h

pub each_block :
    (g : Program) (b : Block) (from to first last at : ℕ) (code : List Instr) → Each (Fits g b from to first last) at code
    → Each (NamesBlock (length g.blocks + 1)) at code
each_block g b from to first last at code h =
    each_then (Fits g b from to first last) (NamesBlock (length g.blocks + 1)) at code (λ a i f. f.block) h

pub each_text :
    (g : Program) (b : Block) (from to first last at : ℕ) (code : List Instr) → Each (Fits g b from to first last) at code
    → Each (NamesText first last) at code
each_text g b from to first last at code h = each_then (Fits g b from to first last) (NamesText first last) at code (λ a i f. f.text) h

pub each_links :
    (g : Program) (b : Block) (from to first last at : ℕ) (code : List Instr) → Each (Fits g b from to first last) at code
    → Each (StaysAbove (level_of g.state.blocks b)) at code
each_links g b from to first last at code h =
    each_then (Fits g b from to first last) (StaysAbove (level_of g.state.blocks b)) at code (λ a i f. f.links) h
