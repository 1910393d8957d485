use Rattle.std.proofs.Common.{◌≡◌, ℕ, suc, ◌+◌, ◌-◌, ◌<◌, ℤ, pos, ap, sym, ◌∙◌, arith, get_or, w64, to_z, of_z}
use Rattle.std.proofs.lemmas.Int.{to_z-of_z}
use Rattle.pfc_stacks.specs.declared.refs.Ref.{Ref}
use Rattle.pfc_stacks.specs.Refs.{ref_of}
use Rattle.pfc_stacks.specs.Stacks.{Stacks, cells_of, links_up, link_at}
use Rattle.pfc_stacks.proofs.stacks.Stacks.links_up.Goals as goal

-- one link of those that are left
one_less : (stacks : Stacks) (l k : ℕ) (w : ℤ) → k < l → links_up stacks (l - (k + 1)) (link_at stacks w) ≡ links_up stacks (l - k) w
one_less stacks l k w lt =
    let left : suc (l - (k + 1)) ≡ l - k = omega arith in
    ap (λ (n : ℕ). links_up stacks n w) left

pub loop-preserved : goal.loop-preserved
loop-preserved c =
    let stacks : Stacks = c.args.self.now in
    let next : to_z w64 (of_z w64 c.cell-w.result) ≡ link_at stacks c.loop.w =
    to_z-of_z w64 c.cell-w.result (record { sfits = c.cell-w.type_inv }) ∙ c.cell-w.ensures
    ∙ ap (λ (r : Ref). get_or (cells_of stacks r.process) (r.cell + 3) (pos 0)) (c.of-r.ensures.of ∙ ap ref_of c.loop.w-is) in
    record {
      leads =
          ap (λ (w : ℤ). links_up stacks (c.args.l - (c.loop.counter + 1)) w) next
          ∙ one_less stacks c.args.l c.loop.counter c.loop.w c.loop-test.true
          ∙ ap (λ (w : ℤ). links_up stacks (c.args.l - c.loop.counter) w) (sym c.loop.w-is)
          ∙ c.loop.invariant.leads;
      own = λ none. absurd (omega arith);
    }
