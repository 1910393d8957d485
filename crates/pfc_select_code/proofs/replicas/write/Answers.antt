use Rattle.std.proofs.Common.{◌≡◌, ℤ, subst, to_z, of_z, w32, arith}
use Rattle.std.proofs.lemmas.Int.{ints}
use Rattle.pfc_code.specs.declared.instructions.Instr.{Instr}
use Rattle.pfc_code.specs.declared.instructions.Instr.TheVariants.{LIT, STORE}
use Rattle.pfc_translation.specs.Codes.{one}
use Rattle.pfc_translation.specs.Addresses.{base_code}
use Rattle.pfc_addresses.specs.Sites.{site_view}
use Rattle.pfc_expression_code.specs.Putting.{IsMade}
use Rattle.pfc_select_code.specs.Values.{spread_spot}
use Rattle.pfc_select_code.proofs.Parts.{three_ok}
use Rattle.pfc_select_code.proofs.replicas.write.Goals as goal

pub returns-clause-code : goal.returns-clause-code
returns-clause-code c =
    let s = site_view c.args.site in
    let same : to_z w32 (of_z w32 c.args.value) ≡ c.args.value = omega (arith, ints) in
    three_ok c.put-3.result (base_code s (spread_spot s c.args.name.now)) (one s (LIT c.args.value)) (one s (STORE 1)) c.args.made.now c.put.new.self
    c.put-2.new.self c.put-3.new.self
    (subst (λ (i : Instr). IsMade (one s i) c.args.made.now c.put.new.self) c.base.ensures.instr c.in_ok-put.ensures.code)
    (subst (λ (v : ℤ). IsMade (one s (LIT v)) c.put.new.self c.put-2.new.self) same c.in_ok-put-2.ensures.code)
    c.put-3.ensures.code
