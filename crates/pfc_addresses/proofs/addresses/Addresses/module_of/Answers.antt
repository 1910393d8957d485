use Rattle.pfc_types.specs.declared.heads.ModuleHead.{ModuleHead}
use Rattle.pfc_addresses.proofs.FirstPlaces.{looked_up}
use Rattle.pfc_addresses.proofs.addresses.Addresses.module_of.Goals as goal

pub returns : goal.returns
returns c =
    let a = c.args.self.now in
    looked_up (λ (m : ModuleHead). m.scope) a.program.now.tables.scopes.now.modules a.modules.firsts.items c.args.i c.at.result a.modules_held c.at.ensures
