use Rattle.std.proofs.Common.{refl, sym}
use Rattle.map_accesses.proofs.Turning.{loads_one}
use Rattle.map_accesses.proofs.laws.load_at_one.Goals as goal

pub returns : goal.returns
returns g c = λ m unit rs k s z e. sym (loads_one g.C.Cells.ops m unit rs k _ s z e refl)
