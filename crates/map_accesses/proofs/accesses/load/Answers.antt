use Rattle.std.proofs.Common.{◌≡◌, ◌∙◌, sym, FitsSigned, rules}
use Rattle.std.proofs.Common.{◌+◌, ◌≤◌, arith}
use Rattle.cell_laws.specs.Elements.{width}
use Rattle.map_accesses.specs.Accesses.{bit_at as bit_of}
use Rattle.map_accesses.proofs.Fitting.{small, one_held}
use Rattle.std.specs.Int.{w128}
use Rattle.std.proofs.lemmas.Int.{to_z-of_z}
use Rattle.std.proofs.lemmas.Result.{IfOk-weaker}
use Rattle.map_accesses.proofs.Turning.{loads_none, loads_one}
use Rattle.map_accesses.proofs.accesses.load.Goals as goal

pub returns-in-None : goal.returns-in-None
returns-in-None g c =
    IfOk-weaker c.load_among.result _ _
    (λ d e rs r. e rs r ∙ loads_none g.C.Cells.ops c.args.map.now c.args.unit rs c.args.bits c.args.at.now.shape (sym c.as_single.ensures.value ∙ c.in-None.is)) c.load_among.ensures

pub bit_at-requires-clause-number : goal.bit_at-requires-clause-number
bit_at-requires-clause-number g c =
    let f : FitsSigned w128 c.in-Some.one = search rules in
    simp to_z-of_z (small c.args.unit c.args.bits (width c.args.map.now) c.in-Some.one c.requires.unit c.facts.ensures.small
    (c.requires.inside c.in-Some.one (one_held c.args.at.now c.as_single.result c.in-Some.one c.as_single.ensures.some c.in-Some.is))).number

pub bit_at-requires-clause-bit : goal.bit_at-requires-clause-bit
bit_at-requires-clause-bit g c =
    let f : FitsSigned w128 c.in-Some.one = search rules in
    simp to_z-of_z (small c.args.unit c.args.bits (width c.args.map.now) c.in-Some.one c.requires.unit c.facts.ensures.small
    (c.requires.inside c.in-Some.one (one_held c.args.at.now c.as_single.result c.in-Some.one c.as_single.ensures.some c.in-Some.is))).bit

pub load-requires-clause-inside : goal.load-requires-clause-inside
load-requires-clause-inside g c =
    let f : FitsSigned w128 c.in-Some.one = search rules in
    let n : c.bit_at.result ≡ bit_of c.args.unit c.in-Some.one = simp to_z-of_z at c.bit_at.ensures in
    let h = (c.requires.inside c.in-Some.one (one_held c.args.at.now c.as_single.result c.in-Some.one c.as_single.ensures.some c.in-Some.is)).high in
    omega arith

pub returns-in-Some : goal.returns-in-Some
returns-in-Some g c =
    let f : FitsSigned w128 c.in-Some.one = search rules in
    let n : c.bit_at.result ≡ bit_of c.args.unit c.in-Some.one = simp to_z-of_z at c.bit_at.ensures in
    IfOk-weaker c.load.result _ _
    (λ d e rs r. e ∙ loads_one g.C.Cells.ops c.args.map.now c.args.unit rs c.args.bits c.bit_at.result c.args.at.now.shape _ (sym c.as_single.ensures.value ∙ c.in-Some.is) n) c.load.ensures
