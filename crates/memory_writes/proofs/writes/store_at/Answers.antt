use Rattle.std.proofs.Common.{◌≡◌, ◌∙◌, sym, ap, arith, FitsSigned, rules}
use Rattle.std.specs.Int.{w128}
use Rattle.std.specs.Option.{option_copied}
use Rattle.std.proofs.lemmas.Int.{to_z-of_z}
use Rattle.std.proofs.lemmas.Result.{IfOk-weaker}
use Rattle.cell_laws.specs.Elements.{width}
use Rattle.cell_laws.specs.Access.{stored}
use Rattle.map_accesses.specs.Accesses.{bit_at as bit_of}
use Rattle.map_accesses.proofs.Fitting.{small}
use Rattle.memory_writes.specs.Writes.{strong_map}
use Rattle.memory_writes.proofs.Fitting.{found_one}
use Rattle.memory_writes.proofs.writes.store_at.Goals as goal

pub returns-in-None : goal.returns-in-None
returns-in-None g c =
    IfOk-weaker c.repeated.result _ _
    (λ d h. h ∙ sym (ap (λ r. strong_map g.C.Cells.ops c.args.bits c.args.cell.now c.args.offset (option_copied r)) c.in-None.is)) c.repeated.ensures

pub bit_at-requires-clause-number : goal.bit_at-requires-clause-number
bit_at-requires-clause-number g c =
    let f : FitsSigned w128 c.args.offset = search rules in
    simp to_z-of_z (small 8 c.args.bits (width c.in-Some.map.now) c.args.offset (omega arith) c.facts.ensures.small
    (found_one c.args.bits c.args.offset (option_copied c.args.found) c.in-Some.map.now (ap option_copied c.in-Some.is) c.requires.fits)).number

pub bit_at-requires-clause-bit : goal.bit_at-requires-clause-bit
bit_at-requires-clause-bit g c =
    let f : FitsSigned w128 c.args.offset = search rules in
    simp to_z-of_z (small 8 c.args.bits (width c.in-Some.map.now) c.args.offset (omega arith) c.facts.ensures.small
    (found_one c.args.bits c.args.offset (option_copied c.args.found) c.in-Some.map.now (ap option_copied c.in-Some.is) c.requires.fits)).bit

pub store-requires-clause-inside : goal.store-requires-clause-inside
store-requires-clause-inside g c =
    let f : FitsSigned w128 c.args.offset = search rules in
    let n : c.bit_at.result ≡ bit_of 8 c.args.offset = simp to_z-of_z at c.bit_at.ensures in
    let h = (found_one c.args.bits c.args.offset (option_copied c.args.found) c.in-Some.map.now (ap option_copied c.in-Some.is) c.requires.fits).high in
    omega arith

pub returns-in-Some : goal.returns-in-Some
returns-in-Some g c =
    let f : FitsSigned w128 c.args.offset = search rules in
    let n : c.bit_at.result ≡ bit_of 8 c.args.offset = simp to_z-of_z at c.bit_at.ensures in
    IfOk-weaker c.store.result _ _
    (λ d h. h ∙ ap (λ x. stored g.C.Cells.ops c.in-Some.map.now x c.args.bits c.args.cell.now) n
    ∙ sym (ap (λ r. strong_map g.C.Cells.ops c.args.bits c.args.cell.now c.args.offset (option_copied r)) c.in-Some.is)) c.store.ensures
