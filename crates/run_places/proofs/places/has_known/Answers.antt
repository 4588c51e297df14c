use Rattle.std.proofs.Common.{take, sym, ◌∙◌, ap, subst, ℕ}
use Rattle.std.specs.Prelude.{Some}
use Rattle.cell_laws.specs.Order.{known}
use Rattle.run_places.specs.Spots.{ahead}
use Rattle.run_places.proofs.Knowing.{bits_known, bits_unknown, not_known, known_is, length-next}
use Rattle.run_places.proofs.places.has_known.Goals as goal

pub returns-then-not-known_bits : goal.returns-then-not-known_bits
returns-then-not-known_bits g c =
    not_known g.C.Cells.ops c.args.bits c.args.cell.now (take c.args.bits (ahead c.args.runs.now c.args.spot))
    (bits_unknown _ c.known_bits.result c.known_bits.new.out.items c.if-not-known_bits.true c.known_bits.ensures)

pub has-requires : goal.has-requires
has-requires g c =
    let ps = take c.args.bits (ahead c.args.runs.now c.args.spot) in
    let k = bits_known (known g.C.Cells.ops ps) c.known_bits.result c.known_bits.new.out.items c.if-not-known_bits.false c.known_bits.ensures in
    let i = known_is g.C.Cells.ops c.args.bits c.args.cell.now ps c.deref.result.now (k ∙ ap Some (sym c.deref.ensures.0)) (length-next c.args.runs.now c.args.spot c.args.bits c.requires.enough) in
    record { fine = subst (λ (n : ℕ). g.C.Cells.fine n c.args.cell.now) (sym i.0) c.requires.fine }

pub returns : goal.returns
returns g c =
    let ps = take c.args.bits (ahead c.args.runs.now c.args.spot) in
    let k = bits_known (known g.C.Cells.ops ps) c.known_bits.result c.known_bits.new.out.items c.if-not-known_bits.false c.known_bits.ensures in
    let i = known_is g.C.Cells.ops c.args.bits c.args.cell.now ps c.deref.result.now (k ∙ ap Some (sym c.deref.ensures.0)) (length-next c.args.runs.now c.args.spot c.args.bits c.requires.enough) in
    c.has.ensures ∙ ap (λ (n : ℕ). g.C.Cells.ops.has n c.args.cell.now c.deref.result.now) i.0 ∙ i.1
