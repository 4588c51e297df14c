use Rattle.std.proofs.Common.{take, sym, ◌∙◌, ap, subst, ℕ}
use Rattle.std.specs.Prelude.{Some}
use Rattle.cell_laws.specs.Order.{known}
use Rattle.run_places.specs.Spots.{ahead}
use Rattle.run_places.proofs.Knowing.{bits_known, bits_unknown, known_is, length-next}
use Rattle.run_places.proofs.Shading.{others_blank, others_shade, others_none, others_known}
use Rattle.run_places.proofs.places.with_others.Goals as goal

pub returns-then-is_blank : goal.returns-then-is_blank
returns-then-is_blank g c =
    others_blank g.C.Cells.ops c.args.bits c.args.cell.now (take c.args.bits (ahead c.args.runs.now c.args.spot)) (sym c.is_blank.ensures ∙ c.if-is_blank.true)

pub returns-then-all_pass : goal.returns-then-all_pass
returns-then-all_pass g c =
    others_shade g.C.Cells.ops c.args.bits c.args.cell.now c.in_ok-shade.shade (take c.args.bits (ahead c.args.runs.now c.args.spot)) (sym c.is_blank.ensures ∙ c.if-is_blank.false)
    (sym c.all_pass.ensures ∙ c.if-all_pass.true) c.in_ok-shade.ensures

pub returns-then-not-known_bits : goal.returns-then-not-known_bits
returns-then-not-known_bits g c =
    others_none g.C.Cells.ops c.args.bits c.args.cell.now (take c.args.bits (ahead c.args.runs.now c.args.spot)) (sym c.is_blank.ensures ∙ c.if-is_blank.false)
    (sym c.all_pass.ensures ∙ c.if-all_pass.false) (bits_unknown _ c.known_bits.result c.known_bits.new.out.items c.if-not-known_bits.true c.known_bits.ensures)

pub with_bits-requires : goal.with_bits-requires
with_bits-requires g c =
    let ps = take c.args.bits (ahead c.args.runs.now c.args.spot) in
    let k = bits_known (known g.C.Cells.ops ps) c.known_bits.result c.known_bits.new.out.items c.if-not-known_bits.false c.known_bits.ensures in
    let i = known_is g.C.Cells.ops c.args.bits c.args.cell.now ps c.deref.result.now (k ∙ ap Some (sym c.deref.ensures.0)) (length-next c.args.runs.now c.args.spot c.args.bits c.requires.enough) in
    record { fine = subst (λ (n : ℕ). g.C.Cells.fine n c.args.cell.now) (sym i.0) c.requires.fine }

pub returns : goal.returns
returns g c =
    let ps = take c.args.bits (ahead c.args.runs.now c.args.spot) in
    let k = bits_known (known g.C.Cells.ops ps) c.known_bits.result c.known_bits.new.out.items c.if-not-known_bits.false c.known_bits.ensures in
    let d = k ∙ ap Some (sym c.deref.ensures.0) in
    let i = known_is g.C.Cells.ops c.args.bits c.args.cell.now ps c.deref.result.now d (length-next c.args.runs.now c.args.spot c.args.bits c.requires.enough) in
    others_known g.C.Cells.ops c.args.bits c.args.cell.now c.in_ok-with_bits.with_bits ps c.deref.result.now (sym c.is_blank.ensures ∙ c.if-is_blank.false)
    (sym c.all_pass.ensures ∙ c.if-all_pass.false) d i.0 c.in_ok-with_bits.ensures
