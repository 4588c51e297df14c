use Rattle.std.proofs.Common.{sym, ◌∙◌, ap, subst, ℕ}
use Rattle.std.specs.Prelude.{Some}
use Rattle.cell_laws.specs.Elements.{spread}
use Rattle.cell_laws.specs.Order.{known}
use Rattle.run_places.proofs.Knowing.{bits_known, bits_unknown}
use Rattle.run_merges.proofs.Allowing.{known_no, known_yes}
use Rattle.run_merges.proofs.allowed.is_known.Goals as goal

pub returns-then-not-known_bits : goal.returns-then-not-known_bits
returns-then-not-known_bits g c =
    known_no g.C.Cells.ops c.args.bits c.args.first.now c.args.second.now (bits_unknown _ c.known_bits.result c.known_bits.new.out.items c.if-not-known_bits.true c.known_bits.ensures)

pub has-requires : goal.has-requires
has-requires g c =
    let k = bits_known (known g.C.Cells.ops (spread c.args.bits c.args.first.now 0 c.args.bits)) c.known_bits.result c.known_bits.new.out.items c.if-not-known_bits.false c.known_bits.ensures in
    let i = known_yes g.C.Cells.ops c.args.bits c.args.first.now c.args.second.now c.deref.result.now (k ∙ ap Some (sym c.deref.ensures.0)) in
    record { fine = subst (λ (n : ℕ). g.C.Cells.fine n c.args.second.now) (sym i.0) c.requires.second }

pub returns : goal.returns
returns g c =
    let k = bits_known (known g.C.Cells.ops (spread c.args.bits c.args.first.now 0 c.args.bits)) c.known_bits.result c.known_bits.new.out.items c.if-not-known_bits.false c.known_bits.ensures in
    let i = known_yes g.C.Cells.ops c.args.bits c.args.first.now c.args.second.now c.deref.result.now (k ∙ ap Some (sym c.deref.ensures.0)) in
    c.has.ensures ∙ ap (λ (n : ℕ). g.C.Cells.ops.has n c.args.second.now c.deref.result.now) i.0 ∙ i.1
