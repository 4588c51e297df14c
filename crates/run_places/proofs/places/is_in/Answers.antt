use Rattle.std.proofs.Common.{take, sym, ◌∙◌}
use Rattle.run_places.specs.Spots.{ahead}
use Rattle.run_places.proofs.Knowing.{in_start, in_admitted, in_bare, in_known, admitted_list, bare_list}
use Rattle.run_places.proofs.places.is_in.Goals as goal

pub returns-then-starts_in : goal.returns-then-starts_in
returns-then-starts_in g c =
    in_start g.C.Cells.ops c.args.bits c.args.cell.now (take c.args.bits (ahead c.args.runs.now c.args.spot)) (sym c.starts_in.ensures ∙ c.if-starts_in.true)

pub returns-then-all_pass : goal.returns-then-all_pass
returns-then-all_pass g c =
    let ps = take c.args.bits (ahead c.args.runs.now c.args.spot) in
    in_admitted g.C.Cells.ops c.args.bits c.args.cell.now ps (sym c.starts_in.ensures ∙ c.if-starts_in.false)
    (sym (admitted_list g.C.Cells.ops c.args.bits c.args.cell.now ps) ∙ sym c.all_pass.ensures ∙ c.if-all_pass.true)

pub returns-then-all_pass-2 : goal.returns-then-all_pass-2
returns-then-all_pass-2 g c =
    let ps = take c.args.bits (ahead c.args.runs.now c.args.spot) in
    in_bare g.C.Cells.ops c.args.bits c.args.cell.now ps (sym c.starts_in.ensures ∙ c.if-starts_in.false)
    (sym (admitted_list g.C.Cells.ops c.args.bits c.args.cell.now ps) ∙ sym c.all_pass.ensures ∙ c.if-all_pass.false)
    (sym (bare_list g.C.Cells.ops c.args.cell.now ps) ∙ sym c.all_pass-2.ensures ∙ c.if-all_pass-2.true)

pub returns : goal.returns
returns g c =
    let ps = take c.args.bits (ahead c.args.runs.now c.args.spot) in
    c.has_known.ensures ∙ in_known g.C.Cells.ops c.args.bits c.args.cell.now ps (sym c.starts_in.ensures ∙ c.if-starts_in.false)
    (sym (admitted_list g.C.Cells.ops c.args.bits c.args.cell.now ps) ∙ sym c.all_pass.ensures ∙ c.if-all_pass.false)
    (sym (bare_list g.C.Cells.ops c.args.cell.now ps) ∙ sym c.all_pass-2.ensures ∙ c.if-all_pass-2.false)
