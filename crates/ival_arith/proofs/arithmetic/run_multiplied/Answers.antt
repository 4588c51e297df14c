use Rattle.std.proofs.Common.{refl, sym, subst}
use Rattle.ival_core.specs.declared.value.Shape.{Shape}
use Rattle.ival_core.specs.Sets.{Has}
use Rattle.ival_core.proofs.Runs.{Steps-low}
use Rattle.ival_arith.proofs.Codes.{valid_run}
use Rattle.ival_arith.proofs.TableCodes.{multiplied_run_few, multiplied_runs}
use Rattle.ival_arith.proofs.arithmetic.run_multiplied.Goals as goal

pub lines-requires-clause-low : goal.lines-requires-clause-low
lines-requires-clause-low c =
    c.requires.left.fits _ (subst (λ (s : Shape). Has s c.args.run.low) (sym c.requires.run)
    (Steps-low c.args.run (valid_run c.args.a.now.shape c.args.a.now.shape c.args.run refl c.requires.run c.args.a.now.valid)))

pub returns-in-Few : goal.returns-in-Few
returns-in-Few c = let o = c.args.format in multiplied_run_few o.signed o.width c.args.a.now.shape c.args.b.now.shape c.shape.result.now c.lines.result.shape _ _ c.as_slice.result.now c.requires.run c.shape.ensures c.in-Few.is c.as_slice.ensures.value c.lines.ensures

pub returns-in-Many : goal.returns-in-Many
returns-in-Many c = let o = c.args.format in multiplied_runs o.signed o.width c.args.a.now.shape c.args.b.now.shape c.shape.result.now c.runs_multiplied.result.shape _ _ c.requires.run c.shape.ensures c.in-Many.is c.runs_multiplied.ensures
