use Rattle.std.proofs.Common.{◌≡◌, ◌∙◌, refl, arith}
use Rattle.c_parse_operators.proofs.code.Levels.{runs_begin, run_on, runs_end}
use Rattle.c_parse_operators.proofs.runs.runs.Goals as goal

pub growing-init : goal.growing-init
growing-init g c = (refl, omega arith, c.requires.height, λ before known. runs_begin _ _ _ _ before _ known)

pub growing-preserved : goal.growing-preserved
growing-preserved g c =
    let i = c.growing.invariant in (
      c.in_ok-grown.ensures.kept ∙ i.0,
      omega arith,
      c.in_ok-grown.ensures.height,
      λ before known. run_on _ _ _ _ _ _ _ before _ _ c.growing-test.true (i.3 before known) (c.in_ok-grown.ensures.found before),
    )

pub returns-clause-found : goal.returns-clause-found
returns-clause-found g c =
    let i = c.growing.invariant in
    let none : c.growing.left ≡ 0 = omega arith in
    λ before known. runs_end _ _ _ _ _ before _ i.2 (rw none at (i.3 before known))
