use Rattle.std.proofs.Common.{◌∙◌, ◌≤◌, ◌+◌, [], ◌∷◌, ap, subst, sym, arith}
use Rattle.std.specs.List.{AllByRecursion}
use Rattle.c_memory.specs.Memories.{died}
use Rattle.stepper_memory.specs.Views.{memory_of, AllBefore}
use Rattle.stepper_memory.proofs.Dying.{one_dies, before_cleared, times_set}
use Rattle.stepper_memory.proofs.deaths.kill.Goals as goal

pub returns-in_err-grow_deaths-clause-times : goal.returns-in_err-grow_deaths-clause-times
returns-in_err-grow_deaths-clause-times c = c.grow_deaths.ensures.times (c.args.before + 1) c.requires.times

pub returns-clause-done : goal.returns-clause-done
returns-clause-done c =
    ap (λ d. memory_of d c.clear.new.table.items) c.set.ensures ∙ ap (memory_of _) c.clear.ensures
    ∙ one_dies c.grow_deaths.new.deaths c.args.table.now.items c.args.base c.args.before c.in_ok-grow_deaths.ensures.room c.requires.older
    ∙ ap (died (c.args.base ∷ [])) (c.grow_deaths.ensures.same c.args.table.now.items)

pub returns-clause-older : goal.returns-clause-older
returns-clause-older c = subst (AllBefore c.args.before) (sym c.clear.ensures) (before_cleared c.args.before c.args.table.now.items c.args.base c.requires.older)

pub returns-clause-times : goal.returns-clause-times
returns-clause-times c =
    subst (AllByRecursion (λ d. d ≤ c.args.before + 1)) (sym c.set.ensures)
    (times_set (c.args.before + 1) c.grow_deaths.new.deaths c.args.base (c.args.before + 1) (omega arith) (c.grow_deaths.ensures.times (c.args.before + 1) c.requires.times))
