-- What is left from a key on begins with the entry of the least key that is not below it.
use Rattle.std.proofs.Common.{ℕ, ◌+◌, ◌∷◌, ◌∙◌, ap, sym, refl, rules}
use Rattle.ptree.specs.Entries as map
use Rattle.ptree.proofs.Maps.{entries_from-absent, entries_from-first, entries_from-end}
use Rattle.ptree.proofs.walk.WalkIterator.next.Goals as goal

pub returns-in-None-at_or_after-clause-steps : goal.returns-in-None-at_or_after-clause-steps
returns-in-None-at_or_after-clause-steps g c =
    let gone = entries_from-absent c.self.inside.tree.now c.in-Some.from c.in-None-at_or_after.ensures.least in
    (rw (← c.self.view_is, c.in-Some.is) gone, refl)

pub returns-then-key-clause-steps : goal.returns-then-key-clause-steps
returns-then-key-clause-steps g c =
    let all = c.self.inside.tree.now in
    let entry : ℕ × g.row.V.Denot = (c.in-Some-at_or_after.key, c.in-Some-at_or_after.value.now) in
    let first = entries_from-first all c.in-Some.from entry c.in-Some-at_or_after.ensures.map.ascending (sym c.in-Some-at_or_after.ensures.value) in
    let end = ap (λ (k : ℕ). entry ∷ map.entries_from all (k + 1)) c.if-key.true ∙ ap (λ es. entry ∷ es) (entries_from-end all c.in-Some-at_or_after.ensures.map) in
    rw (← c.self.view_is, c.in-Some.is) (first ∙ end)

pub returns-else-key-clause-steps : goal.returns-else-key-clause-steps
returns-else-key-clause-steps g c =
    rw (← c.self.view_is, c.in-Some.is)
    (entries_from-first c.self.inside.tree.now c.in-Some.from (c.in-Some-at_or_after.key, c.in-Some-at_or_after.value.now) c.in-Some-at_or_after.ensures.map.ascending (sym c.in-Some-at_or_after.ensures.value))

pub returns-then-key-clause-goes : goal.returns-then-key-clause-goes
returns-then-key-clause-goes g c = rw (returns-then-key-clause-steps g c) (search rules)

pub returns-else-key-clause-goes : goal.returns-else-key-clause-goes
returns-else-key-clause-goes g c = rw (returns-else-key-clause-steps g c) (search rules)
