use Rattle.std.proofs.Common.{sym, ◌∙◌, inl, inr, refl}
use Rattle.eva_io.proofs.Holding.{content_of-entries}
use Rattle.eva_io.proofs.mem_store.MemStoreStore.load.Goals as goal
use Rattle.eva_io.proofs.mem_store.MemStoreStore.load.Goals.{in_default-via-in-Some+else-not-fails, in_default-via-in_default}

pub returns-in-Some-clause-answer : goal.returns-in-Some-clause-answer
returns-in-Some-clause-answer c =
    let found = rw c.as_slice.ensures.value at c.in-Some.ensures in
    let copied = rw c.as_slice-in-Some.ensures.value at c.short_copy.ensures in
    rw (
      ← c.self.view_is,
      ← c.next_fails-fails.ensures.fails,
      c.if-not-fails.true,
      content_of-entries c.self.inside.files.items c.args.name.now,
      ← found,
    )
    copied

pub returns-in_default-clause-answer : goal.returns-in_default-clause-answer
returns-in_default-clause-answer c = elim c.in_default.branch [
  | in_default-via-in-Some+else-not-fails w ↦
      inl (rw (← c.self.view_is) (sym c.next_fails-fails.ensures.fails ∙ w.if-not-fails.false))
  | in_default-via-in_default w ↦
      let found = rw c.as_slice.ensures.value at w.in_default.ensures in
      inr (rw (← c.self.view_is, content_of-entries c.self.inside.files.items c.args.name.now, ← found) refl)
]

pub returns-in_default-clause-grows : goal.returns-in_default-clause-grows
returns-in_default-clause-grows c = λ other. elim c.in_default.branch [
  | in_default-via-in-Some+else-not-fails w ↦
      rw (← c.self.view_is, ← c.admit.ensures.kept other) (rw w.self-inside-is at (c.raise.ensures.grows other))
  | in_default-via-in_default w ↦
      rw (← c.self.view_is, ← c.admit.ensures.kept other) (rw w.self-inside-is at (c.raise.ensures.grows other))
]
