use Rattle.ival_core.proofs.meeting.meet_runs.Goals as goal

pub returns-then-first-second : goal.returns-then-first-second
returns-then-first-second c n =
    let h = c.meet_from.ensures n in
    ((λ x. let p = h.0 x in (p.1, p.0)), (λ p. h.1 (p.1, p.0)))
