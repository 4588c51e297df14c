use Rattle.std.proofs.Common.{◌↔◌, ◌≡◌, sym, ◌∙◌, refl, subst, pos}
use Rattle.std.specs.Prelude.{◌*ℤ◌}
use Rattle.std.proofs.lemmas.Result.{IfOk-weaker}
use Rattle.avalue_base.specs.Meaning.{Means}
use Rattle.aops_pointers.specs.Moves.{moved_by}
use Rattle.aops_pointers.proofs.Lone.{lone_sole, kept_of}
use Rattle.aops_pointers.proofs.moves.moved.Goals as goal

pub returns-in-Some-clause-holds : goal.returns-in-Some-clause-holds
returns-in-Some-clause-holds c l x y h m n =
    subst (λ v. Means l v (moved_by c.args.back c.args.m c.args.size x y)) (sym c.number.ensures)
    ((lone_sole c.args.back c.args.m c.args.size c.in-Some.number l c.args.a.now c.args.counts.now x y (moved_by c.args.back c.args.m c.args.size x y) (sym c.one_moved.ensures ∙ c.in-Some.is) h m n).1 refl)

pub returns-in-Some-clause-sole : goal.returns-in-Some-clause-sole
returns-in-Some-clause-sole c l x y z h s t m n k =
    subst (λ v. Means l v z ↔ (z ≡ moved_by c.args.back c.args.m c.args.size x y)) (sym c.number.ensures)
    (lone_sole c.args.back c.args.m c.args.size c.in-Some.number l c.args.a.now c.args.counts.now x y z (sym c.one_moved.ensures ∙ c.in-Some.is) h m n)

pub returns-in-None-clause-sole : goal.returns-in-None-clause-sole
returns-in-None-clause-sole c =
    IfOk-weaker c.moved_sets.result _ _
    (λ v f. λ l x y z h s t m n k.
    let g = kept_of c.args.back c.args.m c.args.size c.args.a.now c.args.counts.now (y.number *ℤ pos c.args.size) (sym c.one_moved.ensures ∙ c.in-None.is) s t k in
    f l x y z h s t m n g.bytes g.kept) c.moved_sets.ensures.sole
