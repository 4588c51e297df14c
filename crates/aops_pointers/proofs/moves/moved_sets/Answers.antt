use Rattle.std.proofs.Common.{sym, subst, ◌∙◌, ap, pos}
use Rattle.std.specs.Prelude.{◌*ℤ◌}
use Rattle.std.specs.Option.{option_copied}
use Rattle.std.proofs.lemmas.Result.{IfOk-weaker}
use Rattle.ival_core.specs.Ivals.{Holds}
use Rattle.avalue_base.specs.Meaning.{Means}
use Rattle.aops.proofs.Giving.{means_alone}
use Rattle.aops_pointers.specs.Moves.{at_number, summed, moved_by}
use Rattle.aops_pointers.proofs.Moving.{blend_holds, moved_is, some_weaker}
use Rattle.aops.proofs.Alone.{converted_sole}
use Rattle.aops_pointers.proofs.Sole.{bytes_known, only_count, IfOk-and}
use Rattle.aops_pointers.proofs.moves.moved_sets.Goals as goal

pub returns-in-None-clause-holds : goal.returns-in-None-clause-holds
returns-in-None-clause-holds c =
    IfOk-weaker c.blend.result _ _ (λ v e. λ l x y h m n. blend_holds l c.args.back c.args.m c.args.size c.args.a.now c.args.counts.now v x y e m n) c.blend.ensures

pub returns-in-Some-clause-holds : goal.returns-in-Some-clause-holds
returns-in-Some-clause-holds c =
    IfOk-weaker c.shifted_by.result _ _
    (λ v f. λ l x y h m n.
    let p = means_alone l c.args.counts.now c.in-Some.numbers.now y (sym c.numbers_alone.ensures.value ∙ ap option_copied c.in-Some.is) n in
    subst (Means l v) (moved_is c.args.back c.args.m c.args.size x y p.0)
    (subst (λ k. Means l v (at_number k (summed c.args.back x.number (y.number *ℤ pos c.args.size)) x)) h
    (f l x (y.number *ℤ pos c.args.size) h m
    (some_weaker c.in_bytes.result _ (λ s. Holds s (y.number *ℤ pos c.args.size)) (λ s g. g y.number p.1) c.in_bytes.ensures.holds)))) c.shifted_by.ensures.holds

pub returns-in-Some-clause-sole : goal.returns-in-Some-clause-sole
returns-in-Some-clause-sole c =
    IfOk-and c.shifted_by.result _ _ _
    (λ v f a. λ l x y z h s t m n i k.
    let e = sym c.numbers_alone.ensures.value ∙ ap option_copied c.in-Some.is in
    let p = means_alone l c.args.counts.now c.in-Some.numbers.now y e n in
    let o = only_count l c.args.counts.now c.in-Some.numbers.now y t e n in
    let b = bytes_known c.in_bytes.result c.in-Some.numbers.now c.args.size y.number c.in_bytes.ensures.single c.in_bytes.ensures.leaves o i in
    converted_sole l v (moved_by c.args.back c.args.m c.args.size x y) z
    (subst (Means l v) (moved_is c.args.back c.args.m c.args.size x y p.0)
    (subst (λ k. Means l v (at_number k (summed c.args.back x.number (y.number *ℤ pos c.args.size)) x)) h
    (f l x (y.number *ℤ pos c.args.size) h m
    (some_weaker c.in_bytes.result _ (λ s. Holds s (y.number *ℤ pos c.args.size)) (λ s g. g y.number p.1) c.in_bytes.ensures.holds))))
    (a l b.0 (y.number *ℤ pos c.args.size) b.1 s b.2 k)) c.shifted_by.ensures.holds c.shifted_by.ensures.alone
