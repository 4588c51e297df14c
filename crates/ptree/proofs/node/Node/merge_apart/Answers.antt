-- The keys of one tree are all below those of the other.
use Rattle.std.proofs.Common.{◌≢◌, ◌/◌, ◌^◌, arith, ap, sym}
use Rattle.std.specs.Prelude.{max}
use Rattle.std.proofs.Math.Nat.{le-max_left, le-max_right}
use Rattle.ptree.specs.Node.{entries, top, label}
use Rattle.ptree.proofs.Merges.{merged_low_high, merged_high_low}
use Rattle.ptree.proofs.Tops.{trees_split, merged_apart, merged_apart_turned}
use Rattle.ptree.proofs.node.Node.merge_apart.Goals as goal

pub join_of-requires-clause-apart : goal.join_of-requires-clause-apart
join_of-requires-clause-apart g c =
    let a = c.args.a.now in
    let b = c.args.b.now in
    rw (c.label-own.ensures, c.label-other.ensures, c.in_ok-first.ensures.entries, c.in_ok-second.ensures.entries)
    (merged_apart (max (top a) (top b)) a b c.requires.first c.requires.second (le-max_left (top a) (top b)) (le-max_right (top a) (top b)) c.requires.apart (g.F.Merger.merged c.args.f.now))

pub returns-then-own-other-clause-entries : goal.returns-then-own-other-clause-entries
returns-then-own-other-clause-entries g c =
    let a = c.args.a.now in
    let b = c.args.b.now in
    let less = rw (c.label-own.ensures, c.label-other.ensures) at c.if-own-other.true in
    let split = trees_split (max (top a) (top b)) a b c.requires.first c.requires.second (le-max_left (top a) (top b)) (le-max_right (top a) (top b)) c.requires.apart less in
    rw (merged_low_high (g.F.Merger.merged c.args.f.now) _ (entries a) (entries b) split)
    (rw (c.in_ok-first.ensures.entries, c.in_ok-second.ensures.entries) at c.join_of.ensures.entries)

pub join_of-requires-2-clause-apart : goal.join_of-requires-2-clause-apart
join_of-requires-2-clause-apart g c =
    let a = c.args.a.now in
    let b = c.args.b.now in
    rw (c.label-own.ensures, c.label-other.ensures, c.in_ok-first.ensures.entries, c.in_ok-second.ensures.entries)
    (merged_apart_turned (max (top a) (top b)) b a c.requires.second c.requires.first (le-max_right (top a) (top b)) (le-max_left (top a) (top b)) (λ e. c.requires.apart (sym e)) (g.F.Merger.merged c.args.f.now))

pub returns-clause-entries : goal.returns-clause-entries
returns-clause-entries g c =
    let a = c.args.a.now in
    let b = c.args.b.now in
    let bits = max (top a) (top b) in
    let le = rw (c.label-own.ensures, c.label-other.ensures) at c.if-own-other.false in
    let apart : label a ≢ label b = λ e. c.requires.apart (ap (λ n. n / 2 ^ bits) e) in
    let split = trees_split bits b a c.requires.second c.requires.first (le-max_right (top a) (top b)) (le-max_left (top a) (top b)) (λ e. c.requires.apart (sym e)) (omega arith) in
    rw (merged_high_low (g.F.Merger.merged c.args.f.now) _ (entries a) (entries b) split)
    (rw (c.in_ok-first.ensures.entries, c.in_ok-second.ensures.entries) at c.join_of-2.ensures.entries)
