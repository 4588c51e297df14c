use Rattle.std.proofs.Common.{arith, ◌≡◌, ◌<◌, length}
use Rattle.std.proofs.lemmas.List.{length-append}
use Rattle.first_analysis.proofs.Rows.{held, includes_more}
use Rattle.first_analysis.proofs.row.merge.Goals as goal

pub returns-clause-first : goal.returns-clause-first
returns-clause-first c = λ env h. held c.loop-index.merged c.args.kept.now env (omega arith) (λ k d within. c.loop-index.invariant.first k d (omega arith)) h

pub returns-clause-second : goal.returns-clause-second
returns-clause-second c = λ env h. held c.loop-index.merged c.args.row.now env (omega arith) (λ k d within. c.loop-index.invariant.second k d (omega arith)) h

pub returns-in-None-clause-first : goal.returns-in-None-clause-first
returns-in-None-clause-first c = λ env h. held c.loop-index.merged c.args.kept.now env (omega arith) (λ k d within. c.loop-index.invariant.first k d (omega arith)) h

pub returns-in-None-clause-second : goal.returns-in-None-clause-second
returns-in-None-clause-second c = λ env h. held c.loop-index.merged c.args.row.now env (omega arith) (λ k d within. c.loop-index.invariant.second k d (omega arith)) h

pub loop-index-preserved : goal.loop-index-preserved
loop-index-preserved c =
    let i = c.loop-index.index in
    let so_far = c.loop-index.invariant in
    let there = c.in-Some.ensures.lookup in
    let pushed = c.in_ok-push-in-Some.ensures.ok in
    let kept_in = c.loop-index-test.true in
    record {
      long = rw (pushed, length-append) (omega arith);
      within = let w = there.3.0 in omega arith;
      first = λ k d h. rw pushed (includes_more c.loop-index.merged c.args.kept.now i c.merge.result c.index-kept-index.result so_far.long kept_in c.index-kept-index.is c.merge.ensures.first so_far.first k d h);
      second = λ k d h. rw pushed (includes_more c.loop-index.merged c.args.row.now i c.merge.result c.in-Some.content.now so_far.long there.3.0 there.1 c.merge.ensures.second so_far.second k d h);
    }
