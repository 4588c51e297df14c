use Rattle.std.proofs.Common.{sym, ◌∙◌}
use Rattle.avalue_values.proofs.Mixes.{one_base}
use Rattle.avalue_values.proofs.mix.single.Goals as goal

pub returns : goal.returns
returns c = one_base c.args.bases.now c.new.result c.push.new.self.items c.new-list.result.items c.requires (sym c.is_empty.ensures ∙ c.if-is_empty.false) c.new.ensures c.in_ok-push.ensures.ok c.new-list.ensures.items
