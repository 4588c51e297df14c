use Rattle.std.proofs.Common.{◌++◌, ◌∷◌, [], ◌∙◌, ap, sym}
use Rattle.avalue_values.proofs.Values.{address_none, address_some}
use Rattle.avalue_values.proofs.value.AVal.address.Goals as goal

pub returns-then-is_none : goal.returns-then-is_none
returns-then-is_none c = address_none c.args.base.0 c.args.offsets c.empty.result c.number.result c.number.ensures c.empty.ensures.value (sym c.is_none.ensures ∙ c.if-is_none.true)

pub returns : goal.returns
returns c =
    address_some c.args.base.0 c.args.offsets c.empty-2.result c.new.result c.push.new.self.items c.new.ensures.base c.new.ensures.offsets c.empty-2.ensures.value
    (c.in_ok-push.ensures.ok ∙ ap (λ xs. xs ++ c.new.result ∷ []) c.new-list.ensures.items) (sym c.is_none.ensures ∙ c.if-is_none.false)
