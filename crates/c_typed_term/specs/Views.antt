-- The plain trees that the code's trees stand for.
use Rattle.std.specs.Prelude.{ℕ, List, [], ◌∷◌, map, Bool, true, false, cond, pos, Option, None, Some, option_map}
use Rattle.c_base.specs.declared.operators.BinOp.TheVariants.{Add}
use Rattle.c_types.specs.Types as types
use Rattle.c_types.specs.Views.{type_of}
use Rattle.c_types.specs.Steps.{stepped}
use Rattle.c_typed_term.specs.Terms as plain
use Rattle.c_typed_term.specs.Terms.{Sort, Term, Place, PointersTo, Predicate}
use Rattle.c_typed_term.specs.declared.term.TermSort.{TermSort}
use Rattle.c_typed_term.specs.declared.term.TermSort.TheVariants as sort
use Rattle.c_typed_term.specs.declared.term.TTerm.{TTerm, fold-TTerm}
use Rattle.c_typed_term.specs.declared.term.TTerm.TheOpen.{TTerm-F, TTermRoot-F, TTermStep-F, TTermOperand-F, TTermPlace-F}
use Rattle.c_typed_term.specs.declared.term.TTermRoot.{TTermRoot, fold-TTermRoot}
use Rattle.c_typed_term.specs.declared.term.TTermStep.{TTermStep, fold-TTermStep}
use Rattle.c_typed_term.specs.declared.term.TTermOperand.{TTermOperand, fold-TTermOperand}
use Rattle.c_typed_term.specs.declared.term.TTermPlace.{TTermPlace, fold-TTermPlace}
use Rattle.c_typed_term.specs.declared.predicate.TRange.{TRange}
use Rattle.c_typed_term.specs.declared.predicate.TPointers.{TPointers}
use Rattle.c_typed_term.specs.declared.predicate.TRelation.{TRelation}
use Rattle.c_typed_term.specs.declared.predicate.TPred.{TPred, fold-TPred}
use Rattle.c_typed_term.specs.declared.predicate.TPred.TheOpen.{TPred-F, Quantified-F}
use Rattle.c_typed_term.specs.declared.contract.TAssigns.{TAssigns}
use Rattle.c_typed_term.specs.declared.contract.TBehaviour.{TBehaviour}
use Rattle.c_typed_term.specs.declared.contract.TContract.{TContract}

abbrev pub sort_of : TermSort → Sort
sort_of sort.Numbers = plain.Numbers
sort_of (sort.Pointer to) = plain.Pointer (type_of to)
sort_of (sort.ToPointer to) = plain.ToPointer (type_of to)
sort_of (sort.Pointers to) = plain.Pointers (type_of to)

abbrev pub term_step : TTerm-F Term Place (Place → Place) (Term → Term) Place → Term
term_step (TTerm-F.Number n) = plain.Number (pos n)
term_step (TTerm-F.Bound depth) = plain.Bound depth
term_step TTerm-F.Null = plain.Null
term_step (TTerm-F.Negate term) = plain.Negate term
term_step (TTerm-F.Run first more) = stepped more first
term_step (TTerm-F.Value place t) = plain.Value (type_of t) place
term_step (TTerm-F.Address place t) = plain.Address (type_of t) place
term_step (TTerm-F.Decay place t) = plain.Address (type_of t) place
term_step (TTerm-F.Cast kind term) = plain.Cast kind term
term_step (TTerm-F.At when term) = plain.At when term

abbrev pub root_step : TTermRoot-F Term Place (Place → Place) (Term → Term) Place → Place
root_step (TTermRoot-F.Object base) = plain.Object base.0
root_step (TTermRoot-F.Formal base) = plain.Formal base.0
root_step (TTermRoot-F.Deref term t) = plain.Pointed term (type_of t)
root_step (TTermRoot-F.Result t) = plain.Result (type_of t)
root_step (TTermRoot-F.Slot slot t) = plain.Slot slot (type_of t)

abbrev pub step_step : TTermStep-F Term Place (Place → Place) (Term → Term) Place → Place → Place
step_step (TTermStep-F.Member c m) p = plain.Member p c m
step_step (TTermStep-F.Element term t n) p = plain.Element p term (type_of t) n
step_step (TTermStep-F.Follow t) p = plain.Pointed (plain.Value (types.Pointer (type_of t)) p) (type_of t)
step_step (TTermStep-F.Beyond term t) p =
    plain.Pointed (plain.Operator Add (plain.Pointer (type_of t)) (plain.Value (types.Pointer (type_of t)) p) term) (type_of t)

abbrev pub operand_step : TTermOperand-F Term Place (Place → Place) (Term → Term) Place → Term → Term
operand_step o left = plain.Operator o.operator (sort_of o.sort) left o.operand

abbrev pub place_step : TTermPlace-F Term Place (Place → Place) (Term → Term) Place → Place
place_step p = stepped p.steps p.root

abbrev pub term_of : TTerm → Term
term_of = fold-TTerm Term Place (Place → Place) (Term → Term) Place term_step root_step step_step operand_step place_step

abbrev pub root_of : TTermRoot → Place
root_of = fold-TTermRoot Term Place (Place → Place) (Term → Term) Place term_step root_step step_step operand_step place_step

-- a step takes a place to the next one
abbrev pub step_of : TTermStep → Place → Place
step_of = fold-TTermStep Term Place (Place → Place) (Term → Term) Place term_step root_step step_step operand_step place_step

-- an operator with its right operand takes what stands on its left
abbrev pub operand_of : TTermOperand → Term → Term
operand_of = fold-TTermOperand Term Place (Place → Place) (Term → Term) Place term_step root_step step_step operand_step place_step

abbrev pub place_of : TTermPlace → Place
place_of = fold-TTermPlace Term Place (Place → Place) (Term → Term) Place term_step root_step step_step operand_step place_step

abbrev pub range_of : TRange → Term × Term
range_of r = (term_of r.low, term_of r.high)

abbrev pub pointers_of : TPointers → PointersTo
pointers_of p = record { first = term_of p.first; ctype = type_of p.ctype; range = option_map range_of p.range }

abbrev pub relation_of : TRelation → plain.Relation
relation_of r = record { relation = r.relation; sort = sort_of r.sort; right = term_of r.right }

-- predicates with one connective between, from the left
abbrev pub run : (Predicate → Predicate → Predicate) → Predicate → List Predicate → Predicate
run connect p [] = p
run connect p (q ∷ more) = run connect (connect p q) more

abbrev pub predicate_step : TPred-F Predicate Predicate → Predicate
predicate_step (TPred-F.Constant truth) = plain.Truth truth
predicate_step (TPred-F.Relations first more) = plain.Related (term_of first) (map relation_of more)
predicate_step (TPred-F.Not p) = plain.Not p
predicate_step (TPred-F.All p more) = run plain.And p more
predicate_step (TPred-F.Any p more) = run plain.Or p more
predicate_step (TPred-F.Implies p q) = plain.Implies p q
predicate_step (TPred-F.Equivalent p more) = run plain.Equivalent p more
predicate_step (TPred-F.Choice t p q) = plain.Choice (term_of t) p q
predicate_step (TPred-F.Access sort pointers) = plain.Access sort (pointers_of pointers)
predicate_step (TPred-F.Separated all) = plain.Separated (map pointers_of all)
predicate_step (TPred-F.Quantified quantified) = quantified

abbrev pub quantified_step : Quantified-F Predicate Predicate → Predicate
quantified_step q =
    cond q.for_all
    (plain.ForAll (record { kind = q.kind; low = term_of q.low; above = q.above; high = term_of q.high; below = q.below }) q.body)
    (plain.Exists (record { kind = q.kind; low = term_of q.low; above = q.above; high = term_of q.high; below = q.below }) q.body)

abbrev pub predicate_of : TPred → Predicate
predicate_of = fold-TPred Predicate Predicate predicate_step quantified_step

abbrev pub assigns_of : TAssigns → plain.Assigns
assigns_of a = record { result = a.result; locations = map pointers_of a.locations; sources = option_map (map term_of) a.sources }

abbrev pub behaviour_of : TBehaviour → plain.Behaviour
behaviour_of b = record {
  assumptions = map predicate_of b.assumptions;
  preconditions = map predicate_of b.preconditions;
  postconditions = map predicate_of b.postconditions;
}

abbrev pub contract_of : TContract → plain.Contract
contract_of c = record {
  preconditions = map predicate_of c.preconditions;
  assigns = map assigns_of c.assigns;
  postconditions = map predicate_of c.postconditions;
  behaviours = map behaviour_of c.behaviours;
}
