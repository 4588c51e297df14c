-- How many nodes terms, predicates and contracts have: each operator of a run is one, and what isn't written is none.
use Rattle.std.specs.Prelude.{ℕ, suc, ◌+◌, List, [], ◌∷◌, map, sum, length, Option, None, Some}
use Rattle.c_typed_term.specs.declared.term.TTerm.{TTerm, fold-TTerm}
use Rattle.c_typed_term.specs.declared.term.TTerm.TheOpen.{TTerm-F, TTermRoot-F, TTermStep-F, TTermOperand-F, TTermPlace-F}
use Rattle.c_typed_term.specs.declared.term.TTermRoot.{TTermRoot, fold-TTermRoot}
use Rattle.c_typed_term.specs.declared.term.TTermStep.{TTermStep, fold-TTermStep}
use Rattle.c_typed_term.specs.declared.term.TTermOperand.{TTermOperand, fold-TTermOperand}
use Rattle.c_typed_term.specs.declared.term.TTermPlace.{TTermPlace, fold-TTermPlace}
use Rattle.c_typed_term.specs.declared.predicate.TRange.{TRange}
use Rattle.c_typed_term.specs.declared.predicate.TPointers.{TPointers}
use Rattle.c_typed_term.specs.declared.predicate.TRelation.{TRelation}
use Rattle.c_typed_term.specs.declared.predicate.TPred.{TPred, fold-TPred}
use Rattle.c_typed_term.specs.declared.predicate.TPred.TheOpen.{TPred-F, Quantified-F}
use Rattle.c_typed_term.specs.declared.predicate.Quantified.{Quantified, fold-Quantified}
use Rattle.c_typed_term.specs.declared.contract.TAssigns.{TAssigns}
use Rattle.c_typed_term.specs.declared.contract.TBehaviour.{TBehaviour}
use Rattle.c_typed_term.specs.declared.contract.TContract.{TContract}

abbrev pub term_nodes : TTerm-F ℕ ℕ ℕ ℕ ℕ → ℕ
term_nodes (TTerm-F.Number n) = 1
term_nodes (TTerm-F.Bound depth) = 1
term_nodes TTerm-F.Null = 1
term_nodes (TTerm-F.Negate term) = suc term
term_nodes (TTerm-F.Run first more) = first + sum more
term_nodes (TTerm-F.Value place t) = place
term_nodes (TTerm-F.Address place t) = suc place
term_nodes (TTerm-F.Decay place t) = place
term_nodes (TTerm-F.Cast kind term) = suc term
term_nodes (TTerm-F.At when term) = suc term

abbrev pub root_nodes : TTermRoot-F ℕ ℕ ℕ ℕ ℕ → ℕ
root_nodes (TTermRoot-F.Object base) = 1
root_nodes (TTermRoot-F.Formal base) = 1
root_nodes (TTermRoot-F.Deref term t) = suc term
root_nodes (TTermRoot-F.Result t) = 1
root_nodes (TTermRoot-F.Slot slot t) = 1

abbrev pub step_nodes : TTermStep-F ℕ ℕ ℕ ℕ ℕ → ℕ
step_nodes (TTermStep-F.Member c m) = 1
step_nodes (TTermStep-F.Element term t n) = suc term
step_nodes (TTermStep-F.Follow t) = 0
step_nodes (TTermStep-F.Beyond term t) = suc term

abbrev pub operand_nodes : TTermOperand-F ℕ ℕ ℕ ℕ ℕ → ℕ
operand_nodes o = suc o.operand

abbrev pub place_nodes : TTermPlace-F ℕ ℕ ℕ ℕ ℕ → ℕ
place_nodes p = p.root + sum p.steps

abbrev pub nodes_of_term : TTerm → ℕ
nodes_of_term = fold-TTerm ℕ ℕ ℕ ℕ ℕ term_nodes root_nodes step_nodes operand_nodes place_nodes

abbrev pub nodes_of_root : TTermRoot → ℕ
nodes_of_root = fold-TTermRoot ℕ ℕ ℕ ℕ ℕ term_nodes root_nodes step_nodes operand_nodes place_nodes

abbrev pub nodes_of_step : TTermStep → ℕ
nodes_of_step = fold-TTermStep ℕ ℕ ℕ ℕ ℕ term_nodes root_nodes step_nodes operand_nodes place_nodes

abbrev pub nodes_of_operand : TTermOperand → ℕ
nodes_of_operand = fold-TTermOperand ℕ ℕ ℕ ℕ ℕ term_nodes root_nodes step_nodes operand_nodes place_nodes

abbrev pub nodes_of_place : TTermPlace → ℕ
nodes_of_place = fold-TTermPlace ℕ ℕ ℕ ℕ ℕ term_nodes root_nodes step_nodes operand_nodes place_nodes

abbrev pub nodes_of_steps : List TTermStep → ℕ
nodes_of_steps all = sum (map nodes_of_step all)

abbrev pub nodes_of_operands : List TTermOperand → ℕ
nodes_of_operands all = sum (map nodes_of_operand all)

abbrev pub nodes_of_range : Option TRange → ℕ
nodes_of_range None = 0
nodes_of_range (Some r) = nodes_of_term r.low + nodes_of_term r.high

abbrev pub nodes_of_pointers : TPointers → ℕ
nodes_of_pointers p = nodes_of_term p.first + nodes_of_range p.range

abbrev pub nodes_of_all_pointers : List TPointers → ℕ
nodes_of_all_pointers all = sum (map nodes_of_pointers all)

abbrev pub nodes_of_relation : TRelation → ℕ
nodes_of_relation r = suc (nodes_of_term r.right)

abbrev pub nodes_of_relations : List TRelation → ℕ
nodes_of_relations all = sum (map nodes_of_relation all)

abbrev pub predicate_nodes : TPred-F ℕ ℕ → ℕ
predicate_nodes (TPred-F.Constant truth) = 1
predicate_nodes (TPred-F.Relations first more) = nodes_of_term first + nodes_of_relations more
predicate_nodes (TPred-F.Not p) = suc p
predicate_nodes (TPred-F.All p more) = p + (sum more + length more)
predicate_nodes (TPred-F.Any p more) = p + (sum more + length more)
predicate_nodes (TPred-F.Implies p q) = suc (p + q)
predicate_nodes (TPred-F.Equivalent p more) = p + (sum more + length more)
predicate_nodes (TPred-F.Choice t p q) = suc (nodes_of_term t + (p + q))
predicate_nodes (TPred-F.Access sort pointers) = suc (nodes_of_pointers pointers)
predicate_nodes (TPred-F.Separated all) = suc (nodes_of_all_pointers all)
predicate_nodes (TPred-F.Quantified quantified) = quantified

abbrev pub quantified_nodes : Quantified-F ℕ ℕ → ℕ
quantified_nodes q = suc (nodes_of_term q.low + (nodes_of_term q.high + q.body))

abbrev pub nodes_of_predicate : TPred → ℕ
nodes_of_predicate = fold-TPred ℕ ℕ predicate_nodes quantified_nodes

abbrev pub nodes_of_quantified : Quantified → ℕ
nodes_of_quantified = fold-Quantified ℕ ℕ predicate_nodes quantified_nodes

abbrev pub nodes_of_predicates : List TPred → ℕ
nodes_of_predicates all = sum (map nodes_of_predicate all)

abbrev pub nodes_of_terms : List TTerm → ℕ
nodes_of_terms all = sum (map nodes_of_term all)

abbrev pub nodes_of_sources : Option (List TTerm) → ℕ
nodes_of_sources None = 0
nodes_of_sources (Some all) = nodes_of_terms all

abbrev pub nodes_of_assigns : TAssigns → ℕ
nodes_of_assigns a = nodes_of_all_pointers a.locations + nodes_of_sources a.sources

abbrev pub nodes_of_behaviour : TBehaviour → ℕ
nodes_of_behaviour b = nodes_of_predicates b.assumptions + (nodes_of_predicates b.preconditions + nodes_of_predicates b.postconditions)

abbrev pub nodes_of_all_assigns : List TAssigns → ℕ
nodes_of_all_assigns all = sum (map nodes_of_assigns all)

abbrev pub nodes_of_behaviours : List TBehaviour → ℕ
nodes_of_behaviours all = sum (map nodes_of_behaviour all)

abbrev pub nodes_of_contract : TContract → ℕ
nodes_of_contract c =
    nodes_of_predicates c.preconditions
    + (nodes_of_all_assigns c.assigns + (nodes_of_predicates c.postconditions + nodes_of_behaviours c.behaviours))
