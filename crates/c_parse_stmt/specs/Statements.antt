-- What a reader of statements that are at most so deep answers.
use Rattle.std.specs.Prelude.{ℕ, ◌≡◌, List, Option, Result}
use Rattle.std.specs.Borrow.{Bor}
use Rattle.c_base.specs.declared.token.Token.{Token}
use Rattle.c_tree.specs.declared.tree.Attribute.{Attribute}
use Rattle.c_tree.specs.declared.tree.Expr.{Expr}
use Rattle.c_parse_base.specs.KnownNames.{Known, kept}
use Rattle.c_grammar.specs.declared.rule.Sort.TheVariants as sort
use Rattle.c_unit_tree.specs.declared.declaration.Declaration.{Declaration}
use Rattle.c_unit_tree.specs.declared.statement.Statement.{Statement}
use Rattle.c_unit_tree.specs.Views.{statement_tree}
use Rattle.c_parse_initialisers.specs.Reads.{ReadsSort, Shortens}

pub record IsStatementRead {E : Type 0} (depth : ℕ) (old new : Known) (tokens : List Token) (result : Result (Option (Statement Expr Declaration Attribute × Bor (List Token))) E) : Type 0 where
  pub found : ReadsSort statement_tree depth sort.Statement old.names new.names tokens result
  pub shorter : Shortens tokens result
  pub same : kept new ≡ kept old
