-- A tree only adds to the names.
use Rattle.std.proofs.Common.{◌≡◌, [], ◌++◌, refl, sym, ◌∙◌, ap, append_assoc}
use Rattle.c_tree.specs.Trees.{Tree, Parenthesised, Postfix, Prefix, OfType, Offsetof, Cast, Run, Conditional, Assignment, Comma, Index, Call, Operand, TypeName, Composite, Enum, Enumerator, Fields, Assertion, Field, Padding, Declarator, Group, Array, Trees, Nil, Next}
use Rattle.c_tree.specs.WellFormed.{Names, after, after_all, ordinary}

-- the later names are the earlier with more before them
pub record Extends (before later : Names) : Type 0 where
  pub more : Names
  pub is : later ≡ more ++ before

pub extends_none : (names : Names) → Extends names names
extends_none names = record { more = []; is = refl }

pub extends_by : (a b c : Names) → Extends a b → Extends b c → Extends a c
extends_by a b c f g = record { more = g.more ++ f.more; is = g.is ∙ ap (λ (x : Names). g.more ++ x) f.is ∙ sym (append_assoc g.more f.more a) }

extends_name : (name : _) (a b : Names) → Extends a b → Extends a (ordinary name b)
extends_name name a b f = record { more = ordinary name f.more; is = ap (ordinary name) f.is }

mutual
  pub after_extends : (t : Tree) (names : Names) → Extends names (after names t)
  after_extends (Parenthesised span inner) names = after_extends inner names
  after_extends (Postfix span first parts) names =
      extends_by names (after names first) (after_all (after names first) parts) (after_extends first names) (after_all_extends parts (after names first))
  after_extends (Prefix span operator operand) names = after_extends operand names
  after_extends (OfType span operator type_name) names = after_extends type_name names
  after_extends (Offsetof span type_name member) names = after_extends type_name names
  after_extends (Cast span type_name operand) names =
      extends_by names (after names type_name) (after (after names type_name) operand) (after_extends type_name names) (after_extends operand (after names type_name))
  after_extends (Run span first more) names =
      extends_by names (after names first) (after_all (after names first) more) (after_extends first names) (after_all_extends more (after names first))
  after_extends (Conditional span condition when_true when_false) names =
      let one = after names condition in
      let two = after one when_true in
      extends_by names two (after two when_false) (extends_by names one two (after_extends condition names) (after_extends when_true one)) (after_extends when_false two)
  after_extends (Assignment span target operator value) names =
      extends_by names (after names target) (after (after names target) value) (after_extends target names) (after_extends value (after names target))
  after_extends (Comma span first more) names =
      extends_by names (after names first) (after_all (after names first) more) (after_extends first names) (after_all_extends more (after names first))
  after_extends (Index index) names = after_extends index names
  after_extends (Call opening arguments) names = after_all_extends arguments names
  after_extends (Operand operator operand) names = after_extends operand names
  after_extends (TypeName span specifiers declarator) names =
      extends_by names (after_all names specifiers) (after_all (after_all names specifiers) declarator) (after_all_extends specifiers names) (after_all_extends declarator (after_all names specifiers))
  after_extends (Composite span sort attributes tag members trailing) names = after_all_extends members names
  after_extends (Enum span tag enumerators comma) names = after_all_extends enumerators names
  after_extends (Enumerator span name value) names = extends_name name names (after_all names value) (after_all_extends value names)
  after_extends (Fields span specifiers fields) names =
      extends_by names (after_all names specifiers) (after_all (after_all names specifiers) fields) (after_all_extends specifiers names) (after_all_extends fields (after_all names specifiers))
  after_extends (Assertion span condition literals) names = after_extends condition names
  after_extends (Field span declarator width attributes) names =
      extends_by names (after names declarator) (after_all (after names declarator) width) (after_extends declarator names) (after_all_extends width (after names declarator))
  after_extends (Padding span width) names = after_extends width names
  after_extends (Declarator span pointers core suffixes) names =
      extends_by names (after names core) (after_all (after names core) suffixes) (after_extends core names) (after_all_extends suffixes (after names core))
  after_extends (Group span inner) names = after_extends inner names
  after_extends (Array span qualifiers bound) names = after_all_extends bound names
  after_extends _ names = extends_none names

  pub after_all_extends : (ts : Trees) (names : Names) → Extends names (after_all names ts)
  after_all_extends Nil names = extends_none names
  after_all_extends (Next t more) names =
      extends_by names (after names t) (after_all (after names t) more) (after_extends t names) (after_all_extends more (after names t))
