-- What is read as a type name or a parameter is spelled there, is one, and nests no deeper than it may.
use Rattle.std.proofs.Common.{◌≡◌, ℕ, suc, ◌≤◌, List, Option, None, Some, refl, arith}
use Rattle.std.specs.Prelude.{nat_le}
use Rattle.std.proofs.lemmas.Option.{cond_some}
use Rattle.std.proofs.lemmas.Bool.Decides.{nat_tests}
use Rattle.c_base.specs.declared.number.Span.{Span}
use Rattle.c_base.specs.declared.token.Token.{Token}
use Rattle.c_tree.specs.Nesting.{nest}
use Rattle.c_tree.specs.Spelling.{pieces}
use Rattle.c_tree.specs.Trees.{Tree, TypeName, Trees, Nil, Next}
use Rattle.c_tree.specs.Views.{listed}
use Rattle.c_tree.specs.WellFormed.{Names, after_all, Purpose, ForType, ForParameter, ForName, Untyped, before_end, AreSpecifiers, IsOptionalDeclarator, first_place}
use Rattle.c_parse_rules.specs.Following.{IsTyping, IsTypingFront}
use Rattle.c_parse_rules.proofs.Laws.{ExprsSound, TypingsSound}
use Rattle.c_parse_rules.specs.Rules.{Found, Several, Inner}
use Rattle.c_parse_rules.specs.TypeRules.{Specifiers, Declarators, Typings, first_span, specifiers_at, specifier_rule, measured, type_of, type_rule}
use Rattle.c_parse_rules.proofs.types.Laws.{SpecifiersSound, DeclaratorsSound}
use Rattle.c_parse_rules.proofs.types.MembersSound.{SpecifiersFound, specifiers_found}
use Rattle.c_parse_rules.proofs.types.SpecifiersSound.{specifier_rule_sound}
use Rattle.c_parse_rules.proofs.types.Words.{bound, Fit, fit_none, fit_join}

-- a type name or parameter by its parts
pub typing_of : (purpose : Purpose) (names : Names) (span : Span) (all optional_declarator : Trees) → (purpose ≡ ForName → ⊥) → first_place all ≡ Some span →
    AreSpecifiers purpose names Untyped all → IsOptionalDeclarator purpose (after_all names all) (before_end Untyped all) optional_declarator →
    IsTyping purpose names (TypeName span all optional_declarator)
typing_of ForType names span all d other place ok k = (place, ok, k)
typing_of ForParameter names span all d other place ok k = (place, ok, k)
typing_of ForName names span all d other place ok k = absurd (other refl)

module _ (depth : ℕ) (inner : Inner) (typings : Typings) (specifiers : Specifiers) (declarators : Declarators) (inner_sound : ExprsSound depth inner)
    (specifiers_sound : SpecifiersSound specifiers) (declarators_sound : DeclaratorsSound declarators) where
  measured_found : (purpose : Purpose) (names : Names) (tokens rest : List Token) (t : Tree) (found : Found) → IsTyping purpose names t → Fit (pieces t) tokens rest →
      measured depth inner typings specifiers declarators t rest ≡ Some found → IsTypingFront purpose names (suc depth) tokens found.0 found.1
  measured_found purpose names tokens rest t found ok h e =
      let s = cond_some (nat_le (nest t) (suc depth)) (record { 0 = t; 1 = rest }) found e in
      let test = s.0 in
      let small : nest t ≤ suc depth = grind (arith, nat_tests) in
      rw (← s.1) (record { shape = ok; shallow = small; words = h.is })

  type_of_found : (purpose : Purpose) (names : Names) (tokens : List Token) (several : Several) (found : Found) (o : Option Found) → (purpose ≡ ForName → ⊥) →
      SpecifiersFound purpose names tokens several → declarators purpose (after_all names (listed several.0)) (before_end Untyped (listed several.0)) several.1 ≡ o →
      type_of depth inner typings specifiers declarators (first_span (record { line = 0; col = 0 }) tokens) several o ≡ Some found → IsTypingFront purpose names
      (suc depth) tokens found.0 found.1
  type_of_found purpose names tokens several found None other s e f =
      measured_found purpose names tokens several.1 (TypeName (first_span (record { line = 0; col = 0 }) tokens) (listed several.0) Nil) found
      (typing_of purpose names (first_span (record { line = 0; col = 0 }) tokens) (listed several.0) Nil other (s.place (record { line = 0; col = 0 })) s.each (tt {0}))
      (fit_join s.back fit_none) f
  type_of_found purpose names tokens several found (Some d) other s e f =
      let k = declarators_sound purpose (after_all names (listed several.0)) (before_end Untyped (listed several.0)) several.1 d e in
      measured_found purpose names tokens d.1 (TypeName (first_span (record { line = 0; col = 0 }) tokens) (listed several.0) (Next d.0 Nil)) found
      (typing_of purpose names (first_span (record { line = 0; col = 0 }) tokens) (listed several.0) (Next d.0 Nil) other (s.place (record { line = 0; col = 0 })) s.each k.shape)
      (fit_join s.back (fit_join k.words fit_none)) f

  pub typing_sound : TypingsSound (suc depth) (type_rule depth inner typings specifiers declarators)
  unfolding type_rule
  typing_sound purpose names tokens found other e =
      bound (specifiers_at depth inner typings specifiers declarators (specifier_rule depth inner typings specifiers declarators) purpose names tokens) _ found e (λ several f e2.
      let s = specifiers_found depth inner typings specifiers declarators (specifier_rule depth inner typings specifiers declarators)
      (specifier_rule_sound depth inner typings specifiers declarators inner_sound specifiers_sound declarators_sound) purpose names tokens several f in
      type_of_found purpose names tokens several found
      (declarators purpose (after_all names (listed several.0)) (before_end Untyped (listed several.0)) several.1) other s refl e2)
