-- Type names and parameters that are spelled are read.
use Rattle.std.proofs.Common.{◌≡◌, ℕ, suc, ◌≤◌, true, false, IsTrue, List, [], ◌∷◌, ◌++◌, Option, None, Some, refl, sym, ◌∙◌, ap, arith}
use Rattle.std.specs.Prelude.{nat_le}
use Rattle.std.proofs.lemmas.Option.{same_Some}
use Rattle.std.proofs.lemmas.Bool.Decides.{nat_tests}
use Rattle.c_base.specs.declared.number.Span.{Span}
use Rattle.c_base.specs.declared.token.Punctuator.TheVariants as mark
use Rattle.c_base.specs.declared.token.Token.{Token}
use Rattle.c_base.specs.declared.token.Word.{Word}
use Rattle.c_base.specs.declared.token.Word.TheVariants as word
use Rattle.c_tree.specs.Nesting.{nest}
use Rattle.c_tree.specs.Spelling.{pieces, pieces_of_all}
use Rattle.c_tree.specs.Trees.{Tree, TypeName, Trees, Nil, Next}
use Rattle.c_tree.specs.Views.{listed}
use Rattle.c_tree.specs.WellFormed.{Names, after_all, Purpose, ForType, ForParameter, ForName, Before, Untyped, before_end, AreSpecifiers, IsOptionalDeclarator, first_place}
use Rattle.c_parse_rules.specs.Declaring.{starts, goes_on_specifiers, goes_on_declarator}
use Rattle.c_parse_rules.specs.Following.{is_type_end, ends_type}
use Rattle.c_parse_rules.proofs.Laws.{ExprsSound, ExprsReached, TypingsReached}
use Rattle.c_parse_rules.specs.Rules.{Found, Inner}
use Rattle.c_parse_rules.specs.TypeRules.{Specifiers, Declarators, Typings, first_span, specifiers_at, specifier_rule, measured, type_rule}
use Rattle.c_parse_rules.proofs.types.Begins.{specifiers_place, begins_declarator}
use Rattle.c_parse_rules.proofs.types.FieldsReach.{declarator_ends, declarator_none}
use Rattle.c_parse_rules.proofs.types.Laws.{SpecifiersSound, SpecifiersReached, DeclaratorsSound, DeclaratorsReached}
use Rattle.c_parse_rules.proofs.types.MembersReach.{specifiers_reach}
use Rattle.c_parse_rules.proofs.types.SpecifiersReach.{specifier_rule_reached}
use Rattle.c_parse_rules.proofs.types.SpecifiersSound.{specifier_rule_sound}
use Rattle.c_parse_rules.proofs.types.SuffixesReach.{plain_list, listed_plain}
use Rattle.c_parse_rules.proofs.types.Words.{Fit, fit_split, starts_not}

-- ---- what stands behind a type name

starts_end : (tokens : List Token) → IsTrue (ends_type tokens) → starts is_type_end tokens ≡ true
starts_end [] h = h
starts_end (t ∷ tokens) h = h

end_specifiers : (names : Names) (before : Before) (w : Word) → is_type_end w ≡ true → goes_on_specifiers names before w ≡ false
end_specifiers names before (word.Punctuator mark.CloseParenthesis) h = refl
end_specifiers names before (word.Punctuator mark.Comma) h = refl
end_specifiers names before (word.Punctuator _) h = absurd (cc)
end_specifiers names before _ h = absurd (cc)

end_declarator : (w : Word) → is_type_end w ≡ true → begins_declarator w ≡ false
end_declarator (word.Punctuator mark.CloseParenthesis) h = refl
end_declarator (word.Punctuator mark.Comma) h = refl
end_declarator (word.Punctuator _) h = absurd (cc)
end_declarator _ h = absurd (cc)

end_goes_on : (purpose : Purpose) (w : Word) → is_type_end w ≡ true → goes_on_declarator purpose w ≡ false
end_goes_on ForType (word.Punctuator mark.CloseParenthesis) h = refl
end_goes_on ForType (word.Punctuator mark.Comma) h = refl
end_goes_on ForType (word.Punctuator _) h = absurd (cc)
end_goes_on ForType _ h = absurd (cc)
end_goes_on ForParameter (word.Punctuator mark.CloseParenthesis) h = refl
end_goes_on ForParameter (word.Punctuator mark.Comma) h = refl
end_goes_on ForParameter (word.Punctuator _) h = absurd (cc)
end_goes_on ForParameter _ h = absurd (cc)
end_goes_on ForName (word.Punctuator mark.CloseParenthesis) h = refl
end_goes_on ForName (word.Punctuator mark.Comma) h = refl
end_goes_on ForName (word.Punctuator _) h = absurd (cc)
end_goes_on ForName _ h = absurd (cc)

module _ (depth : ℕ) (inner : Inner) (typings : Typings) (specifiers : Specifiers) (declarators : Declarators) (inner_sound : ExprsSound depth inner)
    (inner_reached : ExprsReached depth inner)
    (specifiers_sound : SpecifiersSound specifiers) (specifiers_reached : SpecifiersReached depth specifiers) (declarators_sound : DeclaratorsSound declarators)
    (declarators_reached : DeclaratorsReached depth declarators) where
  measured_is : (t u : Tree) (rest : List Token) → t ≡ u → nat_le (nest u) (suc depth) ≡ true → measured depth inner typings specifiers declarators t rest ≡ Some (u, rest)
  measured_is t u rest same small = rw (same, small) refl

  whole_is : (span span' : Span) (all all' declared : Trees) → span ≡ span' → all ≡ all' → TypeName span all declared ≡ TypeName span' all' declared
  whole_is span span' all all' declared e f = rw (e, f) refl

  declared_at : (purpose : Purpose) (names : Names) (all : Trees) (mid : List Token) (result : Option Found) → listed (plain_list all) ≡ all →
      declarators purpose (after_all names all) (before_end Untyped all) mid ≡ result →
      declarators purpose (after_all names (listed (plain_list all))) (before_end Untyped (listed (plain_list all))) mid ≡ result
  declared_at purpose names all mid result same f = ap (λ (ts : Trees). declarators purpose (after_all names ts) (before_end Untyped ts) mid) same ∙ f

  plain_is : (purpose : Purpose) (names : Names) (span : Span) (all : Trees) (tokens mid : List Token) →
      specifiers_at depth inner typings specifiers declarators (specifier_rule depth inner typings specifiers declarators) purpose names tokens ≡ Some (plain_list all, mid) →
      listed (plain_list all) ≡ all →
      declarators purpose (after_all names all) (before_end Untyped all) mid ≡ None → first_span (record { line = 0; col = 0 }) tokens ≡ span →
      nat_le (nest (TypeName span all Nil)) (suc depth) ≡ true → type_rule depth inner typings specifiers declarators purpose names tokens ≡ Some (TypeName span all Nil, mid)
  unfolding type_rule
  plain_is purpose names span all tokens mid e same f place small =
      let none = declared_at purpose names all mid None same f in
      rw (e, none) (measured_is (TypeName (first_span (record { line = 0; col = 0 }) tokens) (listed (plain_list all)) Nil) (TypeName span all Nil) mid
      (whole_is (first_span (record { line = 0; col = 0 }) tokens) span (listed (plain_list all)) all Nil place same) small)

  declared_is : (purpose : Purpose) (names : Names) (span : Span) (all : Trees) (d : Tree) (tokens mid rest : List Token) →
      specifiers_at depth inner typings specifiers declarators (specifier_rule depth inner typings specifiers declarators) purpose names tokens ≡ Some (plain_list all, mid) →
      listed (plain_list all) ≡ all →
      declarators purpose (after_all names all) (before_end Untyped all) mid ≡ Some (d, rest) → first_span (record { line = 0; col = 0 }) tokens ≡ span →
      nat_le (nest (TypeName span all (Next d Nil))) (suc depth) ≡ true →
      type_rule depth inner typings specifiers declarators purpose names tokens ≡ Some (TypeName span all (Next d Nil), rest)
  unfolding type_rule
  declared_is purpose names span all d tokens mid rest e same f place small =
      let some = declared_at purpose names all mid (Some (record { 0 = d; 1 = rest })) same f in
      rw (e, some) (measured_is (TypeName (first_span (record { line = 0; col = 0 }) tokens) (listed (plain_list all)) (Next d Nil)) (TypeName span all (Next d Nil)) rest
      (whole_is (first_span (record { line = 0; col = 0 }) tokens) span (listed (plain_list all)) all (Next d Nil) place same) small)

  at_most : (a b : ℕ) → a ≤ b → nat_le a b ≡ true
  at_most a b h = grind (arith, nat_tests)

  whole_read : (purpose : Purpose) (names : Names) (span : Span) (all declared : Trees) (tokens rest : List Token) → first_place all ≡ Some span →
      AreSpecifiers purpose names Untyped all →
      IsOptionalDeclarator purpose (after_all names all) (before_end Untyped all) declared → nest (TypeName span all declared) ≤ suc depth →
      Fit (pieces_of_all all ++ pieces_of_all declared) tokens rest → starts is_type_end rest ≡ true →
      type_rule depth inner typings specifiers declarators purpose names tokens ≡ Some (TypeName span all declared, rest)
  whole_read purpose names span all Nil tokens rest place ok d shallow h end =
      let s = fit_split (pieces_of_all all) [] h in
      let there : Fit (pieces_of_all all) tokens rest = rw s.back.is at s.front in
      let first = specifiers_place purpose names Untyped span all (record { line = 0; col = 0 }) tokens rest place ok there in
      plain_is purpose names span all tokens rest
      (specifiers_reach depth inner typings specifiers declarators (specifier_rule depth inner typings specifiers declarators) (suc depth)
      (specifier_rule_sound depth inner typings specifiers declarators inner_sound specifiers_sound declarators_sound)
      (specifier_rule_reached depth inner typings specifiers declarators inner_sound inner_reached specifiers_sound specifiers_reached declarators_sound declarators_reached) purpose names span all tokens rest place ok (omega arith) there
      (starts_not is_type_end (goes_on_specifiers (after_all names all) (before_end Untyped all)) rest (end_specifiers (after_all names all) (before_end Untyped all)) end))
      (listed_plain all)
      (declarator_none depth inner typings specifiers declarators inner_sound inner_reached specifiers_sound declarators_sound declarators_reached purpose (after_all names all) (before_end Untyped all) rest
      (starts_not is_type_end begins_declarator rest end_declarator end))
      (same_Some (first_span (record { line = 0; col = 0 }) tokens) span (sym first ∙ place)) (at_most (nest (TypeName span all Nil)) (suc depth) shallow)
  whole_read purpose names span all (Next d Nil) tokens rest place ok k shallow h end =
      let s = fit_split (pieces_of_all all) (pieces_of_all (Next d Nil)) h in
      let m = fit_split (pieces d) [] s.back in
      let there : Fit (pieces d) s.mid rest = rw m.back.is at m.front in
      let first = specifiers_place purpose names Untyped span all (record { line = 0; col = 0 }) tokens s.mid place ok s.front in
      declared_is purpose names span all d tokens s.mid rest
      (specifiers_reach depth inner typings specifiers declarators (specifier_rule depth inner typings specifiers declarators) (suc depth)
      (specifier_rule_sound depth inner typings specifiers declarators inner_sound specifiers_sound declarators_sound)
      (specifier_rule_reached depth inner typings specifiers declarators inner_sound inner_reached specifiers_sound specifiers_reached declarators_sound declarators_reached) purpose names span all tokens s.mid place ok (omega arith) s.front
      (declarator_ends purpose (after_all names all) (before_end Untyped all) d k there))
      (listed_plain all)
      (declarators_reached purpose (after_all names all) (before_end Untyped all) s.mid d rest (record { shape = k; words = there }) (omega arith)
      (starts_not is_type_end (goes_on_declarator purpose) rest (end_goes_on purpose) end))
      (same_Some (first_span (record { line = 0; col = 0 }) tokens) span (sym first ∙ place)) (at_most (nest (TypeName span all (Next d Nil))) (suc depth) shallow)
  whole_read purpose names span all (Next d (Next u more)) tokens rest place ok k shallow h end = absurd k

  pub typing_reached : TypingsReached (suc depth) (type_rule depth inner typings specifiers declarators)
  typing_reached ForType names tokens (TypeName span all declared) rest front end =
      let ok = front.shape in
      let fit : Fit (pieces_of_all all ++ pieces_of_all declared) tokens rest = record { is = front.words } in
      whole_read ForType names span all declared tokens rest ok.0 ok.1 ok.2 front.shallow fit (starts_end rest end)
  typing_reached ForParameter names tokens (TypeName span all declared) rest front end =
      let ok = front.shape in
      let fit : Fit (pieces_of_all all ++ pieces_of_all declared) tokens rest = record { is = front.words } in
      whole_read ForParameter names span all declared tokens rest ok.0 ok.1 ok.2 front.shallow fit (starts_end rest end)
  typing_reached ForName names tokens _ rest front end = absurd front.shape
  typing_reached ForType names tokens _ rest front end = absurd front.shape
  typing_reached ForParameter names tokens _ rest front end = absurd front.shape
