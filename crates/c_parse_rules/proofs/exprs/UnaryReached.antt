-- A unary expression or a cast at the front of the tokens is found.
use Rattle.std.proofs.Common.{◌≡◌, ℕ, suc, ◌≤◌, inl, inr, max, Bool, true, false, cond, List, [], ◌∷◌, ◌++◌, Option, None, Some, refl, sym, ◌∙◌, ap, subst, arith}
use Rattle.std.specs.Prelude.{nat_le}
use Rattle.std.proofs.lemmas.Bool.{cond-true, cond-false, le-leb}
use Rattle.c_base.specs.declared.number.Span.{Span}
use Rattle.c_base.specs.declared.token.Keyword.TheVariants as key
use Rattle.c_base.specs.declared.token.Punctuator.TheVariants as mark
use Rattle.c_base.specs.declared.token.Token.{Token}
use Rattle.c_base.specs.declared.token.Word.TheVariants as word
use Rattle.c_tree.specs.declared.operator.PrefixOperator.{PrefixOperator}
use Rattle.c_tree.specs.declared.operator.PrefixOperator.TheVariants as prefix
use Rattle.c_tree.specs.declared.operator.TypeOperator.{TypeOperator}
use Rattle.c_tree.specs.declared.operator.TypeOperator.TheVariants as type_operator
use Rattle.c_tree.specs.Nesting.{nest}
use Rattle.c_tree.specs.Spelling.{Piece, at, sign, word_of_prefix, word_of_type_operator, pieces, pieces_of_all}
use Rattle.c_tree.specs.Trees.{Tree, Name, Integer, Floating, Character, Text, Parenthesised, Postfix, Prefix, OfType, Offsetof, Cast, Run, Conditional, Assignment, Comma}
use Rattle.c_tree.specs.WellFormed.{Names, after, level_of, level_behind, IsExpr, IsTypeName}
use Rattle.c_parse_rules.specs.Found.{Fronts, IsFront}
use Rattle.c_parse_rules.proofs.Laws.{ExprsSound, ExprsReached, TypesReached}
use Rattle.c_parse_rules.specs.Rules.{Found, Inner, Types, type_at, prefix_at, of_type_at, opens_type, sizeof_at, cast_at, primary_at, unary_of}
use Rattle.c_parse_rules.specs.Tokens.{◌>>=◌, is_mark, behind_mark, is_type_at}
use Rattle.c_parse_rules.proofs.exprs.Beginnings.{expr_untyped}
use Rattle.c_parse_rules.proofs.exprs.Collecting.{Meets}
use Rattle.c_parse_rules.proofs.exprs.Follows.{Goes, goes_weaker, goes_tighter}
use Rattle.c_parse_rules.proofs.exprs.Fronts.{fronts_split, mark_read, mark_missing}
use Rattle.c_parse_rules.proofs.exprs.Meeting.{meets_of, meets_weaker}
use Rattle.c_parse_rules.proofs.exprs.PrimariesReached.{run_between, primary_form, exact_meets, placed, ends_before, unary_primary, unary_postfix}
use Rattle.c_parse_rules.proofs.exprs.UnarySound.{level_behind_low}

-- what each type name begins with
abbrev pub TypesBegin : Type 0
TypesBegin = (names : Names) (tree : Tree) (tokens rest : List Token) → IsTypeName names tree → Fronts (pieces tree) tokens rest → is_type_at names tokens ≡ true

prefix_no_paren : (operator : PrefixOperator) → is_mark mark.OpenParenthesis (word_of_prefix operator) ≡ false
prefix_no_paren prefix.Increment = refl
prefix_no_paren _ = refl

type_operator_no_paren : (operator : TypeOperator) → is_mark mark.OpenParenthesis (word_of_type_operator operator) ≡ false
type_operator_no_paren type_operator.Sizeof = refl
type_operator_no_paren type_operator.Alignof = refl

level_behind_high : (operator : PrefixOperator) → 13 ≤ level_behind operator
level_behind_high prefix.Increment = omega arith
level_behind_high _ = omega arith

module _ (depth : ℕ) (inner : Inner) (types : Types) (inner_sound : ExprsSound depth inner) (inner_reached : ExprsReached depth inner) (types_reached : TypesReached depth types)
    (types_begin : TypesBegin) where
  abbrev pub Unary : ℕ → Names → Token → List Token → Option Found
  Unary least names t tokens = unary_of depth inner types least t.span names tokens t.word

  abbrev Opens : Names → List Token → Bool
  Opens names tokens = opens_type depth inner types names (behind_mark mark.OpenParenthesis tokens)

  -- ---- whether a type stands in the parentheses

  other_word : (names : Names) (x : Piece) (p : List Piece) (tokens rest : List Token) → Fronts (x ∷ p) tokens rest → is_mark mark.OpenParenthesis x.word ≡ false → Opens names tokens ≡ false
  other_word names x p [] rest h untyped = absurd h
  other_word names x p (t ∷ tokens) rest h untyped =
      let piece = h.0 in
      let missing = mark_missing mark.OpenParenthesis t tokens (rw piece.word untyped) in ap (opens_type depth inner types names) missing

  -- an expression of a level above a cast's has no type in its first parentheses
  tight_untyped : (names : Names) (e : Tree) (tokens rest : List Token) → IsExpr names e → 14 ≤ level_of e → Fronts (pieces e) tokens rest → Opens names tokens ≡ false
  tight_untyped names (Name span name) tokens rest shape tight h = other_word names (at span (word.Identifier name)) [] tokens rest h refl
  tight_untyped names (Integer span constant) tokens rest shape tight h = other_word names (at span (word.Integer constant)) [] tokens rest h refl
  tight_untyped names (Floating span) tokens rest shape tight h = other_word names (at span word.Floating) [] tokens rest h refl
  tight_untyped names (Character span byte) tokens rest shape tight h = other_word names (at span (word.Character byte)) [] tokens rest h refl
  tight_untyped names (Text span []) tokens rest shape tight h = absurd shape
  tight_untyped names (Text span (bytes ∷ more)) [] rest shape tight h = absurd h
  tight_untyped names (Text span (bytes ∷ more)) (t ∷ tokens) rest shape tight h =
      other_word names (at span (word.Text bytes)) [] (t ∷ tokens) tokens (h.0, refl) refl
  tight_untyped names (Parenthesised span e) [] rest shape tight h = absurd h
  tight_untyped names (Parenthesised span e) (t ∷ tokens) rest shape tight h =
      let piece = h.0 in
      let s = fronts_split (pieces e) (sign mark.CloseParenthesis ∷ []) tokens rest h.1 in
      let r = mark_read mark.OpenParenthesis [] (t ∷ tokens) tokens (record { word = piece.word; place = tt {0} }, refl) in
      ap (opens_type depth inner types names) r.is ∙ ap (is_type_at names) r.back ∙ expr_untyped names e tokens s.mid shape s.front
  tight_untyped names (Postfix span first parts) tokens rest shape tight h =
      let s = fronts_split (pieces first) (pieces_of_all parts) tokens rest h in
      let is_first = shape.0 in
      let tighter = is_first.tight in tight_untyped names first tokens s.mid shape.1 (omega arith) s.front
  tight_untyped names (Prefix span operator operand) tokens rest shape tight h =
      other_word names (at span (word_of_prefix operator)) (pieces operand) tokens rest h (prefix_no_paren operator)
  tight_untyped names (OfType span operator type_name) tokens rest shape tight h =
      other_word names (at span (word_of_type_operator operator)) (sign mark.OpenParenthesis ∷ pieces type_name ++ sign mark.CloseParenthesis ∷ []) tokens rest h (type_operator_no_paren operator)
  tight_untyped names (Offsetof span type_name member) [] rest shape tight h = absurd h
  tight_untyped names (Offsetof span type_name member) (t ∷ tokens) rest shape tight h =
      other_word names (at span (word.Keyword key.BuiltinOffsetof)) [] (t ∷ tokens) tokens (h.0, refl) refl
  tight_untyped names (Cast span type_name operand) tokens rest shape tight h = absurd (omega arith)
  tight_untyped names (Run span first more) tokens rest shape tight h = let b = (run_between (after names first) more shape.2 shape.3).1 in absurd (omega arith)
  tight_untyped names (Conditional span condition when_true when_false) tokens rest shape tight h = absurd (omega arith)
  tight_untyped names (Assignment span target operator value) tokens rest shape tight h = absurd (omega arith)
  tight_untyped names (Comma span first more) tokens rest shape tight h = absurd (omega arith)
  tight_untyped names _ tokens rest shape tight h = absurd shape

  -- ---- prefix operators

  sizeof_is : (names : Names) (span : Span) (tokens : List Token) → Opens names tokens ≡ false → sizeof_at depth inner types span names tokens ≡ prefix_at depth inner types span prefix.Sizeof names tokens
  unfolding sizeof_at
  sizeof_is names span tokens untyped =
      cond-false (Opens names tokens) (of_type_at depth inner types span type_operator.Sizeof names tokens) (prefix_at depth inner types span prefix.Sizeof names tokens) untyped

  prefix_is : (least : ℕ) (names : Names) (t : Token) (tokens : List Token) (operator : PrefixOperator) → t.word ≡ word_of_prefix operator → (14 ≤ level_behind operator → Opens names tokens ≡ false) →
      Unary least names t tokens ≡ prefix_at depth inner types t.span operator names tokens
  prefix_is least names t tokens prefix.Sizeof w untyped = rw w (sizeof_is names t.span tokens (untyped (omega arith)))
  prefix_is least names t tokens prefix.Increment w untyped = rw w refl
  prefix_is least names t tokens prefix.Decrement w untyped = rw w refl
  prefix_is least names t tokens prefix.Address w untyped = rw w refl
  prefix_is least names t tokens prefix.Indirection w untyped = rw w refl
  prefix_is least names t tokens prefix.Plus w untyped = rw w refl
  prefix_is least names t tokens prefix.Minus w untyped = rw w refl
  prefix_is least names t tokens prefix.Complement w untyped = rw w refl
  prefix_is least names t tokens prefix.Not w untyped = rw w refl

  prefix_found : (level : ℕ) (span : Span) (operator : PrefixOperator) (o : Option Found) (e : Tree) (rest : List Token) → Meets (Goes level) o e rest →
      Meets (Goes level) (o >>= (λ (x : Found). Some (Prefix span operator x.0, x.1))) (Prefix span operator e) rest
  prefix_found level span operator None e rest h = h
  prefix_found level span operator (Some found) e rest (inl same) = inl (ap (λ (x : Found). (Prefix span operator x.0, x.1)) same)
  prefix_found level span operator (Some found) e rest (inr h) = inr h

  prefix_at_meets : (level : ℕ) (names : Names) (span : Span) (operator : PrefixOperator) (tokens rest : List Token) (e : Tree) → Meets (Goes level) (inner names (level_behind operator) tokens) e rest →
      Meets (Goes level) (prefix_at depth inner types span operator names tokens) (Prefix span operator e) rest
  unfolding prefix_at
  prefix_at_meets level names span operator tokens rest e h = prefix_found level span operator (inner names (level_behind operator) tokens) e rest h

  -- behind an operand of such a level only a postfix part or a string literal goes on
  to_tighter : (level : ℕ) (o : Option Found) (e : Tree) (rest : List Token) → 13 ≤ level → Meets (Goes level) o e rest → Meets (Goes 15) o e rest
  to_tighter level o e rest le h = meets_weaker 15 level o e rest (λ g. goes_tighter rest (goes_weaker 13 level rest le g)) h

  unary_prefix : (least : ℕ) (names : Names) (t : Token) (tokens rest : List Token) (span : Span) (operator : PrefixOperator) (operand : Tree) → IsExpr names (Prefix span operator operand) →
      nest (Prefix span operator operand) ≤ suc depth → Fronts (pieces (Prefix span operator operand)) (t ∷ tokens) rest → Meets (Goes 15) (Unary least names t tokens) (Prefix span operator operand) rest
  unary_prefix least names t tokens rest span operator operand shape small h =
      let piece = h.0 in
      let tight = shape.0 in
      let level = level_behind operator in
      let m = to_tighter level (inner names level tokens) operand rest (level_behind_high operator)
      (meets_of level (inner names level tokens) operand rest
      (inner_reached names level tokens operand rest (level_behind_low operator)
      (record { within = record { shape = shape.1; tight = tight; shallow = omega arith }; words = h.1 }))) in
      let is = prefix_is least names t tokens operator piece.word (λ high. tight_untyped names operand tokens rest shape.1 (omega arith) h.1) in
      subst (λ (o : Option Found). Meets (Goes 15) o (Prefix span operator operand) rest) (sym is)
      (subst (λ (x : Span). Meets (Goes 15) (prefix_at depth inner types t.span operator names tokens) (Prefix x operator operand) rest) (sym piece.place)
      (prefix_at_meets 15 names t.span operator tokens rest operand m))

  -- ---- `sizeof` and `_Alignof` of a type

  type_is : (names : Names) (span : Span) (operator : TypeOperator) (tokens inside mid rest : List Token) (e : Tree) → behind_mark mark.OpenParenthesis tokens ≡ Some inside →
      types names inside ≡ Some (e, mid) → behind_mark mark.CloseParenthesis mid ≡ Some rest → of_type_at depth inner types span operator names tokens ≡ Some (OfType span operator e, rest)
  unfolding of_type_at type_at
  type_is names span operator tokens inside mid rest e a b c = rw (a, b, c) refl

  sizeof_type_is : (names : Names) (span : Span) (tokens inside : List Token) → behind_mark mark.OpenParenthesis tokens ≡ Some inside → is_type_at names inside ≡ true →
      sizeof_at depth inner types span names tokens ≡ of_type_at depth inner types span type_operator.Sizeof names tokens
  unfolding sizeof_at
  sizeof_type_is names span tokens inside a typed_there =
      cond-true (Opens names tokens) (of_type_at depth inner types span type_operator.Sizeof names tokens) (prefix_at depth inner types span prefix.Sizeof names tokens)
      (ap (opens_type depth inner types names) a ∙ typed_there)

  of_type_is : (least : ℕ) (names : Names) (t : Token) (tokens inside : List Token) (operator : TypeOperator) → t.word ≡ word_of_type_operator operator →
      behind_mark mark.OpenParenthesis tokens ≡ Some inside → is_type_at names inside ≡ true → Unary least names t tokens ≡ of_type_at depth inner types t.span operator names tokens
  of_type_is least names t tokens inside type_operator.Sizeof w a typed_there = rw w (sizeof_type_is names t.span tokens inside a typed_there)
  of_type_is least names t tokens inside type_operator.Alignof w a typed_there = rw w refl

  unary_of_type : (least : ℕ) (names : Names) (t : Token) (tokens rest : List Token) (span : Span) (operator : TypeOperator) (type_name : Tree) → IsTypeName names type_name →
      nest (OfType span operator type_name) ≤ suc depth → Fronts (pieces (OfType span operator type_name)) (t ∷ tokens) rest → Meets (Goes 15) (Unary least names t tokens) (OfType span operator type_name) rest
  unary_of_type least names t tokens rest span operator type_name shape small h =
      let piece = h.0 in
      let a = mark_read mark.OpenParenthesis (pieces type_name ++ sign mark.CloseParenthesis ∷ []) tokens rest h.1 in
      let s = fronts_split (pieces type_name) (sign mark.CloseParenthesis ∷ []) a.left rest a.back in
      let c = mark_read mark.CloseParenthesis [] s.mid rest s.back in
      let typed = types_reached names a.left type_name s.mid (record { shape = shape; shallow = omega arith; words = s.front })
      (ends_before depth inner types inner_sound inner_reached types_reached mark.CloseParenthesis [] s.mid rest refl s.back) in
      exact_meets (Goes 15) (Unary least names t tokens) (OfType span operator type_name) rest
      (placed (λ (x : Span). OfType x operator type_name) (Unary least names t tokens) t.span span c.left rest piece.place c.back
      (of_type_is least names t tokens a.left operator piece.word a.is (types_begin names type_name a.left s.mid shape s.front)
      ∙ type_is names t.span operator tokens a.left s.mid c.left type_name a.is typed c.is))

  -- ---- casts

  cast_found : (span : Span) (type_name : Tree) (o : Option Found) (e : Tree) (rest : List Token) → Meets (Goes 15) o e rest →
      Meets (Goes 15) (o >>= (λ (x : Found). Some (Cast span type_name x.0, x.1))) (Cast span type_name e) rest
  cast_found span type_name None e rest h = h
  cast_found span type_name (Some found) e rest (inl same) = inl (ap (λ (x : Found). (Cast span type_name x.0, x.1)) same)
  cast_found span type_name (Some found) e rest (inr h) = inr h

  cast_at_is : (names : Names) (span : Span) (tokens mid behind : List Token) (type_name : Tree) → types names tokens ≡ Some (type_name, mid) → behind_mark mark.CloseParenthesis mid ≡ Some behind →
      cast_at depth inner types span names tokens ≡ (inner (after names type_name) 13 behind >>= (λ (x : Found). Some (Cast span type_name x.0, x.1)))
  unfolding cast_at
  cast_at_is names span tokens mid behind type_name a b = rw (a, b) refl

  cast_is : (least : ℕ) (names : Names) (t : Token) (tokens : List Token) → t.word ≡ word.Punctuator mark.OpenParenthesis → is_type_at names tokens ≡ true → least ≤ 13 →
      Unary least names t tokens ≡ cast_at depth inner types t.span names tokens
  cast_is least names t tokens w typed_there low =
      rw w (cond-true (is_type_at names tokens) (cond (nat_le least 13) (cast_at depth inner types t.span names tokens) None)
      (primary_at depth inner types t.span names tokens (word.Punctuator mark.OpenParenthesis)) typed_there
      ∙ cond-true (nat_le least 13) (cast_at depth inner types t.span names tokens) None (le-leb least 13 low))

  unary_cast : (least : ℕ) → least ≤ 13 → (names : Names) (t : Token) (tokens rest : List Token) (span : Span) (type_name operand : Tree) → IsExpr names (Cast span type_name operand) →
      nest (Cast span type_name operand) ≤ suc depth → Fronts (pieces (Cast span type_name operand)) (t ∷ tokens) rest → Meets (Goes 15) (Unary least names t tokens) (Cast span type_name operand) rest
  unary_cast least low names t tokens rest span type_name operand shape small h =
      let piece = h.0 in
      let s = fronts_split (pieces type_name) (sign mark.CloseParenthesis ∷ pieces operand) tokens rest h.1 in
      let c = mark_read mark.CloseParenthesis (pieces operand) s.mid rest s.back in
      let typed = types_reached names tokens type_name s.mid (record { shape = shape.0; shallow = omega arith; words = s.front })
      (ends_before depth inner types inner_sound inner_reached types_reached mark.CloseParenthesis (pieces operand) s.mid rest refl s.back) in
      let behind = inner (after names type_name) 13 c.left in
      let m = to_tighter 13 behind operand rest (omega arith)
      (meets_of 13 behind operand rest
      (inner_reached (after names type_name) 13 c.left operand rest (omega arith)
      (record { within = record { shape = shape.2; tight = shape.1; shallow = omega arith }; words = c.back }))) in
      let is = cast_is least names t tokens piece.word (types_begin names type_name tokens s.mid shape.0 s.front) low ∙ cast_at_is names t.span tokens s.mid c.left type_name typed c.is in
      subst (λ (o : Option Found). Meets (Goes 15) o (Cast span type_name operand) rest) (sym is)
      (subst (λ (x : Span). Meets (Goes 15) (behind >>= (λ (y : Found). Some (Cast t.span type_name y.0, y.1))) (Cast x type_name operand) rest) (sym piece.place)
      (cast_found t.span type_name behind operand rest m))

  -- ---- all of these

  unary_by : (least : ℕ) (names : Names) (t : Token) (tokens rest : List Token) (e : Tree) → IsExpr names e → max least 13 ≤ level_of e → nest e ≤ suc depth →
      Fronts (pieces e) (t ∷ tokens) rest → Meets (Goes 15) (Unary least names t tokens) e rest
  unary_by least names t tokens rest (Postfix span first ps) shape tight small h =
      unary_postfix depth inner types inner_sound inner_reached types_reached least names t tokens rest span first ps shape small h
  unary_by least names t tokens rest (Prefix span operator operand) shape tight small h = unary_prefix least names t tokens rest span operator operand shape small h
  unary_by least names t tokens rest (OfType span operator type_name) shape tight small h = unary_of_type least names t tokens rest span operator type_name shape small h
  unary_by least names t tokens rest (Cast span type_name operand) shape tight small h = unary_cast least (omega arith) names t tokens rest span type_name operand shape small h
  unary_by least names t tokens rest (Run span first more) shape tight small h = let b = (run_between (after names first) more shape.2 shape.3).1 in absurd (omega arith)
  unary_by least names t tokens rest (Conditional span condition when_true when_false) shape tight small h = absurd (omega arith)
  unary_by least names t tokens rest (Assignment span target operator value) shape tight small h = absurd (omega arith)
  unary_by least names t tokens rest (Comma span first more) shape tight small h = absurd (omega arith)
  unary_by least names t tokens rest e shape tight small h =
      unary_primary depth inner types inner_sound inner_reached types_reached least names t tokens rest e (primary_form names e shape (omega arith)) shape small h

  pub unary_reached : (least : ℕ) (names : Names) (t : Token) (tokens rest : List Token) (e : Tree) → IsFront names (max least 13) (suc depth) (t ∷ tokens) e rest →
      Meets (Goes 15) (Unary least names t tokens) e rest
  unary_reached least names t tokens rest e f = let within = f.within in unary_by least names t tokens rest e within.shape within.tight within.shallow f.words
