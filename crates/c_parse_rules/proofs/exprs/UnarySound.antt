-- What is found as a primary expression, a postfix run, a prefix form or a cast is there.
use Rattle.std.proofs.Common.{◌≡◌, ℕ, suc, ◌≤◌, max, Bool, true, false, cond, List, [], ◌∷◌, ◌++◌, length, Option, None, Some, refl, sym, ◌∙◌, ap, subst, arith}
use Rattle.std.specs.Prelude.{nat_le}
use Rattle.std.proofs.lemmas.Bool.{cond_both, leb-true}
use Rattle.std.proofs.lemmas.Option.{none-some, same_Some}
use Rattle.c_base.specs.declared.token.Keyword.TheVariants as key
use Rattle.c_base.specs.declared.token.Punctuator.{Punctuator}
use Rattle.c_base.specs.declared.token.Punctuator.TheVariants as mark
use Rattle.c_base.specs.declared.token.Token.{Token}
use Rattle.c_base.specs.declared.token.Word.{Word}
use Rattle.c_base.specs.declared.token.Word.TheVariants as word
use Rattle.c_tree.specs.declared.operator.PrefixOperator.{PrefixOperator}
use Rattle.c_tree.specs.declared.operator.PrefixOperator.TheVariants as prefix
use Rattle.c_tree.specs.declared.operator.TypeOperator.{TypeOperator}
use Rattle.c_tree.specs.declared.operator.TypeOperator.TheVariants as type_operator
use Rattle.c_tree.specs.Nesting.{nest}
use Rattle.c_tree.specs.Spelling.{plain, sign, word_of_prefix, word_of_type_operator, pieces, pieces_of_all}
use Rattle.c_tree.specs.Trees.{Tree, Name, Integer, Floating, Character, Text, Parenthesised, Prefix, OfType, Offsetof, Cast}
use Rattle.c_tree.specs.Views.{listed}
use Rattle.c_tree.specs.WellFormed.{Names, is_typedef, after, level_behind, place_of, IsExpr, AreParts}
use Rattle.c_parse_rules.specs.Found.{Fronts, IsFront}
use Rattle.c_parse_rules.proofs.Laws.{ExprsSound, TypesSound}
use Rattle.c_parse_rules.specs.Rules.{Found, Several, Inner, Types, literals, parts, postfix_of, postfix_at, parenthesised_at, type_at, offsetof_at, text_of_literals, primary_of, primary_at, prefix_at, of_type_at, opens_type, sizeof_at, cast_at, prefixed, unary_of}
use Rattle.c_parse_rules.specs.Tokens.{◌>>=◌, behind_mark, name_at, prefix_of, is_type_at}
use Rattle.c_parse_rules.proofs.exprs.Beginnings.{expr_begins}
use Rattle.c_parse_rules.proofs.exprs.Fronts.{fronts_join, mark_found, mark_alone, name_found}
use Rattle.c_parse_rules.proofs.exprs.Listing.{AllStand}
use Rattle.c_parse_rules.proofs.exprs.Literals.{LiteralsFound, literals_sound}
use Rattle.c_parse_rules.proofs.exprs.Loops.{bind_some, moved}
use Rattle.c_parse_rules.proofs.exprs.PartsSound.{parts_sound}

-- an expression has the place of the first token
pub place_here : (names : Names) (e : Tree) (t : Token) (tokens rest : List Token) → IsExpr names e → Fronts (pieces e) (t ∷ tokens) rest → place_of e ≡ Some t.span
place_here names e t tokens rest shape words =
    let b = expr_begins names e (t ∷ tokens) rest shape words in
    let other = b.token in
    let same : t ∷ tokens ≡ other ∷ b.left = b.same in
    let first : t ≡ other = cc in b.place ∙ ap (λ (x : Token). Some x.span) (sym first)

pub front_looser : (names : Names) (j k depth : ℕ) (tokens : List Token) (e : Tree) (rest : List Token) → j ≤ k → IsFront names k depth tokens e rest → IsFront names j depth tokens e rest
front_looser names j k depth tokens e rest le f =
    let within = f.within in
    let tight = within.tight in
    record { within = record { shape = within.shape; tight = omega arith; shallow = within.shallow }; words = f.words }

cond_other : {A : Type 0} (b : Bool) (x y : A) → cond b None (Some x) ≡ Some y → (b ≡ false) × (x ≡ y)
cond_other true x y e = absurd (none-some y e)
cond_other false x y e = (refl, same_Some x y e)

pub prefix_says : (p : Punctuator) (operator : PrefixOperator) → prefix_of p ≡ Some operator → word.Punctuator p ≡ word_of_prefix operator
prefix_says mark.Increment operator e = rw (← same_Some prefix.Increment operator e) refl
prefix_says mark.Decrement operator e = rw (← same_Some prefix.Decrement operator e) refl
prefix_says mark.Ampersand operator e = rw (← same_Some prefix.Address operator e) refl
prefix_says mark.Star operator e = rw (← same_Some prefix.Indirection operator e) refl
prefix_says mark.Plus operator e = rw (← same_Some prefix.Plus operator e) refl
prefix_says mark.Minus operator e = rw (← same_Some prefix.Minus operator e) refl
prefix_says mark.Tilde operator e = rw (← same_Some prefix.Complement operator e) refl
prefix_says mark.Exclamation operator e = rw (← same_Some prefix.Not operator e) refl
prefix_says _ operator e = absurd (none-some operator e)

pub level_behind_low : (operator : PrefixOperator) → level_behind operator ≤ 14
level_behind_low prefix.Increment = omega arith
level_behind_low _ = omega arith

module _ (depth : ℕ) (inner : Inner) (types : Types) (inner_sound : ExprsSound depth inner) (types_sound : TypesSound depth types) where
  -- behind a first token this is found
  abbrev pub Holds : ℕ → Names → Token → List Token → Found → Type 0
  Holds least names t tokens found = IsFront names least (suc depth) (t ∷ tokens) found.0 found.1

  -- ---- postfix runs

  postfix_by : (names : Names) (t : Token) (tokens : List Token) (found : Found) (several : Several) → nest found.0 ≤ depth → Holds 16 names t tokens found →
      AllStand AreParts pieces_of_all depth (after names found.0) (listed several.0) found.1 several.1 → Holds 15 names t tokens (postfix_of depth inner types t.span found several)
  postfix_by names t tokens found ([], rest) small f all = front_looser names 15 16 (suc depth) (t ∷ tokens) found.0 found.1 (omega arith) f
  postfix_by names t tokens found (part ∷ more, rest) small f all =
      let within = f.within in
      let deep = all.shallow in
      record {
        within = record {
          shape = (record { place = place_here names found.0 t tokens found.1 within.shape f.words; tight = within.tight }, within.shape, tt {0}, all.shapes);
          tight = omega arith;
          shallow = omega arith;
        };
        words = fronts_join (pieces found.0) (pieces_of_all (listed (part ∷ more))) (t ∷ tokens) found.1 rest f.words all.words;
      }

  postfix_sound : (names : Names) (t : Token) (tokens : List Token) (found : Found) → Holds 16 names t tokens found → Holds 15 names t tokens (postfix_at depth inner types t.span names found)
  unfolding postfix_at
  postfix_sound names t tokens found f =
      cond_both (nat_le (nest found.0) depth) (postfix_of depth inner types t.span found (parts depth inner types (suc (length found.1)) [] (after names found.0) found.1)) found
      (Holds 15 names t tokens)
      (λ small.
      postfix_by names t tokens found (parts depth inner types (suc (length found.1)) [] (after names found.0) found.1) (leb-true (nest found.0) depth small) f
      (parts_sound depth inner types inner_sound (suc (length found.1)) (after names found.0) found.1))
      (λ big. front_looser names 15 16 (suc depth) (t ∷ tokens) found.0 found.1 (omega arith) f)

  -- ---- primary expressions

  text_by : (names : Names) (t : Token) (tokens : List Token) (bytes : List ℕ) (several : List (List ℕ) × List Token) → t.word ≡ word.Text bytes →
      LiteralsFound (bytes ∷ []) tokens several → Holds 16 names t tokens (text_of_literals depth inner types t.span several)
  text_by names t tokens bytes several w l =
      let all : Holds 16 names t tokens (Text t.span (bytes ∷ l.more), several.1) = record {
        within = record { shape = tt {0}; tight = omega arith; shallow = omega arith };
        words = (record { word = w; place = refl }, l.words);
      } in
      subst (λ (x : List (List ℕ)). Holds 16 names t tokens (Text t.span x, several.1)) (sym l.is) all

  parenthesised_sound : (names : Names) (t : Token) (tokens : List Token) (found : Found) → t.word ≡ word.Punctuator mark.OpenParenthesis →
      parenthesised_at depth inner types t.span names tokens ≡ Some found → Holds 16 names t tokens found
  unfolding parenthesised_at
  parenthesised_sound names t tokens found w same =
      let b = bind_some (inner names 0 tokens) (λ (x : Found). behind_mark mark.CloseParenthesis x.1 >>= (λ rest. Some (Parenthesised t.span x.0, rest))) found same in
      let x = b.value in
      let c = bind_some (behind_mark mark.CloseParenthesis x.1) (λ rest. Some (Parenthesised t.span x.0, rest)) found b.then in
      let f = inner_sound names 0 tokens x (omega arith) b.is in
      let within = f.within in
      let deep = within.shallow in
      moved (Holds 16 names t tokens) (Parenthesised t.span x.0, c.value) found c.then (record {
        within = record { shape = within.shape; tight = omega arith; shallow = omega arith };
        words = (
          record { word = w; place = refl },
          fronts_join (pieces x.0) (sign mark.CloseParenthesis ∷ []) tokens x.1 c.value f.words (mark_alone mark.CloseParenthesis x.1 c.value c.is),
        );
      })

  offsetof_held : (names : Names) (t : Token) (tokens inside : List Token) (x : Found) (comma : List Token) (member : List ℕ × List Token) (rest : List Token) → t.word ≡ word.Keyword key.BuiltinOffsetof →
      behind_mark mark.OpenParenthesis tokens ≡ Some inside → types names inside ≡ Some x → behind_mark mark.Comma x.1 ≡ Some comma → name_at comma ≡ Some member →
      behind_mark mark.CloseParenthesis member.1 ≡ Some rest → Holds 16 names t tokens (Offsetof t.span x.0 member.0, rest)
  offsetof_held names t tokens inside x comma member rest w a b c d e =
      let f = types_sound names inside x b in
      let deep = f.shallow in
      let last = plain (word.Identifier member.0) ∷ sign mark.CloseParenthesis ∷ [] in
      let close = mark_alone mark.CloseParenthesis member.1 rest e in
      let named = name_found member (sign mark.CloseParenthesis ∷ []) comma rest d close in
      let behind = mark_found mark.Comma last x.1 comma rest c named in
      let typed = fronts_join (pieces x.0) (sign mark.Comma ∷ last) inside x.1 rest f.words behind in
      record {
        within = record { shape = f.shape; tight = omega arith; shallow = omega arith };
        words = (record { word = w; place = refl }, mark_found mark.OpenParenthesis (pieces x.0 ++ sign mark.Comma ∷ last) tokens inside rest a typed);
      }

  offsetof_sound : (names : Names) (t : Token) (tokens : List Token) (found : Found) → t.word ≡ word.Keyword key.BuiltinOffsetof →
      offsetof_at depth inner types t.span names tokens ≡ Some found → Holds 16 names t tokens found
  unfolding offsetof_at
  offsetof_sound names t tokens found w same =
      let last = λ (x : Found) (member : List ℕ × List Token) (rest : List Token). Some (Offsetof t.span x.0 member.0, rest) in
      let closing = λ (x : Found) (member : List ℕ × List Token). behind_mark mark.CloseParenthesis member.1 >>= last x member in
      let naming = λ (x : Found) (comma : List Token). name_at comma >>= closing x in
      let typing = λ (x : Found). behind_mark mark.Comma x.1 >>= naming x in
      let a = bind_some (behind_mark mark.OpenParenthesis tokens) (λ inside. types names inside >>= typing) found same in
      let b = bind_some (types names a.value) typing found a.then in
      let c = bind_some (behind_mark mark.Comma b.value.1) (naming b.value) found b.then in
      let d = bind_some (name_at c.value) (closing b.value) found c.then in
      let e = bind_some (behind_mark mark.CloseParenthesis d.value.1) (last b.value d.value) found d.then in
      moved (Holds 16 names t tokens) (Offsetof t.span b.value.0 d.value.0, e.value) found e.then
      (offsetof_held names t tokens a.value b.value c.value d.value e.value w a.is b.is c.is d.is e.is)

  primary_by : (names : Names) (t : Token) (tokens : List Token) (w : Word) (found : Found) → t.word ≡ w → primary_of depth inner types t.span names tokens w ≡ Some found →
      Holds 16 names t tokens found
  primary_by names t tokens (word.Identifier name) found w same =
      let c = cond_other (is_typedef names name) (Name t.span name, tokens) found same in
      subst (Holds 16 names t tokens) c.1 (record {
        within = record { shape = c.0; tight = omega arith; shallow = omega arith };
        words = (record { word = w; place = refl }, refl);
      })
  primary_by names t tokens (word.Integer constant) found w same =
      moved (Holds 16 names t tokens) (Integer t.span constant, tokens) found same (record {
        within = record { shape = tt {0}; tight = omega arith; shallow = omega arith };
        words = (record { word = w; place = refl }, refl);
      })
  primary_by names t tokens word.Floating found w same =
      moved (Holds 16 names t tokens) (Floating t.span, tokens) found same (record {
        within = record { shape = tt {0}; tight = omega arith; shallow = omega arith };
        words = (record { word = w; place = refl }, refl);
      })
  primary_by names t tokens (word.Character byte) found w same =
      moved (Holds 16 names t tokens) (Character t.span byte, tokens) found same (record {
        within = record { shape = tt {0}; tight = omega arith; shallow = omega arith };
        words = (record { word = w; place = refl }, refl);
      })
  primary_by names t tokens (word.Text bytes) found w same =
      let several = literals (suc (length tokens)) (bytes ∷ []) tokens in
      moved (Holds 16 names t tokens) (text_of_literals depth inner types t.span several) found same
      (text_by names t tokens bytes several w (literals_sound (suc (length tokens)) (bytes ∷ []) tokens))
  primary_by names t tokens (word.Punctuator mark.OpenParenthesis) found w same = parenthesised_sound names t tokens found w same
  primary_by names t tokens (word.Keyword key.BuiltinOffsetof) found w same = offsetof_sound names t tokens found w same
  primary_by names t tokens _ found w same = absurd (none-some found same)

  primary_sound : (names : Names) (t : Token) (tokens : List Token) (w : Word) (found : Found) → t.word ≡ w → primary_at depth inner types t.span names tokens w ≡ Some found →
      Holds 15 names t tokens found
  unfolding primary_at
  primary_sound names t tokens w found e same =
      let b = bind_some (primary_of depth inner types t.span names tokens w) (λ (x : Found). Some (postfix_at depth inner types t.span names x)) found same in
      moved (Holds 15 names t tokens) (postfix_at depth inner types t.span names b.value) found b.then
      (postfix_sound names t tokens b.value (primary_by names t tokens w b.value e b.is))

  -- ---- prefix forms and casts

  prefix_sound : (names : Names) (t : Token) (tokens : List Token) (operator : PrefixOperator) (found : Found) → t.word ≡ word_of_prefix operator →
      prefix_at depth inner types t.span operator names tokens ≡ Some found → Holds 14 names t tokens found
  unfolding prefix_at
  prefix_sound names t tokens operator found w same =
      let b = bind_some (inner names (level_behind operator) tokens) (λ (x : Found). Some (Prefix t.span operator x.0, x.1)) found same in
      let x = b.value in
      let f = inner_sound names (level_behind operator) tokens x (level_behind_low operator) b.is in
      let within = f.within in
      let deep = within.shallow in
      moved (Holds 14 names t tokens) (Prefix t.span operator x.0, x.1) found b.then (record {
        within = record { shape = (within.tight, within.shape); tight = omega arith; shallow = omega arith };
        words = (record { word = w; place = refl }, f.words);
      })

  of_type_sound : (names : Names) (t : Token) (tokens : List Token) (operator : TypeOperator) (found : Found) → t.word ≡ word_of_type_operator operator →
      of_type_at depth inner types t.span operator names tokens ≡ Some found → Holds 14 names t tokens found
  unfolding of_type_at type_at
  of_type_sound names t tokens operator found w same =
      let o = bind_some (type_at depth inner types names tokens) (λ (x : Found). Some (OfType t.span operator x.0, x.1)) found same in
      let y = o.value in
      let a = bind_some (behind_mark mark.OpenParenthesis tokens)
      (λ open_rest. types names open_rest >>= (λ (x : Found). behind_mark mark.CloseParenthesis x.1 >>= (λ rest. Some (x.0, rest)))) y o.is in
      let b = bind_some (types names a.value) (λ (x : Found). behind_mark mark.CloseParenthesis x.1 >>= (λ rest. Some (x.0, rest))) y a.then in
      let x = b.value in
      let c = bind_some (behind_mark mark.CloseParenthesis x.1) (λ rest. Some (x.0, rest)) y b.then in
      let f = types_sound names a.value x b.is in
      let deep = f.shallow in
      let close = mark_alone mark.CloseParenthesis x.1 c.value c.is in
      let inside = fronts_join (pieces x.0) (sign mark.CloseParenthesis ∷ []) a.value x.1 c.value f.words close in
      let held : Holds 14 names t tokens (OfType t.span operator x.0, c.value) = record {
        within = record { shape = f.shape; tight = omega arith; shallow = omega arith };
        words = (record { word = w; place = refl }, mark_found mark.OpenParenthesis (pieces x.0 ++ sign mark.CloseParenthesis ∷ []) tokens a.value c.value a.is inside);
      } in
      moved (Holds 14 names t tokens) (OfType t.span operator y.0, y.1) found o.then
      (moved (λ (z : Found). Holds 14 names t tokens (OfType t.span operator z.0, z.1)) (x.0, c.value) y c.then held)

  cast_sound : (names : Names) (t : Token) (tokens : List Token) (found : Found) → t.word ≡ word.Punctuator mark.OpenParenthesis →
      cast_at depth inner types t.span names tokens ≡ Some found → Holds 13 names t tokens found
  unfolding cast_at
  cast_sound names t tokens found w same =
      let a = bind_some (types names tokens)
      (λ (x : Found). behind_mark mark.CloseParenthesis x.1 >>= (λ rest. inner (after names x.0) 13 rest >>= (λ (e : Found). Some (Cast t.span x.0 e.0, e.1)))) found same in
      let x = a.value in
      let b = bind_some (behind_mark mark.CloseParenthesis x.1) (λ rest. inner (after names x.0) 13 rest >>= (λ (e : Found). Some (Cast t.span x.0 e.0, e.1))) found a.then in
      let c = bind_some (inner (after names x.0) 13 b.value) (λ (e : Found). Some (Cast t.span x.0 e.0, e.1)) found b.then in
      let e = c.value in
      let f = types_sound names tokens x a.is in
      let g = inner_sound (after names x.0) 13 b.value e (omega arith) c.is in
      let within = g.within in
      let deep = f.shallow in let deeper = within.shallow in
      moved (Holds 13 names t tokens) (Cast t.span x.0 e.0, e.1) found c.then (record {
        within = record { shape = (f.shape, within.tight, within.shape); tight = omega arith; shallow = omega arith };
        words = (
          record { word = w; place = refl },
          fronts_join (pieces x.0) (sign mark.CloseParenthesis ∷ pieces e.0) tokens x.1 e.1 f.words (mark_found mark.CloseParenthesis (pieces e.0) x.1 b.value e.1 b.is g.words),
        );
      })

  -- ---- all of these

  abbrev Level : ℕ → ℕ
  Level least = max least 13

  prefixed_sound : (least : ℕ) → least ≤ 14 → (names : Names) (t : Token) (tokens : List Token) (p : Punctuator) (o : Option PrefixOperator) (found : Found) → t.word ≡ word.Punctuator p →
      prefix_of p ≡ o → prefixed depth inner types t.span names tokens o (primary_at depth inner types t.span names tokens (word.Punctuator p)) ≡ Some found → Holds (Level least) names t tokens found
  prefixed_sound least low names t tokens p None found w e same =
      front_looser names (Level least) 15 (suc depth) (t ∷ tokens) found.0 found.1 (omega arith) (primary_sound names t tokens (word.Punctuator p) found w same)
  prefixed_sound least low names t tokens p (Some operator) found w e same =
      front_looser names (Level least) 14 (suc depth) (t ∷ tokens) found.0 found.1 (omega arith) (prefix_sound names t tokens operator found (w ∙ prefix_says p operator e) same)

  loose : (least : ℕ) → least ≤ 14 → (names : Names) (t : Token) (tokens : List Token) (found : Found) → Holds 14 names t tokens found → Holds (Level least) names t tokens found
  loose least low names t tokens found f = front_looser names (Level least) 14 (suc depth) (t ∷ tokens) found.0 found.1 (omega arith) f

  primary_loose : (least : ℕ) → least ≤ 14 → (names : Names) (t : Token) (tokens : List Token) (w : Word) (found : Found) → t.word ≡ w →
      primary_at depth inner types t.span names tokens w ≡ Some found → Holds (Level least) names t tokens found
  primary_loose least low names t tokens w found e same =
      front_looser names (Level least) 15 (suc depth) (t ∷ tokens) found.0 found.1 (omega arith) (primary_sound names t tokens w found e same)

  sizeof_by : (names : Names) (t : Token) (tokens : List Token) (is : Bool) (found : Found) → t.word ≡ word.Keyword key.Sizeof →
      cond is (of_type_at depth inner types t.span type_operator.Sizeof names tokens) (prefix_at depth inner types t.span prefix.Sizeof names tokens) ≡ Some found → Holds 14 names t tokens found
  sizeof_by names t tokens true found w same = of_type_sound names t tokens type_operator.Sizeof found w same
  sizeof_by names t tokens false found w same = prefix_sound names t tokens prefix.Sizeof found w same

  sizeof_sound : (names : Names) (t : Token) (tokens : List Token) (found : Found) → t.word ≡ word.Keyword key.Sizeof →
      sizeof_at depth inner types t.span names tokens ≡ Some found → Holds 14 names t tokens found
  unfolding sizeof_at
  sizeof_sound names t tokens found w same = sizeof_by names t tokens (opens_type depth inner types names (behind_mark mark.OpenParenthesis tokens)) found w same

  paren_by : (least : ℕ) → least ≤ 14 → (names : Names) (t : Token) (tokens : List Token) (typed allowed : Bool) (found : Found) → t.word ≡ word.Punctuator mark.OpenParenthesis →
      nat_le least 13 ≡ allowed →
      cond typed (cond allowed (cast_at depth inner types t.span names tokens) None) (primary_at depth inner types t.span names tokens (word.Punctuator mark.OpenParenthesis)) ≡ Some found →
      Holds (Level least) names t tokens found
  paren_by least low names t tokens true true found w le same =
      let small = leb-true least 13 le in
      front_looser names (Level least) 13 (suc depth) (t ∷ tokens) found.0 found.1 (omega arith) (cast_sound names t tokens found w same)
  paren_by least low names t tokens true false found w le same = absurd (none-some found same)
  paren_by least low names t tokens false allowed found w le same = primary_loose least low names t tokens (word.Punctuator mark.OpenParenthesis) found w same

  unary_by : (least : ℕ) → least ≤ 14 → (names : Names) (t : Token) (tokens : List Token) (w : Word) (found : Found) → t.word ≡ w →
      unary_of depth inner types least t.span names tokens w ≡ Some found → Holds (Level least) names t tokens found
  unary_by least low names t tokens (word.Keyword key.Sizeof) found w same = loose least low names t tokens found (sizeof_sound names t tokens found w same)
  unary_by least low names t tokens (word.Keyword key.Alignof) found w same =
      loose least low names t tokens found (of_type_sound names t tokens type_operator.Alignof found w same)
  unary_by least low names t tokens (word.Punctuator mark.OpenParenthesis) found w same =
      paren_by least low names t tokens (is_type_at names tokens) (nat_le least 13) found w refl same
  unary_by least low names t tokens (word.Punctuator p) found w same = prefixed_sound least low names t tokens p (prefix_of p) found w refl same
  unary_by least low names t tokens other found w same = primary_loose least low names t tokens other found w same

  pub unary_sound : (least : ℕ) → least ≤ 14 → (names : Names) (t : Token) (tokens : List Token) (found : Found) →
      unary_of depth inner types least t.span names tokens t.word ≡ Some found → IsFront names (max least 13) (suc depth) (t ∷ tokens) found.0 found.1
  unary_sound least low names t tokens found same = unary_by least low names t tokens t.word found refl same
