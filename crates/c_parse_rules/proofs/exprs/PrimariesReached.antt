-- A primary expression at the front of the tokens is found, and so is a postfix run.
use Rattle.std.proofs.Common.{◌≡◌, ℕ, suc, ◌<◌, ◌≤◌, ◌⊎◌, inl, inr, true, false, cond, List, [], ◌∷◌, ◌++◌, length, Option, None, Some, refl, sym, ◌∙◌, ap, subst, arith, IsTrue}
use Rattle.std.specs.Prelude.{nat_le}
use Rattle.std.proofs.lemmas.Bool.{cond_both, cond-true, cond-false, le-leb}
use Rattle.std.proofs.lemmas.Option.{same_Some}
use Rattle.c_base.specs.declared.number.Span.{Span}
use Rattle.c_base.specs.declared.token.IntegerConstant.{IntegerConstant}
use Rattle.c_base.specs.declared.token.Keyword.TheVariants as key
use Rattle.c_base.specs.declared.token.Punctuator.TheVariants as mark
use Rattle.c_base.specs.declared.token.Token.{Token}
use Rattle.c_base.specs.declared.token.Word.TheVariants as word
use Rattle.c_tree.specs.Nesting.{nest}
use Rattle.c_tree.specs.Spelling.{Piece, plain, sign, pieces, pieces_of_all}
use Rattle.c_tree.specs.Trees.{Tree, Name, Integer, Floating, Character, Text, Parenthesised, Postfix, Prefix, OfType, Offsetof, Cast, Run, Conditional, Assignment, Comma, Operand, Trees, Nil, Next}
use Rattle.c_tree.specs.Views.{listed}
use Rattle.c_tree.specs.WellFormed.{Names, is_typedef, after, level_of, level_of_run, IsExpr, AreThere, AreParts, AreOperands}
use Rattle.c_parse_rules.specs.Found.{Fronts}
use Rattle.c_parse_rules.specs.Following.{is_type_end, ends_type}
use Rattle.c_parse_rules.proofs.Laws.{ExprsSound, ExprsReached, TypesReached}
use Rattle.c_parse_rules.specs.Rules.{Found, Several, Inner, Types, literals, parts, postfix_of, postfix_at, parenthesised_at, offsetof_at, text_of_literals, primary_of, primary_at, unary_of}
use Rattle.c_parse_rules.specs.Tokens.{◌>>=◌, behind_mark, name_at, is_type_at}
use Rattle.c_parse_rules.proofs.exprs.Beginnings.{expr_untyped}
use Rattle.c_parse_rules.proofs.exprs.Collecting.{Meets}
use Rattle.c_parse_rules.proofs.exprs.Follows.{Goes, goes_front, operator_level}
use Rattle.c_parse_rules.proofs.exprs.Fronts.{fronts_split, fronts_left, mark_read, name_read}
use Rattle.c_parse_rules.proofs.exprs.Listing.{AllStand}
use Rattle.c_parse_rules.proofs.exprs.Literals.{literals_reached}
use Rattle.c_parse_rules.proofs.exprs.Meeting.{meets_of, exactly, Grown, grown_none, meets_grown, joined, joined_grown, joined_meets}
use Rattle.c_parse_rules.proofs.exprs.PartsReached.{part_opens, parts_gathered, parts_end}
use Rattle.c_parse_rules.proofs.exprs.PartsSound.{parts_sound}
use Rattle.c_parse_rules.proofs.exprs.UnarySound.{place_here}

-- ---- forms of expressions

-- the level of a run is an operator's
pub run_between : (names : Names) (more : Trees) → AreThere more → AreOperands (level_of_run more) names more → (3 ≤ level_of_run more) × (level_of_run more ≤ 12)
run_between names Nil there all = absurd there
run_between names (Next (Operand operator operand) more) there all = operator_level operator
run_between names (Next _ more) there all = absurd all.0

abbrev pub IsPrimary : Tree → Type 0
IsPrimary (Name span name) = Unit {0}
IsPrimary (Integer span constant) = Unit {0}
IsPrimary (Floating span) = Unit {0}
IsPrimary (Character span byte) = Unit {0}
IsPrimary (Text span texts) = Unit {0}
IsPrimary (Parenthesised span inner) = Unit {0}
IsPrimary (Offsetof span type_name member) = Unit {0}
IsPrimary _ = ⊥

pub primary_form : (names : Names) (e : Tree) → IsExpr names e → 16 ≤ level_of e → IsPrimary e
primary_form names (Name span name) shape tight = tt {0}
primary_form names (Integer span constant) shape tight = tt {0}
primary_form names (Floating span) shape tight = tt {0}
primary_form names (Character span byte) shape tight = tt {0}
primary_form names (Text span texts) shape tight = tt {0}
primary_form names (Parenthesised span inner) shape tight = tt {0}
primary_form names (Offsetof span type_name member) shape tight = tt {0}
primary_form names (Postfix span first parts) shape tight = absurd (omega arith)
primary_form names (Prefix span operator operand) shape tight = absurd (omega arith)
primary_form names (OfType span operator type_name) shape tight = absurd (omega arith)
primary_form names (Cast span type_name operand) shape tight = absurd (omega arith)
primary_form names (Run span first more) shape tight = let b = (run_between (after names first) more shape.2 shape.3).1 in absurd (omega arith)
primary_form names (Conditional span condition when_true when_false) shape tight = absurd (omega arith)
primary_form names (Assignment span target operator value) shape tight = absurd (omega arith)
primary_form names (Comma span first more) shape tight = absurd (omega arith)
primary_form names _ shape tight = absurd shape

-- ---- what is found, at the place and with the rest that the tree says

pub exact_meets : (Stops : List Token → Type 0) (o : Option Found) (e : Tree) (rest : List Token) → o ≡ Some (e, rest) → Meets Stops o e rest
exact_meets Stops o e rest same = rw same (inl refl)

pub placed : (node : Span → Tree) (o : Option Found) (place span : Span) (left rest : List Token) → span ≡ place → left ≡ rest → o ≡ Some (node place, left) → o ≡ Some (node span, rest)
placed node o place span left rest p l e = e ∙ ap (λ (x : Span). Some (node x, left)) (sym p) ∙ ap (λ (x : List Token). Some (node span, x)) l

pub empty_same : (Are : Names → Trees → Type 0) (spell : Trees → List Piece) (depth : ℕ) (names : Names) (several : Several) (tokens : List Token) → spell Nil ≡ [] →
    AllStand Are spell depth names (listed several.0) tokens several.1 → several.0 ≡ [] → tokens ≡ several.1
empty_same Are spell depth names ([], left) tokens none all e = subst (λ (p : List Piece). Fronts p tokens left) none all.words
empty_same Are spell depth names (t ∷ more, left) tokens none all e = absurd (cc)

module _ (depth : ℕ) (inner : Inner) (types : Types) (inner_sound : ExprsSound depth inner) (inner_reached : ExprsReached depth inner) (types_reached : TypesReached depth types) where
  -- ---- postfix runs

  same_postfix : (span : Span) (found : Found) (several : Several) → joined (Postfix span) found several ≡ postfix_of depth inner types span found several
  same_postfix span found ([], rest) = refl
  same_postfix span found (t ∷ more, rest) = refl

  pub postfix_grown : (names : Names) (span : Span) (found : Found) → Grown 15 found (postfix_at depth inner types span names found)
  unfolding postfix_at
  postfix_grown names span found =
      let several = parts depth inner types (suc (length found.1)) [] (after names found.0) found.1 in
      cond_both (nat_le (nest found.0) depth) (postfix_of depth inner types span found several) found (Grown 15 found)
      (λ small.
      subst (Grown 15 found) (same_postfix span found several)
      (joined_grown 15 (Postfix span) found several (parts_end depth inner types inner_sound inner_reached (suc (length found.1)) (after names found.0) found.1)))
      (λ big. grown_none 15 found)

  postfix_is : (names : Names) (span : Span) (found : Found) → nest found.0 ≤ depth →
      joined (Postfix span) found (parts depth inner types (suc (length found.1)) [] (after names found.0) found.1) ≡ postfix_at depth inner types span names found
  unfolding postfix_at
  postfix_is names span found small =
      same_postfix span found (parts depth inner types (suc (length found.1)) [] (after names found.0) found.1)
      ∙ sym (cond-true (nat_le (nest found.0) depth) (postfix_of depth inner types span found (parts depth inner types (suc (length found.1)) [] (after names found.0) found.1)) found
      (le-leb (nest found.0) depth small))

  postfix_meets : (names : Names) (span : Span) (first : Tree) (ps : Trees) (mid rest : List Token) → nest first ≤ depth → AreThere ps →
      AllStand AreParts pieces_of_all depth (after names first) ps mid rest → Meets (Goes 15) (Some (postfix_at depth inner types span names (first, mid))) (Postfix span first ps) rest
  postfix_meets names span first ps mid rest small there all =
      let several = parts depth inner types (suc (length mid)) [] (after names first) mid in
      subst (λ (x : Found). Meets (Goes 15) (Some x) (Postfix span first ps) rest) (postfix_is names span (first, mid) small)
      (joined_meets 15 (Postfix span) first ps mid rest several there (fronts_left (pieces_of_all ps) mid rest all.words)
      (empty_same AreParts pieces_of_all depth (after names first) several mid refl (parts_sound depth inner types inner_sound (suc (length mid)) (after names first) mid))
      (parts_gathered depth inner types inner_sound inner_reached (suc (length mid)) (after names first) ps mid rest (omega arith) all))

  -- ---- primary expressions

  abbrev Primary : Names → Token → List Token → Option Found
  Primary names t tokens = primary_of depth inner types t.span names tokens t.word

  name_is : (names : Names) (t : Token) (tokens : List Token) (name : List ℕ) → t.word ≡ word.Identifier name → is_typedef names name ≡ false →
      Primary names t tokens ≡ Some (Name t.span name, tokens)
  name_is names t tokens name w known = rw w (cond-false (is_typedef names name) None (Some (Name t.span name, tokens)) known)

  integer_is : (names : Names) (t : Token) (tokens : List Token) (constant : IntegerConstant) → t.word ≡ word.Integer constant → Primary names t tokens ≡ Some (Integer t.span constant, tokens)
  integer_is names t tokens constant w = rw w refl

  floating_is : (names : Names) (t : Token) (tokens : List Token) → t.word ≡ word.Floating → Primary names t tokens ≡ Some (Floating t.span, tokens)
  floating_is names t tokens w = rw w refl

  character_is : (names : Names) (t : Token) (tokens : List Token) (byte : ℕ) → t.word ≡ word.Character byte → Primary names t tokens ≡ Some (Character t.span byte, tokens)
  character_is names t tokens byte w = rw w refl

  text_is : (names : Names) (t : Token) (tokens : List Token) (bytes : List ℕ) → t.word ≡ word.Text bytes →
      Primary names t tokens ≡ Some (text_of_literals depth inner types t.span (literals (suc (length tokens)) (bytes ∷ []) tokens))
  text_is names t tokens bytes w = rw w refl

  parenthesised_is : (names : Names) (t : Token) (tokens mid rest : List Token) (e : Tree) → t.word ≡ word.Punctuator mark.OpenParenthesis → inner names 0 tokens ≡ Some (e, mid) →
      behind_mark mark.CloseParenthesis mid ≡ Some rest → Primary names t tokens ≡ Some (Parenthesised t.span e, rest)
  unfolding parenthesised_at
  parenthesised_is names t tokens mid rest e w f g = rw (w, f, g) refl

  offsetof_is : (names : Names) (t : Token) (tokens inside typed named close rest : List Token) (type_name : Tree) (member : List ℕ) → t.word ≡ word.Keyword key.BuiltinOffsetof →
      behind_mark mark.OpenParenthesis tokens ≡ Some inside → types names inside ≡ Some (type_name, typed) → behind_mark mark.Comma typed ≡ Some named →
      name_at named ≡ Some (member, close) → behind_mark mark.CloseParenthesis close ≡ Some rest → Primary names t tokens ≡ Some (Offsetof t.span type_name member, rest)
  unfolding offsetof_at
  offsetof_is names t tokens inside typed named close rest type_name member w a b c d e = rw (w, a, b, c, d, e) refl

  text_meets : (names : Names) (t : Token) (tokens rest : List Token) (span : Span) (bytes : List ℕ) (more : List (List ℕ)) → t.word ≡ word.Text bytes → span ≡ t.span →
      (literals (suc (length tokens)) (bytes ∷ []) tokens ≡ (bytes ∷ more, rest)) ⊎ ((length (literals (suc (length tokens)) (bytes ∷ []) tokens).1 < length rest) × Goes 16 rest) →
      Meets (Goes 16) (Primary names t tokens) (Text span (bytes ∷ more)) rest
  text_meets names t tokens rest span bytes more w p (inl e) =
      exact_meets (Goes 16) (Primary names t tokens) (Text span (bytes ∷ more)) rest
      (placed (λ (x : Span). Text x (bytes ∷ more)) (Primary names t tokens) t.span span rest rest p refl
      (text_is names t tokens bytes w ∙ ap (λ (x : List (List ℕ) × List Token). Some (text_of_literals depth inner types t.span x)) e))
  text_meets names t tokens rest span bytes more w p (inr h) = rw (text_is names t tokens bytes w) (inr h)

  -- a type name ends before these
  pub ends_before : (m : _) (p : List Piece) (tokens rest : List Token) → is_type_end (word.Punctuator m) ≡ true → Fronts (sign m ∷ p) tokens rest → IsTrue (ends_type tokens)
  ends_before m p [] rest e h = absurd h
  ends_before m p (t ∷ tokens) rest e h = let piece = h.0 in rw piece.word e

  primary_meets : (names : Names) (t : Token) (tokens rest : List Token) (e : Tree) → IsPrimary e → IsExpr names e → nest e ≤ suc depth → Fronts (pieces e) (t ∷ tokens) rest →
      Meets (Goes 16) (Primary names t tokens) e rest
  primary_meets names t tokens rest (Name span name) form shape small h =
      let piece = h.0 in
      exact_meets (Goes 16) (Primary names t tokens) (Name span name) rest
      (placed (λ (x : Span). Name x name) (Primary names t tokens) t.span span tokens rest piece.place h.1 (name_is names t tokens name piece.word shape))
  primary_meets names t tokens rest (Integer span constant) form shape small h =
      let piece = h.0 in
      exact_meets (Goes 16) (Primary names t tokens) (Integer span constant) rest
      (placed (λ (x : Span). Integer x constant) (Primary names t tokens) t.span span tokens rest piece.place h.1 (integer_is names t tokens constant piece.word))
  primary_meets names t tokens rest (Floating span) form shape small h =
      let piece = h.0 in
      exact_meets (Goes 16) (Primary names t tokens) (Floating span) rest
      (placed (λ (x : Span). Floating x) (Primary names t tokens) t.span span tokens rest piece.place h.1 (floating_is names t tokens piece.word))
  primary_meets names t tokens rest (Character span byte) form shape small h =
      let piece = h.0 in
      exact_meets (Goes 16) (Primary names t tokens) (Character span byte) rest
      (placed (λ (x : Span). Character x byte) (Primary names t tokens) t.span span tokens rest piece.place h.1 (character_is names t tokens byte piece.word))
  primary_meets names t tokens rest (Text span []) form shape small h = absurd shape
  primary_meets names t tokens rest (Text span (bytes ∷ more)) form shape small h =
      let piece = h.0 in
      text_meets names t tokens rest span bytes more piece.word piece.place (literals_reached (suc (length tokens)) (bytes ∷ []) more tokens rest (omega arith) h.1)
  primary_meets names t tokens rest (Parenthesised span e) form shape small h =
      let piece = h.0 in
      let s = fronts_split (pieces e) (sign mark.CloseParenthesis ∷ []) tokens rest h.1 in
      let c = mark_read mark.CloseParenthesis [] s.mid rest s.back in
      let found = exactly 0 (inner names 0 tokens) e s.mid
      (meets_of 0 (inner names 0 tokens) e s.mid
      (inner_reached names 0 tokens e s.mid (omega arith) (record { within = record { shape = shape; tight = omega arith; shallow = omega arith }; words = s.front })))
      (λ g. let l = goes_front 0 (sign mark.CloseParenthesis) [] s.mid rest s.back g in absurd (omega arith)) in
      exact_meets (Goes 16) (Primary names t tokens) (Parenthesised span e) rest
      (placed (λ (x : Span). Parenthesised x e) (Primary names t tokens) t.span span c.left rest piece.place c.back (parenthesised_is names t tokens s.mid c.left e piece.word found c.is))
  primary_meets names t tokens rest (Offsetof span type_name member) form shape small h =
      let piece = h.0 in
      let close = sign mark.CloseParenthesis ∷ [] in
      let a = mark_read mark.OpenParenthesis (pieces type_name ++ sign mark.Comma ∷ plain (word.Identifier member) ∷ close) tokens rest h.1 in
      let s = fronts_split (pieces type_name) (sign mark.Comma ∷ plain (word.Identifier member) ∷ close) a.left rest a.back in
      let c = mark_read mark.Comma (plain (word.Identifier member) ∷ close) s.mid rest s.back in
      let n = name_read member close c.left rest c.back in
      let d = mark_read mark.CloseParenthesis [] n.left rest n.back in
      let typed = types_reached names a.left type_name s.mid (record { shape = shape; shallow = omega arith; words = s.front })
      (ends_before mark.Comma (plain (word.Identifier member) ∷ close) s.mid rest refl s.back) in
      exact_meets (Goes 16) (Primary names t tokens) (Offsetof span type_name member) rest
      (placed (λ (x : Span). Offsetof x type_name member) (Primary names t tokens) t.span span d.left rest piece.place d.back
      (offsetof_is names t tokens a.left s.mid c.left n.left d.left type_name member piece.word a.is typed c.is n.is d.is))
  primary_meets names t tokens rest _ form shape small h = absurd form

  -- ---- the unary stage reads a primary expression and its parts

  abbrev pub Unary : ℕ → Names → Token → List Token → Option Found
  Unary least names t tokens = unary_of depth inner types least t.span names tokens t.word

  paren_is : (least : ℕ) (names : Names) (t : Token) (tokens : List Token) → t.word ≡ word.Punctuator mark.OpenParenthesis → is_type_at names tokens ≡ false →
      Unary least names t tokens ≡ primary_at depth inner types t.span names tokens t.word
  paren_is least names t tokens w untyped =
      rw w (cond-false (is_type_at names tokens) (cond (nat_le least 13) (Rattle.c_parse_rules.specs.Rules.cast_at depth inner types t.span names tokens) None)
      (primary_at depth inner types t.span names tokens (word.Punctuator mark.OpenParenthesis)) untyped)

  to_primary : (least : ℕ) (names : Names) (t : Token) (tokens rest : List Token) (e : Tree) → IsPrimary e → IsExpr names e → Fronts (pieces e) (t ∷ tokens) rest →
      Unary least names t tokens ≡ primary_at depth inner types t.span names tokens t.word
  to_primary least names t tokens rest (Name span name) form shape h = let piece = h.0 in rw piece.word refl
  to_primary least names t tokens rest (Integer span constant) form shape h = let piece = h.0 in rw piece.word refl
  to_primary least names t tokens rest (Floating span) form shape h = let piece = h.0 in rw piece.word refl
  to_primary least names t tokens rest (Character span byte) form shape h = let piece = h.0 in rw piece.word refl
  to_primary least names t tokens rest (Text span []) form shape h = absurd shape
  to_primary least names t tokens rest (Text span (bytes ∷ more)) form shape h = let piece = h.0 in rw piece.word refl
  to_primary least names t tokens rest (Parenthesised span e) form shape h =
      let piece = h.0 in
      let s = fronts_split (pieces e) (sign mark.CloseParenthesis ∷ []) tokens rest h.1 in
      paren_is least names t tokens piece.word (expr_untyped names e tokens s.mid shape s.front)
  to_primary least names t tokens rest (Offsetof span type_name member) form shape h = let piece = h.0 in rw piece.word refl
  to_primary least names t tokens rest _ form shape h = absurd form

  with_parts : (names : Names) (span : Span) (o : Option Found) (e : Tree) (rest : List Token) → Meets (Goes 16) o e rest →
      Meets (Goes 15) (o >>= (λ (x : Found). Some (postfix_at depth inner types span names x))) e rest
  with_parts names span None e rest h = h
  with_parts names span (Some found) e rest h = meets_grown 15 16 found (postfix_at depth inner types span names found) e rest (omega arith) h (postfix_grown names span found)

  primary_at_meets : (names : Names) (t : Token) (tokens rest : List Token) (e : Tree) → Meets (Goes 16) (Primary names t tokens) e rest →
      Meets (Goes 15) (primary_at depth inner types t.span names tokens t.word) e rest
  unfolding primary_at
  primary_at_meets names t tokens rest e h = with_parts names t.span (Primary names t tokens) e rest h

  primary_at_is : (names : Names) (t : Token) (tokens : List Token) (found : Found) → Primary names t tokens ≡ Some found →
      primary_at depth inner types t.span names tokens t.word ≡ Some (postfix_at depth inner types t.span names found)
  unfolding primary_at
  primary_at_is names t tokens found h = rw h refl

  pub unary_primary : (least : ℕ) (names : Names) (t : Token) (tokens rest : List Token) (e : Tree) → IsPrimary e → IsExpr names e → nest e ≤ suc depth → Fronts (pieces e) (t ∷ tokens) rest →
      Meets (Goes 15) (Unary least names t tokens) e rest
  unary_primary least names t tokens rest e form shape small h =
      subst (λ (o : Option Found). Meets (Goes 15) o e rest) (sym (to_primary least names t tokens rest e form shape h))
      (primary_at_meets names t tokens rest e (primary_meets names t tokens rest e form shape small h))

  -- parts begin with a word that no primary expression goes on with
  parts_stop : (names : Names) (ps : Trees) (tokens rest : List Token) → AreThere ps → AllStand AreParts pieces_of_all depth names ps tokens rest → Goes 16 tokens → ⊥
  parts_stop names Nil tokens rest there all g = absurd there
  parts_stop names (Next p ps) tokens rest there all g =
      let words = all.words in
      let shapes = all.shapes in
      let deep = all.shallow in
      let s = fronts_split (pieces p) (pieces_of_all ps) tokens rest words in
      let o = part_opens depth names p tokens s.mid (record { shape = shapes.0; shallow = omega arith; words = s.front }) in o.stops g

  pub unary_postfix : (least : ℕ) (names : Names) (t : Token) (tokens rest : List Token) (span : Span) (first : Tree) (ps : Trees) → IsExpr names (Postfix span first ps) →
      nest (Postfix span first ps) ≤ suc depth → Fronts (pieces (Postfix span first ps)) (t ∷ tokens) rest → Meets (Goes 15) (Unary least names t tokens) (Postfix span first ps) rest
  unary_postfix least names t tokens rest span first ps shape small h =
      let s = fronts_split (pieces first) (pieces_of_all ps) (t ∷ tokens) rest h in
      let is_first = shape.0 in
      let tight = is_first.tight in
      let form = primary_form names first shape.1 tight in
      let all : AllStand AreParts pieces_of_all depth (after names first) ps s.mid rest = record { shapes = shape.3; shallow = omega arith; words = s.back } in
      let found = exactly 16 (Primary names t tokens) first s.mid (primary_meets names t tokens s.mid first form shape.1 (omega arith) s.front)
      (parts_stop (after names first) ps s.mid rest shape.2 all) in
      let unary = to_primary least names t tokens s.mid first form shape.1 s.front ∙ primary_at_is names t tokens (first, s.mid) found in
      let place = same_Some t.span span (sym (place_here names first t tokens s.mid shape.1 s.front) ∙ is_first.place) in
      let meets = postfix_meets names t.span first ps s.mid rest (omega arith) shape.2 all in
      subst (λ (o : Option Found). Meets (Goes 15) o (Postfix span first ps) rest) (sym unary)
      (subst (λ (x : Span). Meets (Goes 15) (Some (postfix_at depth inner types t.span names (first, s.mid))) (Postfix x first ps) rest) place meets)
