-- What is read as suffixes of a declarator is spelled there, and is one.
use Rattle.std.proofs.Common.{◌≡◌, ℕ, zero, suc, Bool, true, false, List, [], ◌∷◌, ◌++◌, length, Option, None, Some, refl, arith}
use Rattle.std.proofs.lemmas.Option.{none-some, same_Some}
use Rattle.c_base.specs.declared.number.Span.{Span}
use Rattle.c_base.specs.declared.token.Keyword.{Keyword}
use Rattle.c_base.specs.declared.token.Punctuator.TheVariants as mark
use Rattle.c_base.specs.declared.token.Token.{Token}
use Rattle.c_base.specs.declared.token.Word.{Word}
use Rattle.c_base.specs.declared.token.Word.TheVariants as word
use Rattle.c_tree.specs.Spelling.{sign, pieces, pieces_of_all, pieces_with_commas, pieces_where}
use Rattle.c_tree.specs.Trees.{Tree, Function, Trees, Nil, Next}
use Rattle.c_tree.specs.Views.{listed}
use Rattle.c_tree.specs.WellFormed.{Names, after, after_parameter, ForParameter, ForName, AreParameters, AreSuffixes, IsSuffix, IsVariadic}
use Rattle.c_parse_rules.proofs.Laws.{ExprsSound, TypingsSound}
use Rattle.c_parse_rules.specs.Rules.{Found, Several, Inner}
use Rattle.c_parse_rules.specs.Tokens.{◌>>=◌, behind_mark}
use Rattle.c_parse_rules.specs.TypeRules.{Specifiers, Declarators, Typings, array_words, each_with, bound_of, array_of, parameters_with, parameters_behind, parameters, ellipsis_at, function_end, function_of, function_with, suffix_of, suffix_at, suffixes}
use Rattle.c_parse_rules.proofs.types.Loops.{loop, loop_with, loop_sound}
use Rattle.c_parse_rules.proofs.types.Parts.{KeywordsFound, array_words_sound}
use Rattle.c_parse_rules.proofs.types.Words.{bound, Fit, fit_none, fit_join, fit_mark, BeginsAt, begun}

-- ---- loops over trees

-- one thing behind a comma
abbrev pub behind_comma : (Names → List Token → Option Found) → Names → List Token → Option Found
behind_comma read names tokens = behind_mark mark.Comma tokens >>= (λ (rest : List Token). read names rest)

-- what is read behind commas
pub record CommasFound (Holds : Names → Trees → Type 0) (names : Names) (all : List Tree) (tokens rest : List Token) : Type 0 where
  pub each : Holds names (listed all)
  pub back : Fit (pieces_with_commas true (listed all)) tokens rest

pub comma_more : (tokens mid rest start : List Token) (t : Tree) (more : Trees) → behind_mark mark.Comma start ≡ Some tokens → Fit (pieces t) tokens mid →
    Fit (pieces_with_commas true more) mid rest → Fit (pieces_with_commas true (Next t more)) start rest
comma_more tokens mid rest start t more e f g = fit_mark mark.Comma e (fit_join f g)

-- what is read one after the other
pub record RowFound (Holds : Names → Trees → Type 0) (names : Names) (all : List Tree) (tokens rest : List Token) : Type 0 where
  pub each : Holds names (listed all)
  pub back : Fit (pieces_of_all (listed all)) tokens rest

pub record TreeFound (Holds : Names → Tree → Type 0) (names : Names) (tokens : List Token) (t : Tree) (rest : List Token) : Type 0 where
  pub holds : Holds names t
  pub back : Fit (pieces t) tokens rest

-- what is read behind a first token
pub record TreeBehind (Holds : Names → Tree → Type 0) (names : Names) (span : Span) (w : Word) (tokens : List Token) (t : Tree) (rest : List Token) : Type 0 where
  pub holds : Holds names t
  pub begins : BeginsAt span w tokens (pieces t) rest

pub found_behind : (Holds : Names → Tree → Type 0) (names : Names) (t : Token) (tokens : List Token) (tree : Tree) (rest : List Token) →
    TreeBehind Holds names t.span t.word tokens tree rest → TreeFound Holds names (t ∷ tokens) tree rest
found_behind Holds names t tokens tree rest b = record { holds = b.holds; back = begun {t = t} b.begins }

module _ (depth : ℕ) (inner : Inner) (typings : Typings) (specifiers : Specifiers) (declarators : Declarators) (inner_sound : ExprsSound depth inner)
    (typings_sound : TypingsSound depth typings) where
  -- ---- arrays

  bound_found : (span : Span) (names : Names) (words : List Keyword) (start tokens : List Token) (found : Found) (o : Option Found) → KeywordsFound start words tokens →
      inner names 1 tokens ≡ o → bound_of depth inner typings specifiers declarators span words tokens o ≡ Some found →
      TreeBehind IsSuffix names span (word.Punctuator mark.OpenBracket) start found.0 found.1
  bound_found span names words start tokens found None k e f =
      bound (behind_mark mark.CloseBracket tokens) _ found f (λ rest g f2.
      rw (← same_Some _ found f2) (record {
        holds = (k.all, tt);
        begins = record { more = _; same = refl; back = fit_join (fit_join k.back fit_none) (fit_mark mark.CloseBracket g fit_none) };
      }))
  bound_found span names words start tokens found (Some b) k e f =
      let s = inner_sound names 1 tokens b (omega arith) e in
      let words_of : Fit (pieces b.0) tokens b.1 = record { is = s.words } in
      bound (behind_mark mark.CloseBracket b.1) _ found f (λ rest g f2.
      rw (← same_Some _ found f2) (record {
        holds = (k.all, (s.within.tight, s.within.shape));
        begins = record { more = _; same = refl; back = fit_join (fit_join k.back (fit_join words_of fit_none)) (fit_mark mark.CloseBracket g fit_none) };
      }))

  array_found : (span : Span) (names : Names) (tokens : List Token) (found : Found) →
      array_of depth inner typings specifiers declarators span names (array_words (suc (length tokens)) [] tokens) ≡ Some found →
      TreeBehind IsSuffix names span (word.Punctuator mark.OpenBracket) tokens found.0 found.1
  array_found span names tokens found e =
      let k = array_words_sound (suc (length tokens)) tokens in
      bound_found span names (array_words (suc (length tokens)) [] tokens).0 tokens (array_words (suc (length tokens)) [] tokens).1 found
      (inner names 1 (array_words (suc (length tokens)) [] tokens).1) k refl e

  -- ---- functions

  not_name : ForParameter ≡ ForName → ⊥
  not_name e = cc

  parameter_found : (names : Names) (tokens : List Token) (t : Found) → typings ForParameter names tokens ≡ Some t →
      TreeFound (λ n u. AreParameters n (Next u Nil)) names tokens t.0 t.1
  parameter_found names tokens t e =
      let s = typings_sound ForParameter names tokens t not_name e in
      record { holds = (s.shape, tt); back = record { is = s.words } }

  parameters_with_loop : (n : ℕ) → ((found : List Tree) (names : Names) (tokens : List Token) →
      parameters depth inner typings specifiers declarators n found names tokens ≡ loop Names Tree (behind_comma (typings ForParameter)) after_parameter n found names tokens) →
      (found : List Tree) (names : Names) (tokens rest : List Token) (o : Option Found) →
      parameters_with depth inner typings specifiers declarators (parameters depth inner typings specifiers declarators n) found names tokens o
      ≡ loop_with Names Tree (behind_comma (typings ForParameter)) after_parameter (loop Names Tree (behind_comma (typings ForParameter)) after_parameter n) found names tokens o
  parameters_with_loop n same found names tokens rest None = refl
  parameters_with_loop n same found names tokens rest (Some t) = same (found ++ t.0 ∷ []) (after_parameter names t.0) t.1

  parameters_behind_loop : (n : ℕ) → ((found : List Tree) (names : Names) (tokens : List Token) →
      parameters depth inner typings specifiers declarators n found names tokens ≡ loop Names Tree (behind_comma (typings ForParameter)) after_parameter n found names tokens) →
      (found : List Tree) (names : Names) (tokens : List Token) (o : Option (List Token)) →
      parameters_behind depth inner typings specifiers declarators (parameters depth inner typings specifiers declarators n) found names tokens o
      ≡ loop_with Names Tree (behind_comma (typings ForParameter)) after_parameter (loop Names Tree (behind_comma (typings ForParameter)) after_parameter n) found names tokens
      (o >>= (λ (rest : List Token). typings ForParameter names rest))
  parameters_behind_loop n same found names tokens None = refl
  parameters_behind_loop n same found names tokens (Some rest) = parameters_with_loop n same found names tokens rest (typings ForParameter names rest)

  pub parameters_loop : (n : ℕ) (found : List Tree) (names : Names) (tokens : List Token) →
      parameters depth inner typings specifiers declarators n found names tokens ≡ loop Names Tree (behind_comma (typings ForParameter)) after_parameter n found names tokens
  parameters_loop zero found names tokens = refl
  parameters_loop (suc n) found names tokens = parameters_behind_loop n (λ f ns ts. parameters_loop n f ns ts) found names tokens (behind_mark mark.Comma tokens)

  parameters_cons : (names : Names) (t : Tree) (more : List Tree) (tokens mid rest : List Token) → behind_comma (typings ForParameter) names tokens ≡ Some (t, mid) →
      CommasFound AreParameters (after_parameter names t) more mid rest → CommasFound AreParameters names (t ∷ more) tokens rest
  parameters_cons names t more tokens mid rest e r =
      bound (behind_mark mark.Comma tokens) _ (t, mid) e (λ inside f g.
      let p = parameter_found names inside (t, mid) g in
      record { each = (p.holds.0, r.each); back = comma_more inside mid rest tokens t (listed more) f p.back r.back })

  record ParametersFound (names : Names) (tokens : List Token) (found : Several) : Type 0 where
    pub first : Tree
    pub more : List Tree
    pub same : found.0 ≡ first ∷ more
    pub each : AreParameters names (listed (first ∷ more))
    pub back : Fit (pieces_with_commas false (listed (first ∷ more))) tokens found.1

  parameters_found : (names : Names) (tokens : List Token) (t : Found) (n : ℕ) → typings ForParameter names tokens ≡ Some t →
      ParametersFound names tokens (parameters depth inner typings specifiers declarators n (t.0 ∷ []) (after_parameter names t.0) t.1)
  parameters_found names tokens t n e =
      let p = parameter_found names tokens t e in
      let r = loop_sound Names Tree (behind_comma (typings ForParameter)) after_parameter (CommasFound AreParameters) (λ ns start. record { each = tt; back = fit_none })
      parameters_cons n (t.0 ∷ []) (after_parameter names t.0) t.1 in
      let c = r.holds in
      rw (parameters_loop n (t.0 ∷ []) (after_parameter names t.0) t.1) (record {
        first = t.0;
        more = r.more;
        same = r.same;
        each = (p.holds.0, c.each);
        back = fit_join p.back c.back;
      })

  -- the end of a parameter list behind what was found
  end_found : (span : Span) (names : Names) (start tokens behind : List Token) (all : List Tree) (variadic : Bool) (found : Found) → IsVariadic variadic (listed all) →
      AreParameters names (listed all) → Fit (pieces_with_commas false (listed all)) start tokens →
      Fit (pieces_where variadic (sign mark.Comma ∷ sign mark.Ellipsis ∷ [])) tokens behind →
      (behind_mark mark.CloseParenthesis behind >>= (λ (rest : List Token). Some (record { 0 = Function span (listed all) variadic; 1 = rest }))) ≡ Some found →
      TreeBehind IsSuffix names span (word.Punctuator mark.OpenParenthesis) start found.0 found.1
  end_found span names start tokens behind all variadic found v ok h k e =
      bound (behind_mark mark.CloseParenthesis behind) _ found e (λ rest f e2.
      rw (← same_Some _ found e2) (record {
        holds = (v, ok);
        begins = record { more = _; same = refl; back = fit_join (fit_join h k) (fit_mark mark.CloseParenthesis f fit_none) };
      }))

  ellipsis_found : (tokens rest : List Token) → ellipsis_at depth inner typings specifiers declarators tokens ≡ Some rest →
      Fit (sign mark.Comma ∷ sign mark.Ellipsis ∷ []) tokens rest
  unfolding ellipsis_at
  ellipsis_found tokens rest e =
      bound (behind_mark mark.Comma tokens) _ rest e (λ inside f g. fit_mark mark.Comma f (fit_mark mark.Ellipsis g fit_none))

  function_some : (span : Span) (names : Names) (start tokens : List Token) (first : Tree) (more : List Tree) (found : Found) (o : Option (List Token)) →
      AreParameters names (listed (first ∷ more)) → Fit (pieces_with_commas false (listed (first ∷ more))) start tokens →
      ellipsis_at depth inner typings specifiers declarators tokens ≡ o → function_end depth inner typings specifiers declarators span (first ∷ more) tokens o ≡ Some found →
      TreeBehind IsSuffix names span (word.Punctuator mark.OpenParenthesis) start found.0 found.1
  function_some span names start tokens first more found None ok h e f = end_found span names start tokens tokens (first ∷ more) false found (tt {0}) ok h fit_none f
  function_some span names start tokens first more found (Some variadic) ok h e f =
      end_found span names start tokens variadic (first ∷ more) true found (tt {0}) ok h (ellipsis_found tokens variadic e) f

  function_list : (span : Span) (names : Names) (start : List Token) (several : Several) (found : Found) → ParametersFound names start several →
      function_of depth inner typings specifiers declarators span several ≡ Some found →
      TreeBehind IsSuffix names span (word.Punctuator mark.OpenParenthesis) start found.0 found.1
  function_list span names start several found p e =
      let same = p.same in
      let e2 : function_end depth inner typings specifiers declarators span (p.first ∷ p.more) several.1
      (ellipsis_at depth inner typings specifiers declarators several.1) ≡ Some found =
      rw same at e in
      function_some span names start several.1 p.first p.more found (ellipsis_at depth inner typings specifiers declarators several.1) p.each p.back refl e2

  function_found : (span : Span) (names : Names) (tokens : List Token) (found : Found) (o : Option Found) → typings ForParameter names tokens ≡ o →
      function_with depth inner typings specifiers declarators span names tokens o ≡ Some found →
      TreeBehind IsSuffix names span (word.Punctuator mark.OpenParenthesis) tokens found.0 found.1
  function_found span names tokens found None e f = end_found span names tokens tokens tokens [] false found (tt {0}) (tt {0}) fit_none fit_none f
  function_found span names tokens found (Some t) e f =
      function_list span names tokens (parameters depth inner typings specifiers declarators (suc (length t.1)) (t.0 ∷ []) (after_parameter names t.0) t.1) found
      (parameters_found names tokens t (suc (length t.1)) e) f

  -- ---- suffixes

  suffix_of_found : (names : Names) (span : Span) (tokens : List Token) (w : Word) (found : Found) →
      suffix_of depth inner typings specifiers declarators names span tokens w ≡ Some found →
      TreeBehind IsSuffix names span w tokens found.0 found.1
  suffix_of_found names span tokens (word.Punctuator mark.OpenBracket) found e = array_found span names tokens found e
  suffix_of_found names span tokens (word.Punctuator mark.OpenParenthesis) found e = function_found span names tokens found (typings ForParameter names tokens) refl e
  suffix_of_found names span tokens _ found e = absurd (none-some found e)

  pub suffix_found : (names : Names) (tokens : List Token) (found : Found) → suffix_at depth inner typings specifiers declarators names tokens ≡ Some found →
      TreeFound IsSuffix names tokens found.0 found.1
  suffix_found names [] found e = absurd (none-some found e)
  suffix_found names (t ∷ tokens) found e = found_behind IsSuffix names t tokens found.0 found.1 (suffix_of_found names t.span tokens t.word found e)

  suffixes_with_loop : (n : ℕ) → ((found : List Tree) (names : Names) (tokens : List Token) →
      suffixes depth inner typings specifiers declarators n found names tokens ≡ loop Names Tree (suffix_at depth inner typings specifiers declarators) after n found names tokens) →
      (found : List Tree) (names : Names) (tokens : List Token) (o : Option Found) →
      each_with depth inner typings specifiers declarators (suffixes depth inner typings specifiers declarators n) found names tokens o
      ≡ loop_with Names Tree (suffix_at depth inner typings specifiers declarators) after
      (loop Names Tree (suffix_at depth inner typings specifiers declarators) after n) found names tokens o
  suffixes_with_loop n same found names tokens None = refl
  suffixes_with_loop n same found names tokens (Some t) = same (found ++ t.0 ∷ []) (after names t.0) t.1

  pub suffixes_loop : (n : ℕ) (found : List Tree) (names : Names) (tokens : List Token) →
      suffixes depth inner typings specifiers declarators n found names tokens ≡ loop Names Tree (suffix_at depth inner typings specifiers declarators) after n found names tokens
  suffixes_loop zero found names tokens = refl
  suffixes_loop (suc n) found names tokens =
      suffixes_with_loop n (λ f ns ts. suffixes_loop n f ns ts) found names tokens (suffix_at depth inner typings specifiers declarators names tokens)

  suffixes_cons : (names : Names) (t : Tree) (more : List Tree) (tokens mid rest : List Token) → suffix_at depth inner typings specifiers declarators names tokens ≡ Some (t, mid) →
      RowFound AreSuffixes (after names t) more mid rest → RowFound AreSuffixes names (t ∷ more) tokens rest
  suffixes_cons names t more tokens mid rest e r =
      let s = suffix_found names tokens (t, mid) e in record { each = (s.holds, r.each); back = fit_join s.back r.back }

  pub suffixes_found : (n : ℕ) (names : Names) (tokens : List Token) →
      RowFound AreSuffixes names (suffixes depth inner typings specifiers declarators n [] names tokens).0 tokens
      (suffixes depth inner typings specifiers declarators n [] names tokens).1
  suffixes_found n names tokens =
      let r =
      loop_sound Names Tree (suffix_at depth inner typings specifiers declarators) after (RowFound AreSuffixes)
      (λ ns start. record { each = tt; back = fit_none }) suffixes_cons n [] names tokens in
      let found : RowFound AreSuffixes names (loop Names Tree (suffix_at depth inner typings specifiers declarators) after n [] names tokens).0 tokens
      (loop Names Tree (suffix_at depth inner typings specifiers declarators) after n [] names tokens).1 = rw r.same r.holds in
      rw (suffixes_loop n [] names tokens) found
