-- What the code reads of expressions and of type names is what is promised.
use Rattle.std.proofs.Common.{◌≡◌, ℕ, suc, ◌+◌, ◌-◌, ◌≤◌, List, [], ◌∷◌, length, drop, Result, Ok, Option, None, Some, refl, sym, ap, subst, ◌∙◌, arith}
use Rattle.std.proofs.lemmas.List.{drop-drop, length-drop}
use Rattle.c_base.specs.declared.token.Token.{Token}
use Rattle.c_tree.specs.Trees.{Tree}
use Rattle.c_tree.specs.WellFormed.{Names, Purpose, ForName, after}
use Rattle.c_tree.specs.Spelling.{Piece, pieces}
use Rattle.c_parse_expr.specs.Asking.{answer_tree, IsAsked}
use Rattle.c_parse_rules.specs.Found.{Fronts}
use Rattle.c_parse_base.specs.KnownNames.{Known}
use Rattle.c_parse_base.specs.Purposes.{purpose_of}
use Rattle.c_parse_base.specs.Reads.{AreAfter}
use Rattle.c_parse_expr.specs.declared.asking.Answer.{Answer}
use Rattle.c_parse_expr.specs.declared.asking.Ask.TheVariants as ask
use Rattle.c_parse_base.specs.declared.found.Found.{Found as CodeFound}
use Rattle.c_parse_base.specs.declared.purpose.Purpose.{Purpose as CodePurpose}
use Rattle.c_parse_base.specs.declared.purpose.Purpose.TheVariants as asked
use Rattle.c_parse_rules.proofs.Promised.{expr_read, typing_read}
use Rattle.c_parse_rules.proofs.exprs.Fronts.{fronts_left}
use Rattle.c_parse_rules.specs.Parsers.{expr_at, typing_at}
use Rattle.c_parse_rules.specs.Promises.{IsExprRead, IsParsed, IsTypingRead}
use Rattle.c_parse_rules.specs.Rules.{Found}

-- ---- what the code's reader answers

pub expr_missing : {E : Type 0} (depth least : ℕ) (old new : Known) (tokens : List Token) (result : Result (Option (CodeFound Answer)) E) →
    IsAsked depth (ask.Expr least) old new tokens result → result ≡ Ok None → least ≤ 14 → IsExprRead least depth old.names new.names tokens None
expr_missing depth least old new tokens result asked is low =
    let a = subst (λ r. IsAsked depth (ask.Expr least) old new tokens r) is asked in
    let found = a.found in
    expr_read depth least old.names new.names tokens None low (sym found.same) (λ e. a.unchanged) (λ f e. cc)

pub expr_found : {E : Type 0} (depth least : ℕ) (old new : Known) (tokens : List Token) (result : Result (Option (CodeFound Answer)) E) (f : CodeFound Answer) (tree : Tree) →
    IsAsked depth (ask.Expr least) old new tokens result → result ≡ Ok (Some f) → tree ≡ answer_tree f.tree → least ≤ 14 →
    IsExprRead least depth old.names new.names tokens (Some (tree, f.rest.now))
expr_found depth least old new tokens result f tree asked is same low =
    let a = subst (λ r. IsAsked depth (ask.Expr least) old new tokens r) is asked in
    let found = a.found in
    let plain : expr_at depth old.names least tokens ≡ Some (answer_tree f.tree, f.rest.now) = sym found.same in
    let names : new.names ≡ after old.names (answer_tree f.tree) = subst (λ p. AreAfter old.names new.names p) plain found.names in
    rw same (expr_read depth least old.names new.names tokens (Some (answer_tree f.tree, f.rest.now)) low plain (λ e. cc)
    (λ g e. let h : (answer_tree f.tree, f.rest.now) ≡ g = cc in subst (λ (x : Found). new.names ≡ after old.names x.0) h names))

pub expr_missing_plainly : {E : Type 0} (depth least : ℕ) (old new : Known) (tokens : List Token) (result : Result (Option (CodeFound Answer)) E) →
    IsAsked depth (ask.Expr least) old new tokens result → result ≡ Ok None → None ≡ expr_at depth old.names least tokens
expr_missing_plainly depth least old new tokens result asked is =
    let a = subst (λ r. IsAsked depth (ask.Expr least) old new tokens r) is asked in
    let found = a.found in
    found.same

pub expr_found_plainly : {E : Type 0} (depth least : ℕ) (old new : Known) (tokens : List Token) (result : Result (Option (CodeFound Answer)) E) (f : CodeFound Answer)
    (tree : Tree) → IsAsked depth (ask.Expr least) old new tokens result → result ≡ Ok (Some f) → tree ≡ answer_tree f.tree →
    Some (tree, f.rest.now) ≡ expr_at depth old.names least tokens
expr_found_plainly depth least old new tokens result f tree asked is same =
    let a = subst (λ r. IsAsked depth (ask.Expr least) old new tokens r) is asked in
    let found = a.found in
    rw same found.same

pub typing_missing : {E : Type 0} (purpose : CodePurpose) (depth : ℕ) (old new : Known) (tokens : List Token) (result : Result (Option (CodeFound Answer)) E) →
    IsAsked depth (ask.Typing purpose) old new tokens result → result ≡ Ok None → (purpose_of purpose ≡ ForName → ⊥) →
    IsTypingRead (purpose_of purpose) depth old.names new.names tokens None
typing_missing purpose depth old new tokens result asked is plainly =
    let a = subst (λ r. IsAsked depth (ask.Typing purpose) old new tokens r) is asked in
    let found = a.found in
    typing_read (purpose_of purpose) depth old.names new.names tokens None plainly (sym found.same) (λ e. a.unchanged) (λ f e. cc)

pub typing_found : {E : Type 0} (purpose : CodePurpose) (depth : ℕ) (old new : Known) (tokens : List Token) (result : Result (Option (CodeFound Answer)) E)
    (f : CodeFound Answer) (tree : Tree) → IsAsked depth (ask.Typing purpose) old new tokens result → result ≡ Ok (Some f) → tree ≡ answer_tree f.tree →
    (purpose_of purpose ≡ ForName → ⊥) → IsTypingRead (purpose_of purpose) depth old.names new.names tokens (Some (tree, f.rest.now))
typing_found purpose depth old new tokens result f tree asked is same plainly =
    let a = subst (λ r. IsAsked depth (ask.Typing purpose) old new tokens r) is asked in
    let found = a.found in
    let plain : typing_at depth (purpose_of purpose) old.names tokens ≡ Some (answer_tree f.tree, f.rest.now) = sym found.same in
    let names : new.names ≡ after old.names (answer_tree f.tree) = subst (λ p. AreAfter old.names new.names p) plain found.names in
    rw same (typing_read (purpose_of purpose) depth old.names new.names tokens (Some (answer_tree f.tree, f.rest.now)) plainly plain (λ e. cc)
    (λ g e. let h : (answer_tree f.tree, f.rest.now) ≡ g = cc in subst (λ (x : Found). new.names ≡ after old.names x.0) h names))

pub is_no_member : (purpose : CodePurpose) → (purpose ≡ asked.Member → ⊥) → purpose_of purpose ≡ ForName → ⊥
is_no_member asked.TypeName other = λ e. cc
is_no_member asked.Parameter other = λ e. cc
is_no_member asked.Member other = λ e. other refl

-- ---- positions

left_is_end : (p : List Piece) (tokens rest : List Token) → Fronts p tokens rest → drop (length tokens - length rest) tokens ≡ rest
left_is_end [] tokens rest f =
    let e : length tokens - length rest ≡ 0 = let l : length tokens ≡ length rest = ap length f in omega arith in rw e f
left_is_end (x ∷ p) [] rest f = absurd f
left_is_end (x ∷ p) (t ∷ tokens) rest f =
    let short : length rest ≤ length tokens = fronts_left p tokens rest f.1 in
    let e : suc (length tokens) - length rest ≡ suc (length tokens - length rest) = omega arith in
    rw e (left_is_end p tokens rest f.1)

pub position : (p : List Piece) (start : ℕ) (tokens rest : List Token) → start ≤ length tokens → Fronts p (drop start tokens) rest →
    drop (length tokens - length rest) tokens ≡ rest
position p start tokens rest h f =
    let long : length (drop start tokens) ≡ length tokens - start = length-drop start tokens in
    let short : length rest ≤ length (drop start tokens) = fronts_left p (drop start tokens) rest f in
    let e : length tokens - length rest ≡ start + (length (drop start tokens) - length rest) = omega arith in
    rw (e, ← drop-drop (length (drop start tokens) - length rest) start tokens) (left_is_end p (drop start tokens) rest f)

pub not_behind : (p : List Piece) (start : ℕ) (tokens rest : List Token) → Fronts p (drop start tokens) rest → length rest ≤ length tokens
not_behind p start tokens rest f =
    let long : length (drop start tokens) ≡ length tokens - start = length-drop start tokens in
    let short : length rest ≤ length (drop start tokens) = fronts_left p (drop start tokens) rest f in
    omega arith

pub parsed_to : (names : Names) (least depth start : ℕ) (tokens : List Token) (tree : Tree) (rest : List Token) → start ≤ length tokens →
    IsParsed names least depth (drop start tokens) tree rest → IsParsed names least depth (drop start tokens) tree (drop (length tokens - length rest) tokens)
parsed_to names least depth start tokens tree rest h parsed =
    subst (λ left. IsParsed names least depth (drop start tokens) tree left) (sym (position (pieces tree) start tokens rest h parsed.longest.front.words)) parsed
