-- What the code reads of specifiers and of declarators is what is promised.
use Rattle.std.proofs.Common.{◌≡◌, ℕ, suc, ◌<◌, ◌≤◌, Bool, true, false, cond, List, map, Result, Ok, Err, Option, None, Some, option_map, IfOk, refl, sym, ap, subst, ◌∙◌, arith}
use Rattle.std.specs.Prelude.{nat_le, IfSome}
use Rattle.std.proofs.lemmas.Bool.Decides.{nat_tests}
use Rattle.std.proofs.lemmas.Option.{none-some}
use Rattle.c_base.specs.declared.token.Token.{Token}
use Rattle.c_tree.specs.declared.tree.Specifier.{Specifier}
use Rattle.c_tree.specs.Nesting.{nest, nest_all}
use Rattle.c_tree.specs.Trees.{Tree}
use Rattle.c_tree.specs.Views.{listed, specifier_tree, specifiers_of}
use Rattle.c_tree.specs.WellFormed.{Names, Before, Purpose, after, after_all}
use Rattle.c_parse_rules.proofs.PromisedTypes.{specifiers_parsed, specifiers_none, declarator_parsed, declarator_none}
use Rattle.c_parse_expr.specs.Asking.{answer_tree, IsAsked}
use Rattle.c_parse_rules.specs.Declaring.{AreSpecifiersRead, IsDeclaratorRead}
use Rattle.c_parse_expr.specs.Depths.{no_deeper}
use Rattle.c_parse_base.specs.Heights.{capped}
use Rattle.c_parse_base.specs.KnownNames.{Known, kept}
use Rattle.c_parse_rules.specs.Measured.{declarator_within, specifiers_within}
use Rattle.c_parse_rules.specs.Parsers.{declarator_at, specifier_at, specifiers_at}
use Rattle.c_parse_base.specs.Purposes.{before_of, purpose_of}
use Rattle.c_parse_base.specs.Reads.{AreAfter, closed}
use Rattle.c_parse_rules.specs.Rules.{Found, Several}
use Rattle.c_parse_expr.specs.declared.asking.Answer.{Answer}
use Rattle.c_parse_expr.specs.declared.asking.Ask.TheVariants as ask
use Rattle.c_parse_base.specs.declared.found.Found.{Found as CodeFound}
use Rattle.c_parse_base.specs.declared.purpose.Before.{Before as CodeBefore}
use Rattle.c_parse_base.specs.declared.purpose.Purpose.{Purpose as CodePurpose}

-- ---- what is measured

-- a count that is capped above a limit passes it where what is counted does
counts_within : (n height depth : ℕ) → height ≡ capped n → depth < 1000000 → nat_le height depth ≡ true → n ≤ depth
unfolding capped
counts_within n height depth h low test = let small : height ≤ depth = grind (arith, nat_tests) in omega arith

counts_past : (n height depth : ℕ) → height ≡ capped n → depth < 1000000 → nat_le height depth ≡ false → depth < n
unfolding capped
counts_past n height depth h low test = let large : depth < height = grind (arith, nat_tests) in omega arith

shallow_some : {T : Type 0} (depth : ℕ) (f g : CodeFound T) (b : Bool) → nat_le g.height depth ≡ b → cond b (Some g) None ≡ Some f → (g ≡ f) × (nat_le f.height depth ≡ true)
shallow_some {T} depth f g true e h = let same : g ≡ f = cc in (same, subst (λ (x : CodeFound T). nat_le x.height depth ≡ true) same e)
shallow_some depth f g false e h = absurd (none-some f h)

shallow_none : {T : Type 0} (depth : ℕ) (g : CodeFound T) (b : Bool) → nat_le g.height depth ≡ b → cond b (Some g) None ≡ None → nat_le g.height depth ≡ false
shallow_none depth g true e h = absurd (none-some g (sym h))
shallow_none depth g false e h = e

-- ---- what the code reads

-- specifiers, and what stands before what follows them
abbrev Specified : Type 0
Specified = CodeFound (List Specifier × CodeBefore)

specifiers_missing_at : {E : Type 0} (purpose : CodePurpose) (depth : ℕ) (old new : Names) (tokens : List Token) (read : Result (Option Specified) E) →
    IfOk read (λ r. option_map (λ (f : Specified). (map specifier_tree f.tree.0, f.rest.now)) r ≡ specifiers_at (suc depth) (specifier_at (suc depth)) (purpose_of purpose) old tokens) →
    IfOk read (λ r. IfSome r (λ (f : Specified). f.height ≡ capped (nest_all (specifiers_of f.tree.0)))) →
    depth < 1000000 → no_deeper depth read ≡ Ok None → new ≡ old → AreSpecifiersRead (purpose_of purpose) depth old new tokens None
specifiers_missing_at purpose depth old new tokens (Err e) found height low none same = absurd (cc)
specifiers_missing_at purpose depth old new tokens (Ok None) found height low none same =
    (specifiers_none (purpose_of purpose) depth old tokens None (sym found) (λ f e. absurd (none-some f e)), same)
specifiers_missing_at purpose depth old new tokens (Ok (Some g)) found height low none same =
    let left : cond (nat_le g.height depth) (Some g) None ≡ None = cc in
    let past : depth < nest_all (specifiers_of g.tree.0) =
    counts_past (nest_all (specifiers_of g.tree.0)) g.height depth height low (shallow_none depth g (nat_le g.height depth) refl left) in (
      specifiers_none (purpose_of purpose) depth old tokens (Some (map specifier_tree g.tree.0, g.rest.now)) (sym found)
          (λ f e. let h : (map specifier_tree g.tree.0, g.rest.now) ≡ f = cc in subst (λ (x : Several). depth < nest_all (listed x.0)) h past),
      same,
    )

specifiers_there_at : {E : Type 0} (purpose : CodePurpose) (depth : ℕ) (old new mid : Names) (tokens : List Token) (read : Result (Option Specified) E) (f : Specified) →
    IfOk read (λ r. option_map (λ (f : Specified). (map specifier_tree f.tree.0, f.rest.now)) r ≡ specifiers_at (suc depth) (specifier_at (suc depth)) (purpose_of purpose) old tokens) →
    IfOk read (λ r. IfSome r (λ (f : Specified). f.height ≡ capped (nest_all (specifiers_of f.tree.0)))) →
    IfOk read (λ r. IfSome r (λ (f : Specified). mid ≡ after_all old (specifiers_of f.tree.0))) →
    depth < 1000000 → no_deeper depth read ≡ Ok (Some f) → new ≡ mid → AreSpecifiersRead (purpose_of purpose) depth old new tokens (Some (specifiers_of f.tree.0, f.rest.now))
specifiers_there_at purpose depth old new mid tokens (Err e) f found height names low some same = absurd (cc)
specifiers_there_at purpose depth old new mid tokens (Ok None) f found height names low some same = absurd (cc)
specifiers_there_at purpose depth old new mid tokens (Ok (Some g)) f found height names low some same =
    let left : cond (nat_le g.height depth) (Some g) None ≡ Some f = cc in
    let s = shallow_some depth f g (nat_le g.height depth) refl left in
    let plain : specifiers_at (suc depth) (specifier_at (suc depth)) (purpose_of purpose) old tokens ≡ Some (map specifier_tree f.tree.0, f.rest.now) =
    subst (λ (x : Specified). specifiers_at (suc depth) (specifier_at (suc depth)) (purpose_of purpose) old tokens ≡ Some (map specifier_tree x.tree.0, x.rest.now)) s.0 (sym found) in
    let high : f.height ≡ capped (nest_all (specifiers_of f.tree.0)) = subst (λ (x : Specified). x.height ≡ capped (nest_all (specifiers_of x.tree.0))) s.0 height in
    let behind : mid ≡ after_all old (specifiers_of f.tree.0) = subst (λ (x : Specified). mid ≡ after_all old (specifiers_of x.tree.0)) s.0 names in
    let small : nest_all (specifiers_of f.tree.0) ≤ depth = counts_within (nest_all (specifiers_of f.tree.0)) f.height depth high low s.1 in
    (specifiers_parsed (purpose_of purpose) depth old tokens (map specifier_tree f.tree.0, f.rest.now) plain small, same ∙ behind)

declarator_missing_at : {E : Type 0} (purpose : CodePurpose) (depth : ℕ) (before : CodeBefore) (old mid : Known) (new : Names) (tokens : List Token)
    (read : Result (Option (CodeFound Answer)) E) →
    IsAsked depth (ask.Declarator purpose before) old mid tokens read → depth < 1000000 → no_deeper depth read ≡ Ok None → new ≡ old.names →
    IsDeclaratorRead (purpose_of purpose) depth (before_of before) old.names new tokens None
declarator_missing_at purpose depth before old mid new tokens (Err e) asked low none same = absurd (cc)
declarator_missing_at purpose depth before old mid new tokens (Ok None) asked low none same =
    let found = asked.found in
    (declarator_none (purpose_of purpose) depth (before_of before) old.names tokens None (sym found.same) (λ f e. absurd (none-some f e)), same)
declarator_missing_at purpose depth before old mid new tokens (Ok (Some g)) asked low none same =
    let found = asked.found in
    let left : cond (nat_le g.height depth) (Some g) None ≡ None = cc in
    let past : depth < nest (answer_tree g.tree) =
    counts_past (nest (answer_tree g.tree)) g.height depth found.height low (shallow_none depth g (nat_le g.height depth) refl left) in (
      declarator_none (purpose_of purpose) depth (before_of before) old.names tokens (Some (answer_tree g.tree, g.rest.now)) (sym found.same)
          (λ f e. let h : (answer_tree g.tree, g.rest.now) ≡ f = cc in subst (λ (x : Found). depth < nest x.0) h past),
      same,
    )

declarator_there_at : {E : Type 0} (purpose : CodePurpose) (depth : ℕ) (before : CodeBefore) (old mid : Known) (new : Names) (tokens : List Token)
    (read : Result (Option (CodeFound Answer)) E) (f : CodeFound Answer) (tree : Tree) →
    IsAsked depth (ask.Declarator purpose before) old mid tokens read → depth < 1000000 → no_deeper depth read ≡ Ok (Some f) → new ≡ mid.names → tree ≡ answer_tree f.tree →
    IsDeclaratorRead (purpose_of purpose) depth (before_of before) old.names new tokens (Some (tree, f.rest.now))
declarator_there_at purpose depth before old mid new tokens (Err e) f tree asked low some same is = absurd (cc)
declarator_there_at purpose depth before old mid new tokens (Ok None) f tree asked low some same is = absurd (cc)
declarator_there_at {E} purpose depth before old mid new tokens (Ok (Some g)) f tree asked low some same is =
    let left : cond (nat_le g.height depth) (Some g) None ≡ Some f = cc in
    let s = shallow_some depth f g (nat_le g.height depth) refl left in
    let it : g ≡ f = s.0 in
    let a = subst (λ (x : CodeFound Answer). IsAsked {E = E} depth (ask.Declarator purpose before) old mid tokens (Ok (Some x))) it asked in
    let found = a.found in
    let plain : declarator_at depth (purpose_of purpose) old.names (before_of before) tokens ≡ Some (answer_tree f.tree, f.rest.now) = sym found.same in
    let names : mid.names ≡ after old.names (answer_tree f.tree) = subst (λ p. AreAfter old.names mid.names p) plain found.names in
    let small : nest (answer_tree f.tree) ≤ depth = counts_within (nest (answer_tree f.tree)) f.height depth found.height low s.1 in
    rw is (declarator_parsed (purpose_of purpose) depth (before_of before) old.names tokens (answer_tree f.tree, f.rest.now) plain small, same ∙ names)

-- ---- what the code reads between opening a scope and closing it

closed_none : {T E : Type 0} (entered mid : Known) (old new : Names) (r : Result (Option T) E) → kept mid ≡ kept entered → (kept entered).names ≡ old → r ≡ Ok None →
    new ≡ closed mid r → new ≡ old
closed_none {T} {E} entered mid old new r same back none left =
    left ∙ subst (λ (x : Result (Option T) E). closed mid x ≡ (kept mid).names) (sym none) refl ∙ ap (λ (k : Known). k.names) same ∙ back

closed_some : {T E : Type 0} (mid : Known) (new : Names) (r : Result (Option T) E) (x : T) → r ≡ Ok (Some x) → new ≡ closed mid r → new ≡ mid.names
closed_some {T} {E} mid new r x some left = left ∙ subst (λ (y : Result (Option T) E). closed mid y ≡ mid.names) (sym some) refl

-- the plain parser's answer, of a reader of specifiers at this depth
abbrev AreSpecified : {E : Type 0} → ℕ → CodePurpose → Names → List Token → Result (Option Specified) E → Type 0
AreSpecified d purpose names tokens read =
    IfOk read (λ r. option_map (λ (f : Specified). (map specifier_tree f.tree.0, f.rest.now)) r ≡ specifiers_at d (specifier_at d) (purpose_of purpose) names tokens)

pub specifiers_missing : {E : Type 0} (purpose : CodePurpose) (depth d : ℕ) (entered mid : Known) (old new : Names) (tokens : List Token) (read entry : Result (Option Specified) E) →
    IfOk read (λ r. option_map (λ (f : Specified). (map specifier_tree f.tree.0, f.rest.now)) r ≡ specifiers_at d (specifier_at d) (purpose_of purpose) entered.names tokens) →
    IfOk read (λ r. IfSome r (λ (f : Specified). f.height ≡ capped (nest_all (specifiers_of f.tree.0)))) →
    kept mid ≡ kept entered → entered.names ≡ old → (kept entered).names ≡ old → depth < 999999 → entry ≡ no_deeper depth read → entry ≡ Ok None → new ≡ closed mid entry → d ≡ suc depth →
    AreSpecifiersRead (purpose_of purpose) depth old new tokens None
specifiers_missing purpose depth d entered mid old new tokens read entry found height same begun back low narrow none left next =
    subst (λ (n : Names). AreSpecifiersRead (purpose_of purpose) depth n new tokens None) begun
    (specifiers_missing_at purpose depth entered.names new tokens read
    (subst (λ (n : ℕ). AreSpecified n purpose entered.names tokens read) next found) height (omega arith) (sym narrow ∙ none)
    (closed_none entered mid old new entry same back none left ∙ sym begun))

pub specifiers_there : {E : Type 0} (purpose : CodePurpose) (depth d : ℕ) (mid : Known) (first old new : Names) (tokens : List Token) (read entry : Result (Option Specified) E)
    (f : Specified) →
    IfOk read (λ r. option_map (λ (f : Specified). (map specifier_tree f.tree.0, f.rest.now)) r ≡ specifiers_at d (specifier_at d) (purpose_of purpose) first tokens) →
    IfOk read (λ r. IfSome r (λ (f : Specified). f.height ≡ capped (nest_all (specifiers_of f.tree.0)))) →
    IfOk read (λ r. IfSome r (λ (f : Specified). mid.names ≡ after_all first (specifiers_of f.tree.0))) →
    first ≡ old → depth < 999999 → entry ≡ no_deeper depth read → entry ≡ Ok (Some f) → new ≡ closed mid entry → d ≡ suc depth →
    AreSpecifiersRead (purpose_of purpose) depth old new tokens (Some (specifiers_of f.tree.0, f.rest.now))
specifiers_there purpose depth d mid first old new tokens read entry f found height names begun low narrow some left next =
    subst (λ (n : Names). AreSpecifiersRead (purpose_of purpose) depth n new tokens (Some (specifiers_of f.tree.0, f.rest.now))) begun
    (specifiers_there_at purpose depth first new mid.names tokens read f
    (subst (λ (n : ℕ). AreSpecified n purpose first tokens read) next found) height names (omega arith) (sym narrow ∙ some)
    (closed_some mid new entry f some left))

pub declarator_missing : {E : Type 0} (purpose : CodePurpose) (depth : ℕ) (before : CodeBefore) (entered mid : Known) (old new : Names) (tokens : List Token)
    (read entry : Result (Option (CodeFound Answer)) E) →
    IsAsked depth (ask.Declarator purpose before) entered mid tokens read → entered.names ≡ old → (kept entered).names ≡ old → depth < 1000000 →
    entry ≡ no_deeper depth read → entry ≡ Ok None → new ≡ closed mid entry →
    IsDeclaratorRead (purpose_of purpose) depth (before_of before) old new tokens None
declarator_missing purpose depth before entered mid old new tokens read entry asked begun back low narrow none left =
    subst (λ (n : Names). IsDeclaratorRead (purpose_of purpose) depth (before_of before) n new tokens None) begun
    (declarator_missing_at purpose depth before entered mid new tokens read asked low (sym narrow ∙ none)
    (closed_none entered mid old new entry asked.same back none left ∙ sym begun))

pub declarator_there : {E : Type 0} (purpose : CodePurpose) (depth : ℕ) (before : CodeBefore) (entered mid : Known) (old new : Names) (tokens : List Token)
    (read entry : Result (Option (CodeFound Answer)) E) (f : CodeFound Answer) (tree : Tree) →
    IsAsked depth (ask.Declarator purpose before) entered mid tokens read → entered.names ≡ old → depth < 1000000 → entry ≡ no_deeper depth read → entry ≡ Ok (Some f) →
    new ≡ closed mid entry → tree ≡ answer_tree f.tree → IsDeclaratorRead (purpose_of purpose) depth (before_of before) old new tokens (Some (tree, f.rest.now))
declarator_there purpose depth before entered mid old new tokens read entry f tree asked begun low narrow some left is =
    subst (λ (n : Names). IsDeclaratorRead (purpose_of purpose) depth (before_of before) n new tokens (Some (tree, f.rest.now))) begun
    (declarator_there_at purpose depth before entered mid new tokens read f tree asked low (sym narrow ∙ some) (closed_some mid new entry f some left) is)

-- ---- the plain parsers' answers

counts_same : (n height depth : ℕ) → height ≡ capped n → depth < 1000000 → nat_le n depth ≡ nat_le height depth
unfolding capped
counts_same n height depth h low = grind (arith, nat_tests)

specifiers_missing_same : {E : Type 0} (purpose : CodePurpose) (depth : ℕ) (old : Names) (tokens : List Token) (read : Result (Option Specified) E) →
    AreSpecified (suc depth) purpose old tokens read → IfOk read (λ r. IfSome r (λ (f : Specified). f.height ≡ capped (nest_all (specifiers_of f.tree.0)))) →
    depth < 1000000 → no_deeper depth read ≡ Ok None → None ≡ specifiers_within depth (purpose_of purpose) old tokens
unfolding specifiers_within
specifiers_missing_same purpose depth old tokens (Err e) found height low none = absurd (cc)
specifiers_missing_same purpose depth old tokens (Ok None) found height low none = rw (← found) refl
specifiers_missing_same purpose depth old tokens (Ok (Some g)) found height low none =
    let left : cond (nat_le g.height depth) (Some g) None ≡ None = cc in
    let deep : nat_le (nest_all (specifiers_of g.tree.0)) depth ≡ false =
    counts_same (nest_all (specifiers_of g.tree.0)) g.height depth height low ∙ shallow_none depth g (nat_le g.height depth) refl left in
    rw (← found, deep) refl

specifiers_there_same : {E : Type 0} (purpose : CodePurpose) (depth : ℕ) (old : Names) (tokens : List Token) (read : Result (Option Specified) E) (f : Specified) →
    AreSpecified (suc depth) purpose old tokens read → IfOk read (λ r. IfSome r (λ (f : Specified). f.height ≡ capped (nest_all (specifiers_of f.tree.0)))) →
    depth < 1000000 → no_deeper depth read ≡ Ok (Some f) → Some (map specifier_tree f.tree.0, f.rest.now) ≡ specifiers_within depth (purpose_of purpose) old tokens
unfolding specifiers_within
specifiers_there_same purpose depth old tokens (Err e) f found height low some = absurd (cc)
specifiers_there_same purpose depth old tokens (Ok None) f found height low some = absurd (cc)
specifiers_there_same purpose depth old tokens (Ok (Some g)) f found height low some =
    let left : cond (nat_le g.height depth) (Some g) None ≡ Some f = cc in
    let s = shallow_some depth f g (nat_le g.height depth) refl left in
    let it : g ≡ f = s.0 in
    let small : nat_le (nest_all (specifiers_of g.tree.0)) depth ≡ true =
    counts_same (nest_all (specifiers_of g.tree.0)) g.height depth height low ∙ ap (λ (x : Specified). nat_le x.height depth) it ∙ s.1 in
    rw (← found, small) (ap (λ (x : Specified). Some (map specifier_tree x.tree.0, x.rest.now)) (sym it))

pub specifiers_missing_plainly : {E : Type 0} (purpose : CodePurpose) (depth d : ℕ) (first old : Names) (tokens : List Token) (read entry : Result (Option Specified) E) →
    IfOk read (λ r. option_map (λ (f : Specified). (map specifier_tree f.tree.0, f.rest.now)) r ≡ specifiers_at d (specifier_at d) (purpose_of purpose) first tokens) →
    IfOk read (λ r. IfSome r (λ (f : Specified). f.height ≡ capped (nest_all (specifiers_of f.tree.0)))) →
    first ≡ old → depth < 999999 → entry ≡ no_deeper depth read → entry ≡ Ok None → d ≡ suc depth → None ≡ specifiers_within depth (purpose_of purpose) old tokens
specifiers_missing_plainly purpose depth d first old tokens read entry found height begun low narrow none next =
    subst (λ (n : Names). None ≡ specifiers_within depth (purpose_of purpose) n tokens) begun
    (specifiers_missing_same purpose depth first tokens read (subst (λ (n : ℕ). AreSpecified n purpose first tokens read) next found) height (omega arith) (sym narrow ∙ none))

pub specifiers_there_plainly : {E : Type 0} (purpose : CodePurpose) (depth d : ℕ) (first old : Names) (tokens : List Token) (read entry : Result (Option Specified) E)
    (f : Specified) →
    IfOk read (λ r. option_map (λ (f : Specified). (map specifier_tree f.tree.0, f.rest.now)) r ≡ specifiers_at d (specifier_at d) (purpose_of purpose) first tokens) →
    IfOk read (λ r. IfSome r (λ (f : Specified). f.height ≡ capped (nest_all (specifiers_of f.tree.0)))) →
    first ≡ old → depth < 999999 → entry ≡ no_deeper depth read → entry ≡ Ok (Some f) → d ≡ suc depth →
    Some (map specifier_tree f.tree.0, f.rest.now) ≡ specifiers_within depth (purpose_of purpose) old tokens
specifiers_there_plainly purpose depth d first old tokens read entry f found height begun low narrow some next =
    subst (λ (n : Names). Some (map specifier_tree f.tree.0, f.rest.now) ≡ specifiers_within depth (purpose_of purpose) n tokens) begun
    (specifiers_there_same purpose depth first tokens read f (subst (λ (n : ℕ). AreSpecified n purpose first tokens read) next found) height (omega arith) (sym narrow ∙ some))

declarator_missing_same : {E : Type 0} (purpose : CodePurpose) (depth : ℕ) (before : CodeBefore) (old mid : Known) (tokens : List Token) (read : Result (Option (CodeFound Answer)) E) →
    IsAsked depth (ask.Declarator purpose before) old mid tokens read → depth < 1000000 → no_deeper depth read ≡ Ok None →
    None ≡ declarator_within depth (purpose_of purpose) old.names (before_of before) tokens
unfolding declarator_within
declarator_missing_same purpose depth before old mid tokens (Err e) asked low none = absurd (cc)
declarator_missing_same purpose depth before old mid tokens (Ok None) asked low none =
    let found = asked.found in
    rw (← found.same) refl
declarator_missing_same purpose depth before old mid tokens (Ok (Some g)) asked low none =
    let found = asked.found in
    let left : cond (nat_le g.height depth) (Some g) None ≡ None = cc in
    let deep : nat_le (nest (answer_tree g.tree)) depth ≡ false =
    counts_same (nest (answer_tree g.tree)) g.height depth found.height low ∙ shallow_none depth g (nat_le g.height depth) refl left in
    rw (← found.same, deep) refl

declarator_there_same : {E : Type 0} (purpose : CodePurpose) (depth : ℕ) (before : CodeBefore) (old mid : Known) (tokens : List Token) (read : Result (Option (CodeFound Answer)) E)
    (f : CodeFound Answer) → IsAsked depth (ask.Declarator purpose before) old mid tokens read → depth < 1000000 → no_deeper depth read ≡ Ok (Some f) →
    Some (answer_tree f.tree, f.rest.now) ≡ declarator_within depth (purpose_of purpose) old.names (before_of before) tokens
unfolding declarator_within
declarator_there_same purpose depth before old mid tokens (Err e) f asked low some = absurd (cc)
declarator_there_same purpose depth before old mid tokens (Ok None) f asked low some = absurd (cc)
declarator_there_same purpose depth before old mid tokens (Ok (Some g)) f asked low some =
    let found = asked.found in
    let left : cond (nat_le g.height depth) (Some g) None ≡ Some f = cc in
    let s = shallow_some depth f g (nat_le g.height depth) refl left in
    let it : g ≡ f = s.0 in
    let small : nat_le (nest (answer_tree g.tree)) depth ≡ true =
    counts_same (nest (answer_tree g.tree)) g.height depth found.height low ∙ ap (λ (x : CodeFound Answer). nat_le x.height depth) it ∙ s.1 in
    rw (← found.same, small) (ap (λ (x : CodeFound Answer). Some (answer_tree x.tree, x.rest.now)) (sym it))

pub declarator_missing_plainly : {E : Type 0} (purpose : CodePurpose) (depth : ℕ) (before : CodeBefore) (entered mid : Known) (old : Names) (tokens : List Token)
    (read entry : Result (Option (CodeFound Answer)) E) →
    IsAsked depth (ask.Declarator purpose before) entered mid tokens read → entered.names ≡ old → depth < 1000000 → entry ≡ no_deeper depth read → entry ≡ Ok None →
    None ≡ declarator_within depth (purpose_of purpose) old (before_of before) tokens
declarator_missing_plainly purpose depth before entered mid old tokens read entry asked begun low narrow none =
    subst (λ (n : Names). None ≡ declarator_within depth (purpose_of purpose) n (before_of before) tokens) begun
    (declarator_missing_same purpose depth before entered mid tokens read asked low (sym narrow ∙ none))

pub declarator_there_plainly : {E : Type 0} (purpose : CodePurpose) (depth : ℕ) (before : CodeBefore) (entered mid : Known) (old : Names) (tokens : List Token)
    (read entry : Result (Option (CodeFound Answer)) E) (f : CodeFound Answer) (tree : Tree) →
    IsAsked depth (ask.Declarator purpose before) entered mid tokens read → entered.names ≡ old → depth < 1000000 → entry ≡ no_deeper depth read → entry ≡ Ok (Some f) →
    tree ≡ answer_tree f.tree → Some (tree, f.rest.now) ≡ declarator_within depth (purpose_of purpose) old (before_of before) tokens
declarator_there_plainly purpose depth before entered mid old tokens read entry f tree asked begun low narrow some is =
    subst (λ (n : Names). Some (tree, f.rest.now) ≡ declarator_within depth (purpose_of purpose) n (before_of before) tokens) begun
    (rw is (declarator_there_same purpose depth before entered mid tokens read f asked low (sym narrow ∙ some)))
