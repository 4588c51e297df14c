-- Texts of lists, element by element.
use Rattle.std.proofs.Common.{◌≡◌, ℕ, zero, suc, ◌+◌, ◌<◌, ◌≤◌, List, [], ◌∷◌, ◌++◌, length, get_or, map, drop, refl, sym, ap, ◌∙◌, arith, append_assoc, append-nil, drop-cons, drop_of_length-le}
use Rattle.std.specs.Prelude.{Bool, true, false, ◌==◌}
use Rattle.std.proofs.lemmas.Bool.Decides.{nat_tests}
use lib.Chars.{codes}
use Rattle.c_base.specs.declared.number.SiteId.{SiteId}
use Rattle.eva_report.specs.declared.report.ReportAlarm.{ReportAlarm as CodeAlarm}
use Rattle.eva_report.specs.Report.{joined, all_texts, site_text, sites_text, is_clean}
use Rattle.eva_report.specs.Views.{sites_of, alarm_of}

-- the texts of images are those of the elements
pub all_texts_map : {X Y : Type 0} (text : Y → List ℕ) (f : X → Y) (xs : List X) → all_texts text (map f xs) ≡ all_texts (λ x. text (f x)) xs
all_texts_map text f [] = refl
all_texts_map text f (x ∷ xs) = ap (λ more. text (f x) ++ more) (all_texts_map text f xs)

-- what is made of images is made of the elements
pub map_twice : {X Y Z : Type 0} (g : Y → Z) (f : X → Y) (xs : List X) → map g (map f xs) ≡ map (λ x. g (f x)) xs
map_twice g f [] = refl
map_twice g f (x ∷ xs) = ap (λ more. g (f x) ∷ more) (map_twice g f xs)

-- the first text, and each other one behind a separator
pub joined-texts : {X : Type 0} (separator : List ℕ) (text : X → List ℕ) (x : X) (xs : List X) →
    joined separator (map text (x ∷ xs)) ≡ text x ++ all_texts (λ y. separator ++ text y) xs
joined-texts separator text x [] = sym (append-nil (text x))
joined-texts separator text x (y ∷ xs) =
    ap (λ more. text x ++ separator ++ more) (joined-texts separator text y xs)
    ∙ append_assoc (text x) separator (text y ++ all_texts (λ z. separator ++ text z) xs)
    ∙ ap (λ more. text x ++ more) (sym (append_assoc separator (text y) (all_texts (λ z. separator ++ text z) xs)))

-- one element more of those whose texts are still to come
pub all_step : {X : Type 0} (text : X → List ℕ) (xs : List X) (i : ℕ) (x : X) (out next total : List ℕ) → i < length xs → x ≡ get_or xs i x →
    next ≡ out ++ text x → out ++ all_texts text (drop i xs) ≡ total → next ++ all_texts text (drop (i + 1) xs) ≡ total
all_step text xs i x out next total within item e h =
    let one : i + 1 ≡ suc i = omega arith in
    let front : drop i xs ≡ x ∷ drop (i + 1) xs = drop-cons xs i x within ∙ ap (λ y. y ∷ drop (suc i) xs) (sym item) ∙ ap (λ k. x ∷ drop k xs) (sym one) in
    let rest = all_texts text (drop (i + 1) xs) in
    ap (λ now. now ++ rest) e ∙ append_assoc out (text x) rest ∙ (rw front at h)

pub all_end : {X : Type 0} (text : X → List ℕ) (xs : List X) (i : ℕ) (out total : List ℕ) → length xs ≤ i →
    out ++ all_texts text (drop i xs) ≡ total → out ≡ total
all_end text xs i out total beyond h = sym (append-nil out) ∙ (rw (drop_of_length-le xs {i = i} beyond) at h)

-- behind the first text stand the others
pub joined_start : {X : Type 0} (separator : List ℕ) (text : X → List ℕ) (xs : List X) (x : X) (out next : List ℕ) → 0 < length xs → x ≡ get_or xs 0 x →
    next ≡ out ++ text x → next ++ all_texts (λ y. separator ++ text y) (drop 1 xs) ≡ out ++ joined separator (map text xs)
joined_start separator text [] x out next h item e = absurd (omega arith)
joined_start separator text (y ∷ ys) x out next h item e =
    let rest = all_texts (λ z. separator ++ text z) ys in
    ap (λ now. now ++ rest) e ∙ append_assoc out (text x) rest
    ∙ ap (λ z. out ++ (text z ++ rest)) item ∙ ap (λ more. out ++ more) (sym (joined-texts separator text y ys))

-- a call string with sites has their texts
pub some_sites : (sites : List SiteId) → (length sites == 0) ≡ false → sites_text (sites_of sites) ≡ joined (codes ".") (map site_text (sites_of sites))
some_sites [] e = cc
some_sites (site ∷ sites) e = refl

pub clean_without : (alarms : List CodeAlarm) → is_clean (map alarm_of alarms) ≡ (length alarms == 0)
clean_without [] = refl
clean_without (a ∷ alarms) = grind (arith, nat_tests)
