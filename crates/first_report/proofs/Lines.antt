-- The lines of statements and alarms, one after the other.
use Rattle.std.proofs.Common.{◌≡◌, ◌≢◌, ◌↔◌, Bool, true, false, IsTrue, ℕ, suc, ◌+◌, ◌<◌, ◌≤◌, List, [], ◌∷◌, ◌++◌, length, get_or, drop, refl, sym, ◌∙◌, ap, arith, append_assoc, append-nil, drop-cons, drop_of_length-le}
use Rattle.std.specs.Prelude.{not}
use Rattle.c_base.specs.declared.number.Span.{Span}
use Rattle.first_analysis.specs.declared.place.Place.{Place}
use Rattle.eva_report.specs.Report.{ReportAlarm, all_texts, stmt_text, alarm_text, is_clean}
use Rattle.first_report.specs.Rows.{line_of, lines_from, alarms_from, place_alarms}

pub all_texts_append : {X : Type 0} (text : X → List ℕ) (xs ys : List X) → all_texts text (xs ++ ys) ≡ all_texts text xs ++ all_texts text ys
all_texts_append text [] ys = refl
all_texts_append text (x ∷ xs) ys = ap (λ t. text x ++ t) (all_texts_append text xs ys) ∙ sym (append_assoc (text x) (all_texts text xs) (all_texts text ys))

module _ (names : ℕ → List ℕ) (count : ℕ) (places : List Place) (spans : List Span) where
  pub line_step : (i : ℕ) (p : Place) (span : Span) (text next total : List ℕ) → i < length places → i < length spans → p ≡ get_or places i p → span ≡ get_or spans i span →
      next ≡ text ++ stmt_text (line_of names count (i + 1) p span) →
      text ++ all_texts stmt_text (lines_from names count (i + 1) (drop i places) (drop i spans)) ≡ total →
      next ++ all_texts stmt_text (lines_from names count (i + 1 + 1) (drop (i + 1) places) (drop (i + 1) spans)) ≡ total
  line_step i p span text next total in_places in_spans place_at span_at e h =
      let places_front : drop i places ≡ p ∷ drop (suc i) places = drop-cons places i p in_places ∙ ap (λ x. x ∷ drop (suc i) places) (sym place_at) in
      let spans_front : drop i spans ≡ span ∷ drop (suc i) spans = drop-cons spans i span in_spans ∙ ap (λ x. x ∷ drop (suc i) spans) (sym span_at) in
      let rest = all_texts stmt_text (lines_from names count (suc (i + 1)) (drop (suc i) places) (drop (suc i) spans)) in
      let line = stmt_text (line_of names count (i + 1) p span) in
      let split : text ++ (line ++ rest) ≡ total = rw (places_front, spans_front) at h in
      let one : i + 1 ≡ suc i = omega arith in
      let two : i + 1 + 1 ≡ suc (i + 1) = omega arith in
      (λ j. e j ++ all_texts stmt_text (lines_from names count (two j) (drop (one j) places) (drop (one j) spans))) ∙ append_assoc text line rest ∙ split

  pub lines_end : (i : ℕ) (text total : List ℕ) → length places ≤ i → text ++ all_texts stmt_text (lines_from names count (i + 1) (drop i places) (drop i spans)) ≡ total → text ≡ total
  lines_end i text total beyond h = sym (append-nil text) ∙ (rw (drop_of_length-le places {i = i} beyond) at h)

pub alarms_step : (places : List Place) (i : ℕ) (p : Place) (text next total : List ℕ) → i < length places → p ≡ get_or places i p →
    next ≡ text ++ all_texts alarm_text (place_alarms (i + 1) p.kinds) → text ++ all_texts alarm_text (alarms_from (i + 1) (drop i places)) ≡ total →
    next ++ all_texts alarm_text (alarms_from (i + 1 + 1) (drop (i + 1) places)) ≡ total
alarms_step places i p text next total within item e h =
    let front : drop i places ≡ p ∷ drop (suc i) places = drop-cons places i p within ∙ ap (λ x. x ∷ drop (suc i) places) (sym item) in
    let rest = alarms_from (suc (i + 1)) (drop (suc i) places) in
    let split : text ++ (all_texts alarm_text (place_alarms (i + 1) p.kinds) ++ all_texts alarm_text rest) ≡ total = rw (front, all_texts_append) at h in
    let one : i + 1 ≡ suc i = omega arith in
    let two : i + 1 + 1 ≡ suc (i + 1) = omega arith in
    (λ j. e j ++ all_texts alarm_text (alarms_from (two j) (drop (one j) places)))
    ∙ append_assoc text (all_texts alarm_text (place_alarms (i + 1) p.kinds)) (all_texts alarm_text rest) ∙ split

pub alarms_end : (places : List Place) (i : ℕ) (text total : List ℕ) → length places ≤ i → text ++ all_texts alarm_text (alarms_from (i + 1) (drop i places)) ≡ total → text ≡ total
alarms_end places i text total beyond h = sym (append-nil text) ∙ (rw (drop_of_length-le places {i = i} beyond) at h)

pub clean_none : (xs : List ReportAlarm) (alarmed : Bool) → is_clean xs ≡ not alarmed → IsTrue alarmed ↔ (xs ≢ [])
clean_none [] true e = absurd (cc)
clean_none [] false e = ((λ h. absurd (cc)), (λ none. absurd (none refl)))
clean_none (x ∷ xs) true e = ((λ h is. absurd (cc)), (λ some. refl))
clean_none (x ∷ xs) false e = absurd (cc)
