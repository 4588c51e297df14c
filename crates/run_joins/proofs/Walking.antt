-- Steps of the join over runs.
use Rattle.std.proofs.Common.{◌≡◌, ℕ, ◌+◌, ◌-◌, ◌*◌, ◌<◌, List, [], ◌∷◌, ◌++◌, length, drop, refl, sym, ap, ◌∙◌, arith, get_or}
use Rattle.std.specs.Prelude.{replicate, min}
use Rattle.std.proofs.lemmas.List.{length-append, length-replicate}
use Rattle.cell_runs.specs.declared.runs.Run.{Run}
use Rattle.run_joins.specs.declared.cursor.Cursor.{Cursor}
use Rattle.cell_laws.specs.Elements.{Element, width}
use Rattle.cell_laws.specs.Cells.{Ops}
use Rattle.cell_laws.specs.Join.{join_stretch, joined_from}
use Rattle.cell_runs.specs.Runs.{element_of, AllSome, Extends}
use Rattle.run_joins.specs.Joining.{rest, IsCursor, SameBits, AreEven, Steps, Moves}
use Rattle.cell_laws.proofs.Cuts.{width-append}
use Rattle.cell_laws.proofs.Steps.{join_run}
use Rattle.cell_laws.proofs.Stretches.{width-replicate, stretch_one, many_same}
use Rattle.cell_runs.proofs.Pushing.{extends-along}
use Rattle.cell_runs.proofs.Taking.{bits_at}
use Rattle.run_joins.proofs.Running.{rest_run, is_cursor, same_bits}

module _ {C : Type 0} where
  pub moves : (rs : List (Run C)) (i k : Cursor) (r : Run C) (c : C) (old new : List (Run C)) → i.index < length rs → r ≡ get_or rs i.index r → IsCursor rs i → AllSome rs → c ≡ r.cell →
      Extends old new (record { bits = r.bits; cell = c } ∷ []) → rest rs k ≡ drop 1 (rest rs i) → IsCursor rs k → Moves rs i k old new r.bits
  moves rs i k r c old new h e q s f g d t =
      let u = is_cursor rs i.index i.used r h e q in
      let v = rest_run rs i 1 r h e (omega arith) in
      record {
        moved = element_of r;
        from = v ∙ ap (λ (l : List (Element C)). element_of r ∷ l) (sym d);
        into = extends-along old new _ _ (ap (λ (x : C). record { bits = r.bits; cell = x } ∷ []) f) g;
        bits = refl;
        some = bits_at rs i.index r h e s;
        still = t;
      }

module _ {C H : Type 0} (o : Ops C H) (merge : ℕ → C → C → C) where
  pub same_steps : (a b : List (Run C)) (i k j l : Cursor) (x y : Run C) (n : ℕ) (c : C) (old new : List (Run C)) →
      i.index < length a → x ≡ get_or a i.index x → j.index < length b → y ≡ get_or b j.index y → AllSome a → AllSome b → AreEven a i b j → SameBits (drop i.index a) (drop j.index b) →
      n ≡ min (x.count - i.used) (y.count - j.used) → c ≡ merge x.bits x.cell y.cell → Extends old new (replicate n (record { bits = x.bits; cell = c })) →
      rest a k ≡ drop n (rest a i) → IsCursor a k → rest b l ≡ drop n (rest b j) → IsCursor b l → Steps o merge a i k b j l old new
  same_steps a b i k j l x y n c old new h e g f s t v q m d w u p z r =
      let bits = same_bits a b i.index j.index x y h g e f q in
      let some = bits_at a i.index x h e s in
      let iu = is_cursor a i.index i.used x h e v.left in
      let ju = is_cursor b j.index j.used y g f v.right in
      let ra = rest_run a i n x h e (omega arith) ∙ ap (λ (s : List (Element C)). replicate n (element_of x) ++ s) (sym u) in
      let rb = rest_run b j n y g f (omega arith) ∙ ap (λ (s : List (Element C)). replicate n (element_of y) ++ s) (sym z) in
      let one : join_stretch o merge (element_of x ∷ []) (element_of y ∷ []) ≡ record { bits = x.bits; cell = c } ∷ [] =
      ap (λ (m : ℕ). join_stretch o merge (element_of x ∷ []) (record { bits = m; cell = y.cell } ∷ [])) (sym bits)
      ∙ stretch_one o merge x.bits x.cell y.cell some ∙ ap (λ (m : C). record { bits = x.bits; cell = m } ∷ []) (sym d) in
      let many = many_same o merge n (record { bits = x.bits; cell = c }) (element_of x) (join_stretch o merge (element_of x ∷ []) (element_of y ∷ [])) one in
      let go : joined_from o merge [] [] (rest a i) (rest b j) ≡ replicate n (record { bits = x.bits; cell = c }) ++ joined_from o merge [] [] (rest a k) (rest b l) =
      ap (λ (s : List (Element C)). joined_from o merge [] [] s (rest b j)) ra
      ∙ ap (λ (s : List (Element C)). joined_from o merge [] [] (replicate n (element_of x) ++ rest a k) s) rb
      ∙ join_run o merge n (element_of x) (element_of y) (rest a k) (rest b l) some bits
      ∙ ap (λ (s : List (Element C)). s ++ joined_from o merge [] [] (rest a k) (rest b l)) many in
      let wa = ap width ra ∙ width-append (replicate n (element_of x)) (rest a k) ∙ ap (λ (m : ℕ). m + width (rest a k)) (width-replicate n (element_of x)) in
      let wb = ap width rb ∙ width-append (replicate n (element_of y)) (rest b l) ∙ ap (λ (m : ℕ). m + width (rest b l)) (width-replicate n (element_of y)) in
      let same : n * x.bits ≡ n * y.bits = ap (λ (m : ℕ). n * m) bits in
      let even = v.even in
      let small = v.small in
      let la = ap length ra ∙ length-append (replicate n (element_of x)) (rest a k) ∙ ap (λ (m : ℕ). m + length (rest a k)) (length-replicate n (element_of x)) in
      record {
        more = replicate n (record { bits = x.bits; cell = c });
        extends = w;
        same = sym go;
        still = record { left = p; right = r; even = omega arith; small = omega arith };
        less = omega arith;
      }
