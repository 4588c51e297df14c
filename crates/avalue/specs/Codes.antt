-- How proofs tell plain cells apart.
use Rattle.std.specs.Prelude.{ℕ, Bool, List, refl}
use Rattle.std.specs.Coded.{Coded, code_by, coded×, coded_ℕ, coded_bool, coded_list}
use Rattle.avalue_base.specs.Values.{AVal, Cellv}
use Rattle.avalue_base.specs.Hues.{Hue}
use Rattle.avalue_values.specs.Codes.{value_code}

abbrev pub cell_code : Coded Cellv
cell_code =
    code_by (AVal × (Bool × Bool)) (coded× value_code (coded× coded_bool coded_bool)) (λ c. (c.value, (c.uninit, c.dead))) (λ p. record { value = p.0; uninit = p.1.0; dead = p.1.1 }) (λ _. refl)

abbrev pub hue_code : Coded Hue
hue_code = code_by (List ℕ × (Bool × Bool)) (coded× (coded_list coded_ℕ) (coded× coded_bool coded_bool)) (λ h. (h.bases, (h.uninit, h.dead))) (λ p. record { bases = p.0; uninit = p.1.0; dead = p.1.1 }) (λ _. refl)
