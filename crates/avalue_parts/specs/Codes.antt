-- How proofs tell plain addresses apart.
use Rattle.std.specs.Prelude.{ℕ, refl}
use Rattle.std.specs.Coded.{Coded, code_by, coded×, coded_ℕ}
use Rattle.ival_core.specs.declared.value.Ival.{Ival}
use Rattle.ival_core.specs.contracts.value.Ival as ival
use Rattle.avalue_base.specs.Values.{Address}

abbrev pub address_code : Coded Address
address_code =
    code_by (ℕ × Ival) (coded× coded_ℕ ival.the_row.coded) (λ a. (a.base, a.offsets)) (λ p. record { base = p.0; offsets = p.1 }) (λ _. refl)
