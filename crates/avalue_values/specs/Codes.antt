-- How proofs tell plain values apart.
use Rattle.std.specs.Prelude.{◌≡◌, ◌⊎◌, ℕ, List, refl}
use Rattle.std.proofs.Common.{inl, inr}
use Rattle.std.specs.Coded.{Coded, code_by, coded×, coded⊎, coded_ℕ, coded_list}
use Rattle.ival_core.specs.declared.value.Ival.{Ival}
use Rattle.ival_core.specs.contracts.value.Ival as ival
use Rattle.avalue_base.specs.Values.{Address, AVal, Separate, Mixed}
use Rattle.avalue_parts.specs.Codes.{address_code}

abbrev split : AVal → (Ival × List Address) ⊎ List ℕ
split (Separate numbers addresses) = inl (numbers, addresses)
split (Mixed bases) = inr bases

abbrev join : (Ival × List Address) ⊎ List ℕ → AVal
join (inl p) = Separate p.0 p.1
join (inr bases) = Mixed bases

pub join-split : (v : AVal) → join (split v) ≡ v
join-split (Separate numbers addresses) = refl
join-split (Mixed bases) = refl

abbrev pub value_code : Coded AVal
value_code = code_by ((Ival × List Address) ⊎ List ℕ) (coded⊎ (coded× ival.the_row.coded (coded_list address_code)) (coded_list coded_ℕ)) split join join-split
