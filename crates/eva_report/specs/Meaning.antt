-- What the rows of a report say of memories.
use Rattle.std.specs.Prelude.{ℕ, Bool, true, false, List, [], ◌∷◌, map}
use Rattle.c_memory.specs.Rows.{Part, Plain, Address as AddressPart, Mix as MixPart, Entry}
use Rattle.eva_report.specs.Report.{ReportBase, ReportPart, Number, Address, Mix, Uninit, Dead, ReportEntry}

-- the values among the parts
abbrev pub values_of : List ReportPart → List Part
values_of [] = []
values_of (Number ns ∷ parts) = Plain ns ∷ values_of parts
values_of (Address base offsets ∷ parts) = AddressPart base.id offsets ∷ values_of parts
values_of (Mix bases ∷ parts) = MixPart (map (λ base. base.id) bases) ∷ values_of parts
values_of (Uninit ∷ parts) = values_of parts
values_of (Dead ∷ parts) = values_of parts

abbrev pub has_uninit : List ReportPart → Bool
has_uninit [] = false
has_uninit (Uninit ∷ parts) = true
has_uninit (part ∷ parts) = has_uninit parts

abbrev pub has_dead : List ReportPart → Bool
has_dead [] = false
has_dead (Dead ∷ parts) = true
has_dead (part ∷ parts) = has_dead parts

abbrev pub meaning_of : ReportEntry → Entry
meaning_of e = record {
  base = e.base.id;
  low = e.low;
  high = e.high;
  size = e.size;
  cell = record { parts = values_of e.parts; uninit = has_uninit e.parts; dead = has_dead e.parts };
}

-- the bases of a part by which it is printed
abbrev pub bases_of : ReportPart → List ReportBase
bases_of (Number ns) = []
bases_of (Address base offsets) = base ∷ []
bases_of (Mix bases) = bases
bases_of Uninit = []
bases_of Dead = []
