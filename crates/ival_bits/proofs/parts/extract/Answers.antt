use Rattle.std.proofs.Common.{◌≡◌}
use Rattle.ival_bits.specs.Parts.{extracted}
use Rattle.ival_bits.proofs.parts.extract.Goals as goal
use Rattle.ival_bits.proofs.PartCodes.{extracted_from}
use Rattle.ival_bits.proofs.PartSets.{extract_holds, extract_single}

-- src/parts.rt:68:1
pub returns-clause-value : goal.returns-clause-value
returns-clause-value c = let e : c.residues.result.shape ≡ extracted c.args.low c.args.bits c.args.a.now.shape = extracted_from c.args.low c.args.bits c.power-2.result c.power.result c.args.a.now.shape c.floored.result.shape c.residues.result.shape c.power.ensures.value c.power-2.ensures.value c.floored.ensures c.residues.ensures in e

-- src/parts.rt:68:1
pub returns-clause-holds : goal.returns-clause-holds
returns-clause-holds c = let e : c.residues.result.shape ≡ extracted c.args.low c.args.bits c.args.a.now.shape = extracted_from c.args.low c.args.bits c.power-2.result c.power.result c.args.a.now.shape c.floored.result.shape c.residues.result.shape c.power.ensures.value c.power-2.ensures.value c.floored.ensures c.residues.ensures in extract_holds c.args.low c.args.bits c.args.a.now c.residues.result c.requires e

-- src/parts.rt:68:1
pub returns-clause-single : goal.returns-clause-single
returns-clause-single c = let e : c.residues.result.shape ≡ extracted c.args.low c.args.bits c.args.a.now.shape = extracted_from c.args.low c.args.bits c.power-2.result c.power.result c.args.a.now.shape c.floored.result.shape c.residues.result.shape c.power.ensures.value c.power-2.ensures.value c.floored.ensures c.residues.ensures in extract_single c.args.low c.args.bits c.args.a.now c.residues.result c.requires e
