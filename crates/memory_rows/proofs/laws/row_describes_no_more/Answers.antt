use Rattle.memory_rows.specs.MemoryRows.{row_of}
use Rattle.memory_rows.proofs.Shapes.{row_of_maps}
use Rattle.memory_rows.proofs.Meaning.{is_exact}
use Rattle.memory_rows.proofs.laws.row_describes_no_more.Goals as goal

pub returns : goal.returns
returns c = λ shown ranges m i a h. is_exact shown m (row_of shown ranges m.0) i a (row_of_maps shown ranges m.0 h)
