use Rattle.std.proofs.Common.{arith}
use Rattle.std.proofs.Math.Nat.{div-le_self}
use Rattle.ival_arith.proofs.TableCodes.{type_extent}
use Rattle.ival_arith.proofs.arithmetic.part_spread.Goals as goal

pub spread-requires : goal.spread-requires
spread-requires c = let o = c.args.format in let e = type_extent o.signed o.width c.args.a.now o.some o.room c.requires.left in let f = c.extent.ensures in let d = div-le_self c.extent.result c.least_factor.result in omega arith

pub spread-requires-in-Remainder : goal.spread-requires-in-Remainder
spread-requires-in-Remainder c = let o = c.args.format in let e = type_extent o.signed o.width c.args.a.now o.some o.room c.requires.left in let f = c.extent-in-Remainder-2.ensures in let g = c.min.ensures in omega arith
