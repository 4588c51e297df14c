use Rattle.std.proofs.Common.{◌-◌, length}
use Rattle.c_lex.proofs.Contents.{ReadsContents}
use Rattle.c_lex.proofs.text.read_contents.Given as goal

abbrev pub invariant-reading : goal.invariant-reading
invariant-reading l = ReadsContents l.text l.bytes.items l.next

abbrev pub decreases-reading : goal.decreases-reading
decreases-reading l = length l.text - l.next
