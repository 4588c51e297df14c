use Rattle.c_lex.proofs.Lawful.{names_are, numbers_are, line_comments_are, skipped_lines_are, block_comments_are, constants_are}
use Rattle.c_lex.proofs.laws.laws_of_pieces.Goals as goal

pub returns-clause-names : goal.returns-clause-names
returns-clause-names c = names_are

pub returns-clause-numbers : goal.returns-clause-numbers
returns-clause-numbers c = numbers_are

pub returns-clause-line_comments : goal.returns-clause-line_comments
returns-clause-line_comments c = line_comments_are

pub returns-clause-skipped_lines : goal.returns-clause-skipped_lines
returns-clause-skipped_lines c = skipped_lines_are

pub returns-clause-block_comments : goal.returns-clause-block_comments
returns-clause-block_comments c = block_comments_are

pub returns-clause-constants : goal.returns-clause-constants
returns-clause-constants c = constants_are
