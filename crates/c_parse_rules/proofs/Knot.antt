-- The parsers of each depth are sound and reach each tree that nests no deeper.
use Rattle.std.proofs.Common.{ℕ, zero, suc}
use Rattle.c_tree.specs.WellFormed.{ForType}
use Rattle.c_parse_rules.proofs.Laws.{ExprsSound, ExprsReached}
use Rattle.c_parse_rules.specs.Parsers.{expr_at, typing_at, specifier_at, declarator_at}
use Rattle.c_parse_rules.proofs.exprs.ExprReached.{expr_reached}
use Rattle.c_parse_rules.proofs.exprs.ExprSound.{expr_sound}
use Rattle.c_parse_rules.proofs.exprs.Readers.{nothing_sound, nothing_reached}
use Rattle.c_parse_rules.proofs.types.Begins.{types_begin}
use Rattle.c_parse_rules.proofs.types.Step.{TypeLaws, none_laws, next_laws, types_sound, types_reached}

pub record Laws (depth : ℕ) : Type 0 where
  pub sound : ExprsSound depth (expr_at depth)
  pub reached : ExprsReached depth (expr_at depth)
  pub types : TypeLaws depth (typing_at depth) (specifier_at depth) (declarator_at depth)

pub laws : (depth : ℕ) → Laws depth
laws zero = record { sound = nothing_sound; reached = nothing_reached; types = none_laws }
laws (suc depth) =
    let below = laws depth in
    let types = below.types in
    let sound = types_sound depth (typing_at depth) types.typings_sound in
    let reached = types_reached depth (typing_at depth) types.typings_reached in
    record {
      sound = expr_sound depth (expr_at depth) (typing_at depth ForType) below.sound sound;
      reached = expr_reached depth (expr_at depth) (typing_at depth ForType) below.sound below.reached sound reached types_begin;
      types = next_laws depth below.sound below.reached types;
    }
