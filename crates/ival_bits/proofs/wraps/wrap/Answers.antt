use Rattle.std.proofs.Common.{rules, ◌≡◌, ◌^◌}
use Rattle.ival_bits.specs.Wraps.{resigned, wrapped}
use Rattle.ival_bits.proofs.wraps.wrap.Goals as goal
use Rattle.std.proofs.Common.{ap, ◌∙◌, ◌^◌}
use Rattle.ival_arith.specs.Values.{residues}
use Rattle.ival_bits.proofs.WrapSets.{wrapped_few, wrapped_run, wrap_holds, wrap_single}

-- src/wraps.rt:106:1
pub returns-in-Few-clause-value : goal.returns-in-Few-clause-value
returns-in-Few-clause-value c = let r : c.resigned.result.shape ≡ resigned c.args.signed c.args.bits (residues (2 ^ c.args.bits) c.args.a.now.shape) = c.resigned.ensures ∙ ap (resigned c.args.signed c.args.bits) (c.residues.ensures ∙ ap (λ k. residues k c.args.a.now.shape) c.power.ensures.value) in let e : c.resigned.result.shape ≡ wrapped c.args.signed c.args.bits c.args.a.now.shape = wrapped_few c.args.signed c.args.bits c.args.a.now.shape c.shape.result.now c.resigned.result.shape _ (search rules) c.in-Few.is r in e

-- src/wraps.rt:106:1
pub returns-in-Few-clause-holds : goal.returns-in-Few-clause-holds
returns-in-Few-clause-holds c = let r : c.resigned.result.shape ≡ resigned c.args.signed c.args.bits (residues (2 ^ c.args.bits) c.args.a.now.shape) = c.resigned.ensures ∙ ap (resigned c.args.signed c.args.bits) (c.residues.ensures ∙ ap (λ k. residues k c.args.a.now.shape) c.power.ensures.value) in let e : c.resigned.result.shape ≡ wrapped c.args.signed c.args.bits c.args.a.now.shape = wrapped_few c.args.signed c.args.bits c.args.a.now.shape c.shape.result.now c.resigned.result.shape _ (search rules) c.in-Few.is r in wrap_holds c.args.signed c.args.bits c.args.a.now c.resigned.result (record { some = c.requires.0; room = c.requires.1 }) e

-- src/wraps.rt:106:1
pub returns-in-Few-clause-single : goal.returns-in-Few-clause-single
returns-in-Few-clause-single c = let r : c.resigned.result.shape ≡ resigned c.args.signed c.args.bits (residues (2 ^ c.args.bits) c.args.a.now.shape) = c.resigned.ensures ∙ ap (resigned c.args.signed c.args.bits) (c.residues.ensures ∙ ap (λ k. residues k c.args.a.now.shape) c.power.ensures.value) in let e : c.resigned.result.shape ≡ wrapped c.args.signed c.args.bits c.args.a.now.shape = wrapped_few c.args.signed c.args.bits c.args.a.now.shape c.shape.result.now c.resigned.result.shape _ (search rules) c.in-Few.is r in wrap_single c.args.signed c.args.bits c.args.a.now c.resigned.result (record { some = c.requires.0; room = c.requires.1 }) e

-- src/wraps.rt:106:1
pub returns-in-Many-clause-value : goal.returns-in-Many-clause-value
returns-in-Many-clause-value c = let e : c.run_wrapped.result.shape ≡ wrapped c.args.signed c.args.bits c.args.a.now.shape = wrapped_run c.args.signed c.args.bits c.args.a.now.shape c.shape.result.now c.run_wrapped.result.shape _ (search rules) c.in-Many.is c.run_wrapped.ensures in e

-- src/wraps.rt:106:1
pub returns-in-Many-clause-holds : goal.returns-in-Many-clause-holds
returns-in-Many-clause-holds c = let e : c.run_wrapped.result.shape ≡ wrapped c.args.signed c.args.bits c.args.a.now.shape = wrapped_run c.args.signed c.args.bits c.args.a.now.shape c.shape.result.now c.run_wrapped.result.shape _ (search rules) c.in-Many.is c.run_wrapped.ensures in wrap_holds c.args.signed c.args.bits c.args.a.now c.run_wrapped.result (record { some = c.requires.0; room = c.requires.1 }) e

-- src/wraps.rt:106:1
pub returns-in-Many-clause-single : goal.returns-in-Many-clause-single
returns-in-Many-clause-single c = let e : c.run_wrapped.result.shape ≡ wrapped c.args.signed c.args.bits c.args.a.now.shape = wrapped_run c.args.signed c.args.bits c.args.a.now.shape c.shape.result.now c.run_wrapped.result.shape _ (search rules) c.in-Many.is c.run_wrapped.ensures in wrap_single c.args.signed c.args.bits c.args.a.now c.run_wrapped.result (record { some = c.requires.0; room = c.requires.1 }) e
