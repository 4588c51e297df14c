use Rattle.machine_places.proofs.laws.always_lives_in_scopes.Goals as goal

pub returns : goal.returns
returns c = λ p valid ranked l s r base. c.lives_in_scopes.ensures p valid l s r (c.enters_once.ensures p ranked l s r) base
