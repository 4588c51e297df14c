-- What is known of expressions, as the definition has it.
use Rattle.c_checking.specs.Constants as constants
use Rattle.c_constants.specs.declared.known.Known.{Known}
use Rattle.c_constants.specs.declared.known.Known.TheVariants as code
use Rattle.stepper_values.specs.Views.{number_of}

abbrev pub known_of : Known → constants.Known
known_of code.Varying = constants.Varying
known_of (code.Constant n) = constants.Constant (number_of n)
known_of code.Undefined = constants.Undefined
