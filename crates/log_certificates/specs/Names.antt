-- The names of broken rules.
use Rattle.std.specs.Prelude.{ℕ, List, codes}
use Rattle.layouts.specs.declared.result.ErrorKind.{ErrorKind}
use Rattle.layouts.specs.declared.result.ErrorKind.TheVariants as kind

abbrev pub error_text : ErrorKind → List ℕ
error_text kind.TooLarge = codes "too_large"
error_text kind.LengthValue = codes "length_value"
error_text kind.Verify = codes "verify"
error_text kind.Switch = codes "switch"
error_text kind.Tag = codes "tag"
error_text kind.Complete = codes "complete"
