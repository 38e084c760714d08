use Rattle.std.proofs.Common.{◌<◌, ◌^◌, sym, subst, ◌∙◌, arith}
use Rattle.json.specs.Print.{IsNumber}
use Rattle.json_objects.proofs.Fractions.{IsNumber-seconds}
use Rattle.json_objects.proofs.seconds.write_seconds.Goals as goal

pub number-requires : goal.number-requires
number-requires c =
    let small : c.args.microseconds < 2 ^ 64 = omega arith in
    subst IsNumber (sym (c.as_str.ensures.value ∙ c.in_ok-text.ensures)) (IsNumber-seconds c.args.microseconds small)
