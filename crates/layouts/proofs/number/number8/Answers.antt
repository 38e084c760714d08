use Rattle.std.proofs.Common.{◌≡◌, Ok, sym, ◌∙◌, rules, arith}
use Rattle.layouts.specs.Bytes.{number_of}
use Rattle.layouts.specs.Layout.{number}
use Rattle.layouts.specs.Reading.{reading}
use Rattle.layouts.proofs.NumberLemmas.{number_of_8}
use Rattle.layouts.proofs.OneAnswerLemmas.{number_read, read_allowed}
use Rattle.layouts.proofs.number.number8.Goals as goal

pub returns : goal.returns
returns c =
    let value : number_of c.split_at.result.0.now ≡ c.from_be_bytes-n.result =
    number_of_8 c.split_at.result.0.now c.split_at.ensures.front_len
    ∙ sym c.from_be_bytes-n.ensures in
    let read : reading (number 8) c.args.i.now ≡ Ok
    (c.from_be_bytes-n.result, c.split_at.result.1.now) =
    number_read 8 c.args.i.now _ _ _ (omega arith) c.split_at.ensures.front
    c.split_at.ensures.back value in
    search (rules, read_allowed, read)
