use Rattle.std.proofs.Common.{◌≡◌, Ok, sym, ◌∙◌, rules}
use Rattle.layouts.specs.Bytes.{number_of}
use Rattle.layouts.specs.Layout.{number}
use Rattle.layouts.specs.Reading.{reading}
use Rattle.layouts.proofs.OneAnswerLemmas.{number_read, read_allowed}
use Rattle.ssl2_hello.proofs.NumberLemmas.{number_of_3}
use Rattle.ssl2_hello.proofs.cipher_spec.CipherSpecNumber.read_present.Goals as goal

pub returns-clause-read : goal.returns-clause-read
returns-clause-read c =
    let value : number_of c.split_at.result.0.now ≡ c.from_be_bytes.result =
    number_of_3 c.split_at.result.0.now c.split_at.ensures.front_len
    ∙ sym c.from_be_bytes.ensures in
    let read : reading (number 3) c.args.i.now ≡ Ok
    (c.from_be_bytes.result, c.split_at.result.1.now) =
    number_read 3 c.args.i.now _ _ _ c.requires c.split_at.ensures.front
    c.split_at.ensures.back value in
    search (rules, read_allowed, read)
